use Rattle.serde_json.specs.Written.{compact_text}
use Rattle.adm_view.specs.Children.{child_entry}
use Rattle.adm_view.specs.Register.{register_data}
use Rattle.adm_http.proofs.ShowLemmas.{always_shown, entry_shown}
use Rattle.adm_http.proofs.routes.show.Goals as goal

pub returns-in-WholeRegister : goal.returns-in-WholeRegister
returns-in-WholeRegister c =
    rw c.in-WholeRegister.is (always_shown (compact_text (register_data c.args.register.now)) c.register_text.result c.given_always.result c.register_text.ensures.text c.given_always.ensures)

pub returns-in-ChildEntry : goal.returns-in-ChildEntry
returns-in-ChildEntry c =
    rw c.in-ChildEntry.is (entry_shown (child_entry c.args.register.now c.in-ChildEntry.child) c.child_entry_text.result c.given_if_any.result c.child_entry_text.ensures.text c.given_if_any.ensures)
