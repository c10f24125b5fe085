use Rattle.std.proofs.Common.{arith}
use Rattle.serde_json.specs.View.{view}
use Rattle.adm_view.specs.Children.{child_data}
use Rattle.adm_view.proofs.Plain.{plain_child}
use Rattle.adm_view.proofs.Given.{text_given, reads_back}
use Rattle.adm_view.proofs.entries.known_child_text.Goals as goal

pub returns-clause-text : goal.returns-clause-text
returns-clause-text c =
    text_given c.to_string.result (view c.in_ok-one_child.field-0) (child_data c.args.register.now c.args.child.now) 4 c.in_ok-one_child.ensures
    (plain_child 0 c.args.register.now c.args.child.now) c.to_string.ensures.text

pub returns-clause-reads_back : goal.returns-clause-reads_back
returns-clause-reads_back c =
    reads_back c.to_string.result (view c.in_ok-one_child.field-0) (child_data c.args.register.now c.args.child.now) 4 c.in_ok-one_child.ensures
    (plain_child 0 c.args.register.now c.args.child.now) (omega arith) c.to_string.ensures.reads_back
