use Rattle.std.proofs.Common.{sym, ap, ◌∙◌}
use Rattle.std.proofs.lemmas.List.{take_all}
use Rattle.adm_types.specs.Joined.{all_some}
use Rattle.adm_types.proofs.JoinedLemmas.{all_some_of, all_some_none}
use Rattle.adm_rows.proofs.lists.all_some.Goals as goal

pub returns-in-None : goal.returns-in-None
returns-in-None g c = sym (all_some_none c.args.items.now c.items.item-index c.item-item.result c.items-test.true c.item-item.is c.in-None.is)

pub returns : goal.returns
returns g c = sym (all_some_of c.items.all.items) ∙ ap all_some (c.items.invariant ∙ take_all c.items.item-index c.args.items.now c.items-test.false)
