use Rattle.adm_fairness.proofs.Waiters.{lists_know_no_order_law}
use Rattle.adm_fairness.proofs.code.lists_know_no_order.Goals as goal

pub returns : goal.returns
returns c = lists_know_no_order_law
