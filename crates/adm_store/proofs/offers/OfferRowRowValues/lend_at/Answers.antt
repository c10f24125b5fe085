use Rattle.std.proofs.Common.{◌+◌, arith}
use Rattle.adm_store.proofs.DrawWrites.{bound_school}
use Rattle.adm_store.proofs.LentLemmas.{four_after, as_many}
use Rattle.adm_store.proofs.WriteLemmas.{truth_is}
use Rattle.adm_store.proofs.offers.OfferRowRowValues.lend_at.Goals as goal

pub returns-clause-lent : goal.returns-clause-lent
returns-clause-lent c =
    let at = c.args.at in
    four_after _ _ _ _ _ _ _ _ _ (rw (c.to_sql.ensures) at c.set_value.ensures.set)
    (as_many ((at + 1) + 1) (at + 2) c.set_value-2.new.parameters _ (omega arith) (rw (c.to_sql-2.ensures, c.get.ensures.value) at c.set_value-2.ensures.set))
    (as_many ((at + 2) + 1) (at + 3) c.set_value-3.new.parameters _ (omega arith)
    (rw (c.to_sql-3.ensures, c.code_in.ensures, bound_school c.args.self.now.outcome.school) at c.set_value-3.ensures.set))
    (as_many ((at + 3) + 1) (at + 4) c.set_value-4.new.parameters _ (omega arith) (rw (c.to_sql-4.ensures, truth_is c.args.self.now.outcome.fresh) at c.set_value-4.ensures.set))
