use Rattle.std.proofs.Common.{rules}
use Rattle.std.proofs.lemmas.List.Sorted.{answers_always}
use Rattle.adm_match.proofs.directory.in_order.Goals as goal

pub returns-clause-sorted : goal.returns-clause-sorted
returns-clause-sorted g c = c.sort_unstable_by_key.ensures.sorted (λ pair. pair.0) (answers_always _ _ _ (λ f a r f' called. search rules))
