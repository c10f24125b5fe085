use Rattle.std.proofs.Common.{rules}
use Rattle.std.proofs.lemmas.List.Sorted.{answers_always}
use Rattle.adm_match.specs.declared.progress.Progress.{Progress}
use Rattle.adm_match.proofs.Offered.{found_sorted}
use Rattle.adm_match.proofs.allotment.in_order.Goals as goal

pub returns-clause-sorted : goal.returns-clause-sorted
returns-clause-sorted c = c.in_ok-sort_by_key.ensures.sorted (λ (row : Progress). row.child) (answers_always _ _ _ (λ f a r f' called. search rules))

pub returns-clause-found : goal.returns-clause-found
returns-clause-found c =
    found_sorted c.args.rows.items c.sort_by_key.new.self.items
    (c.sort_by_key.ensures.stable (λ (row : Progress). row.child) (answers_always _ _ _ (λ f a r f' called. search rules)))
