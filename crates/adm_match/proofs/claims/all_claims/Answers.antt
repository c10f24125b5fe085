use Rattle.std.proofs.Common.{List, ◌++◌, ◌∙◌, ap}
use Rattle.adm_match.specs.declared.problem.Wish.{Wish}
use Rattle.adm_match.specs.Claims.{asked}
use Rattle.adm_match.proofs.Asking.{claims_more}
use Rattle.adm_match.proofs.claims.all_claims.Goals as goal

pub loop-index-preserved : goal.loop-index-preserved
loop-index-preserved c =
    let e = c.index-entrants-index.result in
    claims_more c.args.entrants.now c.loop-index.index e c.loop-index.claims.items c.add_claims.new.claims.items c.loop-index-test.true c.index-entrants-index.is c.loop-index.invariant
    (c.in_ok-add_claims.ensures ∙ ap (λ (list : List Wish). c.loop-index.claims.items ++ asked e list) (c.deref.ensures.value ∙ ap (λ x. x.list) c.entrant.view_is))
