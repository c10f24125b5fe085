use Rattle.std.proofs.Common.{◌≡◌, ◌++◌, [], ◌∷◌, take, cond}
use Rattle.adm_types.specs.Limits.{is_listed}
use Rattle.adm_match.specs.Market.{Code}
use Rattle.adm_round.specs.Lookups.{children_for}
use Rattle.adm_round.proofs.wanting.add_applicant.Given as goal

abbrev pub invariant-loop-index : goal.invariant-loop-index
invariant-loop-index l =
    (code : Code) → children_for l.wanting code ≡ children_for l.initial.wanting code ++ cond (is_listed (take l.index l.schools) code) (l.child ∷ []) []
