use Rattle.std.proofs.Common.{◌∙◌, sym}
use Rattle.adm_match.specs.Market.{first_fault, market_of}
use Rattle.adm_match.proofs.problem.Problem.new.Goals as goal

pub posed-requires : goal.posed-requires
posed-requires c =
    (λ i. first_fault (market_of (sym c.deref.ensures.value i) (sym c.deref-2.ensures.value i))) ∙ (sym c.in_ok-fault.ensures ∙ c.in_default.is)
