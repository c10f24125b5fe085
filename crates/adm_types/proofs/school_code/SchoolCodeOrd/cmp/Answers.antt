use Rattle.std.proofs.Common.{◌∙◌}
use Rattle.std.specs.Ordering.{nat_cmp}
use Rattle.adm_types.proofs.CodeNumbers.{codes_lie}
use Rattle.adm_types.proofs.school_code.SchoolCodeOrd.cmp.Goals as goal

pub returns : goal.returns
returns c = c.cmp.ensures ∙ (λ i. nat_cmp (c.number.ensures.value i) (c.number-2.ensures.value i)) ∙ codes_lie c.args.self.now c.args.other.now c.number.ensures.code c.number-2.ensures.code
