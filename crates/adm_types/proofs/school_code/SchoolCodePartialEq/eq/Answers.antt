use Rattle.std.proofs.Common.{◌∙◌, nat_eq}
use Rattle.adm_types.proofs.CodeNumbers.{codes_tie}
use Rattle.adm_types.proofs.school_code.SchoolCodePartialEq.eq.Goals as goal

pub returns : goal.returns
returns c = (λ i. nat_eq (c.number.ensures.value i) (c.number-2.ensures.value i)) ∙ codes_tie c.args.self.now c.args.other.now c.number.ensures.code c.number-2.ensures.code
