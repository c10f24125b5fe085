use Rattle.std.proofs.Common.{◌∙◌, sym, ap}
use Rattle.adm_round.specs.Lookups.{children_for}
use Rattle.adm_round.proofs.Wants.{wanting_more, wanting_same}
use Rattle.adm_round.proofs.wanting.add_applicant.Goals as goal
use Rattle.adm_round.proofs.wanting.add_applicant.Goals.{then-not-is_listed+in_ok-add_child, else-not-is_listed}

pub loop-index-preserved : goal.loop-index-preserved
loop-index-preserved c = λ code. elim c.if-not-is_listed.branch [
  | then-not-is_listed+in_ok-add_child w ↦
      ap (λ m. children_for m code) w.wanting-is
      ∙ wanting_more c.args.wanting.now c.loop-index.wanting w.add_child.new.wanting c.as_slice-schools.result.now c.loop-index.index c.index-schools-index.result c.as_ref.result.now.no
      c.loop-index-test.true c.index-schools-index.is (sym c.is_listed.ensures ∙ w.if-not-is_listed.true) c.loop-index.invariant w.in_ok-add_child.ensures code
  | else-not-is_listed w ↦
      ap (λ m. children_for m code) w.wanting-is
      ∙ wanting_same c.args.wanting.now c.loop-index.wanting c.as_slice-schools.result.now c.loop-index.index c.index-schools-index.result c.as_ref.result.now.no
      c.loop-index-test.true c.index-schools-index.is (sym c.is_listed.ensures ∙ w.if-not-is_listed.false) c.loop-index.invariant code
]
