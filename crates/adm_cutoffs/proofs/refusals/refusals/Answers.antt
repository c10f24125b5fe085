use Rattle.std.proofs.Common.{◌∙◌, ◌<◌, ap, sym, arith, length, ◌++◌, ◌∷◌, []}
use Rattle.adm_lists.proofs.Walks.{next_added, next_left_out}
use Rattle.adm_cutoffs.specs.Lookups.{refusal_in}
use Rattle.adm_cutoffs.proofs.refusals.refusals.Goals as goal
use Rattle.adm_cutoffs.proofs.refusals.refusals.Goals.{in-Some+in_ok-push, in_default}

pub loop-index-preserved : goal.loop-index-preserved
loop-index-preserved c =
    let form = refusal_in c.args.register.now c.args.by_child.now c.args.keys.now in
    let lots = c.args.lots.now in
    let lot = c.index-lots-index.result in
    let index = c.loop-index.index in
    let within : index < length lots = omega (arith, c.loop-index-test.true) in
    elim c.match-refusal.branch [
      | in-Some+in_ok-push w ↦
          ap (λ found. found.items) w.refusals-is ∙ w.in_ok-push.ensures.items ∙ ap (λ found. found ++ w.in-Some.refusal ∷ []) c.loop-index.invariant
          ∙ sym (next_added form lots index lot w.in-Some.refusal c.index-lots-index.is within (sym c.refusal_by_lot-refusal.ensures ∙ w.in-Some.is))
      | in_default w ↦
          ap (λ found. found.items) w.refusals-is ∙ c.loop-index.invariant
          ∙ sym (next_left_out form lots index lot c.index-lots-index.is within (sym c.refusal_by_lot-refusal.ensures ∙ w.in_default.is))
    ]
