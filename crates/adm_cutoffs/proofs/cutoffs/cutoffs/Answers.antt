use Rattle.std.proofs.Common.{◌∙◌, ◌<◌, ap, sym, arith, length, ◌++◌, ◌∷◌, []}
use Rattle.adm_lists.proofs.Walks.{next_added, next_left_out}
use Rattle.adm_types.specs.declared.rows.School.{School}
use Rattle.adm_cutoffs.specs.Lookups.{cutoff_in}
use Rattle.adm_cutoffs.proofs.cutoffs.cutoffs.Goals as goal
use Rattle.adm_cutoffs.proofs.cutoffs.cutoffs.Goals.{in-Some+in_ok-push, in_default}

pub loop-index-preserved : goal.loop-index-preserved
loop-index-preserved c =
    let form = λ (school : School). cutoff_in c.args.keys.now school.code in
    let schools = c.args.schools.now in
    let school = c.index-schools-index.result in
    let index = c.loop-index.index in
    let within : index < length schools = omega (arith, c.loop-index-test.true) in
    let made = ap form (sym c.as_ref.ensures) ∙ sym c.cutoff_in-cutoff.ensures in
    elim c.match-cutoff.branch [
      | in-Some+in_ok-push w ↦
          ap (λ found. found.items) w.cutoffs-is ∙ w.in_ok-push.ensures.items ∙ ap (λ found. found ++ w.in-Some.cutoff ∷ []) c.loop-index.invariant
          ∙ sym (next_added form schools index school w.in-Some.cutoff c.index-schools-index.is within (made ∙ w.in-Some.is))
      | in_default w ↦
          ap (λ found. found.items) w.cutoffs-is ∙ c.loop-index.invariant
          ∙ sym (next_left_out form schools index school c.index-schools-index.is within (made ∙ w.in_default.is))
    ]
