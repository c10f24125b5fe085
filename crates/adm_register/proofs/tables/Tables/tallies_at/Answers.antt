use Rattle.std.proofs.Common.{◌∙◌, ◌<◌, ap, sym, arith, length, ◌++◌, ◌∷◌, []}
use Rattle.adm_lists.proofs.Walks.{next_added, next_left_out}
use Rattle.adm_register.specs.Tallies.{tally_at}
use Rattle.adm_register.proofs.tables.Tables.tallies_at.Goals as goal
use Rattle.adm_register.proofs.tables.Tables.tallies_at.Goals.{in-Some+in_ok-push, in_default}

pub loop-index-preserved : goal.loop-index-preserved
loop-index-preserved c =
    let tallied = tally_at c.args.self.now c.args.child in
    let schools = c.args.schools.now in
    let school = c.index-schools-index.result in
    let index = c.loop-index.index in
    let within : index < length schools = omega (arith, c.loop-index-test.true) in
    elim c.match-tally.branch [
      | in-Some+in_ok-push w ↦
          ap (λ found. found.items) w.tallies-is ∙ w.in_ok-push.ensures.items ∙ ap (λ found. found ++ w.in-Some.tally ∷ []) c.loop-index.invariant
          ∙ sym (next_added tallied schools index school w.in-Some.tally c.index-schools-index.is within (sym c.in_ok-tally.ensures ∙ w.in-Some.is))
      | in_default w ↦
          ap (λ found. found.items) w.tallies-is ∙ c.loop-index.invariant
          ∙ sym (next_left_out tallied schools index school c.index-schools-index.is within (sym c.in_ok-tally.ensures ∙ w.in_default.is))
    ]
