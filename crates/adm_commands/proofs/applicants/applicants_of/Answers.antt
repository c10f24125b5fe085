use Rattle.std.proofs.Common.{◌∙◌, ap, sym, ◌++◌, ◌∷◌, []}
use Rattle.adm_lists.proofs.Walks.{next_added, next_left_out}
use Rattle.adm_commands.specs.Commands.Round.{applicant_of}
use Rattle.adm_commands.proofs.applicants.applicants_of.Goals as goal
use Rattle.adm_commands.proofs.applicants.applicants_of.Goals.{in-Some+in_ok-push, in_default}

pub loop-index-preserved : goal.loop-index-preserved
loop-index-preserved c =
    let application = c.index-applications-index.result in
    let gives = c.in_ok-applicant.ensures ∙ ap (applicant_of c.args.old.now) c.as_ref-application.ensures in
    elim c.match-branch-2.branch [
      | in-Some+in_ok-push w ↦
          ap (λ found. found.items) w.found-is ∙ w.in_ok-push.ensures.items ∙ ap (λ xs. xs ++ w.in-Some.applicant ∷ []) c.loop-index.invariant
          ∙ sym (next_added (applicant_of c.args.old.now) c.args.applications.now c.loop-index.index application w.in-Some.applicant c.index-applications-index.is
          c.loop-index-test.true (sym gives ∙ w.in-Some.is))
      | in_default w ↦
          ap (λ found. found.items) w.found-is ∙ c.loop-index.invariant
          ∙ sym (next_left_out (applicant_of c.args.old.now) c.args.applications.now c.loop-index.index application c.index-applications-index.is c.loop-index-test.true (sym gives ∙ w.in_default.is))
    ]
