use Rattle.std.proofs.Common.{◌∙◌, ap, sym, ◌++◌, ◌∷◌, []}
use Rattle.adm_lists.proofs.Walks.{next_added, next_left_out}
use Rattle.adm_register.specs.Waits.{waiting_child}
use Rattle.adm_register.proofs.tables.Tables.waiting_of.Goals as goal
use Rattle.adm_register.proofs.tables.Tables.waiting_of.Goals.{in-Some+in_ok-push, in_default}

pub loop-index-preserved : goal.loop-index-preserved
loop-index-preserved c =
    let application = c.index-applications-index.result in
    let gives = c.in_ok-child.ensures ∙ ap (waiting_child c.args.self.now c.args.school) c.as_ref-application.ensures in
    elim c.match-branch-2.branch [
      | in-Some+in_ok-push w ↦
          ap (λ found. found.items) w.found-is ∙ w.in_ok-push.ensures.items ∙ ap (λ xs. xs ++ w.in-Some.child ∷ []) c.loop-index.invariant
          ∙ sym (next_added (waiting_child c.args.self.now c.args.school) c.args.applications.now c.loop-index.index application w.in-Some.child
          c.index-applications-index.is c.loop-index-test.true (sym gives ∙ w.in-Some.is))
      | in_default w ↦
          ap (λ found. found.items) w.found-is ∙ c.loop-index.invariant
          ∙ sym (next_left_out (waiting_child c.args.self.now c.args.school) c.args.applications.now c.loop-index.index application c.index-applications-index.is
          c.loop-index-test.true (sym gives ∙ w.in_default.is))
    ]
