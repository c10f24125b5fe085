use Rattle.std.proofs.Common.{◌∙◌, ◌≡◌, ◌+◌, ap, sym, subst, refl, [], ◌∷◌, ◌++◌, arith, length-append}
use Rattle.std.proofs.lemmas.List.{append_assoc, nil_from_length}
use Rattle.adm_lists.proofs.Each.{each_push}
use Rattle.adm_commands.specs.KeptByTypes.{KeptByImportRow}
use Rattle.adm_commands.proofs.ImportWalked.{IsWalked, IsWalkedTo, walked_none, walked_next, walked_all}
use Rattle.adm_commands.proofs.commands.import.walk.Goals.{in-Ok, in-Err}
use Rattle.adm_commands.proofs.commands.import.walk.Goals as goal

pub loop-row-init : goal.loop-row-init
loop-row-init c =
    let old = c.args.old.now in
    let rows = c.args.rows in
    let whole = c.into_iter-row-iterator.ensures.into_iter_gives.0 ∙ c.into_vec-row-items.ensures in
    record {
      split = whole;
      kept = tt;
      number = refl;
      walked = subst (IsWalked old rows c.new-added.result.entries 1) (sym whole)
          (subst (λ entries. IsWalked old rows entries 1 rows) (sym c.new-added.ensures.empty) (walked_none old rows));
    }

pub loop-row-preserved : goal.loop-row-preserved
loop-row-preserved c =
    let old = c.args.old.now in
    let rows = c.args.rows in
    let row = c.in-Some.row in
    let so_far = c.loop-row.yielded in
    let number = c.loop-row.number in
    let added = c.loop-row.added.entries in
    let others = c.next.new.self.rest.items in
    let counted = c.loop-row.invariant.number in
    let longer = length-append so_far (row ∷ []) in
    record {
      split = append_assoc so_far (row ∷ []) others ∙ ap (λ rest. so_far ++ rest) (sym c.in-Some.ensures.steps.0) ∙ c.loop-row.invariant.split;
      kept = each_push KeptByImportRow so_far row c.loop-row.invariant.kept c.kept_by_row.ensures;
      number = omega (arith, counted, longer);
      walked = elim c.match-walked.branch [
        | in-Ok w ↦
            let here = subst (IsWalked old rows added number) c.in-Some.ensures.steps.0
            (subst (λ r. IsWalkedTo r old rows added number c.loop-row.row-iterator.rest.items) w.in-Ok.is c.loop-row.invariant.walked) in
            let taken = w.take-walked.ensures in
            subst (λ r. IsWalkedTo r old rows c.match-walked.added.entries (number + 1) others) (sym w.walked-is)
            (subst (λ m. IsWalkedTo w.take-walked.result old rows m.entries (number + 1) others) (sym w.added-is)
            (walked_next old rows added number row others here w.take-walked.new.added.entries w.take-walked.result taken.passes taken.joins taken.refused))
        | in-Err w ↦
            subst (λ r. IsWalkedTo r old rows c.match-walked.added.entries (number + 1) others) (sym (w.walked-is ∙ w.in-Err.is))
            (subst (λ r. IsWalkedTo r old rows added number c.loop-row.row-iterator.rest.items) w.in-Err.is c.loop-row.invariant.walked)
      ];
    }

pub returns-clause-passes : goal.returns-clause-passes
returns-clause-passes c =
    let rest = c.loop-row.row-iterator.rest.items in
    let ended : rest ≡ [] = nil_from_length rest (sym c.loop-row.row-iterator.rest.ok.0 ∙ c.in-None.ensures.steps.0) in
    (walked_all c.args.old.now c.args.rows c.loop-row.added.entries c.loop-row.number
    (subst (IsWalked c.args.old.now c.args.rows c.loop-row.added.entries c.loop-row.number) ended
    (subst (λ r. IsWalkedTo r c.args.old.now c.args.rows c.loop-row.added.entries c.loop-row.number rest) c.in_ok-walked.was c.loop-row.invariant.walked))).0

pub returns-clause-added : goal.returns-clause-added
returns-clause-added c =
    let rest = c.loop-row.row-iterator.rest.items in
    let ended : rest ≡ [] = nil_from_length rest (sym c.loop-row.row-iterator.rest.ok.0 ∙ c.in-None.ensures.steps.0) in
    (walked_all c.args.old.now c.args.rows c.loop-row.added.entries c.loop-row.number
    (subst (IsWalked c.args.old.now c.args.rows c.loop-row.added.entries c.loop-row.number) ended
    (subst (λ r. IsWalkedTo r c.args.old.now c.args.rows c.loop-row.added.entries c.loop-row.number rest) c.in_ok-walked.was c.loop-row.invariant.walked))).1
