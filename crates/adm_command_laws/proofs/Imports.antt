-- Rows that were imported stay, whatever commands come after, so no import does its work twice.
use Rattle.std.proofs.Common.{◌∙◌, ap, sym, subst, refl, ◌-◌, List, [], ◌∷◌, length, arith}
use Rattle.std.specs.List.{AllByRecursion}
use Rattle.std.specs.List.Sorted.{IsPermutation, IsStrictlySortedBy}
use Rattle.std.proofs.lemmas.List.Sorted.{IsPermutation-refl}
use Rattle.adm_lists.proofs.Each.{each_weaker}
use Rattle.adm_types.specs.declared.rows.Row.{Row as ImportRow}
use Rattle.adm_types.specs.declared.commands.Command.{Command}
use Rattle.adm_types.specs.declared.commands.Command.TheVariants.{Import}
use Rattle.adm_types.specs.declared.commands.Reply.TheVariants.{Imported}
use Rattle.adm_register.specs.State.{State}
use Rattle.adm_register.specs.Change.{after}
use Rattle.adm_commands.specs.Commands.Import as import
use Rattle.adm_commands.specs.Imports.{Reaches}
use Rattle.adm_command_laws.specs.Imports.{AddsNothing, ImportOnce}
use Rattle.adm_commands.proofs.EachCommand.{shows}
use Rattle.adm_commands.proofs.ImportAgain.{IsKept, ImportsKnown, imports_known, rows_kept, none_new, none_added}

-- rows that are kept stay so
still_kept : (rows : List ImportRow) (commands : List Command) (old new : State) → ImportsKnown old → AllByRecursion (IsKept old) rows → Reaches old commands new → AllByRecursion (IsKept new) rows
still_kept rows [] old new known each is = subst (λ s. AllByRecursion (IsKept s) rows) (sym is) each
still_kept rows (command ∷ commands) old new known each reaches =
    let mid = reaches.0 in
    let step = reaches.1 in
    let effect = step.1.1 in
    let after_it = (shows command).imports old mid effect.0 step.0 known step.1.0 effect.1 effect.2 in
    still_kept rows commands mid new after_it.0 (each_weaker (IsKept old) (IsKept mid) (λ r it. after_it.1 r.child.no r it) rows each) reaches.2

-- an import whose rows are kept
all_known : (s : State) (rows : List ImportRow) → AllByRecursion (IsKept s) rows → AddsNothing s rows
unfolding import.change_of IsStrictlySortedBy
all_known s rows each =
    let none = none_new s 1 rows each in (
      (
        none.0,
        (
          import.change_of [],
          ([], subst (λ new. IsPermutation new []) (sym none.1) (IsPermutation-refl []), tt, refl, ap (Imported 0) (omega arith)),
          refl,
        ),
      ),
      λ reply new step.
          let done = step.1.1 in
          let empty = none_added s rows done.0 each done.1 in
          let length_is = ap length empty in (
            done.4 ∙ (λ i. Imported (length (empty i)) (length rows - length (empty i))) ∙ ap (Imported 0) (omega arith),
            step.1.2 ∙ ap (after s) (done.3 ∙ ap import.change_of empty),
          ),
    )

pub import_once_lem : ImportOnce
import_once_lem old mid new rows commands well step reaches =
    let effect = step.1.1 in
    let done = effect.1 in
    let known = imports_known old well in
    let now = effect.2 ∙ ap (after old) done.3 in
    let each = subst (λ s. AllByRecursion (IsKept s) rows) (sym now) (rows_kept old rows done.0 known step.1.0 done.1 done.2) in
    let here = (shows (Import rows)).imports old mid effect.0 step.0 known step.1.0 done effect.2 in
    all_known new rows (still_kept rows commands mid new here.0 each reaches)
