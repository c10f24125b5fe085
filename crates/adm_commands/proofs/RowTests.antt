-- The tests of an import's row, one after another.
use Rattle.std.proofs.Common.{◌≡◌, ◌∙◌, ap, refl, cond, Bool, true, false, List, [], ◌∷◌, ◌++◌, Some, None}
use Rattle.std.specs.Prelude.{is_some, not, Option, if◌then◌else◌}
use Rattle.std.specs.Cmp.{nat_cmp_total}
use Rattle.std.specs.FinMap.{get, get-insert, contains_key}
use Rattle.adm_lists.proofs.Orders.{tied}
use Rattle.adm_types.specs.declared.rows.Row.{Row as ImportRow}
use Rattle.adm_types.specs.declared.commands.Refusal.{Refusal}
use Rattle.adm_types.specs.declared.commands.Refusal.TheVariants.{RowDiffers, UnknownChild}
use Rattle.adm_register.specs.State.{State, application_of}
use Rattle.adm_register.specs.Change.{after, change_of_child}
use Rattle.adm_commands.specs.Tests.{first_failing}
use Rattle.adm_commands.specs.Commands.AddChild as add_child
use Rattle.adm_commands.specs.Commands.Apply as apply
use Rattle.adm_commands.specs.Commands.Import.{is_known, row_tests, refusal_of_row}

-- the first refusal, or else the second
abbrev pub or_next : Option Refusal → Option Refusal → Option Refusal
or_next None next = next
or_next (Some refusal) next = Some refusal

first_failing-append : (tests more : List (Bool × Refusal)) → first_failing (tests ++ more) ≡ or_next (first_failing tests) (first_failing more)
first_failing-append [] more = refl
first_failing-append ((true, refusal) ∷ tests) more = first_failing-append tests more
first_failing-append ((false, refusal) ∷ tests) more = refl

-- of a child that is not there: what refuses to add it, or else what refuses its application
pub refusal_of_new : (s : State) (row : ImportRow) → is_known s row ≡ false → contains_key s.children row.child.no ≡ false
    → refusal_of_row s row ≡ or_next (first_failing (add_child.tests s row.child)) (first_failing (apply.further_tests s (application_of row)))
unfolding apply.tests refusal_of_row row_tests
refusal_of_new s row unknown new =
    let there = ap is_some (get-insert nat_cmp_total s.children row.child.no row.child row.child.no
    ∙ ap (λ b. cond b (Some row.child) (get s.children row.child.no)) (tied nat_cmp_total row.child.no)) in
    ap (λ b. if b then None else first_failing (row_tests s row)) unknown
    ∙ ap (λ b. if not b then first_failing (add_child.tests s row.child ++ apply.tests (after s (change_of_child row.child)) (application_of row)) else Some RowDiffers) new
    ∙ first_failing-append (add_child.tests s row.child) (apply.tests (after s (change_of_child row.child)) (application_of row))
    ∙ ap (λ b. or_next (first_failing (add_child.tests s row.child)) (if b then first_failing (apply.further_tests s (application_of row)) else Some UnknownChild)) there
