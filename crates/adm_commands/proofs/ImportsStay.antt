-- Imported rows stay, where a change puts none, or new ones.
use Rattle.std.proofs.Common.{◌≡◌, sym, subst, true, ℕ, [], Some}
use Rattle.std.specs.Prelude.{not}
use Rattle.std.specs.List.{AllByRecursion}
use Rattle.std.specs.Cmp.{nat_cmp_total}
use Rattle.std.specs.FinMap.{get, contains_key, nat_cmp-IsAntisymmetric}
use Rattle.adm_types.specs.declared.rows.Child.{Child}
use Rattle.adm_types.specs.declared.rows.Row.{Row as ImportRow}
use Rattle.adm_register.specs.declared.difference.Difference.{Difference}
use Rattle.adm_register.specs.State.{State}
use Rattle.adm_register.specs.Change.{after}
use Rattle.adm_commands.proofs.ImportAgain.{ImportsKnown}
use Rattle.adm_register.proofs.Puts.{AllRows-put_all, all_stay, put_all-grows}

-- each imported row of the old register is in the new one as it was
abbrev pub ImportsStay : State → State → Type 0
ImportsStay old new = (number : ℕ) (row : ImportRow) → get old.imported number ≡ Some row → get new.imported number ≡ Some row

-- where what is written is new, and its children are there
pub stay_beside : (old new : State) (change : Difference) → new ≡ after old change → ImportsKnown old
    → AllByRecursion (λ (r : ImportRow). not (contains_key old.imported r.child.no) ≡ true) change.imported
    → AllByRecursion (λ (r : ImportRow). contains_key (after old change).children r.child.no ≡ true) change.imported → ImportsKnown new × ImportsStay old new
stay_beside old new change is known news there = (
  subst ImportsKnown (sym is) (AllRows-put_all nat_cmp_total nat_cmp-IsAntisymmetric (λ (r : ImportRow). r.child.no)
      (λ number r. contains_key (after old change).children number ≡ true) old.imported change.imported
      (λ number row was still. put_all-grows nat_cmp_total (λ (c : Child). c.no) old.children change.children number (known number row was)) there),
  subst (ImportsStay old) (sym is) (all_stay nat_cmp_total nat_cmp-IsAntisymmetric (λ (r : ImportRow). r.child.no) old.imported change.imported news),
)

-- where nothing is written
pub stay_alone : (old new : State) (change : Difference) → change.imported ≡ [] → new ≡ after old change → ImportsKnown old → ImportsKnown new × ImportsStay old new
stay_alone old new change none is known =
    stay_beside old new change is known (subst (AllByRecursion (λ (r : ImportRow). not (contains_key old.imported r.child.no) ≡ true)) (sym none) tt)
    (subst (AllByRecursion (λ (r : ImportRow). contains_key (after old change).children r.child.no ≡ true)) (sym none) tt)
