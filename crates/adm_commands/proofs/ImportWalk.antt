-- What is known of the rows that an import adds.
use Rattle.std.proofs.Common.{◌≡◌, ◌∙◌, ap, refl, cond, Bool, true, false, ◌++◌, ℕ, ◌+◌, ◌≤◌, ◌<◌, List, [], ◌∷◌, length, Some, None, arith}
use Rattle.std.specs.Prelude.{nat_le, is_some, not, ◌&&◌, Option, map, if◌then◌else◌}
use Rattle.std.specs.Ordering.{nat_cmp, eq_by_cmp}
use Rattle.std.specs.List.{AllByRecursion, IsDistinct}
use Rattle.std.specs.Cmp.{nat_cmp_total, eq_by_cmp_equiv}
use Rattle.std.specs.FinMap.{get, len, len-insert, get-insert, contains_key}
use Rattle.std.proofs.lemmas.Map.Keys.{IsDistinct-cons}
use borrow.Author.Tests.{ltb-true}
use Rattle.std.proofs.lemmas.Bool.{not-true}
use Rattle.adm_lists.proofs.Maps.{contains_key-insert}
use Rattle.adm_lists.proofs.Each.{each_weaker}
use Rattle.adm_types.specs.Limits.{is_from, is_without_repeat, is_name, is_child_of_size, most_children, most_preferences}
use Rattle.adm_types.specs.Seasons.{lists_end}
use Rattle.adm_types.specs.declared.rows.Row.{Row as ImportRow}
use Rattle.adm_types.specs.declared.commands.Refusal.{Refusal}
use Rattle.adm_register.specs.Change.{after, change_of_child}
use Rattle.adm_register.specs.State.{State, application_of}
use Rattle.adm_commands.specs.Tests.{first_failing}
use Rattle.adm_register.specs.WellFormed.{are_schools, has_schools_of}
use Rattle.adm_commands.specs.Commands.AddChild as add_child
use Rattle.adm_commands.specs.Commands.Apply as apply
use Rattle.adm_commands.specs.Commands.Import.{change_of, is_known, row_tests, refusal_of_row, with_row, after_row, refused_from, or_later, new_rows}
use Rattle.adm_commands.specs.declared.command_result.RowRefusal.{RowRefusal}
use Rattle.adm_commands.proofs.EachOf.{each_map}
use Rattle.adm_types.specs.declared.commands.Refusal.TheVariants as refusal
use Rattle.adm_commands.proofs.Passed.{passed, passed_rest, both_pass}

-- what its tests say of a row that is added
pub record IsAddable (s : State) (row : ImportRow) : Type 0 where
  pub new_child : not (contains_key s.children row.child.no) ≡ true
  pub name : is_name row.child.name ≡ true
  pub in_range : is_child_of_size s.season.size row.child ≡ true
  pub known : has_schools_of s.schools row.child ≡ true
  pub in_time : nat_le row.day (lists_end s.season) ≡ true
  pub preferences : (is_from 1 most_preferences (length row.preferences) && is_without_repeat row.preferences) ≡ true
  pub listed : are_schools s.schools row.preferences ≡ true

addable : (s : State) (row : ImportRow) → first_failing (row_tests s row) ≡ None → IsAddable s row × (len s.children < most_children s.season.size)
unfolding row_tests add_child.tests apply.tests
addable s row passes =
    let of_child : List (Bool × Refusal) = add_child.tests s row.child in
    let of_application : List (Bool × Refusal) = apply.tests (after s (change_of_child row.child)) (application_of row) in
    let is_new : Bool × Refusal = (not (contains_key s.children row.child.no), refusal.RowDiffers) in
    let both = both_pass of_child of_application (passed_rest is_new (of_child ++ of_application) passes) in
    let new = passed of_child both.0 in
    let applied = passed of_application both.1 in (
      record {
        new_child = new refusal.ChildKnown;
        name = new refusal.BadText;
        in_range = new refusal.OutOfRange;
        known = new refusal.UnknownSchool;
        in_time = applied refusal.ListClosed;
        preferences = applied refusal.BadPreferences;
        listed = applied refusal.UnknownSchool;
      },
      ltb-true _ _ (new refusal.RegisterFull),
    )

-- where no row is refused, neither the first nor a later one is
none_refused : (number : ℕ) (first : Option Refusal) (later : Option RowRefusal) → or_later number first later ≡ None → (first ≡ None) × (later ≡ None)
none_refused number None later none = (refl, none)
none_refused number (Some reason) later none = cc

-- of the rows that are added: each passed its tests, there is room for all, and no two are of one child
pub record AreAddable (s : State) (added : List ImportRow) : Type 0 where
  pub each : AllByRecursion (IsAddable s) added
  pub room : len s.children ≤ most_children s.season.size → len s.children + length added ≤ most_children s.season.size
  pub apart : IsDistinct (eq_by_cmp nat_cmp) (map (λ (r : ImportRow). r.child.no) added)

module _ (s : State) (row : ImportRow) where
  abbrev next : State
  next = with_row s row

  -- a child that is not there after a row was not there before
  not_before : (number : ℕ) → not (contains_key next.children number) ≡ true → not (contains_key s.children number) ≡ true
  unfolding with_row change_of
  not_before number gone =
      elim (contains_key s.children number) as (λ b. contains_key s.children number ≡ b → not b ≡ true) [
        | true ↦ λ there. let still = contains_key-insert nat_cmp_total s.children row.child.no row.child number there in cc (still, gone)
        | false ↦ λ there. refl
      ] refl

  -- and is not that of the row
  not_the_row : (number : ℕ) → not (contains_key next.children number) ≡ true → eq_by_cmp nat_cmp row.child.no number ≡ false
  unfolding with_row change_of
  not_the_row number gone =
      elim (eq_by_cmp nat_cmp row.child.no number) as (λ b. eq_by_cmp nat_cmp row.child.no number ≡ b → b ≡ false) [
        | true ↦ λ tie.
            let flipped = (eq_by_cmp_equiv nat_cmp_total).symm number row.child.no ∙ tie in
            let there = ap is_some (get-insert nat_cmp_total s.children row.child.no row.child number ∙ ap (λ b. cond b (Some row.child) (get s.children number)) flipped) in
            cc (there, gone)
        | false ↦ λ tie. refl
      ] refl

  before : (other : ImportRow) → IsAddable next other → IsAddable s other
  unfolding with_row change_of
  before other fits = record {
    new_child = not_before other.child.no fits.new_child;
    name = fits.name;
    in_range = fits.in_range;
    known = fits.known;
    in_time = fits.in_time;
    preferences = fits.preferences;
    listed = fits.listed;
  }

  one_more : (added : List ImportRow) → IsAddable s row → len s.children < most_children s.season.size → AreAddable next added → AreAddable s (row ∷ added)
  unfolding with_row change_of
  one_more added fits few more =
      let count : len next.children ≡ len s.children + 1 = len-insert nat_cmp_total s.children row.child.no row.child
      ∙ ap (λ b. cond b (len s.children) (len s.children + 1)) (not-true _ fits.new_child) in
      let room = more.room (omega (arith, count, few)) in
      let numbers = map (λ (r : ImportRow). r.child.no) added in
      record {
        each = (fits, each_weaker (IsAddable next) (IsAddable s) before added more.each);
        room = λ most. omega (arith, count, room);
        apart = IsDistinct-cons (eq_by_cmp nat_cmp) row.child.no numbers
            (each_map (λ (r : ImportRow). r.child.no) (λ number. eq_by_cmp nat_cmp row.child.no number ≡ false) added
            (each_weaker (IsAddable next) (λ (r : ImportRow). eq_by_cmp nat_cmp row.child.no r.child.no ≡ false) (λ other it. not_the_row other.child.no it.new_child) added more.each)) more.apart;
      }

-- so it is with the new rows of an import that is accepted
pub new_rows-addable : (s : State) (number : ℕ) (rows : List ImportRow) → refused_from s number rows ≡ None → AreAddable s (new_rows s rows)
unfolding IsDistinct refused_from refusal_of_row after_row with_row change_of new_rows
new_rows-addable s number [] none = record { each = tt; room = λ most. omega (arith, most); apart = tt }
new_rows-addable s number (row ∷ rows) none =
    elim (is_known s row) as (λ b.
    or_later number (if b then None else first_failing (row_tests s row)) (refused_from (if b then s else with_row s row) (number + 1) rows) ≡ None
    → AreAddable s (if b then new_rows s rows else row ∷ new_rows (with_row s row) rows)) [
      | true ↦ λ is. new_rows-addable s (number + 1) rows is
      | false ↦ λ is.
          let passed = none_refused number _ _ is in
          let fits = addable s row passed.0 in
          one_more s row (new_rows (with_row s row) rows) fits.0 fits.1 (new_rows-addable (with_row s row) (number + 1) rows passed.1)
    ] none

-- what the types of all rows keep, those of the new ones keep
pub new_rows-each : (P : ImportRow → Type 0) (s : State) (rows : List ImportRow) → AllByRecursion P rows → AllByRecursion P (new_rows s rows)
unfolding new_rows
new_rows-each P s [] each = tt
new_rows-each P s (row ∷ rows) each =
    elim (is_known s row) as (λ b. AllByRecursion P (if b then new_rows s rows else row ∷ new_rows (with_row s row) rows)) [
      | true ↦ new_rows-each P s rows each.1
      | false ↦ (each.0, new_rows-each P (with_row s row) rows each.1)
    ]
