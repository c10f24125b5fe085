-- Rows that were imported are known from then on.
use Rattle.std.proofs.Common.{◌≡◌, ◌∙◌, ap, sym, subst, refl, cond, true, false, ℕ, ◌+◌, List, [], ◌∷◌, length, Some, None}
use Rattle.std.specs.Prelude.{is_some, not, map, if◌then◌else◌}
use Rattle.std.specs.declared.cmp.Ordering.{Ordering}
use Rattle.std.specs.declared.cmp.Ordering.TheVariants.{Less}
use Rattle.std.specs.Ordering.{nat_cmp, eq_by_cmp, is_eq}
use Rattle.std.specs.List.{AllByRecursion}
use Rattle.std.specs.List.Sorted.{IsPermutation, IsStrictlySortedBy}
use Rattle.std.specs.Cmp.{IsTotalOrder, nat_cmp_total}
use Rattle.std.specs.FinMap.{FinMap, get, insert, get-insert, contains_key, nat_cmp-IsAntisymmetric}
use Rattle.std.proofs.lemmas.List.Sorted.{IsPermutation-sym, length_permutation}
use Rattle.std.proofs.lemmas.List.{nil_from_length}
use Rattle.adm_lists.proofs.Orders.{tied, same_key}
use Rattle.adm_lists.proofs.Each.{each_weaker}
use Rattle.adm_types.specs.declared.rows.Row.{Row as ImportRow}
use Rattle.adm_register.specs.State.{State}
use Rattle.adm_register.specs.Change.{after, put_all}
use Rattle.adm_commands.specs.Tests.{first_failing}
use Rattle.adm_register.specs.WellFormed.{WellFormed, AllRows}
use Rattle.adm_commands.specs.Commands.Import.{change_of, is_same_as, is_known, row_tests, refusal_of_row, with_row, after_row, refused_from, or_later, new_rows}
use Rattle.adm_commands.proofs.EachOf.{each_permuted}
use Rattle.adm_commands.proofs.ImportWalk.{IsAddable, new_rows-addable}
use Rattle.adm_register.proofs.Puts.{stays, all_stay}
use Rattle.adm_register.proofs.SameLemmas.{same_import}

-- the register keeps the row
abbrev pub IsKept : State → ImportRow → Type 0
IsKept s row = get s.imported row.child.no ≡ Some row

-- a row that is known is kept, and the other way round
known-kept : (s : State) (row : ImportRow) → is_known s row ≡ true → IsKept s row
unfolding is_known
known-kept s row known =
    elim (get s.imported row.child.no) as (λ o. is_same_as o row ≡ true → o ≡ Some row) [
      | None ↦ λ same. cc
      | Some kept ↦ λ same. ap Some ((same_import kept row).0 same)
    ] known

kept-known : (s : State) (row : ImportRow) → IsKept s row → is_known s row ≡ true
unfolding is_known
kept-known s row kept = ap (λ o. is_same_as o row) kept ∙ (same_import row row).1 refl

beside : (s t : State) (row : ImportRow) → ((number : ℕ) (other : ImportRow) → get s.imported number ≡ Some other → get t.imported number ≡ Some other) → IsKept t row
    → (number : ℕ) (other : ImportRow) → get (with_row s row).imported number ≡ Some other → get t.imported number ≡ Some other
unfolding with_row change_of
beside s t row stay kept number other there =
    elim (eq_by_cmp nat_cmp number row.child.no) as (λ b. eq_by_cmp nat_cmp number row.child.no ≡ b → cond b (Some row) (get s.imported number) ≡ Some other → get t.imported number ≡ Some other) [
      | true ↦ λ tie here. ap (get t.imported) (same_key nat_cmp-IsAntisymmetric number row.child.no tie) ∙ kept ∙ here
      | false ↦ λ tie here. stay number other here
    ] refl (sym (get-insert nat_cmp_total s.imported row.child.no row number) ∙ there)

-- where a register keeps what another kept, and the rows that were new beside it, it keeps all rows
pub all_kept : (s t : State) (rows : List ImportRow) → ((number : ℕ) (row : ImportRow) → get s.imported number ≡ Some row → get t.imported number ≡ Some row)
    → AllByRecursion (IsKept t) (new_rows s rows) → AllByRecursion (IsKept t) rows
unfolding new_rows
all_kept s t [] stay each = tt
all_kept s t (row ∷ rows) stay each =
    elim (is_known s row) as (λ b. is_known s row ≡ b → AllByRecursion (IsKept t) (if b then new_rows s rows else row ∷ new_rows (with_row s row) rows) → AllByRecursion (IsKept t) (row ∷ rows)) [
      | true ↦ λ known each. (stay row.child.no row (known-kept s row known), all_kept s t rows stay each)
      | false ↦ λ unknown each. (each.0, all_kept (with_row s row) t rows (beside s t row stay each.0) each.1)
    ] refl each

-- and then it refuses none of them, and none is new
pub none_new : (t : State) (number : ℕ) (rows : List ImportRow) → AllByRecursion (IsKept t) rows → (refused_from t number rows ≡ None) × (new_rows t rows ≡ [])
unfolding new_rows refused_from refusal_of_row after_row
none_new t number [] each = (refl, refl)
none_new t number (row ∷ rows) each =
    let known = kept-known t row each.0 in
    let rest = none_new t (number + 1) rows each.1 in (
      ap (λ b. or_later number (if b then None else first_failing (row_tests t row)) (refused_from (if b then t else with_row t row) (number + 1) rows)) known ∙ rest.0,
      ap (λ b. if b then new_rows t rows else row ∷ new_rows (with_row t row) rows) known ∙ rest.1,
    )

-- a row that is put in order of the keys is at its own
module _ {K V : Type 0} {R : K → K → Ordering} (total : IsTotalOrder R) (key : V → K) where
  above : (k : K) (them : List V) → AllByRecursion (λ other. R k other ≡ Less) (map key them) → AllByRecursion (λ it. eq_by_cmp R k (key it) ≡ false) them
  above k [] all = tt
  above k (it ∷ them) all = (ap is_eq all.0, above k them all.1)

  put_there : (rows : FinMap R V) (put : List V) → IsStrictlySortedBy R (map key put) → AllByRecursion (λ row. get (put_all key rows put) (key row) ≡ Some row) put
  unfolding IsStrictlySortedBy
  put_there rows [] sorted = tt
  put_there rows (row ∷ put) sorted = (
    stays total key (insert rows (key row) row) put (key row) (above (key row) put sorted.0)
        ∙ get-insert total rows (key row) row (key row) ∙ ap (λ b. cond b (Some row) (get rows (key row))) (tied total (key row)),
    put_there (insert rows (key row) row) put sorted.1,
  )

-- each imported row is that of a child that is there
abbrev pub ImportsKnown : State → Type 0
ImportsKnown s = AllRows (λ number (row : ImportRow). contains_key s.children number ≡ true) s.imported

pub imports_known : (s : State) → WellFormed s → ImportsKnown s
imports_known s well number row there =
    let fits = well.imported number row there in
    subst (λ n. contains_key s.children n ≡ true) fits.application.own_number fits.application.child

-- so a new child has none
pub not_imported : (s : State) (number : ℕ) → ImportsKnown s → not (contains_key s.children number) ≡ true → not (contains_key s.imported number) ≡ true
not_imported s number known gone =
    elim (get s.imported number) as (λ o. get s.imported number ≡ o → not (is_some o) ≡ true) [
      | None ↦ λ is. refl
      | Some row ↦ λ is. let there = known number row is in cc (there, gone)
    ] refl

-- what an import that is accepted leaves
module _ (old : State) (rows added : List ImportRow) (known : ImportsKnown old) (accepted : refused_from old 1 rows ≡ None) (permuted : IsPermutation (new_rows old rows) added) where
  abbrev new : State
  new = after old (change_of added)

  pub each_new : AllByRecursion (λ (r : ImportRow). not (contains_key old.imported r.child.no) ≡ true) added
  each_new =
      let each = each_permuted (IsAddable old) (new_rows old rows) added permuted (new_rows-addable old 1 rows accepted).each in
      each_weaker (IsAddable old) (λ (r : ImportRow). not (contains_key old.imported r.child.no) ≡ true) (λ r it. not_imported old r.child.no known it.new_child) added each

  -- what was kept before is kept as it was
  pub imports_stay : (number : ℕ) (row : ImportRow) → get old.imported number ≡ Some row → get new.imported number ≡ Some row
  unfolding change_of
  imports_stay = all_stay nat_cmp_total nat_cmp-IsAntisymmetric (λ (r : ImportRow). r.child.no) old.imported added each_new

  -- and so is each of its rows
  pub rows_kept : IsStrictlySortedBy nat_cmp (map (λ (r : ImportRow). r.child.no) added) → AllByRecursion (IsKept new) rows
  unfolding change_of
  rows_kept sorted =
      let put : AllByRecursion (IsKept new) added = put_there nat_cmp_total (λ (r : ImportRow). r.child.no) old.imported added sorted in
      all_kept old new rows imports_stay (each_permuted (IsKept new) added (new_rows old rows) (IsPermutation-sym (new_rows old rows) added permuted) put)

-- where all rows are kept, nothing is added
pub none_added : (s : State) (rows added : List ImportRow) → AllByRecursion (IsKept s) rows → IsPermutation (new_rows s rows) added → added ≡ []
none_added s rows added kept permuted = nil_from_length added (length_permutation (new_rows s rows) added permuted ∙ ap length (none_new s 1 rows kept).1)
