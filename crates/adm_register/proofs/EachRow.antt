-- A test of every row of a table decides a fact of every row of its map.
use Rattle.std.proofs.Common.{◌≡◌, ◌∙◌, ap, sym, subst, refl, cond, Bool, true, false, List, [], ◌∷◌, Some}
use Rattle.std.specs.Prelude.{◌&&◌, ◌↔◌}
use Rattle.std.specs.List.{list_all}
use Rattle.std.specs.List.Sorted.{IsStrictlySortedBy}
use Rattle.std.specs.Map.{keys_of}
use Rattle.std.specs.BTreeMap.{is_at}
use Rattle.std.specs.declared.cmp.Ordering.{Ordering}
use Rattle.std.specs.Cmp.{IsTotalOrder}
use Rattle.std.specs.FinMap.{FinMap, from_entries, IsAntisymmetric}
use Rattle.std.proofs.lemmas.Bool.{and_parts}
use Rattle.std.proofs.lemmas.Option.{none-some, same_Some}
use Rattle.adm_lists.proofs.Orders.{tied, same_key}
use Rattle.adm_lists.proofs.Maps.{get_rows, apart}
use Rattle.adm_table.specs.TableRows.{row_at}
use Rattle.adm_register.specs.WellFormed.{AllRows}
use Rattle.adm_register.proofs.Maps.{AllRows-weaker}

module _ {K V : Type 0} {R : K → K → Ordering} (p : K → V → Bool) where
  found : IsAntisymmetric R → (rows : List (K × V)) → list_all (λ e. p e.0 e.1) rows ≡ true → (key : K) (row : V) → row_at R rows key ≡ Some row → p key row ≡ true
  found same [] all key row there = absurd (none-some row there)
  found same (e ∷ es) all key row there =
      let both = and_parts _ _ all in
      elim (is_at (R key) e.0) as (λ b. is_at (R key) e.0 ≡ b → cond b (Some e.1) (row_at R es key) ≡ Some row → p key row ≡ true) [
        | true ↦ λ tie here. subst (λ k. p k row ≡ true) (sym (same_key same key e.0 tie)) (subst (λ v. p e.0 v ≡ true) (same_Some e.1 row here) both.0)
        | false ↦ λ tie here. found same es both.1 key row here
      ] refl there

  -- the test of every row says it of the map
  pub AllRows-from_list_all : IsTotalOrder R → IsAntisymmetric R → (rows : List (K × V)) → list_all (λ e. p e.0 e.1) rows ≡ true → AllRows (λ key row. p key row ≡ true) (from_entries {R = R} rows)
  AllRows-from_list_all total same rows all key row there = found same rows all key row (sym (get_rows total rows key) ∙ there)

module _ {K V : Type 0} {R : K → K → Ordering} (p : K → V → Bool) (total : IsTotalOrder R) (same : IsAntisymmetric R) where
  passes : (rows : List (K × V)) → IsStrictlySortedBy R (keys_of rows) → ((key : K) (row : V) → row_at R rows key ≡ Some row → p key row ≡ true) → list_all (λ e. p e.0 e.1) rows ≡ true
  unfolding IsStrictlySortedBy
  passes [] sorted all = refl
  passes (e ∷ es) sorted all =
      let here : p e.0 e.1 ≡ true = all e.0 e.1 (ap (λ b. cond b (Some e.1) (row_at R es e.0)) (tied total e.0)) in
      let rest : list_all (λ e. p e.0 e.1) es ≡ true = passes es sorted.1
      (λ key row there. all key row (ap (λ b. cond b (Some e.1) (row_at R es key)) (apart same e.0 es sorted.0 key row there) ∙ there)) in
      λ i. here i && rest i

  -- and the map of every row
  pub list_all-from_AllRows : (rows : List (K × V)) → IsStrictlySortedBy R (keys_of rows) → AllRows (λ key row. p key row ≡ true) (from_entries {R = R} rows) → list_all (λ e. p e.0 e.1) rows ≡ true
  list_all-from_AllRows rows sorted all = passes rows sorted (λ key row there. all key row (get_rows total rows key ∙ there))

module _ {K V : Type 0} {R : K → K → Ordering} (p : K → V → Bool) (P : K → V → Type 0) (total : IsTotalOrder R) (same : IsAntisymmetric R) where
  -- where it decides a fact of each row, the test of the rows of a table decides it of every row of its map
  pub rows_decided : ((key : K) (row : V) → (p key row ≡ true) ↔ P key row) → (rows : List (K × V)) (m : FinMap R V) (b : Bool)
      → from_entries rows ≡ m → IsStrictlySortedBy R (keys_of rows) → b ≡ list_all (λ e. p e.0 e.1) rows → (b ≡ true) ↔ AllRows P m
  rows_decided each rows m b shown sorted tested = (
    λ e. subst (AllRows P) shown (AllRows-weaker (λ key row. p key row ≡ true) P (from_entries rows) (λ key row. (each key row).0) (AllRows-from_list_all p total same rows (sym tested ∙ e))),
    λ all. tested ∙ list_all-from_AllRows p total same rows sorted
        (AllRows-weaker P (λ key row. p key row ≡ true) (from_entries rows) (λ key row. (each key row).1) (subst (AllRows P) (sym shown) all)),
  )
