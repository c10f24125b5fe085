-- Two maps with the same rows, each row at the key that is in it.
use Rattle.std.proofs.Common.{◌≡◌, ◌∙◌, ap, sym, subst, refl, cond, true, false, List, [], ◌∷◌, Some, None}
use Rattle.std.specs.Prelude.{map, Option}
use Rattle.std.specs.declared.cmp.Ordering.{Ordering}
use Rattle.std.specs.Ordering.{eq_by_cmp}
use Rattle.std.specs.Cmp.{IsTotalOrder}
use Rattle.std.specs.BTreeMap.{is_at}
use Rattle.std.specs.Map.{lookup, keys_of, values_of}
use Rattle.std.specs.List.{IsDistinct, All, list_all}
use Rattle.std.specs.List.Sorted.{IsPermutation, IsStrictlySortedBy}
use Rattle.std.specs.FinMap.{FinMap, get, entries, values, from_entries, same_map, IsAntisymmetric}
use Rattle.std.proofs.lemmas.List.Sorted.{All-permutation, IsPermutation-map, IsPermutation-sym}
use Rattle.std.proofs.lemmas.List.Elements.{All-nil, All-cons, All-head, All-tail}
use Rattle.std.proofs.lemmas.Map.Keys.{IsDistinct-from_sorted, IsDistinct-IsPermutation}
use Rattle.std.specs.Cmp.{eq_by_cmp_equiv}
use Rattle.std.proofs.lemmas.Bool.{and_parts}
use Rattle.std.proofs.lemmas.Option.{none-some, same_Some}
use Rattle.adm_lists.proofs.Orders.{tied, same_key}
use Rattle.adm_lists.proofs.Maps.{get_rows, apart, entries_in_order, map_of_entries}
use Rattle.adm_table.specs.TableRows.{row_at}
use Rattle.adm_register.specs.WellFormed.{AllRows}
use Rattle.adm_register.proofs.EachRow.{list_all-from_AllRows}

module _ {K V : Type 0} {R : K → K → Ordering} (total : IsTotalOrder R) (same : IsAntisymmetric R) (key : V → K) where
  found_at_own_key : (es : List (K × V)) → map key (values_of es) ≡ keys_of es → (k : K) (v : V) → lookup (is_at (R k)) es ≡ Some v → key v ≡ k
  found_at_own_key [] keyed k v there = absurd (none-some v there)
  found_at_own_key (e ∷ es) keyed k v there =
      let first : key e.1 ≡ e.0 = cc (keyed) in
      let others : map key (values_of es) ≡ keys_of es = cc (keyed) in
      elim (is_at (R k) e.0) as (λ b. is_at (R k) e.0 ≡ b → cond b (Some e.1) (lookup (is_at (R k)) es) ≡ Some v → key v ≡ k) [
        | true ↦ λ tie here. ap key (sym (same_Some e.1 v here)) ∙ first ∙ sym (same_key same k e.0 tie)
        | false ↦ λ tie here. found_at_own_key es others k v here
      ] refl there

  -- entries at their own keys make a map of rows at their own keys
  pub rows_at_own_keys : (es : List (K × V)) → map key (values_of es) ≡ keys_of es → AllRows (λ k v. key v ≡ k) (from_entries {R = R} es)
  rows_at_own_keys es keyed k v there = found_at_own_key es keyed k v (sym (get_rows total es k) ∙ there)

  listed_at_own_keys : (es : List (K × V)) → list_all (λ e. eq_by_cmp R (key e.1) e.0) es ≡ true → map key (values_of es) ≡ keys_of es
  listed_at_own_keys [] all = refl
  listed_at_own_keys (e ∷ es) all =
      let both = and_parts _ _ all in
      λ i. same_key same (key e.1) e.0 both.0 i ∷ listed_at_own_keys es both.1 i

  -- and a map of rows at their own keys has entries at their own keys
  pub entries_at_own_keys : (m : FinMap R V) → AllRows (λ k v. key v ≡ k) m → map key (values m) ≡ keys_of (entries m)
  entries_at_own_keys m own =
      let again = map_of_entries total same m in
      let each : AllRows (λ k v. eq_by_cmp R (key v) k ≡ true) (from_entries {R = R} (entries m)) =
      subst (AllRows (λ k v. eq_by_cmp R (key v) k ≡ true)) (sym again) (λ k v there. subst (λ q. eq_by_cmp R (key v) q ≡ true) (own k v there) ((eq_by_cmp_equiv total).refl (key v))) in
      listed_at_own_keys (entries m) (list_all-from_AllRows (λ k v. eq_by_cmp R (key v) k) total same (entries m) (entries_in_order m) each)

  -- so its rows have distinct keys, in whatever order they come
  pub distinct_keys : (m : FinMap R V) (rows : List V) → AllRows (λ k v. key v ≡ k) m → IsPermutation rows (values m) → IsDistinct (eq_by_cmp R) (map key rows)
  distinct_keys m rows own permuted =
      IsDistinct-IsPermutation (eq_by_cmp R) (eq_by_cmp_equiv total).symm (map key (values m)) (map key rows) (IsPermutation-sym _ _ (IsPermutation-map key rows (values m) permuted))
      (subst (IsDistinct (eq_by_cmp R)) (sym (entries_at_own_keys m own)) (IsDistinct-from_sorted R (keys_of (entries m)) (entries_in_order m)))

module _ {K V : Type 0} {R : K → K → Ordering} (total : IsTotalOrder R) (same : IsAntisymmetric R) (P : V → Type 0) where
  -- what holds of each row that is there holds of each value
  each_value : (es : List (K × V)) → IsStrictlySortedBy R (keys_of es) → ((k : K) (v : V) → row_at R es k ≡ Some v → P v) → All P (values_of es)
  unfolding IsStrictlySortedBy
  each_value [] sorted all = All-nil P
  each_value (e ∷ es) sorted all =
      All-cons P e.1 (values_of es) (all e.0 e.1 (ap (λ b. cond b (Some e.1) (row_at R es e.0)) (tied total e.0)))
      (each_value es sorted.1 (λ k v there. all k v (ap (λ b. cond b (Some e.1) (row_at R es k)) (apart same e.0 es sorted.0 k v there) ∙ there)))

  -- and what holds of each value, of each row that is there
  each_row : (es : List (K × V)) → All P (values_of es) → (k : K) (v : V) → row_at R es k ≡ Some v → P v
  each_row [] all k v there = absurd (none-some v there)
  each_row (e ∷ es) all k v there =
      elim (is_at (R k) e.0) as (λ b. cond b (Some e.1) (row_at R es k) ≡ Some v → P v) [
        | true ↦ λ here. subst P (same_Some e.1 v here) (All-head P e.1 (values_of es) all)
        | false ↦ λ here. each_row es (All-tail P e.1 (values_of es) all) k v here
      ] there

  row_of_entries : (m : FinMap R V) (k : K) → get m k ≡ row_at R (entries m) k
  row_of_entries m k = sym (ap (λ n. get n k) (map_of_entries total same m)) ∙ get_rows total (entries m) k

  pub values_hold : (m : FinMap R V) → AllRows (λ k v. P v) m → All P (values m)
  values_hold m all = each_value (entries m) (entries_in_order m) (λ k v there. all k v (row_of_entries m k ∙ there))

  pub rows_hold : (m : FinMap R V) → All P (values m) → AllRows (λ k v. P v) m
  rows_hold m all k v there = each_row (entries m) all k v (sym (row_of_entries m k) ∙ there)

module _ {K V : Type 0} {R : K → K → Ordering} (total : IsTotalOrder R) (same : IsAntisymmetric R) (key : V → K) where
  there_too : (m n : FinMap R V) → AllRows (λ k v. key v ≡ k) m → AllRows (λ k v. key v ≡ k) n → IsPermutation (values m) (values n) → (k : K) (v : V) → get m k ≡ Some v → get n k ≡ Some v
  there_too m n own others permuted k v there =
      let P : V → Type 0 = λ w. get n (key w) ≡ Some w in
      let second : All P (values n) = values_hold total same P n (λ q w at. subst (λ x. get n x ≡ Some w) (sym (others q w at)) at) in
      let first : All P (values m) = All-permutation P (values n) (values m) (IsPermutation-sym (values m) (values n) permuted) second in
      subst (λ x. get n x ≡ Some v) (own k v there) (rows_hold total same P m first k v there)

  -- maps of the same rows, each at its own key, are the same map
  pub same_maps : (m n : FinMap R V) → AllRows (λ k v. key v ≡ k) m → AllRows (λ k v. key v ≡ k) n → IsPermutation (values m) (values n) → m ≡ n
  same_maps m n own others permuted = same_map total same m n (λ k.
      agree (get m k) (get n k) (there_too m n own others permuted k) (there_too n m others own (IsPermutation-sym (values m) (values n) permuted) k))
    where
      agree : (o p : Option V) → ((v : V) → o ≡ Some v → p ≡ Some v) → ((v : V) → p ≡ Some v → o ≡ Some v) → o ≡ p
      agree None None f g = refl
      agree None (Some v) f g = g v refl
      agree (Some v) p f g = sym (f v refl)
