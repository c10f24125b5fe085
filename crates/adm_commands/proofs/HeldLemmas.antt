-- How many places at a school are not those of a plan.
use Rattle.std.proofs.Common.{◌≡◌, ◌∙◌, ap, sym, subst, refl, cond, true, false, ℕ, ◌+◌, ◌≤◌, List, [], ◌∷◌, Some, None, arith}
use Rattle.std.specs.Prelude.{Option, sum_by, option_map, unwrap_or}
use Rattle.std.specs.Ordering.{nat_cmp}
use Rattle.std.specs.Cmp.{nat_cmp_total}
use Rattle.std.specs.List.Sorted.{IsStrictlySortedBy}
use Rattle.std.specs.BTreeMap.{is_at}
use Rattle.std.specs.Map.{keys_of, values_of, lookup, remove_entry}
use Rattle.std.specs.FinMap.{FinMap, get, empty, entries, nat_cmp-IsAntisymmetric}
use Rattle.std.proofs.lemmas.List.Sums.{sum_by-cons}
use Rattle.std.proofs.lemmas.Map.Entries.{sum_by-remove_entry}
use Rattle.adm_lists.proofs.Orders.{tied, same_key}
use Rattle.adm_lists.proofs.Maps.{values-empty, apart, entries_in_order, map_of_entries, get_rows}
use Rattle.adm_types.specs.declared.rows.PlaceRow.{PlaceRow}
use Rattle.adm_register.specs.WellFormed.{AllRows, is_unplanned_at, places_outside_plans}

abbrev Entries : Type 0
Entries = List (ℕ × PlaceRow)

abbrev weight : List ℕ → PlaceRow → ℕ
weight code row = cond (is_unplanned_at (Some row) code) 1 0

total-cons : (f : PlaceRow → ℕ) (e : ℕ × PlaceRow) (es : Entries) → sum_by f (values_of (e ∷ es)) ≡ f e.1 + sum_by f (values_of es)
total-cons f e es = sum_by-cons f e.1 (values_of es)

-- what another key has stays where one is removed
lookup-remove : (k q : ℕ) (es : Entries) → is_at (nat_cmp q) k ≡ false → lookup (is_at (nat_cmp q)) (remove_entry (is_at (nat_cmp k)) es) ≡ lookup (is_at (nat_cmp q)) es
lookup-remove k q [] other = refl
lookup-remove k q (e ∷ es) other =
    elim (is_at (nat_cmp k) e.0) as (λ b. is_at (nat_cmp k) e.0 ≡ b → lookup (is_at (nat_cmp q)) (cond b es (e ∷ remove_entry (is_at (nat_cmp k)) es)) ≡ lookup (is_at (nat_cmp q)) (e ∷ es)) [
      | true ↦ λ here. sym (ap (λ b. cond b (Some e.1) (lookup (is_at (nat_cmp q)) es)) (subst (λ x. is_at (nat_cmp q) x ≡ false) (same_key nat_cmp-IsAntisymmetric k e.0 here) other))
      | false ↦ λ here. ap (cond (is_at (nat_cmp q) e.0) (Some e.1)) (lookup-remove k q es other)
    ] refl

module _ (code : List ℕ) where
  abbrev f : PlaceRow → ℕ
  f = weight code

  -- the places of one list are at most as many as those of another where each of them corresponds to one of the other with its key
  sums : (es fs : Entries) → IsStrictlySortedBy nat_cmp (keys_of es)
      → ((q : ℕ) (row : PlaceRow) → lookup (is_at (nat_cmp q)) es ≡ Some row → is_unplanned_at (Some row) code ≡ true → is_unplanned_at (lookup (is_at (nat_cmp q)) fs) code ≡ true)
      → sum_by f (values_of es) ≤ sum_by f (values_of fs)
  unfolding IsStrictlySortedBy
  sums [] fs sorted stand = omega arith
  sums (e ∷ es) fs sorted stand =
      let later : (q : ℕ) (row : PlaceRow) → lookup (is_at (nat_cmp q)) es ≡ Some row → lookup (is_at (nat_cmp q)) (e ∷ es) ≡ Some row =
      λ q row there. ap (λ b. cond b (Some e.1) (lookup (is_at (nat_cmp q)) es)) (apart nat_cmp-IsAntisymmetric e.0 es sorted.0 q row there) ∙ there in
      elim (is_unplanned_at (Some e.1) code) as (λ b. is_unplanned_at (Some e.1) code ≡ b → sum_by f (values_of (e ∷ es)) ≤ sum_by f (values_of fs)) [
        | false ↦ λ free.
            let rest = sums es fs sorted.1 (λ q row there held. stand q row (later q row there) held) in
            let none : f e.1 ≡ 0 = ap (λ b. cond b 1 0) free in
            omega (arith, rest, none, total-cons f e es)
        | true ↦ λ held.
            let one : f e.1 ≡ 1 = ap (λ b. cond b 1 0) held in
            let first = stand e.0 e.1 (ap (λ b. cond b (Some e.1) (lookup (is_at (nat_cmp e.0)) es)) (tied nat_cmp_total e.0)) held in
            let others = remove_entry (is_at (nat_cmp e.0)) fs in
            let rest = sums es others sorted.1
            (λ q row there here.
            let other : is_at (nat_cmp q) e.0 ≡ false = apart nat_cmp-IsAntisymmetric e.0 es sorted.0 q row there in
            ap (λ o. is_unplanned_at o code) (lookup-remove e.0 q fs other) ∙ stand q row (later q row there) here) in
            let all = sum_by-remove_entry f (is_at (nat_cmp e.0)) fs in
            let gone = taken (lookup (is_at (nat_cmp e.0)) fs) first in
            omega (arith, rest, one, all, gone, total-cons f e es)
      ] refl
    where
      taken : (o : Option PlaceRow) → is_unplanned_at o code ≡ true → unwrap_or (option_map f o) 0 ≡ 1
      taken None held = cc
      taken (Some row) held = ap (λ b. cond b 1 0) held

  at_entries : (places : FinMap nat_cmp PlaceRow) (q : ℕ) → get places q ≡ lookup (is_at (nat_cmp q)) (entries places)
  at_entries places q = sym (ap (λ m. get m q) (map_of_entries nat_cmp_total nat_cmp-IsAntisymmetric places)) ∙ get_rows nat_cmp_total (entries places) q

  -- at most as many are held as before where each that is held was held
  pub held_le : (places new : FinMap nat_cmp PlaceRow) → ((number : ℕ) (row : PlaceRow) → get new number ≡ Some row → is_unplanned_at (Some row) code ≡ true
      → is_unplanned_at (get places number) code ≡ true)
      → places_outside_plans new code ≤ places_outside_plans places code
  held_le places new stand = sums (entries new) (entries places) (entries_in_order new)
      (λ q row there held. ap (λ o. is_unplanned_at o code) (sym (at_entries places q)) ∙ stand q row (at_entries new q ∙ there) held)

  -- none is held where none of the places is
  pub none_held : (places : FinMap nat_cmp PlaceRow) → AllRows (λ number row. is_unplanned_at (Some row) code ≡ false) places → places_outside_plans places code ≡ 0
  none_held places free =
      let less = held_le empty places (λ q row there held. let none = free q row there in cc (none, held)) in
      let zero : places_outside_plans empty code ≡ 0 = ap (sum_by f) (values-empty nat_cmp PlaceRow) in
      omega (arith, less, zero)
