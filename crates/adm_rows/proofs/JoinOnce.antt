-- Keys of joined rows that occur once each.
use Rattle.std.proofs.Common.{◌≡◌, ◌∙◌, inl, inr, ap, sym, subst, refl, cond, Bool, true, false, ℕ, List, [], ◌∷◌, ◌++◌, map, Option, Some, None}
use Rattle.std.specs.declared.cmp.Ordering.{Ordering}
use Rattle.std.specs.declared.cmp.Ordering.TheVariants.{Less, Equal, Greater}
use Rattle.std.specs.Ordering.{is_eq, nat_cmp, bool_cmp, ordering_then, eq_by_cmp}
use Rattle.std.specs.Cmp.{IsTotalOrder, nat_cmp_total, bool_cmp_total}
use Rattle.std.specs.BTreeMap.{is_at}
use Rattle.std.specs.Map.{lookup, keys_of, values_of}
use Rattle.std.specs.List.{IsDistinct, flat_map}
use Rattle.std.specs.List.Sorted.{IsStrictlySortedBy}
use Rattle.std.specs.FinMap.{FinMap, get, values, entries, IsAntisymmetric, nat_cmp-IsAntisymmetric}
use Rattle.std.proofs.lemmas.List.{map-append}
use Rattle.std.proofs.lemmas.Cmp.{then_total, on_total, eq_by_cmp_equiv}
use Rattle.std.proofs.lemmas.List.Sorted.{IsPermutation-map}
use Rattle.std.proofs.lemmas.Map.Keys.{IsDistinct-head, IsDistinct-tail, IsDistinct-cons, IsDistinct-from_sorted, IsDistinct-IsPermutation}
use Rattle.std.proofs.lemmas.Map.Lookups.{exact_pairs}
use Rattle.adm_types.specs.Children.{present_row, present_of_child, present_of_import, presents_of}
use Rattle.adm_types.specs.declared.rows.Child.{Child}
use Rattle.adm_types.specs.declared.rows.Row.{Row as ImportRow}
use Rattle.adm_types.specs.declared.rows.PresentRow.{PresentRow}
use Rattle.adm_lists.proofs.Orders.{tied}
use Rattle.adm_lists.proofs.Members.{In, all_in, in_all, in_map, from_map, from_append, from_flat_map, in_right}
use Rattle.adm_lists.proofs.Maps.{entries_in_order, get_rows, map_of_entries, apart}
use Rattle.adm_rows.specs.Joins.{IsOnceEach, IsOnceEachKey, IsJoin, key_cmp, present_key, import_no}

-- ---- the order of the keys

pub key_total : IsTotalOrder key_cmp
key_total = then_total (on_total (λ (k : ℕ × Bool). k.0) nat_cmp_total) (on_total (λ (k : ℕ × Bool). k.1) bool_cmp_total)

bool_exact : (a b : Bool) → bool_cmp a b ≡ Equal → a ≡ b
bool_exact true true tie = refl
bool_exact true false tie = cc
bool_exact false true tie = cc
bool_exact false false tie = refl

pub key_exact : IsAntisymmetric key_cmp
key_exact = exact_pairs nat_cmp bool_cmp nat_cmp-IsAntisymmetric bool_exact

-- keys of other numbers differ
other_number : (a b : ℕ) (p q : Bool) → eq_by_cmp nat_cmp a b ≡ false → eq_by_cmp key_cmp (a, p) (b, q) ≡ false
other_number a b p q apart = by (nat_cmp a b) apart
  where
    by : (r : Ordering) → is_eq r ≡ false → is_eq (ordering_then r (bool_cmp p q)) ≡ false
    by Less apart = refl
    by Equal apart = cc
    by Greater apart = refl

-- and so do those of a child and of an imported row
other_kind : (a b : ℕ) → eq_by_cmp key_cmp (a, false) (b, true) ≡ false
other_kind a b = by (nat_cmp a b)
  where
    by : (r : Ordering) → is_eq (ordering_then r (bool_cmp false true)) ≡ false
    by Less = refl
    by Equal = refl
    by Greater = refl

-- ---- keys that occur twice

module _ {K : Type 0} {R : K → K → Ordering} (total : IsTotalOrder R) where
  -- a key that is before itself occurs twice
  pub twice : (xs ys : List K) (k : K) → In k xs → IsDistinct (eq_by_cmp R) (xs ++ k ∷ ys) → ⊥
  twice [] ys k at once = at
  twice (x ∷ xs) ys k at once = elim at [
    | inl same ↦
        let other : eq_by_cmp R x k ≡ false = all_in (λ y. eq_by_cmp R x y ≡ false) (xs ++ k ∷ ys) k (IsDistinct-head (eq_by_cmp R) x _ once) (in_right xs (k ∷ ys) k (inl refl)) in
        let wrong : true ≡ false = sym (tied total k) ∙ ap (λ y. eq_by_cmp R y k) (sym same) ∙ other in
        cc
    | inr later ↦ twice xs ys k later (IsDistinct-tail (eq_by_cmp R) x _ once)
  ]

  -- keys that occur once each in two lists, none of the one equal to one of the other
  once_append : (xs ys : List K) → IsDistinct (eq_by_cmp R) xs → IsDistinct (eq_by_cmp R) ys → ((x y : K) → In x xs → In y ys → eq_by_cmp R x y ≡ false) → IsDistinct (eq_by_cmp R) (xs ++ ys)
  once_append [] ys first second apart = second
  once_append (x ∷ xs) ys first second apart =
      IsDistinct-cons (eq_by_cmp R) x (xs ++ ys)
      (in_all (λ y. eq_by_cmp R x y ≡ false) (xs ++ ys) (λ y at. elim (from_append xs ys y at) [
        | inl here ↦ all_in (λ y. eq_by_cmp R x y ≡ false) xs y (IsDistinct-head (eq_by_cmp R) x xs first) here
        | inr there ↦ apart x y (inl refl) there
      ]))
      (once_append xs ys (IsDistinct-tail (eq_by_cmp R) x xs first) second (λ z y here there. apart z y (inr here) there))

-- ---- the keys of rows of present schools

-- the row of a present school is at its key
pub key_of_present : (n : ℕ) (imported : Bool) (o : Option (List ℕ)) (row : PresentRow) → In row (present_row n imported o) → present_key row ≡ (n, imported)
key_of_present n imported None row at = absurd at
key_of_present n imported (Some school) row at = elim at [ inl same ↦ ap present_key (sym same) | inr later ↦ absurd later ]

module _ {X : Type 0} (imported : Bool) (no : X → ℕ) (present : X → Option (List ℕ)) where
  abbrev given : List X → List PresentRow
  given xs = flat_map (λ x. present_row (no x) imported (present x)) xs

  -- the key of a row that is given is that of one of them
  pub key_given : (xs : List X) (row : PresentRow) → In row (given xs) → (x : X) × In x xs × (present_key row ≡ (no x, imported))
  key_given xs row at =
      let found = from_flat_map (λ x. present_row (no x) imported (present x)) xs row at in
      (found.0, found.1, key_of_present (no found.0) imported (present found.0) row found.2)

  -- where no number occurs twice, no key does
  once_given : (xs : List X) → IsOnceEach (map no xs) → IsOnceEachKey (given xs)
  unfolding IsDistinct
  once_given [] once = tt
  once_given (x ∷ xs) once = by (present x) (once_given xs (IsDistinct-tail (eq_by_cmp nat_cmp) (no x) (map no xs) once))
    where
      first : (k : ℕ × Bool) → In k (map present_key (given xs)) → eq_by_cmp key_cmp (no x, imported) k ≡ false
      first k at =
          let row = from_map present_key (given xs) k at in
          let other = key_given xs row.0 row.1 in
          let numbers : eq_by_cmp nat_cmp (no x) (no other.0) ≡ false =
          all_in (λ n. eq_by_cmp nat_cmp (no x) n ≡ false) (map no xs) (no other.0) (IsDistinct-head (eq_by_cmp nat_cmp) (no x) (map no xs) once) (in_map no xs other.0 other.1) in
          subst (λ q. eq_by_cmp key_cmp (no x, imported) q ≡ false) (sym other.2 ∙ row.2) (other_number (no x) (no other.0) imported imported numbers)

      by : (o : Option (List ℕ)) → IsOnceEachKey (given xs) → IsOnceEachKey (present_row (no x) imported o ++ given xs)
      by None rest = rest
      by (Some school) rest = IsDistinct-cons (eq_by_cmp key_cmp) (
        no x,
        imported,
      ) (map present_key (given xs)) (in_all (λ k. eq_by_cmp key_cmp (no x, imported) k ≡ false) (map present_key (given xs)) first) rest

-- the rows of children and of imported rows have no key twice, where no number occurs twice in either
once_presents : (children : List Child) (imported : List ImportRow) → IsOnceEach (map (λ c. c.no) children) → IsOnceEach (map import_no imported) → IsOnceEachKey (presents_of children imported)
once_presents children imported once once_imported =
    subst (IsDistinct (eq_by_cmp key_cmp)) (sym (map-append present_key (flat_map present_of_child children) (flat_map present_of_import imported)))
    (once_append key_total (map present_key (flat_map present_of_child children)) (map present_key (flat_map present_of_import imported))
    (once_given false (λ (c : Child). c.no) (λ c. c.present) children once)
    (once_given true import_no (λ row. row.child.present) imported once_imported)
    (λ x y here there.
    let row = from_map present_key (flat_map present_of_child children) x here in
    let other = from_map present_key (flat_map present_of_import imported) y there in
    let child = key_given false (λ (c : Child). c.no) (λ c. c.present) children row.0 row.1 in
    let import = key_given true import_no (λ r. r.child.present) imported other.0 other.1 in
    let first : (child.0.no, false) ≡ x = sym child.2 ∙ row.2 in
    let second : (import_no import.0, true) ≡ y = sym import.2 ∙ other.2 in
    subst (λ k. eq_by_cmp key_cmp k y ≡ false) first (subst (λ k. eq_by_cmp key_cmp (child.0.no, false) k ≡ false) second (other_kind child.0.no (import_no import.0)))))

-- rows that can be joined have no key twice
pub once_joined : (children : List Child) (imported : List ImportRow) (rows : List PresentRow) (joined : List Child) (joined_imports : List ImportRow)
    → IsJoin children imported rows joined joined_imports → IsOnceEachKey rows
once_joined children imported rows joined joined_imports it =
    IsDistinct-IsPermutation (eq_by_cmp key_cmp) (eq_by_cmp_equiv key_total).symm _ _ (IsPermutation-map present_key _ _ it.presents) (once_presents joined joined_imports it.once it.once_imported)

-- ---- the rows of a map, each at its own number

module _ {V : Type 0} (no : V → ℕ) where
  -- an entry of a list in order is found at its key
  at_entry : (es : List (ℕ × V)) (e : ℕ × V) → IsStrictlySortedBy nat_cmp (keys_of es) → In e es → lookup (is_at (nat_cmp e.0)) es ≡ Some e.1
  unfolding IsStrictlySortedBy
  at_entry [] e sorted at = absurd at
  at_entry (x ∷ xs) e sorted at = elim at [
    | inl same ↦ ap (λ b. cond b (Some x.1) (lookup (is_at (nat_cmp e.0)) xs)) (ap (λ (y : ℕ × V). is_at (nat_cmp e.0) y.0) same ∙ tied nat_cmp_total e.0) ∙ ap (λ (y : ℕ × V). Some y.1) same
    | inr later ↦
        let there = at_entry xs e sorted.1 later in
        ap (λ b. cond b (Some x.1) (lookup (is_at (nat_cmp e.0)) xs)) (apart nat_cmp-IsAntisymmetric x.0 xs sorted.0 e.0 e.1 there) ∙ there
  ]

  own_numbers : (es : List (ℕ × V)) → ((e : ℕ × V) → In e es → no e.1 ≡ e.0) → map no (values_of es) ≡ keys_of es
  own_numbers [] own = refl
  own_numbers (e ∷ es) own = λ i. own e (inl refl) i ∷ own_numbers es (λ x at. own x (inr at)) i

  -- no number occurs twice among the rows of a map that has each at its own number
  pub once_values : (m : FinMap nat_cmp V) → ((k : ℕ) (v : V) → get m k ≡ Some v → no v ≡ k) → IsOnceEach (map no (values m))
  once_values m own =
      let sorted = entries_in_order m in
      let found : (e : ℕ × V) → In e (entries m) → get m e.0 ≡ Some e.1 =
      λ e at. sym (ap (λ n. get n e.0) (map_of_entries nat_cmp_total nat_cmp-IsAntisymmetric m)) ∙ get_rows nat_cmp_total (entries m) e.0 ∙ at_entry (entries m) e sorted at in
      subst (IsDistinct (eq_by_cmp nat_cmp)) (sym (own_numbers (entries m) (λ e at. own e.0 e.1 (found e at)))) (IsDistinct-from_sorted nat_cmp (keys_of (entries m)) sorted)
