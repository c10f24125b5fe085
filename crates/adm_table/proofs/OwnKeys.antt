-- Rows put one after another into a table, each at the key that is in it.
use Rattle.std.proofs.Common.{◌≡◌, ◌∙◌, ap, sym, subst, refl, cond, Bool, true, false, List, [], ◌∷◌, ◌++◌, Some, None}
use Rattle.std.specs.Prelude.{map, Option, is_some, ◌||◌}
use Rattle.std.specs.declared.cmp.Ordering.{Ordering}
use Rattle.std.specs.declared.cmp.Ordering.TheVariants.{Less, Equal, Greater}
use Rattle.std.specs.Ordering.{eq_by_cmp, is_eq, match_ordering}
use Rattle.std.specs.Cmp.{IsTotalOrder, eq_by_cmp_equiv}
use Rattle.std.specs.BTreeMap.{insert_entry, is_at}
use Rattle.std.specs.Map.{lookup, keys_of, values_of}
use Rattle.std.specs.List.{IsDistinct, AllByRecursion, list_any}
use Rattle.std.specs.List.Sorted.{IsPermutation}
use Rattle.std.proofs.lemmas.List.Sorted.{IsPermutation-refl, IsPermutation-sym, IsPermutation-trans, IsPermutation-cons, IsPermutation-middle, IsPermutation-map, list_any-IsPermutation}
use Rattle.std.proofs.lemmas.Map.Keys.{IsDistinct-head, IsDistinct-IsPermutation}
use Rattle.std.proofs.lemmas.Map.Made.{is_some-lookup}
use Rattle.std.proofs.lemmas.Bool.{both_ways}

not_none : {A : Type 0} (x : A) → Some x ≡ None → ⊥
not_none x e = cc

pub none_of : {A : Type 0} (o : Option A) → is_some o ≡ false → o ≡ None
none_of None e = refl
none_of (Some x) e = cc

module _ {K V : Type 0} (R : K → K → Ordering) where
  -- an entry whose key is new joins the others
  pub new_entry : (es : List (K × V)) (k : K) (v : V) → lookup (is_at (R k)) es ≡ None → IsPermutation (v ∷ values_of es) (values_of (insert_entry R es k v))
  new_entry [] k v none = IsPermutation-refl (v ∷ [])
  new_entry (e ∷ es) k v none =
      elim (R k e.0) as (λ r. R k e.0 ≡ r → IsPermutation (v ∷ e.1 ∷ values_of es) (values_of (match_ordering r ((k, v) ∷ e ∷ es) ((e.0, v) ∷ es) (e ∷ insert_entry R es k v)))) [
        | Less ↦ λ is. IsPermutation-refl _
        | Equal ↦ λ is. absurd (not_none e.1 (sym (ap (λ r. cond (is_eq r) (Some e.1) (lookup (is_at (R k)) es)) is) ∙ none))
        | Greater ↦ λ is.
            let rest = new_entry es k v (sym (ap (λ r. cond (is_eq r) (Some e.1) (lookup (is_at (R k)) es)) is) ∙ none) in
            IsPermutation-trans _ _ _ (IsPermutation-sym _ _ (IsPermutation-middle (e.1 ∷ []) v (values_of es))) (IsPermutation-cons e.1 _ _ rest)
      ] refl

  -- and is at its own key, as they do
  pub own_keys : (key : V → K) (es : List (K × V)) (v : V) → lookup (is_at (R (key v))) es ≡ None → map key (values_of es) ≡ keys_of es
      → map key (values_of (insert_entry R es (key v) v)) ≡ keys_of (insert_entry R es (key v) v)
  own_keys key [] v none keyed = refl
  own_keys key (e ∷ es) v none keyed =
      let first : key e.1 ≡ e.0 = cc (keyed) in
      let others : map key (values_of es) ≡ keys_of es = cc (keyed) in
      elim (R (key v) e.0) as (λ r. R (key v) e.0 ≡ r → map key
      (values_of (match_ordering r ((key v, v) ∷ e ∷ es) ((e.0, v) ∷ es) (e ∷ insert_entry R es (key v) v))) ≡ keys_of
      (match_ordering r ((key v, v) ∷ e ∷ es) ((e.0, v) ∷ es) (e ∷ insert_entry R es (key v) v))) [
        | Less ↦ λ is i. key v ∷ keyed i
        | Equal ↦ λ is. absurd (not_none e.1 (sym (ap (λ r. cond (is_eq r) (Some e.1) (lookup (is_at (R (key v))) es)) is) ∙ none))
        | Greater ↦ λ is i. first i ∷ own_keys key es v (sym (ap (λ r. cond (is_eq r) (Some e.1) (lookup (is_at (R (key v))) es)) is) ∙ none) others i
      ] refl

none_of_them : {K : Type 0} (p : K → Bool) (xs ys : List K) → AllByRecursion (λ y. p y ≡ false) (xs ++ ys) → list_any p xs ≡ false
none_of_them p [] ys all = refl
none_of_them p (x ∷ xs) ys all = λ i. all.0 i || none_of_them p xs ys all.1 i

module _ {K V : Type 0} {R : K → K → Ordering} (total : IsTotalOrder R) (key : V → K) where
  -- rows of which one has the key of an earlier one are not distinct
  pub two_with_one_key : (es : List (K × V)) (before after : List V) (row : V) → IsPermutation before (values_of es) → map key (values_of es) ≡ keys_of es
      → is_some (lookup (is_at (R (key row))) es) ≡ true → IsDistinct (eq_by_cmp R) (map key (before ++ row ∷ after)) → ⊥
  two_with_one_key es before after row same keyed there distinct =
      let k = key row in
      let found : list_any (eq_by_cmp R k) (map key before) ≡ true =
      list_any-IsPermutation (eq_by_cmp R k) _ _ (IsPermutation-map key before (values_of es) same) ∙ ap (list_any (eq_by_cmp R k)) keyed ∙ sym (is_some-lookup (is_at (R k)) es) ∙ there in
      let moved : IsDistinct (eq_by_cmp R) (map key (row ∷ (before ++ after))) =
      IsDistinct-IsPermutation (eq_by_cmp R) (eq_by_cmp_equiv total).symm _ _ (IsPermutation-map key _ _ (IsPermutation-middle before row after)) distinct in
      let none : list_any (eq_by_cmp R k) (map key before) ≡ false =
      none_of_them (eq_by_cmp R k) (map key before) (map key after) (subst (AllByRecursion (λ y. eq_by_cmp R k y ≡ false)) (split before after) (IsDistinct-head (eq_by_cmp R) k _ moved)) in
      both_ways _ none found
    where
      split : (xs ys : List V) → map key (xs ++ ys) ≡ map key xs ++ map key ys
      split [] ys = refl
      split (x ∷ xs) ys = ap (λ zs. key x ∷ zs) (split xs ys)
