-- Lists that each element of another gives, and what the values of one map give by those of a map with more keys.
use Rattle.std.proofs.Common.{◌≡◌, ◌∙◌, inl, inr, Bool, true, false, cond, ◌&&◌, List, [], ◌∷◌, ◌++◌, map, filter, flat_map, Some, None, Option, option_map, unwrap_or, refl, sym, ap, subst, append_assoc, T}
use Rattle.std.specs.Prelude.{is_some}
use Rattle.std.specs.List.Sorted.{IsPermutation}
use Rattle.std.specs.declared.cmp.Ordering.{Ordering}
use Rattle.std.specs.Ordering.{is_lt, eq_by_cmp}
use Rattle.std.specs.Cmp.{IsTotalOrder}
use Rattle.std.specs.FinMap.Entries.{where_key, below_all, is_sorted-where_key, find-where_key, same_entries}
use Rattle.std.specs.FinMap.{FinMap, find, is_sorted, get, values, entries, entries_sorted, get-entries, contains_key, IsAntisymmetric}
use Rattle.std.proofs.lemmas.Bool.{false≢true}
use Rattle.std.proofs.lemmas.List.Elements.{filter-append}
use Rattle.std.proofs.lemmas.List.Sorted.{IsPermutation-refl, IsPermutation-trans, IsPermutation-append_left, IsPermutation-append_right, IsPermutation-append_comm}
use Rattle.sqlite_rules.specs.Lists.{Has}
use Rattle.sqlite_rules.proofs.ListLemmas.{has_filtered, has_either, has_left, has_right}
use Rattle.sqlite_trees.proofs.ListLemmas.{map-map, flat_map-map, flat_map-filter}
use Rattle.adm_lists.proofs.Orders.{same_key}
use Rattle.adm_rows.proofs.Entries.{own_entry}
use Rattle.adm_rows.proofs.MapRows.{row_there}

-- ---- lists

module _ {A B : Type 0} where
  -- two ways of giving that agree at each element of a list
  pub flat_map_at : (f g : A → List B) (xs : List A) → ((x : A) → Has xs x → f x ≡ g x) → flat_map f xs ≡ flat_map g xs
  flat_map_at f g [] same = refl
  flat_map_at f g (x ∷ xs) same = λ i. same x (inl refl) i ++ flat_map_at f g xs (λ y h. same y (inr h)) i

  -- what is given by the elements that pass a test, where the others give nothing
  pub flat_map_where : (f : A → List B) (p : A → Bool) (xs : List A) → ((x : A) → Has xs x → p x ≡ false → f x ≡ []) → flat_map f (filter p xs) ≡ flat_map f xs
  flat_map_where f p [] none = refl
  flat_map_where f p (x ∷ xs) none = go (p x) refl (flat_map_where f p xs (λ y h. none y (inr h)))
    where
      go : (b : Bool) → p x ≡ b → flat_map f (filter p xs) ≡ flat_map f xs → flat_map f (cond b (x ∷ filter p xs) (filter p xs)) ≡ f x ++ flat_map f xs
      go true is more = ap (λ l. f x ++ l) more
      go false is more = more ∙ sym (ap (λ l. l ++ flat_map f xs) (none x (inl refl) is))

  -- what is given and passes a test
  pub filter-flat_map : (p : B → Bool) (f : A → List B) (xs : List A) → filter p (flat_map f xs) ≡ flat_map (λ x. filter p (f x)) xs
  filter-flat_map p f [] = refl
  filter-flat_map p f (x ∷ xs) = filter-append p (f x) (flat_map f xs) ∙ ap (λ l. filter p (f x) ++ l) (filter-flat_map p f xs)

  -- what is given is given by an element
  pub from_given : (f : A → List B) (xs : List A) (y : B) → Has (flat_map f xs) y → (x : A) × Has xs x × Has (f x) y
  from_given f [] y h = absurd h
  from_given f (x ∷ xs) y h = elim (has_either (f x) (flat_map f xs) y h) [
    | inl here ↦ (x, inl refl, here)
    | inr later ↦ let it = from_given f xs y later in (it.0, inr it.1, it.2)
  ]

  -- and what an element gives is given
  pub is_given : (f : A → List B) (xs : List A) (x : A) (y : B) → Has xs x → Has (f x) y → Has (flat_map f xs) y
  is_given f [] x y h here = absurd h
  is_given f (z ∷ zs) x y (inl is) here = has_left (f z) (flat_map f zs) y (subst (λ w. Has (f w) y) is here)
  is_given f (z ∷ zs) x y (inr h) here = has_right (f z) (flat_map f zs) y (is_given f zs x y h here)

-- the middle two of four lists change places
pub middle_turned : {X : Type 0} (a b c d : List X) → IsPermutation ((a ++ b) ++ (c ++ d)) ((a ++ c) ++ (b ++ d))
middle_turned a b c d =
    let out = λ (x y : List _). append_assoc a x (y ++ d) ∙ ap (λ l. a ++ l) (sym (append_assoc x y d)) in
    let turn = IsPermutation-append_right a _ _ (IsPermutation-append_left d _ _ (IsPermutation-append_comm b c)) in
    subst (IsPermutation ((a ++ b) ++ (c ++ d))) (sym (out c b)) (subst (λ l. IsPermutation l (a ++ ((c ++ b) ++ d))) (sym (out b c)) turn)

-- where each element gives two lists, all the first ones and then all the second ones
pub flat_map_both : {A B : Type 0} (f g : A → List B) (xs : List A) → IsPermutation (flat_map (λ x. f x ++ g x) xs) (flat_map f xs ++ flat_map g xs)
flat_map_both f g [] = IsPermutation-refl []
flat_map_both f g (x ∷ xs) = IsPermutation-trans _ _ _ (IsPermutation-append_right (f x ++ g x) _ _ (flat_map_both f g xs)) (middle_turned (f x) (g x) (flat_map f xs) (flat_map g xs))

-- one test after another is both
pub filter_twice : {X : Type 0} (p q : X → Bool) (xs : List X) → filter p (filter q xs) ≡ filter (λ x. q x && p x) xs
filter_twice p q [] = refl
filter_twice p q (x ∷ xs) =
    elim (q x) as (λ b. filter p (cond b (x ∷ filter q xs) (filter q xs)) ≡ cond (b && p x) (x ∷ filter (λ x. q x && p x) xs) (filter (λ x. q x && p x) xs)) [
      | true ↦ ap (λ l. cond (p x) (x ∷ l) l) (filter_twice p q xs)
      | false ↦ filter_twice p q xs
    ]

-- a test that all pass
pub filter_true : {X : Type 0} (xs : List X) → filter (λ x. true) xs ≡ xs
filter_true [] = refl
filter_true (x ∷ xs) = ap (λ l. x ∷ l) (filter_true xs)

-- ---- a map, of which each key is a key of another one

-- the entries with other values at their keys
module _ {K V W : Type 0} (R : K → K → Ordering) (f : K → V → W) where
  abbrev with_values : List (K × V) → List (K × W)
  with_values es = map (λ (e : K × V). (e.0, f e.0 e.1)) es

  -- they are above a key where they were
  below_with : (k : K) (es : List (K × V)) → below_all R k (with_values es) ≡ below_all R k es
  below_with k [] = refl
  below_with k (e ∷ es) = ap (λ b. is_lt (R k e.0) && b) (below_with k es)

  -- and in order where they were
  sorted_with : (es : List (K × V)) → is_sorted R (with_values es) ≡ is_sorted R es
  sorted_with [] = refl
  sorted_with (e ∷ es) = λ i. below_with e.0 es i && sorted_with es i

  -- and at a key is what is made of what was there
  find_with : IsAntisymmetric R → (q : K) (es : List (K × V)) → find R q (with_values es) ≡ option_map (f q) (find R q es)
  find_with same q [] = refl
  find_with same q (e ∷ es) =
      elim (eq_by_cmp R q e.0) as (λ b. eq_by_cmp R q e.0 ≡ b → cond b (Some (f e.0 e.1)) (find R q (with_values es)) ≡ option_map (f q) (cond b (Some e.1) (find R q es))) [
        | true ↦ λ tie. ap (λ k. Some (f k e.1)) (sym (same_key same q e.0 tie))
        | false ↦ λ tie. find_with same q es
      ] refl

-- what a value gives, if there is one
abbrev pub given : {V P : Type 0} → (V → List P) → Option V → List P
given f None = []
given f (Some v) = f v

module _ {K V : Type 0} {R : K → K → Ordering} (total : IsTotalOrder R) (same : IsAntisymmetric R) (old new : FinMap R V)
    (stay : (k : K) → contains_key old k ≡ true → contains_key new k ≡ true) where
  -- the entries of the new map at the keys of the old one, with the values of the old one, are its entries
  entries_then : with_values R (λ k v. unwrap_or (get old k) v) (where_key R (contains_key old) (entries new)) ≡ entries old
  entries_then =
      let p = contains_key old in
      let f = λ (k : K) (v : V). unwrap_or (get old k) v in
      let es = where_key R p (entries new) in
      let sorted = subst T (sym (sorted_with R f es)) (is_sorted-where_key R p (entries new) (entries_sorted new)) in
      same_entries R total same (with_values R f es) (entries old) sorted (entries_sorted old)
      (λ q.
      let found = find-where_key R p q (λ x tie. ap p (sym (same q x tie))) (entries new) ∙ ap (λ o. cond (p q) o None) (sym (get-entries new q)) in
      find_with R f same q es ∙ ap (option_map (f q)) found ∙ go q (get old q) refl ∙ get-entries old q)
    where
      go : (q : K) (o : Option V) → get old q ≡ o → option_map (λ v. unwrap_or (get old q) v) (cond (is_some (get old q)) (get new q) None) ≡ get old q
      go q None is = ap (λ o. option_map (λ v. unwrap_or (get old q) v) (cond (is_some o) (get new q) None)) is ∙ sym is
      go q (Some v) is =
          let there = row_there new q (stay q (ap is_some is)) in
          ap (λ o. option_map (λ w. unwrap_or o w) (cond (is_some o) (get new q) None)) is ∙ ap (option_map (λ w. unwrap_or (Some v) w)) there.1 ∙ sym is

  module _ (key : V → K) (own : (k : K) (v : V) → get new k ≡ Some v → key v ≡ k) {P : Type 0} (f : V → List P) where
    -- what the values of the old map give is given, in the same order, by those that were at the keys of the values of the new one
    pub given_then : flat_map f (values old) ≡ flat_map (λ v. given f (get old (key v))) (values new)
    given_then =
        let p = contains_key old in
        let over = λ (k : K) (v : V). unwrap_or (get old k) v in
        let at = λ (e : K × V). given f (get old e.0) in
        let es = where_key R p (entries new) in
        ap (λ l. flat_map f (map (λ (e : K × V). e.1) l)) (sym entries_then) ∙ ap (flat_map f) (map-map (λ (e : K × V). e.1) (λ (e : K × V). (e.0, over e.0 e.1)) es)
        ∙ flat_map-map f (λ (e : K × V). over e.0 e.1) es
        ∙ flat_map_at (λ (e : K × V). f (over e.0 e.1)) at es (λ e h. was e.0 e.1 (get old e.0) (has_filtered (λ (x : K × V). p x.0) (entries new) e h).1)
        ∙ flat_map-filter at (λ (e : K × V). p e.0) (λ e out. none (get old e.0) out) (entries new)
        ∙ flat_map_at at (λ (e : K × V). given f (get old (key e.1))) (entries new) (λ e h. ap (λ k. given f (get old k)) (sym (own_entry total same key new own e h)))
        ∙ sym (flat_map-map (λ v. given f (get old (key v))) (λ (e : K × V). e.1) (entries new))
      where
        was : (k : K) (v : V) (o : Option V) → is_some o ≡ true → f (unwrap_or o v) ≡ given f o
        was k v (Some w) there = refl
        was k v None there = absurd (false≢true there)

        none : (o : Option V) → is_some o ≡ false → given f o ≡ []
        none None out = refl
        none (Some w) out = absurd (false≢true (sym out))
