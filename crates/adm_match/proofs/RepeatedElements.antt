-- Whether an element is repeated, known from the set of those before it.
use Rattle.std.proofs.Common.{◌≡◌, ℕ, zero, suc, ◌+◌, ◌<◌, List, [], ◌∷◌, ◌++◌, length, get_or, take, drop, map, Bool, true, false, cond, not, ◌||◌, refl, sym, ap, ◌∙◌, Ordering}
use Rattle.std.specs.List.{list_any}
use Rattle.std.specs.Ordering.{is_eq}
use Rattle.std.specs.BTreeSet.{BTreeSet, contains, Updates}
use Rattle.std.specs.BTreeMap.{is_at}
use Rattle.std.proofs.lemmas.Bool.{not-false, not-true}
use Rattle.std.proofs.lemmas.List.Folds.{list_any-append}
use Rattle.adm_lists.proofs.Tests.{or_test}
use Rattle.adm_lists.proofs.Walks.{next_of}
use Rattle.adm_lists.proofs.Each.{any-map}
use Rattle.adm_match.specs.Market.{some_pair}

or_front : (a b c d : Bool) → ((a || (b || false)) || (c || d)) ≡ ((a || c) || (b || d))
or_front true b c d = refl
or_front false true true d = refl
or_front false true false d = refl
or_front false false c d = refl

or_all : (a b c d e : Bool) → ((a || b) || ((c || d) || e)) ≡ (((a || c) || (b || d)) || e)
or_all true b c d e = refl
or_all false true true d e = refl
or_all false true false d e = refl
or_all false false c d e = refl

-- one more element: it makes a pair with one before it, or there was a pair before
pub pair_pushed : {X : Type 0} (t : X → X → Bool) (xs : List X) (y : X) → some_pair t (xs ++ y ∷ []) ≡ (some_pair t xs || list_any (λ x. t x y) xs)
pair_pushed t [] y = refl
pair_pushed t (x ∷ xs) y =
    (λ i. list_any-append (t x) xs (y ∷ []) i || pair_pushed t xs y i)
    ∙ or_front (list_any (t x) xs) (t x y) (some_pair t xs) (list_any (λ z. t z y) xs)

-- the pairs of two lists on end: within either, and across
pub pair_append : {X : Type 0} (t : X → X → Bool) (xs ys : List X) → some_pair t (xs ++ ys) ≡ ((some_pair t xs || list_any (λ x. list_any (t x) ys) xs) || some_pair t ys)
pair_append t [] ys = refl
pair_append t (x ∷ xs) ys =
    (λ i. list_any-append (t x) xs ys i || pair_append t xs ys i)
    ∙ or_all (list_any (t x) xs) (list_any (t x) ys) (some_pair t xs) (list_any (λ z. list_any (t z) ys) xs) (some_pair t ys)

-- a pair of the beginning is a pair of the whole
pair_of_front : {X : Type 0} (t : X → X → Bool) (xs ys : List X) → some_pair t xs ≡ true → some_pair t (xs ++ ys) ≡ true
pair_of_front t xs ys h = pair_append t xs ys ∙ (λ i. (h i || list_any (λ x. list_any (t x) ys) xs) || some_pair t ys)

pub pair_map : {X Y : Type 0} (t : Y → Y → Bool) (f : X → Y) (xs : List X) → some_pair t (map f xs) ≡ some_pair (λ x y. t (f x) (f y)) xs
pair_map t f [] = refl
pair_map t f (x ∷ xs) = λ i. any-map (t (f x)) f xs i || pair_map t f xs i

-- tests that agree on all give the same
pub pair_same : {X : Type 0} (t u : X → X → Bool) (xs : List X) → ((x y : X) → t x y ≡ u x y) → some_pair t xs ≡ some_pair u xs
pair_same t u xs h = ap (λ (f : _ → _ → Bool). some_pair f xs) (λ i x y. h x y i)

abbrev same : {K : Type 0} → (K → K → Ordering) → K → K → Bool
same cmp a b = is_eq (cmp a b)

-- the set holds the first keys, and none of them was repeated
pub record SeenAll {K : Type 0} (cmp : K → K → Ordering) (keys : List K) (seen : BTreeSet K) (n : ℕ) : Type 0 where
  pub held : (q : K) → contains cmp seen q ≡ list_any (λ key. is_eq (cmp key q)) (take n keys)
  pub apart : some_pair (λ a b. is_eq (cmp a b)) (take n keys) ≡ false

pub seen_more : {K : Type 0} (cmp : K → K → Ordering) (keys : List K) (old new : BTreeSet K) (i : ℕ) (x : K) (added : Bool) → i < length keys → x ≡ get_or keys i x
    → SeenAll cmp keys old i → Updates cmp old new x true → added ≡ not (contains cmp old x) → added ≡ true → SeenAll cmp keys new (i + 1)
seen_more cmp keys old new i x added l at h up is fresh =
    let step = next_of keys i x l at in
    let absent : contains cmp old x ≡ false = not-true (contains cmp old x) (sym is ∙ fresh) in
    record {
      held = λ q. up.0 q ∙ (ap (λ b. cond (is_at (cmp x) q) true b) (h.held q)
          ∙ (or_test (is_at (cmp x) q) (list_any (λ key. is_eq (cmp key q)) (take i keys))
          ∙ sym (ap (list_any (λ key. is_eq (cmp key q))) step ∙ list_any-append (λ key. is_eq (cmp key q)) (take i keys) (x ∷ []))));
      apart = ap (some_pair (λ a b. is_eq (cmp a b))) step ∙ (pair_pushed (λ a b. is_eq (cmp a b)) (take i keys) x
          ∙ (λ j. h.apart j || (sym (h.held x) ∙ absent) j));
    }

-- a key that was there makes a pair
pub seen_twice : {K : Type 0} (cmp : K → K → Ordering) (keys : List K) (old : BTreeSet K) (i : ℕ) (x : K) (added : Bool) → i < length keys → x ≡ get_or keys i x
    → SeenAll cmp keys old i → added ≡ not (contains cmp old x) → added ≡ false → true ≡ some_pair (λ a b. is_eq (cmp a b)) keys
seen_twice cmp keys old i x added l at h is twice =
    let step = next_of keys i x l at in
    let there : contains cmp old x ≡ true = not-false (contains cmp old x) (sym is ∙ twice) in
    let pair : some_pair (λ a b. is_eq (cmp a b)) (take (i + 1) keys) ≡ true =
    ap (some_pair (λ a b. is_eq (cmp a b))) step ∙ (pair_pushed (λ a b. is_eq (cmp a b)) (take i keys) x
    ∙ (λ j. h.apart j || (sym (h.held x) ∙ there) j)) in
    sym (ap (some_pair (λ a b. is_eq (cmp a b))) (sym (joined (i + 1) keys)) ∙ pair_of_front (λ a b. is_eq (cmp a b)) (take (i + 1) keys) (drop (i + 1) keys) pair)
  where
    joined : {X : Type 0} (n : ℕ) (xs : List X) → take n xs ++ drop n xs ≡ xs
    joined zero [] = refl
    joined zero (x ∷ xs) = refl
    joined (suc n) [] = refl
    joined (suc n) (x ∷ xs) = ap (λ (ys : List _). x ∷ ys) (joined n xs)

pub take_whole : {X : Type 0} (xs : List X) (n : ℕ) → length xs ≡ n → take n xs ≡ xs
take_whole xs n e = ap (λ k. take k xs) (sym e) ∙ all xs
  where
    all : {X : Type 0} (xs : List X) → take (length xs) xs ≡ xs
    all [] = refl
    all (x ∷ xs) = ap (λ (ys : List _). x ∷ ys) (all xs)

pub seen_none : {K : Type 0} (cmp : K → K → Ordering) (keys : List K) (seen : BTreeSet K) (n : ℕ) → length keys ≡ n → SeenAll cmp keys seen n → false ≡ some_pair (λ a b. is_eq (cmp a b)) keys
seen_none cmp keys seen n is h = sym (ap (some_pair (λ a b. is_eq (cmp a b))) (sym (take_whole keys n is)) ∙ h.apart)
