-- What is in a list, and in the lists that are made from it.
use Rattle.std.proofs.Common.{◌≡◌, ◌∙◌, ◌⊎◌, inl, inr, ap, sym, subst, refl, cond, Bool, true, false, ◌&&◌, ℕ, zero, suc, List, [], ◌∷◌, ◌++◌, map, take, filter, find, Option, Some, None, All, Contains, IsPermutation, arith}
use Rattle.std.specs.List.{AllByRecursion, list_all, list_any, filter_map, cons_option, flat_map, zip, AllZip}
use Rattle.std.proofs.lemmas.Bool.{cases_Bool, false≢true, and_parts, or_cases, or_parts}
use Rattle.std.proofs.lemmas.List.Elements.{All-from_recursion, recursion_from_All}
use Rattle.std.proofs.lemmas.List.Sorted.{Contains-permutation}
use Rattle.std.proofs.lemmas.Option.{none-some, same_Some}

-- it is one of the list
abbrev pub In : {X : Type 0} → X → List X → Type 0
In x [] = ⊥
In x (y ∷ ys) = (y ≡ x) ⊎ In x ys

-- ---- by places

-- what a list contains at some place is in it
pub from_contains : {X : Type 0} (xs : List X) (x : X) → Contains xs x → In x xs
from_contains [] x h = absurd (omega (arith, h.1))
from_contains (y ∷ ys) x (zero, below, at) = inl at
from_contains (y ∷ ys) x (suc k, below, at) = inr (from_contains ys x (k, omega arith, at))

-- and what is in it is at some place
pub contains : {X : Type 0} (xs : List X) (x : X) → In x xs → Contains xs x
contains [] x h = absurd h
contains (y ∷ ys) x h = elim h [
  | inl same ↦ (zero, omega arith, same)
  | inr later ↦ let w = contains ys x later in (suc w.0, omega (arith, w.1), w.2)
]

-- what is in a list is in each order of it
pub in_moved : {X : Type 0} (xs ys : List X) (x : X) → IsPermutation xs ys → In x xs → In x ys
in_moved xs ys x same h = from_contains ys x (Contains-permutation xs ys x same (contains xs x h))

-- ---- what holds of each, and of one that is there

-- what holds of each holds of one that is there
pub all_in : {X : Type 0} (P : X → Type 0) (xs : List X) (x : X) → AllByRecursion P xs → In x xs → P x
all_in P [] x all at = absurd at
all_in P (y ∷ ys) x all at = elim at [ inl same ↦ subst P same all.0 | inr later ↦ all_in P ys x all.1 later ]

-- what holds of each that is there holds of each
pub in_all : {X : Type 0} (P : X → Type 0) (xs : List X) → ((x : X) → In x xs → P x) → AllByRecursion P xs
in_all P [] each = tt
in_all P (x ∷ xs) each = (each x (inl refl), in_all P xs (λ y at. each y (inr at)))

-- the same two of `All`
pub All_in : {X : Type 0} (P : X → Type 0) (xs : List X) (x : X) → All P xs → In x xs → P x
All_in P xs x all at = all_in P xs x (recursion_from_All P xs all) at

pub in_All : {X : Type 0} (P : X → Type 0) (xs : List X) → ((x : X) → In x xs → P x) → All P xs
in_All P xs each = All-from_recursion P xs (in_all P xs each)

-- ---- tests

-- where all pass, one that is there does
pub passes_in : {X : Type 0} (p : X → Bool) (xs : List X) (x : X) → list_all p xs ≡ true → In x xs → p x ≡ true
passes_in p [] x all at = absurd at
passes_in p (y ∷ ys) x all at =
    let both = and_parts (p y) (list_all p ys) all in
    elim at [ inl same ↦ ap p (sym same) ∙ both.0 | inr later ↦ passes_in p ys x both.1 later ]

-- all pass where each that is there does
pub list_all_in : {X : Type 0} (p : X → Bool) (xs : List X) → ((x : X) → In x xs → p x ≡ true) → list_all p xs ≡ true
list_all_in p [] each = refl
list_all_in p (x ∷ xs) each = λ i. each x (inl refl) i && list_all_in p xs (λ y at. each y (inr at)) i

-- where some pass, one is there that does
pub any_in : {X : Type 0} (p : X → Bool) (xs : List X) → list_any p xs ≡ true → (x : X) × In x xs × (p x ≡ true)
any_in p [] some = absurd (false≢true some)
any_in p (x ∷ xs) some = elim (or_cases (p x) (list_any p xs) some) [
  | inl hit ↦ (x, inl refl, hit)
  | inr later ↦ let found = any_in p xs later in (found.0, inr found.1, found.2)
]

-- where none passes, one that is there does not
pub none_in : {X : Type 0} (p : X → Bool) (xs : List X) (x : X) → list_any p xs ≡ false → In x xs → p x ≡ false
none_in p [] x none at = absurd at
none_in p (y ∷ ys) x none at =
    let parts = or_parts (p y) (list_any p ys) none in
    elim at [ inl same ↦ ap p (sym same) ∙ parts.0 | inr later ↦ none_in p ys x parts.1 later ]

-- what is found is there, and passes
pub find_gives : {X : Type 0} (p : X → Bool) (xs : List X) (x : X) → find p xs ≡ Some x → In x xs × (p x ≡ true)
find_gives p [] x h = absurd (none-some x h)
find_gives p (y ∷ ys) x h = elim (cases_Bool (p y)) [
  | inl hit ↦
      let same : y ≡ x = same_Some y x (sym (ap (λ b. cond b (Some y) (find p ys)) hit) ∙ h) in
      (inl same, ap p (sym same) ∙ hit)
  | inr miss ↦
      let later = find_gives p ys x (sym (ap (λ b. cond b (Some y) (find p ys)) miss) ∙ h) in
      (inr later.0, later.1)
]

-- where one is there that passes, one is found
pub finds : {X : Type 0} (p : X → Bool) (xs : List X) (x : X) → In x xs → p x ≡ true → (y : X) × (find p xs ≡ Some y)
finds p [] x h t = absurd h
finds p (y ∷ ys) x h t = elim (cases_Bool (p y)) [
  | inl hit ↦ (y, ap (λ b. cond b (Some y) (find p ys)) hit)
  | inr miss ↦ elim h [
    | inl same ↦ absurd (false≢true (sym miss ∙ (ap p same ∙ t)))
    | inr later ↦ let w = finds p ys x later t in (w.0, ap (λ b. cond b (Some y) (find p ys)) miss ∙ w.1)
  ]
]

-- where none is found, none that is there passes
pub find_none : {X : Type 0} (p : X → Bool) (xs : List X) → find p xs ≡ None → (x : X) → In x xs → p x ≡ false
find_none p [] h x there = absurd there
find_none p (y ∷ ys) h x there = elim (cases_Bool (p y)) [
  | inl hit ↦ absurd (none-some y (sym h ∙ ap (λ b. cond b (Some y) (find p ys)) hit))
  | inr miss ↦ elim there [
    | inl same ↦ ap p (sym same) ∙ miss
    | inr later ↦ find_none p ys (sym (ap (λ b. cond b (Some y) (find p ys)) miss) ∙ h) x later
  ]
]

-- ---- a map

-- what an element is mapped to is in the map
pub in_map : {X Y : Type 0} (f : X → Y) (xs : List X) (x : X) → In x xs → In (f x) (map f xs)
in_map f [] x at = absurd at
in_map f (y ∷ ys) x at = elim at [ inl same ↦ inl (ap f same) | inr later ↦ inr (in_map f ys x later) ]

-- and what is in the map is what some element is mapped to
pub from_map : {X Y : Type 0} (f : X → Y) (xs : List X) (y : Y) → In y (map f xs) → (x : X) × In x xs × (f x ≡ y)
from_map f [] y at = absurd at
from_map f (x ∷ xs) y at = elim at [
  | inl same ↦ (x, inl refl, same)
  | inr later ↦ let found = from_map f xs y later in (found.0, inr found.1, found.2)
]

-- ---- two lists joined

-- what is in the first is in both joined
pub in_left : {X : Type 0} (xs ys : List X) (x : X) → In x xs → In x (xs ++ ys)
in_left [] ys x h = absurd h
in_left (z ∷ zs) ys x h = elim h [ inl same ↦ inl same | inr later ↦ inr (in_left zs ys x later) ]

-- and so is what is in the second
pub in_right : {X : Type 0} (xs ys : List X) (x : X) → In x ys → In x (xs ++ ys)
in_right [] ys x h = h
in_right (z ∷ zs) ys x h = inr (in_right zs ys x h)

-- what is in both joined is in one of them
pub from_append : {X : Type 0} (xs ys : List X) (x : X) → In x (xs ++ ys) → In x xs ⊎ In x ys
from_append [] ys x at = inr at
from_append (z ∷ zs) ys x at = elim at [
  | inl same ↦ inl (inl same)
  | inr later ↦ elim (from_append zs ys x later) [ inl here ↦ inl (inr here) | inr there ↦ inr there ]
]

-- ---- the first elements, and those that pass a test

-- what is among the first elements is in the list
pub from_take : {X : Type 0} (n : ℕ) (xs : List X) (x : X) → In x (take n xs) → In x xs
from_take zero xs x at = absurd at
from_take (suc n) [] x at = absurd at
from_take (suc n) (y ∷ ys) x at = elim at [ inl same ↦ inl same | inr later ↦ inr (from_take n ys x later) ]

-- what is in the list and passes is among those that pass
pub in_filter : {X : Type 0} (p : X → Bool) (xs : List X) (x : X) → In x xs → p x ≡ true → In x (filter p xs)
in_filter p [] x h t = absurd h
in_filter p (y ∷ ys) x h t = elim (cases_Bool (p y)) [
  | inl hit ↦
      subst (In x) (sym (ap (λ b. cond b (y ∷ filter p ys) (filter p ys)) hit)) (elim h [ inl same ↦ inl same | inr later ↦ inr (in_filter p ys x later t) ])
  | inr miss ↦
      subst (In x) (sym (ap (λ b. cond b (y ∷ filter p ys) (filter p ys)) miss)) (elim h [
        | inl same ↦ absurd (false≢true (sym miss ∙ (ap p same ∙ t)))
        | inr later ↦ in_filter p ys x later t
      ])
]

-- and what is among them is in the list and passes
pub from_filter : {X : Type 0} (p : X → Bool) (xs : List X) (x : X) → In x (filter p xs) → In x xs × (p x ≡ true)
from_filter p [] x at = absurd at
from_filter p (y ∷ ys) x at = elim (cases_Bool (p y)) [
  | inl hit ↦ elim (subst (In x) (ap (λ b. cond b (y ∷ filter p ys) (filter p ys)) hit) at) [
    | inl same ↦ (inl same, ap p (sym same) ∙ hit)
    | inr later ↦ let found = from_filter p ys x later in (inr found.0, found.1)
  ]
  | inr miss ↦ let found = from_filter p ys x (subst (In x) (ap (λ b. cond b (y ∷ filter p ys) (filter p ys)) miss) at) in (inr found.0, found.1)
]

-- ---- what the elements give, where some give nothing and some give several

-- what comes first is what was given, and the rest follows
from_cons : {Y : Type 0} (o : Option Y) (rest : List Y) (y : Y) → In y (cons_option o rest) → (o ≡ Some y) ⊎ In y rest
from_cons None rest y at = inr at
from_cons (Some z) rest y at = elim at [ inl same ↦ inl (ap Some same) | inr later ↦ inr later ]

-- what is given is what some element gives
pub from_filter_map : {X Y : Type 0} (h : X → Option Y) (xs : List X) (y : Y) → In y (filter_map h xs) → (x : X) × In x xs × (h x ≡ Some y)
from_filter_map h [] y at = absurd at
from_filter_map h (x ∷ xs) y at = elim (from_cons (h x) (filter_map h xs) y at) [
  | inl same ↦ (x, inl refl, same)
  | inr later ↦ let found = from_filter_map h xs y later in (found.0, inr found.1, found.2)
]

-- and what an element gives is given
pub in_filter_map : {X Y : Type 0} (h : X → Option Y) (xs : List X) (x : X) (y : Y) → In x xs → h x ≡ Some y → In y (filter_map h xs)
in_filter_map h [] x y at is = absurd at
in_filter_map h (z ∷ zs) x y at is = elim at [
  | inl same ↦ subst (λ o. In y (cons_option o (filter_map h zs))) (sym (ap h same ∙ is)) (inl refl)
  | inr later ↦ behind y (h z) (filter_map h zs) (in_filter_map h zs x y later is)
]
  where
    behind : {Y : Type 0} (y : Y) (o : Option Y) (rest : List Y) → In y rest → In y (cons_option o rest)
    behind y None rest at = at
    behind y (Some z) rest at = inr at

-- what is among those that an element gives is given
pub in_flat_map : {X Y : Type 0} (f : X → List Y) (xs : List X) (x : X) (y : Y) → In x xs → In y (f x) → In y (flat_map f xs)
in_flat_map f [] x y h i = absurd h
in_flat_map f (z ∷ zs) x y h i = elim h [
  | inl same ↦ in_left (f z) (flat_map f zs) y (subst (λ w. In y (f w)) (sym same) i)
  | inr later ↦ in_right (f z) (flat_map f zs) y (in_flat_map f zs x y later i)
]

-- and what is given is among those that some element gives
pub from_flat_map : {X Y : Type 0} (f : X → List Y) (xs : List X) (y : Y) → In y (flat_map f xs) → (x : X) × In x xs × In y (f x)
from_flat_map f [] y at = absurd at
from_flat_map f (x ∷ xs) y at = elim (from_append (f x) (flat_map f xs) y at) [
  | inl here ↦ (x, inl refl, here)
  | inr later ↦ let found = from_flat_map f xs y later in (found.0, inr found.1, found.2)
]

-- ---- pairs

-- the parts of a pair are each in its list
pub from_zip : {X Y : Type 0} (xs : List X) (ys : List Y) (both : X × Y) → In both (zip xs ys) → In both.0 xs × In both.1 ys
from_zip [] ys both at = absurd at
from_zip (x ∷ xs) [] both at = absurd at
from_zip (x ∷ xs) (y ∷ ys) both at = elim at [
  | inl same ↦ (inl (ap (λ p. p.0) same), inl (ap (λ p. p.1) same))
  | inr later ↦ let found = from_zip xs ys both later in (inr found.0, inr found.1)
]

-- what holds of each element and what it is mapped to holds of one that is there
pub zip_in : {X Y : Type 0} (R : X → Y → Type 0) (f : X → Y) (xs : List X) (x : X) → AllZip R xs (map f xs) → In x xs → R x (f x)
zip_in R f [] x all at = absurd at
zip_in R f (y ∷ ys) x all at = elim at [ inl same ↦ subst (λ z. R z (f z)) same all.0 | inr later ↦ zip_in R f ys x all.1 later ]
