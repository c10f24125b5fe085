-- Children and their lots: walks over them, and the best of them.
use Rattle.std.proofs.Common.{◌≡◌, ◌<◌, ◌≤◌, ◌+◌, min, ℕ, List, [], ◌∷◌, map, take, drop, length, get_or, None, Some, Bool, true, false, cond, ◌&&◌, ◌||◌, inl, inr, refl, sym, ap, ◌∙◌, arith}
use Rattle.std.specs.Prelude.{find, option_map, Contains, nat_eq}
use Rattle.std.specs.declared.cmp.Ordering.TheVariants.{Less}
use Rattle.std.specs.Ordering.{nat_cmp}
use Rattle.std.specs.List.{list_any, zip, AllByRecursion}
use Rattle.std.specs.List.Sorted.{IsStrictlySortedBy}
use Rattle.std.proofs.lemmas.Bool.{cases_Bool, false≢true, or_parts, or_left, or_right, and_left, eq-eqb}
use Rattle.std.proofs.lemmas.List.{get_or-map, length-map, take_all, take-append-drop}
use Rattle.std.proofs.lemmas.List.Sums.{fold_more}
use Rattle.std.proofs.lemmas.List.Folds.{list_all_more, list_all-append, list_all-map}
use Rattle.std.proofs.lemmas.Slice.Zip.{get_or-zip, length-zip}
use Rattle.std.proofs.lemmas.Option.{none-some}
use Rattle.adm_lists.proofs.Members.{In, contains, list_all_in}
use Rattle.adm_lists.proofs.Orders.{less_apart}
use Rattle.adm_types.specs.declared.rows.School.{School}
use Rattle.adm_types.specs.declared.rows.Child.{Child}
use Rattle.adm_rank.specs.Ranking.{precedes}
use Rattle.adm_waiting.specs.declared.vacancies.RankedChild.{RankedChild}
use Rattle.adm_waiting.specs.Waiting.{number_of_child, first_by_lot, repeats}
use Rattle.adm_waiting.specs.Ranks.{ranked_child_of, better, best_of, is_before, is_before_others}
use Rattle.adm_waiting.proofs.Leaders.{IsBestOf, IsApart, best_is, some_from, first_of, one_way, child_of}

-- ---- walks over the children and their lots

abbrev pub drawn : School → List Child → List ℕ → List RankedChild
drawn school children lots = map (ranked_child_of school) (zip children lots)

ranked_child_at : (school : School) (children : List Child) (lots : List ℕ) (i : ℕ) (child : Child) (lot : ℕ) (d : RankedChild) → i < length children → i < length lots
    → child ≡ get_or children i child → lot ≡ get_or lots i 0 → get_or (drawn school children lots) i d ≡ ranked_child_of school (child, lot)
ranked_child_at school children lots i child lot d l m here there =
    get_or-map (ranked_child_of school) (zip children lots) i (child, 0) d (omega (arith, length-zip children lots))
    ∙ ap (ranked_child_of school) (get_or-zip children lots i (child, 0) l m) ∙ (λ k. ranked_child_of school (sym here k, sym there k))

how_many : (school : School) (children : List Child) (lots : List ℕ) (i : ℕ) → i < length children → i < length lots → i < length (drawn school children lots)
how_many school children lots i l m = omega (arith, length-zip children lots, length-map (zip children lots) (ranked_child_of school))

pub best_more : (school : School) (children : List Child) (lots : List ℕ) (i : ℕ) (child : Child) (lot : ℕ) → i < length children → i < length lots
    → child ≡ get_or children i child → lot ≡ get_or lots i 0
    → best_of (take (i + 1) (drawn school children lots)) ≡ Some (better (best_of (take i (drawn school children lots))) (ranked_child_of school (child, lot)))
best_more school children lots i child lot l m here there =
    let d = ranked_child_of school (child, lot) in
    fold_more (λ best next. Some (better best next)) None (drawn school children lots) i d (how_many school children lots i l m)
    ∙ ap (λ next. Some (better (best_of (take i (drawn school children lots))) next)) (ranked_child_at school children lots i child lot d l m here there)

pub before_more : (school : School) (children : List Child) (lots : List ℕ) (i : ℕ) (child : Child) (lot : ℕ) (one : RankedChild) → i < length children → i < length lots
    → child ≡ get_or children i child → lot ≡ get_or lots i 0
    → is_before_others (take (i + 1) (drawn school children lots)) one ≡ (is_before_others (take i (drawn school children lots)) one && is_before one (ranked_child_of school (child, lot)))
before_more school children lots i child lot one l m here there =
    let d = ranked_child_of school (child, lot) in
    list_all_more (is_before one) (drawn school children lots) i d (how_many school children lots i l m)
    ∙ ap (λ (other : RankedChild). is_before_others (take i (drawn school children lots)) one && is_before one other) (ranked_child_at school children lots i child lot d l m here there)

-- one that fails before all others of the first ones fails
pub before_not : (school : School) (children : List Child) (lots : List ℕ) (i : ℕ) (one : RankedChild)
    → is_before_others (take i (drawn school children lots)) one ≡ false → is_before_others (drawn school children lots) one ≡ false
before_not school children lots i one h =
    ap (λ (all : List RankedChild). is_before_others all one) (sym (take-append-drop i (drawn school children lots)))
    ∙ list_all-append (is_before one) (take i (drawn school children lots)) (drop i (drawn school children lots))
    ∙ and_left (is_before_others (take i (drawn school children lots)) one) (is_before_others (drop i (drawn school children lots)) one) h

-- when all have been gone through
pub whole : (school : School) (children : List Child) (lots : List ℕ) (i : ℕ) → min (length children) (length lots) ≤ i → take i (drawn school children lots) ≡ drawn school children lots
whole school children lots i h = take_all i (drawn school children lots) (omega (arith, length-zip children lots, length-map (zip children lots) (ranked_child_of school)))

-- ---- from children and lots

find_map : {X Y : Type 0} (f : X → Y) (p : Y → Bool) (g : Y → ℕ) (xs : List X) → option_map g (find p (map f xs)) ≡ option_map (λ x. g (f x)) (find (λ x. p (f x)) xs)
find_map f p g [] = refl
find_map f p g (x ∷ xs) = elim (cases_Bool (p (f x))) [
  | inl hit ↦
      (λ i. option_map g (cond (hit i) (Some (f x)) (find p (map f xs))))
      ∙ sym (λ i. option_map (λ y. g (f y)) (cond (hit i) (Some x) (find (λ y. p (f y)) xs)))
  | inr miss ↦
      (λ i. option_map g (cond (miss i) (Some (f x)) (find p (map f xs)))) ∙ find_map f p g xs
      ∙ sym (λ i. option_map (λ y. g (f y)) (cond (miss i) (Some x) (find (λ y. p (f y)) xs)))
]

pub first_here : (school : School) (children : List Child) (lots : List ℕ) → first_of (drawn school children lots) ≡ first_by_lot school children lots
unfolding first_by_lot
first_here school children lots =
    find_map (ranked_child_of school) (is_before_others (drawn school children lots)) (λ one. one.child) (zip children lots)
    ∙ (λ i. option_map (λ (one : Child × ℕ). one.0.no) (find (λ (one : Child × ℕ).
    list_all-map (λ other. nat_eq other.child one.0.no || precedes (ranked_child_of school one).key other.key) (ranked_child_of school) (zip children lots) i) (zip children lots)))

below_all : (school : School) (number : ℕ) (children : List Child) (lots : List ℕ) → AllByRecursion (λ y. nat_cmp number y ≡ Less) (map number_of_child children)
    → (z : RankedChild) → In z (drawn school children lots) → number ≡ z.child → ⊥
below_all school number [] lots all z there = absurd there
below_all school number (child ∷ children) [] all z there = absurd there
below_all school number (child ∷ children) (lot ∷ lots) all z there = elim there [
  | inl same ↦ λ e. less_apart number child.no all.0 (e ∙ ap (λ (w : RankedChild). w.child) (sym same))
  | inr later ↦ below_all school number children lots all.1 z later
]

pub apart : (school : School) (children : List Child) (lots : List ℕ) → IsStrictlySortedBy nat_cmp (map number_of_child children) → IsApart (drawn school children lots)
unfolding IsStrictlySortedBy
apart school children lots sorted = record { once = go children lots sorted }
  where
    go : (children : List Child) (lots : List ℕ) → IsStrictlySortedBy nat_cmp (map number_of_child children) → (one other : RankedChild)
        → In one (drawn school children lots) → In other (drawn school children lots) → one.child ≡ other.child → one ≡ other
    go [] lots sorted one other i j e = absurd i
    go (child ∷ children) [] sorted one other i j e = absurd i
    go (child ∷ children) (lot ∷ lots) sorted one other i j e = elim i [
      | inl first ↦ elim j [
        | inl second ↦ sym first ∙ second
        | inr later ↦ absurd (below_all school child.no children lots sorted.0 other later (ap (λ (w : RankedChild). w.child) first ∙ e))
      ]
      | inr behind ↦ elim j [
        | inl second ↦ absurd (below_all school child.no children lots sorted.0 one behind (ap (λ (w : RankedChild). w.child) second ∙ sym e))
        | inr later ↦ go children lots sorted.1 one other behind later e
      ]
    ]

-- a lot that no other is equal to is that of one child alone
other_lot : (school : School) (number : ℕ) (children : List Child) (lots : List ℕ) → list_any (nat_eq number) lots ≡ false → (z : RankedChild)
    → In z (drawn school children lots) → number ≡ z.key.lot → ⊥
other_lot school number [] lots none z there = absurd there
other_lot school number (child ∷ children) [] none z there = absurd there
other_lot school number (child ∷ children) (lot ∷ lots) none z there =
    let parts = or_parts (nat_eq number lot) (list_any (nat_eq number) lots) none in
    elim there [
      | inl same ↦ λ e. false≢true (sym parts.0 ∙ eq-eqb number lot (e ∙ ap (λ (w : RankedChild). w.key.lot) (sym same)))
      | inr later ↦ other_lot school number children lots parts.1 z later
    ]

one_lot : (school : School) (children : List Child) (lots : List ℕ) → repeats lots ≡ false → (one other : RankedChild) → In one (drawn school children lots)
    → In other (drawn school children lots) → one.key.lot ≡ other.key.lot → one ≡ other
one_lot school [] lots none one other i j e = absurd i
one_lot school (child ∷ children) [] none one other i j e = absurd i
one_lot school (child ∷ children) (lot ∷ lots) none one other i j e =
    let parts = or_parts (list_any (nat_eq lot) lots) (repeats lots) none in
    elim i [
      | inl first ↦ elim j [
        | inl second ↦ sym first ∙ second
        | inr later ↦ absurd (other_lot school lot children lots parts.0 other later (ap (λ (w : RankedChild). w.key.lot) first ∙ e))
      ]
      | inr behind ↦ elim j [
        | inl second ↦ absurd (other_lot school lot children lots parts.0 one behind (ap (λ (w : RankedChild). w.key.lot) second ∙ sym e))
        | inr later ↦ one_lot school children lots parts.1 one other behind later e
      ]
    ]

-- where no two lots are equal, the best ranks before all others
pub before_all : (school : School) (children : List Child) (lots : List ℕ) (best : RankedChild) → repeats lots ≡ false → best_of (drawn school children lots) ≡ Some best
    → is_before_others (drawn school children lots) best ≡ true
before_all school children lots best none h =
    list_all_in (is_before best) (drawn school children lots) (λ other there.
    elim (cases_Bool (nat_eq other.child best.child)) [
      | inl same ↦ or_left (nat_eq other.child best.child) (precedes best.key other.key) same
      | inr differ ↦
          or_right (nat_eq other.child best.child) (precedes best.key other.key)
          (one_way other.key best.key
          (λ e. false≢true (sym differ ∙ eq-eqb other.child best.child (ap (λ (w : RankedChild). w.child) (one_lot school children lots none other best there here e))))
          (is_best.to_come other there))
    ])
  where
    is_best : IsBestOf None (drawn school children lots) best
    is_best = best_is None (drawn school children lots) best h

    here : In best (drawn school children lots)
    here = elim is_best.among [ inl no' ↦ absurd (none-some best no') | inr there ↦ there ]

-- where children wait and each has a lot, there is a best one
pub has_best : (school : School) (children : List Child) (lots : List ℕ) → 0 < length children → length lots ≡ length children → best_of (drawn school children lots) ≡ None → ⊥
has_best school [] lots some many h = omega arith
has_best school (child ∷ children) [] some many h = omega arith
has_best school (child ∷ children) (lot ∷ lots) some many h =
    let w = some_from (ranked_child_of school (child, lot)) (drawn school children lots) in
    none-some w.0 (sym h ∙ w.1)

-- who has a lot is one of the children
lot_child : (school : School) (children : List Child) (lots : List ℕ) (one : RankedChild) → In one (drawn school children lots) → In one.child (map number_of_child children)
lot_child school [] lots one there = absurd there
lot_child school (child ∷ children) [] one there = absurd there
lot_child school (child ∷ children) (lot ∷ lots) one there = elim there [
  | inl same ↦ inl (ap child_of same)
  | inr later ↦ inr (lot_child school children lots one later)
]

pub best_waits : (school : School) (children : List Child) (lots : List ℕ) (best : RankedChild) → best_of (drawn school children lots) ≡ Some best → Contains (map number_of_child children) best.child
best_waits school children lots best h =
    let is_best : IsBestOf None (drawn school children lots) best = best_is None (drawn school children lots) best h in
    contains (map number_of_child children) best.child
    (lot_child school children lots best (elim is_best.among [ inl no' ↦ absurd (none-some best no') | inr there ↦ there ]))
