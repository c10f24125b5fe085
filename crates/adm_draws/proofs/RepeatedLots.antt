-- Lots without their children are distinct where no two lots of a school are equal.
use Rattle.std.proofs.Common.{◌≡◌, ◌∙◌, sym, Bool, true, false, List, [], ◌∷◌, refl, map}
use Rattle.std.specs.Prelude.{◌&&◌, ◌||◌}
use Rattle.std.specs.declared.cmp.Ordering.{Ordering}
use Rattle.std.specs.Ordering.{nat_cmp, ordering_then, eq_by_cmp}
use Rattle.std.specs.Cmp.{unsigned_ties, tied_then}
use Rattle.std.specs.Cmp.Lexicographic.{slice_cmp, texts_ties}
use Rattle.std.specs.List.{IsDistinct, AllByRecursion, list_any}
use Rattle.std.proofs.lemmas.Map.Keys.{IsDistinct-head, IsDistinct-tail, IsDistinct-cons}
use Rattle.std.proofs.lemmas.Bool.{true≢false}
use Rattle.adm_types.specs.Lots.{repeats_lot, is_same_lot}
use Rattle.adm_types.specs.declared.draws.Lot.{Lot}
use Rattle.adm_draws.specs.declared.keys.DrawnLot.{DrawnLot}
use Rattle.adm_draws.specs.Grouped.{drawn_lot}

-- by the school, and then by the lot
abbrev pub drawn_cmp : DrawnLot → DrawnLot → Ordering
drawn_cmp x y = ordering_then (slice_cmp nat_cmp x.school y.school) (nat_cmp x.lot y.lot)

same_drawn : (x y : Lot) → is_same_lot x y ≡ eq_by_cmp drawn_cmp (drawn_lot x) (drawn_lot y)
same_drawn x y =
    (λ i. texts_ties x.school y.school i && unsigned_ties x.lot y.lot i)
    ∙ tied_then (slice_cmp nat_cmp x.school y.school) (nat_cmp x.lot y.lot)

or_none : (a b : Bool) → a ≡ false → b ≡ false → (a || b) ≡ false
or_none a b p q = λ i. p i || q i

first_none : (a b : Bool) → (a || b) ≡ false → a ≡ false
first_none false b h = refl
first_none true b h = cc

second_none : (a b : Bool) → (a || b) ≡ false → b ≡ false
second_none false b h = h
second_none true b h = absurd (true≢false h)

none_same : (x : Lot) (lots : List Lot) → AllByRecursion (λ y. eq_by_cmp drawn_cmp (drawn_lot x) y ≡ false) (map drawn_lot lots) → list_any (is_same_lot x) lots ≡ false
none_same x [] all = refl
none_same x (y ∷ lots) all = or_none _ _ (same_drawn x y ∙ all.0) (none_same x lots all.1)

all_other : (x : Lot) (lots : List Lot) → list_any (is_same_lot x) lots ≡ false → AllByRecursion (λ y. eq_by_cmp drawn_cmp (drawn_lot x) y ≡ false) (map drawn_lot lots)
all_other x [] none = tt
all_other x (y ∷ lots) none = (sym (same_drawn x y) ∙ first_none _ _ none, all_other x lots (second_none _ _ none))

pub not_repeated : (lots : List Lot) → IsDistinct (eq_by_cmp drawn_cmp) (map drawn_lot lots) → repeats_lot lots ≡ false
not_repeated [] apart = refl
not_repeated (x ∷ lots) apart =
    or_none _ _ (none_same x lots (IsDistinct-head (eq_by_cmp drawn_cmp) (drawn_lot x) (map drawn_lot lots) apart))
    (not_repeated lots (IsDistinct-tail (eq_by_cmp drawn_cmp) (drawn_lot x) (map drawn_lot lots) apart))

distinct : (lots : List Lot) → repeats_lot lots ≡ false → IsDistinct (eq_by_cmp drawn_cmp) (map drawn_lot lots)
unfolding IsDistinct
distinct [] none = tt
distinct (x ∷ lots) none =
    IsDistinct-cons (eq_by_cmp drawn_cmp) (drawn_lot x) (map drawn_lot lots) (all_other x lots (first_none _ _ none)) (distinct lots (second_none _ _ none))

pub repeated : (lots : List Lot) → (IsDistinct (eq_by_cmp drawn_cmp) (map drawn_lot lots) → ⊥) → repeats_lot lots ≡ true
repeated lots none = go (repeats_lot lots) refl
  where
    go : (b : Bool) → repeats_lot lots ≡ b → repeats_lot lots ≡ true
    go true e = e
    go false e = absurd (none (distinct lots e))
