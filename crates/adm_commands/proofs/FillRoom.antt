-- There is room at each school after a vacancy was filled.
use Rattle.std.proofs.Common.{◌≡◌, ◌∙◌, ap, sym, subst, refl, cond, Bool, true, false, ℕ, ◌+◌, ◌-◌, ◌≤◌, ◌<◌, List, [], ◌∷◌, Some, arith, inl, inr}
use Rattle.std.specs.Prelude.{nat_eq, nat_lt, not, count_by, option_map}
use Rattle.std.specs.declared.cmp.Ordering.TheVariants.{Less, Equal, Greater}
use Rattle.std.specs.Ordering.{nat_cmp, eq_by_cmp}
use Rattle.std.specs.Cmp.{nat_cmp_total}
use Rattle.std.specs.Cmp.Lexicographic.{pointwise, bytes_decides}
use Rattle.std.specs.Map.{values_of}
use Rattle.std.specs.FinMap.{FinMap, get, insert, put, entries, entries-insert, get-insert}
use Rattle.std.specs.FinMap.Entries.{by_order}
use Rattle.std.proofs.lemmas.Bool.{false≢true, cases_Bool, ltb-true, and_parts}
use Rattle.std.proofs.lemmas.List.Sums.{sum_by-cons}
use Rattle.adm_lists.proofs.Counts.{one_if}
use Rattle.adm_types.specs.declared.rows.School.{School}
use Rattle.adm_types.specs.declared.rows.PlaceRow.{PlaceRow}
use Rattle.adm_register.specs.State.{State, is_plan}
use Rattle.adm_register.specs.Rows.{places_at, vacancies}
use Rattle.adm_register.specs.WellFormed.{WellFormed, AllRows, is_unplanned_at, places_outside_plans}
use Rattle.adm_commands.specs.Commands.Fill.{is_vacant}
use Rattle.adm_commands.proofs.HeldLemmas.{held_le}

one_at_most : (b : Bool) → one_if b ≤ 1
one_at_most true = omega arith
one_at_most false = omega arith

count-cons : {X : Type 0} (p : X → Bool) (x : X) (xs : List X) → count_by p (x ∷ xs) ≡ one_if (p x) + count_by p xs
count-cons p x xs = sum_by-cons (λ y. one_if (p y)) x xs

-- as many pass a test at most as pass a weaker one
count-weaker : {X : Type 0} (p q : X → Bool) → ((x : X) → p x ≡ true → q x ≡ true) → (xs : List X) → count_by p xs ≤ count_by q xs
count-weaker p q weaker [] = omega arith
count-weaker p q weaker (x ∷ xs) =
    let rest = count-weaker p q weaker xs in
    let first = each (p x) (q x) (weaker x) in
    omega (arith, rest, first, count-cons p x xs, count-cons q x xs)
  where
    each : (a b : Bool) → (a ≡ true → b ≡ true) → one_if a ≤ one_if b
    each true b law = let one : one_if b ≡ 1 = ap one_if (law refl) in omega (arith, one)
    each false b law = omega arith

module _ (p : PlaceRow → Bool) (key : ℕ) (row : PlaceRow) where
  abbrev many : List (ℕ × PlaceRow) → ℕ
  many es = count_by p (values_of es)

  -- one row that is written is one more at the most
  count-put : (es : List (ℕ × PlaceRow)) → many (put nat_cmp key row es) ≤ many es + 1
  count-put [] = let one = one_at_most (p row) in omega (arith, one, count-cons p row [])
  count-put (e ∷ es) =
      let rest = count-put es in
      let one = one_at_most (p row) in
      let before = count-cons p e.1 (values_of es) in
      elim (nat_cmp key e.0) as (λ o. many (by_order o ((key, row) ∷ e ∷ es) ((e.0, row) ∷ es) (e ∷ put nat_cmp key row es)) ≤ many (e ∷ es) + 1) [
        | Less ↦ omega (arith, one, count-cons p row (values_of (e ∷ es)))
        | Equal ↦ omega (arith, one, before, count-cons p row (values_of es))
        | Greater ↦ omega (arith, rest, before, count-cons p e.1 (values_of (put nat_cmp key row es)))
      ]

held_more : (places : FinMap nat_cmp PlaceRow) (key : ℕ) (row : PlaceRow) (code : List ℕ) → places_outside_plans (insert places key row) code ≤ places_outside_plans places code + 1
held_more places key row code =
    let test : PlaceRow → Bool = λ it. is_unplanned_at (Some it) code in
    subst (λ es. count_by test (values_of es) ≤ places_outside_plans places code + 1) (sym (entries-insert nat_cmp_total places key row)) (count-put test key row (entries places))

-- where there is a vacancy fewer places are held than the admission number
held_fewer : (s : State) (code : List ℕ) (school : School) → get s.schools code ≡ Some school → is_vacant (vacancies s code) ≡ true → places_outside_plans s.places code < school.pan
held_fewer s code school there vacant =
    let free : nat_lt 0 (school.pan - places_at s code) ≡ true = ap (λ o. is_vacant (option_map (λ (it : School). it.pan - places_at s code) o)) (sym there) ∙ vacant in
    let more = ltb-true 0 (school.pan - places_at s code) free in
    let fewer = count-weaker (λ row. is_unplanned_at (Some row) code) (λ row. pointwise nat_eq row.place.school code)
    (λ row held. (and_parts (pointwise nat_eq row.place.school code) (not (is_plan row.place.state)) held).0) (values_of (entries s.places)) in
    omega (arith, more, fewer)

-- so one more is held at the school, and no more than before elsewhere
pub room_filled : (s : State) → WellFormed s → (child : ℕ) (row : PlaceRow) → is_vacant (vacancies s row.place.school) ≡ true
    → AllRows (λ code (school : School). places_outside_plans (insert s.places child row) code ≤ school.pan) s.schools
room_filled s well child row vacant code school there = elim (cases_Bool (pointwise nat_eq row.place.school code)) [
  | inl here ↦
      let same = (bytes_decides row.place.school code).0 here in
      let fewer = held_fewer s code school there (ap (λ c. is_vacant (vacancies s c)) (sym same) ∙ vacant) in
      let more = held_more s.places child row code in
      omega (arith, fewer, more)
  | inr apart ↦
      let less = held_le code s.places (insert s.places child row) (λ number it now is.
      elim (eq_by_cmp nat_cmp number child) as (λ b. eq_by_cmp nat_cmp number child ≡ b → is_unplanned_at (get s.places number) code ≡ true) [
        | true ↦ λ tie.
            let same : Some row ≡ Some it = sym (get-insert nat_cmp_total s.places child row number ∙ ap (λ b. cond b (Some row) (get s.places number)) tie) ∙ now in
            let at : is_unplanned_at (Some row) code ≡ true = ap (λ o. is_unplanned_at o code) same ∙ is in
            absurd (false≢true (sym apart ∙ (and_parts (pointwise nat_eq row.place.school code) _ at).0))
        | false ↦ λ tie.
            let same : get s.places number ≡ Some it = sym (get-insert nat_cmp_total s.places child row number ∙ ap (λ b. cond b (Some row) (get s.places number)) tie) ∙ now in
            ap (λ o. is_unplanned_at o code) same ∙ is
      ] refl) in
      let room = well.places.room code school there in
      omega (arith, less, room)
]
