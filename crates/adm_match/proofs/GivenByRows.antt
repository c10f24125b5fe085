-- What the rows of the progress give each child at the end.
use Rattle.std.proofs.Common.{◌≡◌, ℕ, zero, suc, ◌+◌, ◌<◌, ◌≤◌, List, [], ◌∷◌, length, Option, None, Some, Bool, true, false, cond, inl, inr, refl, sym, ap, ◌∙◌, subst, arith}
use Rattle.std.specs.Prelude.{option_map, unwrap_or, ◌==◌, is_some, Result, Ok, Err, IfOk}
use Rattle.std.specs.List.{slice_get, find, sum_by}
use Rattle.std.proofs.lemmas.Bool.{cases_Bool, false≢true, eq-eqb, eqb-true}
use Rattle.std.proofs.lemmas.Option.{none-some, same_Some, slice_get_within}
use Rattle.std.proofs.lemmas.List.Sums.{sum_by-cons}
use Rattle.adm_match.specs.declared.problem.Wish.{Wish}
use Rattle.adm_match.specs.declared.progress.Progress.{Progress}
use Rattle.adm_match.specs.declared.problem.Seats.{Seats}
use Rattle.adm_match.specs.Market.{Candidate, Market, market_of, first_fault, preference_rank, assigned_rank}
use Rattle.adm_match.specs.Stability.{Allocation, Allotment, IsBest, school_of, gone_through, proposals_of, is_entrant}
use Rattle.adm_match.specs.Distinct.{Distinct}
use Rattle.adm_match.specs.Turns.{Shaped, Sound, AllDone, AllotsWhatIsHeld, IsHeldByNext, WellListed, reached, found_in}
use Rattle.adm_match.proofs.SideBySide.{element_at}
use Rattle.adm_match.proofs.RanksAndBlocks.{list_any_of}
use Rattle.adm_match.proofs.Posed.{posed}
use Rattle.adm_match.proofs.Distinct.{distinct}
use Rattle.adm_match.proofs.Ending.{ends_best}

-- the first that passes
pub find_is : {X : Type 0} (p : X → Bool) (xs : List X) (k : ℕ) (x : X) → slice_get xs k ≡ Some x → p x ≡ true → ((j : ℕ) (y : X) → j < k → slice_get xs j ≡ Some y → p y ≡ false) → find p xs ≡ Some x
find_is p [] k x e t h = absurd (none-some x e)
find_is p (y ∷ ys) zero x e t h =
    let same : y ≡ x = same_Some y x e in
    ap (λ b. cond b (Some y) (find p ys)) (ap p same ∙ t) ∙ e
find_is p (y ∷ ys) (suc k) x e t h =
    ap (λ b. cond b (Some y) (find p ys)) (h 0 y (omega arith) refl)
    ∙ find_is p ys k x e t (λ j z l a. h (suc j) z (omega arith) a)

-- none passes
pub find_none : {X : Type 0} (p : X → Bool) (xs : List X) → ((j : ℕ) (y : X) → slice_get xs j ≡ Some y → p y ≡ false) → find p xs ≡ None
find_none p [] h = refl
find_none p (y ∷ ys) h =
    ap (λ b. cond b (Some y) (find p ys)) (h 0 y refl) ∙ find_none p ys (λ j z a. h (suc j) z a)

-- each entrant is given the school that holds it, where no child is at two indices
pub gives_by : (m : Market) (rows : List Progress) → ((i j : ℕ) (d e : Candidate) → slice_get m.entrants i ≡ Some d → slice_get m.entrants j ≡ Some e → i < j
    → d.child ≡ e.child → ⊥) → Shaped m rows → AllotsWhatIsHeld m rows (found_in rows)
gives_by m rows once h k e r ek rk =
    let test : Progress → Bool = λ row. row.child == e.child in
    let found : find test rows ≡ Some r =
    find_is test rows k r rk (eq-eqb r.child e.child (h.children k e r ek rk))
    (λ j y l jy.
    let d = element_at m.entrants j (omega (arith, h.same, slice_get_within rows j y jy)) in
    elim (cases_Bool (test y)) [
      | inr no_match ↦ no_match
      | inl hit ↦ absurd (once j k d.0 e d.1 ek l (sym (h.children j d.0 y d.1 jy) ∙ eqb-true y.child e.child hit))
    ]) in
    ap (λ (o : Option Progress). unwrap_or (option_map (λ (row : Progress). row.school) o) None) found

-- no other child is given a school
pub gives_others_none : (m : Market) (rows : List Progress) → Shaped m rows → (child : ℕ) → is_entrant m child ≡ false → found_in rows child ≡ None
gives_others_none m rows h child out =
    let test : Progress → Bool = λ row. row.child == child in
    ap (λ (o : Option Progress). unwrap_or (option_map (λ (row : Progress). row.school) o) None)
    (find_none test rows (λ j y jy.
    let d = element_at m.entrants j (omega (arith, h.same, slice_get_within rows j y jy)) in
    elim (cases_Bool (test y)) [
      | inr no_match ↦ no_match
      | inl hit ↦ absurd (false≢true (sym out ∙ list_any_of (λ (entrant : Candidate). entrant.child == child) m.entrants j d.0 d.1
          (eq-eqb d.0.child child (sym (h.children j d.0 y d.1 jy) ∙ eqb-true y.child child hit))))
    ]))

sum_alike : {X Y : Type 0} (f : X → ℕ) (g : Y → ℕ) (xs : List X) (ys : List Y) → length xs ≡ length ys
    → ((k : ℕ) (x : X) (y : Y) → slice_get xs k ≡ Some x → slice_get ys k ≡ Some y → f x ≡ g y) → sum_by f xs ≡ sum_by g ys
sum_alike f g [] [] e h = refl
sum_alike f g [] (y ∷ ys) e h = absurd (omega arith)
sum_alike f g (x ∷ xs) [] e h = absurd (omega arith)
sum_alike f g (x ∷ xs) (y ∷ ys) e h =
    omega (arith, sum_by-cons f x xs, sum_by-cons g y ys, h 0 x y refl refl, sum_alike f g xs ys (omega arith) (λ k a b p q. h (suc k) a b p q))

reached_is : (e : Candidate) (r : Progress) → ((j : ℕ) (w : Wish) → slice_get e.list j ≡ Some w → preference_rank e.list w.school ≡ j) → IsHeldByNext e r
    → (r.school ≡ None → length e.list ≤ r.rejections) → r.rejections ≤ length e.list → reached r ≡ gone_through e.list r.school
reached_is e r well holds done within = elim holds [
  | inl none ↦
      let a : reached r ≡ r.rejections + 0 = ap (λ o. r.rejections + cond (is_some o) 1 0) none in
      let b : gone_through e.list r.school ≡ length e.list = ap (gone_through e.list) none in
      omega (arith, a, b, done none, within)
  | inr some ↦
      let a : reached r ≡ r.rejections + 1 = ap (λ o. r.rejections + cond (is_some o) 1 0) some.2 in
      let b : gone_through e.list r.school ≡ assigned_rank e.list (Some some.0.school) + 1 = ap (gone_through e.list) some.2 in
      omega (arith, a, b, well r.rejections some.0 some.1)
]

-- the list entries that the rows have reached are those gone through
pub reached_all : (m : Market) (rows : List Progress) (b : Allocation) → WellListed m → Shaped m rows → AllDone m.entrants rows → AllotsWhatIsHeld m rows b → sum_by reached rows ≡ proposals_of m b
reached_all m rows b well h done given =
    sum_alike reached (λ (e : Candidate). gone_through e.list (b e.child)) rows m.entrants h.same
    (λ k r e rk ek. reached_is e r (λ j w jw. well.own_rank k e j w ek jw) (h.holds k e r ek rk) (done k e r ek rk) (h.within k e r ek rk)
    ∙ ap (gone_through e.list) (sym (given k e r ek rk)))

-- The rows when no turn remains.
pub record Settled (m : Market) (rows : List Progress) : Type 0 where
  pub distinct : Distinct m
  pub sound : Sound m rows
  pub done : AllDone m.entrants rows

-- what is given is what the rows say
abbrev pub IsGiven : List Progress → Allotment → Type 0
IsGiven rows offers = (child : ℕ) → school_of offers child ≡ found_in rows child

pub gives_best : (m : Market) (rows : List Progress) (offers : Allotment) → Settled m rows → IsGiven rows offers → IsBest m (school_of offers)
gives_best m rows offers h is =
    subst (λ (a : Allocation). IsBest m a) (λ i child. sym (is child) i)
    (ends_best m rows (found_in rows) h.distinct.well h.sound h.done (gives_by m rows h.distinct.children h.sound.shaped))

pub gives_none : (m : Market) (rows : List Progress) (offers : Allotment) → Settled m rows → IsGiven rows offers → (child : ℕ) → is_entrant m child ≡ false → school_of offers child ≡ None
gives_none m rows offers h is child out = is child ∙ gives_others_none m rows h.sound.shaped child out

pub gives_proposals : (m : Market) (rows : List Progress) (offers : Allotment) → Settled m rows → IsGiven rows offers → offers.proposals ≡ sum_by reached rows
    → offers.proposals ≡ proposals_of m (school_of offers)
gives_proposals m rows offers h is n =
    subst (λ (a : Allocation). offers.proposals ≡ proposals_of m a) (λ i child. sym (is child) i)
    (n ∙ reached_all m rows (found_in rows) h.distinct.well h.sound.shaped h.done (gives_by m rows h.distinct.children h.sound.shaped))

-- the same of a result that may want for memory
pub best_if : {E : Type 0} (m : Market) (rows : List Progress) (result : Result Allotment E) → Settled m rows → IfOk result (IsGiven rows) → IfOk result (λ offers. IsBest m (school_of offers))
best_if m rows (Ok offers) h is = gives_best m rows offers h is
best_if m rows (Err e) h is = tt

pub none_if : {E : Type 0} (m : Market) (rows : List Progress) (result : Result Allotment E) → Settled m rows → IfOk result (IsGiven rows)
    → IfOk result (λ offers. (child : ℕ) → is_entrant m child ≡ false → school_of offers child ≡ None)
none_if m rows (Ok offers) h is = gives_none m rows offers h is
none_if m rows (Err e) h is = tt

pub proposals_if : {E : Type 0} (m : Market) (rows : List Progress) (result : Result Allotment E) → Settled m rows → IfOk result (IsGiven rows)
    → IfOk result (λ offers. offers.proposals ≡ sum_by reached rows) → IfOk result (λ offers. offers.proposals ≡ proposals_of m (school_of offers))
proposals_if m rows (Ok offers) h is n = gives_proposals m rows offers h is n
proposals_if m rows (Err e) h is n = tt
