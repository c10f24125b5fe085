-- There is a best allocation: the turns end.
use Rattle.std.proofs.Common.{◌≡◌, ◌⊎◌, ℕ, zero, suc, ◌+◌, ◌<◌, ◌≤◌, List, [], ◌∷◌, length, map, set, Option, None, Some, not, ◌&&◌, inl, inr, refl, sym, ap, ◌∙◌, arith, add-one}
use Rattle.std.specs.Prelude.{⊤, All, slice_get}
use Rattle.std.proofs.lemmas.Bool.{cases_Bool, cases_lt}
use Rattle.std.proofs.lemmas.Option.{none-some, same_Some, slice_get_within}
use Rattle.adm_types.specs.Code.{has}
use Rattle.adm_match.specs.declared.progress.Progress.{Progress}
use Rattle.adm_match.specs.Market.{Code, Candidate, Market, assigned_rank, is_tenant, ranks_before, quota_of}
use Rattle.adm_match.specs.Stability.{Allocation, IsStable, IsBest}
use Rattle.adm_match.specs.Turns.{held_at, IsWithin, Sound, AllDone, IsFree, IsLast, NoGuest, AreRanked, turns_left, start_of, held_by, with_rejection, found_in}
use Rattle.adm_match.proofs.SideBySide.{element_at}
use Rattle.adm_match.proofs.Arrival.{stay}
use Rattle.adm_match.proofs.Departure.{leave}
use Rattle.adm_match.proofs.LastGuest.{NoGuestBelow, IsLastBelow, none_more, last_more, last_first, last_takes, last_stays, guest_at, no_guest_at}
use Rattle.adm_match.proofs.Turn.{came, starts, turns_left_leave}
use Rattle.adm_match.specs.Distinct.{Distinct}
use Rattle.adm_match.proofs.Distinct.{ranked_of}
use Rattle.adm_match.proofs.GivenByRows.{gives_by}
use Rattle.adm_match.proofs.Ending.{ends_best, ends_ahead}

free_or_done : (es : List Candidate) (rows : List Progress) → ((k : ℕ) × IsFree es rows k) ⊎ AllDone es rows
free_or_done [] rows = inr (λ k e r ek rk none. absurd (none-some e ek))
free_or_done (e ∷ es) [] = inr (λ k d r dk rk none. absurd (none-some r rk))
free_or_done (e ∷ es) (r ∷ rows) = elim (free_or_done es rows) [
  | inl free ↦ inl (suc free.0, free.1)
  | inr done ↦ here e es r rows done (held_or_not r.school) (cases_lt r.rejections (length e.list))
]
  where
    held_or_not : (o : Option Code) → (o ≡ None) ⊎ ((s : Code) × (o ≡ Some s))
    held_or_not None = inl refl
    held_or_not (Some s) = inr (s, refl)

    later : (e : Candidate) (es : List Candidate) (r : Progress) (rows : List Progress) → AllDone es rows → (r.school ≡ None → length e.list ≤ r.rejections) → AllDone (e ∷ es) (r ∷ rows)
    later e es r rows done first zero d q dk qk none =
        let d_is : e ≡ d = same_Some e d dk in
        let q_is : r ≡ q = same_Some r q qk in
        omega (arith, first (ap (λ (x : Progress). x.school) q_is ∙ none), ap (λ (x : Candidate). length x.list) d_is, ap (λ (x : Progress). x.rejections) q_is)
    later e es r rows done first (suc k) d q dk qk none = done k d q dk qk none

    here : (e : Candidate) (es : List Candidate) (r : Progress) (rows : List Progress) → AllDone es rows → (r.school ≡ None) ⊎ ((s : Code) × (r.school ≡ Some s))
        → (r.rejections < length e.list) ⊎ (length e.list ≤ r.rejections) → ((k : ℕ) × IsFree (e ∷ es) (r ∷ rows) k) ⊎ AllDone (e ∷ es) (r ∷ rows)
    here e es r rows done (inl none) (inl less) = inl (0, (e, r, refl, refl, none, less))
    here e es r rows done (inl none) (inr most) = inr (later e es r rows done (λ _. most))
    here e es r rows done (inr some) l = inr (later e es r rows done (λ none. absurd (none-some some.0 (sym none ∙ some.1))))

last_below : (es : List Candidate) (rows : List Progress) (s : Code) → length rows ≡ length es → AreRanked es rows s → (i : ℕ) → i ≤ length es
    → ((k : ℕ) × IsLastBelow es rows s i k) ⊎ NoGuestBelow es rows s i
last_below es rows s same ranked zero upto = inr (λ k e l g. absurd (omega arith))
last_below es rows s same ranked (suc i) upto =
    let e = element_at es i (omega arith) in
    let r = element_at rows i (omega (arith, same)) in
    let before = last_below es rows s same ranked i (omega arith) in
    rw (← add-one) (elim (cases_Bool (has r.0.school s && not (is_tenant e.0 s))) [
      | inr out ↦
          let g = no_guest_at es rows s i e.0 r.0 e.1 r.1 out in
          elim before [ inl last ↦ inl (last.0, last_more es rows s i last.0 last.1 g) | inr none ↦ inr (none_more es rows s i none g) ]
      | inl guest ↦
          let g = guest_at es rows s i e.0 r.0 e.1 r.1 guest in
          elim before [
            | inr none ↦ inl (i, last_first es rows s i e.0 none g)
            | inl last ↦ elim (cases_Bool (ranks_before s last.1.0 e.0)) [
              | inl after ↦ inl (i, last_takes es rows s i last.0 last.1.0 e.0 last.1 g last.1.2.0 after)
              | inr first ↦ inl (last.0, last_stays es rows s i last.0 last.1.0 e.0 ranked last.1 g last.1.2.0 first)
            ]
          ]
    ])

last_or_none : (es : List Candidate) (rows : List Progress) (s : Code) → length rows ≡ length es → AreRanked es rows s → ((k : ℕ) × IsLast es rows s k) ⊎ NoGuest es rows s
last_or_none es rows s same ranked = elim (last_below es rows s same ranked (length es) (omega arith)) [
  | inl last ↦ inl (last.0, (last.1.0, last.1.2, λ l c apart g. last.1.3 l c (slice_get_within es l c g.0) apart g))
  | inr none ↦ inr (λ k e g. none k e (slice_get_within es k e g.0) g)
]

-- What each turn keeps: where an entrant comes to a school, which holds it, and where a school rejects one that it holds.
pub record IsInvariant (m : Market) (keeps : List Progress → Type 0) : Type 0 where
  pub arrival : (rows : List Progress) (i : ℕ) (e : Candidate) (r : Progress) (s : Code) → slice_get m.entrants i ≡ Some e → slice_get rows i ≡ Some r → keeps rows → keeps (set rows i (held_by r s))
  pub departure : (rows : List Progress) (k : ℕ) (e : Candidate) (r : Progress) → slice_get m.entrants k ≡ Some e → slice_get rows k ≡ Some r
      → Sound m (set rows k (with_rejection r)) → keeps rows → keeps (set rows k (with_rejection r))

module _ (m : Market) (d : Distinct m) (keeps : List Progress → Type 0) (kept : IsInvariant m keeps) where
  turn : (rows : List Progress) (i : ℕ) → Sound m rows → keeps rows → IsFree m.entrants rows i
      → (now : List Progress) × Sound m now × keeps now × (turns_left m.entrants now < turns_left m.entrants rows)
  turn rows i sound before free =
      let w = element_at free.0.list free.1.rejections free.5 in
      let s = w.0.school in
      let mid = set rows i (held_by free.1 s) in
      let here = came m rows mid i w.0 free sound w.1 refl in
      let still = kept.arrival rows i free.0 free.1 s free.2 free.3 before in
      elim (cases_lt (quota_of m.seats s) (held_at mid s)) [
        | inr room ↦ (mid, stay m mid i s here.0 (inl room), still, omega (arith, here.1))
        | inl over ↦ elim (last_or_none m.entrants mid s here.0.shaped.same (ranked_of m mid s d here.0.shaped)) [
          | inr none ↦ (mid, stay m mid i s here.0 (inr none), still, omega (arith, here.1))
          | inl last ↦
              let g = last.1.1 in
              let sound' = leave m mid i s last.0 last.1.0 g.1.0 d.well here.0 g.0 g.1.1 g.1.2 g.2 over last.1.2 in (
                set mid last.0 (with_rejection g.1.0),
                sound',
                kept.departure mid last.0 last.1.0 g.1.0 g.0 g.1.1 sound' still,
                omega (arith, here.1, turns_left_leave m mid last.0 g.1.0 s g.1.1 g.1.2),
              )
        ]
      ]

  ends : (n : ℕ) (rows : List Progress) → turns_left m.entrants rows < n → Sound m rows → keeps rows → (now : List Progress) × Sound m now × keeps now × AllDone m.entrants now
  ends zero rows l sound before = absurd (omega arith)
  ends (suc n) rows l sound before = elim (free_or_done m.entrants rows) [
    | inr done ↦ (rows, sound, before, done)
    | inl free ↦
        let next = turn rows free.0 sound before free.1 in
        ends n next.0 (omega (arith, next.3)) next.1 next.2
  ]

  -- the turns end, and what each of them keeps holds at the end where it holds at the start
  pub end_keeps : keeps (map start_of m.entrants) → (now : List Progress) × Sound m now × keeps now × AllDone m.entrants now
  end_keeps before =
      let rows = map start_of m.entrants in
      ends (turns_left m.entrants rows + 1) rows (omega arith) (starts m) before

-- a best allocation, which is no worse for an entrant than any stable allocation of a problem that includes this one
pub best_ahead : (m : Market) → Distinct m → (b : Allocation) × IsBest m b
    × ((o : Market) → IsWithin m o → (a : Allocation) → IsStable o a → All (λ e. assigned_rank e.list (b e.child) ≤ assigned_rank e.list (a e.child)) m.entrants)
best_ahead m h =
    let end = end_keeps m h (λ _. ⊤) (record { arrival = λ rows i e r s ek rk _. tt; departure = λ rows k e r ek rk sound _. tt }) tt in
    let b : Allocation = found_in end.0 in
    let gives = gives_by m end.0 h.children end.1.shaped in
    (b, ends_best m end.0 b h.well end.1 end.3 gives, ends_ahead m end.0 b h.well end.1 end.3 gives)

pub best_exists : (m : Market) → Distinct m → (b : Allocation) × IsBest m b
best_exists m h = let best = best_ahead m h in (best.0, best.1)
