-- Where no entrant that nobody holds has a school left, what the schools hold is the best allocation.
use Rattle.std.proofs.Common.{◌≡◌, ℕ, ◌<◌, ◌≤◌, List, length, Option, Some, true, false, ◌||◌, ◌&&◌, inl, inr, refl, sym, ap, ◌∙◌, subst, arith}
use Rattle.std.specs.Prelude.{All, IfSome, nat_lt}
use Rattle.std.specs.List.{slice_get, list_any}
use Rattle.std.proofs.lemmas.Bool.{cases_Bool, false≢true, and_parts, or_cases, ltb-true}
use Rattle.std.proofs.lemmas.Option.{slice_get_within}
use Rattle.adm_types.specs.Code.{has}
use Rattle.adm_match.specs.declared.progress.Progress.{Progress}
use Rattle.adm_match.specs.Market.{Code, Candidate, Market, preference_rank, assigned_rank, is_tenant, ranks_before, quota_of}
use Rattle.adm_match.specs.Stability.{Allocation, count_at, is_guest, blocks, IsStable, IsBest}
use Rattle.adm_match.specs.Turns.{held_at, IsWithin, WellListed, Shaped, IsGuestAt, IsRejected, Sound, AllDone, AllotsWhatIsHeld}
use Rattle.adm_match.proofs.SideBySide.{count_beside, element_at}
use Rattle.adm_match.proofs.RanksAndBlocks.{All_at, list_any_gives, wish_at_rank, ranks_before_asym, guest_gives}

-- what an entrant has is after the schools that rejected it
pub rejections_is : (m : Market) (rows : List Progress) → WellListed m → Shaped m rows → AllDone m.entrants rows → (k : ℕ) (e : Candidate) (r : Progress)
    → slice_get m.entrants k ≡ Some e → slice_get rows k ≡ Some r → assigned_rank e.list r.school ≡ r.rejections
rejections_is m rows well h done k e r ek rk = elim (h.holds k e r ek rk) [
  | inl none ↦ ap (assigned_rank e.list) none ∙ (omega (arith, done k e r ek rk none, h.within k e r ek rk))
  | inr some ↦ ap (assigned_rank e.list) some.2 ∙ well.own_rank k e r.rejections some.0 ek some.1
]

listed : (m : Market) (rows : List Progress) → WellListed m → Shaped m rows → (k : ℕ) (e : Candidate) (r : Progress) → slice_get m.entrants k ≡ Some e
    → slice_get rows k ≡ Some r → IfSome r.school (λ s. preference_rank e.list s < length e.list)
listed m rows well h k e r ek rk = elim (h.holds k e r ek rk) [
  | inl none ↦ subst (λ (o : Option Code). IfSome o (λ s. preference_rank e.list s < length e.list)) (sym none) tt
  | inr some ↦ subst (λ (o : Option Code). IfSome o (λ s. preference_rank e.list s < length e.list)) (sym some.2)
      (omega (arith, well.own_rank k e r.rejections some.0 ek some.1, slice_get_within e.list r.rejections some.0 some.1))
]

-- each problem includes itself
itself : (m : Market) → IsWithin m m
itself m = record {
  members = λ k e ek. (k, e, ek, record { child = refl; tenant = λ s. refl; rank = λ s l. refl; key = λ s l. refl; later = λ o. omega arith });
  counts = λ test. omega arith;
  places = λ s. omega arith;
}

-- what the schools hold is no worse for an entrant than a stable allocation of a problem that includes this one
pub ends_ahead : (m : Market) (rows : List Progress) (b : Allocation) → WellListed m → Sound m rows → AllDone m.entrants rows → AllotsWhatIsHeld m rows b → (o : Market)
    → IsWithin m o → (a : Allocation) → IsStable o a → All (λ e. assigned_rank e.list (b e.child) ≤ assigned_rank e.list (a e.child)) m.entrants
ends_ahead m rows b well h done gives o wide a stable = All_at (λ e. assigned_rank e.list (b e.child) ≤ assigned_rank e.list (a e.child)) m.entrants (λ k e ek.
    let r = element_at rows k (omega (arith, slice_get_within m.entrants k e ek, h.shaped.same)) in
    let at_rank : assigned_rank e.list (b e.child) ≡ r.0.rejections = ap (assigned_rank e.list) (gives k e r.0 ek r.1) ∙ rejections_is m rows well h.shaped done k e r.0 ek r.1 in
    omega (arith, at_rank, h.none_lost o wide a stable k e r.0 ek r.1))

pub ends_best : (m : Market) (rows : List Progress) (b : Allocation) → WellListed m → Sound m rows → AllDone m.entrants rows → AllotsWhatIsHeld m rows b → IsBest m b
ends_best m rows b well h done gives =
    let row : (k : ℕ) (e : Candidate) → slice_get m.entrants k ≡ Some e → (r : Progress) × (slice_get rows k ≡ Some r)
    = λ k e ek. element_at rows k (omega (arith, slice_get_within m.entrants k e ek, h.shaped.same)) in
    let at_rank : (k : ℕ) (e : Candidate) (r : Progress) → slice_get m.entrants k ≡ Some e → slice_get rows k ≡ Some r → assigned_rank e.list (b e.child) ≡ r.rejections
    = λ k e r ek rk. ap (assigned_rank e.list) (gives k e r ek rk) ∙ rejections_is m rows well h.shaped done k e r ek rk in
    let counts : (s : Code) → count_at m b s ≡ held_at rows s
    = λ s. count_beside (λ e. has (b e.child) s) (λ r. has r.school s) m.entrants rows (sym h.shaped.same) (λ k e r ek rk. ap (λ o. has o s) (gives k e r ek rk)) in
    let guest : (s : Code) (k : ℕ) (e : Candidate) → slice_get m.entrants k ≡ Some e → is_guest b s e ≡ true → IsGuestAt m.entrants rows s k e
    = λ s k e ek g.
    let r = row k e ek in
    let parts = guest_gives b s e g in
    (ek, (r.0, r.1, sym (gives k e r.0 ek r.1) ∙ parts.0), parts.1) in
    record {
      stable = record {
        acceptable = All_at (λ e. IfSome (b e.child) (λ s. preference_rank e.list s < length e.list)) m.entrants (λ k e ek.
            let r = row k e ek in
            subst (λ (o : Option Code). IfSome o (λ s. preference_rank e.list s < length e.list)) (sym (gives k e r.0 ek r.1)) (listed m rows well h.shaped k e r.0 ek r.1));
        feasible = λ s some.
            let one = list_any_gives (is_guest b s) m.entrants some in
            omega (arith, counts s, h.within_quota s one.0 one.1 (guest s one.0 one.1 one.2 one.3));
        unblocked = All_at (λ e. (s : Code) → blocks m b e s ≡ false) m.entrants (λ k e ek s. elim (cases_Bool (blocks m b e s)) [
          | inr unblocked ↦ unblocked
          | inl blocking ↦ absurd (
              let r = row k e ek in
              let room = nat_lt (count_at m b s) (quota_of m.seats s) in
              let behind = list_any (λ other. is_guest b s other && ranks_before s e other) m.entrants in
              let parts = and_parts (nat_lt (preference_rank e.list s) (assigned_rank e.list (b e.child))) (is_tenant e s || (room || behind)) blocking in
              let before = ltb-true _ _ parts.0 in
              let early : preference_rank e.list s < r.0.rejections = omega (arith, before, at_rank k e r.0 ek r.1) in
              let w = wish_at_rank e.list s (omega (arith, early, h.shaped.within k e r.0 ek r.1)) in
              let rejected : IsRejected m rows e s = subst (λ (t : Code). IsRejected m rows e t) w.2 (h.rejected k e r.0 (preference_rank e.list s) w.0 ek r.1 early w.1) in
              elim (or_cases (is_tenant e s) (room || behind) parts.1) [
                | inl tenant ↦ false≢true (sym rejected.guest ∙ tenant)
                | inr more ↦ elim (or_cases room behind more) [
                  | inl free ↦ omega (arith, ltb-true _ _ free, rejected.full, counts s)
                  | inr some ↦
                      let one = list_any_gives (λ other. is_guest b s other && ranks_before s e other) m.entrants some in
                      let both = and_parts (is_guest b s one.1) (ranks_before s e one.1) one.3 in
                      ranks_before_asym s e one.1 both.1 (rejected.outranked one.0 one.1 (guest s one.0 one.1 one.2 both.0))
                ]
              ])
        ]);
      };
      none_better = ends_ahead m rows b well h done gives m (itself m);
    }
