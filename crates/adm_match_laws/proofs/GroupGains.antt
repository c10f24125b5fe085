-- No group of children gains: the turns of deferred acceptance never reach one that rejects each of them where it would gain.
use Rattle.std.proofs.Common.{◌≡◌, ◌⊎◌, ℕ, zero, suc, ◌<◌, ◌≤◌, List, [], ◌∷◌, map, set, None, Some, Bool, true, inl, inr, refl, sym, ap, ◌∙◌, subst, arith}
use Rattle.std.specs.Prelude.{option_map}
use Rattle.std.specs.List.{slice_get, AllZip}
use Rattle.std.proofs.lemmas.Bool.{cases_Bool, cases_lt, cases_eq, false≢true, lt-ltb}
use Rattle.std.proofs.lemmas.Option.{none-some, same_Some, slice_get_within, slice_get-get_or, get_or_from_slice_get, slice_get-map}
use Rattle.std.proofs.lemmas.Slice.Zip.{AllZip-long}
use Rattle.adm_match.specs.declared.progress.Progress.{Progress}
use Rattle.adm_match.specs.Market.{Candidate, Market, assigned_rank, is_tenant, key_at}
use Rattle.adm_match.specs.Stability.{Allocation, IsStable, IsBest}
use Rattle.adm_match.specs.Turns.{Sound, start_of, held_by, with_rejection, found_in}
use Rattle.adm_match.specs.Distinct.{Distinct, Seated}
use Rattle.adm_match.proofs.SideBySide.{element_at}
use Rattle.adm_match.proofs.RanksAndBlocks.{at_All}
use Rattle.adm_match.proofs.Moved.{set_here, set_there}
use Rattle.adm_match.proofs.Existence.{IsInvariant, end_keeps}
use Rattle.adm_match_laws.proofs.AnyList.{listing}
use Rattle.adm_match.proofs.Posed.{posed}
use Rattle.adm_match.proofs.Distinct.{distinct}
use Rattle.adm_match.proofs.Relisted.{seated}
use Rattle.adm_match.proofs.GivenByRows.{gives_by}
use Rattle.adm_match.proofs.Ending.{ends_best, rejections_is}
use Rattle.adm_match_laws.specs.Groups.{HandsIn, IsHandedInBy, NoGroupGains}
use Rattle.adm_match_laws.proofs.Lost.{Hands, HandedIn, lost, lost_is, all_held}

-- ---- a group of which each was rejected where it would gain

-- each of the group was rejected by the school that the allocation gives it
abbrev AllLost : Market → (ℕ → Bool) → Allocation → List Progress → Type 0
AllLost m group a rows =
    (k : ℕ) (e : Candidate) (r : Progress) → slice_get m.entrants k ≡ Some e → slice_get rows k ≡ Some r → group e.child ≡ true → assigned_rank e.list (a e.child) < r.rejections

module _ (m now : Market) (group : ℕ → Bool) (a : Allocation) (d : Distinct m) (seats : Seated m) (hands : HandedIn group m now) (stable : IsStable now a) where
  -- one of the group that nobody holds is not the last of them to be rejected so
  none_free : (rows : List Progress) → Sound m rows → (k : ℕ) (e : Candidate) (r : Progress) → slice_get m.entrants k ≡ Some e → slice_get rows k ≡ Some r
      → r.school ≡ None → group e.child ≡ true → AllLost m group a rows → ⊥
  none_free rows sound k e r ek rk none in' all =
      let each : (l : ℕ) (c : Candidate) → slice_get m.entrants l ≡ Some c → group c.child ≡ true → lost m now group a rows d seats hands stable sound c.child ≡ true
      = λ l c cl c_in.
      let x = element_at rows l (omega (arith, slice_get_within m.entrants l c cl, sound.shaped.same)) in
      lost_is m now group a rows d seats hands stable sound l c x.0 cl x.1 ∙ lt-ltb _ _ (all l c x.0 cl x.1 c_in) in
      all_held m now group a rows d seats hands stable sound each k e r ek rk none (each k e ek in')

  -- a row with as many rejections says as much
  lost_before : (rows : List Progress) (i : ℕ) (e : Candidate) (r v : Progress) → slice_get m.entrants i ≡ Some e → slice_get rows i ≡ Some r
      → (group e.child ≡ true → v.rejections ≡ r.rejections) → AllLost m group a (set rows i v) → AllLost m group a rows
  lost_before rows i e r v ei ri same all k f q fk qk in' = elim (cases_eq k i) [
    | inl here ↦
        let f_is : f ≡ e = same_Some f e (sym fk ∙ (ap (slice_get m.entrants) here ∙ ei)) in
        let q_is : q ≡ r = same_Some q r (sym qk ∙ (ap (slice_get rows) here ∙ ri)) in
        let now' = all k f v fk (ap (slice_get (set rows i v)) here ∙ set_here rows i v (slice_get_within rows i r ri)) in' in
        let count = same (ap (λ (x : Candidate). group x.child) (sym f_is) ∙ in') in
        let count' = ap (λ (x : Progress). x.rejections) q_is in
        omega (arith, now', count, count')
    | inr other ↦ all k f q fk (set_there rows i k v other ∙ qk) in'
  ]

  abbrev NotAll : List Progress → Type 0
  NotAll rows = AllLost m group a rows → ⊥

  -- a turn keeps it: one that comes to a school has as many rejections, and one that a school rejects is held by nobody
  not_all_kept : IsInvariant m NotAll
  not_all_kept = record {
    arrival = λ rows i e r s ei ri not_all all. not_all (lost_before rows i e r (held_by r s) ei ri (λ _. refl) all);
    departure = λ rows k e r ek rk sound not_all all. elim (cases_Bool (group e.child)) [
      | inl in' ↦ none_free (set rows k (with_rejection r)) sound k e (with_rejection r) ek (set_here rows k (with_rejection r) (slice_get_within rows k r rk)) refl in' all
      | inr out ↦ not_all (lost_before rows k e r (with_rejection r) ek rk (λ in'. absurd (false≢true (sym out ∙ in'))) all)
    ];
  }

  -- at the start nobody was rejected
  not_at_start : (k : ℕ) (e : Candidate) → slice_get m.entrants k ≡ Some e → group e.child ≡ true → NotAll (map start_of m.entrants)
  not_at_start k e ek in' all =
      let less = all k e (start_of e) ek (slice_get-map start_of m.entrants k ∙ ap (option_map start_of) ek) in' in
      omega (arith, less)

  -- so not each of the group is better off
  not_each : (k : ℕ) (e : Candidate) → slice_get m.entrants k ≡ Some e → group e.child ≡ true → (best : Allocation) → IsBest m best
      → ((l : ℕ) (c : Candidate) → slice_get m.entrants l ≡ Some c → group c.child ≡ true → assigned_rank c.list (a c.child) < assigned_rank c.list (best c.child)) → ⊥
  not_each k e ek in' best b better =
      let end = end_keeps m d NotAll not_all_kept (not_at_start k e ek in') in
      let given = found_in end.0 in
      let gives = gives_by m end.0 d.children end.1.shaped in
      let run : IsBest m given = ends_best m end.0 given d.well end.1 end.3 gives in
      end.2 (λ l c r cl rl c_in.
      let rank : assigned_rank c.list (given c.child) ≡ r.rejections = ap (assigned_rank c.list) (gives l c r cl rl) ∙ rejections_is m end.0 d.well end.1.shaped end.3 l c r cl rl in
      let least = at_All (λ e. assigned_rank e.list (best e.child) ≤ assigned_rank e.list (given e.child)) m.entrants l c (b.none_better given run.stable) cl in
      let less = better l c cl c_in in
      omega (arith, rank, least, less))

-- ---- what is handed in

hands_of : (m : Market) (group : ℕ → Bool) → Distinct m → (k : ℕ) (e f : Candidate) → slice_get m.entrants k ≡ Some e → HandsIn group e f → Hands group e f
hands_of m group d k e f ek h = record {
  child = h.child;
  own = h.own;
  guest = λ s free. elim (cases_Bool (group e.child)) [
    | inr out ↦ ap (λ (x : Candidate). is_tenant x s) (h.own out) ∙ free
    | inl in' ↦ (listing m k e f.list f.tenant d ek (h.any in')).guest s free
  ];
  key = λ s here there. elim (cases_Bool (group e.child)) [
    | inr out ↦ ap (λ (x : Candidate). key_at x.list s) (h.own out)
    | inl in' ↦ (listing m k e f.list f.tenant d ek (h.any in')).own s here there
  ];
}

zip_each : {X Y : Type 0} (R : X → Y → Type 0) (xs : List X) (ys : List Y) → AllZip R xs ys → (k : ℕ) (x : X) → slice_get xs k ≡ Some x → (y : Y) × (slice_get ys k ≡ Some y) × R x y
zip_each R [] ys h k x at = absurd (none-some x at)
zip_each R (z ∷ zs) [] h k x at = absurd h
zip_each R (z ∷ zs) (y ∷ ys) h zero x at = (y, refl, subst (λ v. R v y) (same_Some z x at) h.0)
zip_each R (z ∷ zs) (y ∷ ys) h (suc k) x at = zip_each R zs ys h.1 k x at

handed_in : (m now : Market) (group : ℕ → Bool) → Distinct m → IsHandedInBy group m now → HandedIn group m now
handed_in m now group d h = record {
  seats = h.seats;
  same = AllZip-long (HandsIn group) m.entrants now.entrants h.entrants;
  each = λ k e ek. let f = zip_each (HandsIn group) m.entrants now.entrants h.entrants k e ek in (f.0, f.1, hands_of m group d k e f.0 ek f.2);
}

-- ---- one of the group that is no better off, where not each of them is better off

search : (group : ℕ → Bool) (best a : Allocation) (es : List Candidate)
    → ((k : ℕ) × (e : Candidate) × (slice_get es k ≡ Some e) × (group e.child ≡ true) × (assigned_rank e.list (best e.child) ≤ assigned_rank e.list (a e.child)))
    ⊎ ((k : ℕ) (e : Candidate) → slice_get es k ≡ Some e → group e.child ≡ true → assigned_rank e.list (a e.child) < assigned_rank e.list (best e.child))
search group best a [] = inr (λ k e ek. absurd (none-some e ek))
search group best a (e ∷ es) = elim (search group best a es) [
  | inl found ↦ inl (suc found.0, found.1, found.2, found.3, found.4)
  | inr none ↦ elim (cases_Bool (group e.child)) [
    | inr out ↦ inr (more e es none (λ in'. absurd (false≢true (sym out ∙ in'))))
    | inl in' ↦ elim (cases_lt (assigned_rank e.list (a e.child)) (assigned_rank e.list (best e.child))) [
      | inl less ↦ inr (more e es none (λ _. less))
      | inr most ↦ inl (0, e, refl, in', most)
    ]
  ]
]
  where
    more : (e : Candidate) (es : List Candidate) → ((k : ℕ) (c : Candidate) → slice_get es k ≡ Some c → group c.child ≡ true
        → assigned_rank c.list (a c.child) < assigned_rank c.list (best c.child))
        → (group e.child ≡ true → assigned_rank e.list (a e.child) < assigned_rank e.list (best e.child)) → (k : ℕ) (c : Candidate) → slice_get (e ∷ es) k ≡ Some c
        → group c.child ≡ true → assigned_rank c.list (a c.child) < assigned_rank c.list (best c.child)
    more e es none first zero c ck in' = subst (λ (x : Candidate). group x.child ≡ true → assigned_rank x.list (a x.child) < assigned_rank x.list (best x.child)) (same_Some e c ck) first in'
    more e es none first (suc k) c ck in' = none k c ck in'

pub no_group_gains_law : NoGroupGains
no_group_gains_law m now group best a ok handed b stable some =
    let p = posed m ok in
    let d = distinct m p in
    elim (search group best a m.entrants) [
      | inl found ↦ (found.0, found.1, slice_get_within m.entrants found.0 found.1 found.2, get_or_from_slice_get m.entrants found.0 found.1 found.1 found.2, (found.3, found.4))
      | inr each ↦ absurd (not_each m now group a d (seated m p) (handed_in m now group d handed) stable some.0 some.1 (slice_get-get_or m.entrants some.0 some.1 some.2
          ∙ ap Some some.3) some.4 best b each)
    ]
