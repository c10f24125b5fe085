-- Of children that schools of an allocation rejected: where a whole group is among them, a school holds each of them.
use Rattle.std.proofs.Common.{◌≡◌, ℕ, ◌+◌, ◌<◌, ◌≤◌, List, [], ◌∷◌, length, Option, None, Some, Bool, true, false, cond, not, ◌||◌, ◌&&◌, inl, inr, refl, sym, ap, ◌∙◌, subst, arith}
use Rattle.std.specs.Prelude.{◌==◌, nat_lt, IfSome, is_some, option_map, unwrap_or, find}
use Rattle.std.specs.List.{slice_get, list_any, count_by}
use Rattle.std.proofs.lemmas.Bool.{cases_Bool, cases_lt, false≢true, true≢false, eq-eqb, eqb-true, and_from, and_parts, or_left, or_right, lt-ltb, ltb-true}
use Rattle.std.proofs.lemmas.Option.{same_Some, slice_get_within}
use Rattle.std.proofs.lemmas.List.Sums.{sum_by-cons}
use Rattle.adm_lists.proofs.Counts.{one_if}
use Rattle.adm_types.specs.Code.{has}
use Rattle.adm_match.specs.declared.problem.Seats.{Seats}
use Rattle.adm_match.specs.declared.progress.Progress.{Progress}
use Rattle.adm_match.specs.Market.{Code, Candidate, Market, preference_rank, assigned_rank, is_tenant, key_at, both_precede, ranks_before, quota_of}
use Rattle.adm_match.specs.Stability.{Allocation, count_at, is_guest, blocks, IsAcceptable, IsStable}
use Rattle.adm_match.specs.Turns.{held_at, Sound, IsRejected, found_in}
use Rattle.adm_match.specs.Distinct.{Distinct, Seated}
use Rattle.adm_match.proofs.SideBySide.{count_beside, element_at}
use Rattle.adm_match.proofs.RanksAndBlocks.{has_tells, not_has, at_All, All_at, list_any_of, list_any_gives, wish_at_rank, same_rank, guest_from}
use Rattle.adm_match.proofs.Departure.{held_wish}
use Rattle.adm_match.proofs.GivenByRows.{find_is, gives_by}
use Rattle.adm_match_laws.proofs.Generous.{count_upto}
use Rattle.adm_match.proofs.Placed.{swap_sums, sum_upto, placed, placed_from, placed_upto, count_less, blocks_from, on_list}

-- what an entrant hands in: its tenancies at most, and its keys where it names a school that it truly lists
pub record Hands (group : ℕ → Bool) (e f : Candidate) : Type 0 where
  pub child : f.child ≡ e.child
  pub own : group e.child ≡ false → f ≡ e
  pub guest : (s : Code) → is_tenant e s ≡ false → is_tenant f s ≡ false
  pub key : (s : Code) → preference_rank e.list s < length e.list → preference_rank f.list s < length f.list → key_at f.list s ≡ key_at e.list s

-- the same entrants hand in, at the same schools
pub record HandedIn (group : ℕ → Bool) (m now : Market) : Type 0 where
  pub seats : now.seats ≡ m.seats
  pub same : length now.entrants ≡ length m.entrants
  pub each : (k : ℕ) (e : Candidate) → slice_get m.entrants k ≡ Some e → (f : Candidate) × (slice_get now.entrants k ≡ Some f) × Hands group e f

count_cons : {X : Type 0} (p : X → Bool) (x : X) (xs : List X) → count_by p (x ∷ xs) ≡ one_if (p x) + count_by p xs
count_cons p x xs = sum_by-cons (λ y. one_if (p y)) x xs

-- counts of what passes one of two tests
count_split : {X : Type 0} (p y n : X → Bool) → ((x : X) → one_if (p x) ≡ one_if (y x) + one_if (n x)) → (xs : List X) → count_by p xs ≡ count_by y xs + count_by n xs
count_split p y n h [] = refl
count_split p y n h (x ∷ xs) =
    omega (arith, count_cons p x xs, count_cons y x xs, count_cons n x xs, h x, count_split p y n h xs)

count_none : {X : Type 0} (p : X → Bool) (xs : List X) → list_any p xs ≡ false → count_by p xs ≡ 0
count_none p [] h = refl
count_none p (x ∷ xs) h = elim (cases_Bool (p x)) [
  | inl hit ↦ absurd (false≢true (sym h ∙ ap (λ b. b || list_any p xs) hit))
  | inr miss ↦
      let here : one_if (p x) ≡ 0 = ap one_if miss in
      let rest = count_none p xs (ap (λ b. b || list_any p xs) (sym miss) ∙ h) in
      omega (arith, count_cons p x xs, here, rest)
]

-- what a child has, where it passes
abbrev pub kept : Bool → Option Code → Option Code
kept b o = cond b o None

kept_split : (b : Bool) (o : Option Code) (s : Code) → one_if (has o s) ≡ one_if (has (kept b o) s) + one_if (not b && has o s)
kept_split true o s = omega arith
kept_split false o s = omega arith

kept_has : (b : Bool) (o : Option Code) (s : Code) → has (kept b o) s ≡ true → (b ≡ true) × (o ≡ Some s)
kept_has true o s h = (refl, (has_tells o s).0 h)
kept_has false o s h = absurd (false≢true h)

module _ (m now : Market) (group : ℕ → Bool) (a : Allocation) (rows : List Progress) (d : Distinct m) (seated : Seated m) (hands : HandedIn group m now)
    (stable : IsStable now a) (sound : Sound m rows) where
  rank_in : ℕ → ℕ
  rank_in child = unwrap_or (option_map (λ (e : Candidate). assigned_rank e.list (a child)) (find (λ (e : Candidate). e.child == child) m.entrants)) 0

  rejections_in : ℕ → ℕ
  rejections_in child = unwrap_or (option_map (λ (r : Progress). r.rejections) (find (λ (r : Progress). r.child == child) rows)) 0

  -- the school that the allocation gives the child rejected it
  pub lost : ℕ → Bool
  lost child = nat_lt (rank_in child) (rejections_in child)

  found_entrant : (k : ℕ) (e : Candidate) → slice_get m.entrants k ≡ Some e → find (λ (x : Candidate). x.child == e.child) m.entrants ≡ Some e
  found_entrant k e ek = find_is (λ (x : Candidate). x.child == e.child) m.entrants k e ek (eq-eqb e.child e.child refl) (λ j y l jy.
      elim (cases_Bool (y.child == e.child)) [
        | inr miss ↦ miss
        | inl hit ↦ absurd (d.children j k y e jy ek l (eqb-true y.child e.child hit))
      ])

  found_row : (k : ℕ) (e : Candidate) (r : Progress) → slice_get m.entrants k ≡ Some e → slice_get rows k ≡ Some r → find (λ (x : Progress). x.child == e.child) rows ≡ Some r
  found_row k e r ek rk = find_is (λ (x : Progress). x.child == e.child) rows k r rk (eq-eqb r.child e.child (sound.shaped.children k e r ek rk)) (λ j y l jy.
      let c = element_at m.entrants j (omega (arith, sound.shaped.same, slice_get_within rows j y jy)) in
      elim (cases_Bool (y.child == e.child)) [
        | inr miss ↦ miss
        | inl hit ↦ absurd (d.children j k c.0 e c.1 ek l (sym (sound.shaped.children j c.0 y c.1 jy) ∙ eqb-true y.child e.child hit))
      ])

  pub lost_is : (k : ℕ) (e : Candidate) (r : Progress) → slice_get m.entrants k ≡ Some e → slice_get rows k ≡ Some r → lost e.child ≡ nat_lt (assigned_rank e.list (a e.child)) r.rejections
  unfolding lost rank_in rejections_in
  lost_is k e r ek rk =
      let rank : rank_in e.child ≡ assigned_rank e.list (a e.child)
      = ap (λ o. unwrap_or (option_map (λ (x : Candidate). assigned_rank x.list (a e.child)) o) 0) (found_entrant k e ek) in
      let count : rejections_in e.child ≡ r.rejections = ap (λ o. unwrap_or (option_map (λ (x : Progress). x.rejections) o) 0) (found_row k e r ek rk) in
      λ i. nat_lt (rank i) (count i)

  row_of : (k : ℕ) (e : Candidate) → slice_get m.entrants k ≡ Some e → (r : Progress) × (slice_get rows k ≡ Some r)
  row_of k e ek = element_at rows k (omega (arith, slice_get_within m.entrants k e ek, sound.shaped.same))

  -- the school of a lost child, which rejected it
  lost_school : (k : ℕ) (e : Candidate) → slice_get m.entrants k ≡ Some e → lost e.child ≡ true → (s : Code) × (a e.child ≡ Some s) × (preference_rank e.list s < length e.list) × IsRejected m rows e s
  lost_school k e ek out =
      let r = row_of k e ek in
      let less = ltb-true (assigned_rank e.list (a e.child)) r.0.rejections (sym (lost_is k e r.0 ek r.1) ∙ out) in
      let upto = sound.shaped.within k e r.0 ek r.1 in
      by r.0 (a e.child) refl ek r.1 less upto
    where
      by : (r : Progress) (o : Option Code) → a e.child ≡ o → slice_get m.entrants k ≡ Some e → slice_get rows k ≡ Some r
          → assigned_rank e.list (a e.child) < r.rejections → r.rejections ≤ length e.list → (s : Code) × (a e.child ≡ Some s) × (preference_rank e.list s < length e.list) × IsRejected m rows e s
      by r None is ek rk less upto = absurd (let none = ap (assigned_rank e.list) is in omega (arith, none, less, upto))
      by r (Some s) is ek rk less upto =
          let some : assigned_rank e.list (a e.child) ≡ preference_rank e.list s = ap (assigned_rank e.list) is in
          let inside : preference_rank e.list s < length e.list = omega (arith, some, less, upto) in
          let w = wish_at_rank e.list s inside in
          (s, is, inside, subst (IsRejected m rows e) w.2 (sound.rejected k e r (preference_rank e.list s) w.0 ek rk (omega (arith, some, less)) w.1))

  -- ---- who is held by a school that rejected one of its own, and is not lost, has it

  module _ (all : (k : ℕ) (e : Candidate) → slice_get m.entrants k ≡ Some e → group e.child ≡ true → lost e.child ≡ true) where
    held_has : (s : Code) (k : ℕ) (e : Candidate) → slice_get m.entrants k ≡ Some e → a e.child ≡ Some s → preference_rank e.list s < length e.list
        → IsRejected m rows e s → (l : ℕ) (c : Candidate) (x : Progress) → slice_get m.entrants l ≡ Some c → slice_get rows l ≡ Some x → x.school ≡ Some s
        → lost c.child ≡ false → has (a c.child) s ≡ true
    held_has s k e ek there e_listed out l c x cl xl held kept_on = elim (cases_Bool (has (a c.child) s)) [
      | inl hit ↦ hit
      | inr elsewhere ↦ absurd (
          let outside : group c.child ≡ false = elim (cases_Bool (group c.child)) [
            | inr miss ↦ miss
            | inl in' ↦ absurd (true≢false (sym (all l c cl in') ∙ kept_on))
          ] in
          let g = hands.each l c cl in
          let c_now : slice_get now.entrants l ≡ Some c = g.1 ∙ ap Some (g.2.own outside) in
          let f = hands.each k e ek in
          let f_there : a f.0.child ≡ Some s = ap a f.2.child ∙ there in
          let f_free : is_tenant f.0 s ≡ false = f.2.guest s out.guest in
          let f_guest : is_guest a s f.0 ≡ true = guest_from a s f.0 f_there f_free in
          let f_listed : preference_rank f.0.list s < length f.0.list = on_list now a k f.0 s stable.acceptable f.1 f_there in
          let least : x.rejections ≤ assigned_rank c.list (a c.child) = elim (cases_lt (assigned_rank c.list (a c.child)) x.rejections) [
            | inr most ↦ most
            | inl less ↦ absurd (true≢false (sym (lt-ltb _ _ less) ∙ (sym (lost_is l c x cl xl) ∙ kept_on)))
          ] in
          let z = held_wish c x s (sound.shaped.holds l c x cl xl) held in
          let c_rank : preference_rank c.list s ≡ x.rejections = ap (preference_rank c.list) (sym z.2) ∙ d.well.own_rank l c x.rejections z.0 cl z.1 in
          let apart : assigned_rank c.list (a c.child) ≡ x.rejections → ⊥ = λ same. not_has (a c.child) s elsewhere (same_rank c.list (a c.child) x.rejections z.0 z.1 same ∙ ap Some z.2) in
          let wants : preference_rank c.list s < assigned_rank c.list (a c.child) = omega (arith, c_rank, least, apart) in
          let room = nat_lt (count_at now a s) (quota_of now.seats s) in
          let behind = list_any (λ other. is_guest a s other && ranks_before s c other) now.entrants in
          let entitled : (is_tenant c s || (room || behind)) ≡ true = elim (cases_Bool (is_tenant c s)) [
            | inl tenant ↦ or_left (is_tenant c s) (room || behind) tenant
            | inr free ↦
                let ranks : ranks_before s c e ≡ true = out.outranked l c (cl, (x, xl, held), free) in
                let ranks' : ranks_before s c f.0 ≡ true = ap (both_precede (key_at c.list s)) (f.2.key s e_listed f_listed) ∙ ranks in
                or_right (is_tenant c s) (room || behind) (or_right room behind
                (list_any_of (λ other. is_guest a s other && ranks_before s c other) now.entrants k f.0 f.1
                (and_from (is_guest a s f.0) (ranks_before s c f.0) f_guest ranks')))
          ] in
          let blocking : blocks now a c s ≡ true = blocks_from now a c s (lt-ltb _ _ wants) entitled in
          let unblocked : blocks now a c s ≡ false = at_All (λ e. (t : Code) → blocks now a e t ≡ false) now.entrants l c stable.unblocked c_now s in
          false≢true (sym unblocked ∙ blocking))
    ]

    -- what a lost child was to have, and what holds it
    was : Allocation
    was child = kept (lost child) (a child)

    is : Allocation
    is child = kept (lost child) (found_in rows child)

    -- a school holds as many of the lost as it lost
    as_many : (s : Code) → count_by (λ e. has (was e.child) s) m.entrants ≤ count_by (λ e. has (is e.child) s) m.entrants
    unfolding was is
    as_many s = elim (cases_Bool (list_any (λ (e : Candidate). has (was e.child) s) m.entrants)) [
      | inr none ↦ let zero' = count_none (λ (e : Candidate). has (was e.child) s) m.entrants none in omega (arith, zero')
      | inl some ↦
          let at = list_any_gives (λ (e : Candidate). has (was e.child) s) m.entrants some in
          let k = at.0 in
          let e = at.1 in
          let parts = kept_has (lost e.child) (a e.child) s at.3 in
          let own = lost_school k e at.2 parts.0 in
          let s_is : own.0 ≡ s = same_Some own.0 s (sym own.1 ∙ parts.1) in
          let out : IsRejected m rows e s = subst (IsRejected m rows e) s_is own.3 in
          let listed : preference_rank e.list s < length e.list = subst (λ t. preference_rank e.list t < length e.list) s_is own.2 in
          let f = hands.each k e at.2 in
          let f_guest = guest_from a s f.0 (ap a f.2.child ∙ parts.1) (f.2.guest s out.guest) in
          let few = stable.feasible s (list_any_of (is_guest a s) now.entrants k f.0 f.1 f_guest) in
          let quota : quota_of now.seats s ≡ quota_of m.seats s = ap (λ seats. quota_of seats s) hands.seats in
          let counts : count_at now a s ≡ count_at m a s
          = count_beside (λ e. has (a e.child) s) (λ e. has (a e.child) s) now.entrants m.entrants hands.same (λ j y z jy jz.
          let h = hands.each j z jz in
          let y_is : y ≡ h.0 = same_Some y h.0 (sym jy ∙ h.1) in
          ap (λ (n : ℕ). has (a n) s) (ap (λ (x : Candidate). x.child) y_is ∙ h.2.child)) in
          let gives = gives_by m rows d.children sound.shaped in
          let held : held_at rows s ≡ count_by (λ e. has (found_in rows e.child) s) m.entrants
          = count_beside (λ (r : Progress). has r.school s) (λ (e : Candidate). has (found_in rows e.child) s) rows m.entrants sound.shaped.same
          (λ j r z rj jz. ap (λ o. has o s) (sym (gives j z r jz rj))) in
          let split_was = count_split (λ (e : Candidate). has (a e.child) s) (λ e. has (was e.child) s) (λ e. not (lost e.child) && has (a e.child) s)
          (λ e. kept_split (lost e.child) (a e.child) s) m.entrants in
          let split_is = count_split (λ (e : Candidate). has (found_in rows e.child) s) (λ e. has (is e.child) s)
          (λ e. not (lost e.child) && has (found_in rows e.child) s) (λ e. kept_split (lost e.child) (found_in rows e.child) s) m.entrants in
          let others = count_upto (λ (e : Candidate). not (lost e.child) && has (a e.child) s) (λ e. not (lost e.child) && has (found_in rows e.child) s) m.entrants (λ l c cl both.
          let x = row_of l c cl in
          let two = and_parts (not (lost c.child)) (has (found_in rows c.child) s) both in
          let x_held : x.0.school ≡ Some s = sym (gives l c x.0 cl x.1) ∙ (has_tells (found_in rows c.child) s).0 two.1 in
          let stays : lost c.child ≡ false = elim (cases_Bool (lost c.child)) [ inr miss ↦ miss | inl hit ↦ absurd (false≢true (sym (ap not hit) ∙ two.0)) ] in
          and_from (not (lost c.child)) (has (a c.child) s) two.0 (held_has s k e at.2 parts.1 listed out l c x.0 cl x.1 x_held stays)) in
          omega (arith, few, quota, counts, held, out.full, split_was, split_is, others)
    ]

    was_acceptable : IsAcceptable m was
    unfolding was
    was_acceptable = All_at (λ e. IfSome (was e.child) (λ s. preference_rank e.list s < length e.list)) m.entrants (λ k e ek.
        elim (cases_Bool (lost e.child)) [
          | inr miss ↦ subst (λ b. IfSome (kept b (a e.child)) (λ s. preference_rank e.list s < length e.list)) (sym miss) tt
          | inl hit ↦
              let own = lost_school k e ek hit in
              subst (λ o. IfSome o (λ s. preference_rank e.list s < length e.list)) (sym (ap (λ b. kept b (a e.child)) hit ∙ own.1)) own.2
        ])

    is_lost : (k : ℕ) (e : Candidate) → placed is e ≡ true → lost e.child ≡ true
    unfolding is
    is_lost k e in' = elim (cases_Bool (lost e.child)) [
      | inl hit ↦ hit
      | inr miss ↦ absurd (false≢true (ap (λ b. is_some (kept b (found_in rows e.child))) (sym miss) ∙ in'))
    ]

    lost_was : (k : ℕ) (e : Candidate) → slice_get m.entrants k ≡ Some e → lost e.child ≡ true → placed was e ≡ true
    unfolding was
    lost_was k e ek hit = ap is_some (ap (λ b. kept b (a e.child)) hit ∙ (lost_school k e ek hit).1)

    free_is : (e : Candidate) → found_in rows e.child ≡ None → placed is e ≡ false
    unfolding is
    free_is e none = elim (lost e.child) as (λ b. is_some (kept b (found_in rows e.child)) ≡ false) [
      | true ↦ ap is_some none
      | false ↦ refl
    ]

    -- so a lost child that nobody holds cannot be
    pub all_held : (k : ℕ) (e : Candidate) (r : Progress) → slice_get m.entrants k ≡ Some e → slice_get rows k ≡ Some r → r.school ≡ None → lost e.child ≡ true → ⊥
    all_held k e r ek rk none hit =
        let gives = gives_by m rows d.children sound.shaped in
        let free = free_is e (gives k e r ek rk ∙ none) in
        let fewer = count_less (placed was) (placed is) m.entrants k e (λ j y jy in'. lost_was j y jy (is_lost j y in')) ek (lost_was k e ek hit) free in
        let schools = sum_upto (λ (seat : Seats). count_by (λ e. has (was e.child) seat.code) m.entrants)
        (λ seat. count_by (λ e. has (is e.child) seat.code) m.entrants) m.seats (λ seat. as_many seat.code) in
        omega (arith, fewer, placed_from m was seated was_acceptable, swap_sums was m.seats m.entrants, schools, swap_sums is m.seats m.entrants, placed_upto m is seated)
