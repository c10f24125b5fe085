-- No child gains by listing its schools otherwise.
use Rattle.std.proofs.Common.{◌≡◌, ◌⊎◌, ℕ, zero, suc, ◌+◌, ◌<◌, ◌≤◌, List, [], ◌∷◌, length, take, Option, None, Some, true, false, cond, not, inl, inr, refl, sym, ap, ◌∙◌, subst, arith, add-one}
use Rattle.std.specs.Prelude.{is_some, bytes_eq, option_map}
use Rattle.std.specs.List.{slice_get, list_any}
use Rattle.std.proofs.lemmas.Bool.{cases_Bool, cases_eq, cases_lt, false≢true, and_left, lt-ltb, le-ltb, ltb-true}
use Rattle.std.proofs.lemmas.Option.{none-some, same_Some, slice_get_within}
use Rattle.std.proofs.lemmas.Slice.Eq.{bytes_eq-Decides}
use Rattle.adm_match.specs.declared.problem.Wish.{Wish}
use Rattle.adm_match.specs.declared.problem.Seats.{Seats}
use Rattle.adm_match.specs.Market.{Code, Candidate, Market, preference_rank, assigned_rank, is_tenant, key_at, some_pair, same_code}
use Rattle.adm_match.specs.Stability.{Allocation, prefers, blocks, IsContent, IsStable, IsBest}
use Rattle.adm_match.proofs.RanksAndBlocks.{at_All, wish_at_rank}
use Rattle.adm_match.proofs.Beginning.{rank_take, key_take, rank_taken, at_take}
use Rattle.adm_match.proofs.FoundWishes.{rank_within}
use Rattle.adm_match.specs.Distinct.{Distinct}
use Rattle.adm_match.proofs.Existence.{best_exists}
use Rattle.adm_match.specs.Distinct.{Seated}
use Rattle.adm_match.proofs.Placed.{on_list, full_if_unblocked, same_placed}
use Rattle.adm_match.proofs.Moved.{Differs, differs_back, differs_on, differs_set, replaced, RanksAlike, unblocked_moves, stable_moves}

-- An entrant with a part of the list, and no tenant: each of its wishes is the old one's, who is no tenant there.
pub record Part (m : Market) (k : ℕ) (e e' : Candidate) : Type 0 where
  pub own_rank : (j : ℕ) (w : Wish) → slice_get e'.list j ≡ Some w → preference_rank e'.list w.school ≡ j
  pub keys : (j : ℕ) (w : Wish) → slice_get e'.list j ≡ Some w → key_at e'.list w.school ≡ Some w.key
  pub old : (j : ℕ) (w : Wish) → slice_get e'.list j ≡ Some w → (i : ℕ) × (slice_get e.list i ≡ Some w)
  pub free : (j : ℕ) (w : Wish) → slice_get e'.list j ≡ Some w → is_tenant e' w.school ≡ false → is_tenant e w.school ≡ false

-- an entrant of the changed problem, and the one whose index it has
origin : (m m' : Market) (k : ℕ) (e e' : Candidate) → Differs m m' k e e' → Part m k e e' → (j : ℕ) (x : Candidate) → slice_get m'.entrants j ≡ Some x
    → (y : Candidate) × (slice_get m.entrants j ≡ Some y) × (x.child ≡ y.child)
    × ((i : ℕ) (w : Wish) → slice_get x.list i ≡ Some w → is_tenant x w.school ≡ false → ((n : ℕ) × (slice_get y.list n ≡ Some w)) × (is_tenant y w.school ≡ false))
    × ((i : ℕ) (w : Wish) → slice_get x.list i ≡ Some w → (n : ℕ) × (slice_get y.list n ≡ Some w))
origin m m' k e e' h part j x xj = elim (cases_eq j k) [
  | inl is ↦
      let x_is : e' ≡ x = same_Some e' x (sym h.here' ∙ (ap (slice_get m'.entrants) (sym is) ∙ xj)) in (
        e,
        ap (slice_get m.entrants) is ∙ h.here,
        ap (λ (z : Candidate). z.child) (sym x_is) ∙ h.child,
        λ i w iw free.
            let mine : slice_get e'.list i ≡ Some w = ap (λ (z : Candidate). slice_get z.list i) x_is ∙ iw in
            (part.old i w mine, part.free i w mine (ap (λ (z : Candidate). is_tenant z w.school) x_is ∙ free)),
        λ i w iw. part.old i w (ap (λ (z : Candidate). slice_get z.list i) x_is ∙ iw),
      )
  | inr n ↦ (x, sym (h.others j n) ∙ xj, refl, λ i w iw free. ((i, iw), free), λ i w iw. (i, iw))
]

pub part_distinct : (m m' : Market) (k : ℕ) (e e' : Candidate) → Differs m m' k e e' → Part m k e e' → Distinct m → Distinct m'
part_distinct m m' k e e' h part d = record {
  well = record {
    own_rank = λ j x i w xj iw. elim (cases_eq j k) [
      | inl is ↦
          let x_is : e' ≡ x = same_Some e' x (sym h.here' ∙ (ap (slice_get m'.entrants) (sym is) ∙ xj)) in
          ap (λ (z : Candidate). preference_rank z.list w.school) (sym x_is) ∙ part.own_rank i w (ap (λ (z : Candidate). slice_get z.list i) x_is ∙ iw)
      | inr n ↦ d.well.own_rank j x i w (sym (h.others j n) ∙ xj) iw
    ];
  };
  children = λ i j x y xi yj less same.
      let a = origin m m' k e e' h part i x xi in
      let b = origin m m' k e e' h part j y yj in
      d.children i j a.0 b.0 a.1 b.1 less (sym a.2 ∙ (same ∙ b.2));
  key_of = λ j x i w xj iw. elim (cases_eq j k) [
    | inl is ↦
        let x_is : e' ≡ x = same_Some e' x (sym h.here' ∙ (ap (slice_get m'.entrants) (sym is) ∙ xj)) in
        ap (λ (z : Candidate). key_at z.list w.school) (sym x_is) ∙ part.keys i w (ap (λ (z : Candidate). slice_get z.list i) x_is ∙ iw)
    | inr n ↦ d.key_of j x i w (sym (h.others j n) ∙ xj) iw
  ];
  keys = λ i j x y n l w z apart xi yj nw lz same free free' before.
      let a = origin m m' k e e' h part i x xi in
      let b = origin m m' k e e' h part j y yj in
      let w_old = a.3 n w nw free in
      let free_z : is_tenant y z.school ≡ false = ap (is_tenant y) (sym same) ∙ free' in
      let z_old = b.3 l z lz free_z in
      d.keys i j a.0 b.0 w_old.0.0 z_old.0.0 w z apart a.1 b.1 w_old.0.1 z_old.0.1 same w_old.1 (ap (is_tenant b.0) same ∙ z_old.1) before;
}

pub part_seated : (m m' : Market) (k : ℕ) (e e' : Candidate) → Differs m m' k e e' → Part m k e e' → Seated m → Seated m'
part_seated m m' k e e' h part d = record {
  once = ap (λ (x : List Seats). some_pair same_code x) h.seats ∙ d.once;
  known = λ j x i w xj iw.
      let a = origin m m' k e e' h part j x xj in
      let old = a.4 i w iw in
      ap (λ (ss : List Seats). list_any (λ seat. bytes_eq seat.code w.school) ss) h.seats ∙ d.known j a.0 old.0 w a.1 old.1;
}

-- the list of one wish
one_rank : (w : Wish) (s : Code) → w.school ≡ s → preference_rank (w ∷ []) s ≡ 0
one_rank w s is = ap (λ b. cond (not b) 1 0) ((bytes_eq-Decides w.school s).1 is)

one_key : (w : Wish) (s : Code) → w.school ≡ s → key_at (w ∷ []) s ≡ Some w.key
one_key w s is = ap (λ b. option_map (λ (x : Wish). x.key) (cond b (Some w) None)) ((bytes_eq-Decides w.school s).1 is)

one_only : (w : Wish) (s : Code) → preference_rank (w ∷ []) s < 1 → w.school ≡ s
one_only w s l = elim (cases_Bool (bytes_eq w.school s)) [
  | inl hit ↦ (bytes_eq-Decides w.school s).0 hit
  | inr miss ↦ absurd (let far : preference_rank (w ∷ []) s ≡ 1 = ap (λ b. cond (not b) (1 + 0) 0) miss in omega (arith, l, far))
]

one_at : (w : Wish) (j : ℕ) (x : Wish) → slice_get (w ∷ []) j ≡ Some x → w ≡ x
one_at w zero x e = same_Some w x e
one_at w (suc j) x e = absurd (none-some x e)

-- an entrant with this list alone, and no tenant
abbrev alone : Candidate → List Wish → Candidate
alone e list = record { child = e.child; list = list; tenant = None }

-- what the problem says of the school w of the list, of which the entrant is no tenant, and of those before it
pub record Wanted (m : Market) (k : ℕ) (e : Candidate) (n : ℕ) (w : Wish) : Type 0 where
  pub here : slice_get m.entrants k ≡ Some e
  pub at : slice_get e.list n ≡ Some w
  pub free_upto : (j : ℕ) (x : Wish) → j ≤ n → slice_get e.list j ≡ Some x → is_tenant e x.school ≡ false

part_one : (m : Market) (k : ℕ) (e : Candidate) (n : ℕ) (w : Wish) → Distinct m → Wanted m k e n w → Part m k e (alone e (w ∷ []))
part_one m k e n w d h = record {
  own_rank = λ j x jx. elim (cases_eq j 0) [
    | inl is ↦ one_rank w x.school (ap (λ (z : Wish). z.school) (one_at w j x jx)) ∙ sym is
    | inr more ↦ absurd (omega (arith, more, slice_get_within (w ∷ []) j x jx))
  ];
  keys = λ j x jx.
      let same = one_at w j x jx in
      one_key w x.school (ap (λ (z : Wish). z.school) same) ∙ ap (λ (z : Wish). Some z.key) same;
  old = λ j x jx. (n, h.at ∙ ap Some (one_at w j x jx));
  free = λ j x jx _. ap (λ (z : Wish). is_tenant e z.school) (sym (one_at w j x jx)) ∙ h.free_upto n w (omega arith) h.at;
}

part_front : (m : Market) (k : ℕ) (e : Candidate) (n : ℕ) (w : Wish) → Distinct m → Wanted m k e n w → Part m k e (alone e (take (n + 1) e.list))
part_front m k e n w d h = record {
  own_rank = λ j x jx.
      let old = at_take e.list (n + 1) j x jx in
      let is = d.well.own_rank k e j x h.here old.0 in
      rank_take e.list (n + 1) x.school (omega (arith, is, old.1)) ∙ is;
  keys = λ j x jx.
      let old = at_take e.list (n + 1) j x jx in
      let is = d.well.own_rank k e j x h.here old.0 in
      key_take e.list (n + 1) x.school (omega (arith, is, old.1)) ∙ d.key_of k e j x h.here old.0;
  old = λ j x jx. (j, (at_take e.list (n + 1) j x jx).0);
  free = λ j x jx _. let old = at_take e.list (n + 1) j x jx in h.free_upto j x (omega (arith, old.1)) old.0;
}

-- a child that is given the one school of its list wants no other
one_content : (m : Market) (a : Allocation) (e : Candidate) (w : Wish) (s : Code) → w.school ≡ s → a e.child ≡ Some s → IsContent m a (alone e (w ∷ []))
one_content m a e w s is at = λ t.
    let here : assigned_rank (w ∷ []) (a e.child) ≡ 0 = ap (assigned_rank (w ∷ [])) at ∙ one_rank w s is in
    and_left (prefers a (alone e (w ∷ [])) t) _ (le-ltb _ _ (omega (arith, here)))

-- The school s, of which c is no tenant, is before what the best allocation gives c. Then no list of c leads to
-- a stable allocation that gives it s.
pub never_gained : (m m' : Market) (k : ℕ) (e e' : Candidate) (b a : Allocation) (w : Wish) → Differs m m' k e e' → Distinct m → Seated m → IsBest m b → IsStable m' a
    → Wanted m k e (preference_rank e.list w.school) w → a e.child ≡ Some w.school → is_tenant e' w.school ≡ false → key_at e'.list w.school ≡ Some w.key
    → preference_rank e.list w.school < assigned_rank e.list (b e.child) → ⊥
never_gained m m' k e e' b a w h d seated best stable wanted at free' key' gain =
    let s = w.school in
    let n = preference_rank e.list s in
    let e1 = alone e (w ∷ []) in
    let e2 = alone e (take (n + 1) e.list) in
    let m1 = replaced m k e1 in
    let m2 = replaced m k e2 in
    let h1 : Differs m m1 k e e1 = differs_set m k e e1 wanted.here refl in
    let h2 : Differs m m2 k e e2 = differs_set m k e e2 wanted.here refl in
    let p1 = part_one m k e n w d wanted in
    let p2 = part_front m k e n w d wanted in
    let s1 = part_seated m m1 k e e1 h1 p1 seated in
    let b1 = best_exists m1 (part_distinct m m1 k e e1 h1 p1 d) in
    let b2 = best_exists m2 (part_distinct m m2 k e e2 h2 p2 d) in
    let key2 : key_at e2.list s ≡ Some w.key = p2.keys n w (front_at e.list n w wanted.at) in
    -- the list of s alone keeps the allocation stable
    let a_at' : a e'.child ≡ Some s = ap a h.child ∙ at in
    let from' = differs_on m m' m1 k e e' e1 h h1 in
    let alike : RanksAlike a e' e1 = λ t is.
    let t_is : s ≡ t = same_Some s t (sym a_at' ∙ is) in
    subst (λ (u : Code). (is_tenant e1 u ≡ is_tenant e' u) × (key_at e1.list u ≡ key_at e'.list u)) t_is
    (sym free', one_key w s refl ∙ sym key') in
    let listed : (t : Code) → a e'.child ≡ Some t → preference_rank e1.list t < length e1.list = λ t is.
    let t_is : s ≡ t = same_Some s t (sym a_at' ∙ is) in
    omega (arith, one_rank w t t_is) in
    let a1 : IsStable m1 a = stable_moves m' m1 k e' e1 a from' alike listed (one_content m1 a e w s refl at) stable in
    -- the list up to s: the child is not left out
    elim (given_or_not (b2.0 e.child)) [
      | inl out ↦
          let back = differs_on m m2 m1 k e e2 e1 h2 h1 in
          let nothing : RanksAlike b2.0 e2 e1 = λ t is. absurd (none-some t (sym out ∙ is)) in
          let wants : prefers b2.0 e2 s ≡ true = lt-ltb _ _ (omega (
            arith,
            p2.own_rank n w (front_at e.list n w wanted.at),
            ap (assigned_rank e2.list) out,
            slice_get_within e2.list n w (front_at e.list n w wanted.at),
          )) in
          let unblocked : blocks m2 b2.0 e2 s ≡ false = at_All (IsContent m2 b2.0) m2.entrants k e2 b2.1.stable.unblocked h2.here' s in
          let content : IsContent m1 b2.0 e1 = λ t. elim (cases_Bool (prefers b2.0 e1 t)) [
            | inr unblocked' ↦ and_left (prefers b2.0 e1 t) _ unblocked'
            | inl more ↦
                let t_is : s ≡ t = one_only w t (omega (arith, ltb-true _ _ more, ap (assigned_rank e1.list) out)) in
                subst (λ (u : Code). blocks m1 b2.0 e1 u ≡ false) t_is
                (unblocked_moves m2 m1 k e2 e1 b2.0 s back nothing refl (one_key w s refl ∙ sym key2) wants unblocked)
          ] in
          let c1 : IsStable m1 b2.0 = stable_moves m2 m1 k e2 e1 b2.0 back nothing (λ t is. absurd (none-some t (sym out ∙ is))) content b2.1.stable in
          let there = same_placed m1 b1.0 a b2.0 s1 b1.1 a1 c1 k e1 h1.here' (ap is_some at) in
          false≢true (sym (ap is_some out) ∙ there)
      | inr given ↦
          let t = given.0 in
          let inside2 = on_list m2 b2.0 k e2 t b2.1.stable.acceptable h2.here' given.1 in
          let early : preference_rank e.list t < n + 1 = rank_taken e.list (n + 1) t inside2 in
          let within = slice_get_within e.list n w wanted.at in
          let back = differs_back m m2 k e e2 h2 in
          let free_at : (u : Code) → preference_rank e.list u < n + 1 → is_tenant e u ≡ false = λ u l.
          let x = wish_at_rank e.list u (omega (arith, l, within)) in
          ap (is_tenant e) (sym x.2) ∙ wanted.free_upto (preference_rank e.list u) x.0 (omega (arith, l)) x.1 in
          let alike2 : RanksAlike b2.0 e2 e = λ u is.
          let u_is : t ≡ u = same_Some t u (sym given.1 ∙ is) in
          subst (λ (x : Code). (is_tenant e x ≡ is_tenant e2 x) × (key_at e.list x ≡ key_at e2.list x)) u_is
          (free_at t early, sym (key_take e.list (n + 1) t early)) in
          let listed2 : (u : Code) → b2.0 e2.child ≡ Some u → preference_rank e.list u < length e.list = λ u is.
          let u_is : t ≡ u = same_Some t u (sym given.1 ∙ is) in
          subst (λ (x : Code). preference_rank e.list x < length e.list) u_is (omega (arith, early, within)) in
          let t_rank : assigned_rank e.list (b2.0 e.child) ≡ preference_rank e.list t = ap (assigned_rank e.list) given.1 in
          let t_rank2 : assigned_rank e2.list (b2.0 e.child) ≡ preference_rank e.list t = ap (assigned_rank e2.list) given.1 ∙ rank_take e.list (n + 1) t early in
          let content : IsContent m b2.0 e = λ u. elim (cases_Bool (prefers b2.0 e u)) [
            | inr unblocked' ↦ and_left (prefers b2.0 e u) _ unblocked'
            | inl more ↦
                let before = ltb-true _ _ more in
                let u_early : preference_rank e.list u < n + 1 = omega (arith, before, t_rank, early) in
                let wants2 : prefers b2.0 e2 u ≡ true = lt-ltb _ _ (omega (arith, rank_take e.list (n + 1) u u_early, before, t_rank, t_rank2)) in
                let unblocked2 : blocks m2 b2.0 e2 u ≡ false = at_All (IsContent m2 b2.0) m2.entrants k e2 b2.1.stable.unblocked h2.here' u in
                unblocked_moves m2 m k e2 e b2.0 u back alike2 (free_at u u_early) (sym (key_take e.list (n + 1) u u_early)) wants2 unblocked2
          ] in
          let c2 : IsStable m b2.0 = stable_moves m2 m k e2 e b2.0 back alike2 listed2 content b2.1.stable in
          let least : assigned_rank e.list (b e.child) ≤ assigned_rank e.list (b2.0 e.child) = at_All
          (λ x. assigned_rank x.list (b x.child) ≤ assigned_rank x.list (b2.0 x.child)) m.entrants k e (best.none_better b2.0 c2) wanted.here in
          omega (arith, least, t_rank, early, gain)
    ]
  where
    given_or_not : (o : Option Code) → (o ≡ None) ⊎ ((t : Code) × (o ≡ Some t))
    given_or_not None = inl refl
    given_or_not (Some t) = inr (t, refl)

    front : (ws : List Wish) (n : ℕ) (w : Wish) → slice_get ws n ≡ Some w → slice_get (take (suc n) ws) n ≡ Some w
    front [] n w e = absurd (none-some w e)
    front (x ∷ xs) zero w e = e
    front (x ∷ xs) (suc n) w e = front xs n w e

    front_at : (ws : List Wish) (n : ℕ) (w : Wish) → slice_get ws n ≡ Some w → slice_get (take (n + 1) ws) n ≡ Some w
    front_at ws n w e = rw add-one (front ws n w e)

-- Any list, with the entrant's own keys at the schools of its list, by which it is tenant of no other school.
pub record Listing (e e' : Candidate) : Type 0 where
  pub guest : (s : Code) → is_tenant e s ≡ false → is_tenant e' s ≡ false
  pub own : (s : Code) → preference_rank e.list s < length e.list → preference_rank e'.list s < length e'.list → key_at e'.list s ≡ key_at e.list s

-- Whatever such list the child hands in: no stable allocation of that problem gives it a school before the one
-- that it has in the best allocation.
pub no_gain : (m m' : Market) (k : ℕ) (e e' : Candidate) (b a : Allocation) → Differs m m' k e e' → Listing e e' → Distinct m → Seated m
    → ((s : Code) → is_tenant e s ≡ true → preference_rank e.list s + 1 ≡ length e.list) → IsBest m b → IsStable m' a → assigned_rank e.list (b e.child) ≤ assigned_rank e.list (a e.child)
no_gain m m' k e e' b a h listing d seated tenant_last best stable = elim (given_or_not (a e.child)) [
  | inl out ↦ omega (arith, rank_within e.list (b e.child), ap (assigned_rank e.list) out)
  | inr given ↦
      let s = given.0 in
      let at' : a e'.child ≡ Some s = ap a h.child ∙ given.1 in
      let a_rank : assigned_rank e.list (a e.child) ≡ preference_rank e.list s = ap (assigned_rank e.list) given.1 in
      elim (cases_lt (preference_rank e.list s) (assigned_rank e.list (b e.child))) [
        | inr most ↦ omega (arith, most, a_rank)
        | inl gain ↦
            let inside : preference_rank e.list s < length e.list = omega (arith, gain, rank_within e.list (b e.child)) in
            let own = listing.own s inside (on_list m' a k e' s stable.acceptable h.here' at') in
            let w = wish_at_rank e.list s inside in
            elim (cases_Bool (is_tenant e s)) [
              | inl tenant ↦
                  -- the tenant's school is the last, and the tenant always has it or a better one
                  let wants : prefers b e s ≡ true = lt-ltb _ _ gain in
                  let unblocked = at_All (IsContent m b) m.entrants k e best.stable.unblocked h.here s in
                  absurd (false≢true (sym (full_if_unblocked m b e s wants unblocked).0 ∙ tenant))
              | inr free ↦
                  let w_key : key_at e.list s ≡ Some w.0.key = ap (key_at e.list) (sym w.2) ∙ d.key_of k e (preference_rank e.list s) w.0 h.here w.1 in
                  let wanted : Wanted m k e (preference_rank e.list w.0.school) w.0 = record {
                    here = h.here;
                    at = ap (λ (t : Code). slice_get e.list (preference_rank e.list t)) w.2 ∙ w.1;
                    free_upto = λ j x upto jx. elim (cases_Bool (is_tenant e x.school)) [
                      | inr free' ↦ free'
                      | inl tenant ↦ absurd (
                          let last = tenant_last x.school tenant in
                          let x_rank = d.well.own_rank k e j x h.here jx in
                          let s_rank : preference_rank e.list w.0.school ≡ preference_rank e.list s = ap (preference_rank e.list) w.2 in
                          let same : j ≡ preference_rank e.list s = omega (arith, last, x_rank, upto, s_rank, inside) in
                          let x_is : x ≡ w.0 = same_Some x w.0 (sym jx ∙ (ap (slice_get e.list) same ∙ w.1)) in
                          false≢true (sym free ∙ (ap (is_tenant e) (sym w.2 ∙ ap (λ (z : Wish). z.school) (sym x_is)) ∙ tenant)))
                    ];
                  } in
                  absurd (never_gained m m' k e e' b a w.0 h d seated best stable wanted (given.1 ∙ ap Some (sym w.2))
                  (listing.guest w.0.school (ap (is_tenant e) w.2 ∙ free))
                  (ap (key_at e'.list) w.2 ∙ (own ∙ w_key))
                  (omega (arith, ap (preference_rank e.list) w.2, gain)))
            ]
      ]
]
  where
    given_or_not : (o : Option Code) → (o ≡ None) ⊎ ((t : Code) × (o ≡ Some t))
    given_or_not None = inl refl
    given_or_not (Some t) = inr (t, refl)
