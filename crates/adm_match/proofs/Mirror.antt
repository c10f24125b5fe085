-- The guests that a school's heap holds are those of the rows.
use Rattle.std.proofs.Common.{◌≡◌, ◌⊎◌, ℕ, zero, suc, ◌+◌, ◌<◌, List, [], ◌∷◌, ◌++◌, length, get_or, set, Option, None, Some, Bool, true, false, cond, not, ◌&&◌, inl, inr, refl, sym, ap, ◌∙◌, subst, arith, append_assoc}
use Rattle.std.specs.Prelude.{Contains, IsPermutation, option_map}
use Rattle.std.specs.List.{slice_get}
use Rattle.std.specs.Option.{option_to_list}
use Rattle.std.proofs.lemmas.Bool.{and_from, and_parts, not-true, not_from_false}
use Rattle.std.proofs.lemmas.Option.{none-some, same_Some}
use Rattle.std.proofs.lemmas.List.Sorted.{IsPermutation-trans, IsPermutation-sym, IsPermutation-append_left, IsPermutation-append_right, IsPermutation-append_comm, Contains-permutation}
use Rattle.adm_types.specs.Code.{has}
use Rattle.adm_lists.proofs.Counts.{one_if}
use Rattle.adm_rank.specs.declared.keys.RankKey.{RankKey}
use Rattle.adm_match.specs.declared.held.Guest.{Guest}
use Rattle.adm_match.specs.declared.progress.Progress.{Progress}
use Rattle.std.proofs.lemmas.List.Elements.{Contains-append_cases, Contains-append_left, Contains-append_right, All-contains}
use Rattle.adm_rank.specs.Ranking.{precedes}
use Rattle.adm_match.specs.Market.{Code, Candidate, Market, is_tenant, key_at, both_precede, ranks_before}
use Rattle.adm_match.specs.Turns.{IsGuestAt, Shaped, IsLast}
use Rattle.adm_match.specs.Holding.{guest_entry, guests_from, guests_of, RanksLast, SameBag}
use Rattle.adm_match.proofs.Departure.{held_wish}
use Rattle.adm_match.specs.Distinct.{Distinct}
use Rattle.adm_match.proofs.Distinct.{ranked_of}
use Rattle.adm_match.proofs.RanksAndBlocks.{has_tells, has_true}
use Rattle.std.specs.Prelude.{◌==◌, ◌≤◌}
use Rattle.std.specs.List.{count_by}
use Rattle.std.proofs.lemmas.Bool.{eqb-true, cases_Bool}
use Rattle.std.proofs.lemmas.Bool.Decides.{nat_tests}
use Rattle.std.proofs.lemmas.List.Sorted.{sum_by-IsPermutation}
use Rattle.std.proofs.lemmas.List.Sums.{sum_by-cons, get_or-le-sum_by}
use Rattle.adm_match.proofs.SideBySide.{count_no}

-- the entry of a guest, and of one that is none
pub entry_is : (k : ℕ) (e : Candidate) (r : Progress) (s : Code) (key : RankKey) → r.school ≡ Some s → is_tenant e s ≡ false → key_at e.list s ≡ Some key
    → guest_entry k e r s ≡ (record { key = key; child = k } ∷ [])
entry_is k e r s key at free is =
    ap (λ b. cond b (option_to_list (option_map (λ (q : RankKey). record { key = q; child = k }) (key_at e.list s))) [])
    (and_from (has r.school s) (not (is_tenant e s)) (has_true r.school s at) (not_from_false (is_tenant e s) free))
    ∙ ap (λ o. option_to_list (option_map (λ (q : RankKey). record { key = q; child = k }) o)) is

pub entry_none : (k : ℕ) (e : Candidate) (r : Progress) (s : Code) → (has r.school s && not (is_tenant e s)) ≡ false → guest_entry k e r s ≡ []
entry_none k e r s out = ap (λ b. cond b (option_to_list (option_map (λ (q : RankKey). record { key = q; child = k }) (key_at e.list s))) []) out

swap_front : (xs ys zs : List Guest) → IsPermutation (xs ++ (ys ++ zs)) (ys ++ (xs ++ zs))
swap_front xs ys zs =
    rw (← append_assoc) (rw (← append_assoc) (IsPermutation-append_left zs (xs ++ ys) (ys ++ xs) (IsPermutation-append_comm xs ys)))

set_from : (n j : ℕ) (es : List Candidate) (rows : List Progress) (s : Code) (i : ℕ) (e : Candidate) (r v : Progress) → j ≡ n + i → slice_get es i ≡ Some e
    → slice_get rows i ≡ Some r → IsPermutation (guest_entry j e v s ++ guests_from n es rows s) (guest_entry j e r s ++ guests_from n es (set rows i v) s)
set_from n j [] rows s i e r v at ei ri = absurd (none-some e ei)
set_from n j (d ∷ es) [] s i e r v at ei ri = absurd (none-some r ri)
set_from n j (d ∷ es) (q ∷ rows) s zero e r v at ei ri =
    let d_is : d ≡ e = same_Some d e ei in
    let q_is : q ≡ r = same_Some q r ri in
    let j_is : j ≡ n = omega (arith, at) in
    let rest = guests_from (n + 1) es rows s in
    subst (λ (k : ℕ). IsPermutation (guest_entry j e v s ++ (guest_entry k d q s ++ rest)) (guest_entry j e r s ++ (guest_entry k d v s ++ rest))) j_is
    (subst (λ (x : Candidate). IsPermutation (guest_entry j e v s ++ (guest_entry j x q s ++ rest)) (guest_entry j e r s ++ (guest_entry j x v s ++ rest))) (sym d_is)
    (subst (λ (x : Progress). IsPermutation (guest_entry j e v s ++ (guest_entry j e x s ++ rest)) (guest_entry j e r s ++ (guest_entry j e v s ++ rest))) (sym q_is)
    (swap_front (guest_entry j e v s) (guest_entry j e r s) rest)))
set_from n j (d ∷ es) (q ∷ rows) s (suc i) e r v at ei ri =
    let rest = set_from (n + 1) j es rows s i e r v (omega (arith, at)) ei ri in
    IsPermutation-trans _ _ _ (swap_front (guest_entry j e v s) (guest_entry n d q s) (guests_from (n + 1) es rows s))
    (IsPermutation-trans _ _ _ (IsPermutation-append_right (guest_entry n d q s) _ _ rest)
    (swap_front (guest_entry n d q s) (guest_entry j e r s) (guests_from (n + 1) es (set rows i v) s)))

-- one row is written: the guests before and after, with the entries of that row
pub guests_set : (es : List Candidate) (rows : List Progress) (s : Code) (i : ℕ) (e : Candidate) (r v : Progress) → slice_get es i ≡ Some e → slice_get rows i ≡ Some r
    → IsPermutation (guest_entry i e v s ++ guests_of es rows s) (guest_entry i e r s ++ guests_of es (set rows i v) s)
guests_set es rows s i e r v ei ri = set_from 0 i es rows s i e r v (omega arith) ei ri

-- the guest that an entry is of
guest_behind : (n : ℕ) (es : List Candidate) (rows : List Progress) (s : Code) (g : Guest) → Contains (guests_from n es rows s) g
    → (k : ℕ) × (e : Candidate) × IsGuestAt es rows s k e × (key_at e.list s ≡ Some g.key) × (g.child ≡ n + k)
guest_behind n [] rows s g h = absurd (omega (arith, h.1))
guest_behind n (e ∷ es) [] s g h = absurd (omega (arith, h.1))
guest_behind n (e ∷ es) (r ∷ rows) s g h = elim (Contains-append_cases (guest_entry n e r s) (guests_from (n + 1) es rows s) g h) [
  | inl here ↦ first e es r rows s g here (key_at e.list s) refl
  | inr there ↦
      let w = guest_behind (n + 1) es rows s g there in
      (suc w.0, w.1, w.2, w.3, omega (arith, w.4))
]
  where
    in_entry : (b : Bool) (o : Option RankKey) (child : ℕ) (g : Guest)
        → Contains (cond b (option_to_list (option_map (λ (q : RankKey). record { key = q; child = child }) o)) []) g → (b ≡ true) × (o ≡ Some g.key) × (child ≡ g.child)
    in_entry false o child g h = absurd (omega (arith, h.1))
    in_entry true None child g h = absurd (omega (arith, h.1))
    in_entry true (Some q) child g h = one h.0 h.1 h.2
      where
        one : (k : ℕ) → k < 1 → get_or (record { key = q; child = child } ∷ []) k g ≡ g → (true ≡ true) × (◌≡◌ {A = Option RankKey} (Some q) (Some g.key)) × (child ≡ g.child)
        one zero l is = (refl, ap (λ (x : Guest). Some x.key) is, ap (λ (x : Guest). x.child) is)
        one (suc k) l is = absurd (omega arith)

    first : (e : Candidate) (es : List Candidate) (r : Progress) (rows : List Progress) (s : Code) (g : Guest) → Contains (guest_entry n e r s) g → (o : Option RankKey)
        → key_at e.list s ≡ o → (k : ℕ) × (d : Candidate) × IsGuestAt (e ∷ es) (r ∷ rows) s k d × (key_at d.list s ≡ Some g.key) × (g.child ≡ n + k)
    first e es r rows s g here o is =
        let f = in_entry (has r.school s && not (is_tenant e s)) (key_at e.list s) n g here in
        let parts = and_parts (has r.school s) (not (is_tenant e s)) f.0 in
        (0, e, (refl, (r, refl, (has_tells r.school s).0 parts.0), not-true (is_tenant e s) parts.1), f.1, omega (arith, f.2))

entry_from : (n j : ℕ) (es : List Candidate) (rows : List Progress) (s : Code) (k : ℕ) (e : Candidate) (key : RankKey) → j ≡ n + k → IsGuestAt es rows s k e
    → key_at e.list s ≡ Some key → Contains (guests_from n es rows s) (record { key = key; child = j })
entry_from n j [] rows s k e key at g h = absurd (none-some e g.0)
entry_from n j (d ∷ es) [] s k e key at g h = absurd (none-some g.1.0 g.1.1)
entry_from n j (d ∷ es) (q ∷ rows) s zero e key at g h =
    let d_is : e ≡ d = sym (same_Some d e g.0) in
    let q_is : g.1.0 ≡ q = sym (same_Some q g.1.0 g.1.1) in
    let j_is : j ≡ n = omega (arith, at) in
    let here = subst (λ (i : ℕ). Contains (guest_entry i d q s) (record { key = key; child = j })) j_is
    (subst (λ (x : Candidate). Contains (guest_entry j x q s) (record { key = key; child = j })) d_is
    (subst (λ (x : Progress). Contains (guest_entry j e x s) (record { key = key; child = j })) q_is
    (subst (λ (xs : List Guest). Contains xs (record { key = key; child = j })) (sym (entry_is j e g.1.0 s key g.1.2 g.2 h)) (0, omega arith, refl)))) in
    Contains-append_left (guest_entry n d q s) (guests_from (n + 1) es rows s) _ here
entry_from n j (d ∷ es) (q ∷ rows) s (suc k) e key at g h =
    Contains-append_right (guest_entry n d q s) (guests_from (n + 1) es rows s) _ (entry_from (n + 1) j es rows s k e key (omega (arith, at)) g h)

-- a guest has its entry
pub entry_behind : (es : List Candidate) (rows : List Progress) (s : Code) (k : ℕ) (e : Candidate) (key : RankKey) → IsGuestAt es rows s k e → key_at e.list s ≡ Some key
    → Contains (guests_of es rows s) (record { key = key; child = k })
entry_behind es rows s k e key g h = entry_from 0 k es rows s k e key (omega arith) g h

pub bag_of : (xs ys : List Guest) → IsPermutation xs ys → SameBag xs ys
bag_of xs ys h p = sym (sum_by-IsPermutation (λ x. cond (p x) 1 0) xs ys h)

-- one guest less on both sides
pub bag_rest : (g : Guest) (xs ys : List Guest) → SameBag (g ∷ xs) (g ∷ ys) → SameBag xs ys
bag_rest g xs ys h p = omega (arith, h p, sum_by-cons (λ x. cond (p x) 1 0) g xs, sum_by-cons (λ x. cond (p x) 1 0) g ys)

abbrev same_guest : Guest → Guest → Bool
same_guest a b = a.child == b.child && (a.key.class == b.key.class && (a.key.distance == b.key.distance && a.key.lot == b.key.lot))

same_if : (a b : Guest) → same_guest a b ≡ true → a ≡ b
same_if a b h =
    let p = and_parts (a.child == b.child) _ h in
    let q = and_parts (a.key.class == b.key.class) _ p.1 in
    let r = and_parts (a.key.distance == b.key.distance) _ q.1 in
    λ i. record {
      key = record { class = eqb-true _ _ q.0 i; distance = eqb-true _ _ r.0 i; lot = eqb-true _ _ r.1 i };
      child = eqb-true _ _ p.0 i;
    }

same_itself : (a : Guest) → same_guest a a ≡ true
same_itself a = grind (arith, nat_tests)

counted : (p : Guest → Bool) (xs : List Guest) (g : Guest) → Contains xs g → p g ≡ true → 1 ≤ count_by p xs
counted p xs g h t =
    let one = get_or-le-sum_by (λ x. cond (p x) 1 0) xs h.0 g h.1 in
    let is : one_if (p (get_or xs h.0 g)) ≡ 1 = ap (λ x. one_if (p x)) h.2 ∙ ap one_if t in
    omega (arith, one, is)

found : (p : Guest → Bool) (xs : List Guest) → 1 ≤ count_by p xs → (x : Guest) × Contains xs x × (p x ≡ true)
found p [] l = absurd (omega arith)
found p (x ∷ xs) l = elim (cases_Bool (p x)) [
  | inl hit ↦ (x, (0, omega arith, refl), hit)
  | inr miss ↦
      let rest = found p xs (omega (arith, l, count_no p x xs miss)) in
      (rest.0, (suc rest.1.0, omega (arith, rest.1.1), rest.1.2), rest.2)
]

-- who is on the one side is on the other
pub bag_contains : (xs ys : List Guest) (g : Guest) → SameBag xs ys → Contains xs g → Contains ys g
bag_contains xs ys g h c =
    let there = found (same_guest g) ys (omega (arith, h (same_guest g), counted (same_guest g) xs g c (same_itself g))) in
    subst (λ (x : Guest). Contains ys x) (sym (same_if g there.0 there.2)) there.1

-- The guest that a heap of the school's guests rejects is the one that ranks last.
pub last_from_heap : (m : Market) (rows : List Progress) (s : Code) (all left : List Guest) (k : ℕ) → Distinct m → Shaped m rows
    → SameBag (guests_of m.entrants rows s) all → (last : RanksLast all left k)
    → (is_last : IsLast m.entrants rows s k) × (key_at is_last.0.list s ≡ Some last.guest.key)
last_from_heap m rows s all left k d shaped bag last =
    let top : Contains all last.guest = Contains-permutation (last.guest ∷ left) all last.guest (IsPermutation-sym all (last.guest ∷ left) last.others) (0, omega arith, refl) in
    let w = guest_behind 0 m.entrants rows s last.guest (bag_contains all (guests_of m.entrants rows s) last.guest (λ p. sym (bag p)) top) in
    let e = w.1 in
    let k_is : w.0 ≡ k = omega (arith, w.4, last.is_child) in
    let mine : IsGuestAt m.entrants rows s k e = subst (λ (n : ℕ). IsGuestAt m.entrants rows s n e) k_is w.2 in (
      (
        e,
        mine,
        λ l c apart g.
            let z = held_wish c g.1.0 s (shaped.holds l c g.1.0 g.0 g.1.1) g.1.2 in
            let c_key : key_at c.list s ≡ Some z.0.key = subst (λ (t : Code). key_at c.list t ≡ Some z.0.key) z.2 (d.key_of l c g.1.0.rejections z.0 g.0 z.1) in
            let entry : Contains (last.guest ∷ left) (record { key = z.0.key; child = l }) =
            Contains-permutation all (last.guest ∷ left) _ last.others
            (bag_contains (guests_of m.entrants rows s) all _ bag (entry_behind m.entrants rows s l c z.0.key g c_key)) in
            elim (contains_cons last.guest left _ entry) [
              | inl same ↦ absurd (apart (sym (ap (λ (x : Guest). x.child) same) ∙ last.is_child))
              | inr there ↦
                  let before : ranks_before s e c ≡ false = (λ i. both_precede (w.3 i) (c_key i))
                  ∙ All-contains (λ (other : Guest). precedes last.guest.key other.key ≡ false) left _ last.last there in
                  ranked_of m rows s d shaped k l e c (λ h. apart (sym h)) mine g before
            ],
      ),
      w.3,
    )
  where
    contains_cons : (x : Guest) (xs : List Guest) (y : Guest) → Contains (x ∷ xs) y → (x ≡ y) ⊎ Contains xs y
    contains_cons x xs y h = go h.0 h.1 h.2
      where
        go : (k : ℕ) → k < length (x ∷ xs) → get_or (x ∷ xs) k y ≡ y → (x ≡ y) ⊎ Contains xs y
        go zero l is = inl is
        go (suc k) l is = inr (k, omega arith, is)
