-- Equal claims are equal ranks, where no list names a school twice.
use Rattle.std.proofs.Common.{◌≡◌, ℕ, suc, ◌+◌, ◌<◌, List, [], ◌∷◌, ◌++◌, length, get_or, take, map, Some, Bool, true, false, cond, not, ◌||◌, ◌&&◌, inl, inr, refl, sym, ap, ◌∙◌, arith, add-one, append_assoc, append-nil}
use Rattle.std.specs.Prelude.{filter, bytes_eq, option_map, find}
use Rattle.std.specs.List.{list_any, slice_get}
use Rattle.std.specs.Ordering.{is_eq, nat_cmp, ordering_then}
use Rattle.std.specs.Cmp.Lexicographic.{slice_cmp}
use Rattle.std.specs.declared.cmp.Ordering.{Ordering}
use Rattle.std.specs.Cmp.{tied_then}
use Rattle.std.proofs.Math.Seq.{take-suc}
use Rattle.std.proofs.lemmas.Bool.{cases_Bool, false≢true, and_parts, and_from, or_parts}
use Rattle.std.proofs.lemmas.Bool.Decides.{nat_tests}
use Rattle.std.proofs.lemmas.Slice.Eq.{bytes_eq-Decides}
use Rattle.std.proofs.lemmas.List.Folds.{list_any-append}
use Rattle.std.proofs.lemmas.Map.Text.{is_eq-slice_cmp}
use Rattle.adm_rank.specs.declared.keys.RankKey.{RankKey}
use Rattle.adm_match.specs.declared.problem.Wish.{Wish}
use Rattle.adm_match.specs.declared.claims.Claim.{Claim}
use Rattle.adm_match.specs.Market.{Code, Candidate, is_tenant, key_at, is_key, some_pair, same_school, shares, share_rank}
use Rattle.adm_match.specs.Claims.{claim_of, asked, claims_of, all_claims}
use Rattle.adm_match.proofs.RanksAndBlocks.{list_any_of, list_any_gives}
use Rattle.adm_match.proofs.Posed.{list_any_not, key_is}
use Rattle.adm_match.proofs.RepeatedElements.{pair_append, pair_same}

asked_append : (e : Candidate) (xs ys : List Wish) → asked e (xs ++ ys) ≡ asked e xs ++ asked e ys
asked_append e [] ys = refl
asked_append e (x ∷ xs) ys = elim (cases_Bool (not (is_tenant e x.school))) [
  | inl hit ↦
      ap (λ b. map claim_of (cond b (x ∷ filter (λ wish. not (is_tenant e wish.school)) (xs ++ ys)) (filter (λ wish. not (is_tenant e wish.school)) (xs ++ ys)))) hit
      ∙ (ap (λ (cs : List Claim). claim_of x ∷ cs) (asked_append e xs ys)
      ∙ sym (ap (λ b. map claim_of (cond b (x ∷ filter (λ wish. not (is_tenant e wish.school)) xs) (filter (λ wish. not (is_tenant e wish.school)) xs)) ++ asked e ys) hit))
  | inr miss ↦
      ap (λ b. map claim_of (cond b (x ∷ filter (λ wish. not (is_tenant e wish.school)) (xs ++ ys)) (filter (λ wish. not (is_tenant e wish.school)) (xs ++ ys)))) miss
      ∙ (asked_append e xs ys
      ∙ sym (ap (λ b. map claim_of (cond b (x ∷ filter (λ wish. not (is_tenant e wish.school)) xs) (filter (λ wish. not (is_tenant e wish.school)) xs)) ++ asked e ys) miss))
]

next_wish : (ws : List Wish) (i : ℕ) (w : Wish) → i < length ws → w ≡ get_or ws i w → take (i + 1) ws ≡ take i ws ++ w ∷ []
next_wish ws i w l at = rw add-one (take-suc ws i w l ∙ ap (λ z. take i ws ++ z ∷ []) (sym at))

-- one wish more
pub asked_more : (e : Candidate) (ws : List Wish) (i : ℕ) (w : Wish) (first old new : List Claim) → i < length ws → w ≡ get_or ws i w → old ≡ first ++ asked e (take i ws)
    → new ≡ old ++ asked e (w ∷ []) → new ≡ first ++ asked e (take (i + 1) ws)
asked_more e ws i w first old new l at was now =
    now ∙ (ap (λ (x : List Claim). x ++ asked e (w ∷ [])) was ∙ (append_assoc first (asked e (take i ws)) (asked e (w ∷ []))
    ∙ sym (ap (λ (x : List Wish). first ++ asked e x) (next_wish ws i w l at) ∙ ap (λ (x : List Claim). first ++ x) (asked_append e (take i ws) (w ∷ [])))))

pub claims_more : (es : List Candidate) (i : ℕ) (e : Candidate) (old new : List Claim) → i < length es → e ≡ get_or es i e → old ≡ all_claims (take i es)
    → new ≡ old ++ claims_of e → new ≡ all_claims (take (i + 1) es)
claims_more es i e old new l at was now =
    now ∙ (ap (λ (x : List Claim). x ++ claims_of e) was
    ∙ sym (ap all_claims (next_entrant es i e l at) ∙ (flat_append (take i es) (e ∷ []) ∙ ap (λ (x : List Claim). all_claims (take i es) ++ x) (append-nil (claims_of e)))))
  where
    next_entrant : (xs : List Candidate) (i : ℕ) (x : Candidate) → i < length xs → x ≡ get_or xs i x → take (i + 1) xs ≡ take i xs ++ x ∷ []
    next_entrant xs i x l at = rw add-one (take-suc xs i x l ∙ ap (λ z. take i xs ++ z ∷ []) (sym at))

    flat_append : (xs ys : List Candidate) → all_claims (xs ++ ys) ≡ all_claims xs ++ all_claims ys
    flat_append [] ys = refl
    flat_append (x ∷ xs) ys = ap (λ (z : List Claim). claims_of x ++ z) (flat_append xs ys) ∙ sym (append_assoc (claims_of x) (all_claims xs) (all_claims ys))

-- the order of claims, as it is derived
abbrev pub claim_cmp : Claim → Claim → Ordering
claim_cmp a b =
    ordering_then
    (ordering_then (nat_cmp a.key.class b.key.class) (ordering_then (nat_cmp a.key.distance b.key.distance) (nat_cmp a.key.lot b.key.lot)))
    (slice_cmp nat_cmp a.school b.school)

abbrev pub same_claim : Claim → Claim → Bool
same_claim a b = bytes_eq a.school b.school && is_key (Some b.key) a.key

eq_key : (a b : RankKey) → is_eq (ordering_then (nat_cmp a.class b.class) (ordering_then (nat_cmp a.distance b.distance) (nat_cmp a.lot b.lot))) ≡ is_key (Some b) a
eq_key a b = grind (arith, nat_tests)

pub eq_claim : (a b : Claim) → is_eq (claim_cmp a b) ≡ same_claim a b
eq_claim a b =
    sym (tied_then _ (slice_cmp nat_cmp a.school b.school))
    ∙ ((λ i. eq_key a.key b.key i && is_eq-slice_cmp a.school b.school i)
    ∙ and_turned (is_key (Some b.key) a.key) (bytes_eq a.school b.school))
  where
    and_turned : (x y : Bool) → (x && y) ≡ (y && x)
    and_turned true true = refl
    and_turned true false = refl
    and_turned false true = refl
    and_turned false false = refl

bool_same : (a b : Bool) → (a ≡ true → b ≡ true) → (b ≡ true → a ≡ true) → a ≡ b
bool_same true b f g = sym (f refl)
bool_same false true f g = g refl
bool_same false false f g = refl

any_same : {X : Type 0} (p q : X → Bool) (xs : List X) → ((k : ℕ) (x : X) → slice_get xs k ≡ Some x → p x ≡ q x) → list_any p xs ≡ list_any q xs
any_same p q [] h = refl
any_same p q (x ∷ xs) h = λ i. h 0 x refl i || any_same p q xs (λ k y at. h (suc k) y at) i

any_none : {X : Type 0} (xs : List X) → list_any (λ x. false) xs ≡ false
any_none [] = refl
any_none (x ∷ xs) = any_none xs

or_swap : (a b c d : Bool) → ((a || b) || (c || d)) ≡ ((a || c) || (b || d))
or_swap true b c d = refl
or_swap false true true d = refl
or_swap false true false d = refl
or_swap false false c d = refl

any_or : {X : Type 0} (p q : X → Bool) (xs : List X) → list_any (λ x. p x || q x) xs ≡ (list_any p xs || list_any q xs)
any_or p q [] = refl
any_or p q (x ∷ xs) = ap (λ b. (p x || q x) || b) (any_or p q xs) ∙ or_swap (p x) (q x) (list_any p xs) (list_any q xs)

any_swap : {X Y : Type 0} (f : X → Y → Bool) (xs : List X) (ys : List Y) → list_any (λ x. list_any (f x) ys) xs ≡ list_any (λ y. list_any (λ x. f x y) xs) ys
any_swap f [] ys = sym (any_none ys)
any_swap f (x ∷ xs) ys = ap (λ b. list_any (f x) ys || b) (any_swap f xs ys) ∙ sym (any_or (f x) (λ y. list_any (λ z. f z y) xs) ys)

any_flat : (p : Claim → Bool) (es : List Candidate) → list_any p (all_claims es) ≡ list_any (λ e. list_any p (claims_of e)) es
any_flat p [] = refl
any_flat p (e ∷ es) = list_any-append p (claims_of e) (all_claims es) ∙ ap (λ b. list_any p (claims_of e) || b) (any_flat p es)

-- a claim of an entrant is one of its wishes
any_asked : (p : Claim → Bool) (e : Candidate) (ws : List Wish) → list_any p (asked e ws) ≡ list_any (λ w. not (is_tenant e w.school) && p (claim_of w)) ws
any_asked p e [] = refl
any_asked p e (w ∷ ws) = elim (cases_Bool (not (is_tenant e w.school))) [
  | inl hit ↦
      ap (λ b. list_any p (map claim_of (cond b (w ∷ filter (λ wish. not (is_tenant e wish.school)) ws) (filter (λ wish. not (is_tenant e wish.school)) ws)))) hit
      ∙ (ap (λ b. p (claim_of w) || b) (any_asked p e ws)
      ∙ sym (ap (λ b. (b && p (claim_of w)) || list_any (λ w. not (is_tenant e w.school) && p (claim_of w)) ws) hit))
  | inr miss ↦
      ap (λ b. list_any p (map claim_of (cond b (w ∷ filter (λ wish. not (is_tenant e wish.school)) ws) (filter (λ wish. not (is_tenant e wish.school)) ws)))) miss
      ∙ (any_asked p e ws
      ∙ sym (ap (λ b. (b && p (claim_of w)) || list_any (λ w. not (is_tenant e w.school) && p (claim_of w)) ws) miss))
]

-- two entrants, the one with a wish
claims_share : (e o : Candidate) (w : Wish) → some_pair same_school o.list ≡ false → (not (is_tenant e w.school) && list_any (same_claim (claim_of w)) (claims_of o)) ≡ shares e o w
claims_share e o w apart = bool_same _ _
    (λ h.
    let p = and_parts (not (is_tenant e w.school)) (list_any (same_claim (claim_of w)) (claims_of o)) h in
    let one = list_any_gives (λ z. not (is_tenant o z.school) && same_claim (claim_of w) (claim_of z)) o.list (sym (any_asked (same_claim (claim_of w)) o o.list) ∙ p.1) in
    let z = one.1 in
    let q = and_parts (not (is_tenant o z.school)) (same_claim (claim_of w) (claim_of z)) one.3 in
    let r = and_parts (bytes_eq w.school z.school) (is_key (Some z.key) w.key) q.1 in
    let school : w.school ≡ z.school = (bytes_eq-Decides w.school z.school).0 r.0 in
    let key : key_at o.list w.school ≡ Some z.key = ap (key_at o.list) school ∙ key_is o.list one.0 z apart one.2 in
    and_from (is_key (key_at o.list w.school) w.key) (not (is_tenant e w.school) && not (is_tenant o w.school))
    (ap (λ k. is_key k w.key) key ∙ r.1)
    (and_from (not (is_tenant e w.school)) (not (is_tenant o w.school)) p.0 (ap (λ (s : Code). not (is_tenant o s)) school ∙ q.0)))
    (λ h.
    let p = and_parts (is_key (key_at o.list w.school) w.key) (not (is_tenant e w.school) && not (is_tenant o w.school)) h in
    let q = and_parts (not (is_tenant e w.school)) (not (is_tenant o w.school)) p.1 in
    let z = wish_behind o.list w.school w.key p.0 in
    let there = list_any_of (λ z. not (is_tenant o z.school) && same_claim (claim_of w) (claim_of z)) o.list z.0 z.1 z.2
    (and_from (not (is_tenant o z.1.school)) (same_claim (claim_of w) (claim_of z.1)) (ap (λ (s : Code). not (is_tenant o s)) z.3 ∙ q.1)
    (and_from (bytes_eq w.school z.1.school) (is_key (Some z.1.key) w.key) ((bytes_eq-Decides w.school z.1.school).1 (sym z.3)) z.4)) in
    and_from (not (is_tenant e w.school)) (list_any (same_claim (claim_of w)) (claims_of o)) q.0 (any_asked (same_claim (claim_of w)) o o.list ∙ there))
  where
    wish_behind : (ws : List Wish) (s : Code) (key : RankKey) → is_key (key_at ws s) key ≡ true → (k : ℕ) × (z : Wish) × (slice_get ws k ≡ Some z) × (z.school ≡ s) × (is_key (Some z.key) key ≡ true)
    wish_behind [] s key h = absurd (false≢true h)
    wish_behind (x ∷ xs) s key h = elim (cases_Bool (bytes_eq x.school s)) [
      | inl hit ↦ (0, x, refl, (bytes_eq-Decides x.school s).0 hit, sym (ap (λ b. is_key (option_map (λ (z : Wish). z.key) (cond b (Some x) (find (λ z. bytes_eq z.school s) xs))) key) hit) ∙ h)
      | inr miss ↦
          let rest = wish_behind xs s key (sym (ap (λ b. is_key (option_map (λ (z : Wish). z.key) (cond b (Some x) (find (λ z. bytes_eq z.school s) xs))) key) miss) ∙ h) in
          (suc rest.0, rest.1, rest.2, rest.3, rest.4)
    ]

-- no claim of a list without repeats is repeated
own_claims : (e : Candidate) (ws : List Wish) → some_pair same_school ws ≡ false → some_pair same_claim (asked e ws) ≡ false
own_claims e [] apart = refl
own_claims e (w ∷ ws) apart =
    let parts = or_parts (list_any (same_school w) ws) (some_pair same_school ws) apart in
    let none : list_any (same_claim (claim_of w)) (asked e ws) ≡ false =
    any_asked (same_claim (claim_of w)) e ws
    ∙ (any_same (λ z. not (is_tenant e z.school) && same_claim (claim_of w) (claim_of z)) (λ z. false) ws
    (λ k z at. elim (cases_Bool (not (is_tenant e z.school))) [
      | inl hit ↦ (λ i. hit i && (list_any_not (same_school w) ws k z parts.0 at i && is_key (Some z.key) w.key))
      | inr miss ↦ ap (λ b. b && same_claim (claim_of w) (claim_of z)) miss
    ])
    ∙ any_none ws) in
    elim (cases_Bool (not (is_tenant e w.school))) [
      | inl hit ↦
          ap (λ b. some_pair same_claim (map claim_of (cond b (w ∷ filter (λ wish. not (is_tenant e wish.school)) ws) (filter (λ wish. not (is_tenant e wish.school)) ws)))) hit
          ∙ (λ i. none i || own_claims e ws parts.1 i)
      | inr miss ↦
          ap (λ b. some_pair same_claim (map claim_of (cond b (w ∷ filter (λ wish. not (is_tenant e wish.school)) ws) (filter (λ wish. not (is_tenant e wish.school)) ws)))) miss
          ∙ own_claims e ws parts.1
    ]

-- equal claims are equal ranks
claims_ranks : (es : List Candidate) → list_any (λ e. some_pair same_school e.list) es ≡ false → some_pair same_claim (all_claims es) ≡ some_pair share_rank es
claims_ranks [] apart = refl
claims_ranks (e ∷ es) apart =
    let parts = or_parts (some_pair same_school e.list) (list_any (λ x. some_pair same_school x.list) es) apart in
    let across : list_any (λ x. list_any (same_claim x) (all_claims es)) (claims_of e) ≡ list_any (share_rank e) es =
    (λ i. list_any (λ x. any_flat (same_claim x) es i) (claims_of e))
    ∙ (any_swap (λ x o. list_any (same_claim x) (claims_of o)) (claims_of e) es
    ∙ any_same (λ o. list_any (λ x. list_any (same_claim x) (claims_of o)) (claims_of e)) (share_rank e) es
    (λ k o at.
    let apart' = list_any_not (λ (x : Candidate). some_pair same_school x.list) es k o parts.1 at in
    any_asked (λ x. list_any (same_claim x) (claims_of o)) e e.list
    ∙ any_same (λ w. not (is_tenant e w.school) && list_any (same_claim (claim_of w)) (claims_of o)) (shares e o) e.list (λ j w jw. claims_share e o w apart'))) in
    pair_append same_claim (claims_of e) (all_claims es)
    ∙ (λ i. (own_claims e e.list parts.0 i || across i) || claims_ranks es parts.1 i)

pub repeated_claims : (es : List Candidate) (claims : List Claim) → list_any (λ e. some_pair same_school e.list) es ≡ false → claims ≡ all_claims es
    → some_pair (λ a b. is_eq (claim_cmp a b)) claims ≡ some_pair share_rank es
repeated_claims es claims apart is =
    ap (some_pair (λ a b. is_eq (claim_cmp a b))) is
    ∙ (pair_same (λ a b. is_eq (claim_cmp a b)) same_claim (all_claims es) eq_claim ∙ claims_ranks es apart)
