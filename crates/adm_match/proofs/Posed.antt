-- What a well-formed problem gives: each school once on a list, each child once, keys apart.
use Rattle.std.proofs.Common.{◌≡◌, ℕ, zero, suc, ◌+◌, ◌<◌, List, [], ◌∷◌, Option, None, Some, Bool, true, false, cond, not, ◌&&◌, inl, inr, refl, sym, ap, ◌∙◌, subst, arith}
use Rattle.std.specs.Prelude.{bytes_eq, option_map}
use Rattle.std.specs.List.{slice_get, list_any, find}
use Rattle.std.proofs.lemmas.Bool.{cases_Bool, cases_order, false≢true, and_from, and_cases, or_parts, not_from_false, eqb-false}
use Rattle.std.proofs.lemmas.Bool.Decides.{nat_tests}
use Rattle.std.proofs.lemmas.Slice.Eq.{bytes_eq-Decides}
use Rattle.std.proofs.lemmas.Option.{none-some, same_Some}
use Rattle.adm_rank.specs.declared.keys.RankKey.{RankKey}
use Rattle.adm_match.specs.declared.problem.Wish.{Wish}
use Rattle.adm_match.specs.declared.problem.BadProblem.{BadProblem}
use Rattle.adm_match.specs.declared.progress.Progress.{Progress}
use Rattle.adm_rank.specs.Ranking.{precedes}
use Rattle.adm_match.specs.Market.{Code, Candidate, Market, preference_rank, is_tenant, key_at, both_precede, some_pair, same_code, same_child, same_school, repeats_school, names_unknown, repeats_child, has_tenant_not_last, is_key, share_rank, has_equal_rank, first_fault}
use Rattle.adm_match.specs.Turns.{WellListed, Shaped, AreRanked}
use Rattle.adm_match.proofs.RanksAndBlocks.{list_any_of}
use Rattle.adm_match.proofs.Departure.{held_wish}

some_or_none : (b : Bool) (x : BadProblem) (o : Option BadProblem) → cond b (Some x) o ≡ None → (b ≡ false) × (o ≡ None)
some_or_none true x o h = absurd (none-some x (sym h))
some_or_none false x o h = (refl, h)

-- each test of a well-formed problem
pub record Posed (m : Market) : Type 0 where
  pub schools : repeats_school m ≡ false
  pub known : names_unknown m ≡ false
  pub children : repeats_child m ≡ false
  pub tenants : has_tenant_not_last m ≡ false
  pub ranks : has_equal_rank m ≡ false

pub posed : (m : Market) → first_fault m ≡ None → Posed m
posed m h =
    let a = some_or_none _ _ _ h in
    let b = some_or_none _ _ _ a.1 in
    let c = some_or_none _ _ _ b.1 in
    let d = some_or_none _ _ _ c.1 in
    let e = some_or_none _ _ _ d.1 in
    record { schools = a.0; known = b.0; children = c.0; tenants = d.0; ranks = e.0 }

pub list_any_not : {X : Type 0} (p : X → Bool) (xs : List X) (k : ℕ) (x : X) → list_any p xs ≡ false → slice_get xs k ≡ Some x → p x ≡ false
list_any_not p xs k x h e = elim (cases_Bool (p x)) [
  | inl t ↦ absurd (false≢true (sym h ∙ list_any_of p xs k x e t))
  | inr f ↦ f
]

pub some_pair_not : {X : Type 0} (test : X → X → Bool) (xs : List X) (i j : ℕ) (x y : X) → some_pair test xs ≡ false → slice_get xs i ≡ Some x → slice_get xs j ≡ Some y → i < j → test x y ≡ false
some_pair_not test [] i j x y h a b l = absurd (none-some x a)
some_pair_not test (z ∷ zs) zero zero x y h a b l = absurd (omega arith)
some_pair_not test (z ∷ zs) zero (suc j) x y h a b l =
    let parts = or_parts (list_any (test z) zs) (some_pair test zs) h in
    ap (λ w. test w y) (sym (same_Some z x a)) ∙ list_any_not (test z) zs j y parts.0 b
some_pair_not test (z ∷ zs) (suc i) zero x y h a b l = absurd (omega arith)
some_pair_not test (z ∷ zs) (suc i) (suc j) x y h a b l =
    some_pair_not test zs i j x y (or_parts (list_any (test z) zs) (some_pair test zs) h).1 a b (omega arith)

-- a wish of a list without repeats is at its school's rank, and gives the key there
pub rank_is : (ws : List Wish) (j : ℕ) (w : Wish) → some_pair same_school ws ≡ false → slice_get ws j ≡ Some w → preference_rank ws w.school ≡ j
rank_is [] j w h e = absurd (none-some w e)
rank_is (x ∷ xs) zero w h e =
    ap (λ b. cond (not b) (1 + preference_rank xs w.school) 0) ((bytes_eq-Decides x.school w.school).1 (ap (λ (z : Wish). z.school) (same_Some x w e)))
rank_is (x ∷ xs) (suc j) w h e =
    let parts = or_parts (list_any (same_school x) xs) (some_pair same_school xs) h in
    let other = list_any_not (same_school x) xs j w parts.0 e in
    ap (λ b. cond (not b) (1 + preference_rank xs w.school) 0) other ∙ omega (arith, rank_is xs j w parts.1 e)

pub key_is : (ws : List Wish) (j : ℕ) (w : Wish) → some_pair same_school ws ≡ false → slice_get ws j ≡ Some w → key_at ws w.school ≡ Some w.key
key_is [] j w h e = absurd (none-some w e)
key_is (x ∷ xs) zero w h e =
    let same : x ≡ w = same_Some x w e in
    ap (λ b. option_map (λ (z : Wish). z.key) (cond b (Some x) (find (λ z. bytes_eq z.school w.school) xs))) ((bytes_eq-Decides x.school w.school).1 (ap (λ (z : Wish). z.school) same))
    ∙ ap (λ (z : Wish). Some z.key) same
key_is (x ∷ xs) (suc j) w h e =
    let parts = or_parts (list_any (same_school x) xs) (some_pair same_school xs) h in
    let other = list_any_not (same_school x) xs j w parts.0 e in
    ap (λ b. option_map (λ (z : Wish). z.key) (cond b (Some x) (find (λ z. bytes_eq z.school w.school) xs))) other ∙ key_is xs j w parts.1 e

pub list_apart : (m : Market) → Posed m → (k : ℕ) (e : Candidate) → slice_get m.entrants k ≡ Some e → some_pair same_school e.list ≡ false
list_apart m h k e ek =
    list_any_not (λ (entrant : Candidate). some_pair same_school entrant.list) m.entrants k e
    (or_parts (some_pair same_code m.seats) (list_any (λ (entrant : Candidate). some_pair same_school entrant.list) m.entrants) h.schools).1 ek

pub well_listed : (m : Market) → Posed m → WellListed m
well_listed m h = record { own_rank = λ k e j w ek jw. rank_is e.list j w (list_apart m h k e ek) jw }

pub precedes_total : (a b : RankKey) → is_key (Some a) b ≡ false → precedes b a ≡ false → precedes a b ≡ true
precedes_total a b n p = grind (arith, nat_tests)

pub precedes_total' : (a b : RankKey) → is_key (Some a) b ≡ false → precedes a b ≡ false → precedes b a ≡ true
precedes_total' a b n p = grind (arith, nat_tests)

-- two that share no rank have different keys at a school of the first one's list
pub keys_apart : (one other : Candidate) (j : ℕ) (w : Wish) → share_rank one other ≡ false → slice_get one.list j ≡ Some w → is_tenant one w.school ≡ false
    → is_tenant other w.school ≡ false → is_key (key_at other.list w.school) w.key ≡ false
keys_apart one other j w h jw free free' =
    let test : Wish → Bool = λ wish. is_key (key_at other.list wish.school) wish.key && (not (is_tenant one wish.school) && not (is_tenant other wish.school)) in
    let none : test w ≡ false = list_any_not test one.list j w h jw in
    elim (and_cases (is_key (key_at other.list w.school) w.key) (not (is_tenant one w.school) && not (is_tenant other w.school)) none) [
      | inl apart ↦ apart
      | inr not_free ↦ absurd (false≢true (sym not_free ∙ and_from (not (is_tenant one w.school)) (not (is_tenant other w.school)) (not_from_false _ free) (not_from_false _ free')))
    ]

-- two guests of a school, in the order of the entrants
pub ranked_by : (m : Market) → Posed m → (s : Code) (k l : ℕ) (d c : Candidate) (j i : ℕ) (w z : Wish) → k < l → slice_get m.entrants k ≡ Some d
    → slice_get m.entrants l ≡ Some c → slice_get d.list j ≡ Some w → slice_get c.list i ≡ Some z → w.school ≡ s → z.school ≡ s → is_tenant d s ≡ false
    → is_tenant c s ≡ false → (key_at d.list s ≡ Some w.key) × (key_at c.list s ≡ Some z.key) × (is_key (Some z.key) w.key ≡ false)
ranked_by m h s k l d c j i w z less dk cl jw iz ws zs free free' =
    let d_key : key_at d.list s ≡ Some w.key = subst (λ (t : Code). key_at d.list t ≡ Some w.key) ws (key_is d.list j w (list_apart m h k d dk) jw) in
    let c_key : key_at c.list s ≡ Some z.key = subst (λ (t : Code). key_at c.list t ≡ Some z.key) zs (key_is c.list i z (list_apart m h l c cl) iz) in
    let none = some_pair_not share_rank m.entrants k l d c h.ranks dk cl less in
    let apart = keys_apart d c j w none jw (subst (λ (t : Code). is_tenant d t ≡ false) (sym ws) free) (subst (λ (t : Code). is_tenant c t ≡ false) (sym ws) free') in
    (d_key, c_key, subst (λ o. is_key o w.key ≡ false) (ap (key_at c.list) ws ∙ c_key) apart)

-- a child is at one index
pub child_once : (m : Market) → Posed m → (i j : ℕ) (d e : Candidate) → slice_get m.entrants i ≡ Some d → slice_get m.entrants j ≡ Some e → i < j → d.child ≡ e.child → ⊥
child_once m h i j d e di ej less same =
    eqb-false d.child e.child (some_pair_not same_child m.entrants i j d e h.children di ej less) same
