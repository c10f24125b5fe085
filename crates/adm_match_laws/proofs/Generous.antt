-- No child loses where rivals leave, lists end earlier, or places are added.
use Rattle.std.proofs.Common.{◌≡◌, ℕ, zero, suc, ◌<◌, ◌≤◌, List, [], ◌∷◌, length, take, map, Option, None, Some, cond, ◌||◌, Bool, true, false, not, ◌&&◌, inl, inr, refl, sym, ap, ◌∙◌, subst, arith}
use Rattle.std.specs.Prelude.{◌==◌, All, Any, bytes_eq}
use Rattle.adm_types.specs.Code.{has}
use Rattle.std.specs.List.{slice_get, count_by, list_any, filter}
use Rattle.std.proofs.lemmas.Bool.{cases_Bool, cases_lt, false≢true, and_parts, or_parts, eq-eqb, eqb-true}
use Rattle.std.proofs.lemmas.Option.{none-some, same_Some, slice_get-get_or, slice_get_within, get_or_from_slice_get}
use Rattle.std.proofs.lemmas.List.Elements.{All-filter, All-map}
use Rattle.adm_match.specs.declared.problem.Wish.{Wish}
use Rattle.adm_match.specs.Market.{Code, Candidate, Market, preference_rank, assigned_rank, is_tenant, key_at, first_fault, some_pair, same_code, same_child, same_school, share_rank, is_not_last}
use Rattle.adm_match.specs.Stability.{Allocation, IsStable, IsBest}
use Rattle.adm_match.specs.Turns.{BeginsLike, IsWithin}
use Rattle.adm_match_laws.specs.Generous.{IsCutFrom, IsAsGenerous, IsNoWorse, NoLoss, KindsOfGenerosity, NoLossByLeaving, NoLossByCutting, NoLossByPlaces, without, shortened, cut_to, with_seats}
use Rattle.adm_match.specs.Distinct.{Distinct, ChildrenOnce}
use Rattle.adm_match.proofs.SideBySide.{count_yes, count_no, more_pass, count_beside}
use Rattle.adm_match.proofs.RanksAndBlocks.{at_All, All_at}
use Rattle.adm_match.proofs.Beginning.{rank_take, key_take, rank_taken, at_take}
use Rattle.adm_match.proofs.FoundWishes.{rank_within}
use Rattle.adm_match.proofs.Placed.{count_less}
use Rattle.adm_match.proofs.Posed.{Posed, posed}
use Rattle.adm_match.proofs.Distinct.{distinct}
use Rattle.adm_match.proofs.Existence.{best_ahead}

-- a test that passes wherever another one does passes as often
pub count_upto : {X : Type 0} (p q : X → Bool) (xs : List X) → ((k : ℕ) (x : X) → slice_get xs k ≡ Some x → q x ≡ true → p x ≡ true) → count_by q xs ≤ count_by p xs
count_upto p q xs h = elim (cases_lt (count_by p xs) (count_by q xs)) [
  | inr most ↦ most
  | inl less ↦ absurd (
      let one = more_pass q p xs xs refl less in
      let same = same_Some one.1 one.2 (sym one.3 ∙ one.4) in
      false≢true (sym one.6 ∙ h one.0 one.2 one.4 (subst (λ x. q x ≡ true) same one.5)))
]

and_not_false : (a b : Bool) → b ≡ false → a ≡ (a && not b)
and_not_false true b h = ap not (sym h)
and_not_false false b h = refl

-- where each child is among others, and none is repeated, no test passes for more of them than of the others
counts_within : (test : ℕ → Bool) (xs ys : List Candidate) → ChildrenOnce xs
    → ((k : ℕ) (e : Candidate) → slice_get xs k ≡ Some e → (j : ℕ) × (f : Candidate) × (slice_get ys j ≡ Some f) × (e.child ≡ f.child))
    → count_by (λ e. test e.child) xs ≤ count_by (λ e. test e.child) ys
counts_within test [] ys once there = omega arith
counts_within test (x ∷ xs) ys once there =
    let all : Candidate → Bool = λ y. test y.child in
    let rest : Candidate → Bool = λ y. test y.child && not (y.child == x.child) in
    let below : count_by rest xs ≤ count_by rest ys = counts_within (λ n. test n && not (n == x.child)) xs ys
    (λ i j d e di ej less same. once (suc i) (suc j) d e di ej (omega (arith, less)) same) (λ k e ek. there (suc k) e ek) in
    let alike : count_by all xs ≡ count_by rest xs = count_beside all rest xs xs refl (λ k y z yk zk.
    let same : y ≡ z = same_Some y z (sym yk ∙ zk) in
    ap all same ∙ (elim (cases_Bool (z.child == x.child)) [
      | inl hit ↦ absurd (once 0 (suc k) x z refl zk (omega arith) (sym (eqb-true _ _ hit)))
      | inr miss ↦ and_not_false (test z.child) (z.child == x.child) miss
    ])) in
    let here = there 0 x refl in
    elim (cases_Bool (all x)) [
      | inr miss ↦ omega (arith, count_no all x xs miss, alike, below, count_upto all rest ys (λ k y yk h. (and_parts (all y) (not (y.child == x.child)) h).0))
      | inl hit ↦
          let hit' : all here.1 ≡ true = ap test (sym here.3) ∙ hit in
          let out : rest here.1 ≡ false = ap (λ b. b && not (here.1.child == x.child)) hit' ∙ ap not (eq-eqb here.1.child x.child (sym here.3)) in
          let less = count_less all rest ys here.0 here.1 (λ j y jy h. (and_parts (all y) (not (y.child == x.child)) h).0) here.2 hit' out in
          omega (arith, count_yes all x xs hit, alike, below, less)
    ]

-- the beginning of a list
take_upto : (n : ℕ) (ws : List Wish) → length (take n ws) ≤ n
take_upto zero [] = omega arith
take_upto (suc n) [] = omega arith
take_upto zero (w ∷ ws) = omega arith
take_upto (suc n) (w ∷ ws) = omega (arith, take_upto n ws)

take_shorter : (n : ℕ) (ws : List Wish) → length (take n ws) ≤ length ws
take_shorter zero [] = omega arith
take_shorter (suc n) [] = omega arith
take_shorter zero (w ∷ ws) = omega arith
take_shorter (suc n) (w ∷ ws) = omega (arith, take_shorter n ws)

take_whole : (ws : List Wish) → ws ≡ take (length ws) ws
take_whole [] = refl
take_whole (w ∷ ws) = ap (λ xs. w ∷ xs) (take_whole ws)

take_taken : (n : ℕ) (ws : List Wish) → take n ws ≡ take (length (take n ws)) ws
take_taken zero [] = refl
take_taken (suc n) [] = refl
take_taken zero (w ∷ ws) = refl
take_taken (suc n) (w ∷ ws) = ap (λ xs. w ∷ xs) (take_taken n ws)

rank_later : (n : ℕ) (ws : List Wish) (o : Option Code) → assigned_rank (take n ws) o ≤ assigned_rank ws o
rank_later n ws None = take_shorter n ws
rank_later n ws (Some s) = elim (cases_lt (preference_rank ws s) n) [
  | inl inside ↦ omega (arith, rank_take ws n s inside)
  | inr out ↦ omega (arith, out, rank_within (take n ws) (Some s), take_upto n ws)
]

begins : (e f : Candidate) → IsCutFrom e f → BeginsLike e f
begins e f h =
    let n = length e.list in
    let inside : (s : Code) → preference_rank e.list s < length e.list → preference_rank f.list s < n
    = λ s l. rank_taken f.list n s (subst (λ (ws : List Wish). preference_rank ws s < length ws) h.list l) in
    record {
      child = h.child;
      tenant = λ s. ap (λ o. has o s) (sym h.tenant);
      rank = λ s l. sym (rank_take f.list n s (inside s l)) ∙ ap (λ (ws : List Wish). preference_rank ws s) (sym h.list);
      key = λ s l. sym (key_take f.list n s (inside s l)) ∙ ap (λ (ws : List Wish). key_at ws s) (sym h.list);
      later = λ o. subst (λ (ws : List Wish). assigned_rank ws o ≤ assigned_rank f.list o) (sym h.list) (rank_later n f.list o);
    }

any_of : {X : Type 0} (P : X → Type 0) (xs : List X) (k : ℕ) (x : X) → slice_get xs k ≡ Some x → P x → Any P xs
any_of P xs k x at p = (k, x, slice_get_within xs k x at, get_or_from_slice_get xs k x x at, p)

within : (m other : Market) → ChildrenOnce m.entrants → IsAsGenerous m other → IsWithin m other
within m other once h =
    let members : (k : ℕ) (e : Candidate) → slice_get m.entrants k ≡ Some e → (j : ℕ) × (f : Candidate) × (slice_get other.entrants j ≡ Some f) × BeginsLike e f
    = λ k e ek.
    let there = at_All (λ e. Any (IsCutFrom e) other.entrants) m.entrants k e h.entrants ek in
    (there.0, there.1, slice_get-get_or other.entrants there.0 there.1 there.2 ∙ ap Some there.3, begins e there.1 there.4) in
    record {
      members = members;
      counts = λ test. counts_within test m.entrants other.entrants once (λ k e ek. let f = members k e ek in (f.0, f.1, f.2, f.3.child));
      places = h.places;
    }

no_loss : (m other : Market) (best a : Allocation) → Distinct m → IsAsGenerous m other → IsBest m best → IsStable other a → IsNoWorse m.entrants best a
no_loss m other best a d wide b stable =
    let run = best_ahead m d in
    All_at (λ e. assigned_rank e.list (best e.child) ≤ assigned_rank e.list (a e.child)) m.entrants (λ k e ek.
    let first = at_All (λ e. assigned_rank e.list (best e.child) ≤ assigned_rank e.list (run.0 e.child)) m.entrants k e (b.none_better run.0 run.1.stable) ek in
    let second = at_All (λ e. assigned_rank e.list (run.0 e.child) ≤ assigned_rank e.list (a e.child)) m.entrants k e (run.2 other (within m other d.children wide) a stable) ek in
    omega (arith, first, second))

pub no_loss_law : NoLoss
no_loss_law m other best a ok wide b stable = no_loss m other best a (distinct m (posed m ok)) wide b stable

-- each entrant is cut from itself, at its list's end
whole_itself : (m : Market) → All (λ e. Any (IsCutFrom e) m.entrants) m.entrants
whole_itself m = All_at (λ e. Any (IsCutFrom e) m.entrants) m.entrants (λ k e ek.
    any_of (IsCutFrom e) m.entrants k e ek (record { child = refl; list = take_whole e.list; tenant = refl }))

cut_or_not : (count : ℕ) (b : Bool) (e : Candidate) → IsCutFrom (cond b (shortened count e) e) e
cut_or_not count true e = record { child = refl; list = take_taken count e.list; tenant = refl }
cut_or_not count false e = record { child = refl; list = take_whole e.list; tenant = refl }

pub kinds_of_generosity_law : KindsOfGenerosity
kinds_of_generosity_law = record {
  itself = λ m. record { entrants = whole_itself m; places = λ s. omega arith };
  leaves = λ m child. record { entrants = All-filter (λ entrant. not (entrant.child == child)) (λ e. Any (IsCutFrom e) m.entrants) m.entrants (whole_itself m); places = λ s. omega arith };
  cuts = λ m child count. record {
    entrants = All-map (λ e. Any (IsCutFrom e) m.entrants) (λ (e : Candidate). cond (e.child == child) (shortened count e) e) m.entrants
        (All_at (λ e. Any (IsCutFrom (cond (e.child == child) (shortened count e) e)) m.entrants) m.entrants (λ k e ek.
        any_of (IsCutFrom (cond (e.child == child) (shortened count e) e)) m.entrants k e ek (cut_or_not count (e.child == child) e)));
    places = λ s. omega arith;
  };
  adds = λ m seats more. record { entrants = whole_itself m; places = more };
}

-- what no element passes, and no pair, none of some of them passes
filter_none : {X : Type 0} (p q : X → Bool) (xs : List X) → list_any p xs ≡ false → list_any p (filter q xs) ≡ false
filter_none p q [] h = refl
filter_none p q (x ∷ xs) h =
    let parts = or_parts (p x) (list_any p xs) h in
    let rest = filter_none p q xs parts.1 in
    elim (cases_Bool (q x)) [
      | inl hit ↦ ap (λ b. list_any p (cond b (x ∷ filter q xs) (filter q xs))) hit ∙ (λ i. parts.0 i || rest i)
      | inr miss ↦ ap (λ b. list_any p (cond b (x ∷ filter q xs) (filter q xs))) miss ∙ rest
    ]

pairs_none : {X : Type 0} (test : X → X → Bool) (q : X → Bool) (xs : List X) → some_pair test xs ≡ false → some_pair test (filter q xs) ≡ false
pairs_none test q [] h = refl
pairs_none test q (x ∷ xs) h =
    let parts = or_parts (list_any (test x) xs) (some_pair test xs) h in
    let rest = pairs_none test q xs parts.1 in
    elim (cases_Bool (q x)) [
      | inl hit ↦ ap (λ b. some_pair test (cond b (x ∷ filter q xs) (filter q xs))) hit ∙ (λ i. filter_none (test x) q xs parts.0 i || rest i)
      | inr miss ↦ ap (λ b. some_pair test (cond b (x ∷ filter q xs) (filter q xs))) miss ∙ rest
    ]

no_fault : (m : Market) → Posed m → first_fault m ≡ None
no_fault m h = rw (h.schools, h.known, h.children, h.tenants, h.ranks) refl

without_posed : (m : Market) (child : ℕ) → Posed m → Posed (without child m)
without_posed m child h =
    let stays : Candidate → Bool = λ entrant. not (entrant.child == child) in
    let schools = or_parts (some_pair same_code m.seats) (list_any (λ (entrant : Candidate). some_pair same_school entrant.list) m.entrants) h.schools in
    record {
      schools = λ i. schools.0 i || filter_none (λ (entrant : Candidate). some_pair same_school entrant.list) stays m.entrants schools.1 i;
      known = filter_none (λ (entrant : Candidate). list_any (λ wish. not (list_any (λ seat. bytes_eq seat.code wish.school) m.seats)) entrant.list) stays m.entrants h.known;
      children = pairs_none same_child stays m.entrants h.children;
      tenants = filter_none (λ (entrant : Candidate). is_not_last entrant.list entrant.tenant) stays m.entrants h.tenants;
      ranks = pairs_none share_rank stays m.entrants h.ranks;
    }

pub no_loss_by_leaving_law : NoLossByLeaving
no_loss_by_leaving_law m child best other ok b o =
    no_loss_law (without child m) m other best (no_fault (without child m) (without_posed m child (posed m ok))) (kinds_of_generosity_law.leaves m child) o b.stable

-- an element of a list of images, and that of which it is the image
map_gives : {X Y : Type 0} (f : X → Y) (xs : List X) (k : ℕ) (y : Y) → slice_get (map f xs) k ≡ Some y → (x : X) × (slice_get xs k ≡ Some x) × (f x ≡ y)
map_gives f [] k y at = absurd (none-some y at)
map_gives f (x ∷ xs) zero y at = (x, refl, same_Some (f x) y at)
map_gives f (x ∷ xs) (suc k) y at = map_gives f xs k y at

-- entrants whose lists are cut can be distinguished as before
cut_distinct : (m n : Market) → Distinct m → ((k : ℕ) (y : Candidate) → slice_get n.entrants k ≡ Some y → (x : Candidate) × (slice_get m.entrants k ≡ Some x) × IsCutFrom y x) → Distinct n
cut_distinct m n d from =
    let old : (k : ℕ) (y : Candidate) (j : ℕ) (w : Wish) (at : slice_get n.entrants k ≡ Some y) → slice_get y.list j ≡ Some w → (slice_get (from k y at).0.list j ≡ Some w) × (j < length y.list)
    = λ k y j w at jw. at_take (from k y at).0.list (length y.list) j w (ap (λ ws. slice_get ws j) (sym (from k y at).2.list) ∙ jw) in
    let free : (k : ℕ) (y : Candidate) (s : Code) (at : slice_get n.entrants k ≡ Some y) → is_tenant y s ≡ false → is_tenant (from k y at).0 s ≡ false
    = λ k y s at f. ap (λ o. has o s) (sym (from k y at).2.tenant) ∙ f in
    record {
      well = record {
        own_rank = λ k y j w yk jw.
            let x = from k y yk in
            let it = old k y j w yk jw in
            let is = d.well.own_rank k x.0 j w x.1 it.0 in
            ap (λ (ws : List Wish). preference_rank ws w.school) x.2.list ∙ (rank_take x.0.list (length y.list) w.school (omega (arith, is, it.1)) ∙ is);
      };
      children = λ i j y z yi zj less same.
          let a = from i y yi in
          let b = from j z zj in
          d.children i j a.0 b.0 a.1 b.1 less (sym a.2.child ∙ (same ∙ b.2.child));
      key_of = λ k y j w yk jw.
          let x = from k y yk in
          let it = old k y j w yk jw in
          let is = d.well.own_rank k x.0 j w x.1 it.0 in
          ap (λ (ws : List Wish). key_at ws w.school) x.2.list ∙ (key_take x.0.list (length y.list) w.school (omega (arith, is, it.1)) ∙ d.key_of k x.0 j w x.1 it.0);
      keys = λ k l y z j i w v apart yk zl jw iv same f g before.
          let a = from k y yk in
          let b = from l z zl in
          d.keys k l a.0 b.0 j i w v apart a.1 b.1 (old k y j w yk jw).0 (old l z i v zl iv).0 same (free k y w.school yk f) (free l z w.school zl g) before;
    }

pub no_loss_by_cutting_law : NoLossByCutting
no_loss_by_cutting_law m child count best other ok b o =
    let f : Candidate → Candidate = λ e. cond (e.child == child) (shortened count e) e in
    let d = cut_distinct m (cut_to child count m) (distinct m (posed m ok)) (λ k y yk.
    let x = map_gives f m.entrants k y yk in
    (x.0, x.1, subst (λ z. IsCutFrom z x.0) x.2 (cut_or_not count (x.0.child == child) x.0))) in
    no_loss (cut_to child count m) m other best d (kinds_of_generosity_law.cuts m child count) o b.stable

pub no_loss_by_places_law : NoLossByPlaces
no_loss_by_places_law m seats best a ok more b stable =
    no_loss_law (with_seats seats m) m best a ok (kinds_of_generosity_law.adds m seats more) b stable
