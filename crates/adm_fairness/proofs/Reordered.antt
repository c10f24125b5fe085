-- Problems in which schools rank those who compete for them alike, by whatever keys: they have the same stable allocations.
use Rattle.std.proofs.Common.{◌≡◌, ◌∙◌, ap, sym, subst, refl, true, false, not, ◌&&◌, ◌||◌, ℕ, zero, suc, ◌<◌, ◌≤◌, List, [], ◌∷◌, length, map, Option, Some, None, inl, inr, arith}
use Rattle.std.specs.Prelude.{IfSome, nat_lt}
use Rattle.std.specs.List.{AllZip, list_any, slice_get}
use Rattle.std.proofs.lemmas.Bool.{cases_Bool, false≢true, and_parts, and_from, lt-ltb, ltb-true}
use Rattle.std.proofs.lemmas.Option.{none-some, same_Some}
use Rattle.adm_types.specs.Code.{has}
use Rattle.adm_match.specs.Market.{Code, Candidate, Market, preference_rank, assigned_rank, is_tenant, ranks_before, quota_of}
use Rattle.adm_match.specs.Stability.{Allocation, count_at, is_guest, prefers, ranks_after, blocks, IsContent, IsStable, IsBest}
use Rattle.adm_match.proofs.FoundWishes.{rank_within}
use Rattle.adm_match.proofs.Placed.{on_list}
use Rattle.adm_match.proofs.RanksAndBlocks.{at_All, All_at, list_any_of, list_any_gives, guest_gives}
use Rattle.adm_lists.proofs.Members.{In}
use Rattle.adm_fairness.proofs.Codes.{not_blocked}
use Rattle.adm_fairness.proofs.Zipped.{zip_back, count_zipped}

-- what two functions make of one list, side by side
pub zip_both : {X Y : Type 0} (R : Y → Y → Type 0) (f g : X → Y) (xs : List X) → ((x : X) → In x xs → R (f x) (g x)) → AllZip R (map f xs) (map g xs)
zip_both R f g [] each = tt
zip_both R f g (x ∷ xs) each = (each x (inl refl), zip_both R f g xs (λ y at. each y (inr at)))

pub map_at : {X Y : Type 0} (f : X → Y) (xs : List X) (k : ℕ) (y : Y) → slice_get (map f xs) k ≡ Some y → (x : X) × (slice_get xs k ≡ Some x) × (f x ≡ y)
map_at f [] k y at = absurd (none-some y at)
map_at f (x ∷ xs) zero y at = (x, refl, same_Some (f x) y at)
map_at f (x ∷ xs) (suc k) y at = map_at f xs k y at

-- the same child, tenant of the same school, with the same schools on its list
pub record IsAlike (e f : Candidate) : Type 0 where
  pub child : f.child ≡ e.child
  pub tenant : f.tenant ≡ e.tenant
  pub long : length f.list ≡ length e.list
  pub rank : (s : Code) → preference_rank f.list s ≡ preference_rank e.list s

-- The same children, lists and seats; and of two that compete for a school the one ranks before the other in both problems, or in neither.
pub record IsReordered (m n : Market) : Type 0 where
  pub seats : n.seats ≡ m.seats
  pub entrants : AllZip IsAlike m.entrants n.entrants
  pub order :
      (k l : ℕ) (e f g h : Candidate) (s : Code)
      → slice_get m.entrants k ≡ Some e → slice_get n.entrants k ≡ Some f → slice_get m.entrants l ≡ Some g → slice_get n.entrants l ≡ Some h
      → preference_rank e.list s < length e.list → preference_rank g.list s < length g.list → is_tenant e s ≡ false → is_tenant g s ≡ false
      → ranks_before s f h ≡ ranks_before s e g

given_rank : (e f : Candidate) → IsAlike e f → (a : Allocation) → assigned_rank f.list (a f.child) ≡ assigned_rank e.list (a e.child)
given_rank e f is a = ap (λ n. assigned_rank f.list (a n)) is.child ∙ same (a e.child)
  where
    same : (o : Option Code) → assigned_rank f.list o ≡ assigned_rank e.list o
    same None = is.long
    same (Some s) = is.rank s

guest_was : (e f : Candidate) → IsAlike e f → (a : Allocation) (s : Code) → is_guest a s f ≡ is_guest a s e
guest_was e f is a s = λ i. has (a (is.child i)) s && not (has (is.tenant i) s)

module _ (m n : Market) (alike : IsReordered m n) (a : Allocation) (stable : IsStable m a) where
  was : (k : ℕ) (f : Candidate) → slice_get n.entrants k ≡ Some f → (e : Candidate) × (slice_get m.entrants k ≡ Some e) × IsAlike e f
  was k f fk = zip_back IsAlike m.entrants n.entrants k f alike.entrants fk

  counted : (s : Code) → count_at n a s ≡ count_at m a s
  counted s = count_zipped IsAlike (λ (e : Candidate). has (a e.child) s) (λ (f : Candidate). has (a f.child) s) m.entrants n.entrants alike.entrants
      (λ k e f ek fk is. ap (λ c. has (a c) s) is.child)

  listed : (e f : Candidate) → IsAlike e f → (o : Option Code) → IfSome o (λ s. preference_rank e.list s < length e.list) → IfSome o (λ s. preference_rank f.list s < length f.list)
  listed e f is None on = tt
  listed e f is (Some s) on = omega (arith, on, is.rank s, is.long)

  acceptable : (k : ℕ) (f : Candidate) → slice_get n.entrants k ≡ Some f → IfSome (a f.child) (λ s. preference_rank f.list s < length f.list)
  acceptable k f fk =
      let it = was k f fk in
      subst (λ c. IfSome (a c) (λ s. preference_rank f.list s < length f.list)) (sym it.2.child)
      (listed it.0 f it.2 (a it.0.child) (at_All (λ (e : Candidate). IfSome (a e.child) (λ s. preference_rank e.list s < length e.list)) m.entrants k it.0 stable.acceptable it.1))

  feasible : (s : Code) → list_any (is_guest a s) n.entrants ≡ true → count_at n a s ≤ quota_of n.seats s
  feasible s some =
      let one = list_any_gives (is_guest a s) n.entrants some in
      let it = was one.0 one.1 one.2 in
      let most = stable.feasible s (list_any_of (is_guest a s) m.entrants one.0 it.0 it.1 (sym (guest_was it.0 one.1 it.2 a s) ∙ one.3)) in
      omega (arith, most, counted s, ap (λ xs. quota_of xs s) alike.seats)

  module _ (k : ℕ) (f : Candidate) (fk : slice_get n.entrants k ≡ Some f) (s : Code) where
    abbrev e : Candidate
    e = (was k f fk).0

    full : prefers a f s ≡ true → blocks n a f s ≡ false
    full wished =
        let is = (was k f fk).2 in
        let less : preference_rank f.list s < assigned_rank f.list (a f.child) = ltb-true _ _ wished in
        let before : preference_rank e.list s < assigned_rank e.list (a e.child) = omega (arith, less, is.rank s, given_rank e f is a) in
        let parts = not_blocked (prefers a e s) (is_tenant e s) (nat_lt (count_at m a s) (quota_of m.seats s)) (list_any (ranks_after a s e) m.entrants)
        (at_All (IsContent m a) m.entrants k e stable.unblocked (was k f fk).1 s) (lt-ltb _ _ before) in
        let free : is_tenant f s ≡ false = ap (λ o. has o s) is.tenant ∙ parts.0 in
        let room : nat_lt (count_at n a s) (quota_of n.seats s) ≡ false = (λ i. nat_lt (counted s i) (quota_of (alike.seats i) s)) ∙ parts.1 in
        let behind : list_any (ranks_after a s f) n.entrants ≡ false = elim (cases_Bool (list_any (ranks_after a s f) n.entrants)) [
          | inr none ↦ none
          | inl some ↦ absurd (
              let one = list_any_gives (ranks_after a s f) n.entrants some in
              let h = one.1 in
              let both = and_parts (is_guest a s h) (ranks_before s f h) one.3 in
              let there = was one.0 h one.2 in
              let g = there.0 in
              let guest : is_guest a s g ≡ true = sym (guest_was g h there.2 a s) ∙ both.0 in
              let held = guest_gives a s g guest in
              let order = alike.order k one.0 e f g h s (was k f fk).1 fk there.1 one.2 (omega (arith, before, rank_within e.list (a e.child)))
              (on_list m a one.0 g s stable.acceptable there.1 held.0) parts.0 held.1 in
              let behind' : ranks_after a s e g ≡ true = and_from (is_guest a s g) (ranks_before s e g) guest (sym order ∙ both.1) in
              false≢true (sym parts.2 ∙ list_any_of (ranks_after a s e) m.entrants one.0 g there.1 behind'))
        ] in
        λ i. wished i && (free i || (room i || behind i))

    content : blocks n a f s ≡ false
    content = elim (cases_Bool (prefers a f s)) [
      | inr none ↦ ap (λ p. p && (is_tenant f s || (nat_lt (count_at n a s) (quota_of n.seats s) || list_any (ranks_after a s f) n.entrants))) none
      | inl wished ↦ full wished
    ]

  pub stable_reordered : IsStable n a
  stable_reordered = record {
    acceptable = All_at (λ (f : Candidate). IfSome (a f.child) (λ s. preference_rank f.list s < length f.list)) n.entrants acceptable;
    feasible = feasible;
    unblocked = All_at (IsContent n a) n.entrants content;
  }

-- so what is best in the one is best in the other
pub best_reordered : (m n : Market) (a : Allocation) → IsReordered m n → IsReordered n m → IsBest m a → IsBest n a
best_reordered m n a forth back best = record {
  stable = stable_reordered m n forth a best.stable;
  none_better = λ z stable. All_at (λ (f : Candidate). assigned_rank f.list (a f.child) ≤ assigned_rank f.list (z f.child)) n.entrants (λ k f fk.
      let it = zip_back IsAlike m.entrants n.entrants k f forth.entrants fk in
      let e = it.0 in
      let least = at_All (λ (c : Candidate). assigned_rank c.list (a c.child) ≤ assigned_rank c.list (z c.child)) m.entrants k e (best.none_better z (stable_reordered n m back z stable)) it.1 in
      omega (arith, least, given_rank e f it.2 a, given_rank e f it.2 z));
}
