-- The problem in which one child hands in another list, and the laws of stable allocations.
use Rattle.std.proofs.Common.{◌≡◌, ℕ, ◌+◌, ◌<◌, ◌≤◌, List, [], ◌∷◌, ◌++◌, length, map, Option, None, Some, true, false, cond, not, inl, inr, refl, sym, ap, ◌∙◌, subst, arith}
use Rattle.std.specs.Prelude.{bytes_eq, option_map, find, ◌==◌}
use Rattle.std.specs.List.{slice_get, list_any, cons_option}
use Rattle.std.specs.Option.{option_to_list}
use Rattle.std.proofs.lemmas.Bool.{cases_Bool, cases_order, or_parts, not-false, eq-eqb, eqb-true}
use Rattle.std.proofs.lemmas.List.{length-map}
use Rattle.std.proofs.lemmas.Option.{slice_get-map, slice_get_within}
use Rattle.std.proofs.lemmas.Slice.Eq.{bytes_eq-Decides}
use Rattle.adm_match.specs.declared.problem.Wish.{Wish}
use Rattle.adm_match.specs.Market.{Code, Candidate, Market, preference_rank, assigned_rank, is_tenant, key_at, is_not_last, some_pair, same_code, same_school}
use Rattle.adm_match.specs.Stability.{Allocation, IsStable}
use Rattle.adm_match.specs.Relisting.{wishes_among, with_list, relisted, NoGain}
use Rattle.adm_match.proofs.RanksAndBlocks.{has_tells, at_All, All_at, same_rank, wish_at_rank}
use Rattle.adm_match.proofs.FoundWishes.{found_at, rank_upto}
use Rattle.adm_match.proofs.Posed.{Posed, posed, list_any_not}
use Rattle.adm_match.specs.Distinct.{Distinct}
use Rattle.adm_match.proofs.Distinct.{distinct}
use Rattle.adm_match.proofs.Existence.{best_exists}
use Rattle.adm_match.specs.Distinct.{Seated}
use Rattle.adm_match.proofs.Placed.{on_list}
use Rattle.adm_match.proofs.Moved.{Differs}
use Rattle.adm_match.proofs.NoGain.{Listing, no_gain}

-- one child's entrant changed, and the others as they are
abbrev pub changed : ℕ → (Candidate → Candidate) → Candidate → Candidate
changed child new x = cond (x.child == child) (new x) x

changed_there : (child : ℕ) (new : Candidate → Candidate) (o : Option Candidate) → ((x : Candidate) → o ≡ Some x → x.child ≡ child → ⊥) → option_map (changed child new) o ≡ o
changed_there child new None h = refl
changed_there child new (Some x) h = elim (cases_Bool (x.child == child)) [
  | inl hit ↦ absurd (h x refl (eqb-true _ _ hit))
  | inr miss ↦ ap (λ b. Some (cond b (new x) x)) miss
]

pub differs_changed : (m : Market) (new : Candidate → Candidate) (k : ℕ) (e : Candidate) → Distinct m → slice_get m.entrants k ≡ Some e → (new e).child ≡ e.child
    → Differs m (record m { entrants = map (changed e.child new) m.entrants }) k e (new e)
differs_changed m new k e d here child = record {
  seats = refl;
  same = length-map m.entrants (changed e.child new);
  here = here;
  here' = slice_get-map (changed e.child new) m.entrants k ∙ (ap (option_map (changed e.child new)) here
      ∙ ap (λ b. Some (cond b (new e) e)) (eq-eqb e.child e.child refl));
  others = λ j n. slice_get-map (changed e.child new) m.entrants j ∙ changed_there e.child new (slice_get m.entrants j) (λ x jx same. elim (cases_order j k) [
    | inl is ↦ n is
    | inr other ↦ elim other [
      | inl less ↦ d.children j k x e jx here less same
      | inr more ↦ d.children k j e x here jx more (sym same)
    ]
  ]);
  child = child;
}

pub differs_relisted : (m : Market) (schools : List Code) (k : ℕ) (e : Candidate) → Distinct m → slice_get m.entrants k ≡ Some e → Differs m (relisted m e.child schools) k e (with_list e schools)
differs_relisted m schools k e d here = differs_changed m (λ x. with_list x schools) k e d here refl

-- the wishes for some schools are wishes of the list
abbrev Own : List Wish → List Wish → Code → Type 0
Own list wishes s = preference_rank wishes s < length wishes → (preference_rank list s < length list) × (key_at wishes s ≡ key_at list s)

wish_own : (list rest : List Wish) (t s : Code) (o : Option Wish) → find (λ wish. bytes_eq wish.school t) list ≡ o → Own list rest s → Own list (cons_option o rest) s
wish_own list rest t s None found h l = h l
wish_own list rest t s (Some w) found h l = elim (cases_Bool (bytes_eq w.school s)) [
  | inl hit ↦
      let at = found_at (λ (wish : Wish). bytes_eq wish.school t) list w found in
      let w_s : w.school ≡ s = (bytes_eq-Decides w.school s).0 hit in
      let w_t : w.school ≡ t = (bytes_eq-Decides w.school t).0 at.2 in (
        omega (arith, ap (preference_rank list) w_s, rank_upto list at.0 w at.1, slice_get_within list at.0 w at.1),
        ap (λ b. option_map (λ (x : Wish). x.key) (cond b (Some w) (find (λ x. bytes_eq x.school s) rest))) hit
            ∙ ap (option_map (λ (x : Wish). x.key)) (sym found ∙ ap (λ (c : Code). find (λ (x : Wish). bytes_eq x.school c) list) (sym w_t ∙ w_s)),
      )
  | inr miss ↦
      let step : preference_rank (w ∷ rest) s ≡ 1 + preference_rank rest s = ap (λ b. cond (not b) (1 + preference_rank rest s) 0) miss in
      let own = h (omega (arith, step, l)) in
      (own.0, ap (λ b. option_map (λ (x : Wish). x.key) (cond b (Some w) (find (λ x. bytes_eq x.school s) rest))) miss ∙ own.1)
]

wishes_own : (list : List Wish) (schools : List Code) (s : Code) → Own list (wishes_among list schools) s
wishes_own list [] s = λ l. absurd (omega arith)
wishes_own list (t ∷ ts) s = wish_own list (wishes_among list ts) t s (find (λ wish. bytes_eq wish.school t) list) refl (wishes_own list ts s)

listing : (e : Candidate) (schools : List Code) → Listing e (with_list e schools)
listing e schools = record {
  guest = λ s f. f;
  own = λ s _ l. (wishes_own e.list (schools ++ option_to_list e.tenant) s l).1;
}

pub seated : (m : Market) → Posed m → Seated m
seated m h = record {
  once = (or_parts (some_pair same_code m.seats) (list_any (λ (entrant : Candidate). some_pair same_school entrant.list) m.entrants) h.schools).0;
  known = λ k e j w ek jw.
      let of_list = list_any_not (λ (entrant : Candidate). list_any (λ wish. not (list_any (λ seat. bytes_eq seat.code wish.school) m.seats)) entrant.list) m.entrants k e h.known ek in
      not-false _ (list_any_not (λ (wish : Wish). not (list_any (λ seat. bytes_eq seat.code wish.school) m.seats)) e.list j w of_list jw);
}

pub tenant_last : (m : Market) → Posed m → (k : ℕ) (e : Candidate) → slice_get m.entrants k ≡ Some e → (s : Code) → is_tenant e s ≡ true → preference_rank e.list s + 1 ≡ length e.list
tenant_last m h k e ek s tenant =
    let home : e.tenant ≡ Some s = (has_tells e.tenant s).0 tenant in
    let last : is_not_last e.list (Some s) ≡ false = ap (is_not_last e.list) (sym home) ∙ list_any_not (λ (entrant : Candidate). is_not_last entrant.list entrant.tenant) m.entrants k e h.tenants ek in
    eqb-true _ _ (not-false _ last)

pub no_gain_law : NoGain
no_gain_law m child schools best other ok b o =
    let h = posed m ok in
    All_at (λ e. e.child ≡ child → assigned_rank e.list (best child) ≤ assigned_rank e.list (other child)) m.entrants (λ k e ek is.
    let gain = no_gain m (relisted m e.child schools) k e (with_list e schools) best other
    (differs_relisted m schools k e (distinct m h) ek) (listing e schools) (distinct m h) (seated m h) (tenant_last m h k e ek) b
    (subst (λ n. IsStable (relisted m n schools) other) (sym is) o.stable) in
    subst (λ n. assigned_rank e.list (best n) ≤ assigned_rank e.list (other n)) is gain)
