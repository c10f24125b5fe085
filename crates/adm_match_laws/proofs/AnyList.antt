-- No list whatever helps a child.
use Rattle.std.proofs.Common.{◌≡◌, ℕ, ◌<◌, ◌≤◌, List, [], ◌∷◌, length, Option, Some, true, false, cond, not, ◌+◌, inl, inr, refl, sym, ap, ◌∙◌, subst, arith}
use Rattle.std.specs.Prelude.{IfSome, bytes_eq, option_map, find}
use Rattle.std.specs.List.{slice_get}
use Rattle.std.proofs.lemmas.Bool.{cases_Bool, false≢true}
use Rattle.adm_rank.specs.declared.keys.RankKey.{RankKey}
use Rattle.adm_types.specs.Code.{has}
use Rattle.adm_match.specs.declared.problem.Wish.{Wish}
use Rattle.adm_match.specs.Market.{Code, Candidate, Market, preference_rank, assigned_rank, is_tenant, key_at}
use Rattle.adm_match.specs.Stability.{IsStable}
use Rattle.adm_match.specs.Distinct.{Distinct}
use Rattle.adm_match_laws.specs.AnyList.{with_any_list, handed_in, MayHandIn, NoListHelps}
use Rattle.adm_match.proofs.RanksAndBlocks.{has_tells, at_All, All_at, wish_at_rank}
use Rattle.adm_match.proofs.Posed.{posed}
use Rattle.adm_match.proofs.Distinct.{distinct}
use Rattle.adm_match.proofs.NoGain.{Listing, no_gain}
use Rattle.adm_match.proofs.Relisted.{differs_changed, seated, tenant_last}

-- a school of a list has a key there
key_some : (ws : List Wish) (s : Code) → preference_rank ws s < length ws → (key : RankKey) × (key_at ws s ≡ Some key)
key_some [] s l = absurd (omega arith)
key_some (w ∷ ws) s l = elim (cases_Bool (bytes_eq w.school s)) [
  | inl hit ↦ (w.key, ap (λ b. option_map (λ (x : Wish). x.key) (cond b (Some w) (find (λ x. bytes_eq x.school s) ws))) hit)
  | inr miss ↦
      let rest = key_some ws s (omega (arith, l, ap (λ b. cond (not b) (1 + preference_rank ws s) 0) miss)) in
      (rest.0, ap (λ b. option_map (λ (x : Wish). x.key) (cond b (Some w) (find (λ x. bytes_eq x.school s) ws))) miss ∙ rest.1)
]

guest_still : (e : Candidate) (tenant : Option Code) → IfSome tenant (λ s. is_tenant e s ≡ true) → (s : Code) → is_tenant e s ≡ false → has tenant s ≡ false
guest_still e tenant may s free = elim (cases_Bool (has tenant s)) [
  | inr out ↦ out
  | inl in' ↦ absurd (false≢true (sym free ∙ subst (λ (o : Option Code). IfSome o (λ t. is_tenant e t ≡ true)) ((has_tells tenant s).0 in') may))
]

-- what an entrant may hand in: no other tenancy, and its own keys at the schools that it truly lists
pub listing : (m : Market) (k : ℕ) (e : Candidate) (list : List Wish) (tenant : Option Code) → Distinct m → slice_get m.entrants k ≡ Some e → MayHandIn list tenant e
    → Listing e (with_any_list list tenant e)
listing m k e list tenant d ek may = record {
  guest = guest_still e tenant may.tenancy;
  own = λ s here there.
      let w = wish_at_rank e.list s here in
      let key = key_some list s there in
      let own : IfSome (key_at list w.0.school) (λ key. key ≡ w.0.key) = at_All (λ wish. IfSome (key_at list wish.school) (λ key. key ≡ wish.key)) e.list (preference_rank e.list s) w.0 may.keys w.1 in
      let same : key.0 ≡ w.0.key = subst (λ o. IfSome o (λ (x : RankKey). x ≡ w.0.key)) (ap (key_at list) w.2 ∙ key.1) own in
      key.1 ∙ (ap Some same ∙ sym (ap (key_at e.list) (sym w.2) ∙ d.key_of k e (preference_rank e.list s) w.0 ek w.1));
}

pub no_list_helps_law : NoListHelps
no_list_helps_law m child list tenant best a ok may b stable =
    let p = posed m ok in
    let d = distinct m p in
    All_at (λ e. e.child ≡ child → assigned_rank e.list (best child) ≤ assigned_rank e.list (a child)) m.entrants (λ k e ek is.
    let own : MayHandIn list tenant e = at_All (λ e. e.child ≡ child → MayHandIn list tenant e) m.entrants k e may ek is in
    let gain = no_gain m (handed_in m e.child list tenant) k e (with_any_list list tenant e) best a
    (differs_changed m (with_any_list list tenant) k e d ek refl) (listing m k e list tenant d ek own) d (seated m p) (tenant_last m p k e ek) b
    (subst (λ n. IsStable (handed_in m n list tenant) a) (sym is) stable) in
    subst (λ n. assigned_rank e.list (best n) ≤ assigned_rank e.list (a n)) is gain)
