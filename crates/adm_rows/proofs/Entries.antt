-- What is in a map at each of its keys.
use Rattle.std.proofs.Common.{◌≡◌, ◌∙◌, inl, inr, Bool, true, false, cond, List, [], ◌∷◌, map, Some, refl, sym, ap, subst}
use Rattle.std.specs.Prelude.{T}
use Rattle.std.specs.declared.cmp.Ordering.{Ordering}
use Rattle.std.specs.declared.cmp.Ordering.TheVariants.{Less, Equal}
use Rattle.std.specs.Ordering.{is_eq, eq_by_cmp}
use Rattle.std.specs.Cmp.{IsTotalOrder, tied_itself}
use Rattle.std.specs.FinMap.Entries.{below_all}
use Rattle.std.specs.FinMap.{FinMap, find, is_sorted, get, values, entries, entries_sorted, get-entries, IsAntisymmetric}
use Rattle.sqlite_rules.specs.Lists.{Has}
use Rattle.std.proofs.lemmas.Option.{none-some, same_Some}
use Rattle.adm_lists.proofs.Tests.{both_hold}
use Rattle.adm_lists.proofs.Orders.{is_less, same_key}
use Rattle.adm_schema.proofs.Lists.{has_source}

-- ---- the entries of a map

module _ {K V : Type 0} {R : K → K → Ordering} (total : IsTotalOrder R) (same : IsAntisymmetric R) where
  pub below : (k : K) (es : List (K × V)) (e : K × V) → T (below_all R k es) → Has es e → R k e.0 ≡ Less
  below k [] e all h = absurd h
  below k (x ∷ es) e all (inl is) = ap (λ (y : K × V). R k y.0) is ∙ is_less _ (both_hold _ _ all).0
  below k (x ∷ es) e all (inr h) = below k es e (both_hold _ _ all).1 h

  -- each entry is found at its key
  pub found : (es : List (K × V)) → T (is_sorted R es) → (e : K × V) → Has es e → find R e.0 es ≡ Some e.1
  found [] sorted e h = absurd h
  found (x ∷ es) sorted e (inl is) =
      subst (λ (y : K × V). find R y.0 (x ∷ es) ≡ Some y.1) (sym is) (ap (λ o. cond (is_eq o) (Some x.1) (find R x.0 es)) (tied_itself total x.0))
  found (x ∷ es) sorted e (inr h) =
      let parts = both_hold _ _ sorted in
      go (eq_by_cmp R e.0 x.0) refl (below x.0 es e parts.0 h) (found es parts.1 e h)
    where
      go : (b : Bool) → eq_by_cmp R e.0 x.0 ≡ b → R x.0 e.0 ≡ Less → find R e.0 es ≡ Some e.1 → cond b (Some x.1) (find R e.0 es) ≡ Some e.1
      go true tie less there = absurd (
          let is : e.0 ≡ x.0 = same_key same e.0 x.0 tie in
          let wrong : Less ≡ Equal = sym less ∙ ap (λ k. R x.0 k) is ∙ tied_itself total x.0 in
          cc
          )
      go false tie less there = there

  -- what is found is an entry
  had : (q : K) (es : List (K × V)) (v : V) → find R q es ≡ Some v → Has (map (λ e. e.1) es) v
  had q [] v there = absurd (none-some v there)
  had q (e ∷ es) v there = go (eq_by_cmp R q e.0) there (had q es v)
    where
      go : (b : Bool) → cond b (Some e.1) (find R q es) ≡ Some v → (find R q es ≡ Some v → Has (map (λ x. x.1) es) v) → Has (map (λ x. x.1) (e ∷ es)) v
      go true here later = inl (sym (same_Some _ _ here))
      go false there later = inr (later there)

  pub has_value : (m : FinMap R V) (q : K) (v : V) → get m q ≡ Some v → Has (values m) v
  has_value m q v there = had q (entries m) v (sym (get-entries m q) ∙ there)

  module _ (key : V → K) where
    abbrev pub OwnKeys : FinMap R V → Type 0
    OwnKeys m = (k : K) (v : V) → get m k ≡ Some v → key v ≡ k

    pub own_entry : (m : FinMap R V) → OwnKeys m → (e : K × V) → Has (entries m) e → key e.1 ≡ e.0
    own_entry m own e h = own e.0 e.1 (get-entries m e.0 ∙ found (entries m) (entries_sorted m) e h)

    -- each row is at its own key
    pub value_at : (m : FinMap R V) → OwnKeys m → (v : V) → Has (values m) v → get m (key v) ≡ Some v
    value_at m own v h =
        let it = has_source (λ (e : K × V). e.1) (entries m) v h in
        let there : get m it.0.0 ≡ Some it.0.1 = get-entries m it.0.0 ∙ found (entries m) (entries_sorted m) it.0 it.1 in
        let at : key it.0.1 ≡ it.0.0 = own it.0.0 it.0.1 there in
        ap (λ w. get m (key w)) it.2 ∙ ap (get m) at ∙ there ∙ ap Some (sym it.2)
