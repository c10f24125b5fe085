-- Rows by their keys: those of a map, and what is written of those of a list that rises.
use Rattle.std.proofs.Common.{◌≡◌, ◌∙◌, ap, sym, subst, refl, cond, Bool, true, false, ℕ, List, [], ◌∷◌, map, Option, Some, None}
use Rattle.std.specs.declared.cmp.Ordering.{Ordering}
use Rattle.std.specs.Ordering.{nat_cmp}
use Rattle.std.specs.Cmp.{IsTotalOrder, nat_cmp_total, eq_by_cmp_equiv}
use Rattle.std.specs.BTreeMap.{is_at}
use Rattle.std.specs.List.{filter_map, cons_option}
use Rattle.std.specs.List.Sorted.{IsStrictlySortedBy}
use Rattle.std.specs.FinMap.{FinMap, get, values, IsAntisymmetric, nat_cmp-IsAntisymmetric}
use Rattle.std.specs.Option.{option_or}
use Rattle.adm_lists.proofs.Orders.{same_key}
use Rattle.adm_lists.proofs.Members.{In, All_in}
use Rattle.adm_lists.proofs.Maps.{none_at}
use Rattle.adm_lists.proofs.Keys.{by_key, at_key, put_over, rising}
use Rattle.adm_table.specs.TableRows.{put_at}
use Rattle.adm_register.specs.WellFormed.{AllRows}
use Rattle.adm_register.proofs.SameRows.{values_hold}

module _ {K V : Type 0} {R : K → K → Ordering} (total : IsTotalOrder R) (same : IsAntisymmetric R) (m : FinMap R V) where
  -- a value of a map, each of whose rows is at its own key, is at its key
  pub from_values : (key : V → K) → AllRows (λ k v. key v ≡ k) m → (v : V) → In v (values m) → get m (key v) ≡ Some v
  from_values key own v at = All_in (λ w. get m (key w) ≡ Some w) (values m) v
      (values_hold total same (λ w. get m (key w) ≡ Some w) m (λ k w there. subst (λ q. get m q ≡ Some w) (sym (own k w there)) there)) at

module _ {X V : Type 0} (key : X → ℕ) (own : V → ℕ) (h : X → Option V) (same : (x : X) (v : V) → h x ≡ Some v → own v ≡ key x) where
  put_one : (o : Option V) (rest : List V) (q : ℕ) (there : Option V) → (b : Bool) → ((v : V) → o ≡ Some v → is_at (nat_cmp (own v)) q ≡ b)
      → put_at nat_cmp own (cons_option o rest) q there ≡ put_at nat_cmp own rest q (cond b (option_or o there) there)
  put_one None rest q there true at = refl
  put_one None rest q there false at = refl
  put_one (Some v) rest q there true at = ap (λ b. put_at nat_cmp own rest q (cond b (Some v) there)) (at v refl)
  put_one (Some v) rest q there false at = ap (λ b. put_at nat_cmp own rest q (cond b (Some v) there)) (at v refl)

  -- what is at a key where these were put, each element's at its key
  pub put_given : (xs : List X) → IsStrictlySortedBy nat_cmp (map key xs) → (q : ℕ) (there : Option V) → put_at nat_cmp own (filter_map h xs) q there ≡ put_over h (at_key key xs q) there
  unfolding IsStrictlySortedBy
  put_given [] sorted q there = refl
  put_given (x ∷ xs) sorted q there =
      let symm = (eq_by_cmp_equiv nat_cmp_total).symm in
      elim (is_at (nat_cmp q) (key x)) as (λ b. is_at (nat_cmp q) (key x) ≡ b
      → put_at nat_cmp own (cons_option (h x) (filter_map h xs)) q there ≡ put_over h (cond b (Some x) (at_key key xs q)) there) [
        | true ↦ λ tie.
            let none : at_key key xs q ≡ None = ap (at_key key xs) (same_key nat_cmp-IsAntisymmetric q (key x) tie) ∙ none_at nat_cmp (key x) (by_key key xs) (rising key x xs sorted.0) in
            put_one (h x) (filter_map h xs) q there true (λ v is. ap (λ k. is_at (nat_cmp k) q) (same x v is) ∙ symm (key x) q ∙ tie)
            ∙ put_given xs sorted.1 q (option_or (h x) there)
            ∙ ap (λ o. put_over h o (option_or (h x) there)) none
        | false ↦ λ tie.
            put_one (h x) (filter_map h xs) q there false (λ v is. ap (λ k. is_at (nat_cmp k) q) (same x v is) ∙ symm (key x) q ∙ tie)
            ∙ put_given xs sorted.1 q there
      ] refl
