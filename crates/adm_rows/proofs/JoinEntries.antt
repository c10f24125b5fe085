-- What an entry that is written into a map, or removed from it, does to the list of the entries.
use Rattle.std.proofs.Common.{◌≡◌, ◌∙◌, inl, inr, ap, sym, subst, refl, cond, Bool, true, false, List, [], ◌∷◌, Some, None, IsPermutation}
use Rattle.std.specs.declared.cmp.Ordering.{Ordering}
use Rattle.std.specs.declared.cmp.Ordering.TheVariants.{Less, Equal, Greater}
use Rattle.std.specs.Ordering.{is_eq, match_ordering}
use Rattle.std.specs.Cmp.{IsTotalOrder}
use Rattle.std.specs.BTreeMap.{insert_entry, is_at}
use Rattle.std.specs.Map.{lookup, remove_entry}
use Rattle.std.specs.FinMap.{IsAntisymmetric}
use Rattle.std.proofs.lemmas.List.Sorted.{IsPermutation-refl, IsPermutation-sym, IsPermutation-trans, IsPermutation-cons, IsPermutation-middle}
use Rattle.std.proofs.lemmas.Option.{none-some, same_Some}
use Rattle.adm_lists.proofs.Orders.{tied, same_key}
use Rattle.adm_lists.proofs.Members.{In}

module _ {K V : Type 0} (R : K → K → Ordering) where
  -- an entry whose key is new joins the others
  pub new_entry : (es : List (K × V)) (k : K) (v : V) → lookup (is_at (R k)) es ≡ None → IsPermutation ((k, v) ∷ es) (insert_entry R es k v)
  new_entry [] k v none = IsPermutation-refl ((k, v) ∷ [])
  new_entry (e ∷ es) k v none =
      elim (R k e.0) as (λ r. R k e.0 ≡ r → IsPermutation ((k, v) ∷ e ∷ es) (match_ordering r ((k, v) ∷ e ∷ es) ((e.0, v) ∷ es) (e ∷ insert_entry R es k v))) [
        | Less ↦ λ is. IsPermutation-refl _
        | Equal ↦ λ is. absurd (none-some e.1 (sym none ∙ ap (λ r. cond (is_eq r) (Some e.1) (lookup (is_at (R k)) es)) is))
        | Greater ↦ λ is.
            let rest = new_entry es k v (sym (ap (λ r. cond (is_eq r) (Some e.1) (lookup (is_at (R k)) es)) is) ∙ none) in
            IsPermutation-trans _ _ _ (IsPermutation-sym _ _ (IsPermutation-middle (e ∷ []) (k, v) es)) (IsPermutation-cons e _ _ rest)
      ] refl

-- where no key is found, none is removed
pub none_taken : {K V : Type 0} (test : K → Bool) (es : List (K × V)) → lookup test es ≡ None → remove_entry test es ≡ es
none_taken test [] none = refl
none_taken test (e ∷ es) none =
    elim (test e.0) as (λ b. cond b (Some e.1) (lookup test es) ≡ None → cond b es (e ∷ remove_entry test es) ≡ e ∷ es) [
      | true ↦ λ some. absurd (none-some e.1 (sym some))
      | false ↦ λ none. ap (λ rest. e ∷ rest) (none_taken test es none)
    ] none

module _ {K V : Type 0} {R : K → K → Ordering} (same : IsAntisymmetric R) where
  -- the entry that is removed was one of them
  pub one_taken : (es : List (K × V)) (k : K) (v : V) → lookup (is_at (R k)) es ≡ Some v → IsPermutation es ((k, v) ∷ remove_entry (is_at (R k)) es)
  one_taken [] k v some = absurd (none-some v some)
  one_taken (e ∷ es) k v some =
      elim (is_at (R k) e.0) as (λ b. is_at (R k) e.0 ≡ b → cond b (Some e.1) (lookup (is_at (R k)) es) ≡ Some v → IsPermutation (e ∷ es) ((k, v) ∷ cond b es (e ∷ remove_entry (is_at (R k)) es))) [
        | true ↦ λ tie here.
            let entry : e ≡ (k, v) = λ i. (sym (same_key same k e.0 tie) i, same_Some e.1 v here i) in
            subst (λ x. IsPermutation (e ∷ es) (x ∷ es)) entry (IsPermutation-refl (e ∷ es))
        | false ↦ λ tie there.
            let rest = one_taken es k v there in
            IsPermutation-trans _ _ _ (IsPermutation-cons e _ _ rest) (IsPermutation-middle (e ∷ []) (k, v) (remove_entry (is_at (R k)) es))
      ] refl some

  -- what is found at a key is an entry
  pub entry_found : (es : List (K × V)) (k : K) (v : V) → lookup (is_at (R k)) es ≡ Some v → In (k, v) es
  entry_found [] k v some = absurd (none-some v some)
  entry_found (e ∷ es) k v some =
      elim (is_at (R k) e.0) as (λ b. is_at (R k) e.0 ≡ b → cond b (Some e.1) (lookup (is_at (R k)) es) ≡ Some v → In (k, v) (e ∷ es)) [
        | true ↦ λ tie here. inl (λ i. (sym (same_key same k e.0 tie) i, same_Some e.1 v here i))
        | false ↦ λ tie there. inr (entry_found es k v there)
      ] refl some

module _ {K V : Type 0} {R : K → K → Ordering} (total : IsTotalOrder R) where
  -- where nothing is found at a key, no entry has it
  pub no_entry : (es : List (K × V)) (k : K) (v : V) → lookup (is_at (R k)) es ≡ None → In (k, v) es → ⊥
  no_entry [] k v none at = at
  no_entry (e ∷ es) k v none at =
      elim (is_at (R k) e.0) as (λ b. is_at (R k) e.0 ≡ b → cond b (Some e.1) (lookup (is_at (R k)) es) ≡ None → ⊥) [
        | true ↦ λ tie some. none-some e.1 (sym some)
        | false ↦ λ apart there. elim at [
          | inl here ↦ let wrong : true ≡ false = sym (tied total k) ∙ ap (λ (x : K × V). is_at (R k) x.0) (sym here) ∙ apart in cc
          | inr later ↦ no_entry es k v there later
        ]
      ] refl none
