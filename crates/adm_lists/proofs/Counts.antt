-- How many elements of a list, or rows of a map, pass a test.
use Rattle.std.proofs.Common.{◌≡◌, ◌∙◌, ap, sym, subst, refl, cond, Bool, true, false, ℕ, ◌+◌, ◌≤◌, List, [], ◌∷◌, Option, Some, option_map, unwrap_or, count_by, arith}
use Rattle.std.specs.Ordering.{nat_cmp}
use Rattle.std.specs.Cmp.{nat_cmp_total}
use Rattle.std.specs.BTreeMap.{is_at}
use Rattle.std.specs.List.Sorted.{IsStrictlySortedBy}
use Rattle.std.specs.Map.{keys_of, values_of, lookup, remove_entry}
use Rattle.std.specs.FinMap.{nat_cmp-IsAntisymmetric}
use Rattle.std.proofs.lemmas.List.Sums.{sum_by-cons}
use Rattle.std.proofs.lemmas.Map.Entries.{sum_by-remove_entry}
use Rattle.adm_lists.proofs.Orders.{same_key, tied}
use Rattle.adm_lists.proofs.Maps.{apart}

-- what a test counts
abbrev pub one_if : Bool → ℕ
one_if b = cond b 1 0

-- ---- by keys

-- what another key has stays where one is removed
lookup_remove : {V : Type 0} (k q : ℕ) (es : List (ℕ × V)) → is_at (nat_cmp q) k ≡ false → lookup (is_at (nat_cmp q)) (remove_entry (is_at (nat_cmp k)) es) ≡ lookup (is_at (nat_cmp q)) es
lookup_remove k q [] other = refl
lookup_remove k q (e ∷ es) other =
    elim (is_at (nat_cmp k) e.0) as (λ b. is_at (nat_cmp k) e.0 ≡ b → lookup (is_at (nat_cmp q)) (cond b es (e ∷ remove_entry (is_at (nat_cmp k)) es)) ≡ lookup (is_at (nat_cmp q)) (e ∷ es)) [
      | true ↦ λ here. sym (ap (λ b. cond b (Some e.1) (lookup (is_at (nat_cmp q)) es)) (subst (λ x. is_at (nat_cmp q) x ≡ false) (same_key nat_cmp-IsAntisymmetric k e.0 here) other))
      | false ↦ λ here. ap (cond (is_at (nat_cmp q) e.0) (Some e.1)) (lookup_remove k q es other)
    ] refl

-- one that passes is removed
count_remove : {W : Type 0} (r : W → Bool) (k : ℕ) (fs : List (ℕ × W)) (w : W) → lookup (is_at (nat_cmp k)) fs ≡ Some w → r w ≡ true
    → count_by r (values_of fs) ≡ 1 + count_by r (values_of (remove_entry (is_at (nat_cmp k)) fs))
count_remove {W = W} r k fs w there passes =
    let all = sum_by-remove_entry (λ v. one_if (r v)) (is_at (nat_cmp k)) fs in
    let gone : unwrap_or (option_map (λ v. one_if (r v)) (lookup (is_at (nat_cmp k)) fs)) 0 ≡ 1 = ap (λ (o : Option W). unwrap_or (option_map (λ v. one_if (r v)) o) 0) there ∙ ap one_if passes in
    omega (arith, all, gone)

module _ {V W : Type 0} (p : V → Bool) (r : W → Bool) where
  -- those of one list that pass are at most as many as those of another where each of them has one there with its key
  pub count_le : (es : List (ℕ × V)) (fs : List (ℕ × W)) → IsStrictlySortedBy nat_cmp (keys_of es)
      → ((q : ℕ) (v : V) → lookup (is_at (nat_cmp q)) es ≡ Some v → p v ≡ true → (w : W) × (lookup (is_at (nat_cmp q)) fs ≡ Some w) × (r w ≡ true))
      → count_by p (values_of es) ≤ count_by r (values_of fs)
  unfolding IsStrictlySortedBy
  count_le [] fs sorted stand = omega arith
  count_le (e ∷ es) fs sorted stand =
      let later : (q : ℕ) (v : V) → lookup (is_at (nat_cmp q)) es ≡ Some v → lookup (is_at (nat_cmp q)) (e ∷ es) ≡ Some v =
      λ q v there. ap (λ b. cond b (Some e.1) (lookup (is_at (nat_cmp q)) es)) (apart nat_cmp-IsAntisymmetric e.0 es sorted.0 q v there) ∙ there in
      let one : count_by p (values_of (e ∷ es)) ≡ one_if (p e.1) + count_by p (values_of es) = sum_by-cons (λ v. one_if (p v)) e.1 (values_of es) in
      elim (p e.1) as (λ b. p e.1 ≡ b → count_by p (values_of (e ∷ es)) ≤ count_by r (values_of fs)) [
        | false ↦ λ free.
            let rest = count_le es fs sorted.1 (λ q v there passes. stand q v (later q v there) passes) in
            let none : one_if (p e.1) ≡ 0 = ap one_if free in
            omega (arith, rest, none, one)
        | true ↦ λ held.
            let single : one_if (p e.1) ≡ 1 = ap one_if held in
            let first = stand e.0 e.1 (ap (λ b. cond b (Some e.1) (lookup (is_at (nat_cmp e.0)) es)) (tied nat_cmp_total e.0)) held in
            let others = remove_entry (is_at (nat_cmp e.0)) fs in
            let rest = count_le es others sorted.1 (λ q v there passes.
            let other : is_at (nat_cmp q) e.0 ≡ false = apart nat_cmp-IsAntisymmetric e.0 es sorted.0 q v there in
            let found = stand q v (later q v there) passes in
            (found.0, lookup_remove e.0 q fs other ∙ found.1, found.2)) in
            let gone = count_remove r e.0 fs first.0 first.1 first.2 in
            omega (arith, rest, single, gone, one)
      ] refl
