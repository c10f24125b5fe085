-- The members of a set as a list in order.
use Rattle.std.proofs.Common.{◌≡◌, ◌∙◌, sym, subst, refl, ℕ, List, [], ◌∷◌, arith}
use Rattle.std.specs.Prelude.{◌==◌, ◌||◌}
use Rattle.std.specs.List.{list_any}
use Rattle.std.specs.List.Sorted.{IsStrictlySortedBy}
use Rattle.std.specs.Ordering.{nat_cmp, is_eq}
use Rattle.std.specs.BTreeMap.{is_at}
use Rattle.std.proofs.lemmas.Bool.Decides.{nat_tests}
use Rattle.std.proofs.lemmas.Map.Keys.{IsStrictlyIncreasing-from_sorted}
use Rattle.adm_types.specs.Seasons.{IsRising}

at_equal : (day other : ℕ) → is_eq (nat_cmp day other) ≡ (other == day)
at_equal day other = grind (arith, nat_tests)

member : (day : ℕ) (keys : List ℕ) → list_any (is_at (nat_cmp day)) keys ≡ list_any (λ other. other == day) keys
member day [] = refl
member day (other ∷ keys) = λ i. at_equal day other i || member day keys i

pub IsRising-keys : (days keys list : List ℕ) → IsStrictlySortedBy nat_cmp keys
    → ((day : ℕ) → list_any (is_at (nat_cmp day)) keys ≡ list_any (λ other. other == day) days) → list ≡ keys → IsRising days list
IsRising-keys days keys list sorted same is = subst (IsRising days) (sym is) (record { rising = IsStrictlyIncreasing-from_sorted keys sorted; same = λ day. sym (member day keys) ∙ same day })
