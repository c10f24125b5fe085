-- What the results of a comparison say.
use Rattle.std.proofs.Common.{◌≡◌, refl, true, T, ℕ, ◌==◌, Ordering, Less, Equal, Greater, arith}
use Rattle.std.specs.Ordering.{nat_cmp, is_eq, is_lt, eq_by_cmp}
use Rattle.std.specs.Cmp.{IsTotalOrder, Equal-is, eq_by_cmp_equiv}
use Rattle.std.specs.FinMap.{IsAntisymmetric}
use Rattle.std.proofs.lemmas.Bool.Decides.{nat_tests}

-- an answer that passes the test of `Less` is `Less`
pub is_less : (o : Ordering) → T (is_lt o) → o ≡ Less
is_less Less h = refl
is_less Equal h = absurd h
is_less Greater h = absurd h

-- the same, where the test is said to be true
pub less_of : (o : Ordering) → is_lt o ≡ true → o ≡ Less
less_of Less h = refl
less_of Equal h = cc
less_of Greater h = cc

-- two numbers tie where they are equal
pub eq_number : (a b : ℕ) → is_eq (nat_cmp a b) ≡ (a == b)
eq_number a b = grind (arith, nat_tests)

-- a number below another is not that one
pub less_apart : (a b : ℕ) → nat_cmp a b ≡ Less → a ≡ b → ⊥
less_apart a b h e = grind (arith, nat_tests)

-- a key ties with itself
pub tied : {K : Type 0} {R : K → K → Ordering} → IsTotalOrder R → (key : K) → eq_by_cmp R key key ≡ true
tied total key = (eq_by_cmp_equiv total).refl key

-- where only equal keys tie, two that tie are the same key
pub same_key : {K : Type 0} {R : K → K → Ordering} → IsAntisymmetric R → (q key : K) → eq_by_cmp R q key ≡ true → q ≡ key
same_key {R = R} same q key tie = same q key ((Equal-is (R q key)).0 tie)
