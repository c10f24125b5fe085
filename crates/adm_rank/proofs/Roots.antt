-- The whole part of a square root, as the distance's definition finds it.
use Rattle.std.proofs.Common.{◌≡◌, ℕ, zero, suc, ◌+◌, ◌*◌, ◌<◌, ◌≤◌, cond, inl, inr, ◌∙◌, subst, sym, arith, leb}
use Rattle.std.specs.Prelude.{nat_lt}
use Rattle.std.proofs.Math.Nat.{mul-le-mul}
use Rattle.std.proofs.lemmas.Bool.Decides.{nat_tests}
use Rattle.std.proofs.lemmas.Bool.{cases_Bool, cases_lt, cases_eq, le-leb, leb-true, false≢true}
use Rattle.adm_types.specs.declared.rows.Point.{Point}
use Rattle.adm_rank.specs.Distance.{IsDistance, root_upto, distance_of, squares_between}

root_square : (k n : ℕ) → root_upto k n * root_upto k n ≤ n
unfolding root_upto
root_square zero n = omega arith
root_square (suc k) n = elim (cases_Bool (leb (suc k * suc k) n)) [
  | inl h ↦ subst (λ b. cond b (suc k) (root_upto k n) * cond b (suc k) (root_upto k n) ≤ n) (sym h) (leb-true (suc k * suc k) n h)
  | inr h ↦ subst (λ b. cond b (suc k) (root_upto k n) * cond b (suc k) (root_upto k n) ≤ n) (sym h) (root_square k n)
]

root_greatest : (k n e : ℕ) → e ≤ k → e * e ≤ n → e ≤ root_upto k n
unfolding root_upto
root_greatest zero n e l s = omega arith
root_greatest (suc k) n e l s = elim (cases_Bool (leb (suc k * suc k) n)) [
  | inl h ↦ subst (λ b. e ≤ cond b (suc k) (root_upto k n)) (sym h) l
  | inr h ↦ subst (λ b. e ≤ cond b (suc k) (root_upto k n)) (sym h) (elim (cases_eq e (suc k)) [
    | inl is ↦ absurd (false≢true (sym h ∙ le-leb (suc k * suc k) n (subst (λ x. x * x ≤ n) is s)))
    | inr n' ↦ root_greatest k n e (below e k l n') s
  ])
]
  where
    below : (e k : ℕ) → e ≤ suc k → (e ≡ suc k → ⊥) → e ≤ k
    below e k l n = elim (cases_lt k e) [ inl more ↦ absurd (n (omega arith)) | inr less ↦ less ]

not_above : (n r q : ℕ) → q * q ≤ n → n < (r + 1) * (r + 1) → q ≤ r
not_above n r q h l = elim (cases_lt r q) [
  | inr le ↦ le
  | inl lt ↦
      let more : (r + 1) * (r + 1) ≤ q * q = mul-le-mul (omega arith) (omega arith) in
      absurd (omega arith)
]

square_above : (r : ℕ) → r ≤ r * r
square_above zero = omega arith
square_above (suc r) =
    let more : 1 * suc r ≤ suc r * suc r = mul-le-mul (omega arith) (omega arith) in
    omega arith

-- the whole number whose square is at most n, and whose next number's square is above n
pub root_is : (n r : ℕ) → r * r ≤ n → n < (r + 1) * (r + 1) → r ≡ root_upto n n
root_is n r l m =
    let least : root_upto n n ≤ r = not_above n r (root_upto n n) (root_square n n) m in
    let most : r ≤ root_upto n n = root_greatest n n r (omega (arith, square_above r)) l in
    omega arith

pub distance_is : (a b : Point) (n r : ℕ) → n ≡ squares_between a b → r * r ≤ n → n < (r + 1) * (r + 1) → r ≡ distance_of a b
unfolding distance_of
distance_is a b n r e l m = subst (λ s. r ≡ root_upto s s) e (root_is n r l m)

-- ---- a distance below a limit

-- the distance is what its definition in words says
fits : (a b : Point) → IsDistance a b (distance_of a b)
unfolding distance_of
fits a b =
    let n = squares_between a b in
    record { within = root_square n n; greatest = λ e h. root_greatest n n e (omega (arith, square_above e)) h }

both_hold : (a b c d : ℕ) → a < b → c < d → nat_lt a b ≡ nat_lt c d
both_hold a b c d h k = grind (arith, nat_tests)

both_fail : (a b c d : ℕ) → b ≤ a → d ≤ c → nat_lt a b ≡ nat_lt c d
both_fail a b c d h k = grind (arith, nat_tests)

-- a distance is below a limit where its square is below the square of the limit
pub nearer_is : (a b : Point) (n metres : ℕ) → n ≡ squares_between a b → nat_lt n (metres * metres) ≡ nat_lt (distance_of a b) metres
nearer_is a b n metres e =
    let d = fits a b in
    elim (cases_lt n (metres * metres)) [
      | inl less ↦ elim (cases_lt (distance_of a b) metres) [
        | inl near ↦ both_hold n (metres * metres) (distance_of a b) metres less near
        | inr far ↦
            let within = d.within in
            let more : metres * metres ≤ distance_of a b * distance_of a b = mul-le-mul far far in
            absurd (omega arith)
      ]
      | inr more ↦ both_fail n (metres * metres) (distance_of a b) metres more (d.greatest metres (omega arith))
    ]

pub squared_below : (x limit : ℕ) → x ≤ limit → x * x ≤ limit * limit
squared_below x limit h = mul-le-mul h h
