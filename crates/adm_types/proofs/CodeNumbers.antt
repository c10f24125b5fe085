-- Codes lie as the numbers do that their bytes spell, the first byte the highest, with zero bytes after them up to eight.
use Rattle.std.proofs.Common.{◌≡◌, ◌∙◌, refl, sym, ap, arith, ℕ, zero, suc, ◌+◌, ◌*◌, ◌<◌, ◌≤◌, ◌==◌, List, [], ◌∷◌, length, Ordering, Less, Equal, Greater, inl, inr}
use Rattle.std.specs.Prelude.{bytes_eq}
use Rattle.std.specs.Int.{w64, from_be_bytes}
use Rattle.std.specs.List.{AllByRecursion}
use Rattle.std.specs.Ordering.{nat_cmp, ordering_then, is_eq}
use Rattle.std.specs.Cmp.{nat_cmp_is}
use Rattle.std.specs.Cmp.Lexicographic.{slice_cmp}
use Rattle.std.proofs.lemmas.Cmp.{ranked, by_ranked}
use Rattle.std.proofs.lemmas.List.Elements.{All-weaker, recursion_from_All}
use Rattle.std.proofs.lemmas.Map.Text.{is_eq-slice_cmp}
use Rattle.adm_lists.proofs.Orders.{eq_number}
use Rattle.adm_types.specs.Code.{IsCodeByte, IsCode, padded}

-- no byte of a code is zero
abbrev IsByte : ℕ → Type 0
IsByte b = (0 < b) × (b < 256)

byte_of_code : (b : ℕ) → IsCodeByte b → IsByte b
byte_of_code b (inl h) = omega (arith, h.0, h.1)
byte_of_code b (inr h) = omega (arith, h.0, h.1)

-- what n bytes spell after a: those of the list, and zeros after them
abbrev spelled : ℕ → ℕ → List ℕ → ℕ
spelled zero a bytes = a
spelled (suc n) a [] = spelled n (a * 256) []
spelled (suc n) a (b ∷ bytes) = spelled n (a * 256 + b) bytes

rises : (n a b : ℕ) (xs ys : List ℕ) → AllByRecursion IsByte xs → a < b → spelled n a xs < spelled n b ys
rises zero a b xs ys small h = h
rises (suc n) a b [] [] small h = rises n (a * 256) (b * 256) [] [] small (omega arith)
rises (suc n) a b [] (y ∷ ys) small h = rises n (a * 256) (b * 256 + y) [] ys small (omega arith)
rises (suc n) a b (x ∷ xs) [] small h = rises n (a * 256 + x) (b * 256) xs [] small.1 (omega (arith, small.0.1))
rises (suc n) a b (x ∷ xs) (y ∷ ys) small h = rises n (a * 256 + x) (b * 256 + y) xs ys small.1 (omega (arith, small.0.1))

below : {x y : ℕ} → x < y → nat_cmp x y ≡ Less
below {x} {y} h = sym (nat_cmp_is x y Less h)

above : {x y : ℕ} → y < x → nat_cmp x y ≡ Greater
above {x} {y} h = sym (nat_cmp_is x y Greater h)

lie_alike : (n a : ℕ) (xs ys : List ℕ) → length xs ≤ n → length ys ≤ n → AllByRecursion IsByte xs → AllByRecursion IsByte ys → nat_cmp (spelled n a xs) (spelled n a ys) ≡ slice_cmp nat_cmp xs ys
lie_alike zero a [] [] p q g h = sym (nat_cmp_is a a Equal refl)
lie_alike zero a [] (y ∷ ys) p q g h = absurd (omega arith)
lie_alike zero a (x ∷ xs) ys p q g h = absurd (omega arith)
lie_alike (suc n) a [] [] p q g h = lie_alike n (a * 256) [] [] (omega arith) (omega arith) g h
lie_alike (suc n) a [] (y ∷ ys) p q g h = below (rises n (a * 256) (a * 256 + y) [] ys g (omega (arith, h.0.0)))
lie_alike (suc n) a (x ∷ xs) [] p q g h = above (rises n (a * 256) (a * 256 + x) [] xs h (omega (arith, g.0.0)))
lie_alike (suc n) a (x ∷ xs) (y ∷ ys) p q g h =
    by_ranked (x < y) (x ≡ y) (y < x) (nat_cmp x y) (ranked x y (nat_cmp x y) refl)
    (λ e under. below (rises n (a * 256 + x) (a * 256 + y) xs ys g.1 (omega arith)) ∙ sym (ap then_rest e))
    (λ e level. ap (λ z. nat_cmp (spelled n (a * 256 + x) xs) (spelled n (a * 256 + z) ys)) (sym level)
    ∙ lie_alike n (a * 256 + x) xs ys (omega arith) (omega arith) g.1 h.1 ∙ sym (ap then_rest e))
    (λ e over. above (rises n (a * 256 + y) (a * 256 + x) ys xs h.1 (omega arith)) ∙ sym (ap then_rest e))
  where
    then_rest : Ordering → Ordering
    then_rest first = ordering_then first (slice_cmp nat_cmp xs ys)

number_is : (code : List ℕ) → length code ≤ 8 → from_be_bytes w64 (padded code) ≡ spelled 8 0 code
number_is [] l = omega arith
number_is (a ∷ []) l = omega arith
number_is (a ∷ b ∷ []) l = omega arith
number_is (a ∷ b ∷ c ∷ []) l = omega arith
number_is (a ∷ b ∷ c ∷ d ∷ []) l = omega arith
number_is (a ∷ b ∷ c ∷ d ∷ e ∷ []) l = omega arith
number_is (a ∷ b ∷ c ∷ d ∷ e ∷ f ∷ []) l = omega arith
number_is (a ∷ b ∷ c ∷ d ∷ e ∷ f ∷ g ∷ []) l = omega arith
number_is (a ∷ b ∷ c ∷ d ∷ e ∷ f ∷ g ∷ h ∷ []) l = omega arith
number_is (a ∷ b ∷ c ∷ d ∷ e ∷ f ∷ g ∷ h ∷ i ∷ more) l = absurd (omega arith)

bytes_of : (code : List ℕ) → IsCode code → AllByRecursion IsByte code
bytes_of code is = recursion_from_All IsByte code (All-weaker IsCodeByte IsByte byte_of_code code is.2)

-- codes lie as their numbers do
pub codes_lie : (xs ys : List ℕ) → IsCode xs → IsCode ys → nat_cmp (from_be_bytes w64 (padded xs)) (from_be_bytes w64 (padded ys)) ≡ slice_cmp nat_cmp xs ys
codes_lie xs ys p q =
    (λ i. nat_cmp (number_is xs p.1 i) (number_is ys q.1 i))
    ∙ lie_alike 8 0 xs ys p.1 q.1 (bytes_of xs p) (bytes_of ys q)

-- codes are equal where their numbers are
pub codes_tie : (xs ys : List ℕ) → IsCode xs → IsCode ys → (from_be_bytes w64 (padded xs) == from_be_bytes w64 (padded ys)) ≡ bytes_eq xs ys
codes_tie xs ys p q = sym (eq_number _ _) ∙ ap is_eq (codes_lie xs ys p q) ∙ is_eq-slice_cmp xs ys
