-- Flags as bits of a number: one more, and all of a list.
use Rattle.std.proofs.Common.{◌≡◌, ◌≢◌, ◌∙◌, ℕ, ◌+◌, ◌*◌, ◌%◌, ◌<◌, ◌≤◌, ◌^◌, Bool, true, false, true≢false, List, [], ◌∷◌, drop, length, get_or, refl, sym, ap, arith}
use Rattle.std.specs.Prelude.{bit_or, ◌==◌, ◌||◌}
use Rattle.std.specs.Int.{bit_at}
use Rattle.std.specs.Int.Bits.{or_zero_r}
use Rattle.std.proofs.lemmas.Bool.Decides.{nat_tests}
use Rattle.std.proofs.lemmas.List.{at_drop_more, at_drop_all}
use Rattle.std.proofs.lemmas.Nat.{one_shl}
use Rattle.std.proofs.lemmas.Nat.Bits.{same_from_bits, bit_at_or, bit_at-zero, bit_at-lt, bit_at-pow_same, bit_at-pow_other}
use Rattle.adm_types.specs.Flags.{bits_of, has_flag, is_among}

or_assoc : (a b c : ℕ) → bit_or (bit_or a b) c ≡ bit_or a (bit_or b c)
or_assoc a b c = same_from_bits _ _ (λ i. omega (arith, bit_at_or (bit_or a b) c i, bit_at_or a b i, bit_at_or a (bit_or b c) i, bit_at_or b c i))

-- one flag more
pub bits_more : (flags : List ℕ) (i flag bits other : ℕ) → i < length flags → flag ≡ get_or flags i other → flag ≤ 15 → bit_or bits (bits_of (drop i flags)) ≡ bits_of flags
    → bit_or (bit_or bits (1 * 2 ^ flag % 2 ^ 16)) (bits_of (drop (i + 1) flags)) ≡ bits_of flags
bits_more flags i flag bits other low is fits so_far =
    ap (λ m. bit_or (bit_or bits m) (bits_of (drop (i + 1) flags))) (one_shl flag 16 (omega arith))
    ∙ or_assoc bits (2 ^ flag) (bits_of (drop (i + 1) flags))
    ∙ ap (λ f. bit_or bits (bit_or (2 ^ f) (bits_of (drop (i + 1) flags)))) is
    ∙ sym (at_drop_more (λ rest. bit_or bits (bits_of rest)) flags i other low)
    ∙ so_far

-- no flag more
pub all_bits : (flags : List ℕ) (i bits : ℕ) → length flags ≤ i → bit_or bits (bits_of (drop i flags)) ≡ bits_of flags → bits ≡ bits_of flags
all_bits flags i bits end so_far = sym (at_drop_all (λ rest. bit_or bits (bits_of rest)) flags i end ∙ or_zero_r bits) ∙ so_far

set_bit : (bits flag other : ℕ) (b : Bool) → (other == flag) ≡ b → has_flag (bit_or (2 ^ other) bits) flag ≡ (b || has_flag bits flag)
set_bit bits flag other true e =
    let same : other ≡ flag = grind (arith, nat_tests) in
    let one : bit_at (bit_or (2 ^ other) bits) flag ≡ 1 = rw same (omega (arith, bit_at_or (2 ^ flag) bits flag, bit_at-pow_same flag, bit_at-lt bits flag)) in
    ap (λ n. n == 1) one
set_bit bits flag other false e =
    let apart : flag ≢ other = λ same. true≢false (let is : (other == flag) ≡ true = grind (arith, nat_tests) in sym is ∙ e) in
    ap (λ n. n == 1) (let here : bit_at (bit_or (2 ^ other) bits) flag ≡ bit_at bits flag = omega (arith, bit_at_or (2 ^ other) bits flag, bit_at-pow_other other flag apart) in here)

-- the bits of flags are those flags
pub bits_each : (flags : List ℕ) (flag : ℕ) → has_flag (bits_of flags) flag ≡ is_among flags flag
bits_each [] flag = ap (λ n. n == 1) (bit_at-zero flag)
bits_each (other ∷ flags) flag = set_bit (bits_of flags) flag other (other == flag) refl ∙ ap (λ b. (other == flag) || b) (bits_each flags flag)
