use Rattle.std.proofs.Common.{◌≡◌, ℕ, ◌-◌, ◌<◌, ◌≤◌, true, length, sym, ◌∙◌, arith, get_or}
use Rattle.std.proofs.lemmas.Bool.Decides.{nat_tests}
use Rattle.std.proofs.lemmas.Grind.{pow_more}
use Rattle.std.proofs.lemmas.Int.Digits.{digits_value_more}
use Rattle.std.proofs.lemmas.List.Folds.{list_all_more}
use Rattle.std.specs.Char.{is_ascii_digit, digit_value}
use Rattle.adm_http.proofs.lengths.body_length.Goals as goal

digit_range : (b : ℕ) → is_ascii_digit b ≡ true → (48 ≤ b) × (b ≤ 57)
digit_range b h = (grind (arith, nat_tests), grind (arith, nat_tests))

digit_value_is : (b : ℕ) → 48 ≤ b → b ≤ 57 → digit_value b ≡ b - 48
digit_value_is b low high = grind (arith, nat_tests)

pub loop-byte-preserved : goal.loop-byte-preserved
loop-byte-preserved c =
    let bs = c.args.bytes.now in
    let i = c.loop-byte.byte-index in
    let inside : i < length bs = omega arith in
    let is_digit : is_ascii_digit (get_or bs i 0) ≡ true = sym c.is_ascii_digit.ensures.value ∙ c.if-not-is_ascii_digit.false in
    let range = digit_range (get_or bs i 0) is_digit in
    let digit = digit_value_is (get_or bs i 0) range.0 range.1 in
    record {
      value = let more = digits_value_more 10 bs i inside in let was = c.loop-byte.invariant.value in omega (arith, more, was, digit, c.from.ensures);
      digits = let more = list_all_more is_ascii_digit bs i 0 inside in let was = c.loop-byte.invariant.digits in rw (more, was, is_digit);
      small = let more = pow_more 10 i in omega (arith, more, c.loop-byte.invariant.small, c.from.ensures, range.1);
    }
