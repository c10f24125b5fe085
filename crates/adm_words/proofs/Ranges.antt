-- A text that clap takes as a number of a range names a number of that range.
use Rattle.std.proofs.Common.{◌≡◌, ◌∙◌, ◌≤◌, ◌<◌, ◌^◌, ℕ, Bool, true, false, true≢false, cond, zero, suc, refl, sym, ap, arith, Some, leb-true}
use Rattle.std.specs.Prelude.{◌&&◌, drop, int_le, neg_ℤ, nat_le, pos, option_and_then}
use Rattle.std.specs.Str.Parse.{IsNumeral, digits_value, signed_digits_value, starts_with_minus, without_leading_plus, without_leading_sign}
use Rattle.clap.specs.Walk.{Text}
use Rattle.clap.specs.ValueTests.{accepts, fits_i64, is_numeral}
use Rattle.clap.specs.declared.builder.value_parser.ValueParser.TheVariants as parser
use Rattle.clap.proofs.ValueTestLemmas.{accepts-Accepts}
use Rattle.adm_words.specs.Lines.{number_in, number_from, within}
use Rattle.adm_words.proofs.Numbers.{decided}

-- a number that is no less than 1 is none with a minus
not_minus : (least d : ℕ) → 1 ≤ least → int_le (pos least) (neg_ℤ (pos d)) ≡ true → ⊥
not_minus least zero some e =
    let none : least ≤ 0 = leb-true least 0 e in
    absurd (omega arith)
not_minus least (suc n) some e = true≢false (sym e)

read : (least most : ℕ) (v : Text) (d : ℕ) → number_in v ≡ Some d → nat_le least d ≡ true → nat_le d most ≡ true → (n : ℕ) × (number_from least most v ≡ Some n)
read least most v d is above below = (d, ap (option_and_then (within least most)) is ∙ rw (above, below) refl)

pub number_named : (least most : ℕ) → 1 ≤ least → most < 2 ^ 32 → (v : Text) → accepts false (parser.Signed (pos least) (pos most)) v ≡ true
    → (n : ℕ) × (number_from least most v ≡ Some n)
number_named least most some small v e =
    let z = signed_digits_value 10 v in
    let both = bounds (is_numeral (without_leading_sign v)) (fits_i64 z) (int_le (pos least) z) (int_le z (pos most)) e in
    go (starts_with_minus v) (accepts-Accepts false (parser.Signed (pos least) (pos most)) v e).0 both.0 both.1
  where
    bounds : (a b c d : Bool) → (a && (b && (c && d))) ≡ true → (c ≡ true) × (d ≡ true)
    bounds true true true d h = (refl, h)
    bounds true true false d h = absurd (true≢false (sym h))
    bounds true false c d h = absurd (true≢false (sym h))
    bounds false b c d h = absurd (true≢false (sym h))

    go : (m : Bool) → IsNumeral 10 (cond m (drop 1 v) (without_leading_plus v))
        → int_le (pos least) (cond m (neg_ℤ (pos (digits_value 10 (cond m (drop 1 v) (without_leading_plus v))))) (pos (digits_value 10 (cond m (drop 1 v) (without_leading_plus v))))) ≡ true
        → int_le (cond m (neg_ℤ (pos (digits_value 10 (cond m (drop 1 v) (without_leading_plus v))))) (pos (digits_value 10 (cond m (drop 1 v) (without_leading_plus v))))) (pos most) ≡ true
        → (n : ℕ) × (number_from least most v ≡ Some n)
    go true numeral above below = absurd (not_minus least _ some above)
    go false numeral above below =
        let d : ℕ = digits_value 10 (without_leading_plus v) in
        let at_most : d ≤ most = leb-true _ _ below in
        let fits : d < 2 ^ 32 = omega (arith, at_most, small) in
        read least most v d (rw ((decided (without_leading_plus v)).1 (numeral, fits)) refl) above below
