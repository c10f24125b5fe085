-- Numbers in columns.
use Rattle.std.proofs.Common.{◌≡◌, ℕ, zero, suc, ◌^◌, ◌-◌, ◌∷◌, ap, refl, arith, false, [], length, append-nil}
use Rattle.std.specs.Prelude.{decimal, replicate, ◌==◌}
use Rattle.std.specs.List.{repeat}
use Rattle.std.specs.Fmt.{padded_integral, format_spec, char_count, styled_decimal}
use Rattle.adm_letters.specs.Lines.{right}

blanks : (n : ℕ) → repeat {A = ℕ} n (32 ∷ []) ≡ replicate n 32
blanks zero = refl
blanks (suc n) = ap (λ rest. 32 ∷ rest) (blanks n)

-- a number with a width that goes to the right is its digits with blanks before them
padded : (width n : ℕ) → padded_integral (format_spec 32 3 0 width (2 ^ 64 - 1)) false [] (decimal n) ≡ right width (decimal n)
unfolding padded_integral char_count lib.Utf8.encode
padded width n =
    let digits = decimal n in
    let short : width - length digits - 0 - 0 ≡ width - length digits = omega arith in
    let none : (width - length digits) - (width - length digits) ≡ 0 = omega arith in
    rw (short, none, blanks (width - length digits)) (simp append-nil)

-- what is written of the number
pub in_column : (width n : ℕ) → (width == 0) ≡ false → styled_decimal (format_spec 32 3 0 width (2 ^ 64 - 1)) n ≡ right width (decimal n)
in_column width n wide = rw wide (padded width n)
