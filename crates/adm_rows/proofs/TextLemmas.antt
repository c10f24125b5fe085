-- The texts of days are read back as what they were written from.
use Rattle.std.proofs.Common.{◌≡◌, ℕ, suc, ◌<◌, ◌^◌, true, List, [], ◌∷◌, All, Some, refl, arith}
use Rattle.std.specs.List.{AllByRecursion}
use Rattle.std.specs.Fmt.{decimal}
use Rattle.std.specs.Str.{IsUtf8}
use Rattle.std.proofs.lemmas.Bool.Decides.{nat_tests}
use Rattle.std.proofs.lemmas.Fmt.{IsAscii-decimal, decimal_nonempty}
use Rattle.std.proofs.lemmas.Str.{IsUtf8-from_ascii}
use Rattle.adm_types.specs.Limits.{is_from}
use Rattle.adm_types.specs.Seasons.{IsDay}
use Rattle.adm_types.proofs.ReadBack.{plain_decimal, decimal_piece, small_enough, Reads, items_again, ascii_joined}
use Rattle.adm_rows.specs.Forms.{days_text, day_of, days_of}

-- the text of a day is read as that day
pub day_decimal : (n : ℕ) → IsDay n → day_of (decimal n) ≡ Some n
day_decimal n h =
    let inside : is_from 7305 51498 n ≡ true = grind (arith, nat_tests, h.0, h.1) in
    rw (plain_decimal n (omega (arith, h.1)), inside) refl

-- ---- days

day_reads : (n : ℕ) → IsDay n → Reads day_of decimal n
day_reads n h =
    let fits : n < 2 ^ 32 = omega (arith, h.1) in
    record {
      again = day_decimal n h;
      piece = decimal_piece n fits;
      some = decimal_nonempty n (small_enough n fits);
      ascii = IsAscii-decimal n (small_enough n fits);
    }

each_day : (days : List ℕ) → All IsDay days → AllByRecursion (Reads day_of decimal) days
each_day [] all = tt
each_day (day ∷ days) all = (day_reads day (all 0 day (omega arith)), each_day days (λ k d low. all (suc k) d (omega arith)))

-- the text of days is read as those days
pub days_again : (days : List ℕ) → All IsDay days → days_of (days_text days) ≡ Some days
days_again days all = items_again day_of decimal days (each_day days all)

pub days_utf8 : (days : List ℕ) → All IsDay days → IsUtf8 (days_text days)
days_utf8 days all = IsUtf8-from_ascii (days_text days) (ascii_joined day_of decimal days (each_day days all))
