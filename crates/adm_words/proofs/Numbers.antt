-- What `parse` reads as a number.
use Rattle.std.proofs.Common.{◌≡◌, ℕ, ◌<◌, ◌^◌, Bool, true, false, cond, refl, List, length, Some, None, Ok, Err}
use Rattle.std.specs.Prelude.{Result, nat_lt, ◌&&◌}
use Rattle.std.specs.Bool.{Decides}
use Rattle.std.specs.Char.{is_ascii_digit}
use Rattle.std.specs.List.{list_all}
use Rattle.std.specs.Result.{OkIff, result_ok}
use Rattle.std.specs.Str.Parse.{ParsesUnsigned, IsNumeral, digits_value, without_leading_plus}
use Rattle.std.proofs.lemmas.Bool.Decides.{Decides-ltb, Decides-and}
use Rattle.adm_lists.proofs.Numerals.{digits}
use Rattle.adm_words.specs.Lines.{number_in}

pub decided : (ds : List ℕ) → Decides (nat_lt 0 (length ds) && (list_all is_ascii_digit ds && nat_lt (digits_value 10 ds) (2 ^ 32))) (IsNumeral 10 ds × (digits_value 10 ds < 2 ^ 32))
decided ds =
    let both = Decides-and _ _ (Decides-ltb 0 (length ds)) (Decides-and _ _ (digits.to ds, digits.from ds) (Decides-ltb (digits_value 10 ds) (2 ^ 32))) in
    (λ e. let h = both.0 e in ((h.0, h.1.0), h.1.1), λ h. both.1 (h.0.0, (h.0.1, h.1)))

read_where : {E : Type 0} (P : Type 0) (v : ℕ) (b : Bool) (r : Result ℕ E) → Decides b P → OkIff r P v → result_ok r ≡ cond b (Some v) None
read_where P v b (Ok x) d h = rw (d.1 h.0, h.1) refl
read_where P v true (Err e) d h = absurd (h (d.0 refl))
read_where P v false (Err e) d h = refl

pub number_read : {E : Type 0} (text : List ℕ) (r : Result ℕ E) → ParsesUnsigned 32 10 text r → result_ok r ≡ number_in text
number_read text r parsed = read_where _ _ _ r (decided (without_leading_plus text)) parsed
