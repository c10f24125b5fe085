-- What `parse` reads of a text with the digits of a plain number.
use Rattle.std.proofs.Common.{◌≡◌, ℕ, ◌<◌, ◌^◌, refl, true, false, cond, List, length, Some, None, Ok, Err, arith}
use Rattle.std.specs.Prelude.{Result, nat_lt, ◌&&◌}
use Rattle.std.specs.List.{list_all}
use Rattle.std.specs.Result.{OkIff, result_ok}
use Rattle.std.specs.Char.{is_ascii_digit}
use Rattle.std.specs.Str.Parse.{ParsesUnsigned, digits_value}
use Rattle.std.specs.Cmp.{first_so, second_so}
use Rattle.std.proofs.lemmas.Bool.Decides.{nat_tests}
use Rattle.std.proofs.lemmas.Str.Parse.{parse_digits}
use Rattle.adm_lists.proofs.Numerals.{digits}
use Rattle.adm_types.specs.Limits.{is_from}
use Rattle.adm_types.specs.Fields.{has_plain_digits, plain_of}

number_read : {E : Type 0} (v : ℕ) (some : Type 0) (r : Result ℕ E) → OkIff r (some × (v < 2 ^ 32)) v → some → result_ok r ≡ cond (nat_lt v (2 ^ 32)) (Some v) None
number_read v some (Ok x) h one = rw h.1 (let small : nat_lt v (2 ^ 32) ≡ true = grind (arith, nat_tests, h.0.1) in rw small refl)
number_read v some (Err e) h one = let large : nat_lt v (2 ^ 32) ≡ false = elim (nat_lt v (2 ^ 32)) as (λ b. nat_lt v (2 ^ 32) ≡ b
    → b ≡ false) [ true ↦ λ t. absurd (h (one, grind (arith, nat_tests, t))) | false ↦ λ _. refl ] refl in rw large refl

nonempty : (n : ℕ) → is_from 1 10 n ≡ true → 0 < n
nonempty n e = grind (arith, nat_tests)

-- with the digits of a plain number, the text is read as the number that it writes
pub plain_read : {E : Type 0} (text : List ℕ) (r : Result ℕ E) → ParsesUnsigned 32 10 text r → has_plain_digits text ≡ true → result_ok r ≡ plain_of text
plain_read text r parsed plain =
    let front = first_so (is_from 1 10 (length text) && list_all is_ascii_digit text) _ plain in
    let some : 0 < length text = nonempty (length text) (first_so (is_from 1 10 (length text)) (list_all is_ascii_digit text) front) in
    let all : list_all is_ascii_digit text ≡ true = second_so (is_from 1 10 (length text)) _ front in
    let read = number_read (digits_value 10 text) (0 < length text) r (parse_digits digits 32 text r parsed all) some in
    rw plain read
