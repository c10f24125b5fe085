-- Texts are read back as what they were written from: numbers, codes, and lists of such texts.
use Rattle.adm_lists.proofs.Numerals.{digits}
use Rattle.adm_types.specs.Code.{IsCode, IsCodeByte, is_code, is_code_byte, code_of}
use Rattle.adm_types.specs.Fields.{has_plain_digits, plain_of}
use Rattle.adm_types.specs.Joined.{joined, all_some, pieces, items_of}
use Rattle.adm_types.specs.Limits.{is_from}
use Rattle.std.proofs.Common.{◌≡◌, ℕ, ◌<◌, ◌^◌, true, List, [], ◌∷◌, Some, nat_lt, refl, ap, arith, ◌∙◌, map, ◌≤◌, false, length, All, inl, inr, nat_le, zero, suc, Option, nat_eq}
use Rattle.std.proofs.lemmas.Bool.Decides.{nat_tests}
use Rattle.std.proofs.lemmas.Bool.{and_parts, and_from}
use Rattle.std.proofs.lemmas.Fmt.{decimal_digit, decimal_nonempty, first_decimal, length-decimal-le, digits_decimal, digits_value-decimal}
use Rattle.std.proofs.lemmas.List.Elements.{All-nil, All-cons}
use Rattle.std.proofs.lemmas.List.Splits.{slice_split_at, slice_split_none}
use Rattle.std.proofs.lemmas.Str.Ascii.{IsAscii-nil, IsAscii-cons}
use Rattle.std.proofs.lemmas.Str.{IsUtf8-from_ascii, IsAscii-append}
use Rattle.std.specs.Char.{is_ascii_digit}
use Rattle.std.specs.Fmt.{decimal}
use Rattle.std.specs.List.{AllByRecursion, list_all}
use Rattle.std.specs.Option.{option_map, option_and_then}
use Rattle.std.specs.Prelude.{◌==◌, not, codes, ◌||◌, slice_index}
use Rattle.std.specs.Str.Parse.{digits_value}
use Rattle.std.specs.Str.{IsAscii, IsUtf8}

-- ---- numbers

pub small_enough : (n : ℕ) → n < 2 ^ 32 → n < 2 ^ 64
small_enough n h = omega arith

no_leading_zero : (n : ℕ) → n < 2 ^ 64 → (nat_eq (length (decimal n)) 1 || not (slice_index (decimal n) 0 == 48)) ≡ true
no_leading_zero zero h = rw (decimal_digit 0 (omega arith)) refl
no_leading_zero (suc n) h = grind (arith, nat_tests, first_decimal (suc n) (omega arith) h)

length_fits : (n : ℕ) → n < 2 ^ 32 → is_from 1 10 (length (decimal n)) ≡ true
length_fits n h = grind (arith, nat_tests, length-decimal-le 10 n (omega arith) (omega arith) (small_enough n h), decimal_nonempty n (small_enough n h))

plain_digits : (n : ℕ) → n < 2 ^ 32 → has_plain_digits (decimal n) ≡ true
plain_digits n h =
    and_from _ _ (and_from _ _ (length_fits n h) (digits_decimal digits n (small_enough n h))) (no_leading_zero n (small_enough n h))

-- the text of a number is read as that number
pub plain_decimal : (n : ℕ) → n < 2 ^ 32 → plain_of (decimal n) ≡ Some n
plain_decimal n h =
    let value : digits_value 10 (decimal n) ≡ n = digits_value-decimal digits n (small_enough n h) in
    let below : nat_lt n (2 ^ 32) ≡ true = grind (arith, nat_tests) in
    rw (plain_digits n h, value, below) refl

-- ---- pieces

-- no `;` in it
abbrev pub IsPiece : List ℕ → Type 0
IsPiece text = All (λ b. (b == 59) ≡ false) text

-- the pieces of joined pieces are those pieces
pub pieces_joined : (x : List ℕ) (xs : List (List ℕ)) → IsPiece x → AllByRecursion IsPiece xs → pieces (joined (x ∷ xs)) ≡ x ∷ xs
pieces_joined x [] one all = slice_split_none (λ b. b == 59) x one
pieces_joined x (y ∷ ys) one all = slice_split_at (λ b. b == 59) x 59 (joined (y ∷ ys)) one refl ∙ ap (λ ps. x ∷ ps) (pieces_joined y ys all.0 all.1)

pub no_text : IsPiece []
no_text k d low = absurd (omega arith)

pub piece_cons : (b : ℕ) (text : List ℕ) → not (b == 59) ≡ true → IsPiece text → IsPiece (b ∷ text)
piece_cons b text h piece zero d low = grind (arith, nat_tests)
piece_cons b text h piece (suc k) d low = piece k d (omega arith)

-- ---- lists of items
items_nonempty : {X : Type 0} (item_of : List ℕ → Option X) (text : List ℕ) → 0 < length text → items_of item_of text ≡ all_some (map item_of (pieces text))
items_nonempty item_of [] some = absurd (omega arith)
items_nonempty item_of (b ∷ text) some = refl

length_joined : (x : List ℕ) (xs : List (List ℕ)) → 0 < length x → 0 < length (joined (x ∷ xs))
length_joined x [] some = some
length_joined [] (y ∷ ys) some = absurd (omega arith)
length_joined (b ∷ x) (y ∷ ys) some = omega arith

-- the item's text is a piece, is not empty, is ASCII, and is read back
pub record Reads {X : Type 0} (item_of : List ℕ → Option X) (write : X → List ℕ) (x : X) : Type 0 where
  pub again : item_of (write x) ≡ Some x
  pub piece : IsPiece (write x)
  pub some : 0 < length (write x)
  pub ascii : IsAscii (write x)

each_piece : {X : Type 0} (item_of : List ℕ → Option X) (write : X → List ℕ) (xs : List X) → AllByRecursion (Reads item_of write) xs → AllByRecursion IsPiece (map write xs)
each_piece item_of write [] all = tt
each_piece item_of write (x ∷ xs) all = (all.0.piece, each_piece item_of write xs all.1)

each_again : {X : Type 0} (item_of : List ℕ → Option X) (write : X → List ℕ) (xs : List X) → AllByRecursion (Reads item_of write) xs → all_some (map item_of (map write xs)) ≡ Some xs
each_again item_of write [] all = refl
each_again item_of write (x ∷ xs) all = (λ k. option_and_then (λ y. option_map (λ ys. y ∷ ys) (each_again item_of write xs all.1 k)) (all.0.again k))

-- the items of their text
pub items_again : {X : Type 0} (item_of : List ℕ → Option X) (write : X → List ℕ) (xs : List X) → AllByRecursion (Reads item_of write) xs → items_of item_of (joined (map write xs)) ≡ Some xs
items_again item_of write [] all = refl
items_again item_of write (x ∷ xs) all =
    items_nonempty item_of (joined (map write (x ∷ xs))) (length_joined (write x) (map write xs) all.0.some)
    ∙ ap (λ ps. all_some (map item_of ps)) (pieces_joined (write x) (map write xs) all.0.piece (each_piece item_of write xs all.1))
    ∙ each_again item_of write (x ∷ xs) all

pub ascii_joined : {X : Type 0} (item_of : List ℕ → Option X) (write : X → List ℕ) (xs : List X) → AllByRecursion (Reads item_of write) xs → IsAscii (joined (map write xs))
ascii_joined item_of write [] all = IsAscii-nil
ascii_joined item_of write (x ∷ []) all = all.0.ascii
ascii_joined item_of write (x ∷ y ∷ ys) all = IsAscii-append (write x) (59 ∷ joined (map write (y ∷ ys))) all.0.ascii
    (IsAscii-cons 59 (joined (map write (y ∷ ys))) (omega arith) (ascii_joined item_of write (y ∷ ys) all.1))

digit_no_mark : (b : ℕ) → is_ascii_digit b ≡ true → (b == 59) ≡ false
digit_no_mark b h = grind (arith, nat_tests)

digits_piece : (text : List ℕ) → list_all is_ascii_digit text ≡ true → IsPiece text
digits_piece [] h k d low = absurd (omega arith)
digits_piece (b ∷ text) h zero d low = digit_no_mark b (and_parts _ _ h).0
digits_piece (b ∷ text) h (suc k) d low = digits_piece text (and_parts _ _ h).1 k d (omega arith)

pub decimal_piece : (n : ℕ) → n < 2 ^ 32 → IsPiece (decimal n)
decimal_piece n h = digits_piece (decimal n) (digits_decimal digits n (small_enough n h))

-- ---- one code

code_byte_low : (b : ℕ) → is_code_byte b ≡ true → b < 128
code_byte_low b h = grind (arith, nat_tests)

is_code_ascii : (text : List ℕ) → list_all is_code_byte text ≡ true → IsAscii text
is_code_ascii [] h = IsAscii-nil
is_code_ascii (b ∷ text) h =
    let it = and_parts (is_code_byte b) (list_all is_code_byte text) h in
    IsAscii-cons b text (code_byte_low b it.0) (is_code_ascii text it.1)

pub code_utf8 : (code : List ℕ) → is_code code ≡ true → IsUtf8 code
code_utf8 code h = IsUtf8-from_ascii code (is_code_ascii code (and_parts (is_from 1 8 (length code)) (list_all is_code_byte code) h).1)

-- the test of codes, and what it says
code_byte : (b : ℕ) → is_code_byte b ≡ true → IsCodeByte b
code_byte b h = elim (nat_le b 57) as (λ t. nat_le b 57 ≡ t → IsCodeByte b) [
  | true ↦ λ t. inr (grind (arith, nat_tests), grind (arith, nat_tests))
  | false ↦ λ f. inl (grind (arith, nat_tests), grind (arith, nat_tests))
] refl

all_code_bytes : (text : List ℕ) → list_all is_code_byte text ≡ true → All IsCodeByte text
all_code_bytes [] h = All-nil IsCodeByte
all_code_bytes (b ∷ text) h =
    let it = and_parts (is_code_byte b) (list_all is_code_byte text) h in
    All-cons IsCodeByte b text (code_byte b it.0) (all_code_bytes text it.1)

at_least : (low high n : ℕ) → is_from low high n ≡ true → low ≤ n
at_least low high n h = grind (arith, nat_tests)

at_most : (low high n : ℕ) → is_from low high n ≡ true → n ≤ high
at_most low high n h = grind (arith, nat_tests)

pub is_code_of : (text : List ℕ) → is_code text ≡ true → IsCode text
is_code_of text h =
    let it = and_parts (is_from 1 8 (length text)) (list_all is_code_byte text) h in
    (at_least 1 8 (length text) it.0, at_most 1 8 (length text) it.0, all_code_bytes text it.1)

no_mark : (b : ℕ) → is_code_byte b ≡ true → not (b == 59) ≡ true
no_mark b h = grind (arith, nat_tests)

code_piece : (text : List ℕ) → list_all is_code_byte text ≡ true → IsPiece text
code_piece [] h = no_text
code_piece (b ∷ text) h =
    let it = and_parts (is_code_byte b) (list_all is_code_byte text) h in
    piece_cons b text (no_mark b it.0) (code_piece text it.1)

one_code : (code : List ℕ) → is_code code ≡ true → code_of code ≡ Some code
unfolding code_of
one_code code h = rw h refl

pub code_reads : (code : List ℕ) → is_code code ≡ true → Reads code_of (λ c. c) code
code_reads code h =
    let it = and_parts (is_from 1 8 (length code)) (list_all is_code_byte code) h in
    record {
      again = one_code code h;
      piece = code_piece code it.1;
      some = at_least 1 8 (length code) it.0;
      ascii = is_code_ascii code it.1;
    }
