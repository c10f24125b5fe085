-- A code is a text; a text is a code: as a test and as a fact.
use Rattle.std.proofs.Common.{◌≡◌, ◌∙◌, ℕ, ◌<◌, ◌≤◌, List, length, Bool, true, false, true≢false, Option, Some, None, ap, sym, arith, Ok, Err, inl, inr, refl}
use Rattle.std.specs.Prelude.{IsUtf8, Result, IsOk, All, ◌↔◌, IsSome, IfSome, nat_le}
use Rattle.std.specs.Bool.{Decides}
use Rattle.std.specs.List.{list_all}
use Rattle.std.specs.Result.{MatchResult}
use Rattle.std.proofs.lemmas.Bool.{leb-true, le-leb}
use Rattle.std.proofs.lemmas.Bool.Decides.{Decides-and, Decides-or, Decides-by_and}
use Rattle.std.proofs.lemmas.Str.{IsUtf8-from_ascii}
use Rattle.std.proofs.lemmas.Str.Ascii.{IsAscii-from_all}
use Rattle.std.proofs.lemmas.List.Elements.{All-weaker}
use Rattle.adm_types.specs.Code.{IsCodeByte, IsCode, is_code_byte, is_code, code_of}

below_128 : (b : ℕ) → IsCodeByte b → b < 128
below_128 b (inl h) = omega (arith, h.1)
below_128 b (inr h) = omega (arith, h.1)

pub IsUtf8-from_code : (text : List ℕ) → IsCode text → IsUtf8 text
IsUtf8-from_code text code = IsUtf8-from_ascii text (IsAscii-from_all text (All-weaker IsCodeByte (λ b. b < 128) below_128 text code.2))

at_most : (a b : ℕ) → Decides (nat_le a b) (a ≤ b)
at_most a b = (leb-true a b, le-leb a b)

byte_decided : (b : ℕ) → Decides (is_code_byte b) (IsCodeByte b)
byte_decided b =
    Decides-or _ _ (Decides-and _ _ (at_most 65 b) (at_most b 90)) (Decides-and _ _ (at_most 48 b) (at_most b 57))

bytes_decided : (text : List ℕ) → Decides (list_all is_code_byte text) (All IsCodeByte text)
bytes_decided = Decides-by_and is_code_byte IsCodeByte (list_all is_code_byte) byte_decided refl (λ _ _. refl)

-- the test of codes says what codes are
pub code_decided : (text : List ℕ) → Decides (is_code text) (IsCode text)
code_decided text =
    let both = Decides-and _ _ (Decides-and _ _ (at_most 1 (length text)) (at_most (length text) 8)) (bytes_decided text) in
    (λ e. let h = both.0 e in (h.0.0, h.0.1, h.1), λ h. both.1 ((h.0, h.1), h.2))

by_test : (text : List ℕ) (b : Bool) (result : Option (List ℕ)) → is_code text ≡ b → (IsSome result ↔ IsCode text) → IfSome result (λ code. code ≡ text) → result ≡ code_of text
unfolding code_of
by_test text true (Some code) test valid value = rw test (ap Some value)
by_test text false None test valid value = rw test refl
by_test text true None test valid value = absurd (true≢false (sym (valid.1 ((code_decided text).0 test))))
by_test text false (Some code) test valid value = absurd (true≢false (sym ((code_decided text).1 (valid.0 refl)) ∙ test))

-- what is the text, and is there just where the text is a code, is the code that the text is
pub code_from_facts : (text : List ℕ) (result : Option (List ℕ)) → (IsSome result ↔ IsCode text) → IfSome result (λ code. code ≡ text) → result ≡ code_of text
code_from_facts text result valid value = by_test text (is_code text) result refl valid value

-- a result that fails only where a fact does not hold
pub ok_where : {X E : Type 0} (U : Type 0) (P : X → Type 0) (Q : E → Type 0) (r : Result X E) → MatchResult r P (λ e. ¬ U × Q e) → U → IsOk r
ok_where U P Q (Ok x) h u = refl
ok_where U P Q (Err e) h u = absurd (h.0 u)
