use Rattle.std.proofs.Common.{◌≡◌, ℕ, List, Bool, true, false, cond, Some, None, option_map, Result, Ok, Err, MatchResult, Bor, IsUtf8, refl, ap}
use Rattle.std.specs.Result.{result_ok}
use Rattle.std.specs.Str.{is_utf8}
use Rattle.std.proofs.lemmas.Str.{IsUtf8-from_is_utf8, is_utf8-from_IsUtf8}
use Rattle.adm_csv.proofs.cell.text_at.Goals as goal

no_text : (bytes : List ℕ) → (IsUtf8 bytes → ⊥) → is_utf8 bytes ≡ false
no_text bytes none = differs (is_utf8 bytes) refl
  where
    differs : (b : Bool) → is_utf8 bytes ≡ b → b ≡ false
    differs true e = absurd (none (IsUtf8-from_is_utf8 bytes e))
    differs false e = refl

utf8_text : {E : Type 0} (r : Result (Bor (List ℕ)) E) (bytes : List ℕ) (Q : E → Type 0) → MatchResult r (λ s. (s.now ≡ bytes) × IsUtf8 bytes) (λ e. (IsUtf8 bytes → ⊥) × Q e)
    → option_map (λ s. s.now) (result_ok r) ≡ cond (is_utf8 bytes) (Some bytes) None
utf8_text (Ok s) bytes Q h = rw (is_utf8-from_IsUtf8 bytes h.1) (ap Some h.0)
utf8_text (Err e) bytes Q h = rw (no_text bytes h.0) refl

pub returns : goal.returns
returns c = rw (c.ok.ensures.value, ← c.in_ok-bytes.ensures.value) (utf8_text c.from_utf8.result c.in_ok-bytes.bytes.now _ c.from_utf8.ensures.cases)
