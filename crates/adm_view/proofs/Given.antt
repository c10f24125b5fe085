-- What is written of a value is the text of its data, and reads back, where the data are plain.
use Rattle.std.proofs.Common.{◌≡◌, ◌∙◌, ap, ℕ, ◌≤◌, false, Some, arith}
use Rattle.std.specs.Prelude.{IfOk, Result, String, string_bytes}
use Rattle.std.proofs.lemmas.Result.{IfOk-weaker}
use Rattle.std.specs.declared.alloc.Global.{Global}
use Rattle.serde_json.specs.Data.{Data, depth}
use Rattle.serde_json.specs.Read.{read, max_depth}
use Rattle.serde_json.specs.Written.{has_float, compact_text}
use Rattle.adm_view.proofs.Plain.{IsPlain}

module _ {E : Type 0} (written : Result (String Global) E) (shown wanted : Data) (n : ℕ) (is : shown ≡ wanted) (plain : IsPlain n wanted) where
  pub text_given : IfOk written (λ s. has_float shown ≡ false → string_bytes s ≡ compact_text shown) → IfOk written (λ s. string_bytes s ≡ compact_text wanted)
  text_given h = IfOk-weaker written _ _ (λ s k. k (ap has_float is ∙ plain.no_float) ∙ ap compact_text is) h

  pub reads_back : n ≤ max_depth → IfOk written (λ s. depth shown ≤ max_depth → read (string_bytes s) ≡ Some shown) → IfOk written (λ s. read (string_bytes s) ≡ Some wanted)
  reads_back low h = IfOk-weaker written _ _ (λ s k. k (omega (arith, ap depth is, plain.shallow)) ∙ ap Some is) h
