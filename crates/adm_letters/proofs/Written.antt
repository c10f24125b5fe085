-- What a call that wrote says of the text, as a clause says it.
use Rattle.std.proofs.Common.{◌≡◌, ◌∙◌, List, ℕ, Ok, Err}
use Rattle.std.specs.Prelude.{Result, IfOk, OnOk}

pub written : {A E : Type 0} (new bytes line : List ℕ) (result : Result A E) → OnOk result (new ≡ bytes) → bytes ≡ line → IfOk result (λ _. new ≡ line)
written new bytes line (Ok x) wrote same = wrote ∙ same
written new bytes line (Err e) wrote same = tt
