use Rattle.std.proofs.Common.{◌≡◌, ℕ, List, length, take, min, ap, ◌∙◌, arith}
use Rattle.std.proofs.lemmas.Grind.{common_steps}
use Rattle.adm_http.proofs.heads.first_bytes.Goals as goal

take_min : (xs : List ℕ) (n : ℕ) → take (min (length xs) n) xs ≡ take n xs
take_min xs n = grind (arith, common_steps)

pub returns : goal.returns
returns c = ap (λ n. take n c.args.input.now) c.min.ensures ∙ take_min c.args.input.now 8192
