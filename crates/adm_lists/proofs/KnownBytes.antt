-- Known bytes of a writer, step after step.
use Rattle.std.proofs.Common.{ℕ, List, ◌++◌, Option, Some, None, ap, ◌∙◌, append_assoc}
use Rattle.std.specs.Io.KnownBytes.{Appends}

-- what is appended after other bytes was appended with them
pub Appends-then : (a b c : Option (List ℕ)) (xs ys : List ℕ) → Appends a b xs → Appends b c ys → Appends a c (xs ++ ys)
Appends-then None b c xs ys p q = tt
Appends-then (Some start) None c xs ys p q = absurd p
Appends-then (Some start) (Some bs) None xs ys p q = absurd q
Appends-then (Some start) (Some bs) (Some cs) xs ys p q = q ∙ (ap (λ zs. zs ++ ys) p ∙ append_assoc start xs ys)
