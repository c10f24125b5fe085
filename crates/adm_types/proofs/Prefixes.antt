-- What follows a prefix of a text, as a value.
use Rattle.std.proofs.Common.{◌≡◌, ◌∙◌, ℕ, ap, sym, subst, refl, true, false, List, length, drop, Some, None}
use Rattle.std.specs.Prelude.{nat_eq, Option}
use Rattle.std.specs.List.{starts_with}
use Rattle.std.specs.Str.{IsCharBoundary}
use Rattle.std.specs.Str.Pattern.{FindsTextPrefix}
use Rattle.std.proofs.lemmas.Str.Pattern.{starts_text}
use Rattle.adm_types.specs.Criteria.{read_after}

-- a text that begins with the prefix is read from its end on
pub read_behind : {X : Type 0} (read : List ℕ → Option X) (prefix text rest : List ℕ) (n : ℕ) → FindsTextPrefix prefix text (Some n) → rest ≡ drop n text → read rest ≡ read_after read prefix text
read_behind read prefix text rest n finds is =
    let begins : true ≡ starts_with nat_eq text prefix = starts_text true prefix text (n, finds, subst (λ (k : ℕ). IsCharBoundary text k) (sym finds.0) finds.2) in
    let from : rest ≡ drop (length prefix) text = is ∙ ap (λ k. drop k text) finds.0 in
    rw (sym begins) (ap read from)

-- and nothing follows in any other
pub nothing_behind : {X : Type 0} (read : List ℕ → Option X) (prefix text : List ℕ) → FindsTextPrefix prefix text None → None ≡ read_after read prefix text
nothing_behind read prefix text lacks =
    let differs : false ≡ starts_with nat_eq text prefix = starts_text false prefix text lacks in
    rw (sym differs) refl
