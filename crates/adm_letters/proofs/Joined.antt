-- Texts that grow by lines, one call after another.
use Rattle.std.proofs.Common.{◌≡◌, ◌∙◌, ap, sym, refl, ℕ, ◌+◌, ◌<◌, List, [], ◌∷◌, ◌++◌, append_assoc, take, get_or, length, map}
use Rattle.std.proofs.lemmas.List.{take_more, map_push}
use Rattle.adm_letters.specs.Lines.{lines_text}

joined : (lines more : List (List ℕ)) → lines_text (lines ++ more) ≡ lines_text lines ++ lines_text more
joined [] more = refl
joined (line ∷ lines) more = rw (joined lines more) (simp append_assoc)

pub after_lines : (text new : List ℕ) (lines more : List (List ℕ)) → text ≡ lines_text lines → new ≡ text ++ lines_text more → new ≡ lines_text (lines ++ more)
after_lines text new lines more before is = is ∙ ap (λ t. t ++ lines_text more) before ∙ sym (joined lines more)

-- lines that are added to a text which had lines added
pub then_lines : (old text new : List ℕ) (lines more : List (List ℕ)) → text ≡ old ++ lines_text lines → new ≡ text ++ lines_text more → new ≡ old ++ lines_text (lines ++ more)
then_lines old text new lines more first second = second ∙ rw (first, joined lines more) (simp append_assoc)

-- the line of the next of some rows is added to those of the rows before it
pub next_line : {X : Type 0} (line : X → List ℕ) (rows : List X) (i : ℕ) (row : X) (old text new : List ℕ) → i < length rows → row ≡ get_or rows i row
    → text ≡ old ++ lines_text (map line (take i rows)) → new ≡ text ++ lines_text (line row ∷ []) → new ≡ old ++ lines_text (map line (take (i + 1) rows))
next_line line rows i row old text new within is before added =
    let more : map line (take (i + 1) rows) ≡ map line (take i rows) ++ line row ∷ [] =
    ap (map line) (take_more rows i row within) ∙ map_push line (take i rows) (get_or rows i row) ∙ ap (λ x. map line (take i rows) ++ line x ∷ []) (sym is) in
    then_lines old text new (map line (take i rows)) (line row ∷ []) before added ∙ ap (λ lines. old ++ lines_text lines) (sym more)
