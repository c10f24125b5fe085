use Rattle.std.proofs.Common.{◌≡◌, ℕ, List, [], ◌∷◌, ◌++◌}
use Rattle.adm_types.specs.declared.rows.Child.{Child}
use Rattle.adm_register.specs.State.{State}
use Rattle.adm_register.specs.Rows.{place_of}
use Rattle.adm_register.specs.Waits.{standings_of}
use Rattle.adm_letters.specs.Lines.{lines_text}
use Rattle.adm_letters.specs.LetterLines.{head_line, child_line, phase_text}
use Rattle.adm_letters.specs.Letters.{lines_of_place, lines_of_waits, letter_lines}
use Rattle.adm_letters.proofs.Joined.{after_lines}
use Rattle.adm_letters.proofs.letters.letter_to.Goals as goal

whole : (start head name place all : List ℕ) (s : State) (child : Child) → start ≡ [] → head ≡ start ++ lines_text (head_line s.season.year (phase_text s.season.phase) ∷ [])
    → name ≡ head ++ lines_text (child_line child.no child.name ∷ []) → place ≡ name ++ lines_text (lines_of_place s (place_of s child.no))
    → all ≡ place ++ lines_text (lines_of_waits s (standings_of s child.no)) → all ≡ lines_text (letter_lines s child)
unfolding letter_lines
whole start head name place all s child none first second third last =
    let one = head_line s.season.year (phase_text s.season.phase) in
    let two = child_line child.no child.name in
    after_lines place all (one ∷ two ∷ lines_of_place s (place_of s child.no)) (lines_of_waits s (standings_of s child.no))
    (after_lines name place (one ∷ two ∷ []) (lines_of_place s (place_of s child.no))
    (after_lines head name (one ∷ []) (two ∷ []) (after_lines start head [] (one ∷ []) none first) second) third) last

pub returns : goal.returns
returns c =
    let s = c.args.register.now in
    whole _ _ _ _ _ s c.args.child.now c.new-text.ensures.bytes (rw c.season.ensures.value at c.in_ok-put_head.ensures) c.in_ok-put_child.ensures c.in_ok-put_place_of.ensures
    (rw (c.deref.ensures.value, c.in_ok-waits.ensures) at c.in_ok-put_waits.ensures)
