-- For whom lots are drawn, line by line. This profile's own form.
use Rattle.std.specs.Prelude.{ℕ, List, ◌++◌, codes, decimal, map, Option, Some, None, option_map}
use Rattle.std.specs.FinMap.{get}
use Rattle.adm_round.specs.declared.applicants.Pair.{Pair}
use Rattle.adm_register.specs.State.{State}
use Rattle.adm_commands.specs.Commands.Round.{round_pairs}
use Rattle.adm_commands.specs.Commands.Fill.{fill_pairs}
use Rattle.adm_letters.specs.Lines.{lines_text}

-- the code of a school, a blank, and the number of a child
unfoldable pub pair_line : List ℕ → ℕ → List ℕ
pair_line code child = code ++ (codes " " ++ decimal child)

-- the line of a pair
abbrev pub pair_text : Pair → List ℕ
pair_text pair = pair_line pair.school pair.child

-- for whom lots are drawn: for the next round, or for a fill at the school of a code, if there is such a school
abbrev pub pairs_drawn : State → Option (List ℕ) → Option (List Pair)
pairs_drawn s None = Some (round_pairs s)
pairs_drawn s (Some code) = option_map (λ _. fill_pairs s code) (get s.schools code)

-- a line for each pair, and nothing else
abbrev pub pairs_text : State → Option (List ℕ) → Option (List ℕ)
pairs_text s school = option_map (λ pairs. lines_text (map pair_text pairs)) (pairs_drawn s school)
