-- The report of a round, line by line. This profile's own form.
use Rattle.std.specs.Prelude.{ℕ, List, [], ◌∷◌, ◌++◌, codes, decimal, map, count_by, is_none, Option, Some, None, option_map}
use Rattle.adm_types.specs.declared.draws.Draw.{Draw}
use Rattle.adm_types.specs.declared.draws.Outcome.{Outcome}
use Rattle.adm_round.specs.Outcomes.{is_kept}
use Rattle.adm_register.specs.State.{State}
use Rattle.adm_register.specs.Rows.{round_of}
use Rattle.adm_letters.specs.Lines.{right, lines_text}
use Rattle.adm_days.specs.Days.{day_text}

-- the numbers of the round and of its draw, and its day
unfoldable pub report_head : ℕ → ℕ → List ℕ → List ℕ
report_head round draw day = codes "Round " ++ (decimal round ++ (codes ", draw " ++ (decimal draw ++ (codes ", " ++ day))))

-- a child, and the school that it was allotted
unfoldable pub outcome_line : ℕ → List ℕ → List ℕ
outcome_line child school = right 9 (decimal child) ++ (codes " " ++ school)

-- the code, or a dash where the child was allotted none
abbrev pub school_or_dash : Option (List ℕ) → List ℕ
school_or_dash (Some code) = code
school_or_dash None = codes "-"

-- the line of an outcome: the child's number, and the code of its school or a dash
abbrev pub outcome_text : Outcome → List ℕ
outcome_text outcome = outcome_line outcome.child (school_or_dash outcome.school)

-- how many were offered a school that was not theirs before, how many keep theirs, and how many have none
unfoldable pub report_foot : ℕ → ℕ → ℕ → List ℕ
report_foot offers kept unplaced = codes "Offers " ++ (decimal offers ++ (codes ", kept " ++ (decimal kept ++ (codes ", unplaced " ++ decimal unplaced))))

-- the foot of a report, by the outcomes of its round
abbrev pub report_counts : List Outcome → List ℕ
report_counts outcomes = report_foot (count_by (λ outcome. outcome.fresh) outcomes) (count_by is_kept outcomes) (count_by (λ outcome. is_none outcome.school) outcomes)

-- the report of the round of a draw
unfoldable pub report_lines : Draw → List (List ℕ)
report_lines draw = report_head draw.round draw.number (day_text draw.day) ∷ (map outcome_text draw.outcomes ++ report_counts draw.outcomes ∷ [])

-- the report of the round of a number, if there was one
abbrev pub round_text : State → ℕ → Option (List ℕ)
round_text s number = option_map (λ draw. lines_text (report_lines draw)) (round_of s number)
