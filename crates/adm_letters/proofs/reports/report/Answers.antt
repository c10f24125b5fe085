use Rattle.std.proofs.Common.{◌≡◌, ℕ, List, [], ◌∷◌, ◌++◌, map}
use Rattle.adm_types.specs.declared.draws.Draw.{Draw}
use Rattle.adm_letters.specs.Lines.{lines_text}
use Rattle.adm_days.specs.Days.{day_text}
use Rattle.adm_letters.specs.Reports.{report_head, outcome_text, report_counts, report_lines}
use Rattle.adm_letters.proofs.Joined.{after_lines}
use Rattle.adm_letters.proofs.reports.report.Goals as goal

whole : (start head outcomes all : List ℕ) (draw : Draw) → start ≡ [] → head ≡ start ++ lines_text (report_head draw.round draw.number (day_text draw.day) ∷ [])
    → outcomes ≡ head ++ lines_text (map outcome_text draw.outcomes) → all ≡ outcomes ++ lines_text (report_counts draw.outcomes ∷ []) → all ≡ lines_text (report_lines draw)
unfolding report_lines
whole start head outcomes all draw none first middle last =
    let line = report_head draw.round draw.number (day_text draw.day) in
    after_lines outcomes all (line ∷ map outcome_text draw.outcomes) (report_counts draw.outcomes ∷ [])
    (after_lines head outcomes (line ∷ []) (map outcome_text draw.outcomes) (after_lines start head [] (line ∷ []) none first) middle) last

pub returns : goal.returns
returns c =
    whole _ _ _ _ c.args.draw.now c.new-text.ensures.bytes c.in_ok-put_head.ensures
    (rw c.as_slice-outcomes.ensures at c.in_ok-put_outcomes.ensures) (rw c.as_slice-outcomes.ensures at c.in_ok-put_foot.ensures)
