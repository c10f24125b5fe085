use Rattle.std.proofs.Common.{map, take}
use Rattle.adm_letters.specs.Lines.{AddsLines}
use Rattle.adm_letters.specs.Reports.{outcome_text}
use Rattle.adm_letters.proofs.reports.put_outcomes.Given as goal

abbrev pub invariant-loop-outcome : goal.invariant-loop-outcome
invariant-loop-outcome l = AddsLines l.initial.text (map outcome_text (take l.outcome-index l.outcomes)) l.text
