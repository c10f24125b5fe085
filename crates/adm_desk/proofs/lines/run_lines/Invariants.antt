use Rattle.std.proofs.Common.{◌≡◌, ℕ, List, [], false}
use Rattle.std.specs.Io.KnownBytes.{Consumes}
use Rattle.adm_desk.specs.Written.{Takes}
use Rattle.adm_desk.proofs.lines.run_lines.Given as goal

abbrev pub invariant-loop-turn : goal.invariant-loop-turn
invariant-loop-turn g l = (read : List ℕ) × Consumes (g.R.Input.remaining l.fn.input) (g.R.Input.remaining l.input) read
    × Takes g.H.LineHandler.runs (g.H.LineHandler.view l.fn.handler) (g.H.LineHandler.view l.handler) (g.W.Output.contents l.fn.output) (g.W.Output.contents l.output)
    (record { done = 0; refused = 0; failed = false }) l.run [] l.pending.items read
    × (g.W.Output.has_failed l.output ≡ g.W.Output.has_failed l.fn.output) × (g.R.Input.has_failed l.input ≡ g.R.Input.has_failed l.fn.input)
