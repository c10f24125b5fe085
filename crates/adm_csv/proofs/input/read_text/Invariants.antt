use Rattle.std.proofs.Common.{◌≡◌, length}
use Rattle.std.specs.Io.KnownBytes.{Consumes}
use Rattle.adm_csv.specs.Ended.{IsNeeded, IsScanOf}
use Rattle.adm_csv.proofs.input.read_text.Given as goal

abbrev pub invariant-loop-turn : goal.invariant-loop-turn
invariant-loop-turn g l =
    Consumes (g.R.Input.remaining l.fn.reader) (g.R.Input.remaining l.reader) l.scan.text.items × IsScanOf l.scan.text.items l.scan × IsNeeded l.scan.text.items
    × (g.R.Input.has_failed l.reader ≡ g.R.Input.has_failed l.fn.reader) × (length l.buffer ≡ 4096)
