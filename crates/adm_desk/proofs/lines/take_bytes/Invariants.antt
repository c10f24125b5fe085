use Rattle.std.proofs.Common.{◌≡◌, take}
use Rattle.adm_desk.specs.Written.{Takes}
use Rattle.adm_desk.proofs.lines.take_bytes.Given as goal

abbrev pub invariant-loop-byte : goal.invariant-loop-byte
invariant-loop-byte g l =
    Takes g.H.LineHandler.runs (g.H.LineHandler.view l.fn.handler) (g.H.LineHandler.view l.handler) (g.W.Output.contents l.fn.output) (g.W.Output.contents l.output)
    l.fn.run l.run l.fn.pending.items l.pending.items (take l.byte-index l.bytes)
    × (g.W.Output.has_failed l.output ≡ g.W.Output.has_failed l.fn.output)
