use Rattle.std.proofs.Common.{◌≡◌, ℕ, List, ◌++◌, length}
use Rattle.std.specs.Io.KnownBytes.{Appends}
use Rattle.adm_wire.proofs.streams.WatchedOutput.put.Given as goal

abbrev pub invariant-loop-rest : goal.invariant-loop-rest
invariant-loop-rest g l =
    (sent : List ℕ) × (l.bytes ≡ sent ++ l.rest)
    × Appends (g.W.Write.contents l.initial.self.stream) (g.W.Write.contents l.self.stream) sent
    × (l.self.has_failed ≡ l.initial.self.has_failed)

abbrev pub decreases-loop-rest : goal.decreases-loop-rest
decreases-loop-rest g l = length l.rest
