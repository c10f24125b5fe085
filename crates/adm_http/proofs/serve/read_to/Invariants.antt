use Rattle.std.proofs.Common.{◌≡◌, ℕ, List, ◌++◌, ◌-◌, vec_len}
use Rattle.std.specs.Io.KnownBytes.{Consumes}
use Rattle.adm_http.specs.Reading.{IsNotFarPast}
use Rattle.adm_http.proofs.serve.read_to.Given as goal

abbrev pub invariant-loop-reader : goal.invariant-loop-reader
invariant-loop-reader g l = record {
  grown : (more : List ℕ) × Consumes (g.R.Input.remaining l.fn.reader) (g.R.Input.remaining l.reader) more × (l.input.items ≡ l.fn.input.items ++ more);
  near : IsNotFarPast l.input.items;
  unfailed : g.R.Input.has_failed l.reader ≡ g.R.Input.has_failed l.fn.reader;
}

abbrev pub decreases-loop-reader : goal.decreases-loop-reader
decreases-loop-reader g l = l.total - vec_len l.input
