use Rattle.std.proofs.Common.{◌≡◌, ◌+◌, ◌-◌, vec_len}
use Rattle.std.specs.Io.KnownBytes.{Consumes}
use Rattle.adm_http.specs.Heads.{most_body}
use Rattle.adm_http.specs.Reading.{IsNotFarPast}
use Rattle.adm_http.proofs.serve.read_request.Given as goal

abbrev pub invariant-loop-len : goal.invariant-loop-len
invariant-loop-len g l = record {
  consumed : Consumes (g.R.Input.remaining l.fn.reader) (g.R.Input.remaining l.reader) l.input.items;
  near : IsNotFarPast l.input.items;
  unfailed : g.R.Input.has_failed l.reader ≡ g.R.Input.has_failed l.fn.reader;
}

abbrev pub decreases-loop-len : goal.decreases-loop-len
decreases-loop-len g l = (8192 + most_body) - vec_len l.input
