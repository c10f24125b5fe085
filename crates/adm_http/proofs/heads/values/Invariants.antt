use Rattle.std.proofs.Common.{◌≤◌, map, take}
use Rattle.httparse.specs.Spans.{header_bytes}
use Rattle.adm_http.specs.Heads.{values_of, AreCounted}
use Rattle.adm_http.proofs.heads.values.Given as goal

abbrev pub invariant-loop-field : goal.invariant-loop-field
invariant-loop-field l = record {
  counted : AreCounted (values_of l.name (map (header_bytes l.window) (take l.field-index l.fields))) l.count l.last;
  few : l.count ≤ l.field-index;
}
