use Rattle.std.proofs.Common.{◌≡◌, ◌∙◌, length, sym, rules}
use Rattle.adm_rows.proofs.RowLemmas.{whole_read, whole_refused}
use Rattle.adm_rows.proofs.reading.fields.values_in.Goals as goal

pub returns-clause-ok : goal.returns-clause-ok
returns-clause-ok g c =
    let wide : length c.args.row.now ≡ g.L.Columns.count = search rules in
    whole_read g.L.Columns.row_of c.args.row.now c.read_from.result (λ xs. wide ∙ sym (g.met.L.Columns.counted xs)) c.read_from.ensures.ok

pub returns-clause-bad : goal.returns-clause-bad
returns-clause-bad g c =
    whole_refused g.L.Columns.row_of c.args.row.now (g.L.Columns.Fit c.args.last) c.read_from.result c.read_from.ensures.bad
