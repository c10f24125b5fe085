use Rattle.std.proofs.Common.{◌≡◌, [], ◌∷◌, ◌++◌, rules}
use Rattle.std.proofs.lemmas.Result.{err_from_is_err_and}
use Rattle.adm_rows.specs.Faults.{IsPresentRow}
use Rattle.adm_rows.specs.Present.{present_columns}
use Rattle.adm_rows.proofs.RowLemmas.{has_value, read_more}
use Rattle.adm_rows.proofs.reading.present.all_in.Goals as goal

pub rows-preserved : goal.rows-preserved
rows-preserved c =
    let items : c.push.new.self.items ≡ c.rows.all.items ++ c.in_ok-one.one ∷ [] = search rules in
    read_more present_columns c.args.rows.now c.rows.row-index c.row-item.result c.rows.all.items _ c.in_ok-one.one c.rows-test.true c.row-item.is c.rows.invariant c.in_ok-one.ensures.ok items

pub returns-in_err-one-clause-bad : goal.returns-in_err-one-clause-bad
returns-in_err-one-clause-bad c =
    let p = err_from_is_err_and c.from_residual.result c.from_residual.ensures.1 in
    rw (p.1, p.2) (λ structural all formed moved.
    let it = has_value present_columns IsPresentRow c.args.rows.now c.rows.row-index c.row-item.result c.rows-test.true c.row-item.is all formed moved in
    c.in_err-one.ensures.bad structural it.0 it.1 it.2)
