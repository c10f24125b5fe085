use Rattle.std.proofs.Common.{◌≡◌, [], ◌∷◌, ◌++◌, sym, subst, rules}
use Rattle.std.specs.List.{AllByRecursion}
use Rattle.std.proofs.lemmas.Result.{err_from_is_err_and}
use Rattle.adm_lists.proofs.Each.{each_push}
use Rattle.adm_rows.proofs.RowLemmas.{has_value, read_more}
use Rattle.adm_rows.proofs.reading.reader.all_in.Goals as goal

pub rows-preserved : goal.rows-preserved
rows-preserved g c =
    let items : c.push.new.self.items ≡ c.rows.all.items ++ c.in_ok-one.one ∷ [] = search rules in
    record {
      read = read_more g.R.Reader.row_of c.args.rows.now c.rows.row-index c.row-item.result c.rows.all.items _ c.in_ok-one.one c.rows-test.true c.row-item.is
          c.rows.invariant.read c.in_ok-one.ensures.ok items;
      again = subst (AllByRecursion g.R.Reader.IsRead) (sym items) (each_push g.R.Reader.IsRead c.rows.all.items c.in_ok-one.one c.rows.invariant.again c.in_ok-one.ensures.again);
    }

pub returns-in_err-one-clause-bad : goal.returns-in_err-one-clause-bad
returns-in_err-one-clause-bad g c =
    let p = err_from_is_err_and c.from_residual.result c.from_residual.ensures.1 in
    rw (p.1, p.2) (λ structural all formed moved.
    let it = has_value g.R.Reader.row_of (g.R.Reader.Fits c.args.reader.now) c.args.rows.now c.rows.row-index c.row-item.result c.rows-test.true c.row-item.is all formed moved in
    c.in_err-one.ensures.bad structural it.0 it.1 it.2)

pub returns-clause-again : goal.returns-clause-again
returns-clause-again g c = c.rows.invariant.again
