use Rattle.sqlite.specs.Held.{state}
use Rattle.adm_schema.proofs.Inside.{is_inside}
use Rattle.adm_store.proofs.PresentStatements.{adds_present_row}
use Rattle.adm_store.proofs.WriteLemmas.{truth_is}
use Rattle.adm_store.proofs.present.AddPresentStatement.run.Goals as goal

pub returns-clause-writes : goal.returns-clause-writes
returns-clause-writes g c =
    adds_present_row (state g.S.Store c.args.tx.now.conn.now) (state g.S.Store c.execute.new.self.conn.now) c.in_ok-execute.field-0 c.args.row.now c.execute.ensures.survives.clean
    (λ clean. rw (
      c.insert_present.ensures,
      c.params-to_sql.ensures,
      c.params-to_sql-2.ensures,
      c.params-to_sql-3.ensures,
      c.get-child.ensures.value,
      truth_is c.args.row.now.is_imported,
      c.as_str-school.ensures.value,
    ) at c.in_ok-execute.ensures.runs clean (is_inside _ _ _ _ c.in_ok-execute.ensures.ended))
