use Rattle.sqlite.specs.Held.{state}
use Rattle.adm_schema.proofs.Inside.{is_inside}
use Rattle.adm_store.proofs.WriteLemmas.{adds_left}
use Rattle.adm_store.proofs.left_list.AddLeftStatement.run.Goals as goal

pub returns-clause-writes : goal.returns-clause-writes
returns-clause-writes g c =
    adds_left (state g.S.Store c.args.tx.now.conn.now) (state g.S.Store c.execute.new.self.conn.now) c.in_ok-execute.field-0 c.args.pair.now c.execute.ensures.survives.clean
    (λ clean. rw (
      c.insert_left_list.ensures,
      c.params-to_sql.ensures,
      c.params-to_sql-2.ensures,
      c.get-child.ensures.value,
      c.as_str-school.ensures.value,
    ) at c.in_ok-execute.ensures.runs clean (is_inside _ _ _ _ c.in_ok-execute.ensures.ended))
