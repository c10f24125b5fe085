use Rattle.sqlite.specs.Held.{state}
use Rattle.adm_schema.proofs.Inside.{is_inside}
use Rattle.adm_store.proofs.SeasonLemmas.{adds_season}
use Rattle.adm_store.proofs.season.AddSeasonStatement.run.Goals as goal

pub returns-clause-writes : goal.returns-clause-writes
returns-clause-writes g c =
    adds_season (state g.S.Store c.args.tx.now.conn.now) (state g.S.Store c.execute.new.self.conn.now) c.in_ok-execute.field-0 c.args.row.now c.execute.ensures.survives.clean
    (λ clean. rw (
      c.insert_meta.ensures,
      c.params-to_sql.ensures,
      c.params-to_sql-2.ensures,
      c.params-to_sql-3.ensures,
      c.params-to_sql-4.ensures,
      c.version_of-version.ensures,
      c.number_of-phase.ensures,
      c.as_str-holidays.ensures.value,
    ) at c.in_ok-execute.ensures.runs clean (is_inside _ _ _ _ c.in_ok-execute.ensures.ended))
