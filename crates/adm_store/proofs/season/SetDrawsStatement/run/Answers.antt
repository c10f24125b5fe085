use Rattle.sqlite.specs.Held.{state}
use Rattle.adm_schema.proofs.Inside.{is_inside}
use Rattle.adm_store.proofs.SeasonLemmas.{sets_count}
use Rattle.adm_store.proofs.season.SetDrawsStatement.run.Goals as goal

pub returns-clause-writes : goal.returns-clause-writes
returns-clause-writes g c =
    sets_count (state g.S.Store c.args.tx.now.conn.now) (state g.S.Store c.execute.new.self.conn.now) c.in_ok-execute.field-0 c.args.draw.now c.execute.ensures.survives.clean
    (λ clean. rw (c.update_meta.ensures, c.params-to_sql.ensures) at c.in_ok-execute.ensures.runs clean (is_inside _ _ _ _ c.in_ok-execute.ensures.ended))
