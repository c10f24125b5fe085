use Rattle.std.proofs.Common.{pos, ◌∷◌, Ok, sym, subst}
use Rattle.sqlite.specs.Held.{state}
use Rattle.sqlite.specs.State.{ExecutesInside}
use Rattle.sqlite.specs.declared.types.Value.TheVariants.{Int, Text}
use Rattle.adm_schema.specs.RowTexts.{put_place}
use Rattle.adm_schema.proofs.Inside.{is_inside}
use Rattle.adm_store.proofs.WriteLemmas.{bound_number, writes_place}
use Rattle.adm_store.proofs.places.PutPlaceStatement.run.Goals as goal

pub returns-clause-writes : goal.returns-clause-writes
returns-clause-writes g c =
    let old = state g.S.Store c.args.tx.now.conn.now in
    let new = state g.S.Store c.execute.new.self.conn.now in
    writes_place old new c.in_ok-execute.field-0 c.args.row.now c.execute.ensures.survives.clean (λ clean.
    subst (λ columns. ExecutesInside 0 put_place (Int (pos c.args.row.now.child) ∷ Text c.args.row.now.place.school ∷ columns) old new (Ok c.in_ok-execute.field-0)) (sym c.columns_of-kind.ensures)
    (rw (
      c.put_place.ensures,
      c.params-to_sql.ensures,
      c.params-to_sql-2.ensures,
      c.params-to_sql-3.ensures,
      c.params-to_sql-4.ensures,
      c.params-to_sql-5.ensures,
      c.get-child.ensures.value,
      c.as_str-school.ensures.value,
      bound_number c.columns_of-kind.result.1,
      bound_number c.columns_of-kind.result.2,
    ) at c.in_ok-execute.ensures.runs clean (is_inside _ _ _ _ c.in_ok-execute.ensures.ended)))
