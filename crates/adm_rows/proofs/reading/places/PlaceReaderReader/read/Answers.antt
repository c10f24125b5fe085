use Rattle.std.proofs.Common.{◌∙◌, pos, ◌∷◌, sym, ap}
use Rattle.std.proofs.lemmas.Result.{err_from_is_err_and}
use Rattle.sqlite.specs.Order.{Row}
use Rattle.sqlite.specs.declared.types.Value.TheVariants.{Int, Text}
use Rattle.adm_rows.proofs.ChildRows.{has_place_columns, last_columns}
use Rattle.adm_rows.proofs.reading.places.PlaceReaderReader.read.Goals as goal

pub returns-clause-ok : goal.returns-clause-ok
returns-clause-ok c = c.in_ok-child.ensures.ok ∙ sym (ap (λ (columns : Row). Int (pos c.in_ok-child.field-0.child) ∷ Text c.in_ok-child.field-0.school ∷ columns) c.in-Some.ensures.ok)

pub returns-in_err-child-clause-bad : goal.returns-in_err-child-clause-bad
returns-in_err-child-clause-bad c =
    let p = err_from_is_err_and c.from_residual.result c.from_residual.ensures.1 in
    rw (p.1, p.2) (λ structural x fits is.
    let it = has_place_columns c.args.row.now x fits is in
    c.in_err-child.ensures.bad structural x.child it.0 x.place.school it.1 it.2 it.3)

pub returns-in_default-clause-bad : goal.returns-in_default-clause-bad
returns-in_default-clause-bad c structural x fits is = c.state_of.ensures.none c.in_default.is x.place.state (last_columns c.args.row.now x _ _ _ _ _ c.in_ok-child.ensures.ok is)
