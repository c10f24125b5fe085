use Rattle.std.proofs.Common.{◌≡◌, ◌∙◌, true, false, [], ◌∷◌, map, length, sym, ap, subst, rules}
use Rattle.std.specs.Prelude.{flat_map}
use Rattle.std.proofs.lemmas.Result.{err_from_is_err_and}
use Rattle.std.specs.FinMap.{values}
use Rattle.sqlite.specs.Held.{state}
use Rattle.adm_types.specs.Seasons.{lists_end}
use Rattle.adm_draws.specs.Draws.{row_of, offer_rows_of, lot_rows_of}
use Rattle.adm_schema.specs.Schema.{meta}
use Rattle.adm_schema.proofs.Listed.{school_in, child_in, application_in, place_in, left_list_in, draw_in, offer_in, lot_in, imported_in}
use Rattle.adm_rows.specs.Forms.{season_row}
use Rattle.adm_rows.specs.Represents.{HasRows}
use Rattle.adm_rows.proofs.DrawFits.{draws_fit, offers_fit, lots_fit}
use Rattle.adm_rows.proofs.RowsFit.{as_many, schools_fit, children_fit, applications_fit, places_fit, left_fit, imported_fit}
use Rattle.adm_rows.proofs.reading.first_tables.Goals as goal

-- the tables in the order of the schema, which is that of the readers
pub returns-then-is_count_of-clause-ok : goal.returns-then-is_count_of-clause-ok
returns-then-is_count_of-clause-ok g c clean has first =
    let db = (state g.S.Store c.args.tx.now.conn.now).now.trees in
    let v = c.args.first.version in
    let it = c.in_ok-schools.ensures.ok v clean has in
    let drawn = it.1.1.1.1.1 in
    let counted : length c.in_ok-schools.more.0 ≡ c.args.first.draws = search rules in (
      subst (λ count. HasRows meta (season_row v c.args.first.season count ∷ []) db) (sym counted) first,
      (it.0, (it.1.0, (it.1.1.0, (it.1.1.1.0, (it.1.1.1.1.0, (drawn.0, (drawn.1.0, (drawn.1.1.0, (drawn.1.1.1.0, tt))))))))),
    )

pub returns-then-is_count_of-clause-again : goal.returns-then-is_count_of-clause-again
returns-then-is_count_of-clause-again g c = let it = c.in_ok-schools.ensures.again in record { schools = it.0; children = it.1.0; applications = it.1.1.0; imported = it.1.1.1.1.1.1.1.1.0 }

pub returns-in_err-schools-clause-bad : goal.returns-in_err-schools-clause-bad
returns-in_err-schools-clause-bad g c =
    let p = err_from_is_err_and c.from_residual.result c.from_residual.ensures.1 in
    rw (p.1, p.2) (λ structural r same clean has held.
    let each = held.rows.each in
    let last = c.lists_end-last.ensures ∙ sym (ap lists_end same.0) in
    c.in_err-schools.ensures.bad structural (
      values r.schools,
      (
        values r.children,
        (
          values r.applications,
          (values r.places, (values r.left, (map row_of (values r.draws), (flat_map offer_rows_of (values r.draws), (flat_map lot_rows_of (values r.draws), (values r.imported, tt)))))),
        ),
      ),
    ) (
      schools_fit r held.formed,
      (
        children_fit r held.formed,
        (
          applications_fit r _ held.formed last,
          (
            places_fit r held.formed,
            (left_fit r held.formed, (draws_fit r _ held.formed last, (offers_fit r held.formed, (lots_fit r held.formed, (imported_fit r _ held.formed last, tt))))),
          ),
        ),
      ),
    )
    c.args.first.version clean has (
      each _ (school_in c.args.first.version),
      (
        each _ (child_in c.args.first.version),
        (
          each _ (application_in c.args.first.version),
          (
            each _ (place_in c.args.first.version),
            (
              each _ (left_list_in c.args.first.version),
              (
                each _ (draw_in c.args.first.version),
                (each _ (offer_in c.args.first.version), (each _ (lot_in c.args.first.version), (each _ (imported_in c.args.first.version), tt))),
              ),
            ),
          ),
        ),
      ),
    ))

pub returns-in_err-schools-clause-disk : goal.returns-in_err-schools-clause-disk
returns-in_err-schools-clause-disk g c =
    let p = err_from_is_err_and c.from_residual.result c.from_residual.ensures.1 in
    rw (p.1, p.2) (λ is. c.in_err-schools.ensures.disk is)

-- the rows that were read are as many as those of the register
pub returns-else-is_count_of-clause-bad : goal.returns-else-is_count_of-clause-bad
returns-else-is_count_of-clause-bad g c structural r same clean has held =
    let read = c.in_ok-schools.ensures.ok c.args.first.version clean has in
    let all = as_many c.args.first.version (state g.S.Store c.args.tx.now.conn.now).now.trees r c.in_ok-schools.more.0 read.1.1.1.1.1.0 held in
    let counted : length c.as_slice.result.now ≡ c.args.first.draws = ap length c.as_slice.ensures ∙ all ∙ same.1 in
    let wrong : true ≡ false = sym (c.is_count_of.ensures.1 counted) ∙ c.if-is_count_of.false in
    cc
