use Rattle.std.proofs.Common.{◌≡◌, true, sym, subst, map}
use Rattle.std.specs.Ordering.{nat_cmp, eq_by_cmp}
use Rattle.std.specs.Cmp.{nat_cmp_total}
use Rattle.std.specs.FinMap.{values, nat_cmp-IsAntisymmetric}
use Rattle.std.specs.List.{IsDistinct}
use Rattle.std.specs.List.Sorted.{IsPermutation, IsStrictlySortedBy}
use Rattle.std.proofs.lemmas.Bool.{and_parts}
use Rattle.std.proofs.lemmas.Result.{err_from_is_err_and}
use Rattle.adm_lists.proofs.Maps.{entries_in_order}
use Rattle.adm_types.specs.declared.rows.Row.{Row as ImportRow}
use Rattle.adm_types.specs.declared.rows.LeftPair.{LeftPair}
use Rattle.adm_types.specs.declared.rows.PlaceRow.{PlaceRow}
use Rattle.adm_types.specs.declared.draws.Draw.{Draw}
use Rattle.adm_draws.specs.Draws.{AreDrawRowsOf, AreByNumber, are_ordered}
use Rattle.adm_register.specs.Groups.{HasRowsByKey}
use Rattle.adm_register.specs.State.{State, left_cmp}
use Rattle.adm_register.specs.WellFormed.{WellFormed}
use Rattle.adm_register.proofs.Maps.{left_cmp-total, left_cmp-IsAntisymmetric}
use Rattle.adm_register.proofs.RowsAgain.{rows_of_table, same_as_table, same_values}
use Rattle.adm_register.proofs.SameRows.{distinct_keys, entries_at_own_keys, values_hold}
use Rattle.adm_register.proofs.TableMaps.{values_rows}
use Rattle.adm_register.proofs.SameFault.{same_fault}
use Rattle.adm_register.proofs.rows_in.course_of.Goals as goal

pub returns-in_err-places-clause-repeated : goal.returns-in_err-places-clause-repeated
returns-in_err-places-clause-repeated c =
    let p = err_from_is_err_and c.from_residual.result c.from_residual.ensures.1 in
    rw (p.1, p.2) (λ bad s well same.
    c.in_err-places.ensures.repeated (same_fault _ _ bad)
    (subst (λ rows. IsDistinct (eq_by_cmp nat_cmp) (map (λ (p : PlaceRow). p.child) rows)) (sym c.into_vec.ensures)
    (distinct_keys nat_cmp_total nat_cmp-IsAntisymmetric (λ (p : PlaceRow). p.child) s.places c.args.rows.places (λ key row there. (well.places.each key row there).own_number) same.places)))

pub returns-in_err-left-clause-repeated : goal.returns-in_err-left-clause-repeated
returns-in_err-left-clause-repeated c =
    let p = err_from_is_err_and c.from_residual-in_err-left.result c.from_residual-in_err-left.ensures.1 in
    rw (p.1, p.2) (λ bad s well same.
    c.in_err-left.ensures.repeated (same_fault _ _ bad)
    (subst (λ rows. IsDistinct (eq_by_cmp left_cmp) (map (λ (p : LeftPair). p) rows)) (sym c.into_vec-2.ensures)
    (distinct_keys left_cmp-total left_cmp-IsAntisymmetric (λ (p : LeftPair). p) s.left c.args.rows.left (λ key row there. (well.left key row there).own_key) same.left)))

-- the draws of a register are in order
in_order : (state : State) → WellFormed state → AreByNumber (values state.draws)
in_order state well =
    let own = entries_at_own_keys nat_cmp_total nat_cmp-IsAntisymmetric (λ (d : Draw). d.number) state.draws (λ key row there. (well.draws.each key row there).own_number) in
    record {
      rising = subst (IsStrictlySortedBy nat_cmp) (sym own) (entries_in_order state.draws);
      each = values_hold nat_cmp_total nat_cmp-IsAntisymmetric (λ d. are_ordered d ≡ true) state.draws
          (λ key draw there. let a = and_parts _ _ (well.draws.each key draw there).form in let b = and_parts _ _ a.0 in (and_parts (are_ordered draw) _ b.0).0);
    }

pub returns-in_err-draws-clause-repeated : goal.returns-in_err-draws-clause-repeated
returns-in_err-draws-clause-repeated c =
    let p = err_from_is_err_and c.from_residual-in_err-draws.result c.from_residual-in_err-draws.ensures.1 in
    rw (p.1, p.2) (λ bad s well same.
    c.in_err-draws.ensures.none (same_fault _ _ bad) (values s.draws) (in_order s well) same.draws)

pub returns-in_err-imported-clause-repeated : goal.returns-in_err-imported-clause-repeated
returns-in_err-imported-clause-repeated c =
    let p = err_from_is_err_and c.from_residual-in_err-imported.result c.from_residual-in_err-imported.ensures.1 in
    rw (p.1, p.2) (λ bad s well same.
    c.in_err-imported.ensures.repeated (same_fault _ _ bad)
    (distinct_keys nat_cmp_total nat_cmp-IsAntisymmetric (λ (r : ImportRow). r.child.no) s.imported c.args.rows.imported
    (λ key row there. (well.imported key row there).child.own_number) same.imported))

pub returns-clause-made : goal.returns-clause-made
returns-clause-made c s of =
    let places = subst (λ rows. HasRowsByKey nat_cmp (λ (p : PlaceRow). p.child) rows c.in_ok-places.places) c.into_vec.ensures c.in_ok-places.ensures.made in
    let left = subst (λ rows. HasRowsByKey left_cmp (λ (p : LeftPair). p) rows c.in_ok-left.left) c.into_vec-2.ensures c.in_ok-left.ensures.made in
    let drawn = c.in_ok-draws.ensures.made in
    record {
      places = subst (λ m. IsPermutation c.args.rows.places (values m)) of.places
          (rows_of_table nat_cmp_total nat_cmp-IsAntisymmetric (λ (p : PlaceRow). p.child) c.args.rows.places c.in_ok-places.places places);
      left = subst (λ m. IsPermutation c.args.rows.left (values m)) of.left (rows_of_table left_cmp-total left_cmp-IsAntisymmetric (λ (p : LeftPair). p) c.args.rows.left c.in_ok-left.left left);
      draws = subst (λ m. AreDrawRowsOf c.args.rows.drawn.draws c.args.rows.drawn.offers c.args.rows.drawn.lots (values m)) of.draws
          (subst (AreDrawRowsOf c.args.rows.drawn.draws c.args.rows.drawn.offers c.args.rows.drawn.lots) (sym (values_rows nat_cmp_total c.in_ok-draws.draws drawn.2)) drawn.0);
      imported = subst (λ m. IsPermutation c.args.rows.imported (values m)) of.imported
          (rows_of_table nat_cmp_total nat_cmp-IsAntisymmetric (λ (r : ImportRow). r.child.no) c.args.rows.imported c.in_ok-imported.imported c.in_ok-imported.ensures.made);
    }

pub returns-clause-only : goal.returns-clause-only
returns-clause-only c s well same =
    let places = subst (λ rows. HasRowsByKey nat_cmp (λ (p : PlaceRow). p.child) rows c.in_ok-places.places) c.into_vec.ensures c.in_ok-places.ensures.made in
    let left = subst (λ rows. HasRowsByKey left_cmp (λ (p : LeftPair). p) rows c.in_ok-left.left) c.into_vec-2.ensures c.in_ok-left.ensures.made in
    let drawn = c.in_ok-draws.ensures.made in
    record {
      places = sym (same_as_table nat_cmp_total nat_cmp-IsAntisymmetric (λ (p : PlaceRow). p.child) c.args.rows.places c.in_ok-places.places places s.places
          (λ key row there. (well.places.each key row there).own_number) same.places);
      left = sym (same_as_table left_cmp-total left_cmp-IsAntisymmetric (λ (p : LeftPair). p) c.args.rows.left c.in_ok-left.left left s.left
          (λ key row there. (well.left key row there).own_key) same.left);
      draws = sym (same_values nat_cmp_total nat_cmp-IsAntisymmetric (λ (d : Draw). d.number) s.draws c.in_ok-draws.draws (λ key row there. (well.draws.each key row there).own_number) drawn.1 drawn.2
          (c.in_ok-draws.ensures.only (values s.draws) (in_order s well) same.draws));
      imported = sym (same_as_table nat_cmp_total nat_cmp-IsAntisymmetric
          (λ (r : ImportRow). r.child.no) c.args.rows.imported c.in_ok-imported.imported c.in_ok-imported.ensures.made s.imported
          (λ key row there. (well.imported key row there).child.own_number) same.imported);
    }
