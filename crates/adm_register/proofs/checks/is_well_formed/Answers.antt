use Rattle.std.proofs.Common.{◌∙◌, ap, sym, subst, true, ◌≤◌}
use Rattle.std.specs.Prelude.{◌&&◌}
use Rattle.std.specs.Cmp.{nat_cmp_total}
use Rattle.std.specs.Cmp.Lexicographic.{nat_list_cmp_total}
use Rattle.std.specs.FinMap.{values, nat_cmp-IsAntisymmetric}
use Rattle.std.specs.List.{list_all}
use Rattle.std.proofs.lemmas.Bool.{and_parts}
use Rattle.adm_types.specs.Seasons.{IsSeason, lists_end}
use Rattle.adm_register.specs.WellFormed.{places_outside_plans, has_first_round, SchoolFits, ChildFits, ApplicationFits, PlaceFits, LeftPairFits, ImportFits}
use Rattle.adm_register.specs.RowTests.{fits_school_with, fits_child, fits_application, fits_place, fits_left, fits_import, fits_known_draw}
use Rattle.adm_register.proofs.ApplicationChecks.{application_decided}
use Rattle.adm_register.proofs.ChildChecks.{child_decided}
use Rattle.adm_register.proofs.EachRow.{rows_decided}
use Rattle.adm_register.proofs.ImportChecks.{import_decided}
use Rattle.adm_register.proofs.LeftChecks.{left_decided}
use Rattle.adm_register.proofs.Maps.{code_cmp-IsAntisymmetric, left_cmp-total, left_cmp-IsAntisymmetric}
use Rattle.adm_register.proofs.PlaceChecks.{place_decided}
use Rattle.adm_register.proofs.SchoolChecks.{school_decided_with}
use Rattle.adm_register.proofs.DrawChecks.{IsKnown, draw_known, draws_fit, draws_known, draws_formed}
use Rattle.adm_register.proofs.TableMaps.{values_rows}
use Rattle.adm_register.specs.Draws.{are_in_order, no_draws}
use Rattle.adm_draws.specs.Draws.{is_draw}
use Rattle.adm_register.proofs.checks.is_well_formed.Goals as goal

-- the tests in their order, each with what it decides
pub returns : goal.returns
returns c =
    let s = c.args.tables.now in
    let rows = c.tables.inside in
    let view = c.tables.view_is in
    let last = lists_end s.season in
    let schools = rows_decided (fits_school_with s.season.size s.places) (λ code school. SchoolFits s.season.size code school
    × (places_outside_plans s.places code ≤ school.pan)) nat_list_cmp_total code_cmp-IsAntisymmetric
    (school_decided_with s.season.size s.places) rows.base.schools s.schools c.all_fit.result (ap (λ s. s.schools) view) c.all_fit.ensures.ordered c.all_fit.ensures.tested in
    let children = rows_decided (fits_child s.season.size s.schools) (ChildFits s.season.size s.schools) nat_cmp_total nat_cmp-IsAntisymmetric
    (child_decided s.season.size s.schools) rows.base.children s.children c.all_fit-2.result (ap (λ s. s.children) view) c.all_fit-2.ensures.ordered c.all_fit-2.ensures.tested in
    let applications = rows_decided (fits_application last s.schools s.children) (ApplicationFits last s.schools s.children) nat_cmp_total nat_cmp-IsAntisymmetric
    (application_decided last s.schools s.children) rows.base.applications s.applications c.all_fit-3.result
    (ap (λ s. s.applications) view) c.all_fit-3.ensures.ordered c.all_fit-3.ensures.tested in
    let places = rows_decided (fits_place s.schools s.children s.applications (has_first_round s.draws))
    (PlaceFits s.schools s.children s.applications (has_first_round s.draws)) nat_cmp_total nat_cmp-IsAntisymmetric
    (place_decided s.schools s.children s.applications (has_first_round s.draws)) rows.course.places s.places c.all_fit-4.result
    (ap (λ s. s.places) view) c.all_fit-4.ensures.ordered c.all_fit-4.ensures.tested in
    let left = rows_decided (fits_left s.schools s.children s.places) (LeftPairFits s.schools s.children s.places) left_cmp-total left_cmp-IsAntisymmetric
    (left_decided s.schools s.children s.places) rows.course.left s.left c.all_fit-5.result (ap (λ s. s.left) view) c.all_fit-5.ensures.ordered c.all_fit-5.ensures.tested in
    let known = rows_decided (fits_known_draw s.schools s.children) (IsKnown s.schools s.children) nat_cmp_total nat_cmp-IsAntisymmetric
    (draw_known s.schools s.children) rows.course.draws s.draws c.all_fit-6.result (ap (λ s. s.draws) view) c.all_fit-6.ensures.ordered c.all_fit-6.ensures.tested in
    let imported = rows_decided (fits_import s.season.size last s.schools s.children) (ImportFits s.season.size last s.schools s.children) nat_cmp_total nat_cmp-IsAntisymmetric
    (import_decided s.season.size last s.schools s.children) rows.course.imported s.imported c.all_fit-7.result (ap (λ s. s.imported) view) c.all_fit-7.ensures.ordered c.all_fit-7.ensures.tested in
    let rows_listed = c.in_ok-draws.ensures.rows ∙ sym (values_rows nat_cmp_total rows.course.draws c.to_vec.ensures.ordered) ∙ ap (λ s. values s.draws) view in
    let formed = c.in_ok-all_formed.ensures ∙ ap (list_all is_draw) (c.deref.ensures.value ∙ rows_listed) in
    let in_order = c.are_in_order.ensures ∙ (λ i. are_in_order (c.season-2.ensures i) no_draws ((c.deref-2.ensures.value ∙ rows_listed) i)) in (
      λ fit.
          let a = and_parts c.are_few.result _ (sym c.all_hold.ensures ∙ fit) in
          let b = and_parts c.all_fit.result _ a.1 in
          let d = and_parts c.all_fit-2.result _ b.1 in
          let e = and_parts c.all_fit-3.result _ d.1 in
          let f = and_parts c.all_fit-4.result _ e.1 in
          let g = and_parts c.all_fit-5.result _ f.1 in
          let h = and_parts c.all_fit-6.result _ g.1 in
          let j = and_parts c.all_fit-7.result _ h.1 in
          let k = and_parts c.in_ok-all_formed.field-0 _ j.1 in
          let l = and_parts c.are_in_order.result _ k.1 in
          let few = c.are_few.ensures.0 a.0 in
          record {
            base = record {
              season_is = subst IsSeason c.season.ensures c.year-year.ensures.season;
              few_schools = few.0;
              schools_fit = λ code school there. (schools.0 b.0 code school there).0;
              few_children = few.1;
              children_fit = children.0 d.0;
              applications_fit = applications.0 e.0;
            };
            places = record { each = places.0 f.0; room = λ code school there. (schools.0 b.0 code school there).1 };
            left = left.0 g.0;
            draws = record { each = draws_fit s.schools s.children s.draws (known.0 h.0) (sym formed ∙ k.0); in_order = sym in_order ∙ l.0 };
            imported = imported.0 j.0;
          },
      λ well.
          c.all_hold.ensures
          ∙ (λ i. c.are_few.ensures.1 (well.base.few_schools, well.base.few_children) i
          && (schools.1 (λ code school there. (well.base.schools_fit code school there, well.places.room code school there)) i
          && (children.1 well.base.children_fit i && (applications.1 well.base.applications_fit i
          && (places.1 well.places.each i && (left.1 well.left i
          && (known.1 (draws_known s.schools s.children s.draws well.draws.each) i
          && (imported.1 well.imported i && ((formed ∙ draws_formed s.schools s.children s.draws well.draws.each) i && ((in_order ∙ well.draws.in_order) i && true)))))))))),
    )
