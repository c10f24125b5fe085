use Rattle.std.proofs.Common.{◌∙◌, ap, sym}
use Rattle.std.specs.Prelude.{is_some}
use Rattle.std.specs.Cmp.{nat_cmp_total}
use Rattle.std.specs.Cmp.Lexicographic.{nat_list_cmp_total}
use Rattle.std.specs.FinMap.{get}
use Rattle.std.specs.List.{filter}
use Rattle.adm_lists.proofs.Maps.{get_rows}
use Rattle.adm_types.specs.declared.rows.Application.{Application}
use Rattle.adm_types.specs.declared.rows.Child.{Child}
use Rattle.adm_types.specs.declared.rows.Row.{Row as ImportRow}
use Rattle.adm_types.specs.declared.rows.LeftPair.{LeftPair}
use Rattle.adm_types.specs.declared.rows.PlaceRow.{PlaceRow}
use Rattle.adm_types.specs.declared.rows.School.{School}
use Rattle.adm_types.specs.declared.draws.Draw.{Draw}
use Rattle.adm_table.specs.Same.{is_other, is_same_school, is_same_child, is_same_application, is_same_place, is_same_left, is_same_draw, is_same_import}
use Rattle.adm_register.proofs.Maps.{left_cmp-total}
use Rattle.adm_register.proofs.difference.Difference.differing_from.Goals as goal

pub returns : goal.returns
returns c =
    let base = c.tables.inside.base in
    let course = c.tables.inside.course in
    let old = c.tables.view_is in
    let change = c.args.self in
    λ i. record {
      schools = (c.lacked.ensures ∙ (λ j. filter (λ (r : School). is_other is_same_school
          ((sym (get_rows nat_list_cmp_total base.schools (r.code)) ∙ ap (λ o. get o.schools (r.code)) old) j) r) change.schools)) i;
      children = (c.lacked-2.ensures ∙ (λ j. filter (λ (r : Child). is_other is_same_child
          ((sym (get_rows nat_cmp_total base.children (r.no)) ∙ ap (λ o. get o.children (r.no)) old) j) r) change.children)) i;
      applications = (c.lacked-3.ensures ∙ (λ j. filter (λ (r : Application). is_other is_same_application
          ((sym (get_rows nat_cmp_total base.applications (r.child)) ∙ ap (λ o. get o.applications (r.child)) old) j) r) change.applications)) i;
      places = (c.lacked-4.ensures ∙ (λ j. filter (λ (r : PlaceRow). is_other is_same_place
          ((sym (get_rows nat_cmp_total course.places (r.child)) ∙ ap (λ o. get o.places (r.child)) old) j) r) change.places)) i;
      left = (c.lacked-5.ensures ∙ (λ j. filter (λ (r : LeftPair). is_other is_same_left ((sym (get_rows left_cmp-total course.left (r)) ∙ ap (λ o. get o.left (r)) old) j) r) change.left)) i;
      draws = (c.lacked-6.ensures ∙ (λ j. filter (λ (r : Draw). is_other is_same_draw
          ((sym (get_rows nat_cmp_total course.draws (r.number)) ∙ ap (λ o. get o.draws (r.number)) old) j) r) change.draws)) i;
      imported = (c.lacked-7.ensures ∙ (λ j. filter (λ (r : ImportRow). is_other is_same_import
          ((sym (get_rows nat_cmp_total course.imported (r.child.no)) ∙ ap (λ o. get o.imported (r.child.no)) old) j) r) change.imported)) i;
      ended = (c.known.ensures ∙ (λ j. filter (λ child. is_some ((sym (get_rows nat_cmp_total base.applications child) ∙ ap (λ o. get o.applications child) old) j)) change.ended)) i;
      vacated = (c.known-2.ensures ∙ (λ j. filter (λ child. is_some ((sym (get_rows nat_cmp_total course.places child) ∙ ap (λ o. get o.places child) old) j)) change.vacated)) i;
    }
