use Rattle.std.proofs.Common.{◌∙◌, ap, []}
use Rattle.std.specs.Cmp.{nat_cmp_total}
use Rattle.std.specs.FinMap.{from_entries, nat_cmp-IsAntisymmetric}
use Rattle.adm_types.specs.declared.rows.PlaceRow.{PlaceRow}
use Rattle.adm_types.specs.declared.rows.Row.{Row as ImportRow}
use Rattle.adm_types.specs.declared.rows.LeftPair.{LeftPair}
use Rattle.adm_types.specs.declared.draws.Draw.{Draw}
use Rattle.adm_register.specs.Change.{after, put_all, cut_all}
use Rattle.adm_register.proofs.Maps.{left_cmp-total, left_cmp-IsAntisymmetric}
use Rattle.adm_register.proofs.Puts.{changed_rows}
use Rattle.adm_register.proofs.tables.Tables.course_after.Goals as goal

pub returns : goal.returns
returns c =
    let inside = c.self.inside.course in
    let was = ap (λ s. after s c.args.change.now) c.self.view_is in
    let places = changed_rows nat_cmp_total nat_cmp-IsAntisymmetric
    (λ (s : PlaceRow). s.child) inside.places c.in_ok-with_all.field-0 c.as_slice.result.now c.as_slice-2.result.now c.in_ok-with_all.ensures
    ∙ (λ i. put_all (λ (s : PlaceRow). s.child) (cut_all (from_entries inside.places) (c.as_slice.ensures i)) (c.as_slice-2.ensures i)) ∙ ap (λ s. s.places) was in
    let left = changed_rows left_cmp-total left_cmp-IsAntisymmetric (λ (s : LeftPair). s) inside.left c.in_ok-with_all-2.field-0 [] c.as_slice-3.result.now c.in_ok-with_all-2.ensures
    ∙ ap (put_all (λ (s : LeftPair). s) (from_entries inside.left)) c.as_slice-3.ensures ∙ ap (λ s. s.left) was in
    let draws = changed_rows nat_cmp_total nat_cmp-IsAntisymmetric (λ (s : Draw). s.number) inside.draws c.in_ok-with_all-3.field-0 [] c.as_slice-4.result.now c.in_ok-with_all-3.ensures
    ∙ ap (put_all (λ (s : Draw). s.number) (from_entries inside.draws)) c.as_slice-4.ensures ∙ ap (λ s. s.draws) was in
    let imported = changed_rows nat_cmp_total nat_cmp-IsAntisymmetric (λ (r : ImportRow). r.child.no) inside.imported c.in_ok-with_all-4.field-0 [] c.as_slice-5.result.now c.in_ok-with_all-4.ensures
    ∙ ap (put_all (λ (r : ImportRow). r.child.no) (from_entries inside.imported)) c.as_slice-5.ensures ∙ ap (λ s. s.imported) was in
    record { places = places; left = left; draws = draws; imported = imported }
