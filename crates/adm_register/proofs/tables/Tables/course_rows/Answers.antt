use Rattle.std.proofs.Common.{◌∙◌, ap, sym}
use Rattle.std.specs.Cmp.{nat_cmp_total}
use Rattle.std.specs.FinMap.{values}
use Rattle.adm_register.proofs.Maps.{left_cmp-total}
use Rattle.adm_register.proofs.TableMaps.{values_rows}
use Rattle.adm_register.proofs.tables.Tables.course_rows.Goals as goal

pub returns : goal.returns
returns c =
    let inside = c.self.inside.course in
    let places = c.from_vec.ensures ∙ c.in_ok-to_vec.ensures.rows ∙ sym (values_rows nat_cmp_total inside.places c.to_vec.ensures.ordered) ∙ ap (λ s. values s.places) c.self.view_is in
    let left = c.from_vec-2.ensures ∙ c.in_ok-to_vec-2.ensures.rows ∙ sym (values_rows left_cmp-total inside.left c.to_vec-2.ensures.ordered) ∙ ap (λ s. values s.left) c.self.view_is in
    let imported = c.in_ok-copied_rows.ensures.rows ∙ sym (values_rows nat_cmp_total inside.imported c.copied_rows.ensures.ordered) ∙ ap (λ s. values s.imported) c.self.view_is in
    λ i. record { places = places i; left = left i; drawn = c.in_ok-rows_of_draws.ensures i; imported = imported i }
