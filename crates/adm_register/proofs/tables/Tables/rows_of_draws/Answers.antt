use Rattle.std.proofs.Common.{◌∙◌, ap, sym, map}
use Rattle.std.specs.Cmp.{nat_cmp_total}
use Rattle.std.specs.FinMap.{values}
use Rattle.std.specs.List.{flat_map}
use Rattle.adm_draws.specs.Draws.{row_of, offer_rows_of, lot_rows_of}
use Rattle.adm_register.proofs.TableMaps.{values_rows}
use Rattle.adm_register.proofs.tables.Tables.rows_of_draws.Goals as goal

pub returns : goal.returns
returns c =
    let listed = c.in_ok-draws.ensures.rows ∙ sym (values_rows nat_cmp_total c.self.inside.course.draws c.to_vec.ensures.ordered) ∙ ap (λ s. values s.draws) c.self.view_is in
    let draws = c.from_vec.ensures ∙ c.in_ok-draw_rows.ensures ∙ ap (map row_of) (c.deref.ensures.value ∙ listed) in
    let offers = c.from_vec-2.ensures ∙ c.in_ok-offer_rows.ensures ∙ ap (flat_map offer_rows_of) (c.deref-2.ensures.value ∙ listed) in
    let lots = c.from_vec-3.ensures ∙ c.in_ok-lot_rows.ensures ∙ ap (flat_map lot_rows_of) (c.deref-3.ensures.value ∙ listed) in
    λ i. record { draws = draws i; offers = offers i; lots = lots i }
