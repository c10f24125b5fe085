use Rattle.std.proofs.Common.{◌∙◌, ap, sym}
use Rattle.std.specs.Cmp.{nat_cmp_total}
use Rattle.std.specs.Cmp.Lexicographic.{nat_list_cmp_total}
use Rattle.std.specs.FinMap.{values}
use Rattle.adm_register.proofs.TableMaps.{values_rows}
use Rattle.adm_register.proofs.tables.Tables.base_rows.Goals as goal

pub returns : goal.returns
returns c =
    let inside = c.self.inside.base in
    let season = c.in_ok-clone.ensures.cases ∙ ap (λ s. s.season) c.self.view_is in
    let schools = c.in_ok-copied_rows.ensures.rows ∙ sym (values_rows nat_list_cmp_total inside.schools c.copied_rows.ensures.ordered) ∙ ap (λ s. values s.schools) c.self.view_is in
    let children = c.in_ok-copied_rows-2.ensures.rows ∙ sym (values_rows nat_cmp_total inside.children c.copied_rows-2.ensures.ordered) ∙ ap (λ s. values s.children) c.self.view_is in
    let applications = c.in_ok-copied_rows-3.ensures.rows ∙ sym (values_rows nat_cmp_total inside.applications c.copied_rows-3.ensures.ordered) ∙ ap (λ s. values s.applications) c.self.view_is in
    λ i. record { season = season i; schools = schools i; children = children i; applications = applications i }
