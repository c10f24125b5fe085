use Rattle.std.proofs.Common.{◌∙◌, ap, []}
use Rattle.std.specs.Cmp.{nat_cmp_total}
use Rattle.std.specs.Cmp.Lexicographic.{nat_list_cmp_total}
use Rattle.std.specs.FinMap.{from_entries, nat_cmp-IsAntisymmetric}
use Rattle.adm_types.specs.declared.rows.Application.{Application}
use Rattle.adm_types.specs.declared.rows.Child.{Child}
use Rattle.adm_types.specs.declared.rows.School.{School}
use Rattle.adm_register.specs.Change.{after, put_all, cut_all}
use Rattle.adm_register.proofs.Maps.{code_cmp-IsAntisymmetric}
use Rattle.adm_register.proofs.Puts.{changed_rows}
use Rattle.adm_register.proofs.tables.Tables.base_after.Goals as goal

pub returns : goal.returns
returns c =
    let inside = c.self.inside.base in
    let was = ap (λ s. after s c.args.change.now) c.self.view_is in
    let schools = changed_rows nat_list_cmp_total code_cmp-IsAntisymmetric (λ (s : School). s.code) inside.schools c.in_ok-with_all.field-0 [] c.as_slice.result.now c.in_ok-with_all.ensures
    ∙ ap (put_all (λ (s : School). s.code) (from_entries inside.schools)) c.as_slice.ensures ∙ ap (λ s. s.schools) was in
    let children = changed_rows nat_cmp_total nat_cmp-IsAntisymmetric (λ (s : Child). s.no) inside.children c.in_ok-with_all-2.field-0 [] c.as_slice-2.result.now c.in_ok-with_all-2.ensures
    ∙ ap (put_all (λ (s : Child). s.no) (from_entries inside.children)) c.as_slice-2.ensures ∙ ap (λ s. s.children) was in
    let applications = changed_rows nat_cmp_total nat_cmp-IsAntisymmetric
    (λ (s : Application). s.child) inside.applications c.in_ok-with_all-3.field-0 c.as_slice-3.result.now c.as_slice-4.result.now c.in_ok-with_all-3.ensures
    ∙ (λ i. put_all (λ (s : Application). s.child) (cut_all (from_entries inside.applications) (c.as_slice-3.ensures i)) (c.as_slice-4.ensures i)) ∙ ap (λ s. s.applications) was in
    record { season = c.in_ok-clone.ensures.cases ∙ ap (λ s. s.season) was; schools = schools; children = children; applications = applications }
