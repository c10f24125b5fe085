use Rattle.std.proofs.Common.{sym, subst}
use Rattle.std.specs.Cmp.{nat_cmp_total}
use Rattle.std.specs.Cmp.Lexicographic.{nat_list_cmp_total}
use Rattle.std.specs.FinMap.{values, nat_cmp-IsAntisymmetric}
use Rattle.std.specs.List.Sorted.{IsPermutation}
use Rattle.std.proofs.lemmas.Result.{err_from_is_err_and}
use Rattle.adm_types.specs.declared.rows.Application.{Application}
use Rattle.adm_types.specs.declared.rows.Child.{Child}
use Rattle.adm_types.specs.declared.rows.School.{School}
use Rattle.adm_register.proofs.Maps.{code_cmp-IsAntisymmetric}
use Rattle.adm_register.proofs.RowsAgain.{rows_of_table, same_as_table}
use Rattle.adm_register.proofs.SameRows.{distinct_keys}
use Rattle.adm_register.proofs.SameFault.{same_fault}
use Rattle.adm_register.proofs.rows_in.base_of.Goals as goal

pub returns-in_err-schools-clause-repeated : goal.returns-in_err-schools-clause-repeated
returns-in_err-schools-clause-repeated c =
    let p = err_from_is_err_and c.from_residual.result c.from_residual.ensures.1 in
    rw (p.1, p.2) (λ bad s well same.
    c.in_err-schools.ensures.repeated (same_fault _ _ bad)
    (distinct_keys nat_list_cmp_total code_cmp-IsAntisymmetric (λ (s : School). s.code) s.schools c.args.rows.schools (λ key row there. (well.base.schools_fit key row there).own_code) same.schools))

pub returns-in_err-children-clause-repeated : goal.returns-in_err-children-clause-repeated
returns-in_err-children-clause-repeated c =
    let p = err_from_is_err_and c.from_residual-in_err-children.result c.from_residual-in_err-children.ensures.1 in
    rw (p.1, p.2) (λ bad s well same.
    c.in_err-children.ensures.repeated (same_fault _ _ bad)
    (distinct_keys nat_cmp_total nat_cmp-IsAntisymmetric (λ (s : Child). s.no) s.children c.args.rows.children (λ key row there. (well.base.children_fit key row there).own_number) same.children))

pub returns-in_err-applications-clause-repeated : goal.returns-in_err-applications-clause-repeated
returns-in_err-applications-clause-repeated c =
    let p = err_from_is_err_and c.from_residual-in_err-applications.result c.from_residual-in_err-applications.ensures.1 in
    rw (p.1, p.2) (λ bad s well same.
    c.in_err-applications.ensures.repeated (same_fault _ _ bad)
    (distinct_keys nat_cmp_total nat_cmp-IsAntisymmetric (λ (s : Application). s.child) s.applications c.args.rows.applications
    (λ key row there. (well.base.applications_fit key row there).own_number) same.applications))

pub returns-clause-made : goal.returns-clause-made
returns-clause-made c s of = record {
  season = of.season;
  schools = subst (λ m. IsPermutation c.args.rows.schools (values m)) of.schools
      (rows_of_table nat_list_cmp_total code_cmp-IsAntisymmetric (λ (s : School). s.code) c.args.rows.schools c.in_ok-schools.schools c.in_ok-schools.ensures.made);
  children = subst (λ m. IsPermutation c.args.rows.children (values m)) of.children
      (rows_of_table nat_cmp_total nat_cmp-IsAntisymmetric (λ (s : Child). s.no) c.args.rows.children c.in_ok-children.children c.in_ok-children.ensures.made);
  applications = subst (λ m. IsPermutation c.args.rows.applications (values m)) of.applications
      (rows_of_table nat_cmp_total nat_cmp-IsAntisymmetric (λ (s : Application). s.child) c.args.rows.applications c.in_ok-applications.applications c.in_ok-applications.ensures.made);
}

pub returns-clause-only : goal.returns-clause-only
returns-clause-only c s well same = record {
  season = same.season;
  schools = sym (same_as_table nat_list_cmp_total code_cmp-IsAntisymmetric
      (λ (s : School). s.code) c.args.rows.schools c.in_ok-schools.schools c.in_ok-schools.ensures.made s.schools (λ key row there. (well.base.schools_fit key row there).own_code) same.schools);
  children = sym (same_as_table nat_cmp_total nat_cmp-IsAntisymmetric
      (λ (s : Child). s.no) c.args.rows.children c.in_ok-children.children c.in_ok-children.ensures.made s.children (λ key row there. (well.base.children_fit key row there).own_number) same.children);
  applications = sym (same_as_table nat_cmp_total nat_cmp-IsAntisymmetric
      (λ (s : Application). s.child) c.args.rows.applications c.in_ok-applications.applications c.in_ok-applications.ensures.made s.applications
      (λ key row there. (well.base.applications_fit key row there).own_number) same.applications);
}
