use Rattle.std.proofs.Common.{refl, sym}
use Rattle.std.proofs.lemmas.Result.{err_from_is_err_and}
use Rattle.adm_register.specs.Groups.{state_of}
use Rattle.adm_register.proofs.SameFault.{same_fault}
use Rattle.adm_register.proofs.tables.Tables.of_rows.Goals as goal

pub returns-in_err-base-clause-repeated : goal.returns-in_err-base-clause-repeated
returns-in_err-base-clause-repeated c =
    let p = err_from_is_err_and c.from_residual.result c.from_residual.ensures.1 in
    rw (p.1, p.2) (λ bad state well same.
    c.in_err-base.ensures.repeated (same_fault _ _ bad) state well (record { season = same.season; schools = same.schools; children = same.children; applications = same.applications }))

pub returns-in_err-course-clause-repeated : goal.returns-in_err-course-clause-repeated
returns-in_err-course-clause-repeated c =
    let p = err_from_is_err_and c.from_residual-in_err-course.result c.from_residual-in_err-course.ensures.1 in
    rw (p.1, p.2) (λ bad state well same.
    c.in_err-course.ensures.repeated (same_fault _ _ bad) state well (record { places = same.places; left = same.left; draws = same.draws; imported = same.imported }))

pub returns-clause-made : goal.returns-clause-made
returns-clause-made c =
    let tables = state_of c.in_ok-base.base c.in_ok-course.course in
    let first = c.in_ok-base.ensures.made tables (record { season = refl; schools = refl; children = refl; applications = refl }) in
    let others = c.in_ok-course.ensures.made tables (record { places = refl; left = refl; draws = refl; imported = refl }) in (
      record {
        season = first.season;
        schools = first.schools;
        children = first.children;
        applications = first.applications;
        places = others.places;
        left = others.left;
        draws = others.draws;
        imported = others.imported;
      },
      λ state well same.
          let base = c.in_ok-base.ensures.only state well (record { season = same.season; schools = same.schools; children = same.children; applications = same.applications }) in
          let course = c.in_ok-course.ensures.only state well (record { places = same.places; left = same.left; draws = same.draws; imported = same.imported }) in
          λ i. record {
            season = sym base.season i;
            schools = sym base.schools i;
            children = sym base.children i;
            applications = sym base.applications i;
            places = sym course.places i;
            left = sym course.left i;
            draws = sym course.draws i;
            imported = sym course.imported i;
          },
    )
