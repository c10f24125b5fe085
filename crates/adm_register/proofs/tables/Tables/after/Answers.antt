use Rattle.adm_register.proofs.tables.Tables.after.Goals as goal

pub returns : goal.returns
returns c =
    let base = c.in_ok-base_after.ensures in
    let course = c.in_ok-course_after.ensures in
    λ i. record {
      season = base.season i;
      schools = base.schools i;
      children = base.children i;
      applications = base.applications i;
      places = course.places i;
      left = course.left i;
      draws = course.draws i;
      imported = course.imported i;
    }
