use Rattle.adm_register.proofs.tables.Tables.rows.Goals as goal

pub returns : goal.returns
returns c =
    let base = c.in_ok-base.ensures in
    let course = c.in_ok-course.ensures in
    λ i. record {
      season = (base i).season;
      schools = (base i).schools;
      children = (base i).children;
      applications = (base i).applications;
      places = (course i).places;
      left = (course i).left;
      draws = (course i).drawn.draws;
      offers = (course i).drawn.offers;
      lots = (course i).drawn.lots;
      imported = (course i).imported;
    }
