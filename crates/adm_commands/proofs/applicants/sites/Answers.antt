use Rattle.std.proofs.Common.{◌∙◌, ap, map, ◌-◌, List}
use Rattle.std.specs.Prelude.{filter, count_by, nat_eq}
use Rattle.std.specs.Cmp.Lexicographic.{pointwise}
use Rattle.std.specs.FinMap.{values}
use Rattle.std.proofs.lemmas.Result.{MatchResult-weaker}
use Rattle.adm_types.specs.declared.rows.School.{School}
use Rattle.adm_types.specs.declared.rows.PlaceRow.{PlaceRow}
use Rattle.adm_round.specs.declared.applicants.Site.{Site}
use Rattle.adm_register.specs.State.{is_plan}
use Rattle.adm_commands.proofs.SiteLemmas.{sites_by_plans}
use Rattle.adm_commands.proofs.applicants.sites.Goals as goal

pub returns : goal.returns
returns c =
    let s = c.args.old.now in
    let schools = c.deref-2.ensures.value ∙ c.in_ok-schools.ensures in
    let places = c.deref.ensures.value ∙ c.in_ok-places.ensures in
    let plans = c.deref-3.ensures.value ∙ c.in_ok-plans.ensures
    ∙ ap (λ (rows : List PlaceRow). map (λ (row : PlaceRow). row.place.school) (filter (λ (row : PlaceRow). is_plan row.place.state) rows)) places in
    MatchResult-weaker c.sites_of.result c.sites_of.ensures
    (λ found made.
    made ∙ (λ i. map {A = School} {B = Site} (λ school. record { school = school; quota = school.pan - count_by (λ code. pointwise nat_eq code school.code) (plans i) }) (schools i))
    ∙ sites_by_plans s.places (values s.schools))
    (λ e _. tt)
