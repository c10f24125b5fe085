-- Who takes part in a round: each has an application, and is at the places and wants the schools that its rows say.
use Rattle.std.proofs.Common.{◌≡◌, ◌∙◌, ap, sym, refl, cond, Bool, true, false, ℕ, List, Option, Some, None}
use Rattle.std.specs.Prelude.{is_some, nat_eq, option_map}
use Rattle.std.specs.Cmp.{nat_cmp_total}
use Rattle.std.specs.Cmp.Lexicographic.{nat_list_cmp_total, pointwise, bytes_decides}
use Rattle.std.specs.FinMap.{get, values, contains_key, nat_cmp-IsAntisymmetric}
use Rattle.std.proofs.lemmas.Bool.{false≢true}
use Rattle.std.proofs.lemmas.Option.{same_Some, none-some}
use Rattle.adm_lists.proofs.Members.{In, All_in, any_in, from_map, in_map, from_filter_map, in_filter_map}
use Rattle.adm_lists.proofs.Maps.{in_values}
use Rattle.adm_types.specs.Limits.{is_listed}
use Rattle.adm_types.specs.declared.rows.School.{School}
use Rattle.adm_types.specs.declared.rows.Child.{Child}
use Rattle.adm_types.specs.declared.rows.Application.{Application}
use Rattle.adm_types.specs.declared.draws.Lot.{Lot}
use Rattle.adm_match.specs.Market.{Code}
use Rattle.adm_round.specs.declared.applicants.Applicant.{Applicant}
use Rattle.adm_round.specs.declared.applicants.Site.{Site}
use Rattle.adm_round.specs.Round.{code_of_site, number_of, listed, is_site, IsListFit, IsPosed}
use Rattle.adm_register.specs.State.{State}
use Rattle.adm_commands.specs.Commands.Round.{takes_part, applicant_of, round_applicants, quota, sites}
use Rattle.adm_register.specs.Wanted.{wanted_of, own_school}
use Rattle.adm_register.specs.WellFormed.{WellFormed}
use Rattle.adm_register.proofs.Maps.{code_cmp-IsAntisymmetric}
use Rattle.adm_register.proofs.RoundLemmas.{listed_in}
use Rattle.adm_register.proofs.RoundKeys.{from_values}

-- an applicant is the child of an application, and has and wants what the register says
pub record IsEntrant (old : State) (applicant : Applicant) : Type 0 where
  pub application : Application
  pub applied : get old.applications (number_of applicant) ≡ Some application
  pub numbered : application.child ≡ number_of applicant
  pub child : contains_key old.children (number_of applicant) ≡ true
  pub wanted : applicant.wanted ≡ wanted_of old application
  pub own : applicant.own ≡ own_school (get old.places (number_of applicant))

made : (b : Bool) (o : Option Child) (wanted : List Code) (own : Option Code) (applicant : Applicant)
    → cond b (option_map (λ child. record { child = child; wanted = wanted; own = own }) o) None ≡ Some applicant
    → (o ≡ Some applicant.child) × (wanted ≡ applicant.wanted) × (own ≡ applicant.own)
made false o wanted own applicant e = absurd (none-some applicant e)
made true None wanted own applicant e = absurd (none-some applicant e)
made true (Some child) wanted own applicant e =
    let it : Applicant = record { child = child; wanted = wanted; own = own } in
    let same : it ≡ applicant = same_Some it applicant e in
    (ap (λ (a : Applicant). Some a.child) same, ap (λ (a : Applicant). a.wanted) same, ap (λ (a : Applicant). a.own) same)

module _ (old : State) (well : WellFormed old) where
  pub entrant_is : (applicant : Applicant) → In applicant (round_applicants old) → IsEntrant old applicant
  entrant_is applicant at =
      let found = from_filter_map (applicant_of old) (values old.applications) applicant at in
      let application = found.0 in
      let parts = made (takes_part old application) (get old.children application.child) (wanted_of old application) (own_school (get old.places application.child)) applicant found.2 in
      let there = from_values nat_cmp_total nat_cmp-IsAntisymmetric old.applications (λ (a : Application). a.child)
      (λ number row here. (well.base.applications_fit number row here).own_number) application found.1 in
      let number : number_of applicant ≡ application.child = (well.base.children_fit application.child applicant.child parts.0).own_number in
      record {
        application = application;
        applied = ap (get old.applications) number ∙ there;
        numbered = sym number;
        child = ap (contains_key old.children) number ∙ ap is_some parts.0;
        wanted = sym parts.1;
        own = sym parts.2 ∙ ap (λ n. own_school (get old.places n)) (sym number);
      }

  -- each application of an entrant is that of an applicant
  pub applicant_there : (number : ℕ) (application : Application) → get old.applications number ≡ Some application → takes_part old application ≡ true
      → (applicant : Applicant) × In applicant (round_applicants old) × (number_of applicant ≡ number)
  applicant_there number application there part =
      let fits = well.base.applications_fit number application there in
      elim (get old.children application.child) as (λ o. get old.children application.child ≡ o → (applicant : Applicant) × In applicant (round_applicants old) × (number_of applicant ≡ number)) [
        | None ↦ λ e. absurd (false≢true (sym (ap is_some e) ∙ fits.child))
        | Some child ↦ λ e.
            let applicant : Applicant = record { child = child; wanted = wanted_of old application; own = own_school (get old.places application.child) } in
            let is : applicant_of old application ≡ Some applicant =
            λ i. cond (part i) (option_map (λ (c : Child). record { child = c; wanted = wanted_of old application; own = own_school (get old.places application.child) }) (e i)) None in (
              applicant,
              in_filter_map (applicant_of old) (values old.applications) application applicant (in_values nat_cmp_total nat_cmp-IsAntisymmetric old.applications number application there) is,
              (well.base.children_fit application.child child e).own_number ∙ fits.own_number,
            )
      ] refl

  -- a site is one of a school, with its admission number less the places of plans
  pub site_is : (site : Site) → In site (sites old) → (get old.schools (code_of_site site) ≡ Some site.school) × (site.quota ≡ quota old site.school)
  site_is site at =
      let found = from_map (λ school. record { school = school; quota = quota old school }) (values old.schools) site at in
      let there = from_values nat_list_cmp_total code_cmp-IsAntisymmetric old.schools (λ (s : School). s.code) (λ code row here. (well.base.schools_fit code row here).own_code) found.0 found.1 in (
        ap (λ (s : Site). get old.schools s.school.code) (sym found.2) ∙ there ∙ ap (λ (s : Site). Some s.school) found.2,
        ap (λ (s : Site). s.quota) (sym found.2) ∙ ap (λ (s : Site). quota old s.school) found.2,
      )

  -- and each school has one
  pub has_site : (code : Code) (school : School) → get old.schools code ≡ Some school → In (record { school = school; quota = quota old school }) (sites old)
  has_site code school there = in_map (λ s. record { school = s; quota = quota old s }) (values old.schools) school
      (in_values nat_list_cmp_total code_cmp-IsAntisymmetric old.schools code school there)

  -- each school that an applicant lists is there
  pub school_there : (lots : List Lot) → IsPosed (sites old) (round_applicants old) lots → (applicant : Applicant) (code : Code) → In applicant (round_applicants old)
      → is_listed (listed applicant) code ≡ true → contains_key old.schools code ≡ true
  school_there lots posed applicant code at lists =
      let known = All_in (λ other. is_site (sites old) other ≡ true) (listed applicant) code
      (All_in (IsListFit (sites old)) (round_applicants old) applicant posed.lists_fit at).known (listed_in (listed applicant) code lists) in
      let found = any_in (λ site. pointwise nat_eq (code_of_site site) code) (sites old) known in
      ap (contains_key old.schools) (sym ((bytes_decides (code_of_site found.0) code).0 found.2)) ∙ ap is_some (site_is found.0 found.1).0
