-- Who takes part in a round, and by which key a child ranks in it.
use Rattle.std.proofs.Common.{◌≡◌, ◌∙◌, ap, sym, subst, Bool, true, List, Option, Some, map, [], ◌∷◌, inl, inr, refl, ℕ}
use Rattle.std.specs.Prelude.{bytes_eq, option_map, option_and_then, unwrap_or}
use Rattle.std.specs.List.{cons_option}
use Rattle.std.specs.Cmp.{nat_cmp_total}
use Rattle.std.specs.FinMap.{get, values, nat_cmp-IsAntisymmetric}
use Rattle.std.proofs.lemmas.Option.{same_Some}
use Rattle.std.proofs.lemmas.Slice.Eq.{bytes_eq-Decides}
use Rattle.adm_lists.proofs.Members.{In, All_in, in_map, from_map, in_filter_map, from_filter_map, finds, find_gives}
use Rattle.adm_types.specs.declared.rows.School.{School}
use Rattle.adm_types.specs.declared.rows.Application.{Application}
use Rattle.adm_types.specs.declared.rows.Child.{Child}
use Rattle.adm_types.specs.declared.draws.Lot.{Lot}
use Rattle.adm_rank.specs.Ranking.{key_of}
use Rattle.adm_match.specs.declared.problem.Wish.{Wish}
use Rattle.adm_match.specs.declared.problem.Seats.{Seats}
use Rattle.adm_match.specs.Market.{Code, quota_of}
use Rattle.adm_round.specs.declared.applicants.Applicant.{Applicant}
use Rattle.adm_round.specs.declared.applicants.Site.{Site}
use Rattle.adm_round.specs.Round.{code_of_site, number_of, listed, is_site, IsListFit, IsPosed}
use Rattle.adm_round.specs.Ranks.{site_of, lot_at, wish_at, wishes_for, seats_of}
use Rattle.adm_round.proofs.ListedSchools.{site_known}
use Rattle.adm_register.specs.State.{State}
use Rattle.adm_register.specs.Wanted.{wanted_of, own_school}
use Rattle.adm_register.specs.WellFormed.{WellFormed}
use Rattle.adm_register.proofs.RoundKeys.{from_values}
use Rattle.adm_commands.specs.Commands.Round.{takes_part, applicant_of, round_applicants, quota, sites}
use Rattle.adm_commands.proofs.Posed.{of_application}
use Rattle.adm_commands.proofs.RoundEntrants.{applicant_there, site_is, has_site}
use Rattle.adm_fairness.specs.Rounds.{key_in}

-- the applicant of an application in a round
pub record IsTaking (old : State) (application : Application) (applicant : Applicant) : Type 0 where
  pub among : In applicant (round_applicants old)
  pub applied : get old.applications application.child ≡ Some application
  pub number : number_of applicant ≡ application.child
  pub there : get old.children application.child ≡ Some applicant.child
  pub wanted : applicant.wanted ≡ wanted_of old application
  pub own : applicant.own ≡ own_school (get old.places application.child)

module _ (old : State) (well : WellFormed old) where
  pub taking_of : (applicant : Applicant) → In applicant (round_applicants old) → (application : Application) × IsTaking old application applicant
  taking_of applicant at =
      let found = from_filter_map (applicant_of old) (values old.applications) applicant at in
      let application = found.0 in
      let there = from_values nat_cmp_total nat_cmp-IsAntisymmetric old.applications (λ (a : Application). a.child)
      (λ number row here. (well.base.applications_fit number row here).own_number) application found.1 in
      let part = of_application old application applicant found.2 in (
        application,
        record {
          among = at;
          applied = there;
          number = ap number_of part.is ∙ (well.base.children_fit application.child part.child part.there).own_number;
          there = part.there ∙ ap Some (sym (ap (λ (a : Applicant). a.child) part.is));
          wanted = ap (λ (a : Applicant). a.wanted) part.is;
          own = ap (λ (a : Applicant). a.own) part.is;
        },
      )

  pub taking : (application : Application) → get old.applications application.child ≡ Some application → takes_part old application ≡ true
      → (applicant : Applicant) × IsTaking old application applicant
  taking application there part =
      let found = applicant_there old well application.child application there part in
      let one = taking_of found.0 found.1 in
      let numbers : one.0.child ≡ application.child = sym one.1.number ∙ found.2 in
      let same : one.0 ≡ application = same_Some one.0 application (sym one.1.applied ∙ (ap (get old.applications) numbers ∙ there)) in
      (found.0, subst (λ a. IsTaking old a found.0) same one.1)

  -- the school of a site
  pub school_at : (code : Code) (site : Site) → site_of (sites old) code ≡ Some site → get old.schools code ≡ Some site.school
  school_at code site found =
      let at = find_gives (λ (z : Site). bytes_eq (code_of_site z) code) (sites old) site found in
      ap (get old.schools) (sym ((bytes_eq-Decides (code_of_site site) code).0 at.1)) ∙ (site_is old well site at.0).0

  -- the places of a school in the problem of a round
  pub quota_at : (code : Code) (school : School) → get old.schools code ≡ Some school → quota_of (map seats_of (sites old)) code ≡ quota old school
  quota_at code school there =
      let site : Site = record { school = school; quota = quota old school } in
      let own = (well.base.schools_fit code school there).own_code in
      let test : Seats → Bool = λ seat. bytes_eq seat.code code in
      let hit = finds test (map seats_of (sites old)) (seats_of site) (in_map seats_of (sites old) site (has_site old well code school there)) ((bytes_eq-Decides school.code code).1 own) in
      let gives = find_gives test (map seats_of (sites old)) hit.0 hit.1 in
      let from = from_map seats_of (sites old) hit.0 gives.0 in
      let it = site_is old well from.0 from.1 in
      let at_code : code_of_site from.0 ≡ code = ap (λ (s : Seats). s.code) from.2 ∙ (bytes_eq-Decides hit.0.code code).0 gives.1 in
      let same : from.0.school ≡ school = same_Some from.0.school school (sym it.0 ∙ (ap (get old.schools) at_code ∙ there)) in
      ap (λ (o : Option Seats). unwrap_or (option_map (λ (seat : Seats). seat.quota) o) 0) hit.1
      ∙ (sym (ap (λ (s : Seats). s.quota) from.2) ∙ (it.1 ∙ ap (quota old) same))

  module _ (lots : List Lot) (posed : IsPosed (sites old) (round_applicants old) lots) (applicant : Applicant) (at : In applicant (round_applicants old)) where
    abbrev pub wishes : List Wish
    wishes = wishes_for (site_of (sites old)) (lot_at lots) applicant.child (listed applicant)

    known : (code : Code) → In code (listed applicant) → is_site (sites old) code ≡ true
    known code listed_there = All_in (λ c. is_site (sites old) c ≡ true) (listed applicant) code (All_in (IsListFit (sites old)) (round_applicants old) applicant posed.lists_fit at).known listed_there

    -- the wish of a school of the list
    pub record IsWishAt (code : Code) (wish : Wish) : Type 0 where
      pub among : In wish wishes
      pub at_school : wish.school ≡ code
      pub made : option_map (wish_at (lot_at lots) applicant.child) (site_of (sites old) code) ≡ Some wish
      pub school : School
      pub there : get old.schools code ≡ Some school
      pub key : wish.key ≡ key_of school applicant.child (lot_at lots code (number_of applicant))

    pub wish_there : (code : Code) → In code (listed applicant) → (wish : Wish) × IsWishAt code wish
    wish_there code listed_there =
        let site = site_known (sites old) code (known code listed_there) in
        let wish : Wish = wish_at (lot_at lots) applicant.child site.site in
        let made : option_map (wish_at (lot_at lots) applicant.child) (site_of (sites old) code) ≡ Some wish = ap (option_map (wish_at (lot_at lots) applicant.child)) site.found in
        let it = site_is old well site.site site.among in (
          wish,
          record {
            among = in_filter_map (λ c. option_map (wish_at (lot_at lots) applicant.child) (site_of (sites old) c)) (listed applicant) code wish listed_there made;
            at_school = site.at_code;
            made = made;
            school = site.site.school;
            there = ap (get old.schools) (sym site.at_code) ∙ it.0;
            key = ap (λ c. key_of site.site.school applicant.child (lot_at lots c (number_of applicant))) site.at_code;
          },
        )

  -- the key of a wish is that of its child in the register
  pub key_of_wish : (lots : List Lot) (posed : IsPosed (sites old) (round_applicants old) lots) (application : Application) (applicant : Applicant) (taking : IsTaking old application applicant)
      (code : Code) (wish : Wish) → IsWishAt lots posed applicant taking.among code wish → key_in old lots code application.child ≡ Some wish.key
  key_of_wish lots posed application applicant taking code wish it =
      (λ i. option_and_then (λ (school : School). option_map (λ (row : Child). key_of school row (lot_at lots code application.child)) (taking.there i)) (it.there i))
      ∙ ap Some (ap (λ n. key_of it.school applicant.child (lot_at lots code n)) (sym taking.number) ∙ sym it.key)

-- the same lots at the schools of a list make the same wishes
pub same_wishes : (places : List Site) (lot lot' : Code → ℕ → ℕ) (child : Child) (codes : List Code) → ((code : Code) → In code codes → is_site places code ≡ true)
    → ((code : Code) → In code codes → lot' code child.no ≡ lot code child.no) → wishes_for (site_of places) lot' child codes ≡ wishes_for (site_of places) lot child codes
same_wishes places lot lot' child [] known same = refl
same_wishes places lot lot' child (code ∷ codes) known same =
    let site = site_known places code (known code (inl refl)) in
    let there : lot' (code_of_site site.site) child.no ≡ lot (code_of_site site.site) child.no =
    ap (λ c. lot' c child.no) site.at_code ∙ (same code (inl refl) ∙ ap (λ c. lot c child.no) (sym site.at_code)) in
    let wish : wish_at lot' child site.site ≡ wish_at lot child site.site = ap (λ n. record { school = code_of_site site.site; key = key_of site.site.school child n }) there in
    ap (λ o. cons_option (option_map (wish_at lot' child) o) (wishes_for (site_of places) lot' child codes)) site.found
    ∙ ((λ i. wish i ∷ same_wishes places lot lot' child codes (λ c at. known c (inr at)) (λ c at. same c (inr at)) i)
    ∙ sym (ap (λ o. cons_option (option_map (wish_at lot child) o) (wishes_for (site_of places) lot child codes)) site.found))
