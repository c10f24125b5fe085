-- A later register: its schools have the same numbers or larger ones, and so the same keys and no fewer places.
use Rattle.std.proofs.Common.{◌≡◌, ◌∙◌, ap, sym, refl, ℕ, ◌-◌, ◌≤◌, Option, Some, None, map, arith}
use Rattle.std.specs.Prelude.{bytes_eq, find, option_map, unwrap_or}
use Rattle.std.specs.FinMap.{get}
use Rattle.std.proofs.lemmas.Option.{same_Some}
use Rattle.std.proofs.lemmas.Slice.Eq.{bytes_eq-Decides}
use Rattle.adm_lists.proofs.Members.{find_gives, from_map}
use Rattle.adm_types.specs.declared.rows.School.{School}
use Rattle.adm_types.specs.declared.rows.Child.{Child}
use Rattle.adm_rank.specs.Class.{class_of}
use Rattle.adm_rank.specs.Ranking.{key_of}
use Rattle.adm_match.specs.declared.problem.Seats.{Seats}
use Rattle.adm_match.specs.Market.{Code, quota_of}
use Rattle.adm_round.specs.declared.applicants.Site.{Site}
use Rattle.adm_round.specs.Ranks.{site_of, seats_of}
use Rattle.adm_round.specs.Round.{code_of_site}
use Rattle.adm_register.specs.State.{State}
use Rattle.adm_register.specs.WellFormed.{WellFormed}
use Rattle.adm_commands.specs.Commands.Round.{sites, plans_at}
use Rattle.adm_commands.proofs.RoundEntrants.{site_is}
use Rattle.adm_fairness.proofs.Taking.{quota_at, school_at}

-- the school is there, by the same number or a larger one
pub record IsStill (school : School) (found : Option School) : Type 0 where
  pub pan : ℕ
  pub most : school.pan ≤ pan
  pub is : found ≡ Some (record school { pan = pan })

-- A later register: the same children, applications and places of plans, the same schools by the same numbers or larger ones.
pub record IsBuilt (s t : State) : Type 0 where
  pub children : t.children ≡ s.children
  pub applications : t.applications ≡ s.applications
  pub plans : (school : Code) → plans_at t.places school ≡ plans_at s.places school
  pub schools : (code : Code) (school : School) → get s.schools code ≡ Some school → IsStill school (get t.schools code)

-- ---- one after another

pub same_school : (school : School) (found : Option School) → found ≡ Some school → IsStill school found
same_school school found is = record { pan = school.pan; most = omega arith; is = is }

pub built_itself : (s : State) → IsBuilt s s
built_itself s = record { children = refl; applications = refl; plans = λ school. refl; schools = λ code school there. same_school school (get s.schools code) there }

pub built_on : (r s t : State) → IsBuilt r s → IsBuilt s t → IsBuilt r t
built_on r s t first second = record {
  children = second.children ∙ first.children;
  applications = second.applications ∙ first.applications;
  plans = λ school. second.plans school ∙ first.plans school;
  schools = λ code school there.
      let one = first.schools code school there in
      let other = second.schools code (record school { pan = one.pan }) one.is in
      record { pan = other.pan; most = omega (arith, one.most, other.most); is = other.is };
}

-- ---- keys and places

-- the admission number has no part in a key
pub key_with_pan : (school : School) (pan lot : ℕ) (child : Child) → key_of (record school { pan = pan }) child lot ≡ key_of school child lot
unfolding class_of
key_with_pan school pan lot child = refl

pub keys_still : (s t : State) → WellFormed s → WellFormed t → IsBuilt s t → (child : Child) (lot : ℕ) (code : Code) (site now : Site)
    → site_of (sites s) code ≡ Some site → site_of (sites t) code ≡ Some now → key_of now.school child lot ≡ key_of site.school child lot
keys_still s t well well' built child lot code site now at at' =
    let still = built.schools code site.school (school_at s well code site at) in
    let same : now.school ≡ record site.school { pan = still.pan } = same_Some now.school (record site.school { pan = still.pan }) (sym (school_at t well' code now at') ∙ still.is) in
    ap (λ (z : School). key_of z child lot) same ∙ key_with_pan site.school still.pan lot child

-- no school has fewer places
pub more_places : (s t : State) → WellFormed s → WellFormed t → IsBuilt s t → (code : Code) → quota_of (map seats_of (sites s)) code ≤ quota_of (map seats_of (sites t)) code
more_places s t well well' built code = by (find (λ (seat : Seats). bytes_eq seat.code code) (map seats_of (sites s))) refl
  where
    by : (found : Option Seats) → find (λ (seat : Seats). bytes_eq seat.code code) (map seats_of (sites s)) ≡ found → quota_of (map seats_of (sites s)) code ≤ quota_of (map seats_of (sites t)) code
    by None none =
        let zero' : quota_of (map seats_of (sites s)) code ≡ 0 = ap (λ (o : Option Seats). unwrap_or (option_map (λ (seat : Seats). seat.quota) o) 0) none in
        omega (arith, zero')
    by (Some seat) is =
        let gives = find_gives (λ (seat : Seats). bytes_eq seat.code code) (map seats_of (sites s)) seat is in
        let from = from_map seats_of (sites s) seat gives.0 in
        let at_code : code_of_site from.0 ≡ code = ap (λ (x : Seats). x.code) from.2 ∙ (bytes_eq-Decides seat.code code).0 gives.1 in
        let there : get s.schools code ≡ Some from.0.school = ap (get s.schools) (sym at_code) ∙ (site_is s well from.0 from.1).0 in
        let still = built.schools code from.0.school there in
        let was : quota_of (map seats_of (sites s)) code ≡ from.0.school.pan - plans_at s.places from.0.school.code = quota_at s well code from.0.school there in
        let now : quota_of (map seats_of (sites t)) code ≡ still.pan - plans_at t.places from.0.school.code = quota_at t well' code (record from.0.school { pan = still.pan }) still.is in
        omega (arith, was, now, still.most, built.plans from.0.school.code)
