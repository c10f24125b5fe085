-- More places before a round never hurt an applicant in it.
use Rattle.std.proofs.Common.{◌≡◌, ℕ, ◌≤◌, List, [], ◌∷◌, map, Some, true, false, cond, inl, inr, refl, sym, ap, ◌∙◌, subst, arith}
use Rattle.std.specs.Prelude.{All, Any, bytes_eq, find, option_map, unwrap_or}
use Rattle.std.specs.List.{AllZip, cons_option}
use Rattle.std.proofs.lemmas.Bool.{cases_Bool}
use Rattle.adm_types.specs.declared.rows.School.{School}
use Rattle.adm_types.specs.declared.rows.Child.{Child}
use Rattle.adm_rank.specs.Class.{class_of}
use Rattle.adm_rank.specs.Distance.{distance_of}
use Rattle.adm_rank.specs.Ranking.{key_of}
use Rattle.adm_match.specs.declared.problem.Wish.{Wish}
use Rattle.adm_match.specs.declared.problem.Seats.{Seats}
use Rattle.adm_match.specs.Market.{Code, Candidate, quota_of}
use Rattle.adm_match_laws.specs.Generous.{IsCutFrom, IsAsGenerous, IsNoWorse, NoLoss, KindsOfGenerosity}
use Rattle.adm_round.specs.declared.applicants.Site.{Site}
use Rattle.adm_round.specs.Round.{code_of_site, number_of, listed}
use Rattle.adm_round.specs.Ranks.{site_of, lot_at, wish_at, wishes_for, seats_of, market_of_round}
use Rattle.adm_round.proofs.Faultless.{faultless}
use Rattle.adm_fairness.specs.Raises.{with_pan, IsRaised, NoLossByQuotas}

-- the class of a child does not depend on the admission number
class_same : (s : School) (pan : ℕ) (child : Child) → class_of (with_pan s pan) child ≡ class_of s child
unfolding class_of
class_same s pan child = refl

key_same : (s : School) (pan : ℕ) (child : Child) (lot : ℕ) → key_of (with_pan s pan) child lot ≡ key_of s child lot
key_same s pan child lot = λ i. record { class = class_same s pan child i; distance = distance_of s.at child.home; lot = lot }

code_same : (was now : Site) → IsRaised was now → code_of_site now ≡ code_of_site was
code_same was now h = ap (λ (s : School). s.code) h.school

wish_same : (lot : Code → ℕ → ℕ) (child : Child) (was now : Site) → IsRaised was now → wish_at lot child now ≡ wish_at lot child was
wish_same lot child was now h =
    let wish : School → Wish = λ s. record { school = s.code; key = key_of s child (lot s.code child.no) } in
    let raised : wish now.school ≡ wish (with_pan was.school now.school.pan) = ap wish h.school in
    raised ∙ (λ i. record { school = was.school.code; key = key_same was.school now.school.pan child (lot was.school.code child.no) i })

site_same : (lot : Code → ℕ → ℕ) (child : Child) (code : Code) (sites raised : List Site) → AllZip IsRaised sites raised
    → option_map (wish_at lot child) (site_of raised code) ≡ option_map (wish_at lot child) (site_of sites code)
site_same lot child code [] [] h = refl
site_same lot child code [] (y ∷ ys) h = absurd h
site_same lot child code (x ∷ xs) [] h = absurd h
site_same lot child code (x ∷ xs) (y ∷ ys) h = elim (cases_Bool (bytes_eq (code_of_site x) code)) [
  | inl hit ↦
      ap (λ b. option_map (wish_at lot child) (cond b (Some y) (site_of ys code))) (ap (λ c. bytes_eq c code) (code_same x y h.0) ∙ hit)
      ∙ (ap Some (wish_same lot child x y h.0)
      ∙ sym (ap (λ b. option_map (wish_at lot child) (cond b (Some x) (site_of xs code))) hit))
  | inr miss ↦
      ap (λ b. option_map (wish_at lot child) (cond b (Some y) (site_of ys code))) (ap (λ c. bytes_eq c code) (code_same x y h.0) ∙ miss)
      ∙ (site_same lot child code xs ys h.1
      ∙ sym (ap (λ b. option_map (wish_at lot child) (cond b (Some x) (site_of xs code))) miss))
]

wishes_same : (lot : Code → ℕ → ℕ) (child : Child) (codes : List Code) (sites raised : List Site) → AllZip IsRaised sites raised
    → wishes_for (site_of raised) lot child codes ≡ wishes_for (site_of sites) lot child codes
wishes_same lot child [] sites raised h = refl
wishes_same lot child (code ∷ codes) sites raised h =
    λ i. cons_option (site_same lot child code sites raised h i) (wishes_same lot child codes sites raised h i)

-- the places of a school, where it is the first of the sites, and where it is not
quota_here : (site : Site) (sites : List Site) (code : Code) → bytes_eq (code_of_site site) code ≡ true → quota_of (map seats_of (site ∷ sites)) code ≡ site.quota
quota_here site sites code hit =
    ap (λ b. unwrap_or (option_map (λ (seat : Seats). seat.quota) (cond b (Some (seats_of site)) (find (λ (seat : Seats). bytes_eq seat.code code) (map seats_of sites)))) 0) hit

quota_there : (site : Site) (sites : List Site) (code : Code) → bytes_eq (code_of_site site) code ≡ false → quota_of (map seats_of (site ∷ sites)) code ≡ quota_of (map seats_of sites) code
quota_there site sites code miss =
    ap (λ b. unwrap_or (option_map (λ (seat : Seats). seat.quota) (cond b (Some (seats_of site)) (find (λ (seat : Seats). bytes_eq seat.code code) (map seats_of sites)))) 0) miss

more_places : (code : Code) (sites raised : List Site) → AllZip IsRaised sites raised → quota_of (map seats_of sites) code ≤ quota_of (map seats_of raised) code
more_places code [] [] h = omega arith
more_places code [] (y ∷ ys) h = absurd h
more_places code (x ∷ xs) [] h = absurd h
more_places code (x ∷ xs) (y ∷ ys) h = elim (cases_Bool (bytes_eq (code_of_site x) code)) [
  | inl hit ↦ omega (arith, quota_here x xs code hit, quota_here y ys code (ap (λ c. bytes_eq c code) (code_same x y h.0) ∙ hit), h.0.quota)
  | inr miss ↦ omega (arith, quota_there x xs code miss, quota_there y ys code (ap (λ c. bytes_eq c code) (code_same x y h.0) ∙ miss), more_places code xs ys h.1)
]

pub no_loss_by_quotas_law : KindsOfGenerosity → NoLoss → NoLossByQuotas
no_loss_by_quotas_law kinds law sites raised applicants lots before after first second more posed =
    let m = market_of_round sites applicants lots in
    let now = market_of_round raised applicants lots in
    let same : now.entrants ≡ m.entrants
    = λ i. map (λ a. record { child = number_of a; list = wishes_same (lot_at lots) a.child (listed a) sites raised more i; tenant = a.own }) applicants in
    let wide : IsAsGenerous now m = record {
      entrants = subst (λ (es : List Candidate). All (λ e. Any (IsCutFrom e) m.entrants) es) (sym same) (kinds.itself m).entrants;
      places = λ code. more_places code sites raised more;
    } in
    subst (λ (es : List Candidate). IsNoWorse es second.allocation first.allocation) same
    (law now m second.allocation first.allocation (faultless raised applicants lots posed) wide second.best first.best.stable)
