-- An applicant of a round, and the same one in a later round by the same lots.
use Rattle.std.proofs.Common.{◌≡◌, ◌∙◌, ap, sym, refl, ℕ, ◌<◌, List, length, Option, Some, None, arith}
use Rattle.std.specs.Prelude.{All}
use Rattle.adm_lists.proofs.Members.{In}
use Rattle.adm_types.specs.declared.rows.Child.{Child}
use Rattle.adm_rank.specs.Ranking.{key_of}
use Rattle.adm_match.specs.Market.{Code, Candidate, preference_rank, assigned_rank, key_at}
use Rattle.adm_match.specs.Stability.{Allocation}
use Rattle.adm_round.specs.declared.applicants.Applicant.{Applicant}
use Rattle.adm_round.specs.declared.applicants.Site.{Site}
use Rattle.adm_round.specs.Round.{number_of, listed, IsListFit}
use Rattle.adm_round.specs.Ranks.{site_of, candidate_of}
use Rattle.adm_round.proofs.ListedSchools.{site_known}
use Rattle.adm_register.proofs.RoundLemmas.{listed_in}
use Rattle.adm_fairness.proofs.Again.{IsAgain}
use Rattle.adm_fairness.proofs.Codes.{rank_in}
use Rattle.adm_fairness.proofs.RoundPlaces.{rank_given}
use Rattle.adm_fairness.proofs.SameOrder.{key_listed, known, its_rank, its_length, its_given, is_on}
use Rattle.adm_fairness.proofs.Settled.{IsSettled}

-- by the same lot a child has the same key at the same school of both
abbrev pub KeepsKeys : List Site → List Site → Type 0
KeepsKeys places later =
    (child : Child) (lot : ℕ) (code : Code) (site now : Site) → site_of places code ≡ Some site → site_of later code ≡ Some now → key_of now.school child lot ≡ key_of site.school child lot

module _ (places later : List Site) (keys_kept : KeepsKeys places later) (xs ys : List Applicant) (fit : All (IsListFit places) xs) (fit' : All (IsListFit later) ys) (lot : Code → ℕ → ℕ)
    (a : Allocation) (x y : Applicant) (xt : In x xs) (yt : In y ys) (again : IsAgain a x y) where
  abbrev e : Candidate
  e = candidate_of (site_of places) lot x

  abbrev f : Candidate
  f = candidate_of (site_of later) lot y

  number : number_of y ≡ number_of x
  number = ap (λ (child : Child). child.no) again.child

  rank : (s : Code) → preference_rank e.list s ≡ rank_in (listed x) s
  rank = its_rank places xs fit lot x xt

  rank' : (s : Code) → preference_rank f.list s ≡ rank_in (listed y) s
  rank' = its_rank later ys fit' lot y yt

  long : length e.list ≡ length (listed x)
  long = its_length places xs fit lot x xt

  long' : length f.list ≡ length (listed y)
  long' = its_length later ys fit' lot y yt

  rank_of : (o : Option Code) → assigned_rank e.list o ≡ rank_given (listed x) o
  rank_of = its_given places xs fit lot x xt

  -- before what it was given its list is the same
  still_on : (s : Code) → preference_rank e.list s < assigned_rank e.list (a (number_of x)) → rank_in (listed y) s ≡ rank_in (listed x) s
      → (o : Option Code) → a (number_of x) ≡ o → preference_rank f.list s < length f.list
  still_on s less equal None is = omega (arith, less, ap (assigned_rank e.list) is, long, long', again.front.whole is, rank s, rank' s, equal)
  still_on s less equal (Some t) is =
      let last = again.front.upto t (omega (arith, ap (rank_given (listed x)) is)) in
      omega (arith, less, ap (assigned_rank e.list) is, again.front.there t is, last, long', rank s, rank' s, rank t, equal)

  same_key : (s : Code) → preference_rank e.list s < assigned_rank e.list (a (number_of x)) → key_at f.list s ≡ key_at e.list s
  same_key s less =
      let equal = again.front.upto s (omega (arith, less, rank s, rank_of (a (number_of x)))) in
      let on' = still_on s less equal (a (number_of x)) refl in
      let on : preference_rank e.list s < length e.list = omega (arith, on', rank s, rank' s, equal, long, long', again.front.shorter) in
      let x_lists = is_on places xs fit lot x xt s on in
      let y_lists = is_on later ys fit' lot y yt s on' in
      let it = site_known places s (known places xs fit x xt s (listed_in (listed x) s x_lists)) in
      let now = site_known later s (known later ys fit' y yt s (listed_in (listed y) s y_lists)) in
      key_listed later lot y.child (listed y) s now.site now.found (known later ys fit' y yt) y_lists
      ∙ (ap (λ (c : Child). Some (key_of now.site.school c (lot s c.no))) again.child
      ∙ (ap Some (keys_kept x.child (lot s (number_of x)) s it.site now.site it.found now.found)
      ∙ sym (key_listed places lot x.child (listed x) s it.site it.found (known places xs fit x xt) x_lists)))

  pub settled : IsSettled a e f
  settled = record {
    child = number;
    tenant = again.own;
    shorter = omega (arith, long, long', again.front.shorter);
    whole = λ none. omega (arith, long, long', again.front.whole none);
    there = λ s is. omega (arith, again.front.there s is, rank' s, long');
    upto = λ s le. (let equal = again.front.upto s (omega (arith, le, rank s, rank_of (a (number_of x)))) in omega (arith, equal, rank s, rank' s));
    back = λ s less. (let equal = again.front.back s (omega (arith, less, rank' s, long')) in omega (arith, equal, rank s, rank' s));
    keys = same_key;
  }
