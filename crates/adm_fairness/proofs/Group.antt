-- Two registers whose next rounds differ in the children of a group alone, who have no place in the second: not each of them gains.
use Rattle.std.proofs.Common.{◌≡◌, ◌∙◌, ap, sym, subst, refl, Bool, true, ℕ, ◌<◌, ◌≤◌, List, length, map, Option, Some, None, inl, inr, arith}
use Rattle.std.specs.Prelude.{◌⊎◌, ◌==◌, IfSome, All, Any, bytes_eq, find, option_map, option_and_then}
use Rattle.std.specs.List.{AllZip, slice_get}
use Rattle.std.specs.FinMap.{get}
use Rattle.std.proofs.lemmas.Bool.{cases_order, eq-eqb, eqb-true, false≢true}
use Rattle.std.proofs.lemmas.Option.{same_Some, slice_get_within, slice_get-get_or, get_or_from_slice_get}
use Rattle.std.proofs.lemmas.Slice.Eq.{bytes_eq-Decides}
use Rattle.adm_lists.proofs.Members.{In, All_in, in_map, find_gives}
use Rattle.adm_types.specs.Code.{has}
use Rattle.adm_types.specs.Limits.{is_listed}
use Rattle.adm_types.specs.declared.rows.School.{School}
use Rattle.adm_types.specs.declared.rows.Child.{Child}
use Rattle.adm_types.specs.declared.draws.Lot.{Lot}
use Rattle.adm_rank.specs.declared.keys.RankKey.{RankKey}
use Rattle.adm_rank.specs.Ranking.{key_of}
use Rattle.adm_match.specs.declared.problem.Wish.{Wish}
use Rattle.adm_match.specs.Market.{Code, Candidate, Market, preference_rank, assigned_rank, is_tenant, key_at}
use Rattle.adm_match.specs.Stability.{Allocation, IsBest, IsStable}
use Rattle.adm_match.specs.Distinct.{Distinct}
use Rattle.adm_match.proofs.Posed as problem
use Rattle.adm_match.proofs.Distinct.{distinct}
use Rattle.adm_match.proofs.FoundWishes.{rank_upto}
use Rattle.adm_match.proofs.RanksAndBlocks.{has_true, All_at}
use Rattle.adm_match_laws.specs.AnyList.{MayHandIn}
use Rattle.adm_round.specs.declared.applicants.Applicant.{Applicant}
use Rattle.adm_round.specs.declared.applicants.Site.{Site}
use Rattle.adm_round.specs.Round.{number_of, listed, is_site, IsListFit, IsPosed}
use Rattle.adm_round.specs.Ranks.{site_of, lot_at, wishes_for, candidate_of, seats_of}
use Rattle.adm_round.proofs.Faultless.{its_schools, faultless}
use Rattle.adm_round.proofs.ListedSchools.{on_list}
use Rattle.adm_register.specs.State.{State}
use Rattle.adm_register.specs.WellFormed.{WellFormed}
use Rattle.adm_register.proofs.RoundLemmas.{in_listed}
use Rattle.adm_commands.specs.Commands.Round.{round_applicants, round_lots, round_market, sites}
use Rattle.adm_commands.specs.Problem.{lots_fault}
use Rattle.adm_commands.proofs.Posed.{posed}
use Rattle.adm_match_laws.specs.Groups.{HandsIn, IsHandedInBy, NoGroupGains}
use Rattle.adm_fairness.specs.Rounds.{key_in}
use Rattle.adm_fairness.specs.Honesty.{KeepsCommonLots}
use Rattle.adm_fairness.proofs.Codes.{at_index}
use Rattle.adm_fairness.proofs.Taking.{same_wishes}
use Rattle.adm_fairness.proofs.NoPriority.{its_key}
use Rattle.adm_fairness.proofs.Beside.{zip_mapped}

-- an applicant is the same in both, or it is one of the group, which has no place in the second
abbrev pub IsSameOr : (ℕ → Bool) → Applicant → Applicant → Type 0
IsSameOr group x y = (y ≡ x) ⊎ ((group (number_of x) ≡ true) × (number_of y ≡ number_of x) × (y.own ≡ None))

-- what an option has
at_some : {X : Type 0} (P : X → Type 0) (o : Option X) (x : X) → o ≡ Some x → IfSome o P → P x
at_some P o x is h = subst (λ p. IfSome p P) is h

module _ (group : ℕ → Bool) (s t : State) (numbers drawn : List ℕ) (well_s : WellFormed s) (well_t : WellFormed t) (none_s : lots_fault s numbers ≡ None) (none_t : lots_fault t drawn ≡ None)
    (same_sites : sites t ≡ sites s) (same_schools : t.schools ≡ s.schools) (same_children : t.children ≡ s.children)
    (applicants_beside : AllZip (IsSameOr group) (round_applicants s) (round_applicants t)) (lots_same : KeepsCommonLots s t (round_lots s numbers) (round_lots t drawn)) where
  abbrev first_lots : List Lot
  first_lots = round_lots s numbers

  abbrev second_lots : List Lot
  second_lots = round_lots t drawn

  fits_s : IsPosed (sites s) (round_applicants s) first_lots
  fits_s = posed s numbers well_s none_s

  fits_t : IsPosed (sites t) (round_applicants t) second_lots
  fits_t = posed t drawn well_t none_t

  abbrev entrant_s : Applicant → Candidate
  entrant_s = candidate_of (site_of (sites s)) (lot_at first_lots)

  abbrev entrant_t : Applicant → Candidate
  entrant_t = candidate_of (site_of (sites t)) (lot_at second_lots)

  abbrev m : Market
  m = round_market s numbers

  abbrev m' : Market
  m' = round_market t drawn

  apart : Distinct m
  apart = distinct m (problem.posed m (faultless (sites s) (round_applicants s) first_lots fits_s))

  lot_same : (x y : Applicant) → In x (round_applicants s) → In y (round_applicants t) → number_of y ≡ number_of x → (code : Code) → is_listed (listed x) code ≡ true
      → is_listed (listed y) code ≡ true → lot_at second_lots code (number_of x) ≡ lot_at first_lots code (number_of x)
  lot_same x y xt yt = All_in (λ (z : Applicant). number_of z ≡ number_of x → (code : Code) → is_listed (listed x) code ≡ true → is_listed (listed z) code ≡ true
      → lot_at second_lots code (number_of x) ≡ lot_at first_lots code (number_of x)) (round_applicants t) y
      (All_in (λ (w : Applicant). All (λ (z : Applicant). number_of z ≡ number_of w → (code : Code) → is_listed (listed w) code ≡ true → is_listed (listed z) code ≡ true
      → lot_at second_lots code (number_of w) ≡ lot_at first_lots code (number_of w)) (round_applicants t)) (round_applicants s) x lots_same xt) yt

  -- one that is the same applicant is the same entrant
  same_entrant : (x y : Applicant) → In x (round_applicants s) → In y (round_applicants t) → y ≡ x → entrant_t y ≡ entrant_s x
  same_entrant x y xt yt is =
      let wishes : wishes_for (site_of (sites t)) (lot_at second_lots) x.child (listed x) ≡ wishes_for (site_of (sites s)) (lot_at first_lots) x.child (listed x) =
      ap (λ (places : List Site). wishes_for (site_of places) (lot_at second_lots) x.child (listed x)) same_sites
      ∙ same_wishes (sites s) (lot_at first_lots) (lot_at second_lots) x.child (listed x)
      (λ code at. All_in (λ c. is_site (sites s) c ≡ true) (listed x) code (All_in (IsListFit (sites s)) (round_applicants s) x fits_s.lists_fit xt).known at)
      (λ code at. lot_same x y xt yt (ap number_of is) code (in_listed (listed x) code at) (ap (λ (z : Applicant). is_listed (listed z) code) is ∙ in_listed (listed x) code at)) in
      ap entrant_t is ∙ (λ i. record { child = number_of x; list = wishes i; tenant = x.own })

  -- a wish's school is on its list
  within : (ws : List Wish) (j : ℕ) (w : Wish) → slice_get ws j ≡ Some w → preference_rank ws w.school < length ws
  within ws j w at = omega (arith, rank_upto ws j w at, slice_get_within ws j w at)

  -- one of the group has the same keys at the schools that it lists in both
  same_key : (x y : Applicant) → In x (round_applicants s) → In y (round_applicants t) → number_of y ≡ number_of x → (w : Wish) (key : RankKey)
      → preference_rank (entrant_s x).list w.school < length (entrant_s x).list → preference_rank (entrant_t y).list w.school < length (entrant_t y).list
      → key_at (entrant_s x).list w.school ≡ Some w.key → key_at (entrant_t y).list w.school ≡ Some key → key ≡ w.key
  same_key x y xt yt number w key on on' is is' =
      let lists = on_list (entrant_s x).list (listed x) w.school (its_schools (sites s) (round_applicants s) first_lots fits_s x xt) on in
      let lists' = on_list (entrant_t y).list (listed y) w.school (its_schools (sites t) (round_applicants t) second_lots fits_t y yt) on' in
      let lot = lot_same x y xt yt number w.school lists lists' in
      let first = at_some (λ q. key_in s first_lots w.school (number_of x) ≡ Some q) (key_at (entrant_s x).list w.school) w.key is (its_key s numbers well_s none_s x xt w.school) in
      let second = at_some (λ q. key_in t second_lots w.school (number_of y) ≡ Some q) (key_at (entrant_t y).list w.school) key is' (its_key t drawn well_t none_t y yt w.school) in
      let keys : key_in t second_lots w.school (number_of x) ≡ key_in s first_lots w.school (number_of x) =
      λ i. option_and_then (λ (school : School). option_map (λ (row : Child). key_of school row (lot i)) (get (same_children i) (number_of x))) (get (same_schools i) w.school) in
      same_Some key w.key (sym second ∙ (ap (key_in t second_lots w.school) number ∙ (keys ∙ first)))

  -- so it may hand in what it lists in the second
  may : (x y : Applicant) → In x (round_applicants s) → In y (round_applicants t) → number_of y ≡ number_of x → y.own ≡ None → MayHandIn (entrant_t y).list (entrant_t y).tenant (entrant_s x)
  may x y xt yt number free = record {
    keys = All_at (λ wish. IfSome (key_at (entrant_t y).list wish.school) (λ key. key ≡ wish.key)) (entrant_s x).list
        (λ j w jw. own_key j w jw (find (λ (v : Wish). bytes_eq v.school w.school) (entrant_t y).list) refl);
    tenancy = subst (λ o. IfSome o (λ school. is_tenant (entrant_s x) school ≡ true)) (sym free) tt;
  }
    where
      own_key : (j : ℕ) (w : Wish) → slice_get (entrant_s x).list j ≡ Some w → (o : Option Wish) → find (λ (v : Wish). bytes_eq v.school w.school) (entrant_t y).list ≡ o
          → IfSome (option_map (λ (v : Wish). v.key) o) (λ key. key ≡ w.key)
      own_key j w jw None found = tt
      own_key j w jw (Some v) found =
          let gives = find_gives (λ (z : Wish). bytes_eq z.school w.school) (entrant_t y).list v found in
          let i = at_index (entrant_t y).list v gives.0 in
          let k = at_index m.entrants (entrant_s x) (in_map entrant_s (round_applicants s) x xt) in
          same_key x y xt yt number w v.key (within (entrant_s x).list j w jw)
          (subst (λ c. preference_rank (entrant_t y).list c < length (entrant_t y).list) ((bytes_eq-Decides v.school w.school).0 gives.1) (within (entrant_t y).list i.0 v i.1))
          (apart.key_of k.0 (entrant_s x) j w k.1 jw) (ap (option_map (λ (z : Wish). z.key)) found)

  -- and what it lists in the first
  may_itself : (x : Applicant) → In x (round_applicants s) → MayHandIn (entrant_s x).list (entrant_s x).tenant (entrant_s x)
  may_itself x xt = record {
    keys = All_at (λ wish. IfSome (key_at (entrant_s x).list wish.school) (λ key. key ≡ wish.key)) (entrant_s x).list (λ j w jw.
        let k = at_index m.entrants (entrant_s x) (in_map entrant_s (round_applicants s) x xt) in
        subst (λ o. IfSome o (λ (key : RankKey). key ≡ w.key)) (sym (apart.key_of k.0 (entrant_s x) j w k.1 jw)) refl);
    tenancy = own x.own;
  }
    where
      own : (o : Option Code) → IfSome o (λ school. has o school ≡ true)
      own None = tt
      own (Some school) = has_true (Some school) school refl

  hands : (x y : Applicant) → In x (round_applicants s) → In y (round_applicants t) → IsSameOr group x y → HandsIn group (entrant_s x) (entrant_t y)
  hands x y xt yt same = elim same [
    | inl is ↦ subst (HandsIn group (entrant_s x)) (sym (same_entrant x y xt yt is)) (record { child = refl; own = λ _. refl; any = λ _. may_itself x xt })
    | inr mine ↦ record { child = mine.1; own = λ out. absurd (false≢true (sym out ∙ mine.0)); any = λ _. may x y xt yt mine.1 mine.2 }
  ]

  handed : IsHandedInBy group m m'
  handed = record {
    seats = ap (map seats_of) same_sites;
    entrants = zip_mapped (IsSameOr group) (HandsIn group) entrant_s entrant_t (round_applicants s) (round_applicants t) applicants_beside hands;
  }

  -- where some of the group take part, the second does not give each of them a school before what the first gives it
  pub not_all_gain : NoGroupGains → (first second : Allocation) → IsBest m first → IsStable m' second → Any (λ entrant. group entrant.child ≡ true) m.entrants
      → Any (λ entrant. (group entrant.child ≡ true) × (assigned_rank entrant.list (first entrant.child) ≤ assigned_rank entrant.list (second entrant.child))) m.entrants
  not_all_gain law first second best stable some =
      law m m' group first second (faultless (sites s) (round_applicants s) first_lots fits_s) handed best stable some

-- ---- one child

-- the group of one child
abbrev pub just : ℕ → ℕ → Bool
just child number = number == child

module _ (child : ℕ) (s t : State) (numbers drawn : List ℕ) (well_s : WellFormed s) (well_t : WellFormed t) (none_s : lots_fault s numbers ≡ None) (none_t : lots_fault t drawn ≡ None)
    (same_sites : sites t ≡ sites s) (same_schools : t.schools ≡ s.schools) (same_children : t.children ≡ s.children)
    (applicants_beside : AllZip (IsSameOr (just child)) (round_applicants s) (round_applicants t)) (lots_same : KeepsCommonLots s t (round_lots s numbers) (round_lots t drawn)) where
  -- what the second gives the child is not before what the first gives it
  pub gains_nothing : NoGroupGains → (first second : Allocation) → IsBest (round_market s numbers) first → IsStable (round_market t drawn) second
      → All (λ (e : Candidate). e.child ≡ child → assigned_rank e.list (first child) ≤ assigned_rank e.list (second child)) (round_market s numbers).entrants
  gains_nothing law first second best stable =
      All_at (λ (e : Candidate). e.child ≡ child → assigned_rank e.list (first child) ≤ assigned_rank e.list (second child)) entrants (λ k e ek is.
      let it = not_all_gain (just child) s t numbers drawn well_s well_t none_s none_t same_sites same_schools same_children applicants_beside lots_same law first second best stable
      (k, e, slice_get_within entrants k e ek, get_or_from_slice_get entrants k e e ek, eq-eqb e.child child is) in
      let l : slice_get entrants it.0 ≡ Some it.1 = slice_get-get_or entrants it.0 it.1 it.2 ∙ ap Some it.3 in
      let is' : it.1.child ≡ child = eqb-true it.1.child child it.4.0 in
      let one : it.1 ≡ e = same k e ek it.0 it.1 l (is ∙ sym is') in
      subst (λ (c : Candidate). assigned_rank c.list (first child) ≤ assigned_rank c.list (second child)) one
      (subst (λ n. assigned_rank it.1.list (first n) ≤ assigned_rank it.1.list (second n)) is' it.4.1))
    where
      entrants : List Candidate
      entrants = (round_market s numbers).entrants

      alone : Distinct (round_market s numbers)
      alone = apart (just child) s t numbers drawn well_s well_t none_s none_t same_sites same_schools same_children applicants_beside lots_same

      same : (k : ℕ) (e : Candidate) → slice_get entrants k ≡ Some e → (l : ℕ) (d : Candidate) → slice_get entrants l ≡ Some d → e.child ≡ d.child → d ≡ e
      same k e ek l d dl is = elim (cases_order k l) [
        | inl equal ↦ same_Some d e (sym dl ∙ (ap (slice_get entrants) (sym equal) ∙ ek))
        | inr order ↦ absurd (elim order [ inl less ↦ alone.children k l e d ek dl less is | inr more ↦ alone.children l k d e dl ek more (sym is) ])
      ]
