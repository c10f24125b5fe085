-- Lots of the same order within equal class and distance give the same places.
use Rattle.std.proofs.Common.{◌≡◌, ◌∙◌, ap, sym, subst, refl, cond, true, false, not, ◌&&◌, ◌||◌, ◌==◌, ℕ, ◌<◌, List, [], ◌∷◌, length, map, Option, Some, None, inl, inr, arith}
use Rattle.std.specs.Prelude.{All, bytes_eq, nat_lt, find, option_map}
use Rattle.std.specs.List.{cons_option}
use Rattle.std.specs.Cmp.{unsigned_Decides}
use Rattle.std.specs.FinMap.{get}
use Rattle.std.proofs.lemmas.Bool.{cases_Bool, false≢true}
use Rattle.std.proofs.lemmas.Bool.Decides.{nat_tests}
use Rattle.std.proofs.lemmas.Option.{same_Some}
use Rattle.std.proofs.lemmas.Slice.Eq.{bytes_eq-Decides}
use Rattle.adm_lists.proofs.Members.{In, All_in}
use Rattle.adm_types.specs.Limits.{is_listed}
use Rattle.adm_types.specs.declared.rows.School.{School}
use Rattle.adm_types.specs.declared.rows.Child.{Child}
use Rattle.adm_types.specs.declared.draws.Lot.{Lot}
use Rattle.adm_rank.specs.Class.{class_of}
use Rattle.adm_rank.specs.Distance.{distance_of}
use Rattle.adm_rank.specs.Ranking.{key_of, precedes}
use Rattle.adm_match.specs.declared.problem.Wish.{Wish}
use Rattle.adm_match.specs.Market.{Code, Candidate, Market, key_at, both_precede, ranks_before, is_tenant, preference_rank, assigned_rank}
use Rattle.adm_match.specs.Stability.{IsBest}
use Rattle.adm_round.specs.declared.applicants.Applicant.{Applicant}
use Rattle.adm_round.specs.declared.applicants.Site.{Site}
use Rattle.adm_round.specs.Round.{number_of, listed, is_site, IsListFit}
use Rattle.adm_round.specs.Ranks.{site_of, lot_at, wish_at, wishes_for, candidate_of, seats_of}
use Rattle.adm_round.specs.Outcomes.{OneAllotment}
use Rattle.adm_round.proofs.ListedSchools.{site_known, school_of_wish, schools_are, on_list}
use Rattle.adm_waiting.specs.Waiting.{is_ahead}
use Rattle.adm_register.specs.State.{State}
use Rattle.adm_register.specs.WellFormed.{WellFormed}
use Rattle.adm_register.proofs.RoundLemmas.{listed_in}
use Rattle.adm_commands.specs.Commands.Round.{round_applicants, round_lots, round_market, sites, AreOutcomes}
use Rattle.adm_commands.proofs.Posed.{posed}
use Rattle.adm_fairness.specs.Lots.{are_level, KeepsOrder, SameOrderSamePlaces}
use Rattle.adm_fairness.proofs.Codes.{rank_in, rank_wishes, length_wishes, in_index}
use Rattle.adm_fairness.proofs.Ranks.{ahead_rows}
use Rattle.adm_fairness.proofs.Reordered.{zip_both, map_at, IsAlike, IsReordered, best_reordered}
use Rattle.adm_fairness.proofs.RoundPlaces.{wanted_here, rank_given}
use Rattle.adm_fairness.proofs.Taking.{taking_of, school_at}

-- ---- keys by any lots

key_here : (w : Wish) (ws : List Wish) (code : Code) → bytes_eq w.school code ≡ true → key_at (w ∷ ws) code ≡ Some w.key
key_here w ws code hit = ap (λ b. option_map (λ (v : Wish). v.key) (cond b (Some w) (find (λ (v : Wish). bytes_eq v.school code) ws))) hit

key_later : (w : Wish) (ws : List Wish) (code : Code) → bytes_eq w.school code ≡ false → key_at (w ∷ ws) code ≡ key_at ws code
key_later w ws code miss = ap (λ b. option_map (λ (v : Wish). v.key) (cond b (Some w) (find (λ (v : Wish). bytes_eq v.school code) ws))) miss

-- the key at a school of a list, by any lots
pub key_listed : (places : List Site) (lot : Code → ℕ → ℕ) (child : Child) (codes : List Code) (code : Code) (site : Site) → site_of places code ≡ Some site
    → ((c : Code) → In c codes → is_site places c ≡ true) → is_listed codes code ≡ true
    → key_at (wishes_for (site_of places) lot child codes) code ≡ Some (key_of site.school child (lot code child.no))
key_listed places lot child [] code site found known there = absurd (false≢true there)
key_listed places lot child (c ∷ cs) code site found known there =
    let it = site_known places c (known c (inl refl)) in
    let rest : List Wish = wishes_for (site_of places) lot child cs in
    let wish : Wish = wish_at lot child it.site in
    let wishes : wishes_for (site_of places) lot child (c ∷ cs) ≡ wish ∷ rest = ap (λ o. cons_option (option_map (wish_at lot child) o) rest) it.found in
    elim (cases_Bool (bytes_eq c code)) [
      | inl hit ↦
          let at : c ≡ code = (bytes_eq-Decides c code).0 hit in
          let same : it.site ≡ site = same_Some it.site site (sym it.found ∙ (ap (site_of places) at ∙ found)) in
          let here : bytes_eq wish.school code ≡ true = (bytes_eq-Decides wish.school code).1 (it.at_code ∙ at) in
          ap (λ ws. key_at ws code) wishes ∙ (key_here wish rest code here ∙ (λ i. Some (key_of (same i).school child (lot ((it.at_code ∙ at) i) child.no))))
      | inr miss ↦
          let away : bytes_eq wish.school code ≡ false = ap (λ d. bytes_eq d code) it.at_code ∙ miss in
          ap (λ ws. key_at ws code) wishes
          ∙ (key_later wish rest code away
          ∙ key_listed places lot child cs code site found (λ d at. known d (inr at)) (sym (λ i. miss i || is_listed cs code) ∙ there))
    ]

-- the problem of these applicants by any lots
abbrev pub market_by : List Site → List Applicant → (Code → ℕ → ℕ) → Market
market_by places applicants lot = record { entrants = map (candidate_of (site_of places) lot) applicants; seats = map seats_of places }

module _ (places : List Site) (applicants : List Applicant) (fit : All (IsListFit places) applicants) where
  pub known : (x : Applicant) → In x applicants → (c : Code) → In c (listed x) → is_site places c ≡ true
  known x xt c ct = All_in (λ d. is_site places d ≡ true) (listed x) c (All_in (IsListFit places) applicants x fit xt).known ct

  module _ (lot : Code → ℕ → ℕ) (x : Applicant) (xt : In x applicants) where
    abbrev entrant : Candidate
    entrant = candidate_of (site_of places) lot x

    pub its_list : map school_of_wish entrant.list ≡ listed x
    its_list = schools_are places lot x.child (listed x) (known x xt)

    pub its_rank : (s : Code) → preference_rank entrant.list s ≡ rank_in (listed x) s
    its_rank s = rank_wishes entrant.list s ∙ ap (λ cs. rank_in cs s) its_list

    pub its_length : length entrant.list ≡ length (listed x)
    its_length = length_wishes entrant.list ∙ ap length its_list

    pub its_given : (o : Option Code) → assigned_rank entrant.list o ≡ rank_given (listed x) o
    its_given None = its_length
    its_given (Some s) = its_rank s

    pub is_on : (s : Code) → preference_rank entrant.list s < length entrant.list → is_listed (listed x) s ≡ true
    is_on s less = on_list entrant.list (listed x) s its_list less

  module _ (lot lot' : Code → ℕ → ℕ)
      (order : (x y : Applicant) → In x applicants → In y applicants → (code : Code) → is_listed x.wanted code ≡ true → is_listed y.wanted code ≡ true
      → (site : Site) → site_of places code ≡ Some site
      → precedes (key_of site.school x.child (lot' code (number_of x))) (key_of site.school y.child (lot' code (number_of y)))
      ≡ precedes (key_of site.school x.child (lot code (number_of x))) (key_of site.school y.child (lot code (number_of y)))) where
    alike : (x : Applicant) → In x applicants → IsAlike (candidate_of (site_of places) lot x) (candidate_of (site_of places) lot' x)
    alike x xt = record {
      child = refl;
      tenant = refl;
      long = its_length lot' x xt ∙ sym (its_length lot x xt);
      rank = λ s. its_rank lot' x xt s ∙ sym (its_rank lot x xt s);
    }

    same_order : (x y : Applicant) → In x applicants → In y applicants → (s : Code) → is_listed (listed x) s ≡ true → is_listed (listed y) s ≡ true
        → is_listed x.wanted s ≡ true → is_listed y.wanted s ≡ true
        → ranks_before s (candidate_of (site_of places) lot' x) (candidate_of (site_of places) lot' y) ≡ ranks_before s (candidate_of (site_of places) lot x) (candidate_of (site_of places) lot y)
    same_order x y xt yt s x_lists y_lists x_wants y_wants =
        let it = site_known places s (known x xt s (listed_in (listed x) s x_lists)) in
        let x_key = key_listed places lot x.child (listed x) s it.site it.found (known x xt) x_lists in
        let y_key = key_listed places lot y.child (listed y) s it.site it.found (known y yt) y_lists in
        let x_other = key_listed places lot' x.child (listed x) s it.site it.found (known x xt) x_lists in
        let y_other = key_listed places lot' y.child (listed y) s it.site it.found (known y yt) y_lists in
        (λ i. both_precede (x_other i) (y_other i)) ∙ (order x y xt yt s x_wants y_wants it.site it.found ∙ sym (λ i. both_precede (x_key i) (y_key i)))

    pub reordered : IsReordered (market_by places applicants lot) (market_by places applicants lot')
    reordered = record {
      seats = refl;
      entrants = zip_both IsAlike (candidate_of (site_of places) lot) (candidate_of (site_of places) lot') applicants alike;
      order = λ k l e f g h s ek fk gl hl e_on g_on e_free g_free.
          let by : Applicant → Candidate = candidate_of (site_of places) lot in
          let by' : Applicant → Candidate = candidate_of (site_of places) lot' in
          let x = map_at by applicants k e ek in
          let x' = map_at by' applicants k f fk in
          let y = map_at by applicants l g gl in
          let y' = map_at by' applicants l h hl in
          let xt = in_index applicants k x.0 x.1 in
          let yt = in_index applicants l y.0 y.1 in
          let first : f ≡ by' x.0 = sym x'.2 ∙ ap by' (same_Some x'.0 x.0 (sym x'.1 ∙ x.1)) in
          let second : h ≡ by' y.0 = sym y'.2 ∙ ap by' (same_Some y'.0 y.0 (sym y'.1 ∙ y.1)) in
          let x_lists = is_on lot x.0 xt s (subst (λ (c : Candidate). preference_rank c.list s < length c.list) (sym x.2) e_on) in
          let y_lists = is_on lot y.0 yt s (subst (λ (c : Candidate). preference_rank c.list s < length c.list) (sym y.2) g_on) in
          let x_wants = wanted_here x.0.wanted x.0.own s x_lists (subst (λ (c : Candidate). is_tenant c s ≡ false) (sym x.2) e_free) in
          let y_wants = wanted_here y.0.wanted y.0.own s y_lists (subst (λ (c : Candidate). is_tenant c s ≡ false) (sym y.2) g_free) in
          (λ i. ranks_before s (first i) (second i)) ∙ (same_order x.0 y.0 xt yt s x_lists y_lists x_wants y_wants ∙ (λ i. ranks_before s (x.2 i) (y.2 i)));
    }

-- ---- the order of lots

-- numbers that are in the same order where nothing before them decides
by_order : (c c' d d' a b a' b' : ℕ) → ((nat_lt c c' || (c == c' && nat_lt d d')) ≡ false → (nat_lt c' c || (c' == c && nat_lt d' d)) ≡ false → nat_lt a' b' ≡ nat_lt a b)
    → (nat_lt c c' || (c == c' && (nat_lt d d' || (d == d' && nat_lt a' b')))) ≡ (nat_lt c c' || (c == c' && (nat_lt d d' || (d == d' && nat_lt a b))))
by_order c c' d d' a b a' b' level = elim (cases_Bool (c == c')) [
  | inr apart ↦ (λ i. nat_lt c c' || (apart i && (nat_lt d d' || (d == d' && nat_lt a' b')))) ∙ sym (λ i. nat_lt c c' || (apart i && (nat_lt d d' || (d == d' && nat_lt a b))))
  | inl same ↦ elim (cases_Bool (d == d')) [
    | inr apart ↦ (λ i. nat_lt c c' || (c == c' && (nat_lt d d' || (apart i && nat_lt a' b')))) ∙ sym (λ i. nat_lt c c' || (c == c' && (nat_lt d d' || (apart i && nat_lt a b))))
    | inl near ↦
        let one = not_ahead c c' d d' ((unsigned_Decides c c').0 same) ((unsigned_Decides d d').0 near) in
        let other = not_ahead c' c d' d (sym ((unsigned_Decides c c').0 same)) (sym ((unsigned_Decides d d').0 near)) in
        ap (λ t. nat_lt c c' || (c == c' && (nat_lt d d' || (d == d' && t)))) (level one other)
  ]
]
  where
    not_ahead : (x y v w : ℕ) → x ≡ y → v ≡ w → (nat_lt x y || (x == y && nat_lt v w)) ≡ false
    not_ahead x y v w e f = grind (arith, nat_tests)

by_level : (school : School) (one other : Child) (a b a' b' : ℕ) → (is_ahead school one other ≡ false → is_ahead school other one ≡ false → nat_lt a' b' ≡ nat_lt a b)
    → precedes (key_of school one a') (key_of school other b') ≡ precedes (key_of school one a) (key_of school other b)
by_level school one other a b a' b' level =
    by_order (class_of school one) (class_of school other) (distance_of school.at one.home) (distance_of school.at other.home) a b a' b' level

module _ (s : State) (well : WellFormed s) (first second : List Lot) (keeps : KeepsOrder s first second) where
  pub kept_order : (x y : Applicant) → In x (round_applicants s) → In y (round_applicants s) → (code : Code) → is_listed x.wanted code ≡ true → is_listed y.wanted code ≡ true
      → (site : Site) → site_of (sites s) code ≡ Some site
      → precedes (key_of site.school x.child (lot_at second code (number_of x))) (key_of site.school y.child (lot_at second code (number_of y)))
      ≡ precedes (key_of site.school x.child (lot_at first code (number_of x))) (key_of site.school y.child (lot_at first code (number_of y)))
  kept_order x y xt yt code x_wants y_wants site found =
      let there = school_at s well code site found in
      let one = taking_of s well x xt in
      let other = taking_of s well y yt in
      let x_there : get s.children (number_of x) ≡ Some x.child = ap (get s.children) one.1.number ∙ one.1.there in
      let y_there : get s.children (number_of y) ≡ Some y.child = ap (get s.children) other.1.number ∙ other.1.there in
      let ahead = ahead_rows s code (number_of x) (number_of y) site.school x.child y.child there x_there y_there in
      let behind = ahead_rows s code (number_of y) (number_of x) site.school y.child x.child there y_there x_there in
      let order = All_in (λ (w : Applicant). (c : Code) → is_listed x.wanted c ≡ true → is_listed w.wanted c ≡ true → are_level s c (number_of x) (number_of w) ≡ true
      → nat_lt (lot_at second c (number_of x)) (lot_at second c (number_of w)) ≡ nat_lt (lot_at first c (number_of x)) (lot_at first c (number_of w))) (round_applicants s) y
      (All_in (λ (v : Applicant). All (λ (w : Applicant). (c : Code) → is_listed v.wanted c ≡ true → is_listed w.wanted c ≡ true → are_level s c (number_of v) (number_of w) ≡ true
      → nat_lt (lot_at second c (number_of v)) (lot_at second c (number_of w)) ≡ nat_lt (lot_at first c (number_of v)) (lot_at first c (number_of w))) (round_applicants s))
      (round_applicants s) x keeps xt) yt code x_wants y_wants in
      by_level site.school x.child y.child (lot_at first code (number_of x)) (lot_at first code (number_of y)) (lot_at second code (number_of x)) (lot_at second code (number_of y))
      (λ none none'. order (λ i. not ((ahead ∙ none) i) && not ((behind ∙ none') i)))

pub same_order_same_places_law : OneAllotment → SameOrderSamePlaces
same_order_same_places_law one s numbers drawn outcomes others well none first second keeps =
    let fit = (posed s numbers well none).lists_fit in
    let order = kept_order s well (round_lots s numbers) (round_lots s drawn) keeps in
    let forth = reordered (sites s) (round_applicants s) fit (lot_at (round_lots s numbers)) (lot_at (round_lots s drawn)) order in
    let back = reordered (sites s) (round_applicants s) fit (lot_at (round_lots s drawn)) (lot_at (round_lots s numbers))
    (λ x y xt yt code x_wants y_wants site found. sym (order x y xt yt code x_wants y_wants site found)) in
    let best : IsBest (round_market s drawn) first.allocation = best_reordered (round_market s numbers) (round_market s drawn) first.allocation forth back first.best in
    let again : AreOutcomes s drawn outcomes = record { allocation = first.allocation; best = best; given = first.given } in
    one (sites s) (round_applicants s) (round_lots s drawn) others outcomes second again
