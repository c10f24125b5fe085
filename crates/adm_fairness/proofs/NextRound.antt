-- A round by lots of one order gives those who stay the best allocation of the problem anew.
use Rattle.std.proofs.Common.{◌≡◌, ◌∙◌, ap, sym, subst, refl, cond, Bool, true, false, not, ◌||◌, ℕ, ◌≤◌, List, ◌++◌, [], ◌∷◌, length, map, Option, Some, None, arith}
use Rattle.std.specs.Prelude.{All, nat_le, filter, option_map}
use Rattle.std.specs.List.{AllZip, filter_map}
use Rattle.std.specs.Cmp.{nat_cmp_total}
use Rattle.std.specs.FinMap.{get, values, nat_cmp-IsAntisymmetric}
use Rattle.std.specs.Option.{option_to_list}
use Rattle.adm_lists.proofs.Members.{In, in_map, in_filter}
use Rattle.adm_types.specs.Seasons.{closing}
use Rattle.adm_types.specs.declared.rows.Child.{Child}
use Rattle.adm_types.specs.declared.rows.Application.{Application}
use Rattle.adm_types.specs.declared.commands.Command.TheVariants.{Round}
use Rattle.adm_match.specs.Market.{Code, Candidate, Market, assigned_rank}
use Rattle.adm_match.specs.Stability.{Allocation, IsBest}
use Rattle.adm_match.proofs.Posed as problem
use Rattle.adm_match.proofs.Distinct.{distinct}
use Rattle.adm_round.specs.declared.applicants.Applicant.{Applicant}
use Rattle.adm_round.specs.Round.{number_of, listed, IsListFit}
use Rattle.adm_round.specs.Ranks.{site_of, lot_at, wishes_for, candidate_of, seats_of}
use Rattle.adm_round.specs.Outcomes.{AllotmentFits}
use Rattle.adm_round.proofs.Faultless.{faultless}
use Rattle.adm_register.specs.State.{State}
use Rattle.adm_register.specs.Wanted.{wanted_of, own_school}
use Rattle.adm_register.specs.WellFormed.{WellFormed, has_first_round}
use Rattle.adm_register.proofs.RoundKeys.{from_values}
use Rattle.adm_commands.specs.Commands.Round as round_command
use Rattle.adm_commands.specs.Commands.Round.{applicant_of, round_applicants, round_lots, round_market, sites}
use Rattle.adm_commands.specs.Problem.{lots_fault}
use Rattle.adm_commands.proofs.Posed.{posed, lots_pass}
use Rattle.adm_commands.proofs.Shows.{no_row}
use Rattle.adm_fairness.specs.Anew.{remaining}
use Rattle.adm_fairness.specs.LaterRounds.{FirstRound, LaterRound, IsHeldAfter}
use Rattle.adm_fairness.proofs.Again.{IsAgain, next, same_sites, applicants_again, held_after}
use Rattle.adm_fairness.proofs.Beside.{BothGive, zip_given, zip_mapped}
use Rattle.adm_fairness.proofs.Built.{built_on, keys_still, more_places}
use Rattle.adm_fairness.proofs.Carried.{IsCarried, carried}
use Rattle.adm_fairness.proofs.Codes.{at_index, in_index}
use Rattle.adm_fairness.proofs.Envy.{kept_well}
use Rattle.adm_fairness.proofs.FairRound.{RoundFacts, round_facts}
use Rattle.adm_fairness.proofs.Front.{IsFront, front_on}
use Rattle.adm_fairness.proofs.Resumed.{best_anew, distinct_left}
use Rattle.adm_fairness.proofs.RoundPlaces.{rank_given}
use Rattle.adm_fairness.proofs.Reordered.{best_reordered}
use Rattle.adm_fairness.proofs.SameLots.{KeepsKeys, settled}
use Rattle.adm_fairness.proofs.SameOrder.{market_by, its_given, reordered, kept_order}
use Rattle.adm_fairness.proofs.Settled.{IsSettled, IsResumed, not_worse}
use Rattle.adm_fairness.proofs.Zipped.{zip_back, zip_on, zip_filtered, left_at, count_narrower}
use Rattle.adm_fairness.proofs.Going.{IsLater, IsGoing, same_number, round_built}

empty_of : (xs : List Code) → length xs ≤ 0 → xs ≡ []
empty_of [] none = refl
empty_of (x ∷ xs) none = absurd (omega (arith, none))

module _ (law : AllotmentFits) (begun : FirstRound) (well_first : WellFormed begun.register) (none_s : lots_fault begun.register begun.numbers ≡ None) (here : ℕ → Bool) (a : Allocation) (s : State)
    (going : IsGoing begun.register begun.numbers here a s) (round : LaterRound) (new : State) (held : IsHeldAfter begun here s round new) where
  abbrev old : State
  old = begun.register

  abbrev numbers : List ℕ
  numbers = begun.numbers

  abbrev mid : State
  mid = held.mid

  abbrev m : Market
  m = round_market old numbers

  -- the lots of the first round, and the problem of this one by them
  abbrev first : Code → ℕ → ℕ
  first = lot_at (round_lots old numbers)

  abbrev now : Market
  now = market_by (sites mid) (round_applicants mid) first

  abbrev was : Market
  was = remaining here (map seats_of (sites s)) m

  abbrev left : Market
  left = remaining round.stays (map seats_of (sites mid)) m

  carries : IsCarried round.stays s mid × WellFormed mid
  carries = carried law round.stays round.commands s mid going.well held.typed held.between held.reached

  held_mid : has_first_round mid.draws ≡ true
  held_mid = ap has_first_round carries.0.draws ∙ going.held

  none_mid : lots_fault mid round.numbers ≡ None
  none_mid = lots_pass mid round.draw round.day round.numbers (no_row _ held.accepted.1.0)

  -- an applicant after the round before, and the same one before this round
  record IsBetween (y z : Applicant) : Type 0 where
    pub child : z.child ≡ y.child
    pub stays : round.stays (number_of y) ≡ true → (z.own ≡ y.own) × (listed z ≡ listed y)
    pub gone : round.stays (number_of y) ≡ false → listed z ≡ []

  module _ (application : Application) (at : In application (values s.applications)) where
    abbrev n : ℕ
    n = application.child

    there : get s.applications n ≡ Some application
    there = from_values nat_cmp_total nat_cmp-IsAntisymmetric s.applications (λ (x : Application). x.child) (λ number row known. (going.well.base.applications_fit number row known).own_number) application at

    by : (o : Option Child) → ((row : Child) → o ≡ Some row → row.no ≡ n)
        → BothGive IsBetween (option_map (λ (child : Child). record { child = child; wanted = wanted_of s application; own = own_school (get s.places n) }) o)
        (option_map (λ (child : Child). record { child = child; wanted = wanted_of mid application; own = own_school (get mid.places n) }) o)
    by None number = tt
    by (Some row) number =
        let is : row.no ≡ n = number row refl in
        record {
          child = refl;
          stays = λ stays.
              let stays' : round.stays n ≡ true = ap round.stays (sym is) ∙ stays in
              let own = carries.0.own n stays' in
              let wanted : wanted_of mid application ≡ wanted_of s application = λ i. filter (λ code. not (carries.0.left n code stays' i)) (carries.0.above n application.list stays' i) in
              (own, λ i. wanted i ++ option_to_list (own i));
          gone = λ gone.
              let withdrawn = held.withdrawn n (ap round.stays (sym is) ∙ gone) in
              let none = withdrawn.wanted application (ap (λ rows. get rows n) carries.0.built.applications ∙ there) in
              λ i. none i ++ option_to_list (withdrawn.place i);
        }

    each_between : BothGive IsBetween (applicant_of s application) (applicant_of mid application)
    each_between =
        let first : applicant_of s application ≡ option_map (λ (child : Child). record { child = child; wanted = wanted_of s application; own = own_school (get s.places n) }) (get s.children n) =
        ap (λ b. cond (b || nat_le application.day (closing s.season)) (option_map (λ (child : Child). record { child = child; wanted = wanted_of s application; own = own_school (get s.places n) }) (get s.children n)) None) going.held in
        let second : applicant_of mid application ≡ option_map (λ (child : Child). record { child = child; wanted = wanted_of mid application; own = own_school (get mid.places n) }) (get s.children n) =
        λ i. cond (held_mid i || nat_le application.day (closing mid.season))
        (option_map (λ (child : Child). record { child = child; wanted = wanted_of mid application; own = own_school (get mid.places n) }) (get (carries.0.built.children i) n)) None in
        subst (λ o. BothGive IsBetween o (applicant_of mid application)) (sym first)
        (subst (BothGive IsBetween (option_map (λ (child : Child). record { child = child; wanted = wanted_of s application; own = own_school (get s.places n) }) (get s.children n))) (sym second)
        (by (get s.children n) (λ row known. (going.well.base.children_fit n row known).own_number)))

  between : AllZip IsBetween (round_applicants s) (round_applicants mid)
  between =
      subst (λ rows. AllZip IsBetween (round_applicants s) (filter_map (applicant_of mid) (values rows))) (sym carries.0.built.applications)
      (zip_given IsBetween (applicant_of s) (applicant_of mid) (values s.applications) each_between)

  later_mid : AllZip (IsLater round.stays a) (round_applicants old) (round_applicants mid)
  later_mid = zip_on (IsLater here a) IsBetween (IsLater round.stays a) (round_applicants old) (round_applicants s) (round_applicants mid) going.later between (λ x y z at r q. record {
    child = q.child ∙ r.child;
    stays = λ stays.
        let again = r.stays (held.fewer (number_of x) stays) in
        let same = q.stays (ap round.stays (same_number x y r.child) ∙ stays) in
        record { child = q.child ∙ r.child; own = same.0 ∙ again.own; front = subst (λ u. IsFront u (listed x) (a (number_of x))) (sym same.1) again.front };
    gone = λ gone. q.gone (ap round.stays (same_number x y r.child) ∙ gone);
  })

  -- ---- the problem of the round

  keys_kept : KeepsKeys (sites old) (sites mid)
  keys_kept = keys_still old mid well_first carries.1 (built_on old s mid going.built carries.0.built)

  fit : All (IsListFit (sites old)) (round_applicants old)
  fit = (posed old numbers well_first none_s).lists_fit

  fit_mid : All (IsListFit (sites mid)) (round_applicants mid)
  fit_mid = (posed mid round.numbers carries.1 none_mid).lists_fit

  abbrev entrant : Applicant → Candidate
  entrant = candidate_of (site_of (sites old)) first

  abbrev entrant' : Applicant → Candidate
  entrant' = candidate_of (site_of (sites mid)) first

  record IsEntrant (e f : Candidate) : Type 0 where
    pub child : f.child ≡ e.child
    pub stays : round.stays e.child ≡ true → IsSettled a e f
    pub gone : round.stays e.child ≡ false → f.list ≡ []

  entrants : AllZip IsEntrant m.entrants now.entrants
  entrants = zip_mapped (IsLater round.stays a) IsEntrant entrant entrant' (round_applicants old) (round_applicants mid) later_mid (λ x z xt zt r. record {
    child = same_number x z r.child;
    stays = λ stays. settled (sites old) (sites mid) keys_kept (round_applicants old) (round_applicants mid) fit fit_mid first a x z xt zt (r.stays stays);
    gone = λ gone. ap (wishes_for (site_of (sites mid)) first z.child) (r.gone gone);
  })

  resumed : IsResumed was left now round.stays a
  resumed = record {
    stable = going.best.stable;
    among = λ k e ek.
        let found = left_at (λ (x : Candidate). round.stays x.child) m.entrants k e ek in
        at_index was.entrants e (in_filter (λ (x : Candidate). here x.child) m.entrants e (in_index m.entrants found.0 e found.1) (held.fewer e.child found.2));
    fewer = λ test. count_narrower (λ (x : Candidate). here x.child) (λ (x : Candidate). round.stays x.child) (λ (x : Candidate). test x.child) m.entrants (λ x. held.fewer x.child);
    more = more_places s mid going.well carries.1 carries.0.built;
    same = λ code. refl;
    gone = λ j f fj away.
        let was' = zip_back IsEntrant m.entrants now.entrants j f entrants fj in
        was'.2.gone (ap round.stays (sym was'.2.child) ∙ away);
    settled = zip_filtered IsEntrant (IsSettled a) (λ (e : Candidate). round.stays e.child) (λ (f : Candidate). round.stays f.child) m.entrants now.entrants
        (λ e f r. ap round.stays r.child) (λ e f r stays. r.stays stays) entrants;
  }

  facts : RoundFacts mid new round.draw round.day round.numbers
  facts = round_facts law mid new round.draw round.day round.numbers carries.1 held.accepted

  abbrev b : Allocation
  b = facts.facts.best.allocation

  -- what is best by the lots of this round is so by those of the first
  best_now : IsBest now b
  best_now =
      let order = kept_order mid carries.1 (round_lots old numbers) (round_lots mid round.numbers) held.same_order in
      let lots : Code → ℕ → ℕ = lot_at (round_lots mid round.numbers) in
      best_reordered (round_market mid round.numbers) now b
      (reordered (sites mid) (round_applicants mid) fit_mid lots first (λ x y xt yt code x_wants y_wants site found. sym (order x y xt yt code x_wants y_wants site found)))
      (reordered (sites mid) (round_applicants mid) fit_mid first lots order) facts.facts.best.best

  best_left : IsBest left b
  best_left =
      let apart = distinct m (problem.posed m (faultless (sites old) (round_applicants old) (round_lots old numbers) (posed old numbers well_first none_s))) in
      best_anew was left now round.stays a resumed (distinct_left m round.stays (map seats_of (sites mid)) apart) b best_now

  -- ---- the register after it

  abbrev after' : State
  after' = next facts.facts round.draw round.day

  held_next : has_first_round after'.draws ≡ true
  held_next = held_after mid round.draw round.day round.numbers facts.outcomes carries.1 (no_row _ held.accepted.1.0)

  again_next : AllZip (IsAgain b) (round_applicants mid) (round_applicants after')
  again_next = applicants_again facts.facts round.draw round.day (λ application there. ap (λ t. t || nat_le application.day (closing mid.season)) held_mid) held_next

  -- nobody who stays is given what it wants less than what it had
  not_after : (x : Applicant) → In x (round_applicants old) → round.stays (number_of x) ≡ true → rank_given (listed x) (b (number_of x)) ≤ rank_given (listed x) (a (number_of x))
  not_after x xt stays =
      let remains : Candidate → Bool = λ e. round.stays e.child in
      let k = at_index left.entrants (entrant x) (in_filter remains m.entrants (entrant x) (in_map entrant (round_applicants old) x xt) stays) in
      let least : assigned_rank (entrant x).list (b (number_of x)) ≤ assigned_rank (entrant x).list (a (number_of x)) = not_worse was left now round.stays a resumed b best_now.stable k.0 (entrant x) k.1 in
      let rank : (o : Option Code) → assigned_rank (entrant x).list o ≡ rank_given (listed x) o = its_given (sites old) (round_applicants old) fit first x xt in
      omega (arith, least, rank (b (number_of x)), rank (a (number_of x)))

  later_next : AllZip (IsLater round.stays b) (round_applicants old) (round_applicants after')
  later_next = zip_on (IsLater round.stays a) (IsAgain b) (IsLater round.stays b) (round_applicants old) (round_applicants mid) (round_applicants after') later_mid again_next (λ x z y xt r q. record {
    child = q.child ∙ r.child;
    stays = λ stays. record {
      child = q.child ∙ r.child;
      own = q.own ∙ ap b (same_number x z r.child);
      front = front_on (listed y) (listed z) (listed x) (a (number_of x)) (b (number_of x)) (r.stays stays).front
          (subst (λ k. IsFront (listed y) (listed z) (b k)) (same_number x z r.child) q.front) (not_after x xt stays);
    };
    gone = λ gone. empty_of (listed y) (omega (arith, q.front.shorter, ap length (r.gone gone)));
  })

  pub goes_on : (c : Allocation) × IsGoing old numbers round.stays c new
  unfolding round_command.change_of
  goes_on =
      let same : new ≡ after' = facts.now in (
        b,
        subst (IsGoing old numbers round.stays b) (sym same) (record {
          well = subst WellFormed same (kept_well law mid new (Round round.draw round.day round.numbers) held.kept carries.1 held.accepted);
          held = held_next;
          built = built_on old mid after' (built_on old s mid going.built carries.0.built) (round_built facts.facts round.draw round.day);
          best = subst (λ places. IsBest (remaining round.stays (map seats_of places) m) b) (sym (same_sites facts.facts round.draw round.day)) best_left;
          later = later_next;
        }),
      )
