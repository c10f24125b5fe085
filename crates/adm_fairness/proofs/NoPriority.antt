-- By which key a child ranks in a round, and that neither its list nor its day of application has a part in it.
use Rattle.std.proofs.Common.{◌≡◌, ◌∙◌, ap, sym, subst, refl, cond, ℕ, List, [], ◌∷◌, map, Option, Some, None, inl, inr}
use Rattle.std.specs.Prelude.{All, IfSome, bytes_eq, option_map, option_and_then}
use Rattle.std.specs.List.{AllZip, filter_map, cons_option}
use Rattle.std.specs.declared.cmp.Ordering.{Ordering}
use Rattle.std.specs.Cmp.{IsTotalOrder, nat_cmp_total}
use Rattle.std.specs.FinMap.{FinMap, get, insert, entries, values, put, entries-insert, entries_sorted, get-entries, nat_cmp-IsAntisymmetric}
use Rattle.std.specs.List as list
use Rattle.std.proofs.lemmas.Option.{same_Some}
use Rattle.std.proofs.lemmas.Slice.Eq.{bytes_eq-Decides}
use Rattle.adm_fairness.proofs.Zipped.{put_zip}
use Rattle.adm_lists.proofs.Members.{In, in_All, from_map, from_filter_map, find_gives}
use Rattle.adm_types.specs.declared.rows.School.{School}
use Rattle.adm_types.specs.declared.rows.Child.{Child}
use Rattle.adm_types.specs.declared.rows.Application.{Application}
use Rattle.adm_types.specs.declared.rows.PlaceState.TheVariants.{Offered}
use Rattle.adm_types.specs.declared.commands.Command.TheVariants.{Fill}
use Rattle.adm_rank.specs.declared.keys.RankKey.{RankKey}
use Rattle.adm_rank.specs.Ranking.{key_of}
use Rattle.adm_match.specs.declared.problem.Wish.{Wish}
use Rattle.adm_match.specs.Market.{Code, Candidate, key_at}
use Rattle.adm_waiting.specs.Waiting.{waiting_list, first_by_lot}
use Rattle.adm_round.specs.declared.applicants.Applicant.{Applicant}
use Rattle.adm_round.specs.Round.{number_of, listed, IsPosed, pairs, lots_of}
use Rattle.adm_round.specs.Ranks.{site_of, lot_at, wish_at, candidate_of, market_of_round}
use Rattle.adm_register.specs.State.{State}
use Rattle.adm_register.specs.Wanted.{wanted_of, own_school}
use Rattle.adm_register.specs.WellFormed.{WellFormed}
use Rattle.adm_register.specs.Waits.{is_waiting, waiting_child, waiting_at}
use Rattle.adm_commands.specs.Commands.Round.{takes_part, applicant_of, round_applicants, round_lots, round_market, sites}
use Rattle.adm_commands.specs.Problem.{lots_fault}
use Rattle.adm_commands.specs.Steps.{Accepts}
use Rattle.adm_commands.proofs.Posed.{posed}
use Rattle.adm_commands.proofs.PutAgain.{get-insert_same}
use Rattle.adm_fairness.specs.Rounds.{key_in}
use Rattle.adm_fairness.specs.Code.{RanksByRule, HasKey, ListGivesNoPriority, on_day, DayGivesNoPriority}
use Rattle.adm_fairness.proofs.Fills.{same_or_other, other_stays, is_fill, filled_places}
use Rattle.adm_fairness.proofs.Taking.{taking_of, wish_there, key_of_wish}
use Rattle.adm_fairness.proofs.Waiters.{as_waiting, as_waiting_by}

-- ---- the keys of a round

module _ (s : State) (numbers : List ℕ) (well : WellFormed s) (none : lots_fault s numbers ≡ None) where
  abbrev fits : IsPosed (sites s) (round_applicants s) (round_lots s numbers)
  fits = posed s numbers well none

  abbrev entrant : Applicant → Candidate
  entrant = candidate_of (site_of (sites s)) (lot_at (round_lots s numbers))

  -- the key at a school of an applicant's list
  key_listed : (x : Applicant) → In x (round_applicants s) → (code : Code) (found : Option Wish) → list.find (λ (w : Wish). bytes_eq w.school code) (entrant x).list ≡ found
      → IfSome (option_map (λ (w : Wish). w.key) found) (λ key. key_in s (round_lots s numbers) code (number_of x) ≡ Some key)
  key_listed x at code None is = tt
  key_listed x at code (Some w) is =
      let lots = round_lots s numbers in
      let gives = find_gives (λ (v : Wish). bytes_eq v.school code) (entrant x).list w is in
      let from = from_filter_map (λ c. option_map (wish_at (lot_at lots) x.child) (site_of (sites s) c)) (listed x) w gives.0 in
      let taking = taking_of s well x at in
      let it = wish_there s well lots fits x taking.1.among from.0 from.1 in
      let same : it.0 ≡ w = same_Some it.0 w (sym it.1.made ∙ from.2) in
      let here : from.0 ≡ code = sym it.1.at_school ∙ (ap (λ (v : Wish). v.school) same ∙ (bytes_eq-Decides w.school code).0 gives.1) in
      ap (key_in s lots code) taking.1.number
      ∙ (ap (λ c. key_in s lots c taking.0.child) (sym here)
      ∙ (key_of_wish s well lots fits taking.0 x taking.1 from.0 it.0 it.1 ∙ ap (λ (v : Wish). Some v.key) same))

  pub its_key : (x : Applicant) → In x (round_applicants s) → (code : Code) → IfSome (key_at (entrant x).list code) (λ key. key_in s (round_lots s numbers) code (number_of x) ≡ Some key)
  its_key x at code = key_listed x at code (list.find (λ (w : Wish). bytes_eq w.school code) (entrant x).list) refl

  pub each_key : All (λ (e : Candidate). (code : Code) → IfSome (key_at e.list code) (λ key. key_in s (round_lots s numbers) code e.child ≡ Some key)) (round_market s numbers).entrants
  each_key = in_All (λ (e : Candidate). (code : Code) → IfSome (key_at e.list code) (λ key. key_in s (round_lots s numbers) code e.child ≡ Some key)) (round_market s numbers).entrants
      (λ e at.
      let from = from_map entrant (round_applicants s) e at in
      subst (λ (c : Candidate). (code : Code) → IfSome (key_at c.list code) (λ key. key_in s (round_lots s numbers) code c.child ≡ Some key)) from.2
      (its_key from.0 from.1))

  -- the key of an entrant is that of its child
  pub key_had : (child : ℕ) (code : Code) (key : RankKey) → HasKey s numbers child code key → key_in s (round_lots s numbers) code child ≡ Some key
  key_had child code key has =
      let e = has.1 in
      let known = subst (λ (c : Candidate). (other : Code) → IfSome (key_at c.list other) (λ k. key_in s (round_lots s numbers) other c.child ≡ Some k)) has.3 (each_key has.0 e has.2) in
      let mine : key_in s (round_lots s numbers) code e.child ≡ Some key =
      subst (λ o. IfSome o (λ k. key_in s (round_lots s numbers) code e.child ≡ Some k)) has.4.1 (known code) in
      ap (key_in s (round_lots s numbers) code) (sym has.4.0) ∙ mine

pub ranks_by_rule_law : RanksByRule
ranks_by_rule_law s numbers well none = each_key s numbers well none

pub list_gives_no_priority_law : ListGivesNoPriority
list_gives_no_priority_law one other numbers drawn child code first second well well' none none' schools children lots has has' =
    let mine = key_had one numbers well none child code first has in
    let its = key_had other drawn well' none' child code second has' in
    same_Some second first
    (sym its
    ∙ ((λ i. option_and_then (λ (school : School). option_map (λ (row : Child). key_of school row (lots i)) (get (children i) child)) (get (schools i) code))
    ∙ mine))

-- ---- the day

-- what two lists give is the same where what is at each index of them gives the same
same_given : {V Y : Type 0} (f : V → Option Y) (vs ws : List V) → AllZip (λ v w. f w ≡ f v) vs ws → filter_map f ws ≡ filter_map f vs
same_given f [] [] h = refl
same_given f [] (w ∷ ws) h = absurd h
same_given f (v ∷ vs) [] h = absurd h
same_given f (v ∷ vs) (w ∷ ws) h = λ i. cons_option (h.0 i) (same_given f vs ws h.1 i)

-- what is made of the values is the same where one is put in place of another that gives the same
module _ {K V Y : Type 0} {R : K → K → Ordering} (total : IsTotalOrder R) (f : V → Option Y) (k : K) (row now : V) (same : f now ≡ f row) where
  pub insert_same : (rows : FinMap R V) → get rows k ≡ Some row → filter_map f (values (insert rows k now)) ≡ filter_map f (values rows)
  insert_same rows there =
      ap (λ (es : List (K × V)). filter_map f (map (λ e. e.1) es)) (entries-insert total rows k now)
      ∙ same_given f (map (λ e. e.1) (entries rows)) (map (λ e. e.1) (put R k now (entries rows)))
      (put_zip total (λ v w. f w ≡ f v) (λ v. refl) k row now same (entries rows) (entries_sorted rows) (sym (get-entries rows k) ∙ there))

same_round : (s : State) (application : Application) (day : ℕ) (numbers : List ℕ) → get s.applications application.child ≡ Some application
    → takes_part s (record application { day = day }) ≡ takes_part s application → round_market (on_day s application day) numbers ≡ round_market s numbers
same_round s application day numbers there part =
    let now : Application = record application { day = day } in
    let same_one : applicant_of s now ≡ applicant_of s application = ap (λ b. cond b (option_map as_applicant (get s.children application.child)) None) part in
    let same : round_applicants (on_day s application day) ≡ round_applicants s =
    insert_same nat_cmp_total (applicant_of s) application.child application now same_one s.applications there in
    λ i. market_of_round (sites s) (same i) (lots_of (pairs (sites s) (same i)) numbers)
  where
    as_applicant : Child → Applicant
    as_applicant child = record { child = child; wanted = wanted_of s application; own = own_school (get s.places application.child) }

module _ (s : State) (application : Application) (day : ℕ) (there : get s.applications application.child ≡ Some application) where
  abbrev now : Application
  now = record application { day = day }

  abbrev other_day : State
  other_day = on_day s application day

  same_waits : (child : ℕ) (code : Code) → is_waiting other_day child code ≡ is_waiting s child code
  same_waits child code = elim (same_or_other child application.child) [
    | inl same ↦
        as_waiting_by s other_day child code application now (ap (get s.applications) same ∙ there)
        (ap (get other_day.applications) same ∙ get-insert_same nat_cmp_total s.applications application.child now) refl
    | inr apart ↦
        as_waiting s other_day child code (other_stays nat_cmp_total nat_cmp-IsAntisymmetric s.applications application.child now child apart) (λ row. refl)
  ]

  same_waiting : (code : Code) → waiting_at other_day code ≡ waiting_at s code
  same_waiting code = insert_same nat_cmp_total (waiting_child s code) application.child application now refl s.applications there

  same_fill : (new other : State) (draw : ℕ) (code : Code) (on : ℕ) (numbers : List ℕ) → Accepts s (Fill draw code on numbers) new → Accepts other_day (Fill draw code on numbers) other
      → other.places ≡ new.places
  same_fill new other draw code on numbers accepts accepts' =
      let one = is_fill s new draw code on numbers accepts in
      let two = is_fill other_day other draw code on numbers accepts' in
      let school : two.school ≡ one.school = same_Some two.school one.school (sym two.there ∙ one.there) in
      let child : two.child ≡ one.child =
      same_Some two.child one.child (sym two.chosen ∙ ((λ i. first_by_lot (school i) (same_waiting code i) numbers) ∙ one.chosen)) in
      filled_places other_day other draw code on numbers two
      ∙ (ap (λ n. insert s.places n (record { child = n; place = record { school = code; state = Offered on None } })) child
      ∙ sym (filled_places s new draw code on numbers one))

pub day_gives_no_priority_law : DayGivesNoPriority
day_gives_no_priority_law = record {
  rounds = same_round;
  waits = λ s application day child code there. same_waits s application day there child code;
  lists = λ s application day school there. ap (waiting_list school) (same_waiting s application day there school.code);
  fills = λ s new other application day draw code on numbers there. same_fill s application day there new other draw code on numbers;
}
