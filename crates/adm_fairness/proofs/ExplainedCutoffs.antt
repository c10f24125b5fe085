-- The cutoffs of a round that is explained.
use Rattle.std.proofs.Common.{◌≡◌, ◌∙◌, ap, sym, subst, refl, cond, Bool, true, false, ◌&&◌, ℕ, List, Option, Some, None, inl, inr}
use Rattle.std.specs.Prelude.{bytes_eq, IfSome, Any, option_map, option_and_then}
use Rattle.std.specs.List.{filter_map}
use Rattle.std.specs.Cmp.Lexicographic.{nat_list_cmp_total}
use Rattle.std.specs.FinMap.{get, values}
use Rattle.std.proofs.lemmas.Bool.{cases_Bool, false≢true}
use Rattle.std.proofs.lemmas.Option.{same_Some, none-some}
use Rattle.std.proofs.lemmas.Slice.Eq.{bytes_eq-Decides}
use Rattle.adm_lists.proofs.Maps.{in_values}
use Rattle.adm_lists.proofs.Members.{In, in_All, none_in, in_map, from_map, in_filter_map, from_filter_map}
use Rattle.adm_types.specs.Limits.{is_listed}
use Rattle.adm_types.specs.declared.rows.School.{School}
use Rattle.adm_types.specs.declared.draws.Draw.{Draw}
use Rattle.adm_types.specs.declared.draws.Lot.{Lot}
use Rattle.adm_types.specs.declared.draws.Outcome.{Outcome}
use Rattle.adm_rank.specs.declared.keys.RankKey.{RankKey}
use Rattle.adm_rank.specs.Ranking.{key_of, precedes}
use Rattle.adm_match.specs.Market.{Code, Candidate, Market, key_at}
use Rattle.adm_match.specs.Stability.{Allocation, is_guest}
use Rattle.adm_match.proofs.RanksAndBlocks.{guest_gives}
use Rattle.adm_round.specs.declared.applicants.Applicant.{Applicant}
use Rattle.adm_round.specs.Round.{listed}
use Rattle.adm_round.specs.Ranks.{candidate_of, site_of, lot_at}
use Rattle.adm_round.specs.Outcomes.{HasListedSchool}
use Rattle.adm_register.specs.State.{State}
use Rattle.adm_register.proofs.Maps.{code_cmp-IsAntisymmetric}
use Rattle.adm_cutoffs.specs.Cutoffs.{is_taken_in, key_by_lot, key_taken_in, last_of, last_key, cutoff_at, cutoffs_of}
use Rattle.adm_cutoffs.specs.declared.cutoffs.Cutoff.{Cutoff as CutoffRow}
use Rattle.adm_commands.specs.Commands.Round.{round_applicants, round_lots, round_market, sites}
use Rattle.adm_commands.proofs.RoundOffers.{is_given, lists_given}
use Rattle.adm_commands.proofs.RoundDraw.{round_draw}
use Rattle.adm_fairness.specs.Cutoffs.{IsLastKey}
use Rattle.adm_fairness.specs.Explained.{AreCutoffs}
use Rattle.adm_fairness.proofs.RoundPlaces.{wanted_here}
use Rattle.adm_fairness.proofs.ExplainedLists.{walked, some_last, Any_in, mapped}
use Rattle.adm_fairness.proofs.ExplainedRound.{IsShown, IsLotOf, whose, has_lot, taken_is, key_of_lot}

module _ {old new : State} {numbers : List ℕ} {outcomes : List Outcome} (shown : IsShown old new numbers outcomes) where
  abbrev lots : List Lot
  lots = round_lots old numbers

  abbrev it : Draw
  it = round_draw old shown.draw shown.day numbers outcomes

  abbrev entrant : Applicant → Candidate
  entrant = candidate_of (site_of (sites old)) (lot_at lots)

  abbrev m : Market
  m = round_market old numbers

  abbrev a : Allocation
  a = shown.facts.best.allocation

  abbrev keys_at : Code → List RankKey
  keys_at code = filter_map (key_taken_in new outcomes code) lots

  -- a guest's key is among those of its school
  pub guest_key : (c : Applicant) → In c (round_applicants old) → (code : Code) → is_guest a code (entrant c) ≡ true
      → (key : RankKey) × (key_at (entrant c).list code ≡ Some key) × In key (keys_at code)
  guest_key c ct code guest =
      let parts = guest_gives a code (entrant c) guest in
      let lists : is_listed (listed c) code ≡ true = subst (λ o. IfSome o (λ s. is_listed (listed c) s ≡ true)) parts.0 (is_given shown.facts HasListedSchool (lists_given shown.facts) c ct) in
      let wanted = wanted_here c.wanted c.own code lists parts.1 in
      let had = has_lot shown c ct code wanted in
      let of : IsLotOf shown had.lot c = record { among = ct; wanted = ap (is_listed c.wanted) had.school ∙ wanted; number = had.child } in
      let key = key_of_lot shown had.lot had.among c of in
      let taken : is_taken_in outcomes had.lot ≡ true = taken_is shown had.lot c of ∙ ap (λ s. is_guest a s (entrant c)) had.school ∙ guest in
      let same : bytes_eq had.lot.school code ≡ true = (bytes_eq-Decides had.lot.school code).1 had.school in
      let gives : key_taken_in new outcomes code had.lot ≡ Some key.0 = (λ i. cond (same i && taken i) (key_by_lot new had.lot) None) ∙ key.1 in (
        key.0,
        subst (λ (s : Code). key_at (entrant c).list s ≡ Some key.0) had.school key.2,
        in_filter_map (key_taken_in new outcomes code) lots had.lot key.0 had.among gives,
      )

  taken_parts : (b t : Bool) (o : Option RankKey) (key : RankKey) → cond (b && t) o None ≡ Some key → (b ≡ true) × (t ≡ true) × (o ≡ Some key)
  taken_parts true true o key is = (refl, refl, is)
  taken_parts true false o key is = absurd (none-some key is)
  taken_parts false t o key is = absurd (none-some key is)

  -- and a key among them is a guest's
  key_guest : (code : Code) (key : RankKey) → In key (keys_at code) → Any (λ guest. (is_guest a code guest ≡ true) × (key_at guest.list code ≡ Some key)) m.entrants
  key_guest code key at =
      let found = from_filter_map (key_taken_in new outcomes code) lots key at in
      let parts = taken_parts (bytes_eq found.0.school code) (is_taken_in outcomes found.0) (key_by_lot new found.0) key found.2 in
      let school = (bytes_eq-Decides found.0.school code).0 parts.0 in
      let who = whose shown found.0 found.1 in
      let mine = key_of_lot shown found.0 found.1 who.0 who.1 in
      let same : mine.0 ≡ key = same_Some mine.0 key (sym mine.1 ∙ parts.2) in
      Any_in (λ (guest : Candidate). (is_guest a code guest ≡ true) × (key_at guest.list code ≡ Some key)) m.entrants (entrant who.0) (in_map entrant (round_applicants old) who.0 who.1.among) (
        ap (λ s. is_guest a s (entrant who.0)) (sym school) ∙ (sym (taken_is shown found.0 who.0 who.1) ∙ parts.1),
        subst (λ (s : Code). key_at (entrant who.0).list s ≡ Some key) school (mine.2 ∙ ap Some same),
      )

  -- the last of the keys at a school is that of the last child that it took in
  pub last_is : (code : Code) (key : RankKey) → last_of (keys_at code) ≡ Some key → IsLastKey m a code key
  last_is code key is =
      let last = walked None (keys_at code) key is in
      record {
        had = elim last.from [ inl none ↦ absurd (none-some key none) | inr at ↦ key_guest code key at ];
        last = in_All (λ (guest : Candidate). is_guest a code guest ≡ true → IfSome (key_at guest.list code) (λ other. precedes key other ≡ false)) m.entrants (λ e at guest.
            let c = from_map entrant (round_applicants old) e at in
            let mine = guest_key c.0 c.1 code (ap (is_guest a code) c.2 ∙ guest) in
            subst (λ (x : Candidate). IfSome (key_at x.list code) (λ other. precedes key other ≡ false)) c.2
            (subst (λ o. IfSome o (λ other. precedes key other ≡ false)) (sym mine.1) (last.after_each mine.0 mine.2)));
      }

  some_school : (lot : Lot) (key : RankKey) → key_by_lot new lot ≡ Some key → (school : School) × (get new.schools lot.school ≡ Some school)
  some_school lot key is = by (get new.schools lot.school) refl is
    where
      by : (o : Option School) → get new.schools lot.school ≡ o → option_and_then (λ school. option_map (λ child. key_of school child lot.lot) (get new.children lot.child)) o ≡ Some key
          → (school : School) × (get new.schools lot.school ≡ Some school)
      by None at is = absurd (none-some key is)
      by (Some school) at is = (school, at)

  -- a school with a guest has a row
  guest_row : (code : Code) (e : Candidate) → In e m.entrants → is_guest a code e ≡ true → (row : CutoffRow) × In row (cutoffs_of new it) × (bytes_eq row.school code ≡ true)
  unfolding cutoffs_of
  guest_row code e at guest =
      let c = from_map entrant (round_applicants old) e at in
      let mine = guest_key c.0 c.1 code (ap (is_guest a code) c.2 ∙ guest) in
      let last = some_last (keys_at code) mine.0 mine.2 in
      let found = from_filter_map (key_taken_in new outcomes code) lots mine.0 mine.2 in
      let parts = taken_parts (bytes_eq found.0.school code) (is_taken_in outcomes found.0) (key_by_lot new found.0) mine.0 found.2 in
      let there = some_school found.0 mine.0 parts.2 in
      let own : there.0.code ≡ found.0.school = (shown.facts.well.base.schools_fit found.0.school there.0 (ap (λ ss. get ss found.0.school) (sym shown.schools) ∙ there.1)).own_code in
      let at_code : there.0.code ≡ code = own ∙ (bytes_eq-Decides found.0.school code).0 parts.0 in
      let row : CutoffRow = record { school = there.0.code; key = last.0 } in (
        row,
        in_filter_map (cutoff_at new it) (values new.schools) there.0 row (in_values nat_list_cmp_total code_cmp-IsAntisymmetric new.schools found.0.school there.0 there.1)
            (ap (option_map (λ key. record { school = there.0.code; key = key })) (ap (λ s. last_of (keys_at s)) at_code ∙ last.1)),
        (bytes_eq-Decides there.0.code code).1 at_code,
      )

  pub are_cutoffs : AreCutoffs m a (cutoffs_of new it)
  unfolding cutoffs_of
  are_cutoffs = record {
    last = in_All (λ (row : CutoffRow). IsLastKey m a row.school row.key) (cutoffs_of new it) (λ row at.
        let found = from_filter_map (cutoff_at new it) (values new.schools) row at in
        let of = mapped (λ key. record { school = found.0.code; key = key }) (last_key new outcomes lots found.0.code) row found.2 in
        subst (λ (r : CutoffRow). IsLastKey m a r.school r.key) of.2 (last_is found.0.code of.0 of.1));
    others = λ code none. in_All (λ (e : Candidate). is_guest a code e ≡ false) m.entrants (λ e at. elim (cases_Bool (is_guest a code e)) [
      | inr out ↦ out
      | inl guest ↦
          let found = guest_row code e at guest in
          absurd (false≢true (sym (none_in (λ (row : CutoffRow). bytes_eq row.school code) (cutoffs_of new it) found.0 none found.1) ∙ found.2))
    ]);
  }
