-- What rounds, fills and imports do to envy.
use Rattle.std.proofs.Common.{◌≡◌, ◌∙◌, ap, sym, refl, true, false, not, ℕ, List, map, Some, None, inl, inr}
use Rattle.std.specs.Prelude.{◌⊎◌, bytes_eq, nat_eq}
use Rattle.std.specs.List.{list_any, AllByRecursion}
use Rattle.std.specs.List.Sorted.{IsPermutation}
use Rattle.std.specs.Ordering.{nat_cmp, eq_by_cmp}
use Rattle.std.specs.Cmp.{nat_cmp_total, unsigned_Decides}
use Rattle.std.specs.FinMap.{get, insert, contains_key, nat_cmp-IsAntisymmetric}
use Rattle.std.proofs.lemmas.Bool.{cases_Bool, false≢true, and_parts, and_from, not-true}
use Rattle.std.proofs.lemmas.Option.{same_Some}
use Rattle.std.proofs.lemmas.Slice.Eq.{bytes_eq-Decides}
use Rattle.adm_lists.proofs.Orders.{same_key}
use Rattle.adm_lists.proofs.Each.{each_weaker}
use Rattle.adm_lists.proofs.Members.{none_in, in_all}
use Rattle.adm_types.specs.Limits.{is_listed}
use Rattle.adm_types.specs.declared.rows.Child.{Child}
use Rattle.adm_types.specs.declared.rows.Application.{Application}
use Rattle.adm_types.specs.declared.rows.Row.{Row as ImportRow}
use Rattle.adm_types.specs.declared.rows.PlaceRow.{PlaceRow}
use Rattle.adm_types.specs.declared.rows.PlaceState.TheVariants.{Offered}
use Rattle.adm_types.specs.declared.commands.Command.TheVariants as command
use Rattle.adm_match.specs.Market.{Code}
use Rattle.adm_waiting.specs.Waiting.{is_ahead}
use Rattle.adm_round.specs.Outcomes.{AllotmentFits}
use Rattle.adm_register.specs.State.{State, application_of}
use Rattle.adm_register.specs.Change.{after}
use Rattle.adm_register.specs.Wanted.{above, has_left, wanted_of}
use Rattle.adm_register.specs.Waits.{is_waiting, waiting_at}
use Rattle.adm_register.specs.WellFormed.{WellFormed, has_first_round, is_unplanned_at}
use Rattle.adm_register.proofs.Puts.{stays}
use Rattle.adm_register.proofs.WaitLemmas.{wanted_parts, waits_is, waiter_is}
use Rattle.adm_commands.specs.Commands.Fill as fill
use Rattle.adm_commands.specs.Commands.Round as round
use Rattle.adm_commands.specs.Commands.Import as import
use Rattle.adm_commands.specs.Commands.Round.{takes_part, round_lots}
use Rattle.adm_commands.specs.Steps.{Accepts}
use Rattle.adm_commands.proofs.ImportWalk.{IsAddable, new_rows-addable, new_rows-each}
use Rattle.adm_commands.proofs.EachOf.{each_permuted, each_map}
use Rattle.adm_commands.proofs.PutAgain.{get-insert_same}
use Rattle.adm_fairness.specs.Code.{is_ahead_by, is_ahead_at}
use Rattle.adm_fairness.specs.Season.{Envies, TakesNoPart}
use Rattle.adm_fairness.proofs.FairRound.{round_facts, fair_after, wanted_already}
use Rattle.adm_fairness.proofs.Ranks.{ahead_rows, not_behind, ranks_not_behind}
use Rattle.adm_fairness.proofs.Waiters.{IsFirst, waits_by, waiter_there}
use Rattle.adm_fairness.proofs.Fills.{same_or_other, other_stays, IsFill}
use Rattle.adm_fairness.proofs.Waits.{waited, fewer_above}
use Rattle.adm_fairness.proofs.EnvyRows.{not_itself, Before, held_child, had_round}

module _ (old : State) (well : WellFormed old) (child other : ℕ) (code : Code) where
  -- ---- draws

  module _ (new : State) (draw : ℕ) (school : Code) (day : ℕ) (numbers : List ℕ) (it : IsFill old new draw school day numbers) where
    first : IsFirst it.school (waiting_at old school) it.child
    first = it.first

    offer : PlaceRow
    offer = record { child = it.child; place = record { school = school; state = Offered day None } }

    -- the child that is offered the place wanted the school
    wanted_it : (application : Application) → get old.applications it.child ≡ Some application → is_listed (above (get old.places it.child) application.list) school ≡ true
    wanted_it application applied =
        let row = waiter_is old well school first.first first.among in
        let same : row.application ≡ application = same_Some row.application application (sym row.applied ∙ (ap (get old.applications) first.numbered ∙ applied)) in
        let number : row.application.child ≡ it.child = row.numbered ∙ first.numbered in
        let both = and_parts (has_first_round old.draws) (is_listed (wanted_of old row.application) school) row.waiting in
        let parts = and_parts (is_listed (above (get old.places row.application.child) row.application.list) school) (not (has_left old.left row.application.child school))
        (wanted_parts old row.application school ∙ both.1) in
        (λ i. is_listed (above (get old.places (sym number i)) (sym same i).list) school) ∙ parts.0

    was_round : has_first_round old.draws ≡ true
    was_round = let row = waiter_is old well school first.first first.among in (waits_is old well row.application school row.waiting).held

    waited_before : is_waiting (after old (fill.change_of old draw school day numbers it.child)) child code ≡ true → is_waiting old child code ≡ true
    unfolding fill.change_of offer
    waited_before waiting = waited old (after old (fill.change_of old draw school day numbers it.child)) child code well (record {
      applications = refl;
      held = λ h. was_round;
      left = λ h. h;
      higher = λ application applied high. elim (same_or_other child it.child) [
        | inr apart ↦ ap (λ p. is_listed (above p application.list) code) (sym (other_stays nat_cmp_total nat_cmp-IsAntisymmetric old.places it.child offer child apart)) ∙ high
        | inl same ↦
            let wants = wanted_it application (ap (get old.applications) (sym same) ∙ applied) in
            let there : get (insert old.places it.child offer) child ≡ Some offer = ap (get (insert old.places it.child offer)) same ∙ get-insert_same nat_cmp_total old.places it.child offer in
            fewer_above (get old.places child) application.list school code (ap (λ n. is_listed (above (get old.places n) application.list) school) same ∙ wants)
            (ap (λ p. is_listed (above p application.list) code) (sym there) ∙ high)
      ];
    }) waiting

    pub fill_case : Before old well child other code (after old (fill.change_of old draw school day numbers it.child))
    unfolding fill.change_of offer
    fill_case e =
        let waits = waited_before e.waits in
        record {
          waits = waits;
          held = elim (same_or_other other it.child) [
            | inr apart ↦ ap (λ p. is_unplanned_at p code) (sym (other_stays nat_cmp_total nat_cmp-IsAntisymmetric old.places it.child offer other apart)) ∙ e.held
            | inl same ↦
                let there : get (insert old.places it.child offer) other ≡ Some offer = ap (get (insert old.places it.child offer)) same ∙ get-insert_same nat_cmp_total old.places it.child offer in
                let here : school ≡ code = (bytes_eq-Decides school code).0 (and_parts (bytes_eq school code) true (ap (λ p. is_unplanned_at p code) (sym there) ∙ e.held)).0 in
                let row = waiter_there old well school child (ap (is_waiting old child) here ∙ waits) in
                let known = (waiter_is old well school first.first first.among).there in
                let ahead : is_ahead it.school row.0 first.first ≡ true =
                sym (ahead_rows old school child it.child it.school row.0 first.first it.there row.3 (ap (get old.children) (sym first.numbered) ∙ known))
                ∙ ((λ i. is_ahead_at old (here i) child (sym same i)) ∙ e.ahead) in
                absurd (elim (first.before row.0 row.1) [
                  | inl one ↦ false≢true (sym (not_itself old code child) ∙ ((λ i. is_ahead_at old code child ((sym row.2 ∙ (one ∙ sym same)) i)) ∙ e.ahead))
                  | inr less ↦ false≢true (sym (ranks_not_behind it.school first.first row.0 less.0 less.1 less.2) ∙ ahead)
                ])
          ];
          ahead = e.ahead;
        }

  pub round_case : AllotmentFits → (new : State) (draw day : ℕ) (numbers : List ℕ) → Accepts old (command.Round draw day numbers) new → Envies new child other code
      → Envies old child other code ⊎ TakesNoPart old child
  unfolding round.change_of
  round_case law new draw day numbers accepts e =
      let it = round_facts law old new draw day numbers well accepts in
      let by = waits_by new child code e.waits in
      let application = by.application in
      let applied : get old.applications child ≡ Some application = ap (λ (s : State). get s.applications child) (sym it.now) ∙ by.applied in
      let own : application.child ≡ child = (well.base.applications_fit child application applied).own_number in
      let there : get old.applications application.child ≡ Some application = ap (get old.applications) own ∙ applied in
      let wanted = (and_parts (has_first_round new.draws) (is_listed (wanted_of new application) code) by.waiting).1 in
      let ahead : is_ahead_at old code child other ≡ true = (λ i. is_ahead_by (get (sym it.now i).schools code) (get (sym it.now i).children child) (get (sym it.now i).children other)) ∙ e.ahead in
      elim (cases_Bool (takes_part old application)) [
        | inr none ↦ inr (application, applied, none)
        | inl part ↦
            let fair = fair_after old new draw day numbers it application code there part wanted in
            elim (fair.others other e.held) [
              | inr first ↦ absurd (false≢true (sym (not_behind old (round_lots old numbers) code other application.child first) ∙ ((λ i. is_ahead_at old code (own i) other) ∙ ahead)))
              | inl before ↦
                  let again = wanted_already old new draw day numbers it application code there part wanted in
                  inl (record {
                    waits = rw applied (and_from (has_first_round old.draws) (is_listed (wanted_of old application) code) (had_round old well child other code before) again);
                    held = before;
                    ahead = ahead;
                  })
            ]
      ]

  -- ---- an import

  another : (number new : ℕ) → (number ≡ new → ⊥) → eq_by_cmp nat_cmp number new ≡ false
  another number new apart = elim (cases_Bool (eq_by_cmp nat_cmp number new)) [
    | inl tie ↦ absurd (apart (same_key nat_cmp-IsAntisymmetric number new tie))
    | inr miss ↦ miss
  ]

  pub import_case : (rows added : List ImportRow) → import.refused_from old 1 rows ≡ None → IsPermutation (import.new_rows old rows) added
      → Envies (after old (import.change_of added)) child other code → Envies old child other code ⊎ (list_any (λ (row : ImportRow). nat_eq row.child.no child) rows ≡ true)
  unfolding import.change_of
  import_case rows added passes permuted e = elim (cases_Bool (list_any (λ (row : ImportRow). nat_eq row.child.no child) rows)) [
    | inl mine ↦ inr mine
    | inr none ↦
        let Apart : ImportRow → Type 0 = λ row. eq_by_cmp nat_cmp child row.child.no ≡ false in
        let apart : AllByRecursion Apart added =
        each_permuted Apart (import.new_rows old rows) added permuted (new_rows-each Apart old rows (in_all Apart rows (λ row at.
        another child row.child.no (λ same. false≢true (sym (none_in (λ (r : ImportRow). nat_eq r.child.no child) rows row none at) ∙ (unsigned_Decides row.child.no child).1 (sym same)))))) in
        let waits = waited old (after old (import.change_of added)) child code well (record {
          applications = stays nat_cmp_total (λ (a : Application). a.child) old.applications (map application_of added) child
              (each_map application_of (λ (a : Application). eq_by_cmp nat_cmp child a.child ≡ false) added apart);
          held = λ h. h;
          left = λ h. h;
          higher = λ a at h. h;
        }) e.waits in
        let known = held_child old well child other code e.held in
        let New : ImportRow → Type 0 = λ row. eq_by_cmp nat_cmp other row.child.no ≡ false in
        let new : AllByRecursion New added =
        each_permuted New (import.new_rows old rows) added permuted (each_weaker (IsAddable old) New (λ row fits.
        another other row.child.no (λ same. false≢true (sym (not-true _ fits.new_child) ∙ (ap (contains_key old.children) (sym same) ∙ known)))) (import.new_rows old rows)
        (new_rows-addable old 1 rows passes).each) in
        let mine = stays nat_cmp_total (λ (c : Child). c.no) old.children (map (λ (r : ImportRow). r.child) added) child
        (each_map (λ (r : ImportRow). r.child) (λ (c : Child). eq_by_cmp nat_cmp child c.no ≡ false) added apart) in
        let its = stays nat_cmp_total (λ (c : Child). c.no) old.children (map (λ (r : ImportRow). r.child) added) other
        (each_map (λ (r : ImportRow). r.child) (λ (c : Child). eq_by_cmp nat_cmp other c.no ≡ false) added new) in
        inl (record { waits = waits; held = e.held; ahead = (λ i. is_ahead_by (get old.schools code) (sym mine i) (sym its i)) ∙ e.ahead })
  ]
