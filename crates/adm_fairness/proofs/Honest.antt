-- Applications before a round that differ in what some children list pose problems that differ in their lists alone.
use Rattle.std.proofs.Common.{◌≡◌, ◌∙◌, ap, sym, subst, refl, cond, Bool, true, false, not, ℕ, ◌≤◌, List, [], ◌∷◌, map, Option, Some, None, inl, inr, arith}
use Rattle.std.specs.Prelude.{◌⊎◌, ◌==◌, ◌||◌, All, Any, is_some, option_map, ◌&&◌}
use Rattle.std.specs.List.{AllZip, AllByRecursion}
use Rattle.std.specs.Ordering.{nat_cmp}
use Rattle.std.specs.declared.cmp.Ordering.TheVariants.{Less, Equal, Greater}
use Rattle.std.specs.Cmp.{nat_cmp_total}
use Rattle.std.specs.FinMap.{FinMap, get, insert, entries, values, put, entries-insert, nat_cmp-IsAntisymmetric}
use Rattle.std.specs.FinMap.Entries.{by_order}
use Rattle.std.proofs.lemmas.Bool.{false≢true, and_parts, eq-eqb, or_right}
use Rattle.std.proofs.lemmas.List.Elements.{recursion_from_All}
use Rattle.std.proofs.lemmas.Option.{same_Some, none-some, slice_get_within, get_or_from_slice_get}
use Rattle.adm_lists.proofs.Members.{In, in_map}
use Rattle.adm_lists.proofs.Options.{none_of}
use Rattle.adm_types.specs.declared.rows.Child.{Child}
use Rattle.adm_types.specs.declared.rows.Application.{Application}
use Rattle.adm_types.specs.declared.rows.PlaceRow.{PlaceRow}
use Rattle.adm_types.specs.declared.commands.Command.TheVariants.{Apply}
use Rattle.adm_types.specs.declared.commands.Refusal.TheVariants as refusal
use Rattle.adm_match.specs.Market.{Candidate, assigned_rank}
use Rattle.adm_match.specs.Stability.{IsBest, IsStable}
use Rattle.adm_match_laws.specs.Groups.{NoGroupGains}
use Rattle.adm_round.specs.declared.applicants.Applicant.{Applicant}
use Rattle.adm_round.specs.Round.{number_of}
use Rattle.adm_round.specs.Ranks.{site_of, lot_at, candidate_of}
use Rattle.adm_round.specs.Outcomes.{AllotmentFits}
use Rattle.adm_register.specs.State.{State, is_plan}
use Rattle.adm_register.specs.Change.{after}
use Rattle.adm_register.specs.Wanted.{wanted_of, own_school}
use Rattle.adm_register.specs.WellFormed.{WellFormed, has_first_round, lists_school}
use Rattle.adm_commands.specs.Commands.{KeptByTypes}
use Rattle.adm_commands.specs.Commands.Apply as apply
use Rattle.adm_commands.specs.Commands.Round.{takes_part, applicant_of, round_applicants, round_lots, round_market, sites}
use Rattle.adm_commands.specs.Imports.{Reaches}
use Rattle.adm_commands.specs.Problem.{lots_fault}
use Rattle.adm_commands.specs.Tests.{first_failing}
use Rattle.adm_commands.proofs.Passed.{passed}
use Rattle.adm_commands.proofs.PutAgain.{get-insert_same}
use Rattle.adm_commands.proofs.Shows.{no_row}
use Rattle.adm_fairness.specs.Honesty.{KeepsCommonLots, NoApplicationHelps, is_of_some, NoApplicationsHelp}
use Rattle.adm_fairness.proofs.Beside.{BothGive, zip_mapped, zip_given_two}
use Rattle.adm_fairness.proofs.Codes.{at_index}
use Rattle.adm_fairness.proofs.Envy.{kept_well}
use Rattle.adm_fairness.proofs.Fills.{other_stays}
use Rattle.adm_fairness.proofs.Group.{IsSameOr, just, not_all_gain, gains_nothing}
use Rattle.adm_fairness.proofs.Leaving.{not_applied}
use Rattle.adm_fairness.proofs.Taking.{taking}

-- ---- who takes part

module _ (old : State) (group : ℕ → Bool) where
  abbrev applied : FinMap nat_cmp Application → State
  applied applications = record old { applications = applications }

  -- one of the group takes part by both applications, and has no place
  record IsTwice (x y : Application) : Type 0 where
    pub member : group x.child ≡ true
    pub child : y.child ≡ x.child
    pub part : takes_part old x ≡ true
    pub part_too : takes_part old y ≡ true
    pub free : own_school (get old.places x.child) ≡ None

  abbrev IsPair : Application → Application → Type 0
  IsPair x y = (y ≡ x) ⊎ IsTwice x y

  abbrev IsRowPair : ℕ × Application → ℕ × Application → Type 0
  IsRowPair e f = (f.0 ≡ e.0) × IsPair e.1 f.1

  rows_themselves : (es : List (ℕ × Application)) → AllZip IsRowPair es es
  rows_themselves [] = tt
  rows_themselves (e ∷ es) = ((refl, inl refl), rows_themselves es)

  put_both : (k : ℕ) (one other : Application) → IsTwice one other → (es fs : List (ℕ × Application)) → AllZip IsRowPair es fs → AllZip IsRowPair (put nat_cmp k one es) (put nat_cmp k other fs)
  put_both k one other both [] [] h = ((refl, inr both), tt)
  put_both k one other both [] (f ∷ fs) h = absurd h
  put_both k one other both (e ∷ es) [] h = absurd h
  put_both k one other both (e ∷ es) (f ∷ fs) h =
      subst (λ n. AllZip IsRowPair (put nat_cmp k one (e ∷ es)) (by_order (nat_cmp k n) ((k, other) ∷ f ∷ fs) ((f.0, other) ∷ fs) (f ∷ put nat_cmp k other fs))) (sym h.0.0)
      (elim (nat_cmp k e.0) as (λ o. AllZip IsRowPair (by_order o ((k, one) ∷ e ∷ es) ((e.0, one) ∷ es) (e ∷ put nat_cmp k one es))
      (by_order o ((k, other) ∷ f ∷ fs) ((f.0, other) ∷ fs) (f ∷ put nat_cmp k other fs))) [
        | Less ↦ ((refl, inr both), h)
        | Equal ↦ ((h.0.0, inr both), h.1)
        | Greater ↦ (h.0, put_both k one other both es fs h.1)
      ])

  each_beside : WellFormed old → (A B : FinMap nat_cmp Application) (x y : Application) → IsPair x y → BothGive (IsSameOr group) (applicant_of (applied A) x) (applicant_of (applied B) y)
  each_beside well A B x y pair = elim pair [
    | inl same ↦ subst (λ (z : Application). BothGive (IsSameOr group) (applicant_of (applied A) x) (applicant_of (applied B) z)) (sym same) (itself (applicant_of (applied A) x))
    | inr both ↦ the_child both
  ]
    where
      itself : (o : Option Applicant) → BothGive (IsSameOr group) o o
      itself None = tt
      itself (Some a) = inl refl

      as_applicant : Application → Child → Applicant
      as_applicant a child = record { child = child; wanted = wanted_of old a; own = own_school (get old.places a.child) }

      of_child : IsTwice x y → (o p : Option Child) → p ≡ o → ((row : Child) → o ≡ Some row → row.no ≡ x.child)
          → BothGive (IsSameOr group) (cond true (option_map (as_applicant x) o) None) (cond true (option_map (as_applicant y) p) None)
      of_child both None None same number = tt
      of_child both None (Some row) same number = absurd (none-some row (sym same))
      of_child both (Some row) None same number = absurd (none-some row same)
      of_child both (Some row) (Some row') same number =
          inr (ap group (number row refl) ∙ both.member, ap (λ (c : Child). c.no) (same_Some row' row same), ap (λ n. own_school (get old.places n)) both.child ∙ both.free)

      the_child : IsTwice x y → BothGive (IsSameOr group) (applicant_of (applied A) x) (applicant_of (applied B) y)
      the_child both =
          subst (λ b. BothGive (IsSameOr group) (cond b (option_map (as_applicant x) (get old.children x.child)) None) (applicant_of (applied B) y)) (sym both.part)
          (subst (λ b. BothGive (IsSameOr group) (cond true (option_map (as_applicant x) (get old.children x.child)) None) (cond b (option_map (as_applicant y) (get old.children y.child)) None)) (sym both.part_too)
          (of_child both (get old.children x.child) (get old.children y.child) (ap (get old.children) both.child)
          (λ row at. (well.base.children_fit x.child row at).own_number)))

  applicants_beside : WellFormed old → (A B : FinMap nat_cmp Application) → AllZip IsRowPair (entries A) (entries B) → AllZip (IsSameOr group) (round_applicants (applied A)) (round_applicants (applied B))
  applicants_beside well A B rows =
      zip_given_two IsPair (IsSameOr group) (applicant_of (applied A)) (applicant_of (applied B)) (values A) (values B)
      (zip_mapped IsRowPair IsPair (λ e. e.1) (λ e. e.1) (entries A) (entries B) rows (λ e f at bt both. both.1)) (each_beside well A B)

-- who may apply has no place
no_place_before : (old : State) (application : Application) → WellFormed old → first_failing (apply.tests old application) ≡ None → own_school (get old.places application.child) ≡ None
unfolding apply.tests
no_place_before old application well passes = by (get old.places application.child) refl
  where
    unapplied : get old.applications application.child ≡ None
    unapplied = none_of (get old.applications application.child) (passed (apply.tests old application) passes refusal.AlreadyApplied)

    by : (place : Option PlaceRow) → get old.places application.child ≡ place → own_school place ≡ None
    by None at = refl
    by (Some row) at = elim (is_plan row.place.state) as (λ b. is_plan row.place.state ≡ b → cond b None (Some row.place.school) ≡ None) [
      | true ↦ λ plan. refl
      | false ↦ λ unplanned.
          let fits = well.places.each application.child row at in
          let entitled = and_parts (has_first_round old.draws) (lists_school (get old.applications row.child) row.place.school)
          (sym (ap (λ b. cond b (not (is_some (get old.applications row.child))) (has_first_round old.draws && lists_school (get old.applications row.child) row.place.school)) unplanned)
          ∙ fits.entitled) in
          absurd (false≢true (ap (λ o. lists_school o row.place.school) (sym unapplied ∙ ap (get old.applications) (sym fits.own_number)) ∙ entitled.1))
    ] refl

-- ---- several applications

-- an application stays where others follow
still_applied : (xs : List Application) (s new : State) (number : ℕ) (row : Application) → Reaches s (map Apply xs) new → get s.applications number ≡ Some row → get new.applications number ≡ Some row
unfolding apply.change_of
still_applied [] s new number row reaches there = ap (λ (t : State). get t.applications number) reaches ∙ there
still_applied (x ∷ xs) s new number row reaches there =
    let accepts = reaches.1 in
    let unapplied = not_applied s x (no_row _ accepts.1.0) in
    let now : reaches.0 ≡ after s (apply.change_of x) = accepts.1.1.2 ∙ ap (after s) accepts.1.1.1.0 in
    still_applied xs reaches.0 new number row reaches.2
    (ap (λ (t : State). get t.applications number) now
    ∙ (other_stays nat_cmp_total nat_cmp-IsAntisymmetric s.applications x.child x number (λ same. none-some row (sym unapplied ∙ (ap (get s.applications) (sym same) ∙ there))) ∙ there))

module _ (law : AllotmentFits) (old : State) (group : ℕ → Bool) where
  -- two registers that differ in the applications of the group
  record AreBeside (honest stated : State) : Type 0 where
    pub one : FinMap nat_cmp Application
    pub other : FinMap nat_cmp Application
    pub first : honest ≡ applied old group one
    pub second : stated ≡ applied old group other
    pub rows : AllZip (IsRowPair old group) (entries one) (entries other)
    pub well : WellFormed (applied old group one)
    pub well_too : WellFormed (applied old group other)

  beside_after : (ones others : List Application) (A B : FinMap nat_cmp Application) (honest stated : State)
      → WellFormed (applied old group A) → WellFormed (applied old group B) → AllZip (IsRowPair old group) (entries A) (entries B)
      → AllZip (λ x y. y.child ≡ x.child) ones others
      → AllByRecursion KeptByTypes (map Apply ones) → AllByRecursion KeptByTypes (map Apply others)
      → AllByRecursion (λ x. takes_part old x ≡ true) ones → AllByRecursion (λ x. takes_part old x ≡ true) others
      → ((x : Application) → In x ones → group x.child ≡ true)
      → Reaches (applied old group A) (map Apply ones) honest → Reaches (applied old group B) (map Apply others) stated → AreBeside honest stated
  unfolding apply.change_of
  beside_after [] [] A B honest stated well well' rows same kept kept' parts parts' members reaches reaches' = record {
    one = A;
    other = B;
    first = reaches;
    second = reaches';
    rows = rows;
    well = well;
    well_too = well';
  }
  beside_after [] (y ∷ ys) A B honest stated well well' rows same kept kept' parts parts' members reaches reaches' = absurd same
  beside_after (x ∷ xs) [] A B honest stated well well' rows same kept kept' parts parts' members reaches reaches' = absurd same
  beside_after (x ∷ xs) (y ∷ ys) A B honest stated well well' rows same kept kept' parts parts' members reaches reaches' =
      let accepts = reaches.1 in
      let accepts' = reaches'.1 in
      let now : reaches.0 ≡ applied old group (insert A x.child x) = accepts.1.1.2 ∙ ap (after (applied old group A)) accepts.1.1.1.0 in
      let now' : reaches'.0 ≡ applied old group (insert B y.child y) = accepts'.1.1.2 ∙ ap (after (applied old group B)) accepts'.1.1.1.0 in
      let both : IsTwice old group x y = record {
        member = members x (inl refl);
        child = same.0;
        part = parts.0;
        part_too = parts'.0;
        free = no_place_before (applied old group A) x well (no_row _ accepts.1.0);
      } in
      let put_rows : AllZip (IsRowPair old group) (entries (insert A x.child x)) (entries (insert B y.child y)) =
      subst (λ es. AllZip (IsRowPair old group) es (entries (insert B y.child y))) (sym (entries-insert nat_cmp_total A x.child x))
      (subst (λ fs. AllZip (IsRowPair old group) (put nat_cmp x.child x (entries A)) fs) (sym (entries-insert nat_cmp_total B y.child y))
      (subst (λ n. AllZip (IsRowPair old group) (put nat_cmp x.child x (entries A)) (put nat_cmp n y (entries B))) (sym same.0)
      (put_both old group x.child x y both (entries A) (entries B) rows))) in
      beside_after xs ys (insert A x.child x) (insert B y.child y) honest stated
      (subst WellFormed now (kept_well law (applied old group A) reaches.0 (Apply x) kept.0 well accepts))
      (subst WellFormed now' (kept_well law (applied old group B) reaches'.0 (Apply y) kept'.0 well' accepts'))
      put_rows same.1 kept.1 kept'.1 parts.1 parts'.1 (λ z at. members z (inr at))
      (subst (λ s. Reaches s (map Apply xs) honest) now reaches.2) (subst (λ s. Reaches s (map Apply ys) stated) now' reaches'.2)

-- ---- the laws

pub no_application_helps_law : AllotmentFits → NoGroupGains → NoApplicationHelps
no_application_helps_law law groups old honest stated one other numbers drawn before after' first second well kept kept' same_child accepts accepts' part part' none none' lots =
    let group = just one.child in
    let it = beside_after law old group (one ∷ []) (other ∷ []) old.applications old.applications honest stated well well (rows_themselves old group (entries old.applications))
    (same_child, tt) (kept, tt) (kept', tt) (part, tt) (part', tt) (λ x at. elim at [ inl is ↦ eq-eqb x.child one.child (ap (λ (z : Application). z.child) (sym is)) | inr none ↦ absurd none ])
    (honest, accepts, refl) (stated, accepts', refl) in
    let s = applied old group it.one in
    let t = applied old group it.other in
    let lots' = subst (λ x. KeepsCommonLots x t (round_lots x numbers) (round_lots t drawn)) it.first
    (subst (λ y. KeepsCommonLots honest y (round_lots honest numbers) (round_lots y drawn)) it.second lots) in
    subst (λ x. All (λ (e : Candidate). e.child ≡ one.child → assigned_rank e.list (first.allocation one.child) ≤ assigned_rank e.list (second.allocation one.child)) (round_market x numbers).entrants) (sym it.first)
    (gains_nothing one.child s t numbers drawn it.well it.well_too (subst (λ x. lots_fault x numbers ≡ None) it.first none) (subst (λ x. lots_fault x drawn ≡ None) it.second none') refl refl refl
    (applicants_beside old group well it.one it.other it.rows) lots' groups first.allocation second.allocation
    (subst (λ x. IsBest (round_market x numbers) first.allocation) it.first first.best) (subst (λ x. IsStable (round_market x drawn) second.allocation) it.second second.best.stable))

-- some of several applications takes part
some_takes_part : (old honest : State) (one : Application) (ones : List Application) (numbers : List ℕ) (well : WellFormed honest) → Reaches old (map Apply (one ∷ ones)) honest
    → takes_part honest one ≡ true → Any (λ (e : Candidate). is_of_some (one ∷ ones) e.child ≡ true) (round_market honest numbers).entrants
unfolding apply.change_of
some_takes_part old honest one ones numbers well reaches part =
    let accepts = reaches.1 in
    let now : reaches.0 ≡ after old (apply.change_of one) = accepts.1.1.2 ∙ ap (after old) accepts.1.1.1.0 in
    let there : get honest.applications one.child ≡ Some one =
    still_applied ones reaches.0 honest one.child one reaches.2 (ap (λ (t : State). get t.applications one.child) now ∙ get-insert_same nat_cmp_total old.applications one.child one) in
    let c = taking honest well one there part in
    let entrant = candidate_of (site_of (sites honest)) (lot_at (round_lots honest numbers)) in
    let k = at_index (round_market honest numbers).entrants (entrant c.0) (in_map entrant (round_applicants honest) c.0 c.1.among) in
    let is : (one.child == (entrant c.0).child) ≡ true = eq-eqb one.child (number_of c.0) (sym c.1.number) in (
      k.0,
      entrant c.0,
      slice_get_within (round_market honest numbers).entrants k.0 (entrant c.0) k.1,
      get_or_from_slice_get (round_market honest numbers).entrants k.0 (entrant c.0) (entrant c.0) k.1,
      ap (λ b. b || is_of_some ones (number_of c.0)) is,
    )

pub no_applications_help_law : AllotmentFits → NoGroupGains → NoApplicationsHelp
no_applications_help_law law groups old honest stated [] others numbers drawn before after' first second well kept kept' same reaches reaches' parts parts' none none' lots some = absurd (omega (arith, some))
no_applications_help_law law groups old honest stated (one ∷ ones) others numbers drawn before after' first second well kept kept' same reaches reaches' parts parts' none none' lots some =
    let group = is_of_some (one ∷ ones) in
    let P : Application → Type 0 = λ x. takes_part old x ≡ true in
    let it = beside_after law old group (one ∷ ones) others old.applications old.applications honest stated well well (rows_themselves old group (entries old.applications))
    same kept kept' (recursion_from_All P (one ∷ ones) parts) (recursion_from_All P others parts') (λ x at. among (one ∷ ones) x at) reaches reaches' in
    let s = applied old group it.one in
    let t = applied old group it.other in
    let lots' = subst (λ x. KeepsCommonLots x t (round_lots x numbers) (round_lots t drawn)) it.first
    (subst (λ y. KeepsCommonLots honest y (round_lots honest numbers) (round_lots y drawn)) it.second lots) in
    let well_h = subst WellFormed (sym it.first) it.well in
    let takes = ap (λ x. takes_part x one) it.first ∙ (recursion_from_All P (one ∷ ones) parts).0 in
    let there = some_takes_part old honest one ones numbers well_h reaches takes in
    subst (λ x. Any (λ (e : Candidate). (group e.child ≡ true) × (assigned_rank e.list (first.allocation e.child) ≤ assigned_rank e.list (second.allocation e.child))) (round_market x numbers).entrants) (sym it.first)
    (not_all_gain group s t numbers drawn it.well it.well_too (subst (λ x. lots_fault x numbers ≡ None) it.first none) (subst (λ x. lots_fault x drawn ≡ None) it.second none') refl refl refl
    (applicants_beside old group well it.one it.other it.rows) lots' groups first.allocation second.allocation
    (subst (λ x. IsBest (round_market x numbers) first.allocation) it.first first.best) (subst (λ x. IsStable (round_market x drawn) second.allocation) it.second second.best.stable)
    (subst (λ x. Any (λ (e : Candidate). group e.child ≡ true) (round_market x numbers).entrants) it.first there))
  where
    among : (xs : List Application) (x : Application) → In x xs → is_of_some xs x.child ≡ true
    among [] x at = absurd at
    among (y ∷ ys) x at = elim at [
      | inl is ↦ ap (λ b. b || is_of_some ys x.child) (eq-eqb y.child x.child (ap (λ (z : Application). z.child) is))
      | inr later ↦ or_right (y.child == x.child) (is_of_some ys x.child) (among ys x later)
    ]
