-- One round anew, without the children who withdrew, gives each child what it has after all rounds.
use Rattle.std.proofs.Common.{◌≡◌, ◌∙◌, ap, sym, subst, refl, cond, Bool, true, false, ℕ, ◌-◌, ◌≤◌, List, [], ◌∷◌, map, Option, Some, None, T, inl, inr, arith}
use Rattle.std.specs.Prelude.{All, filter, option_map}
use Rattle.std.specs.List.{filter_map, cons_option}
use Rattle.std.specs.BTreeMap.{is_at}
use Rattle.std.specs.Map.{lookup, keys_of}
use Rattle.std.specs.List.Sorted.{IsStrictlySortedBy}
use Rattle.std.specs.Ordering.{nat_cmp}
use Rattle.std.specs.declared.cmp.Ordering.TheVariants.{Equal}
use Rattle.std.specs.Cmp.{nat_cmp_total}
use Rattle.std.specs.FinMap.{FinMap, get, entries, values, retain_keys, from_sorted, is_sorted, entries_sorted, entries-from_sorted, get-entries, get-from_sorted, get-retain_keys, same_map, nat_cmp-IsAntisymmetric}
use Rattle.std.specs.FinMap.Entries.{where_key, is_sorted-where_key, find-where_key}
use Rattle.std.proofs.lemmas.Bool.{cases_Bool}
use Rattle.std.proofs.lemmas.Option.{same_Some}
use Rattle.adm_lists.proofs.Maps.{apart, entries_in_order, map_of_entries, get_rows}
use Rattle.adm_lists.proofs.Members.{In, All_in, in_All, in_map, from_map, from_filter}
use Rattle.adm_lists.proofs.Orders.{tied}
use Rattle.adm_types.specs.declared.rows.School.{School}
use Rattle.adm_types.specs.declared.rows.Child.{Child}
use Rattle.adm_types.specs.declared.rows.Application.{Application}
use Rattle.adm_types.specs.declared.draws.Lot.{Lot}
use Rattle.adm_types.specs.declared.draws.Outcome.{Outcome}
use Rattle.adm_rank.specs.Ranking.{key_of}
use Rattle.adm_match.specs.Market.{Code, Candidate, assigned_rank}
use Rattle.adm_match.specs.Stability.{Allocation, IsBest}
use Rattle.adm_match.proofs.RanksAndBlocks.{at_All}
use Rattle.adm_round.specs.declared.applicants.Applicant.{Applicant}
use Rattle.adm_round.specs.Round.{code_of_site, number_of, listed, is_site, IsListFit, IsPosed}
use Rattle.adm_round.specs.Ranks.{site_of, lot_at, wish_at, wishes_for, candidate_of, seats_of}
use Rattle.adm_round.specs.Outcomes.{outcome_of, AllotmentFits}
use Rattle.adm_round.proofs.ListedSchools.{site_known}
use Rattle.adm_register.specs.State.{State}
use Rattle.adm_register.specs.Wanted.{own_school}
use Rattle.adm_register.specs.WellFormed.{WellFormed}
use Rattle.adm_commands.specs.Commands.Round.{applicant_of, round_applicants, round_lots, round_market, sites}
use Rattle.adm_commands.specs.Problem.{lots_fault}
use Rattle.adm_commands.proofs.Posed.{posed, lots_pass, of_application}
use Rattle.adm_commands.proofs.RoundEntrants.{site_is}
use Rattle.adm_commands.proofs.Shows.{no_row}
use Rattle.adm_fairness.specs.Anew.{remaining}
use Rattle.adm_fairness.specs.LaterRounds.{stays_to_end, begun_anew, OneRoundAnew}
use Rattle.adm_fairness.proofs.Built.{IsBuilt, key_with_pan}
use Rattle.adm_fairness.proofs.Codes.{at_index}
use Rattle.adm_fairness.proofs.CutoffLemmas.{same_by_rank}
use Rattle.adm_fairness.proofs.LaterRounds.{going_last, later_rounds_anew_law}
use Rattle.adm_fairness.proofs.Reordered.{best_reordered}
use Rattle.adm_fairness.proofs.SameOrder.{market_by, reordered, kept_order}

-- ---- what a test leaves of a list, and of what its elements give

filter_given : {X Y : Type 0} (f : X → Option Y) (p : X → Bool) (q : Y → Bool) (xs : List X) → ((x : X) → In x xs → (y : Y) → f x ≡ Some y → q y ≡ p x)
    → filter_map f (filter p xs) ≡ filter q (filter_map f xs)
filter_given f p q [] each = refl
filter_given {Y = Y} f p q (x ∷ xs) each = by (p x) refl (f x) refl (filter_given f p q xs (λ z at. each z (inr at)))
  where
    by : (b : Bool) → p x ≡ b → (o : Option Y) → f x ≡ o → filter_map f (filter p xs) ≡ filter q (filter_map f xs)
        → filter_map f (filter p (x ∷ xs)) ≡ filter q (filter_map f (x ∷ xs))
    by true hit None is rest =
        ap (λ c. filter_map f (cond c (x ∷ filter p xs) (filter p xs))) hit
        ∙ (ap (λ o. cons_option o (filter_map f (filter p xs))) is ∙ (rest ∙ sym (ap (λ o. filter q (cons_option o (filter_map f xs))) is)))
    by true hit (Some y) is rest =
        ap (λ c. filter_map f (cond c (x ∷ filter p xs) (filter p xs))) hit
        ∙ (ap (λ o. cons_option o (filter_map f (filter p xs))) is
        ∙ (ap (λ ys. y ∷ ys) rest
        ∙ (sym (ap (λ c. cond c (y ∷ filter q (filter_map f xs)) (filter q (filter_map f xs))) (each x (inl refl) y is ∙ hit))
        ∙ sym (ap (λ o. filter q (cons_option o (filter_map f xs))) is))))
    by false miss None is rest =
        ap (λ c. filter_map f (cond c (x ∷ filter p xs) (filter p xs))) miss
        ∙ (rest ∙ sym (ap (λ o. filter q (cons_option o (filter_map f xs))) is))
    by false miss (Some y) is rest =
        ap (λ c. filter_map f (cond c (x ∷ filter p xs) (filter p xs))) miss
        ∙ (rest
        ∙ (sym (ap (λ c. cond c (y ∷ filter q (filter_map f xs)) (filter q (filter_map f xs))) (each x (inl refl) y is ∙ miss))
        ∙ sym (ap (λ o. filter q (cons_option o (filter_map f xs))) is)))

filter_mapped : {X Y : Type 0} (f : X → Y) (q : Y → Bool) (xs : List X) → filter q (map f xs) ≡ map f (filter (λ x. q (f x)) xs)
filter_mapped f q [] = refl
filter_mapped f q (x ∷ xs) =
    let rest = filter_mapped f q xs in
    elim (cases_Bool (q (f x))) [
      | inl hit ↦
          ap (λ b. cond b (f x ∷ filter q (map f xs)) (filter q (map f xs))) hit
          ∙ (ap (λ ys. f x ∷ ys) rest ∙ sym (ap (λ b. map f (cond b (x ∷ filter (λ z. q (f z)) xs) (filter (λ z. q (f z)) xs))) hit))
      | inr miss ↦
          ap (λ b. cond b (f x ∷ filter q (map f xs)) (filter q (map f xs))) miss
          ∙ (rest ∙ sym (ap (λ b. map f (cond b (x ∷ filter (λ z. q (f z)) xs) (filter (λ z. q (f z)) xs))) miss))
    ]

filter_alike : {X : Type 0} (p q : X → Bool) (xs : List X) → ((x : X) → In x xs → p x ≡ q x) → filter p xs ≡ filter q xs
filter_alike p q [] same = refl
filter_alike p q (x ∷ xs) same = λ i. cond (same x (inl refl) i) (x ∷ filter_alike p q xs (λ y at. same y (inr at)) i) (filter_alike p q xs (λ y at. same y (inr at)) i)

map_alike : {X Y : Type 0} (f g : X → Y) (xs : List X) → ((x : X) → In x xs → f x ≡ g x) → map f xs ≡ map g xs
map_alike f g [] same = refl
map_alike f g (x ∷ xs) same = λ i. same x (inl refl) i ∷ map_alike f g xs (λ y at. same y (inr at)) i

-- ---- applications by their children

-- each entry of a map whose rows are at their own keys is at the key of its row
keyed : (es : List (ℕ × Application)) → IsStrictlySortedBy nat_cmp (keys_of es) → ((k : ℕ) (v : Application) → lookup (is_at (nat_cmp k)) es ≡ Some v → v.child ≡ k)
    → (e : ℕ × Application) → In e es → e.1.child ≡ e.0
unfolding IsStrictlySortedBy
keyed [] sorted all e at = absurd at
keyed (x ∷ xs) sorted all e at = elim at [
  | inl same ↦
      subst (λ (z : ℕ × Application). z.1.child ≡ z.0) same
      (all x.0 x.1 (ap (λ b. cond b (Some x.1) (lookup (is_at (nat_cmp x.0)) xs)) (tied nat_cmp_total x.0)))
  | inr later ↦ keyed xs sorted.1 (λ k v there. all k v (ap (λ b. cond b (Some x.1) (lookup (is_at (nat_cmp k)) xs)) (apart nat_cmp-IsAntisymmetric x.0 xs sorted.0 k v there) ∙ there)) e later
]

-- the applications that are left are those whose children stay, in their order
left_values : (rows : FinMap nat_cmp Application) (stays : ℕ → Bool) → ((k : ℕ) (v : Application) → get rows k ≡ Some v → v.child ≡ k)
    → values (retain_keys rows stays) ≡ filter (λ a. stays a.child) (values rows)
left_values rows stays own =
    let es = entries rows in
    let left = where_key nat_cmp stays es in
    let sorted : T (is_sorted nat_cmp left) = is_sorted-where_key nat_cmp stays es (entries_sorted rows) in
    let alike : (q x : ℕ) → nat_cmp q x ≡ Equal → stays x ≡ stays q = λ q x tie. ap stays (sym (nat_cmp-IsAntisymmetric q x tie)) in
    let made : FinMap nat_cmp Application = from_sorted left in
    let same : retain_keys rows stays ≡ made = same_map nat_cmp_total nat_cmp-IsAntisymmetric (retain_keys rows stays) made (λ q.
    get-retain_keys rows stays q (alike q) ∙ (ap (λ o. cond (stays q) o None) (get-entries rows q)
    ∙ (sym (find-where_key nat_cmp stays q (alike q) es) ∙ sym (get-from_sorted nat_cmp left q sorted)))) in
    let looked : (q : ℕ) → get rows q ≡ lookup (is_at (nat_cmp q)) es = λ q. sym (ap (λ m. get m q) (map_of_entries nat_cmp_total nat_cmp-IsAntisymmetric rows)) ∙ get_rows nat_cmp_total es q in
    let keys : (e : ℕ × Application) → In e es → e.1.child ≡ e.0 = keyed es (entries_in_order rows) (λ k v there. own k v (looked k ∙ there)) in
    ap values same
    ∙ (ap (map (λ e. e.1)) (entries-from_sorted nat_cmp left sorted)
    ∙ (ap (map (λ e. e.1)) (filter_alike (λ (e : ℕ × Application). stays e.0) (λ e. stays e.1.child) es (λ e at. ap stays (sym (keys e at))))
    ∙ sym (filter_mapped (λ (e : ℕ × Application). e.1) (λ a. stays a.child) es)))

-- ---- the problem of one round anew

module _ (old end : State) (stays : ℕ → Bool) (numbers drawn : List ℕ) (built : IsBuilt old end) (well : WellFormed old) (well' : WellFormed (begun_anew stays old end))
    (none_s : lots_fault old numbers ≡ None) (none : lots_fault (begun_anew stays old end) drawn ≡ None) where
  abbrev whole : State
  whole = begun_anew stays old end

  abbrev first_lots : List Lot
  first_lots = round_lots old numbers

  fits_first : IsPosed (sites old) (round_applicants old) first_lots
  fits_first = posed old numbers well none_s

  fits : IsPosed (sites whole) (round_applicants whole) (round_lots whole drawn)
  fits = posed whole drawn well' none

  abbrev entrant : Applicant → Candidate
  entrant = candidate_of (site_of (sites old)) (lot_at first_lots)

  abbrev entrant' : Applicant → Candidate
  entrant' = candidate_of (site_of (sites whole)) (lot_at first_lots)

  -- who takes part are those who stay
  applicants_left : round_applicants whole ≡ filter (λ x. stays (number_of x)) (round_applicants old)
  applicants_left =
      ap (filter_map (applicant_of old)) (left_values old.applications stays (λ k v there. (well.base.applications_fit k v there).own_number))
      ∙ filter_given (applicant_of old) (λ a. stays a.child) (λ x. stays (number_of x)) (values old.applications) (λ a at x gives. ap stays (child_is a at x gives))
    where
      child_is : (a : Application) → In a (values old.applications) → (x : Applicant) → applicant_of old a ≡ Some x → number_of x ≡ a.child
      child_is a at x gives =
          let part = of_application old a x gives in
          ap number_of part.is ∙ (well.base.children_fit a.child part.child part.there).own_number

  -- by the same lots the wishes are the same
  same_wishes : (child : Child) (codes : List Code) → ((code : Code) → In code codes → is_site (sites old) code ≡ true) → ((code : Code) → In code codes → is_site (sites whole) code ≡ true)
      → wishes_for (site_of (sites whole)) (lot_at first_lots) child codes ≡ wishes_for (site_of (sites old)) (lot_at first_lots) child codes
  same_wishes child [] known known' = refl
  same_wishes child (code ∷ codes) known known' =
      let s = site_known (sites old) code (known code (inl refl)) in
      let t = site_known (sites whole) code (known' code (inl refl)) in
      let still = built.schools code s.site.school (ap (get old.schools) (sym s.at_code) ∙ (site_is old well s.site s.among).0) in
      let now : School = record s.site.school { pan = still.pan } in
      let school : t.site.school ≡ now = same_Some t.site.school now (sym (ap (get end.schools) (sym t.at_code) ∙ (site_is whole well' t.site t.among).0) ∙ still.is) in
      let code_same : code_of_site t.site ≡ code_of_site s.site = t.at_code ∙ sym s.at_code in
      let key : key_of t.site.school child (lot_at first_lots (code_of_site t.site) child.no) ≡ key_of s.site.school child (lot_at first_lots (code_of_site s.site) child.no) =
      (λ i. key_of (school i) child (lot_at first_lots (code_same i) child.no)) ∙ key_with_pan s.site.school still.pan (lot_at first_lots (code_of_site s.site) child.no) child in
      let wish : wish_at (lot_at first_lots) child t.site ≡ wish_at (lot_at first_lots) child s.site = λ i. record { school = code_same i; key = key i } in
      let rest = same_wishes child codes (λ c at. known c (inr at)) (λ c at. known' c (inr at)) in
      ap (λ o. cons_option (option_map (wish_at (lot_at first_lots) child) o) (wishes_for (site_of (sites whole)) (lot_at first_lots) child codes)) t.found
      ∙ ((λ i. wish i ∷ rest i)
      ∙ sym (ap (λ o. cons_option (option_map (wish_at (lot_at first_lots) child) o) (wishes_for (site_of (sites old)) (lot_at first_lots) child codes)) s.found))

  same_entrant : (x : Applicant) → In x (round_applicants old) → In x (round_applicants whole) → entrant' x ≡ entrant x
  same_entrant x at at' = λ i. record {
    child = number_of x;
    list = same_wishes x.child (listed x)
        (λ code here. All_in (λ c. is_site (sites old) c ≡ true) (listed x) code (All_in (IsListFit (sites old)) (round_applicants old) x fits_first.lists_fit at).known here)
        (λ code here. All_in (λ c. is_site (sites whole) c ≡ true) (listed x) code (All_in (IsListFit (sites whole)) (round_applicants whole) x fits.lists_fit at').known here) i;
    tenant = x.own;
  }

  same_entrants : map entrant' (round_applicants whole) ≡ filter (λ (e : Candidate). stays e.child) (round_market old numbers).entrants
  same_entrants =
      let left = filter (λ (x : Applicant). stays (number_of x)) (round_applicants old) in
      ap (map entrant') applicants_left
      ∙ (map_alike entrant' entrant left (λ x at. same_entrant x (from_filter (λ (x : Applicant). stays (number_of x)) (round_applicants old) x at).0 (subst (In x) (sym applicants_left) at))
      ∙ sym (filter_mapped entrant (λ (e : Candidate). stays e.child) (round_applicants old)))

  same_sites : sites whole ≡ sites end
  same_sites = λ i. map (λ (school : School). record { school = school; quota = school.pan - sym (built.plans school.code) i }) (values end.schools)

  pub same_market : market_by (sites whole) (round_applicants whole) (lot_at first_lots) ≡ remaining stays (map seats_of (sites end)) (round_market old numbers)
  same_market = λ i. record { entrants = same_entrants i; seats = map seats_of (same_sites i) }

pub one_round_anew_law : AllotmentFits → OneRoundAnew
one_round_anew_law law begun later end whole drawn outcomes lead is well' none best keeps =
    let old = begun.register in
    let numbers = begun.numbers in
    let stays = stays_to_end later in
    let last = going_last law begun later end lead in
    let h : Allocation = λ child. own_school (get end.places child) in
    let b = best.allocation in
    let first : Code → ℕ → ℕ = lot_at (round_lots old numbers) in
    let lots : Code → ℕ → ℕ = lot_at (round_lots whole drawn) in
    let m = market_by (sites whole) (round_applicants whole) first in
    let fit = (posed whole drawn well' none).lists_fit in
    let order = kept_order whole well' (round_lots old numbers) (round_lots whole drawn) keeps in
    let best_b : IsBest m b =
    best_reordered (round_market whole drawn) m b
    (reordered (sites whole) (round_applicants whole) fit lots first (λ x y xt yt code x_wants y_wants site found. sym (order x y xt yt code x_wants y_wants site found)))
    (reordered (sites whole) (round_applicants whole) fit first lots order) best.best in
    let same = same_market old end stays numbers drawn last.1.built lead.well (subst WellFormed is well') (lots_pass old begun.draw begun.day numbers (no_row _ lead.accepted.1.0)) (subst (λ s. lots_fault s drawn ≡ None) is none) in
    let best_h : IsBest m h = subst (λ p. IsBest p h) (sym (ap (λ s. market_by (sites s) (round_applicants s) first) is ∙ same)) (later_rounds_anew_law law begun later end lead) in
    let entrant : Applicant → Candidate = candidate_of (site_of (sites whole)) first in
    let each : All (λ (o : Outcome). o.school ≡ own_school (get end.places o.child)) (map (λ (x : Applicant). outcome_of x (b (number_of x))) (round_applicants whole)) =
    in_All (λ (o : Outcome). o.school ≡ own_school (get end.places o.child)) (map (λ (x : Applicant). outcome_of x (b (number_of x))) (round_applicants whole)) (λ o at.
    let x = from_map (λ (x : Applicant). outcome_of x (b (number_of x))) (round_applicants whole) o at in
    let k = at_index m.entrants (entrant x.0) (in_map entrant (round_applicants whole) x.0 x.1) in
    let there = at_All (λ (e : Candidate). assigned_rank e.list (h e.child) ≤ assigned_rank e.list (b e.child)) m.entrants k.0 (entrant x.0) (best_h.none_better b best_b.stable) k.1 in
    let back = at_All (λ (e : Candidate). assigned_rank e.list (b e.child) ≤ assigned_rank e.list (h e.child)) m.entrants k.0 (entrant x.0) (best_b.none_better h best_h.stable) k.1 in
    let equal : b (number_of x.0) ≡ h (number_of x.0) = same_by_rank m h b k.0 (entrant x.0) best_h.stable.acceptable best_b.stable.acceptable k.1 (omega (arith, there, back)) in
    subst (λ (y : Outcome). y.school ≡ own_school (get end.places y.child)) x.2 equal) in
    subst (All (λ (o : Outcome). o.school ≡ own_school (get end.places o.child))) (sym best.given) each
