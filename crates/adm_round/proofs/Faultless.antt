-- The problem that a round poses is well-formed.
use Rattle.std.proofs.Common.{◌≡◌, ℕ, List, ◌++◌, map, Option, None, Some, Bool, true, false, cond, not, ◌&&◌, ◌||◌, [], ◌∷◌, inl, inr, refl, sym, ap, ◌∙◌, subst, arith}
use Rattle.std.specs.Prelude.{bytes_eq, option_map, unwrap_or, ◌==◌, find, filter}
use Rattle.std.specs.List.{list_any}
use Rattle.std.specs.Option.{option_to_list}
use Rattle.std.specs.Ordering.{nat_cmp, is_eq}
use Rattle.std.specs.declared.cmp.Ordering.TheVariants.{Less}
use Rattle.std.specs.Cmp.Lexicographic.{slice_cmp}
use Rattle.std.proofs.lemmas.Bool.{cases_Bool, false≢true, or_from, and_parts, and_from, not-true, eq-eqb, eqb-true}
use Rattle.std.proofs.lemmas.Bool.Decides.{nat_tests}
use Rattle.std.proofs.lemmas.Map.Text.{is_eq-slice_cmp}
use Rattle.std.proofs.lemmas.Slice.Eq.{bytes_eq-Decides}
use Rattle.adm_lists.proofs.Members.{In, in_map, from_map, in_filter, in_flat_map, from_append, none_in, finds, find_gives, All_in}
use Rattle.adm_lists.proofs.Orders.{eq_number}
use Rattle.adm_lists.proofs.Each.{any-map}
use Rattle.adm_types.specs.Code.{has}
use Rattle.adm_types.specs.declared.draws.Lot.{Lot}
use Rattle.adm_types.specs.Limits.{is_listed}
use Rattle.adm_types.specs.Lots.{is_same_lot, repeats_lot}
use Rattle.adm_rank.specs.declared.keys.RankKey.{RankKey}
use Rattle.adm_match.specs.declared.problem.Wish.{Wish}
use Rattle.adm_match.specs.declared.problem.Seats.{Seats}
use Rattle.adm_match.specs.declared.problem.BadProblem.TheVariants.{RepeatedSchool, UnknownSchool, EqualRank, TenantNotLast, RepeatedChild}
use Rattle.adm_match.specs.Market as match
use Rattle.adm_match.specs.Market.{Code, Candidate, Market, key_at, is_key, shares, share_rank, some_pair, same_code, same_child, same_school, is_not_last, repeats_school, names_unknown, repeats_child, has_tenant_not_last, has_equal_rank, first_fault}
use Rattle.adm_round.specs.declared.applicants.Applicant.{Applicant}
use Rattle.adm_round.specs.declared.applicants.Site.{Site}
use Rattle.adm_round.specs.declared.applicants.Pair.{Pair}
use Rattle.adm_round.specs.Round.{code_of_site, number_of, wants, listed, pair_at, pairs_at, pairs, pair_of, is_site, IsListFit, IsPosed}
use Rattle.adm_round.specs.Ranks.{site_of, lot_at, wishes_for, candidate_of, seats_of, market_of_round}
use Rattle.adm_round.specs.declared.round_index.RoundIndex.{RoundIndex}
use Rattle.adm_round.specs.Lookups.{site_in, lot_in, IsRoundIndex}
use Rattle.adm_round.proofs.Pairs.{pair_not, no_pair}
use Rattle.adm_round.proofs.ListedSchools.{code_swap, code_self, site_known, school_of_wish, schools_are, wish_is, no_repeat, none_any, no_unknown, own_last}

less_apart : (s t : Code) → slice_cmp nat_cmp s t ≡ Less → bytes_eq s t ≡ false
less_apart s t h = sym (is_eq-slice_cmp s t) ∙ ap is_eq h

less_numbers : (a b : ℕ) → nat_cmp a b ≡ Less → a == b ≡ false
less_numbers a b h = sym (eq_number a b) ∙ ap is_eq h

-- the lot of a child at a school that it wants
pub record LotAt (lots : List Lot) (code : Code) (child : ℕ) : Type 0 where
  pub drawn : Lot
  pub among : In drawn lots
  pub at_code : drawn.school ≡ code
  pub of_child : drawn.child ≡ child
  pub is : lot_at lots code child ≡ drawn.lot

lot_found : (lots : List Lot) (code : Code) (child : ℕ) (lot : Lot) → In lot lots → lot.school ≡ code → lot.child ≡ child → LotAt lots code child
lot_found lots code child lot i s n =
    let test : Lot → Bool = λ l. bytes_eq l.school code && l.child == child in
    let hit : test lot ≡ true = and_from (bytes_eq lot.school code) (lot.child == child) ((bytes_eq-Decides lot.school code).1 s) (eq-eqb lot.child child n) in
    let f = finds test lots lot i hit in
    let g = find_gives test lots f.0 f.1 in
    let parts = and_parts (bytes_eq f.0.school code) (f.0.child == child) g.1 in
    record {
      drawn = f.0;
      among = g.0;
      at_code = (bytes_eq-Decides f.0.school code).0 parts.0;
      of_child = eqb-true f.0.child child parts.1;
      is = ap (λ (o : Option Lot). unwrap_or (option_map (λ (l : Lot). l.lot) o) 0) f.1;
    }

has_lot : (sites : List Site) (applicants : List Applicant) (lots : List Lot) (a : Applicant) (code : Code) → map pair_of lots ≡ pairs sites applicants → In a applicants
    → is_site sites code ≡ true → wants code a ≡ true → LotAt lots code (number_of a)
has_lot sites applicants lots a code drawn i known wanted =
    let s = site_known sites code known in
    let here : wants (code_of_site s.site) a ≡ true = ap (λ c. wants c a) s.at_code ∙ wanted in
    let pair : Pair = pair_at (code_of_site s.site) a in
    let at_site : In pair (pairs_at applicants s.site) =
    in_map (pair_at (code_of_site s.site)) (filter (wants (code_of_site s.site)) applicants) a (in_filter (wants (code_of_site s.site)) applicants a i here) in
    let among : In pair (pairs sites applicants) = in_flat_map (pairs_at applicants) sites s.site pair s.among at_site in
    let f = from_map pair_of lots pair (subst (In pair) (sym drawn) among) in
    lot_found lots code (number_of a) f.0 f.1 (ap (λ (p : Pair). p.school) f.2 ∙ s.at_code) (ap (λ (p : Pair). p.child) f.2)

-- a school of the list that is not the own one is wanted
is_wanted : (wanted : List Code) (own : Option Code) (code : Code) → In code (wanted ++ option_to_list own) → has own code ≡ false → is_listed wanted code ≡ true
is_wanted wanted own code i free = elim (from_append wanted (option_to_list own) code i) [
  | inl here ↦ elim (cases_Bool (is_listed wanted code)) [
    | inl yes' ↦ yes'
    | inr no' ↦ absurd (false≢true (sym (none_in (λ other. bytes_eq other code) wanted code no' here) ∙ code_self code))
  ]
  | inr there ↦ absurd (tenant own code there free)
]
  where
    tenant : (own : Option Code) (code : Code) → In code (option_to_list own) → has own code ≡ false → ⊥
    tenant None code h free = h
    tenant (Some o) code h free = elim h [
      | inl same ↦ false≢true (sym free ∙ (bytes_eq-Decides o code).1 same)
      | inr none ↦ none
    ]

same_lot_swap : (a b : Lot) → is_same_lot a b ≡ is_same_lot b a
same_lot_swap a b = λ i. code_swap a.school b.school i && number_swap a.lot b.lot i
  where
    number_swap : (m n : ℕ) → (m == n) ≡ (n == m)
    number_swap m n = grind (arith, nat_tests)

-- lots that repeat are a pair of which the later repeats the earlier
some_same : (lots : List Lot) → some_pair is_same_lot lots ≡ repeats_lot lots
some_same [] = refl
some_same (lot ∷ lots) = ap (λ b. list_any (is_same_lot lot) lots || b) (some_same lots)

-- two children that want a school have different lots there
lots_apart : (sites : List Site) (applicants : List Applicant) (lots : List Lot) (a b : Applicant) (code : Code) → IsPosed sites applicants lots → In a applicants
    → In b applicants → is_site sites code ≡ true → wants code a ≡ true → wants code b ≡ true → (number_of a ≡ number_of b → ⊥) → lot_at lots code (number_of a) ≡ lot_at lots code (number_of b) → ⊥
lots_apart sites applicants lots a b code h i j known wa wb apart same =
    let one = has_lot sites applicants lots a code h.lots_drawn i known wa in
    let other = has_lot sites applicants lots b code h.lots_drawn j known wb in
    let no_pair = pair_not is_same_lot lots one.drawn other.drawn same_lot_swap (some_same lots ∙ h.lots_differ) one.among other.among
    (λ e. apart (sym one.of_child ∙ (ap (λ (l : Lot). l.child) e ∙ other.of_child))) in
    false≢true (sym no_pair ∙ and_from (bytes_eq one.drawn.school other.drawn.school) (one.drawn.lot == other.drawn.lot)
    ((bytes_eq-Decides one.drawn.school other.drawn.school).1 (one.at_code ∙ sym other.at_code))
    (eq-eqb one.drawn.lot other.drawn.lot (sym one.is ∙ (same ∙ other.is))))

-- a key that is on a list is that of a wish
key_found : (ws : List Wish) (code : Code) (key : RankKey) → is_key (key_at ws code) key ≡ true → (w : Wish) × In w ws × (w.school ≡ code) × (w.key.lot ≡ key.lot)
key_found ws code key h = walk (find (λ w. bytes_eq w.school code) ws) refl h
  where
    walk : (o : Option Wish) → find (λ w. bytes_eq w.school code) ws ≡ o → is_key (option_map (λ w. w.key) o) key ≡ true → (w : Wish) × In w ws × (w.school ≡ code) × (w.key.lot ≡ key.lot)
    walk None is h = absurd (false≢true h)
    walk (Some w) is h =
        let g = find_gives (λ x. bytes_eq x.school code) ws w is in
        let parts = and_parts (w.key.class == key.class) (w.key.distance == key.distance && w.key.lot == key.lot) h in
        let more = and_parts (w.key.distance == key.distance) (w.key.lot == key.lot) parts.1 in
        (w, g.0, (bytes_eq-Decides w.school code).0 g.1, eqb-true w.key.lot key.lot more.1)

module _ (sites : List Site) (applicants : List Applicant) (lots : List Lot) (h : IsPosed sites applicants lots) where
  fit_of : (a : Applicant) → In a applicants → IsListFit sites a
  fit_of a i = All_in (IsListFit sites) applicants a h.lists_fit i

  known_of : (a : Applicant) → In a applicants → (code : Code) → In code (listed a) → is_site sites code ≡ true
  known_of a i code l = All_in (λ c. is_site sites c ≡ true) (listed a) code (fit_of a i).known l

  abbrev list_of : Applicant → List Wish
  list_of a = wishes_for (site_of sites) (lot_at lots) a.child (listed a)

  pub its_schools : (a : Applicant) → In a applicants → map school_of_wish (list_of a) ≡ listed a
  its_schools a i = schools_are sites (lot_at lots) a.child (listed a) (known_of a i)

  one_apart : (a b : Applicant) → In a applicants → In b applicants → (number_of a ≡ number_of b → ⊥) → (w : Wish) → In w (list_of a)
      → shares (candidate_of (site_of sites) (lot_at lots) a) (candidate_of (site_of sites) (lot_at lots) b) w ≡ true → ⊥
  one_apart a b i j apart w k t =
      let parts = and_parts (is_key (key_at (list_of b) w.school) w.key) (not (has a.own w.school) && not (has b.own w.school)) t in
      let free = and_parts (not (has a.own w.school)) (not (has b.own w.school)) parts.1 in
      let mine = wish_is sites (lot_at lots) a.child (listed a) w (known_of a i) k in
      let z = key_found (list_of b) w.school w.key parts.0 in
      let its = wish_is sites (lot_at lots) b.child (listed b) z.0 (known_of b j) z.1 in
      let there : In w.school (listed b) = subst (λ c. In c (listed b)) z.2 its.0 in
      lots_apart sites applicants lots a b w.school h i j (known_of a i w.school mine.0)
      (is_wanted a.wanted a.own w.school mine.0 (not-true (has a.own w.school) free.0))
      (is_wanted b.wanted b.own w.school there (not-true (has b.own w.school) free.1))
      apart
      (sym mine.1 ∙ (sym z.3 ∙ (its.1 ∙ ap (λ c. lot_at lots c (number_of b)) z.2)))

  ranks_apart : (a b : Applicant) → In a applicants → In b applicants → (number_of a ≡ number_of b → ⊥)
      → share_rank (candidate_of (site_of sites) (lot_at lots) a) (candidate_of (site_of sites) (lot_at lots) b) ≡ false
  ranks_apart a b i j apart =
      none_any (shares (candidate_of (site_of sites) (lot_at lots) a) (candidate_of (site_of sites) (lot_at lots) b)) (list_of a) (λ w k.
      elim (cases_Bool (shares (candidate_of (site_of sites) (lot_at lots) a) (candidate_of (site_of sites) (lot_at lots) b) w)) [
        | inl t ↦ absurd (one_apart a b i j apart w k t)
        | inr f ↦ f
      ])

  abbrev entrant : Applicant → Candidate
  entrant = candidate_of (site_of sites) (lot_at lots)

  no_entrant : (p : Candidate → Bool) → ((a : Applicant) → In a applicants → p (entrant a) ≡ false) → list_any p (map entrant applicants) ≡ false
  no_entrant p n = any-map p entrant applicants ∙ none_any (λ a. p (entrant a)) applicants n

  pub seats_once : some_pair same_code (map seats_of sites) ≡ false
  seats_once = no_pair code_of_site (slice_cmp nat_cmp) seats_of same_code sites (λ x y i j less. less_apart (code_of_site x) (code_of_site y) less) h.codes_rise

  lists_once : list_any (λ e. some_pair same_school e.list) (map entrant applicants) ≡ false
  lists_once = no_entrant (λ e. some_pair same_school e.list) (λ a i. no_repeat (list_of a) a.wanted a.own (its_schools a i) (fit_of a i).once (fit_of a i).own_apart)

  known_seats : names_unknown (market_of_round sites applicants lots) ≡ false
  known_seats =
      no_entrant (λ e. list_any (λ w. not (list_any (λ seat. bytes_eq seat.code w.school) (map seats_of sites))) e.list) (λ a i.
      no_unknown (λ code. list_any (λ seat. bytes_eq seat.code code) (map seats_of sites)) (list_of a) (listed a) (its_schools a i)
      (λ code l. any-map (λ seat. bytes_eq seat.code code) seats_of sites ∙ known_of a i code l))

  children_once : some_pair same_child (map entrant applicants) ≡ false
  children_once = no_pair number_of nat_cmp entrant same_child applicants (λ x y i j less. less_numbers (number_of x) (number_of y) less) h.numbers_rise

  tenants_last : list_any (λ e. is_not_last e.list e.tenant) (map entrant applicants) ≡ false
  tenants_last = no_entrant (λ e. is_not_last e.list e.tenant) (λ a i. own_last (list_of a) a.wanted a.own (its_schools a i) (fit_of a i).own_apart)

  ranks_differ : some_pair share_rank (map entrant applicants) ≡ false
  ranks_differ =
      no_pair number_of nat_cmp entrant share_rank applicants (λ x y i j less.
      ranks_apart x y i j (λ e. false≢true (sym (less_numbers (number_of x) (number_of y) less) ∙ eq-eqb (number_of x) (number_of y) e))) h.numbers_rise

  none_of : (a b c d e : Bool) → a ≡ false → b ≡ false → c ≡ false → d ≡ false → e ≡ false
      → cond a (Some RepeatedSchool) (cond b (Some UnknownSchool) (cond c (Some RepeatedChild) (cond d (Some TenantNotLast) (cond e (Some EqualRank) None)))) ≡ None
  none_of a b c d e p q r s t =
      λ i. cond (p i) (Some RepeatedSchool) (cond (q i) (Some UnknownSchool) (cond (r i) (Some RepeatedChild) (cond (s i) (Some TenantNotLast) (cond (t i) (Some EqualRank) None))))

  abbrev m : Market
  m = market_of_round sites applicants lots

  pub faultless : first_fault (market_of_round sites applicants lots) ≡ None
  faultless =
      none_of (repeats_school m) (names_unknown m) (repeats_child m) (has_tenant_not_last m) (has_equal_rank m)
      (or_from (some_pair same_code m.seats) (list_any (λ e. some_pair same_school e.list) m.entrants) seats_once lists_once) known_seats children_once tenants_last ranks_differ

-- the entrants and seats that were made are those of the round
pub same_market : (sites : List Site) (applicants : List Applicant) (lots : List Lot) (round_index : RoundIndex) (entrants : List Candidate) (seats : List Seats)
    → IsRoundIndex sites lots round_index → entrants ≡ map (candidate_of (site_in sites round_index) (lot_in round_index)) applicants → seats ≡ map seats_of sites
    → match.market_of entrants seats ≡ market_of_round sites applicants lots
same_market sites applicants lots round_index entrants seats is e s =
    λ i. match.market_of ((e ∙ (λ j. map (candidate_of (λ code. is.sites_found code j) (λ school child. is.lots_found school child j)) applicants)) i) (s i)
