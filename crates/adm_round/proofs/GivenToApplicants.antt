-- What the best allocation of a round's problem gives its applicants.
use Rattle.std.proofs.Common.{◌≡◌, ℕ, ◌<◌, List, [], ◌∷◌, ◌++◌, length, map, Option, None, Some, Bool, true, false, cond, not, ◌||◌, ◌&&◌, inl, inr, refl, sym, ap, ◌∙◌, subst, arith}
use Rattle.std.specs.Prelude.{bytes_eq, is_some, IfSome, option_map, unwrap_or, find, All, count_by, nat_lt}
use Rattle.std.specs.List.{list_any, AllZip}
use Rattle.std.specs.Option.{option_to_list}
use Rattle.std.proofs.lemmas.Bool.{cases_Bool, or_parts, false≢true, lt-ltb}
use Rattle.std.proofs.lemmas.List.Sums.{sum_by-cons}
use Rattle.std.proofs.lemmas.Slice.Eq.{bytes_eq-Decides}
use Rattle.adm_lists.proofs.Members.{In, in_map, All_in, in_All, none_in}
use Rattle.adm_types.specs.Code.{has}
use Rattle.adm_types.specs.declared.draws.Lot.{Lot}
use Rattle.adm_types.specs.declared.draws.Outcome.{Outcome}
use Rattle.adm_types.specs.Limits.{is_listed}
use Rattle.adm_match.specs.declared.problem.Wish.{Wish}
use Rattle.adm_match.specs.declared.problem.Seats.{Seats}
use Rattle.adm_match.specs.Market.{Code, Candidate, preference_rank, assigned_rank, is_tenant, quota_of, some_pair, same_code}
use Rattle.adm_match.specs.Stability.{Allocation, IsBest, IsContent, is_guest, prefers}
use Rattle.adm_round.specs.declared.applicants.Applicant.{Applicant}
use Rattle.adm_round.specs.declared.applicants.Site.{Site}
use Rattle.adm_round.specs.Round.{code_of_site, number_of, listed, IsListFit, IsPosed}
use Rattle.adm_round.specs.Ranks.{site_of, lot_at, candidate_of, seats_of, market_of_round}
use Rattle.adm_round.specs.Outcomes.{is_fresh, outcome_of, outcomes_of, AreBest, HasListedSchool, KeepsTenant, HasRoom, AllotmentFits, outcomes_at, has_fresh}
use Rattle.adm_round.proofs.ListedSchools.{school_of_wish, on_list, own_within, code_self}
use Rattle.adm_round.proofs.Faultless.{its_schools, seats_once}

children_are : (a : Allocation) (xs : List Applicant) → map (λ outcome. outcome.child) (outcomes_of a xs) ≡ map number_of xs
children_are a [] = refl
children_are a (x ∷ xs) = λ i. number_of x ∷ children_are a xs i

each_zip : {X Y : Type 0} (R : X → Y → Type 0) (f : X → Y) (xs : List X) → ((x : X) → In x xs → R x (f x)) → AllZip R xs (map f xs)
each_zip R f [] h = tt
each_zip R f (x ∷ xs) h = (h x (inl refl), each_zip R f xs (λ y l. h y (inr l)))

listed_if : (o : Option Code) (ws : List Wish) (codes : List Code) → map school_of_wish ws ≡ codes → IfSome o (λ s. preference_rank ws s < length ws) → IfSome o (λ s. is_listed codes s ≡ true)
listed_if None ws codes is h = tt
listed_if (Some s) ws codes is h = on_list ws codes s is h

-- fresh at a school is what a guest is there
fresh_is : (place own : Option Code) (s : Code) → (has place s && is_fresh own place) ≡ (has place s && not (has own s))
fresh_is None own s = refl
fresh_is (Some t) own s = elim (cases_Bool (bytes_eq t s)) [
  | inl e ↦ ap (λ c. bytes_eq t s && not (has own c)) ((bytes_eq-Decides t s).0 e)
  | inr f ↦ ap (λ b. b && not (has own t)) f ∙ sym (ap (λ b. b && not (has own s)) f)
]

find_seats : (seats : List Seats) (seat : Seats) → In seat seats → some_pair same_code seats ≡ false → find (λ other. bytes_eq other.code seat.code) seats ≡ Some seat
find_seats [] seat i h = absurd i
find_seats (z ∷ zs) seat i h =
    let parts = or_parts (list_any (same_code z) zs) (some_pair same_code zs) h in
    let rest : Option Seats = find (λ other. bytes_eq other.code seat.code) zs in
    elim i [
      | inl same ↦ ap (λ b. cond b (Some z) rest) (ap (λ (x : Seats). bytes_eq x.code seat.code) same ∙ code_self seat.code) ∙ ap Some same
      | inr later ↦ ap (λ b. cond b (Some z) rest) (none_in (same_code z) zs seat parts.0 later) ∙ find_seats zs seat later parts.1
    ]

blocked : (a b c : Bool) → a ≡ true → b ≡ true → (a && (b || c)) ≡ false → ⊥
blocked a b c s t none = false≢true (sym none ∙ (λ i. s i && (t i || c)))

module _ (sites : List Site) (applicants : List Applicant) (lots : List Lot) (h : IsPosed sites applicants lots) (a : Allocation) (outcomes : List Outcome)
    (best : IsBest (market_of_round sites applicants lots) a) (given : outcomes ≡ outcomes_of a applicants) where
  pub are_best : AreBest (market_of_round sites applicants lots) applicants outcomes
  are_best = record { allocation = a; best = best; given = given }

  pub in_order : map (λ outcome. outcome.child) outcomes ≡ map number_of applicants
  in_order = ap (map (λ (outcome : Outcome). outcome.child)) given ∙ children_are a applicants

  abbrev entrant : Applicant → Candidate
  entrant = candidate_of (site_of sites) (lot_at lots)

  acceptable : (x : Applicant) → In x applicants → IfSome (a (number_of x)) (λ s. preference_rank (entrant x).list s < length (entrant x).list)
  acceptable x i =
      All_in (λ (e : Candidate). IfSome (a e.child) (λ s. preference_rank e.list s < length e.list)) (map entrant applicants) (entrant x) best.stable.acceptable (in_map entrant applicants x i)

  pub are_listed : AllZip HasListedSchool applicants outcomes
  are_listed =
      subst (AllZip HasListedSchool applicants) (sym given)
      (each_zip HasListedSchool (λ x. outcome_of x (a (number_of x))) applicants (λ x i.
      listed_if (a (number_of x)) (entrant x).list (listed x) (its_schools sites applicants lots h x i) (acceptable x i)))

  -- a tenant without a school would block with its own
  tenant_has : (x : Applicant) → In x applicants → (own place : Option Code) → x.own ≡ own → a (number_of x) ≡ place → is_some own ≡ true → is_some place ≡ true
  tenant_has x i own (Some s) o p t = refl
  tenant_has x i None None o p t = absurd (false≢true t)
  tenant_has x i (Some own) None o p t =
      let e : Candidate = entrant x in
      let apart = subst (λ q. IfSome q (λ s. is_listed x.wanted s ≡ false)) o (All_in (IsListFit sites) applicants x h.lists_fit i).own_apart in
      let on : preference_rank e.list own < length e.list = own_within e.list x.wanted own (its_schools sites applicants lots h x i ∙ ap (λ q. x.wanted ++ option_to_list q) o) apart in
      let content = All_in (IsContent (market_of_round sites applicants lots) a) (map entrant applicants) e best.stable.unblocked (in_map entrant applicants x i) own in
      let wished : prefers a e own ≡ true = ap (λ q. nat_lt (preference_rank e.list own) (assigned_rank e.list q)) p ∙ lt-ltb _ _ on in
      let tenant : is_tenant e own ≡ true = ap (λ q. has q own) o ∙ code_self own in
      absurd (blocked _ _ _ wished tenant content)

  pub tenants_keep : AllZip KeepsTenant applicants outcomes
  tenants_keep =
      subst (AllZip KeepsTenant applicants) (sym given)
      (each_zip KeepsTenant (λ x. outcome_of x (a (number_of x))) applicants (λ x i. tenant_has x i x.own (a (number_of x)) refl refl))

  fresh_guests : (s : Code) (xs : List Applicant) → has_fresh s (outcomes_of a xs) ≡ list_any (is_guest a s) (map entrant xs)
  fresh_guests s [] = refl
  fresh_guests s (x ∷ xs) = λ i. fresh_is (a (number_of x)) x.own s i || fresh_guests s xs i

  count_guests : (s : Code) (xs : List Applicant) → outcomes_at s (outcomes_of a xs) ≡ count_by (λ (e : Candidate). has (a e.child) s) (map entrant xs)
  count_guests s [] = refl
  count_guests s (x ∷ xs) =
      let one : Outcome → ℕ = λ outcome. cond (has outcome.school s) 1 0 in
      let other : Candidate → ℕ = λ e. cond (has (a e.child) s) 1 0 in
      omega (arith, sum_by-cons one (outcome_of x (a (number_of x))) (outcomes_of a xs), sum_by-cons other (entrant x) (map entrant xs), count_guests s xs)

  quota_is : (site : Site) → In site sites → quota_of (map seats_of sites) (code_of_site site) ≡ site.quota
  quota_is site i =
      ap (λ (o : Option Seats). unwrap_or (option_map (λ (seat : Seats). seat.quota) o) 0)
      (find_seats (map seats_of sites) (seats_of site) (in_map seats_of sites site i) (seats_once sites applicants lots h))

  pub have_room : All (HasRoom outcomes) sites
  have_room = in_All (HasRoom outcomes) sites (λ site i fresh.
      let s : Code = code_of_site site in
      let guests : list_any (is_guest a s) (map entrant applicants) ≡ true = sym (ap (has_fresh s) given ∙ fresh_guests s applicants) ∙ fresh in
      let counted : outcomes_at s outcomes ≡ count_by (λ (e : Candidate). has (a e.child) s) (map entrant applicants) = ap (outcomes_at s) given ∙ count_guests s applicants in
      omega (arith, counted, quota_is site i, best.stable.feasible s guests))

pub allotment_fits_law : AllotmentFits
allotment_fits_law sites applicants lots outcomes h best = (
  are_listed sites applicants lots h best.allocation outcomes best.best best.given,
  tenants_keep sites applicants lots h best.allocation outcomes best.best best.given,
  have_room sites applicants lots h best.allocation outcomes best.best best.given,
  in_order sites applicants lots h best.allocation outcomes best.best best.given,
)
