-- Who waits at a school, one by one and as a list.
use Rattle.std.proofs.Common.{◌≡◌, ◌∙◌, ap, sym, subst, refl, cond, Bool, true, false, ℕ, List, [], ◌∷◌, map, length, Option, Some, None, inl, inr, arith}
use Rattle.std.specs.Prelude.{Contains, nat_eq, count_by, is_some, option_map, find, ◌⊎◌, ◌||◌}
use Rattle.std.specs.List.{zip}
use Rattle.std.specs.Ordering.{nat_cmp, is_lt}
use Rattle.std.specs.Cmp.{nat_cmp_total, tied_itself}
use Rattle.std.specs.FinMap.{get, values, nat_cmp-IsAntisymmetric}
use Rattle.std.proofs.lemmas.Bool.{false≢true, or_cases, eqb-true}
use Rattle.std.proofs.lemmas.Option.{none-some, same_Some}
use Rattle.std.proofs.lemmas.List.{length-map}
use Rattle.std.proofs.lemmas.List.Sums.{sum_by-cons}
use Rattle.std.proofs.lemmas.List.Sorted.{length_permutation}
use Rattle.adm_lists.proofs.Members.{In, contains, in_moved, in_map, in_filter_map, passes_in, find_gives, from_zip}
use Rattle.adm_lists.proofs.Maps.{in_values}
use Rattle.adm_lists.proofs.Rising.{same_list}
use Rattle.adm_lists.proofs.Orders.{less_of}
use Rattle.adm_types.specs.declared.rows.School.{School}
use Rattle.adm_types.specs.declared.rows.Child.{Child}
use Rattle.adm_types.specs.declared.rows.Application.{Application}
use Rattle.adm_rank.specs.Ranking.{key_of, precedes}
use Rattle.adm_match.specs.Market.{Code}
use Rattle.adm_waiting.specs.declared.lists.Waiting.{Waiting}
use Rattle.adm_waiting.specs.Waiting.{is_ahead, position, entry_of, waiting_list, in_order, is_first, ranks_before_other, first_by_lot}
use Rattle.adm_waiting.proofs.Sorting.{in_order_same}
use Rattle.adm_register.specs.State.{State}
use Rattle.adm_register.specs.WellFormed.{WellFormed}
use Rattle.adm_register.specs.declared.standings.Standing.{Standing}
use Rattle.adm_register.specs.Waits.{waits, is_waiting, waiting_child, waiting_at, list_of, standing_of}
use Rattle.adm_register.proofs.RoundLemmas.{rises_by}
use Rattle.adm_register.proofs.WaitLemmas.{waiter_is, waiters_rise}
use Rattle.adm_fairness.specs.Code.{ListsKnowNoOrder, StandingIsListed}
use Rattle.adm_fairness.proofs.Ranks.{ranks_not_behind, ahead_of_itself}

-- an application by which a child waits
pub record WaitsBy (s : State) (child : ℕ) (code : Code) : Type 0 where
  pub application : Application
  pub applied : get s.applications child ≡ Some application
  pub waiting : waits s application code ≡ true

pub waits_by : (s : State) (child : ℕ) (code : Code) → is_waiting s child code ≡ true → WaitsBy s child code
waits_by s child code is = by (get s.applications child) refl
  where
    by : (found : Option Application) → get s.applications child ≡ found → WaitsBy s child code
    by None at = absurd (false≢true (sym (rw at refl) ∙ is))
    by (Some application) at = record { application = application; applied = at; waiting = sym (rw at refl) ∙ is }

module _ (s : State) (well : WellFormed s) (code : Code) where
  -- the child of a number that waits is among those that wait
  pub waiter_there : (child : ℕ) → is_waiting s child code ≡ true → (row : Child) × In row (waiting_at s code) × (row.no ≡ child) × (get s.children child ≡ Some row)
  waiter_there child is =
      let by = waits_by s child code is in
      let fits = well.base.applications_fit child by.application by.applied in
      found by.application by.applied by.waiting fits.own_number (get s.children child) refl (ap (λ n. is_some (get s.children n)) (sym fits.own_number) ∙ fits.child)
    where
      found : (application : Application) → get s.applications child ≡ Some application → waits s application code ≡ true → application.child ≡ child
          → (o : Option Child) → get s.children child ≡ o → is_some o ≡ true → (row : Child) × In row (waiting_at s code) × (row.no ≡ child) × (get s.children child ≡ Some row)
      found application applied waiting own None at some = absurd (false≢true some)
      found application applied waiting own (Some row) at some = (
        row,
        in_filter_map (waiting_child s code) (values s.applications) application row (in_values nat_cmp_total nat_cmp-IsAntisymmetric s.applications child application applied)
            (ap (λ b. cond b (get s.children application.child) None) waiting ∙ (ap (get s.children) own ∙ at)),
        (well.base.children_fit child row at).own_number,
        at,
      )

  -- and the other way round
  pub waiter_waits : (row : Child) → In row (waiting_at s code) → is_waiting s row.no code ≡ true
  waiter_waits row at = let it = waiter_is s well code row at in rw it.applied it.waiting

  pub one_waiter : (one other : Child) → In one (waiting_at s code) → In other (waiting_at s code) → one.no ≡ other.no → one ≡ other
  one_waiter one other at there same =
      same_Some one other (sym (waiter_is s well code one at).there ∙ (ap (get s.children) same ∙ (waiter_is s well code other there).there))

-- ---- the list

abbrev entries : State → School → List Waiting
entries s school = map (entry_of school (waiting_at s school.code)) (waiting_at s school.code)

pub entry_listed : (s : State) (school : School) (child : Child) → In child (waiting_at s school.code) → Contains (list_of s school) (entry_of school (waiting_at s school.code) child)
unfolding waiting_list
entry_listed s school child there =
    let waiting = waiting_at s school.code in
    contains (in_order (entries s school)) (entry_of school waiting child)
    (in_moved (entries s school) (in_order (entries s school)) (entry_of school waiting child) (in_order_same (entries s school)) (in_map (entry_of school waiting) waiting child there))

list_length : (s : State) (school : School) → length (list_of s school) ≡ length (waiting_at s school.code)
unfolding waiting_list
list_length s school =
    length_permutation (entries s school) (in_order (entries s school)) (in_order_same (entries s school)) ∙ length-map (waiting_at s school.code) (entry_of school (waiting_at s school.code))

-- the standing of a child that waits
pub standing_is : (s : State) (code : Code) (school : School) (child : ℕ) (row : Child) → get s.schools code ≡ Some school → get s.children child ≡ Some row → is_waiting s child code ≡ true
    → standing_of s child code ≡ Some (record { entry = entry_of school (waiting_at s code) row; many = length (waiting_at s code) })
standing_is s code school child row there known waiting = rw (waiting, there, known) refl

pub waits_standing : (s : State) (child : ℕ) (code : Code) (standing : Standing) → standing_of s child code ≡ Some standing → is_waiting s child code ≡ true
waits_standing s child code standing is = by (is_waiting s child code) refl
  where
    by : (b : Bool) → is_waiting s child code ≡ b → b ≡ true
    by true e = refl
    by false e = absurd (none-some standing (sym (rw e refl) ∙ is))

pub standing_is_listed_law : StandingIsListed
standing_is_listed_law s school child standing well there is =
    let waiting = waits_standing s child school.code standing is in
    let row = waiter_there s well school.code child waiting in
    let mine : Standing = record { entry = entry_of school (waiting_at s school.code) row.0; many = length (waiting_at s school.code) } in
    let same : mine ≡ standing = same_Some mine standing (sym (standing_is s school.code school child row.0 there row.3 waiting) ∙ is) in
    subst (λ (x : Standing). (x.entry.child ≡ child) × Contains (list_of s school) x.entry × (x.many ≡ length (list_of s school))) same
    (row.2, entry_listed s school row.0 row.1, sym (list_length s school))

-- ---- whether a child waits, by its row

waiting_by : (s : State) (child : ℕ) (code : Code) (application : Application) → get s.applications child ≡ Some application → is_waiting s child code ≡ waits s application code
waiting_by s child code application at = rw at refl

waiting_none : (s : State) (child : ℕ) (code : Code) → get s.applications child ≡ None → is_waiting s child code ≡ false
waiting_none s child code at = rw at refl

-- of two registers in which a child has no application, or waits by that of the one as by that of the other, it waits in both or in neither
pub as_waiting : (s t : State) (child : ℕ) (code : Code) → get t.applications child ≡ get s.applications child
    → ((application : Application) → waits t application code ≡ waits s application code) → is_waiting t child code ≡ is_waiting s child code
as_waiting s t child code same waits' = by (get s.applications child) refl
  where
    by : (o : Option Application) → get s.applications child ≡ o → is_waiting t child code ≡ is_waiting s child code
    by None at = waiting_none t child code (same ∙ at) ∙ sym (waiting_none s child code at)
    by (Some application) at = waiting_by t child code application (same ∙ at) ∙ (waits' application ∙ sym (waiting_by s child code application at))

pub as_waiting_by : (s t : State) (child : ℕ) (code : Code) (was now : Application) → get s.applications child ≡ Some was → get t.applications child ≡ Some now
    → waits t now code ≡ waits s was code → is_waiting t child code ≡ is_waiting s child code
as_waiting_by s t child code was now at at' same = waiting_by t child code now at' ∙ (same ∙ sym (waiting_by s child code was at))

-- ---- the children alone

same_waiters : (one other : State) (code : Code) → WellFormed one → WellFormed other → other.children ≡ one.children
    → ((child : ℕ) → is_waiting other child code ≡ is_waiting one child code) → (row : Child) → In row (waiting_at one code) → In row (waiting_at other code)
same_waiters one other code well well' children waiting row at =
    let it = waiter_there other well' code row.no (waiting row.no ∙ waiter_waits one well code row at) in
    let there = (waiter_is one well code row at).there in
    let same : it.0 ≡ row = same_Some it.0 row (sym it.3 ∙ (ap (λ m. get m row.no) children ∙ there)) in
    subst (λ (x : Child). In x (waiting_at other code)) same it.1

pub lists_know_no_order_law : ListsKnowNoOrder
unfolding waiting_list
lists_know_no_order_law one other school well well' children waiting =
    let code : Code = school.code in
    let before : Child → Child → Bool = λ x y. is_lt (nat_cmp x.no y.no) in
    let same : waiting_at other code ≡ waiting_at one code =
    same_list before (λ x. not_itself x.no) (λ x y z h k. ap is_lt (nat_cmp_total.trans x.no y.no z.no (less_of _ h) (less_of _ k))) (waiting_at other code) (waiting_at one code)
    (rises_by nat_cmp (λ (c : Child). c.no) (waiting_at other code) (waiters_rise other well' code))
    (rises_by nat_cmp (λ (c : Child). c.no) (waiting_at one code) (waiters_rise one well code))
    (same_waiters other one code well' well (sym children) (λ child. sym (waiting child)))
    (same_waiters one other code well well' children waiting) in
    (same, ap (λ xs. in_order (map (entry_of school xs) xs)) same)
  where
    not_itself : (n : ℕ) → is_lt (nat_cmp n n) ≡ false
    not_itself n = ap is_lt (tied_itself nat_cmp_total n)

-- ---- the first by lot

-- each element has one beside it in a list as long
in_zip : {X Y : Type 0} (xs : List X) (ys : List Y) (x : X) → length ys ≡ length xs → In x xs → (y : Y) × In (x, y) (zip xs ys)
in_zip [] ys x many at = absurd at
in_zip (z ∷ zs) [] x many at = absurd (omega (arith, many))
in_zip (z ∷ zs) (w ∷ ws) x many at = elim at [
  | inl same ↦ (w, inl (ap (λ v. (v, w)) same))
  | inr later ↦ let found = in_zip zs ws x (omega (arith, many)) later in (found.0, inr found.1)
]

-- the first by lot is one that waits, and ranks before each other one by the lots of both
pub record IsFirst (school : School) (waiting : List Child) (number : ℕ) : Type 0 where
  pub first : Child
  pub among : In first waiting
  pub numbered : first.no ≡ number
  pub before : (other : Child) → In other waiting → (other.no ≡ number) ⊎ ((a b : ℕ) × (precedes (key_of school first a) (key_of school other b) ≡ true))

pub first_is : (school : School) (waiting : List Child) (lots : List ℕ) (number : ℕ) → length lots ≡ length waiting → first_by_lot school waiting lots ≡ Some number → IsFirst school waiting number
unfolding first_by_lot
first_is school waiting lots number many is = by (find (is_first school (zip waiting lots)) (zip waiting lots)) refl is
  where
    by : (o : Option (Child × ℕ)) → find (is_first school (zip waiting lots)) (zip waiting lots) ≡ o → option_map (λ (one : Child × ℕ). one.0.no) o ≡ Some number → IsFirst school waiting number
    by None found is = absurd (none-some number is)
    by (Some one) found is =
        let gives = find_gives (is_first school (zip waiting lots)) (zip waiting lots) one found in
        let numbered : one.0.no ≡ number = same_Some one.0.no number is in
        record {
          first = one.0;
          among = (from_zip waiting lots one gives.0).0;
          numbered = numbered;
          before = λ other at.
              let beside = in_zip waiting lots other many at in
              let passes = passes_in (λ (x : Child × ℕ). nat_eq x.0.no one.0.no || ranks_before_other school one x) (zip waiting lots) (other, beside.0) gives.1 beside.1 in
              elim (or_cases (nat_eq other.no one.0.no) (ranks_before_other school one (other, beside.0)) passes) [
                | inl same ↦ inl (eqb-true other.no one.0.no same ∙ numbered)
                | inr less ↦ inr (one.1, beside.0, less)
              ];
        }

none_counted : {X : Type 0} (p : X → Bool) (xs : List X) → ((x : X) → In x xs → p x ≡ false) → count_by p xs ≡ 0
none_counted p [] none = refl
none_counted p (x ∷ xs) none =
    omega (arith, sum_by-cons (λ y. cond (p y) 1 0) x xs, ap {B = ℕ} (λ b. cond b 1 0) (none x (inl refl)), none_counted p xs (λ y at. none y (inr at)))

-- none of those that wait is ahead of the first, whose position is 1
module _ (s : State) (well : WellFormed s) (code : Code) (school : School) (number : ℕ) (it : IsFirst school (waiting_at s code) number) where
  pub none_ahead : (other : Child) → In other (waiting_at s code) → is_ahead school other it.first ≡ false
  none_ahead other at = elim (it.before other at) [
    | inl same ↦
        let one : other ≡ it.first = one_waiter s well code other it.first at it.among (same ∙ sym it.numbered) in
        subst (λ (x : Child). is_ahead school x it.first ≡ false) (sym one) (ahead_of_itself school it.first)
    | inr less ↦ ranks_not_behind school it.first other less.0 less.1 less.2
  ]

  pub position_one : position school (waiting_at s code) it.first ≡ 1
  position_one = omega (arith, none_counted (λ other. is_ahead school other it.first) (waiting_at s code) none_ahead)
