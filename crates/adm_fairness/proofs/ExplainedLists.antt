-- Keys, lists and lots, as the explanation of a round reads them: the last of some keys, schools in front of one, lots that rise.
use Rattle.std.proofs.Common.{◌≡◌, ◌∙◌, ap, sym, subst, refl, cond, Bool, true, false, not, ◌&&◌, ◌||◌, ◌==◌, ◌<◌, List, [], ◌∷◌, ◌++◌, Option, Some, None, inl, inr, arith}
use Rattle.std.specs.Prelude.{◌⊎◌, bytes_eq, Any, filter, fold, option_map}
use Rattle.std.specs.List.{list_all, list_any, filter_map, cons_option, take_while}
use Rattle.std.specs.Ordering.{nat_cmp, is_lt, ordering_then}
use Rattle.std.specs.Cmp.{nat_cmp_total, unsigned_Decides}
use Rattle.std.specs.Cmp.Lexicographic.{nat_list_cmp_total, slice_cmp}
use Rattle.std.proofs.lemmas.Bool.{cases_Bool, false≢true, and_parts}
use Rattle.std.proofs.lemmas.Bool.Decides.{nat_tests}
use Rattle.std.proofs.lemmas.Cmp.{tied_itself}
use Rattle.std.proofs.lemmas.Option.{same_Some, none-some, slice_get_within, get_or_from_slice_get}
use Rattle.std.proofs.lemmas.List.Sums.{take_while-cons}
use Rattle.std.proofs.lemmas.Slice.Eq.{bytes_eq-Decides}
use Rattle.adm_lists.proofs.Members.{In, passes_in, from_filter_map}
use Rattle.adm_types.specs.Code.{has}
use Rattle.adm_types.specs.Limits.{is_listed}
use Rattle.adm_types.specs.declared.draws.Lot.{Lot}
use Rattle.adm_draws.specs.Draws.{rises, lot_cmp}
use Rattle.adm_rank.specs.declared.keys.RankKey.{RankKey}
use Rattle.adm_rank.specs.Ranking.{precedes}
use Rattle.adm_match.specs.Market.{Code, some_pair}
use Rattle.adm_round.proofs.ListedSchools.{none_any}
use Rattle.adm_cutoffs.specs.Cutoffs.{later, last_of}
use Rattle.adm_cutoffs.specs.declared.refusals.Refusal.{Refusal}
use Rattle.adm_fairness.specs.Explained.{same_refused}
use Rattle.adm_fairness.proofs.Codes.{rank_in, rank_here, rank_later, until, at_index}

-- ---- the last of some keys

pub before_itself : (x : RankKey) → precedes x x ≡ false
before_itself x = grind (arith, nat_tests)

no_earlier : (key last next : RankKey) → precedes last next ≡ true → precedes key next ≡ false → precedes key last ≡ false
no_earlier key last next before none = grind (arith, nat_tests)

no_later : (key last next : RankKey) → precedes last next ≡ false → precedes key last ≡ false → precedes key next ≡ false
no_later key last next none first = grind (arith, nat_tests)

pub same_place : (x y : RankKey) → precedes x y ≡ false → precedes y x ≡ false → x ≡ y
same_place x y one other =
    let class : x.class ≡ y.class = grind (arith, nat_tests) in
    let distance : x.distance ≡ y.distance = grind (arith, nat_tests) in
    let lot : x.lot ≡ y.lot = grind (arith, nat_tests) in
    λ i. record { class = class i; distance = distance i; lot = lot i }

abbrev pub walk : Option RankKey → List RankKey → Option RankKey
walk first keys = fold (λ (last : Option RankKey) (next : RankKey). Some (later last next)) first keys

-- the last of a first key, if any, and of these
pub record IsLastOf (first : Option RankKey) (keys : List RankKey) (key : RankKey) : Type 0 where
  pub from : (first ≡ Some key) ⊎ In key keys
  pub after_first : (other : RankKey) → first ≡ Some other → precedes key other ≡ false
  pub after_each : (other : RankKey) → In other keys → precedes key other ≡ false

one_of : (first : Option RankKey) (x key : RankKey) → later first x ≡ key → (first ≡ Some key) ⊎ (x ≡ key)
one_of None x key is = inr is
one_of (Some last) x key is = by (precedes last x) is
  where
    by : (b : Bool) → cond b x last ≡ key → (Some last ≡ Some key) ⊎ (x ≡ key)
    by true is = inr is
    by false is = inl (ap Some is)

first_before : (first : Option RankKey) (x key other : RankKey) → first ≡ Some other → precedes key (later first x) ≡ false → precedes key other ≡ false
first_before None x key other is none = absurd (none-some other is)
first_before (Some last) x key other is none = subst (λ o. precedes key o ≡ false) (same_Some last other is) (by (precedes last x) refl none)
  where
    by : (b : Bool) → precedes last x ≡ b → precedes key (cond b x last) ≡ false → precedes key last ≡ false
    by true before none = no_earlier key last x before none
    by false before none = none

next_before : (first : Option RankKey) (x key : RankKey) → precedes key (later first x) ≡ false → precedes key x ≡ false
next_before None x key none = none
next_before (Some last) x key none = by (precedes last x) refl none
  where
    by : (b : Bool) → precedes last x ≡ b → precedes key (cond b x last) ≡ false → precedes key x ≡ false
    by true before none = none
    by false before none = no_later key last x before none

pub walked : (first : Option RankKey) (keys : List RankKey) (key : RankKey) → walk first keys ≡ Some key → IsLastOf first keys key
walked first [] key is = record {
  from = inl is;
  after_first = λ other same. subst (λ o. precedes key o ≡ false) (same_Some key other (sym is ∙ same)) (before_itself key);
  after_each = λ other at. absurd at;
}
walked first (x ∷ xs) key is =
    let rest = walked (Some (later first x)) xs key is in
    let none = rest.after_first (later first x) refl in
    record {
      from = elim rest.from [
        | inl same ↦ elim (one_of first x key (same_Some (later first x) key same)) [ inl one ↦ inl one | inr next ↦ inr (inl next) ]
        | inr at ↦ inr (inr at)
      ];
      after_first = λ other same. first_before first x key other same none;
      after_each = λ other at. elim at [ inl same ↦ subst (λ o. precedes key o ≡ false) same (next_before first x key none) | inr more ↦ rest.after_each other more ];
    }

some_stays : (first : RankKey) (keys : List RankKey) → (key : RankKey) × (walk (Some first) keys ≡ Some key)
some_stays first [] = (first, refl)
some_stays first (x ∷ xs) = some_stays (later (Some first) x) xs

-- where there is a key, there is a last one
pub some_last : (keys : List RankKey) (other : RankKey) → In other keys → (key : RankKey) × (last_of keys ≡ Some key)
some_last [] other at = absurd at
some_last (x ∷ xs) other at = some_stays x xs

-- ---- lists

pub Any_in : {X : Type 0} (P : X → Type 0) (xs : List X) (x : X) → In x xs → P x → Any P xs
Any_in P xs x at holds = let k = at_index xs x at in (k.0, x, slice_get_within xs k.0 x k.1, get_or_from_slice_get xs k.0 x x k.1, holds)

pub mapped : {X Y : Type 0} (f : X → Y) (o : Option X) (y : Y) → option_map f o ≡ Some y → (x : X) × (o ≡ Some x) × (f x ≡ y)
mapped f None y is = absurd (none-some y is)
mapped f (Some x) y is = (x, refl, same_Some (f x) y is)

pub and_swap : (p q : Bool) → (p && q) ≡ (q && p)
and_swap true true = refl
and_swap true false = refl
and_swap false true = refl
and_swap false false = refl

pub both_under : (q x y : Bool) → (q ≡ true → x ≡ y) → (q && x) ≡ (q && y)
both_under true x y same = same refl
both_under false x y same = refl

-- all schools are in front of nothing
pub take_each : (list : List Code) → take_while (λ s. not (has None s)) list ≡ list
take_each [] = refl
take_each (x ∷ xs) = take_while-cons (λ s. not (has None s)) x xs ∙ ap (λ (cs : List Code). x ∷ cs) (take_each xs)

-- a school in the front of a list is in the list
pub from_front : (p : Code → Bool) (list : List Code) (school : Code) → is_listed (take_while p list) school ≡ true → is_listed list school ≡ true
from_front p [] school there = there
from_front p (x ∷ xs) school there = elim (cases_Bool (p x)) [
  | inl goes ↦
      let front : take_while p (x ∷ xs) ≡ x ∷ take_while p xs = take_while-cons p x xs ∙ ap (λ b. cond b (x ∷ take_while p xs) []) goes in
      elim (cases_Bool (bytes_eq x school)) [
        | inl hit ↦ ap (λ b. b || is_listed xs school) hit
        | inr miss ↦ ap (λ b. b || is_listed xs school) miss
            ∙ from_front p xs school (sym (ap (λ b. b || is_listed (take_while p xs) school) miss) ∙ (ap (λ cs. is_listed cs school) (sym front) ∙ there))
      ]
  | inr stops ↦ absurd (false≢true (ap (λ cs. is_listed cs school) (sym (take_while-cons p x xs ∙ ap (λ b. cond b (x ∷ take_while p xs) []) stops)) ∙ there))
]

-- an earlier school of the first of a list is among those before the other in the whole of it
pub before_in : (p : Code → Bool) (xs ys : List Code) (school code : Code) → p school ≡ true → is_listed (filter p xs) code ≡ true
    → rank_in (filter p xs ++ ys) code < rank_in (filter p xs ++ ys) school → is_listed (until school xs) code ≡ true
before_in p [] ys school code passes there before = absurd (false≢true there)
before_in p (x ∷ xs) ys school code passes there before = elim (cases_Bool (bytes_eq x school)) [
  | inl hit ↦
      let taken : p x ≡ true = ap p ((bytes_eq-Decides x school).0 hit) ∙ passes in
      let all : filter p (x ∷ xs) ≡ x ∷ filter p xs = ap (λ b. cond b (x ∷ filter p xs) (filter p xs)) taken in
      let first : rank_in (filter p (x ∷ xs) ++ ys) school ≡ 0 = ap (λ (cs : List Code). rank_in (cs ++ ys) school) all ∙ rank_here x (filter p xs ++ ys) school hit in
      absurd (omega (arith, before, first))
  | inr miss ↦
      let front : until school (x ∷ xs) ≡ x ∷ until school xs =
      take_while-cons (λ c. not (bytes_eq c school)) x xs ∙ ap (λ b. cond (not b) (x ∷ until school xs) []) miss in
      ap (λ cs. is_listed cs code) front ∙ elim (cases_Bool (bytes_eq x code)) [
        | inl here ↦ ap (λ b. b || is_listed (until school xs) code) here
        | inr other ↦ ap (λ b. b || is_listed (until school xs) code) other ∙ elim (cases_Bool (p x)) [
          | inl taken ↦
              let all : filter p (x ∷ xs) ≡ x ∷ filter p xs = ap (λ b. cond b (x ∷ filter p xs) (filter p xs)) taken in
              let rest : is_listed (filter p xs) code ≡ true =
              sym (ap (λ b. b || is_listed (filter p xs) code) other) ∙ (ap (λ cs. is_listed cs code) (sym all) ∙ there) in
              let one = ap (λ (cs : List Code). rank_in (cs ++ ys) code) all ∙ rank_later x (filter p xs ++ ys) code other in
              let two = ap (λ (cs : List Code). rank_in (cs ++ ys) school) all ∙ rank_later x (filter p xs ++ ys) school miss in
              before_in p xs ys school code passes rest (omega (arith, before, one, two))
          | inr dropped ↦
              let all : filter p (x ∷ xs) ≡ filter p xs = ap (λ b. cond b (x ∷ filter p xs) (filter p xs)) dropped in
              before_in p xs ys school code passes (ap (λ cs. is_listed cs code) (sym all) ∙ there)
              (subst (λ (cs : List Code). rank_in (cs ++ ys) code < rank_in (cs ++ ys) school) all before)
        ]
      ]
]

-- ---- lots

not_before_itself : (lot : Lot) → is_lt (lot_cmp lot lot) ≡ false
not_before_itself lot =
    (λ i. is_lt (ordering_then (tied_itself nat_list_cmp_total lot.school i) (nat_cmp lot.child lot.child))) ∙ ap is_lt (tied_itself nat_cmp_total lot.child)

-- of lots that rise, two of one pair are the same
pub one_lot : (lots : List Lot) → rises lot_cmp lots ≡ true → (x y : Lot) → In x lots → In y lots → x.school ≡ y.school → x.child ≡ y.child → x ≡ y
one_lot [] up x y first second school child = absurd first
one_lot (z ∷ zs) up x y first second school child =
    let parts = and_parts _ (rises lot_cmp zs) up in
    elim first [
      | inl at ↦ elim second [
        | inl here ↦ sym at ∙ here
        | inr later_on ↦
            let less : is_lt (lot_cmp z y) ≡ true = passes_in (λ w. is_lt (lot_cmp z w)) zs y parts.0 later_on in
            absurd (false≢true (sym (not_before_itself y) ∙ (λ i. is_lt (ordering_then (slice_cmp nat_cmp (sym school i) y.school) (nat_cmp (sym child i) y.child)))
            ∙ ap (λ (w : Lot). is_lt (lot_cmp w y)) (sym at) ∙ less))
      ]
      | inr more ↦ elim second [
        | inl here ↦
            let less : is_lt (lot_cmp z x) ≡ true = passes_in (λ w. is_lt (lot_cmp z w)) zs x parts.0 more in
            absurd (false≢true (sym (not_before_itself x) ∙ (λ i. is_lt (ordering_then (slice_cmp nat_cmp (school i) x.school) (nat_cmp (child i) x.child)))
            ∙ ap (λ (w : Lot). is_lt (lot_cmp w x)) (sym here) ∙ less))
        | inr later_on ↦ one_lot zs parts.1 x y more later_on school child
      ]
    ]

-- a lot of the same pair is not before another
not_before : (x y : Lot) → x.school ≡ y.school → x.child ≡ y.child → is_lt (lot_cmp x y) ≡ true → ⊥
not_before x y school child less =
    false≢true (sym (not_before_itself y) ∙ ((λ i. is_lt (ordering_then (slice_cmp nat_cmp (sym school i) y.school) (nat_cmp (sym child i) y.child))) ∙ less))

-- of what lots that rise give, each for its own pair, nothing is twice
pub once_each : (f : Lot → Option Refusal) → ((lot : Lot) (row : Refusal) → f lot ≡ Some row → (row.child ≡ lot.child) × (row.school ≡ lot.school))
    → (lots : List Lot) → rises lot_cmp lots ≡ true → some_pair same_refused (filter_map f lots) ≡ false
once_each f of [] up = refl
once_each f of (x ∷ xs) up = by (f x) refl (once_each f of xs rise.1)
  where
    rise : (list_all (λ w. is_lt (lot_cmp x w)) xs ≡ true) × (rises lot_cmp xs ≡ true)
    rise = and_parts _ (rises lot_cmp xs) up

    none : (row : Refusal) → f x ≡ Some row → list_any (same_refused row) (filter_map f xs) ≡ false
    none row is = none_any (same_refused row) (filter_map f xs) (λ other at.
        let from = from_filter_map f xs other at in
        let first = of x row is in
        let second = of from.0 other from.2 in
        let less : is_lt (lot_cmp x from.0) ≡ true = passes_in (λ w. is_lt (lot_cmp x w)) xs from.0 rise.0 from.1 in
        elim (cases_Bool (same_refused row other)) [
          | inr apart ↦ apart
          | inl same ↦
              let both = and_parts (bytes_eq row.school other.school) (row.child == other.child) same in
              let school : x.school ≡ from.0.school = sym first.1 ∙ ((bytes_eq-Decides row.school other.school).0 both.0 ∙ second.1) in
              let child : x.child ≡ from.0.child = sym first.0 ∙ ((unsigned_Decides row.child other.child).0 both.1 ∙ second.0) in
              absurd (not_before x from.0 school child less)
        ])

    by : (o : Option Refusal) → f x ≡ o → some_pair same_refused (filter_map f xs) ≡ false → some_pair same_refused (cons_option o (filter_map f xs)) ≡ false
    by None is rest = rest
    by (Some row) is rest = λ i. none row is i || rest i
