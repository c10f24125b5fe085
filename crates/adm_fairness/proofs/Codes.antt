-- Lists of codes, places in lists, counts, and a pair that does not block.
use Rattle.std.proofs.Common.{◌≡◌, ◌≢◌, ◌∙◌, ap, sym, subst, refl, cond, Bool, true, false, not, ◌||◌, ◌&&◌, ℕ, zero, suc, ◌+◌, ◌<◌, List, [], ◌∷◌, ◌++◌, length, map, Some, inl, inr, arith}
use Rattle.std.specs.Prelude.{bytes_eq, filter, count_by}
use Rattle.std.specs.List.{position_or_len, take_while, slice_get}
use Rattle.std.proofs.lemmas.Bool.{cases_Bool, false≢true, or_parts}
use Rattle.std.proofs.lemmas.List.Sums.{take_while-cons, sum_by-cons}
use Rattle.std.proofs.lemmas.Option.{none-some, same_Some}
use Rattle.adm_lists.proofs.Members.{In}
use Rattle.adm_types.specs.Limits.{is_listed}
use Rattle.adm_match.specs.declared.problem.Wish.{Wish}
use Rattle.adm_match.specs.Market.{Code, Candidate, Market, preference_rank, is_tenant, key_at, both_precede, ranks_before}
use Rattle.adm_match.specs.Distinct.{Distinct}
use Rattle.adm_match.proofs.RanksAndBlocks.{wish_at_rank}
use Rattle.adm_round.proofs.ListedSchools.{school_of_wish}

-- the index of a school among codes
abbrev pub rank_in : List Code → Code → ℕ
rank_in codes code = position_or_len (λ other. bytes_eq other code) codes

pub rank_here : (x : Code) (xs : List Code) (code : Code) → bytes_eq x code ≡ true → rank_in (x ∷ xs) code ≡ 0
rank_here x xs code hit = ap (λ b. cond (not b) (1 + rank_in xs code) 0) hit

pub rank_later : (x : Code) (xs : List Code) (code : Code) → bytes_eq x code ≡ false → rank_in (x ∷ xs) code ≡ 1 + rank_in xs code
rank_later x xs code miss = ap (λ b. cond (not b) (1 + rank_in xs code) 0) miss

-- a rank among wishes is that among their schools
pub rank_wishes : (ws : List Wish) (code : Code) → preference_rank ws code ≡ rank_in (map school_of_wish ws) code
rank_wishes [] code = refl
rank_wishes (w ∷ ws) code = ap (λ n. cond (not (bytes_eq w.school code)) (1 + n) 0) (rank_wishes ws code)

pub length_wishes : (ws : List Wish) → length ws ≡ length (map school_of_wish ws)
length_wishes [] = refl
length_wishes (w ∷ ws) = omega (arith, length_wishes ws)

-- a school that is listed is before the end
pub listed_within : (codes : List Code) (code : Code) → is_listed codes code ≡ true → rank_in codes code < length codes
listed_within [] code listed = absurd (false≢true listed)
listed_within (x ∷ xs) code listed = elim (cases_Bool (bytes_eq x code)) [
  | inl hit ↦ omega (arith, rank_here x xs code hit)
  | inr miss ↦ omega (arith, rank_later x xs code miss, listed_within xs code (sym (λ i. miss i || is_listed xs code) ∙ listed))
]

-- a school of the list comes before one that is put after it
pub before_own : (xs : List Code) (own code : Code) → is_listed xs own ≡ false → is_listed xs code ≡ true → rank_in (xs ++ own ∷ []) code < rank_in (xs ++ own ∷ []) own
before_own [] own code apart listed = absurd (false≢true listed)
before_own (x ∷ xs) own code apart listed =
    let parts = or_parts (bytes_eq x own) (is_listed xs own) apart in
    let there = rank_later x (xs ++ own ∷ []) own parts.0 in
    elim (cases_Bool (bytes_eq x code)) [
      | inl hit ↦ omega (arith, rank_here x (xs ++ own ∷ []) code hit, there)
      | inr miss ↦
          let rest = before_own xs own code parts.1 (sym (λ i. miss i || is_listed xs code) ∙ listed) in
          omega (arith, rank_later x (xs ++ own ∷ []) code miss, there, rest)
    ]

-- the codes before a school
abbrev pub until : Code → List Code → List Code
until school codes = take_while (λ code. not (bytes_eq code school)) codes

-- a school that passes comes before one that passes where it is among those before it
pub before_fresh : (p : Code → Bool) (xs ys : List Code) (school code : Code) → p school ≡ true → is_listed xs school ≡ true → is_listed (filter p (until school xs)) code ≡ true
    → rank_in (filter p xs ++ ys) code < rank_in (filter p xs ++ ys) school
before_fresh p [] ys school code passes there before = absurd (false≢true there)
before_fresh p (x ∷ xs) ys school code passes there before =
    let split = take_while-cons (λ c. not (bytes_eq c school)) x xs in
    elim (cases_Bool (bytes_eq x school)) [
      | inl hit ↦ absurd (false≢true (ap (λ cs. is_listed (filter p cs) code) (sym (ap (λ b. cond (not b) (x ∷ until school xs) []) hit) ∙ sym split) ∙ before))
      | inr miss ↦
          let rest : is_listed xs school ≡ true = sym (λ i. miss i || is_listed xs school) ∙ there in
          let begins : is_listed (filter p (x ∷ until school xs)) code ≡ true =
          ap (λ cs. is_listed (filter p cs) code) (sym (ap (λ b. cond (not b) (x ∷ until school xs) []) miss) ∙ sym split) ∙ before in
          elim (cases_Bool (p x)) [
            | inl takes ↦
                let all : filter p (x ∷ xs) ≡ x ∷ filter p xs = ap (λ b. cond b (x ∷ filter p xs) (filter p xs)) takes in
                let first : is_listed (x ∷ filter p (until school xs)) code ≡ true =
                ap (λ cs. is_listed cs code) (sym (ap (λ b. cond b (x ∷ filter p (until school xs)) (filter p (until school xs))) takes)) ∙ begins in
                let second = rank_later x (filter p xs ++ ys) school miss in
                subst (λ (cs : List Code). rank_in (cs ++ ys) code < rank_in (cs ++ ys) school) (sym all)
                (elim (cases_Bool (bytes_eq x code)) [
                  | inl here ↦ omega (arith, rank_here x (filter p xs ++ ys) code here, second)
                  | inr other ↦
                      let more = before_fresh p xs ys school code passes rest (sym (λ i. other i || is_listed (filter p (until school xs)) code) ∙ first) in
                      omega (arith, rank_later x (filter p xs ++ ys) code other, second, more)
                ])
            | inr drops ↦
                let all : filter p (x ∷ xs) ≡ filter p xs = ap (λ b. cond b (x ∷ filter p xs) (filter p xs)) drops in
                let later : is_listed (filter p (until school xs)) code ≡ true =
                ap (λ cs. is_listed cs code) (sym (ap (λ b. cond b (x ∷ filter p (until school xs)) (filter p (until school xs))) drops)) ∙ begins in
                subst (λ (cs : List Code). rank_in (cs ++ ys) code < rank_in (cs ++ ys) school) (sym all) (before_fresh p xs ys school code passes rest later)
          ]
    ]

-- before a school that is in the front of a list come the same ones in the front as in the whole
pub until_front : (p : Code → Bool) (xs : List Code) (school : Code) → is_listed (take_while p xs) school ≡ true → until school (take_while p xs) ≡ until school xs
until_front p [] school there = absurd (false≢true there)
until_front p (x ∷ xs) school there = elim (cases_Bool (p x)) [
  | inr stops ↦ absurd (false≢true (ap (λ cs. is_listed cs school) (sym (take_while-cons p x xs ∙ ap (λ b. cond b (x ∷ take_while p xs) []) stops)) ∙ there))
  | inl goes ↦
      let front : take_while p (x ∷ xs) ≡ x ∷ take_while p xs = take_while-cons p x xs ∙ ap (λ b. cond b (x ∷ take_while p xs) []) goes in
      let listed : is_listed (x ∷ take_while p xs) school ≡ true = ap (λ cs. is_listed cs school) (sym front) ∙ there in
      let test : Code → Bool = λ c. not (bytes_eq c school) in
      ap (until school) front
      ∙ (take_while-cons test x (take_while p xs)
      ∙ (elim (cases_Bool (bytes_eq x school)) [
        | inl hit ↦ ap (λ b. cond (not b) (x ∷ until school (take_while p xs)) []) hit ∙ sym (ap (λ b. cond (not b) (x ∷ until school xs) []) hit)
        | inr miss ↦ ap (λ cs. cond (not (bytes_eq x school)) (x ∷ cs) []) (until_front p xs school (sym (λ i. miss i || is_listed (take_while p xs) school) ∙ listed))
      ]
      ∙ sym (take_while-cons test x xs)))
]

-- ---- places in lists, and counts

pub at_index : {X : Type 0} (xs : List X) (x : X) → In x xs → (k : ℕ) × (slice_get xs k ≡ Some x)
at_index [] x at = absurd at
at_index (y ∷ ys) x at = elim at [
  | inl same ↦ (zero, ap Some same)
  | inr later ↦ let found = at_index ys x later in (suc found.0, found.1)
]

-- and what is at an index is in the list
pub in_index : {X : Type 0} (xs : List X) (k : ℕ) (x : X) → slice_get xs k ≡ Some x → In x xs
in_index [] k x at = absurd (none-some x at)
in_index (y ∷ ys) zero x at = inl (same_Some y x at)
in_index (y ∷ ys) (suc k) x at = inr (in_index ys k x at)

-- those that pass one test are those that pass and fail another
pub split_count : {X : Type 0} (p q : X → Bool) (xs : List X) → count_by p xs ≡ count_by (λ x. p x && not (q x)) xs + count_by (λ x. p x && q x) xs
split_count p q [] = refl
split_count p q (x ∷ xs) =
    let whole = sum_by-cons (λ y. cond (p y) 1 0) x xs in
    let fails = sum_by-cons (λ y. cond (p y && not (q y)) 1 0) x xs in
    let passes = sum_by-cons (λ y. cond (p y && q y) 1 0) x xs in
    omega (arith, whole, fails, passes, split_count p q xs, one (p x) (q x))
  where
    one : (a b : Bool) → cond a 1 0 ≡ cond (a && not b) 1 0 + cond (a && b) 1 0
    one true true = refl
    one true false = refl
    one false b = refl

-- ---- a pair that does not block

-- the parts of a pair that does not block though it is wished
pub not_blocked : (p t r g : Bool) → (p && (t || (r || g))) ≡ false → p ≡ true → (t ≡ false) × (r ≡ false) × (g ≡ false)
not_blocked p t r g none wished =
    let rest : (t || (r || g)) ≡ false = sym (ap (λ b. b && (t || (r || g))) wished) ∙ none in
    let first = or_parts t (r || g) rest in
    let second = or_parts r g first.1 in
    (first.0, second.0, second.1)

-- of two that compete for a school of both lists, one that does not rank before the other ranks after it
pub other_first : (m : Market) → Distinct m → (k l : ℕ) (e c : Candidate) (s : Code) → slice_get m.entrants k ≡ Some e → slice_get m.entrants l ≡ Some c → k ≢ l
    → preference_rank e.list s < length e.list → preference_rank c.list s < length c.list → is_tenant e s ≡ false → is_tenant c s ≡ false
    → ranks_before s e c ≡ false → ranks_before s c e ≡ true
other_first m d k l e c s ek cl differ on on' free free' after' =
    let w = wish_at_rank e.list s on in
    let z = wish_at_rank c.list s on' in
    let e_key : key_at e.list s ≡ Some w.0.key = ap (key_at e.list) (sym w.2) ∙ d.key_of k e (preference_rank e.list s) w.0 ek w.1 in
    let c_key : key_at c.list s ≡ Some z.0.key = ap (key_at c.list) (sym z.2) ∙ d.key_of l c (preference_rank c.list s) z.0 cl z.1 in
    (λ i. both_precede (c_key i) (e_key i))
    ∙ d.keys k l e c (preference_rank e.list s) (preference_rank c.list s) w.0 z.0 differ ek cl w.1 z.1 (w.2 ∙ sym z.2) (ap (is_tenant e) w.2 ∙ free) (ap (is_tenant c) w.2 ∙ free')
    (sym (λ i. both_precede (e_key i) (c_key i)) ∙ after')
