-- A list that ends at a school of another one: ranks on the two are the same up to there.
use Rattle.std.proofs.Common.{◌≡◌, ◌∙◌, ap, sym, subst, refl, cond, Bool, true, false, not, ◌||◌, ◌<◌, ◌≤◌, List, [], ◌∷◌, ◌++◌, length, Option, Some, None, inl, inr, arith}
use Rattle.std.specs.Prelude.{bytes_eq, filter}
use Rattle.std.proofs.lemmas.Bool.{cases_Bool, false≢true}
use Rattle.std.proofs.lemmas.List.Sums.{take_while-cons}
use Rattle.std.proofs.lemmas.Option.{none-some, same_Some}
use Rattle.std.proofs.lemmas.Slice.Eq.{bytes_eq-Decides}
use Rattle.adm_types.specs.Limits.{is_listed}
use Rattle.adm_match.specs.Market.{Code}
use Rattle.adm_fairness.proofs.Codes.{rank_in, rank_here, rank_later, listed_within, until}
use Rattle.adm_fairness.proofs.RoundPlaces.{rank_given}

-- the first list is the second up to what is given, or the whole of it where nothing is
pub record IsFront (u v : List Code) (given : Option Code) : Type 0 where
  pub shorter : length u ≤ length v
  pub whole : given ≡ None → length u ≡ length v
  pub there : (s : Code) → given ≡ Some s → rank_in u s < length u
  pub upto : (c : Code) → rank_in v c ≤ rank_given v given → rank_in u c ≡ rank_in v c
  pub back : (c : Code) → rank_in u c < length u → rank_in v c ≡ rank_in u c

-- a list is the front of itself
pub front_itself : (v : List Code) (given : Option Code) → ((s : Code) → given ≡ Some s → is_listed v s ≡ true) → IsFront v v given
front_itself v given listed = record {
  shorter = omega arith;
  whole = λ _. refl;
  there = λ s is. listed_within v s (listed s is);
  upto = λ c le. refl;
  back = λ c less. refl;
}

none_given : (s : Code) → Some s ≡ None → ⊥
none_given s is = none-some s (sym is)

-- one that is cut after its first school
cut_first : (s : Code) (rest : List Code) → IsFront (s ∷ []) (s ∷ rest) (Some s)
cut_first s rest = record {
  shorter = omega arith;
  whole = λ none. absurd (none_given s none);
  there = λ t is. omega (arith, rank_here s [] t ((bytes_eq-Decides s t).1 (same_Some s t is)));
  upto = λ c le. elim (cases_Bool (bytes_eq s c)) [
    | inl hit ↦ rank_here s [] c hit ∙ sym (rank_here s rest c hit)
    | inr miss ↦ absurd (omega (arith, le, rank_later s rest c miss, rank_here s rest s ((bytes_eq-Decides s s).1 refl)))
  ];
  back = λ c less. elim (cases_Bool (bytes_eq s c)) [
    | inl hit ↦ rank_here s rest c hit ∙ sym (rank_here s [] c hit)
    | inr miss ↦ absurd (omega (arith, less, rank_later s [] c miss))
  ];
}

-- one more before both
front_more : (x : Code) (u v : List Code) (s : Code) → bytes_eq x s ≡ false → IsFront u v (Some s) → IsFront (x ∷ u) (x ∷ v) (Some s)
front_more x u v s miss rest = record {
  shorter = omega (arith, rest.shorter);
  whole = λ none. absurd (none_given s none);
  there = λ t is. omega (arith, rest.there t is, rank_later x u t (ap (bytes_eq x) (sym (same_Some s t is)) ∙ miss));
  upto = λ c le. elim (cases_Bool (bytes_eq x c)) [
    | inl hit ↦ rank_here x u c hit ∙ sym (rank_here x v c hit)
    | inr other ↦
        let later = rest.upto c (omega (arith, le, rank_later x v c other, rank_later x v s miss)) in
        omega (arith, rank_later x u c other, rank_later x v c other, later)
  ];
  back = λ c less. elim (cases_Bool (bytes_eq x c)) [
    | inl hit ↦ rank_here x v c hit ∙ sym (rank_here x u c hit)
    | inr other ↦
        let later = rest.back c (omega (arith, less, rank_later x u c other)) in
        omega (arith, rank_later x u c other, rank_later x v c other, later)
  ];
}

-- a list that ends at a school that the other one lists
pub front_until : (s : Code) (w z : List Code) → is_listed w s ≡ true → IsFront (until s w ++ s ∷ []) (w ++ z) (Some s)
front_until s [] z listed = absurd (false≢true listed)
front_until s (x ∷ xs) z listed =
    let split = take_while-cons (λ c. not (bytes_eq c s)) x xs in
    elim (cases_Bool (bytes_eq x s)) [
      | inl hit ↦
          let all : until s (x ∷ xs) ≡ [] = split ∙ ap (λ b. cond (not b) (x ∷ until s xs) []) hit in
          subst (λ us. IsFront (us ++ s ∷ []) (x ∷ (xs ++ z)) (Some s)) (sym all)
          (subst (λ y. IsFront (s ∷ []) (y ∷ (xs ++ z)) (Some s)) (sym ((bytes_eq-Decides x s).0 hit)) (cut_first s (xs ++ z)))
      | inr miss ↦
          let all : until s (x ∷ xs) ≡ x ∷ until s xs = split ∙ ap (λ b. cond (not b) (x ∷ until s xs) []) miss in
          subst (λ us. IsFront (us ++ s ∷ []) (x ∷ (xs ++ z)) (Some s)) (sym all)
          (front_more x (until s xs ++ s ∷ []) (xs ++ z) s miss (front_until s xs z (sym (λ i. miss i || is_listed xs s) ∙ listed)))
    ]

-- what passes before a school that passes is what is before it of all that passes
pub until_filter : (p : Code → Bool) (s : Code) (xs : List Code) → p s ≡ true → until s (filter p xs) ≡ filter p (until s xs)
until_filter p s [] passes = refl
until_filter p s (x ∷ xs) passes =
    let split = take_while-cons (λ c. not (bytes_eq c s)) x xs in
    let rest = until_filter p s xs passes in
    elim (cases_Bool (p x)) [
      | inr drops ↦
          let other : bytes_eq x s ≡ false = elim (cases_Bool (bytes_eq x s)) [
            | inr miss ↦ miss
            | inl hit ↦ absurd (false≢true (sym drops ∙ (ap p ((bytes_eq-Decides x s).0 hit) ∙ passes)))
          ] in
          let all : until s (x ∷ xs) ≡ x ∷ until s xs = split ∙ ap (λ b. cond (not b) (x ∷ until s xs) []) other in
          ap (until s) (ap (λ b. cond b (x ∷ filter p xs) (filter p xs)) drops)
          ∙ (rest ∙ (sym (ap (λ b. cond b (x ∷ filter p (until s xs)) (filter p (until s xs))) drops) ∙ ap (filter p) (sym all)))
      | inl takes ↦
          let kept : filter p (x ∷ xs) ≡ x ∷ filter p xs = ap (λ b. cond b (x ∷ filter p xs) (filter p xs)) takes in
          ap (until s) kept
          ∙ (take_while-cons (λ c. not (bytes_eq c s)) x (filter p xs)
          ∙ (elim (cases_Bool (bytes_eq x s)) [
            | inl hit ↦
                ap (λ b. cond (not b) (x ∷ until s (filter p xs)) []) hit
                ∙ ap (filter p) (sym (split ∙ ap (λ b. cond (not b) (x ∷ until s xs) []) hit))
            | inr miss ↦
                ap (λ b. cond (not b) (x ∷ until s (filter p xs)) []) miss
                ∙ (ap (λ ys. x ∷ ys) rest
                ∙ (sym (ap (λ b. cond b (x ∷ filter p (until s xs)) (filter p (until s xs))) takes) ∙ ap (filter p) (sym (split ∙ ap (λ b. cond (not b) (x ∷ until s xs) []) miss))))
          ]))
    ]

-- the front of a front, where what ends it is not after what ends the other
pub front_on : (u v w : List Code) (first second : Option Code) → IsFront v w first → IsFront u v second → rank_given w second ≤ rank_given w first → IsFront u w second
front_on u v w first second outer inner least = record {
  shorter = omega (arith, inner.shorter, outer.shorter);
  whole = λ none. omega (arith, inner.whole none, all first refl none);
  there = inner.there;
  upto = λ c le.
      let mid = outer.upto c (omega (arith, le, least)) in
      let same = inner.upto c (omega (arith, le, mid, ends second refl)) in
      omega (arith, mid, same);
  back = λ c less.
      let mid = inner.back c less in
      let same = outer.back c (omega (arith, mid, less, inner.shorter)) in
      omega (arith, mid, same);
}
  where
    -- where nothing ends the inner one, nothing ends the other
    all : (o : Option Code) → first ≡ o → second ≡ None → length v ≡ length w
    all None is none = outer.whole is
    all (Some t) is none =
        let last = outer.there t is in
        omega (arith, least, ap (rank_given w) is, ap (rank_given w) none, last, outer.back t last, outer.shorter)

    ends : (o : Option Code) → second ≡ o → rank_given v second ≡ rank_given w second
    ends None is = omega (arith, ap (rank_given v) is, ap (rank_given w) is, all first refl is)
    ends (Some s) is =
        let same = outer.upto s (omega (arith, least, ap (rank_given w) is)) in
        omega (arith, ap (rank_given v) is, ap (rank_given w) is, same)
