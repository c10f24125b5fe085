-- The child before which none ranks is the one that ranks before all others, where there is one.
use Rattle.std.proofs.Common.{◌≡◌, ◌⊎◌, ℕ, List, [], ◌∷◌, Option, None, Some, true, false, cond, ◌||◌, inl, inr, refl, sym, ap, ◌∙◌, subst, arith}
use Rattle.std.specs.Prelude.{fold, find, option_map, nat_eq}
use Rattle.std.proofs.lemmas.Bool.{cases_Bool, false≢true, eqb-true}
use Rattle.std.proofs.lemmas.Bool.Decides.{nat_tests}
use Rattle.std.proofs.lemmas.Option.{none-some, same_Some}
use Rattle.adm_lists.proofs.Members.{In, passes_in, find_gives, find_none}
use Rattle.adm_rank.specs.declared.keys.RankKey.{RankKey}
use Rattle.adm_rank.specs.Ranking.{precedes}
use Rattle.adm_waiting.specs.declared.vacancies.RankedChild.{RankedChild}
use Rattle.adm_waiting.specs.Ranks.{better, best_of, is_before, is_before_others}

-- ---- the best of several

not_before_itself : (a : RankKey) → precedes a a ≡ false
not_before_itself a = grind (arith, nat_tests)

not_before_chain : (a b c : RankKey) → precedes a b ≡ false → precedes b c ≡ false → precedes a c ≡ false
not_before_chain a b c h k = grind (arith, nat_tests)

other_way : (a b : RankKey) → precedes a b ≡ true → precedes b a ≡ false
other_way a b h = grind (arith, nat_tests)

pub one_way : (a b : RankKey) → (a.lot ≡ b.lot → ⊥) → precedes a b ≡ false → precedes b a ≡ true
one_way a b apart h = grind (arith, nat_tests)

-- one is that so far, or among those to come, and none of these ranks before it
pub record IsBestOf (best : Option RankedChild) (all : List RankedChild) (one : RankedChild) : Type 0 where
  pub among : (best ≡ Some one) ⊎ In one all
  pub so_far : (other : RankedChild) → best ≡ Some other → precedes other.key one.key ≡ false
  pub to_come : (other : RankedChild) → In other all → precedes other.key one.key ≡ false

better_than : (best : Option RankedChild) (next : RankedChild) (other : RankedChild) → best ≡ Some other → precedes other.key (better best next).key ≡ false
better_than None next other h = absurd (none-some other h)
better_than (Some best) next other h = elim (cases_Bool (precedes next.key best.key)) [
  | inl hit ↦
      subst (λ (w : RankedChild). precedes w.key (cond (precedes next.key best.key) next best).key ≡ false) (same_Some best other h)
      (ap (λ b. precedes best.key (cond b next best).key) hit ∙ other_way next.key best.key hit)
  | inr miss ↦
      subst (λ (w : RankedChild). precedes w.key (cond (precedes next.key best.key) next best).key ≡ false) (same_Some best other h)
      (ap (λ b. precedes best.key (cond b next best).key) miss ∙ not_before_itself best.key)
]

better_next : (best : Option RankedChild) (next : RankedChild) → precedes next.key (better best next).key ≡ false
better_next None next = not_before_itself next.key
better_next (Some best) next = elim (cases_Bool (precedes next.key best.key)) [
  | inl hit ↦ ap (λ b. precedes next.key (cond b next best).key) hit ∙ not_before_itself next.key
  | inr miss ↦ ap (λ b. precedes next.key (cond b next best).key) miss ∙ miss
]

better_is : (best : Option RankedChild) (next : RankedChild) → (best ≡ Some (better best next)) ⊎ (next ≡ better best next)
better_is None next = inr refl
better_is (Some best) next = elim (cases_Bool (precedes next.key best.key)) [
  | inl hit ↦ inr (sym (ap (λ b. cond b next best) hit))
  | inr miss ↦ inl (ap Some (sym (ap (λ b. cond b next best) miss)))
]

abbrev best_from : Option RankedChild → List RankedChild → Option RankedChild
best_from best all = fold (λ best next. Some (better best next)) best all

pub best_is : (best : Option RankedChild) (all : List RankedChild) (one : RankedChild) → best_from best all ≡ Some one → IsBestOf best all one
best_is best [] one h = record {
  among = inl h;
  so_far = λ other k. subst (λ (w : RankedChild). precedes w.key one.key ≡ false) (same_Some one other (sym h ∙ k)) (not_before_itself one.key);
  to_come = λ other there. absurd there;
}
best_is best (next ∷ all) one h =
    let later = best_is (Some (better best next)) all one h in
    let kept = later.so_far (better best next) refl in
    record {
      among = elim later.among [
        | inl same ↦ elim (better_is best next) [
          | inl old ↦ inl (old ∙ same)
          | inr new ↦ inr (inl (new ∙ same_Some (better best next) one same))
        ]
        | inr there ↦ inr (inr there)
      ];
      so_far = λ other k. not_before_chain other.key (better best next).key one.key (better_than best next other k) kept;
      to_come = λ other there. elim there [
        | inl same ↦
            not_before_chain other.key (better best next).key one.key
            (subst (λ (w : RankedChild). precedes w.key (better best next).key ≡ false) same (better_next best next)) kept
        | inr behind ↦ later.to_come other behind
      ];
    }

pub some_from : (best : RankedChild) (all : List RankedChild) → (one : RankedChild) × (best_from (Some best) all ≡ Some one)
some_from best [] = (best, refl)
some_from best (next ∷ all) = some_from (better (Some best) next) all

best_none : (all : List RankedChild) → best_of all ≡ None → all ≡ []
best_none [] h = refl
best_none (next ∷ all) h = let w = some_from next all in absurd (none-some w.0 (sym h ∙ w.1))

-- ---- who ranks before all others

-- no two have one number
pub record IsApart (all : List RankedChild) : Type 0 where
  pub once : (one other : RankedChild) → In one all → In other all → one.child ≡ other.child → one ≡ other

abbrev pub child_of : RankedChild → ℕ
child_of one = one.child

before_best : (all : List RankedChild) (one best : RankedChild) → In one all → In best all → ((other : RankedChild) → In other all → precedes other.key best.key ≡ false)
    → is_before_others all one ≡ true → one.child ≡ best.child
before_best all one best there here least first = elim (cases_Bool (nat_eq best.child one.child)) [
  | inl same ↦ sym (eqb-true best.child one.child same)
  | inr apart ↦
      absurd (false≢true
      (sym (least one there) ∙ sym (ap (λ b. b || precedes one.key best.key) apart)
      ∙ passes_in (is_before one) all best first here))
]

-- the number of the first that ranks before all others
abbrev pub first_of : List RankedChild → Option ℕ
first_of all = option_map (λ one. one.child) (find (is_before_others all) all)

pub first_is : (all : List RankedChild) (best : RankedChild) → best_of all ≡ Some best → is_before_others all best ≡ true → first_of all ≡ Some best.child
first_is all best h first = go (find (is_before_others all) all) refl
  where
    is_best : IsBestOf None all best
    is_best = best_is None all best h

    here : In best all
    here = elim is_best.among [ inl no' ↦ absurd (none-some best no') | inr there ↦ there ]

    go : (o : Option RankedChild) → find (is_before_others all) all ≡ o → option_map (λ (one : RankedChild). one.child) o ≡ Some best.child
    go None e = absurd (false≢true (sym (find_none (is_before_others all) all e best here) ∙ first))
    go (Some one) e =
        let w = find_gives (is_before_others all) all one e in
        ap Some (before_best all one best w.0 here is_best.to_come w.1)

pub first_none : (all : List RankedChild) (best : RankedChild) → IsApart all → best_of all ≡ Some best → is_before_others all best ≡ false → first_of all ≡ None
first_none all best apart h ties = go (find (is_before_others all) all) refl
  where
    is_best : IsBestOf None all best
    is_best = best_is None all best h

    here : In best all
    here = elim is_best.among [ inl no' ↦ absurd (none-some best no') | inr there ↦ there ]

    go : (o : Option RankedChild) → find (is_before_others all) all ≡ o → option_map (λ (one : RankedChild). one.child) o ≡ None
    go None e = refl
    go (Some one) e =
        let w = find_gives (is_before_others all) all one e in
        let same : one ≡ best = apart.once one best w.0 here (before_best all one best w.0 here is_best.to_come w.1) in
        absurd (false≢true (sym ties ∙ ap (is_before_others all) (sym same) ∙ w.1))

pub first_empty : (all : List RankedChild) → best_of all ≡ None → first_of all ≡ None
first_empty all h = ap first_of (best_none all h)
