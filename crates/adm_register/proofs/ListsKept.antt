-- What an application's list keeps where some of its schools are omitted.
use Rattle.std.proofs.Common.{◌≡◌, ◌∙◌, ap, refl, ℕ, Bool, true, false, not, cond, ◌&&◌, ◌||◌, List, [], ◌∷◌, Option, Some, None}
use Rattle.std.specs.Prelude.{IfSome, filter, nat_eq}
use Rattle.std.specs.List.{list_all, take_while}
use Rattle.std.specs.Option.{option_to_list}
use Rattle.std.specs.Cmp.Lexicographic.{pointwise}
use Rattle.std.proofs.lemmas.Bool.{and_parts, not-true}
use Rattle.std.proofs.lemmas.List.Sums.{take_while-cons}
use Rattle.adm_lists.proofs.Each.{any-filter, any-take_while, all-take_while}
use Rattle.adm_types.specs.Limits.{is_listed, is_without_repeat}
use Rattle.adm_types.specs.declared.rows.PlaceRow.{PlaceRow}
use Rattle.adm_register.specs.State.{is_plan}
use Rattle.adm_register.specs.Wanted.{above, own_school}

-- ---- codes without repeats

module _ (p : List ℕ → Bool) where
  pub once-filter : (codes : List (List ℕ)) → is_without_repeat codes ≡ true → is_without_repeat (filter p codes) ≡ true
  once-filter [] once = refl
  once-filter (code ∷ codes) once =
      let both = and_parts (not (is_listed codes code)) (is_without_repeat codes) once in
      let first : not (is_listed (filter p codes) code) ≡ true = ap not (any-filter (λ other. pointwise nat_eq other code) p codes (not-true _ both.0)) in
      elim (p code) as (λ b. is_without_repeat (cond b (code ∷ filter p codes) (filter p codes)) ≡ true) [
        | true ↦ λ i. first i && once-filter codes both.1 i
        | false ↦ once-filter codes both.1
      ]

  once-take_while : (codes : List (List ℕ)) → is_without_repeat codes ≡ true → is_without_repeat (take_while p codes) ≡ true
  once-take_while [] once = refl
  once-take_while (code ∷ codes) once =
      let both = and_parts (not (is_listed codes code)) (is_without_repeat codes) once in
      let first : not (is_listed (take_while p codes) code) ≡ true = ap not (any-take_while (λ other. pointwise nat_eq other code) p codes (not-true _ both.0)) in
      ap is_without_repeat (take_while-cons p code codes)
      ∙ elim (p code) as (λ b. is_without_repeat (cond b (code ∷ take_while p codes) []) ≡ true) [
        | true ↦ λ i. first i && once-take_while codes both.1 i
        | false ↦ refl
      ]

-- the codes before a school are not the school's
before_apart : (school : List ℕ) (codes : List (List ℕ)) → is_listed (take_while (λ code. not (pointwise nat_eq code school)) codes) school ≡ false
before_apart school [] = refl
before_apart school (code ∷ codes) =
    let rest = take_while (λ other. not (pointwise nat_eq other school)) codes in
    ap (λ xs. is_listed xs school) (take_while-cons (λ other. not (pointwise nat_eq other school)) code codes)
    ∙ elim (pointwise nat_eq code school) as (λ b. pointwise nat_eq code school ≡ b → is_listed (cond (not b) (code ∷ rest) []) school ≡ false) [
      | true ↦ λ here. refl
      | false ↦ λ other. λ i. other i || before_apart school codes i
    ] refl

-- ---- the list of an applicant

pub above_once : (place : Option PlaceRow) (list : List (List ℕ)) → is_without_repeat list ≡ true → is_without_repeat (above place list) ≡ true
above_once None list once = once
above_once (Some row) list once = once-take_while (λ code. not (pointwise nat_eq code row.place.school)) list once

pub above_all : (q : List ℕ → Bool) (place : Option PlaceRow) (list : List (List ℕ)) → list_all q list ≡ true → list_all q (above place list) ≡ true
above_all q None list all = all
above_all q (Some row) list all = all-take_while q (λ code. not (pointwise nat_eq code row.place.school)) list all

-- the own school is not above itself
pub own_apart : (p : List ℕ → Bool) (place : Option PlaceRow) (list : List (List ℕ)) → IfSome (own_school place) (λ own. is_listed (filter p (above place list)) own ≡ false)
own_apart p None list = tt
own_apart p (Some row) list =
    elim (is_plan row.place.state) as (λ b. IfSome (cond b None (Some row.place.school)) (λ own. is_listed (filter p (above (Some row) list)) own ≡ false)) [
      | true ↦ tt
      | false ↦ any-filter (λ other. pointwise nat_eq other row.place.school) p (above (Some row) list) (before_apart row.place.school list)
    ]

pub own_known : (q : List ℕ → Bool) (place : Option PlaceRow) → ((row : PlaceRow) → place ≡ Some row → q row.place.school ≡ true) → list_all q (option_to_list (own_school place)) ≡ true
own_known q None known = refl
own_known q (Some row) known =
    elim (is_plan row.place.state) as (λ b. list_all q (option_to_list (cond b None (Some row.place.school))) ≡ true) [
      | true ↦ refl
      | false ↦ ap (λ b. b && true) (known row refl)
    ]
