-- The result of joining all rows, once each child and each imported row has been given its own.
use Rattle.std.proofs.Common.{◌≡◌, ◌∙◌, inl, inr, ap, sym, subst, refl, Bool, true, false, ℕ, ◌≤◌, length, take, drop, append-nil, List, [], ◌∷◌, ◌++◌, map, IsPermutation, arith}
use Rattle.std.specs.List.{AllByRecursion, flat_map}
use Rattle.std.proofs.lemmas.List.{nil_from_length, take-append-le, take_all}
use Rattle.std.proofs.lemmas.List.Sorted.{IsPermutation-sym, IsPermutation-trans, IsPermutation-append_right}
use Rattle.adm_types.specs.Children.{bare_child, bare_import, present_of_child, present_of_import, presents_of}
use Rattle.adm_types.specs.declared.rows.Child.{Child}
use Rattle.adm_types.specs.declared.rows.Row.{Row as ImportRow}
use Rattle.adm_types.specs.declared.rows.PresentRow.{PresentRow}
use Rattle.adm_lists.proofs.Members.{In, all_in, contains, in_map, from_map, in_moved, in_right, from_append}
use Rattle.adm_rows.specs.Joins.{IsJoin, IsWithout, present_left_at, present_key, import_no}
use Rattle.adm_rows.proofs.JoinGiven.{Entry}
use Rattle.adm_rows.proofs.JoinOnce.{key_given}

-- a list that is written over another of its length is the whole
pub written_over : {X : Type 0} (n : ℕ) (ys xs : List X) → length xs ≡ n → length ys ≡ length xs → take n (ys ++ drop (length ys) xs) ≡ ys
written_over n ys xs whole same =
    let fits : n ≤ length ys = omega arith in
    let all : length ys ≤ n = omega arith in
    take-append-le n ys (drop (length ys) xs) fits ∙ take_all n ys all

-- where no row remains, those that were given are all
pub all_given : (rows before between : List PresentRow) (children : List Child) (imported : List ImportRow) (es : List Entry) → length es ≡ 0
    → IsPermutation rows before → IsPermutation before (flat_map present_of_child children ++ between) → IsPermutation between (flat_map present_of_import imported ++ map present_left_at es)
    → IsPermutation (presents_of children imported) rows
all_given rows before between children imported es none whole given given_imported =
    let end : flat_map present_of_import imported ++ map present_left_at es ≡ flat_map present_of_import imported =
    ap (λ (xs : List Entry). flat_map present_of_import imported ++ map present_left_at xs) (nil_from_length es none) ∙ append-nil (flat_map present_of_import imported) in
    let later : IsPermutation between (flat_map present_of_import imported) = subst (IsPermutation between) end given_imported in
    IsPermutation-sym _ _ (IsPermutation-trans _ _ _ whole (IsPermutation-trans _ _ _ given (IsPermutation-append_right (flat_map present_of_child children) _ _ later)))

-- a row with this key is not among rows that have none at it
not_among : (rows : List PresentRow) (imported : Bool) (n : ℕ) (row : PresentRow) → IsWithout rows imported n → present_key row ≡ (n, imported) → In row rows → ⊥
not_among rows imported n row none key at =
    let is : row ≡ record { child = n; is_imported = imported; school = row.school } = λ i. record { child = (key i).0; is_imported = (key i).1; school = row.school } in
    none row.school (contains rows _ (subst (λ r. In r rows) is at))

-- what is in a list is, but for its present school, in each that is the same but for those
same_bare : {X Y : Type 0} (bare : X → Y) (joined before after : List X) (x : X) → IsPermutation (map bare joined) (map bare before) → map bare after ≡ map bare before
    → In x joined → (y : X) × In y after × (bare y ≡ bare x)
same_bare bare joined before after x moved same at = from_map bare after (bare x) (subst (In (bare x)) (sym same) (in_moved _ _ _ moved (in_map bare joined x at)))

module _ (rows left left_then : List PresentRow) (children given : List Child) (imported given_imports : List ImportRow)
    (whole : IsPermutation rows (flat_map present_of_child given ++ left)) (rest : IsPermutation left (flat_map present_of_import given_imports ++ left_then))
    (same : map bare_child given ≡ map bare_child children) (same_imports : map bare_import given_imports ≡ map bare_import imported)
    (taken : AllByRecursion (λ child. IsWithout left false child.no) given) (taken_imports : AllByRecursion (λ row. IsWithout left_then true (import_no row)) given_imports) where
  -- where a row remains that is nobody's, the rows can be joined to no children and imported rows
  pub nobodys : (row : PresentRow) → In row left_then → (joined : List Child) (joined_imports : List ImportRow) → IsJoin children imported rows joined joined_imports → ⊥
  nobodys row at joined joined_imports it =
      let between : In row left = in_moved _ _ _ (IsPermutation-sym _ _ rest) (in_right (flat_map present_of_import given_imports) left_then row at) in
      let there : In row rows = in_moved _ _ _ (IsPermutation-sym _ _ whole) (in_right (flat_map present_of_child given) left row between) in
      elim (from_append (flat_map present_of_child joined) (flat_map present_of_import joined_imports) row (in_moved _ _ _ (IsPermutation-sym _ _ it.presents) there)) [
        | inl here ↦
            let child = key_given false (λ (c : Child). c.no) (λ c. c.present) joined row here in
            let own = same_bare bare_child joined children given child.0 it.same_children same child.1 in
            let number : child.0.no ≡ own.0.no = ap (λ (c : Child). c.no) (sym own.2) in
            not_among left false own.0.no row (all_in (λ (c : Child). IsWithout left false c.no) given own.0 taken own.1) (child.2 ∙ ap (λ n. (n, false)) number) between
        | inr here ↦
            let import = key_given true import_no (λ r. r.child.present) joined_imports row here in
            let own = same_bare bare_import joined_imports imported given_imports import.0 it.same_imports same_imports import.1 in
            let number : import_no import.0 ≡ import_no own.0 = ap import_no (sym own.2) in
            not_among left_then true (import_no own.0) row (all_in (λ r. IsWithout left_then true (import_no r)) given_imports own.0 taken_imports own.1) (import.2 ∙ ap (λ n. (n, true)) number) at
      ]

-- where entries remain, one of them is
pub one_left : (es : List Entry) → (length es ≡ 0 → ⊥) → (row : PresentRow) × In row (map present_left_at es)
one_left [] some = absurd (some refl)
one_left (e ∷ es) some = (present_left_at e, inl refl)
