-- Children and imported rows that are read bare, without their present schools, and the table of these.
use Rattle.std.proofs.Common.{◌≡◌, ◌∙◌, inl, inr, Bool, true, false, List, [], ◌∷◌, map, ℕ, Some, None, Option, refl, sym, ap, subst, subst₂}
use Rattle.std.specs.Prelude.{nat_eq}
use Rattle.std.specs.Ordering.{nat_cmp}
use Rattle.std.specs.Cmp.{nat_cmp_total}
use Rattle.std.specs.List.{flat_map}
use Rattle.std.specs.List.Sorted.{IsPermutation, IsStrictlySortedBy}
use Rattle.std.specs.Map.{keys_of}
use Rattle.std.specs.FinMap.{FinMap, get, values, entries, nat_cmp-IsAntisymmetric}
use Rattle.std.proofs.lemmas.Bool.{false≢true}
use Rattle.std.proofs.lemmas.Option.{same_Some}
use Rattle.std.proofs.lemmas.List.Sorted.{IsPermutation-sym, IsPermutation-map, IsPermutation-append, Contains-permutation}
use Rattle.sqlite.specs.Order.{Row, column}
use Rattle.sqlite_rules.specs.Lists.{Has}
use Rattle.sqlite_rules.proofs.ListLemmas.{has_contained, contains_had, has_either, has_left, has_right}
use Rattle.sqlite_trees.proofs.ListLemmas.{pull_back, IsPermutation-flat_map}
use Rattle.adm_lists.proofs.Members.{In}
use Rattle.adm_lists.proofs.Maps.{entries_in_order}
use Rattle.adm_lists.proofs.Keys.{at_key, in_key}
use Rattle.adm_types.specs.Children.{with_present, bare_child, bare_import, present_row, present_of_child, present_of_import, presents_of}
use Rattle.adm_types.specs.declared.rows.Child.{Child}
use Rattle.adm_types.specs.declared.rows.Row.{Row as ImportRow}
use Rattle.adm_types.specs.declared.rows.PresentRow.{PresentRow}
use Rattle.adm_rows.specs.Present.{present_columns}
use Rattle.adm_rows.proofs.Entries.{own_entry}
use Rattle.adm_rows.proofs.RowLemmas.{number_in, text_in}
use Rattle.adm_rows.proofs.PresentLists.{from_given, is_given}

-- ---- lists

module _ {X : Type 0} where
  -- membership, as the two libraries say it
  has_in : (xs : List X) (x : X) → Has xs x → In x xs
  has_in [] x h = absurd h
  has_in (y ∷ ys) x (inl is) = inl (sym is)
  has_in (y ∷ ys) x (inr h) = inr (has_in ys x h)

  -- what is in a list is in each order of it
  has_moved : (xs ys : List X) (x : X) → IsPermutation xs ys → Has xs x → Has ys x
  has_moved xs ys x moved h = has_contained ys x (Contains-permutation xs ys x moved (contains_had xs x h))

  -- two lists that agree under a map are one list where elements that agree are one
  same_under : {Y : Type 0} (f : X → Y) (xs ys : List X) → map f xs ≡ map f ys → ((x y : X) → Has xs x → Has ys y → f x ≡ f y → x ≡ y) → xs ≡ ys
  same_under f [] [] e same = refl
  same_under f [] (y ∷ ys) e same = absurd (cc)
  same_under f (x ∷ xs) [] e same = absurd (cc)
  same_under f (x ∷ xs) (y ∷ ys) e same =
      let head : f x ≡ f y = cc in
      let tail : map f xs ≡ map f ys = cc in
      λ i. same x y (inl refl) (inl refl) head i ∷ same_under f xs ys tail (λ z w h k. same z w (inr h) (inr k)) i

-- ---- values with numbers, and with present schools that are kept elsewhere

module _ {V : Type 0} (number : V → ℕ) where
  -- in a list in the order of the numbers a number is that of one value
  one_of_number : (vs : List V) → IsStrictlySortedBy nat_cmp (map number vs) → (v w : V) → Has vs v → Has vs w → number v ≡ number w → v ≡ w
  one_of_number vs sorted v w h k is =
      same_Some v w (sym (in_key number vs v sorted (has_in vs v h)) ∙ ap (at_key number vs) is ∙ in_key number vs w sorted (has_in vs w k))

  -- the values of a map are in that order
  numbers_rise : (m : FinMap nat_cmp V) → ((k : ℕ) (v : V) → get m k ≡ Some v → number v ≡ k) → IsStrictlySortedBy nat_cmp (map number (values m))
  numbers_rise m own = subst (IsStrictlySortedBy nat_cmp) (sym (go (entries m) (λ e h. own_entry nat_cmp_total nat_cmp-IsAntisymmetric number m own e h))) (entries_in_order m)
    where
      go : (es : List (ℕ × V)) → ((e : ℕ × V) → Has es e → number e.1 ≡ e.0) → map number (map (λ (e : ℕ × V). e.1) es) ≡ keys_of es
      go [] at = refl
      go (e ∷ es) at = λ i. at e (inl refl) i ∷ go es (λ x h. at x (inr h)) i

  module _ (present : V → Option (List ℕ)) where
    -- some value has this number and this present school
    abbrev AtSchool : List V → ℕ → List ℕ → Type 0
    AtSchool vs n school = (v : V) × Has vs v × (number v ≡ n) × (present v ≡ Some school)

    -- as many at the schools as before, in another order
    at_moved : (vs ws : List V) → IsPermutation vs ws → (n : ℕ) (school : List ℕ) → AtSchool vs n school → AtSchool ws n school
    at_moved vs ws moved n school (v, h, is, at) = (v, has_moved vs ws v moved h, is, at)

    -- where a list has the numbers of another once each, and its schools
    same_school : (vs ws : List V) → IsStrictlySortedBy nat_cmp (map number vs) → IsStrictlySortedBy nat_cmp (map number ws)
        → ((n : ℕ) (school : List ℕ) → AtSchool vs n school → AtSchool ws n school) → ((n : ℕ) (school : List ℕ) → AtSchool ws n school → AtSchool vs n school)
        → (v w : V) → Has vs v → Has ws w → number v ≡ number w → present v ≡ present w
    same_school vs ws up wp one other v w h k is = go (present v) (present w) refl refl
      where
        go : (o p : Option (List ℕ)) → present v ≡ o → present w ≡ p → present v ≡ present w
        go None None here there = here ∙ sym there
        go None (Some s) here there =
            let it = other (number w) s (w, k, refl, there) in
            ap present (one_of_number vs up v it.0 h it.1 (is ∙ sym it.2)) ∙ it.3 ∙ sym there
        go (Some s) p here there =
            let it = one (number v) s (v, h, refl, here) in
            here ∙ sym it.3 ∙ sym (ap present (one_of_number ws wp w it.0 k it.1 (sym is ∙ sym it.2)))

    module _ (bare : V → V) (keeps : (v : V) → number (bare v) ≡ number v) (whole : (v w : V) → bare v ≡ bare w → present v ≡ present w → v ≡ w) where
      -- the numbers are those of the values without their schools
      bare_numbers : (vs : List V) → map number (map bare vs) ≡ map number vs
      bare_numbers [] = refl
      bare_numbers (v ∷ vs) = λ i. keeps v i ∷ bare_numbers vs i

      -- values that are those of a map but for their present schools are those where the schools are the same
      read_back : (vs : List V) (m : FinMap nat_cmp V) → ((k : ℕ) (v : V) → get m k ≡ Some v → number v ≡ k) → IsPermutation (map bare vs) (map bare (values m))
          → ((n : ℕ) (school : List ℕ) → AtSchool vs n school → AtSchool (values m) n school) → ((n : ℕ) (school : List ℕ) → AtSchool (values m) n school → AtSchool vs n school)
          → IsPermutation vs (values m)
      read_back vs m own moved one other =
          let it = pull_back bare (map bare vs) (map bare (values m)) moved vs refl in
          let up = numbers_rise m own in
          let numbers = sym (bare_numbers (values m)) ∙ ap (map number) it.2 ∙ bare_numbers it.0 in
          let rise = subst (IsStrictlySortedBy nat_cmp) numbers up in
          let back = IsPermutation-sym vs it.0 it.1 in
          let same = same_under bare it.0 (values m) (sym it.2) (λ v w h k is.
          whole v w is
          (same_school it.0 (values m) rise up (λ n s at. one n s (at_moved it.0 vs back n s at)) (λ n s at. at_moved vs it.0 it.1 n s (other n s at)) v w h k
          (sym (keeps v) ∙ ap number is ∙ keeps w))) in
          subst (IsPermutation vs) same it.1

-- ---- the rows of the table

-- the row of a present school, from its columns
abbrev row_back : Row → PresentRow
row_back row = record { child = number_in (column row 0); is_imported = nat_eq (number_in (column row 1)) 1; school = text_in (column row 2) }

-- it is the row that the columns were written from
rows_back : (rows : List PresentRow) → map row_back (map present_columns rows) ≡ rows
rows_back [] = refl
rows_back (row ∷ rows) = λ i. one row.child row.is_imported row.school i ∷ rows_back rows i
  where
    one : (child : ℕ) (b : Bool) (school : List ℕ) → row_back (present_columns (record { child = child; is_imported = b; school = school })) ≡ record {
      child = child;
      is_imported = b;
      school = school;
    }
    one child true school = refl
    one child false school = refl

-- rows of present schools are those of others where their columns are
pub columns_moved : (rows others : List PresentRow) → IsPermutation (map present_columns rows) (map present_columns others) → IsPermutation rows others
columns_moved rows others moved = subst₂ IsPermutation (rows_back rows) (rows_back others) (IsPermutation-map row_back _ _ moved)

-- what a row of a present school says
row_says : (n : ℕ) (b : Bool) (o : Option (List ℕ)) (row : PresentRow) → Has (present_row n b o) row → (n ≡ row.child) × (b ≡ row.is_imported) × (o ≡ Some row.school)
row_says n b None row h = absurd h
row_says n b (Some s) row (inl is) = (ap (λ (r : PresentRow). r.child) (sym is), ap (λ (r : PresentRow). r.is_imported) (sym is), ap (λ (r : PresentRow). Some r.school) (sym is))
row_says n b (Some s) row (inr h) = absurd h

-- and it is there
says_row : (n : ℕ) (b : Bool) (o : Option (List ℕ)) (m : ℕ) (school : List ℕ) → n ≡ m → o ≡ Some school → Has (present_row n b o) (record { child = m; is_imported = b; school = school })
says_row n b o m school is at = subst (λ p. Has (present_row n b p) (record { child = m; is_imported = b; school = school })) (sym at)
    (inl (λ i. record { child = sym is i; is_imported = b; school = school }))

-- the number and the present school of a child, and of the child of an imported row
abbrev number_of : Child → ℕ
number_of c = c.no

abbrev school_of : Child → Option (List ℕ)
school_of c = c.present

abbrev import_number : ImportRow → ℕ
import_number r = r.child.no

abbrev import_school : ImportRow → Option (List ℕ)
import_school r = r.child.present

-- a child at a school is a row
child_row : (xs : List Child) (rows : List ImportRow) (n : ℕ) (school : List ℕ) → AtSchool number_of school_of xs n school
    → Has (presents_of xs rows) (record { child = n; is_imported = false; school = school })
child_row xs rows n school (c, h, is, at) = has_left _ _ _ (is_given present_of_child xs c _ h (says_row c.no false c.present n school is at))

-- and a row that is not of an imported row is a child at a school
row_child : (xs : List Child) (rows : List ImportRow) (n : ℕ) (school : List ℕ) → Has (presents_of xs rows) (record { child = n; is_imported = false; school = school })
    → AtSchool number_of school_of xs n school
row_child xs rows n school h = elim (has_either (flat_map present_of_child xs) (flat_map present_of_import rows) _ h) [
  | inl here ↦
      let it = from_given present_of_child xs _ here in
      let says = row_says it.0.no false it.0.present _ it.2 in
      (it.0, it.1, says.0, says.2)
  | inr there ↦
      let it = from_given present_of_import rows _ there in
      absurd (false≢true (sym (row_says it.0.child.no true it.0.child.present _ it.2).1))
]

-- an imported row whose child is at a school is a row
import_row : (xs : List Child) (rows : List ImportRow) (n : ℕ) (school : List ℕ) → AtSchool import_number import_school rows n school
    → Has (presents_of xs rows) (record { child = n; is_imported = true; school = school })
import_row xs rows n school (r, h, is, at) = has_right (flat_map present_of_child xs) _ _ (is_given present_of_import rows r _ h (says_row r.child.no true r.child.present n school is at))

-- and a row of an imported row is one whose child is at a school
row_import : (xs : List Child) (rows : List ImportRow) (n : ℕ) (school : List ℕ) → Has (presents_of xs rows) (record { child = n; is_imported = true; school = school })
    → AtSchool import_number import_school rows n school
row_import xs rows n school h = elim (has_either (flat_map present_of_child xs) (flat_map present_of_import rows) _ h) [
  | inl here ↦
      let it = from_given present_of_child xs _ here in
      absurd (false≢true (row_says it.0.no false it.0.present _ it.2).1)
  | inr there ↦
      let it = from_given present_of_import rows _ there in
      let says = row_says it.0.child.no true it.0.child.present _ it.2 in
      (it.0, it.1, says.0, says.2)
]

-- ---- a register that is read

-- a child is what remains without its present school, and that school
whole_child : (c d : Child) → bare_child c ≡ bare_child d → c.present ≡ d.present → c ≡ d
whole_child c d same at = λ i. with_present (same i) (at i)

-- and so is an imported row
whole_import : (r q : ImportRow) → bare_import r ≡ bare_import q → r.child.present ≡ q.child.present → r ≡ q
whole_import r q same at = λ i. record { child = with_present (same i).child (at i); day = (same i).day; preferences = (same i).preferences }

-- children and imported rows that are those of two maps but for their present schools are those where the rows of these schools are the same
pub presents_read : (xs : List Child) (m : FinMap nat_cmp Child) → ((k : ℕ) (c : Child) → get m k ≡ Some c → c.no ≡ k)
    → (rows : List ImportRow) (im : FinMap nat_cmp ImportRow) → ((k : ℕ) (r : ImportRow) → get im k ≡ Some r → r.child.no ≡ k)
    → IsPermutation (map bare_child xs) (map bare_child (values m)) → IsPermutation (map bare_import rows) (map bare_import (values im))
    → IsPermutation (map present_columns (presents_of xs rows)) (map present_columns (presents_of (values m) (values im)))
    → IsPermutation xs (values m) × IsPermutation rows (values im)
presents_read xs m own rows im own_import children imported presents =
    let there = columns_moved _ _ presents in
    let back = IsPermutation-sym _ _ there in (
      read_back number_of school_of bare_child (λ c. refl) whole_child xs m own children (λ n s at. row_child (values m) (values im) n s (has_moved _ _ _ there (child_row xs rows n s at)))
          (λ n s at. row_child xs rows n s (has_moved _ _ _ back (child_row (values m) (values im) n s at))),
      read_back import_number import_school bare_import (λ r. refl) whole_import rows im own_import imported
          (λ n s at. row_import (values m) (values im) n s (has_moved _ _ _ there (import_row xs rows n s at)))
          (λ n s at. row_import xs rows n s (has_moved _ _ _ back (import_row (values m) (values im) n s at))),
    )

-- children and imported rows in another order have the rows of their present schools in another order
pub presents_moved : (xs ys : List Child) (rows others : List ImportRow) → IsPermutation xs ys → IsPermutation rows others → IsPermutation (presents_of xs rows) (presents_of ys others)
presents_moved xs ys rows others children imported = IsPermutation-append _ _ _ _ (IsPermutation-flat_map present_of_child xs ys children)
    (IsPermutation-flat_map present_of_import rows others imported)
