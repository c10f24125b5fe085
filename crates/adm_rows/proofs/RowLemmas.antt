-- Rows as lists of columns, and lists of values as their rows.
use Rattle.std.proofs.Common.{◌≡◌, ◌∙◌, ℕ, suc, ◌+◌, ◌<◌, List, [], ◌∷◌, ◌++◌, map, take, length, get_or, ◌⊎◌, inl, inr, Result, Ok, Err, IfOk, IfErr, refl, sym, ap, subst, subst₂, arith, pos}
use Rattle.std.specs.List.{AllByRecursion}
use Rattle.std.specs.List.Sorted.{IsPermutation}
use Rattle.std.proofs.lemmas.List.{take_more, map-append}
use Rattle.std.proofs.lemmas.List.Sorted.{IsPermutation-sym, IsPermutation-trans, IsPermutation-map, Contains-permutation}
use Rattle.sqlite_rules.specs.Lists.{Has}
use Rattle.sqlite_rules.proofs.ListLemmas.{has_at, has_contained, contains_had}
use Rattle.sqlite.specs.declared.types.Value.{Value}
use Rattle.sqlite.specs.declared.types.Value.TheVariants.{Int, Text}
use Rattle.sqlite.specs.Order.{Row}
use Rattle.adm_lists.proofs.Each.{each_weaker}
use Rattle.adm_schema.proofs.Lists.{has_source}
use Rattle.adm_register.specs.declared.rows_fault.RowsFault.{RowsFault}
use Rattle.adm_register.specs.declared.rows_fault.RowsFault.TheVariants.{BadRow, Memory}
use Rattle.adm_rows.specs.Faults.{HasFrom}

-- ---- one row

one_less : (x : Value) (row : Row) (i : ℕ) (values : List Value) → HasFrom (x ∷ row) (suc i) values → HasFrom row i values
one_less x row i [] has = tt
one_less x row i (value ∷ values) has = (has.0, one_less x row (suc i) values has.1)

-- a row is its columns
pub columns_are : (row values : Row) → length row ≡ length values → HasFrom row 0 values → row ≡ values
columns_are [] [] len has = refl
columns_are [] (value ∷ values) len has = absurd (omega (arith, len))
columns_are (x ∷ row) [] len has = absurd (omega (arith, len))
columns_are (x ∷ row) (value ∷ values) len has = λ k. has.0 k ∷ columns_are row values (omega (arith, len)) (one_less x row 0 values has.1) k

one_more : (x : Value) (row : Row) (i : ℕ) (values : List Value) → HasFrom row i values → HasFrom (x ∷ row) (suc i) values
one_more x row i [] has = tt
one_more x row i (value ∷ values) has = (has.0, one_more x row (suc i) values has.1)

own_columns : (row : Row) → HasFrom row 0 row
own_columns [] = tt
own_columns (x ∷ row) = (refl, one_more x row 0 row (own_columns row))

-- what was read of a row from its first column, or why nothing was
module _ {X : Type 0} (row_of : X → Row) (row : Row) where
  pub whole_read : (r : Result X RowsFault) → ((xs : X) → length row ≡ length (row_of xs)) → IfOk r (λ xs. HasFrom row 0 (row_of xs)) → IfOk r (λ xs. row ≡ row_of xs)
  whole_read (Ok xs) long has = columns_are row (row_of xs) (long xs) has
  whole_read (Err e) long has = tt

  pub whole_refused : (Fit : X → Type 0) (r : Result X RowsFault) → IfErr r (λ e. e ≡ BadRow → (xs : X) → Fit xs → HasFrom row 0 (row_of xs) → ⊥)
      → IfErr r (λ e. e ≡ BadRow → (xs : X) → Fit xs → row ≡ row_of xs → ⊥)
  whole_refused Fit (Ok xs) bad = tt
  whole_refused Fit (Err e) bad = λ structural xs fit is. bad structural xs fit (subst (HasFrom row 0) is (own_columns row))

-- the number or the text of a value
abbrev pub number_in : Value → ℕ
number_in (Int (pos n)) = n
number_in other = 0

abbrev pub text_in : Value → List ℕ
text_in (Text text) = text
text_in other = []

-- a value that is none of a register's is not readable
pub unread : (P : Type 0) (e : RowsFault) → e ≡ BadRow → (e ≡ Memory) ⊎ ((e ≡ BadRow) × (P → ⊥)) → P → ⊥
unread P e structural (inl is) p = let wrong = sym structural ∙ is in cc
unread P e structural (inr is) p = is.1 p

-- ---- a predicate of each

pub recursion_had : {X : Type 0} (P : X → Type 0) (xs : List X) (x : X) → AllByRecursion P xs → Has xs x → P x
recursion_had P [] x all h = absurd h
recursion_had P (y ∷ ys) x all (inl is) = subst P (sym is) all.0
recursion_had P (y ∷ ys) x all (inr h) = recursion_had P ys x all.1 h

-- ---- the rows of a table, and the values that they were written from

module _ {X : Type 0} (row_of : X → Row) where
  -- the turn of a loop that reads each row
  pub read_more : (rows : List Row) (i : ℕ) (row : Row) (was now : List X) (x : X) → i < length rows → row ≡ get_or rows i row → map row_of was ≡ take i rows → row ≡ row_of x → now ≡ was ++ x ∷ []
      → map row_of now ≡ take (i + 1) rows
  read_more rows i row was now x low item so_far is next =
      ap (map row_of) next ∙ map-append row_of was (x ∷ []) ∙ (λ k. so_far k ++ (sym is ∙ item) k ∷ []) ∙ sym (take_more rows i row low)

  -- each row is that of a value, where the rows are those of values
  pub has_value : (P : X → Type 0) (rows : List Row) (i : ℕ) (row : Row) → i < length rows → row ≡ get_or rows i row → (xs : List X) → AllByRecursion P xs
      → IsPermutation (map row_of xs) rows → (x : X) × P x × (row ≡ row_of x)
  has_value P rows i row low is xs formed moved =
      let here = has_at rows i row low is in
      let it = has_source row_of xs row (has_contained _ _ (Contains-permutation _ _ _ (IsPermutation-sym _ _ moved) (contains_had _ _ here))) in
      (it.0, recursion_had P xs it.0 formed it.1, it.2)

  -- values that are shown by their rows but for what these leave out
  each_shown : {Y : Type 0} (back : Row → Y) (clean : X → Y) (xs : List X) → AllByRecursion (λ x. back (row_of x) ≡ clean x) xs → map back (map row_of xs) ≡ map clean xs
  each_shown back clean [] all = refl
  each_shown back clean (x ∷ xs) all = λ k. all.0 k ∷ each_shown back clean xs all.1 k

  pub values_shown : {Y : Type 0} (back : Row → Y) (clean : X → Y) (IsRead Fits : X → Type 0) → ((x : X) → IsRead x → back (row_of x) ≡ clean x)
      → ((x : X) → Fits x → IsRead x) → (read values : List X) (rows : List Row)
      → AllByRecursion IsRead read → AllByRecursion Fits values → IsPermutation (map row_of read) rows → IsPermutation (map row_of values) rows → IsPermutation (map clean read) (map clean values)
  values_shown back clean IsRead Fits returns fits read values rows again formed one two =
      let shown = each_shown back clean read (each_weaker IsRead (λ x. back (row_of x) ≡ clean x) returns read again) in
      let had = each_shown back clean values (each_weaker Fits (λ x. back (row_of x) ≡ clean x) (λ x f. returns x (fits x f)) values formed) in
      subst₂ IsPermutation shown had (IsPermutation-map back _ _ (IsPermutation-trans _ _ _ one (IsPermutation-sym _ _ two)))

  each_back : (back : Row → X) (xs : List X) → AllByRecursion (λ x. back (row_of x) ≡ x) xs → map back (map row_of xs) ≡ xs
  each_back back [] all = refl
  each_back back (x ∷ xs) all = λ k. all.0 k ∷ each_back back xs all.1 k

  -- values that their rows determine, and whose rows are those of others in another order, are those others
  same_values : (back : Row → X) (xs ys : List X) → AllByRecursion (λ x. back (row_of x) ≡ x) xs → AllByRecursion (λ x. back (row_of x) ≡ x) ys
      → IsPermutation (map row_of ys) (map row_of xs) → IsPermutation xs ys
  same_values back xs ys one two moved =
      IsPermutation-sym _ _ (subst₂ IsPermutation (each_back back ys two) (each_back back xs one) (IsPermutation-map back _ _ moved))

  -- values that were read, with the same rows as those of a register, are those
  pub values_back : (back : Row → X) (IsRead Fits : X → Type 0) → ((x : X) → IsRead x → back (row_of x) ≡ x) → ((x : X) → Fits x → IsRead x) → (read values : List X) (rows : List Row)
      → AllByRecursion IsRead read → AllByRecursion Fits values → IsPermutation (map row_of read) rows → IsPermutation (map row_of values) rows → IsPermutation read values
  values_back back IsRead Fits returns fits read values rows again formed one two =
      same_values back read values (each_weaker IsRead (λ x. back (row_of x) ≡ x) returns read again)
      (each_weaker Fits (λ x. back (row_of x) ≡ x) (λ x f. returns x (fits x f)) values formed) (IsPermutation-trans _ _ _ two (IsPermutation-sym _ _ one))
