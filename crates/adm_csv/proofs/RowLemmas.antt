-- Rows of a file read one after another, up to the first error.
use Rattle.std.proofs.Common.{◌≡◌, ◌∙◌, ◌+◌, ℕ, List, [], ◌∷◌, ◌++◌, length, take, Result, Ok, Err, ap, refl, sym, append_assoc, length-append, add-one, arith}
use Rattle.std.specs.Result.{is_ok}
use Rattle.std.proofs.Math.Seq.{take-append_seam}
use Rattle.std.proofs.lemmas.List.{append-nil}
use Rattle.adm_types.specs.declared.rows.Row.{Row as ImportRow}
use Rattle.adm_csv.specs.declared.fault.Fault.{Fault}
use Rattle.adm_csv.specs.declared.fault.Fault.TheVariants.{Header, FieldCount, BadNumber, BadDate, BadText, TooManyRows, Read, Memory}
use Rattle.adm_csv.specs.declared.fault.RowFault.{RowFault}
use Rattle.adm_csv.specs.Reading.{◌>>=◌, Fails}
use Rattle.adm_csv.specs.Rows.{Record, FailsFrom, IsReachedUnder, import_row_at, at_row, rows_from}

-- what is read, after the rows that were read before
abbrev pub with_rows : List ImportRow → Result (List ImportRow) RowFault → Result (List ImportRow) RowFault
with_rows front (Ok rows) = Ok (front ++ rows)
with_rows front (Err e) = Err e

-- one row more
more_rows : (front : List ImportRow) (x : ImportRow) (rest : Result (List ImportRow) RowFault) → with_rows front (rest >>= λ xs. Ok (x ∷ xs)) ≡ with_rows (front ++ x ∷ []) rest
more_rows front x (Ok xs) = ap Ok (sym (append_assoc front (x ∷ []) xs))
more_rows front x (Err e) = refl

pub row_more : (width : ℕ) (front : List ImportRow) (k : ℕ) (left : List Record) (r : Record) (rs : List Record) (x : ImportRow) → left ≡ r ∷ rs → import_row_at width k r ≡ Ok x
    → with_rows (front ++ x ∷ []) (rows_from width (k + 1) rs) ≡ with_rows front (rows_from width k left)
row_more width front k left r rs x is row =
    sym (more_rows front x (rows_from width (k + 1) rs))
    ∙ sym (ap (λ o. with_rows front (at_row k o >>= λ x. rows_from width (k + 1) rs >>= λ xs. Ok (x ∷ xs))) row)
    ∙ sym (ap (λ l. with_rows front (rows_from width k l)) is)

fault_is : (width : ℕ) (front : List ImportRow) (k : ℕ) (left : List Record) (r : Record) (rs all : List Record) (e : Fault) → left ≡ r ∷ rs
    → with_rows front (rows_from width k left) ≡ rows_from width 1 all
    → import_row_at width k r ≡ Err e → rows_from width 1 all ≡ Err (record { row = k; fault = e })
fault_is width front k left r rs all e is so_far row =
    sym so_far ∙ ap (λ l. with_rows front (rows_from width k l)) is ∙ ap (λ o. with_rows front (at_row k o >>= λ x. rows_from width (k + 1) rs >>= λ xs. Ok (x ∷ xs))) row

-- a row with an error
pub row_fault : (width : ℕ) (front : List ImportRow) (k : ℕ) (left : List Record) (r : Record) (rs all : List Record) (e : Fault) → left ≡ r ∷ rs
    → with_rows front (rows_from width k left) ≡ rows_from width 1 all
    → Fails e (import_row_at width k r) → FailsFrom width 1 (record { row = k; fault = e }) e all
row_fault width front k left r rs all Memory is so_far row = tt
row_fault width front k left r rs all Header is so_far row = fault_is width front k left r rs all Header is so_far row
row_fault width front k left r rs all FieldCount is so_far row = fault_is width front k left r rs all FieldCount is so_far row
row_fault width front k left r rs all BadNumber is so_far row = fault_is width front k left r rs all BadNumber is so_far row
row_fault width front k left r rs all BadDate is so_far row = fault_is width front k left r rs all BadDate is so_far row
row_fault width front k left r rs all BadText is so_far row = fault_is width front k left r rs all BadText is so_far row
row_fault width front k left r rs all TooManyRows is so_far row = fault_is width front k left r rs all TooManyRows is so_far row
row_fault width front k left r rs all Read is so_far row = row

-- no row more
pub rows_end : (width : ℕ) (front : List ImportRow) (k : ℕ) (left : List Record) → left ≡ [] → with_rows front (rows_from width k left) ≡ Ok front
rows_end width front k left is = ap (λ l. with_rows front (rows_from width k l)) is ∙ ap Ok (append-nil front)

-- so many records were read without an error and gave these rows, and these remain
pub record HasRows (width : ℕ) (all : List Record) (number : ℕ) (left : List Record) (rows : List ImportRow) : Type 0 where
  pub front : List Record
  pub all_is : all ≡ front ++ left
  pub count : length front ≡ number
  pub goes_on : (more : List Record) → with_rows rows (rows_from width (number + 1) more) ≡ rows_from width 1 (front ++ more)

no_front : (r : Result (List ImportRow) RowFault) → with_rows [] r ≡ r
no_front (Ok rows) = refl
no_front (Err e) = refl

-- none at first
pub rows_begin : (width : ℕ) (all : List Record) (rows : List ImportRow) → rows ≡ [] → HasRows width all 0 all rows
rows_begin width all rows none =
    record { front = []; all_is = refl; count = refl; goes_on = λ more. ap (λ front. with_rows front (rows_from width 1 more)) none ∙ no_front (rows_from width 1 more) }

-- one more
pub rows_read : (width : ℕ) (all : List Record) (number : ℕ) (left rs : List Record) (rows : List ImportRow) (r : Record) (x : ImportRow) → HasRows width all number left rows → left ≡ r ∷ rs
    → import_row_at width (number + 1) r ≡ Ok x → HasRows width all (number + 1) rs (rows ++ x ∷ [])
rows_read width all number left rs rows r x has is row =
    let long = length-append has.front (r ∷ []) in
    record {
      front = has.front ++ r ∷ [];
      all_is = has.all_is ∙ (ap (λ l. has.front ++ l) is ∙ sym (append_assoc has.front (r ∷ []) rs));
      count = omega (arith, long, has.count);
      goes_on = λ more. row_more width rows (number + 1) (r ∷ more) r more x refl row ∙ (has.goes_on (r ∷ more) ∙ ap (rows_from width 1) (sym (append_assoc has.front (r ∷ []) more)));
    }

-- what they say of all
pub rows_so_far : (width : ℕ) (all : List Record) (number : ℕ) (left : List Record) (rows : List ImportRow) → HasRows width all number left rows
    → with_rows rows (rows_from width (number + 1) left) ≡ rows_from width 1 all
rows_so_far width all number left rows has = has.goes_on left ∙ ap (rows_from width 1) (sym has.all_is)

-- the next row is reached
pub row_reached : (width : ℕ) (all : List Record) (number : ℕ) (left : List Record) (rows : List ImportRow) → HasRows width all number left rows → IsReachedUnder width (number + 1) all
row_reached width all number left rows has =
    let long = length-append has.front left in
    let same = ap length has.all_is in
    let begin : take number all ≡ has.front = ap (take number) has.all_is ∙ (ap (λ n. take n (has.front ++ left)) (sym has.count) ∙ take-append_seam has.front left) in
    let reads : rows_from width 1 (take number all) ≡ Ok (rows ++ []) = ap (rows_from width 1) (begin ∙ sym (append-nil has.front)) ∙ sym (has.goes_on []) in
    (number, add-one number, omega (arith, long, same, has.count), ap is_ok reads)
