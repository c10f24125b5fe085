-- The header in the records of a file.
use Rattle.std.proofs.Common.{◌≡◌, ◌∙◌, ℕ, List, [], ◌∷◌, length, take, true, false, Result, Ok, Err, IfErr, ap, refl, sym, subst, arith}
use Rattle.std.specs.Result.{is_ok}
use Rattle.adm_types.specs.declared.rows.Row.{Row as ImportRow}
use Rattle.adm_csv.specs.declared.fault.Fault.{Fault}
use Rattle.adm_csv.specs.declared.fault.Fault.TheVariants.{Header, FieldCount, BadNumber, BadDate, BadText, TooManyRows, Read, Memory}
use Rattle.adm_csv.specs.declared.fault.RowFault.{RowFault}
use Rattle.adm_csv.specs.Rows.{Record, FailsAt, FailsFrom, ReadsRows, ReadsFrom, IsReached, IsReachedUnder, is_read, is_read_fault, rows_in, rows_from, is_header}

-- a first record that is no header, or none
pub other_header : (all : List Record) (h : Record) (rest : List Record) → all ≡ h ∷ rest → is_header h ≡ false → rows_in all ≡ Err (record { row = 0; fault = Header })
unfolding rows_in
other_header all h rest is other = ap rows_in is ∙ rw other refl

pub no_header : (all : List Record) → all ≡ [] → rows_in all ≡ Err (record { row = 0; fault = Header })
unfolding rows_in
no_header all is = ap rows_in is

-- the rows under the header
pub under_header : (all : List Record) (h : Record) (rest : List Record) → all ≡ h ∷ rest → is_header h ≡ true → rows_in all ≡ rows_from (length h) 1 rest
unfolding rows_in
under_header all h rest is header = ap rows_in is ∙ rw header refl

-- what was read under the header was read of the records
pub from_header : {A : Type 0} (view : A → List ImportRow) (all rest : List Record) (h : Record) (width : ℕ) (result : Result A RowFault) → all ≡ h ∷ rest → is_header h ≡ true → width ≡ length h
    → ReadsFrom view width 1 rest result → ReadsRows ⊥ view all result
from_header view all rest h width result is header wide reads = go result (subst (λ w. ReadsFrom view w 1 rest result) wide reads)
  where
    faulty : (e : RowFault) (f : Fault) → FailsFrom (length h) 1 e f rest → FailsAt ⊥ e f all
    faulty e Memory fails = tt
    faulty e Read fails = fails
    faulty e Header fails = under_header all h rest is header ∙ fails
    faulty e FieldCount fails = under_header all h rest is header ∙ fails
    faulty e BadNumber fails = under_header all h rest is header ∙ fails
    faulty e BadDate fails = under_header all h rest is header ∙ fails
    faulty e BadText fails = under_header all h rest is header ∙ fails
    faulty e TooManyRows fails = under_header all h rest is header ∙ fails

    go : (result : Result _ RowFault) → ReadsFrom view (length h) 1 rest result → ReadsRows ⊥ view all result
    go (Ok x) reads = under_header all h rest is header ∙ reads
    go (Err e) reads = faulty e e.fault reads

-- records that say the same, where the reader may have failed
pub same_records : {A : Type 0} (view : A → List ImportRow) (all others : List Record) (result : Result A RowFault) → rows_in all ≡ rows_in others
    → ReadsRows ⊥ view others result → ReadsRows (Unit {0}) view all result
same_records view all others (Ok x) same reads = same ∙ reads
same_records view all others (Err e) same reads = faulty e.fault reads
  where
    faulty : (f : Fault) → FailsAt ⊥ e f others → FailsAt (Unit {0}) e f all
    faulty Memory fails = tt
    faulty Read fails = tt
    faulty Header fails = same ∙ fails
    faulty FieldCount fails = same ∙ fails
    faulty BadNumber fails = same ∙ fails
    faulty BadDate fails = same ∙ fails
    faulty BadText fails = same ∙ fails
    faulty TooManyRows fails = same ∙ fails

-- a row that is reached under the header
reached_below : (all rest : List Record) (h : Record) (width k : ℕ) → all ≡ h ∷ rest → is_header h ≡ true → width ≡ length h → IsReachedUnder width k rest → IsReached k all
reached_below all rest h width k is header wide reached =
    let n = reached.0 in
    let same = ap length is in
    let begin : take k all ≡ h ∷ take n rest = ap (take k) is ∙ ap (λ i. take i (h ∷ rest)) reached.1 in
    let reads : rows_in (take k all) ≡ rows_from width 1 (take n rest) = under_header (take k all) h (take n rest) begin header ∙ ap (λ w. rows_from w 1 (take n rest)) (sym wide) in
    (omega (arith, same, reached.1, reached.2), λ some. ap is_ok reads ∙ reached.3)

pub below_header : {A : Type 0} (all rest : List Record) (h : Record) (width : ℕ) (result : Result A RowFault) → all ≡ h ∷ rest → is_header h ≡ true → width ≡ length h
    → IfErr result (λ e. e.fault ≡ Memory → IsReachedUnder width e.row rest) → IfErr result (λ e. e.fault ≡ Memory → IsReached e.row all)
below_header all rest h width (Ok x) is header wide reached = tt
below_header all rest h width (Err e) is header wide reached = λ m. reached_below all rest h width e.row is header wide (reached m)

-- no error is the reader's
pub no_read_fault : {A : Type 0} (view : A → List ImportRow) (all : List Record) (result : Result A RowFault) → ReadsRows ⊥ view all result → is_read_fault result ≡ false
no_read_fault view all (Ok x) reads = refl
no_read_fault view all (Err e) reads = by e.fault reads
  where
    by : (f : Fault) → FailsAt ⊥ e f all → is_read f ≡ false
    by Memory fails = refl
    by Read fails = absurd fails
    by Header fails = refl
    by FieldCount fails = refl
    by BadNumber fails = refl
    by BadDate fails = refl
    by BadText fails = refl
    by TooManyRows fails = refl
