-- The first bytes of a file, where enough of its records end in them.
use Rattle.std.proofs.Common.{◌≡◌, ◌∙◌, ◌+◌, ◌≤◌, ◌⊎◌, inl, inr, ◌++◌, ℕ, zero, suc, Bool, true, false, cond, List, [], ◌∷◌, take, length, Option, Some, None, IfSome, IfErr, Result, Ok, Err, refl, sym, ap, subst, arith}
use Rattle.std.specs.Io.KnownBytes.{Consumes}
use Rattle.std.specs.Prelude.{nat_lt}
use Rattle.std.proofs.lemmas.Bool.Decides.{nat_tests}
use Rattle.std.proofs.lemmas.List.{append-nil}
use Rattle.csv.specs.Machine.{Read, next_record, step, is_end, fields_after, field_after}
use Rattle.csv.specs.Reading.{default_config, strip_bom, is_bom, records, records_from}
use Rattle.csv.specs.declared.parser.State.{State}
use Rattle.csv.specs.declared.parser.State.TheVariants as st
use Rattle.adm_types.specs.declared.rows.Row.{Row as ImportRow}
use Rattle.adm_csv.specs.declared.fault.Fault.TheVariants.{Header, Memory}
use Rattle.adm_csv.specs.declared.fault.RowFault.{RowFault}
use Rattle.adm_csv.specs.Kinds.{Text}
use Rattle.adm_csv.specs.Rows.{Record, ReadsRows, IsReached, most_rows, records_of, rows_in, rows_from, import_row_at, at_row, is_header}
use Rattle.adm_csv.specs.Reading.{◌>>=◌}
use Rattle.adm_csv.specs.Remaining.{records_remaining}
use Rattle.adm_csv.specs.Ended.{IsEnoughOf, RunsOutAt, ended_by, ended_from, ended_in, enough}
use Rattle.adm_csv.proofs.HeaderLemmas.{same_records}
use Rattle.adm_csv.proofs.RecordLemmas.{left_more}

-- a record that ends in the first bytes is a record of all
abbrev Begins : State → Record → Text → Text → ℕ → Type 0
Begins s fields field text n = (p : Read) × (next_record default_config s fields field text ≡ Some p)
    × ((rest : Text) → next_record default_config s fields field (text ++ rest) ≡ Some (p.0, p.1, p.2 ++ rest)) × (n ≤ ended_from p.1 p.2)

-- a byte that ends no record
passes : (s : State) (fields : Record) (field : Text) (b : ℕ) (text : Text) → is_end (step default_config s b).1 ≡ false
    → next_record default_config s fields field (b ∷ text) ≡ next_record default_config (step default_config s b).0
    (fields_after (step default_config s b).1 fields field) (field_after (step default_config s b).1 b field) text
unfolding next_record
passes s fields field b text e = rw e refl

begins : (s : State) (fields : Record) (field text : Text) (n : ℕ) → suc n ≤ ended_from s text → Begins s fields field text n
unfolding next_record
begins s fields field [] n ended = absurd (omega (arith, ended))
begins s fields field (b ∷ text) n ended =
    by (is_end (step default_config s b).1) refl (λ more. begins (step default_config s b).0 (fields_after (step default_config s b).1 fields field)
    (field_after (step default_config s b).1 b field) text n more)
  where
    by : (e : Bool) → is_end (step default_config s b).1 ≡ e
        → (suc n ≤ ended_from (step default_config s b).0 text
        → Begins (step default_config s b).0 (fields_after (step default_config s b).1 fields field) (field_after (step default_config s b).1 b field) text n)
        → Begins s fields field (b ∷ text) n
    by true e more =
        let one : ended_by s b ≡ 1 = ap (λ t. cond t 1 0) e in
        ((fields_after (step default_config s b).1 fields field, (step default_config s b).0, text), rw e refl, (λ rest. rw e refl), omega (arith, ended, one))
    by false e more =
        let none : ended_by s b ≡ 0 = ap (λ t. cond t 1 0) e in
        let later = more (omega (arith, ended, none)) in
        (later.0, passes s fields field b text e ∙ later.1, (λ rest. passes s fields field b (text ++ rest) e ∙ later.2 rest), later.3)

take_same : (n : ℕ) (s : State) (text rest : Text) → n ≤ ended_from s text → take n (records_remaining s (text ++ rest)) ≡ take n (records_remaining s text)
take_same zero s text rest ended = refl
take_same (suc n) s text rest ended =
    let first = begins s [] [] text n ended in
    ap (take (suc n)) (left_more s (text ++ rest) (first.0.0, first.0.1, first.0.2 ++ rest) (first.2 rest))
    ∙ ap (λ rs. first.0.0 ∷ rs) (take_same n first.0.1 first.0.2 rest first.3)
    ∙ sym (ap (take (suc n)) (left_more s text first.0 first.1))

row_enough : (width k : ℕ) (r : Record) (xs ys : List Record) (t : Bool) → nat_lt most_rows k ≡ t → (k ≤ most_rows → rows_from width (k + 1) xs ≡ rows_from width (k + 1) ys)
    → rows_from width k (r ∷ xs) ≡ rows_from width k (r ∷ ys)
row_enough width k r xs ys true is more = rw is refl
row_enough width k r xs ys false is more =
    let low : k ≤ most_rows = grind (arith, nat_tests) in
    ap (λ o. at_row k (import_row_at width k r) >>= λ x. o >>= λ xs. Ok (x ∷ xs)) (more low)

-- the rows depend on so many records alone
rows_enough : (width m k : ℕ) (rs : List Record) → most_rows + 1 ≤ k + m → rows_from width k (take (suc m) rs) ≡ rows_from width k rs
rows_enough width m k [] long = refl
rows_enough width zero k (r ∷ rs) long = row_enough width k r [] rs (nat_lt most_rows k) refl (λ low. absurd (omega (arith, long, low)))
rows_enough width (suc m) k (r ∷ rs) long = row_enough width k r (take (suc m) rs) rs (nat_lt most_rows k) refl (λ low. rows_enough width m (k + 1) rs (omega (arith, long)))

records_enough : (all : List Record) → rows_in (take enough all) ≡ rows_in all
unfolding rows_in
records_enough [] = refl
records_enough (h ∷ rs) = ap (λ o. cond (is_header h) o (Err (record { row = 0; fault = Header }))) (rows_enough (length h) most_rows 1 rs (omega arith))

strip_longer : (text rest : Text) → 3 ≤ length text → strip_bom (text ++ rest) ≡ strip_bom text ++ rest
unfolding strip_bom
strip_longer [] rest long = absurd (omega (arith, long))
strip_longer (a ∷ []) rest long = absurd (omega (arith, long))
strip_longer (a ∷ b ∷ []) rest long = absurd (omega (arith, long))
strip_longer (a ∷ b ∷ c ∷ text) rest long = by (is_bom a b c)
  where
    by : (t : Bool) → cond t (text ++ rest) (a ∷ b ∷ c ∷ (text ++ rest)) ≡ cond t text (a ∷ b ∷ c ∷ text) ++ rest
    by true = refl
    by false = refl

one_at_most : (t : Bool) → cond t 1 0 ≤ 1
one_at_most true = omega arith
one_at_most false = omega arith

ended_low : (s : State) (text : Text) → ended_from s text ≤ length text
ended_low s [] = omega arith
ended_low s (b ∷ text) =
    let low = ended_low (step default_config s b).0 text in
    let one = one_at_most (is_end (step default_config s b).1) in
    omega (arith, low, one)

enough_long : (text : Text) → enough ≤ ended_in text → 3 ≤ length text
unfolding strip_bom
enough_long [] many = absurd (let low = ended_low st.StartRecord [] in omega (arith, many, low))
enough_long (a ∷ []) many = absurd (let low = ended_low st.StartRecord (a ∷ []) in omega (arith, many, low))
enough_long (a ∷ b ∷ []) many = absurd (let low = ended_low st.StartRecord (a ∷ b ∷ []) in omega (arith, many, low))
enough_long (a ∷ b ∷ c ∷ text) many = omega arith

are_left : (text : Text) → records default_config text ≡ records_remaining st.StartRecord text
are_left text = let same : length text + 1 ≡ suc (length text + 0) = omega arith in ap (λ n. records_from default_config n st.StartRecord text) same

-- all records, or enough of them, say what all say
pub rows_same : (input text : Text) → IsEnoughOf input text → rows_in (records_of input) ≡ rows_in (records_of text)
rows_same input text has = ap (λ t. rows_in (records_of t)) has.1 ∙ by has.2
  where
    by : (has.0 ≡ []) ⊎ (enough ≤ ended_in text) → rows_in (records_of (text ++ has.0)) ≡ rows_in (records_of text)
    by (inl none) = ap (λ t. rows_in (records_of t)) (ap (λ rest. text ++ rest) none ∙ append-nil text)
    by (inr many) =
        let stays = strip_longer text has.0 (enough_long text many) in
        let same = take_same enough st.StartRecord (strip_bom text) has.0 many in
        sym (records_enough (records_of (text ++ has.0)))
        ∙ (ap (λ t. rows_in (take enough (records default_config t))) stays
        ∙ (ap (λ rs. rows_in (take enough rs)) (are_left (strip_bom text ++ has.0))
        ∙ (ap rows_in same
        ∙ (sym (ap (λ rs. rows_in (take enough rs)) (are_left (strip_bom text)))
        ∙ records_enough (records_of text)))))

-- what was read of them is what all say
pub whole : {A : Type 0} (view : A → List ImportRow) (known : Option Text) (text slice : Text) (result : Result A RowFault) → IfSome known (λ input. IsEnoughOf input text) → slice ≡ text
    → ReadsRows ⊥ view (records_of slice) result → IfSome known (λ input. ReadsRows (Unit {0}) view (records_of input) result)
whole view None text slice result has is reads = tt
whole view (Some input) text slice result has is reads =
    same_records view (records_of input) (records_of slice) result (rows_same input text has ∙ ap (λ t. rows_in (records_of t)) (sym is)) reads

-- memory ran out over what was read
pub ran_out : {A : Type 0} (known left : Option Text) (text slice : Text) (result : Result A RowFault) → Consumes known left text → IfSome known (λ input. IsEnoughOf input text) → slice ≡ text
    → IfErr result (λ e. e.fault ≡ Memory → IsReached e.row (records_of slice)) → IfErr result (λ e. e.fault ≡ Memory → RunsOutAt known left e.row)
ran_out known left text slice (Ok x) consumed has is reached = tt
ran_out known left text slice (Err e) consumed has is reached = λ m. inr (text, consumed, has, subst (λ t. IsReached e.row (records_of t)) is (reached m))
