-- Which error of an open is reported.
use Rattle.std.proofs.Common.{◌≡◌, ◌∙◌, ℕ, List, [], ◌∷◌, Ok, Option, Result, ◌⊎◌, inl, inr, refl, sym, ap, subst, arith}
use Rattle.std.specs.List.Sorted.{IsPermutation}
use Rattle.std.proofs.lemmas.List.Sorted.{IsPermutation-sym, length_permutation}
use Rattle.sqlite.specs.Order.{Row}
use Rattle.sqlite.specs.Clock.{timed}
use Rattle.sqlite.specs.Effect.{Database, RefusesToRead}
use Rattle.sqlite.specs.State.{State, Shown, ShowsRows, FailsToQuery, FailsToShow, IsNotRun, IsTooLate}
use Rattle.sqlite.specs.Command.{Command}
use Rattle.sqlite.specs.Command.TheVariants.{Select, Rows}
use Rattle.sqlite.specs.declared.error.Error.{Error}
use Rattle.sqlite.specs.declared.error.Error.TheVariants.{SqlInputError}
use Rattle.sqlite.proofs.Callers.{one_permutation}
use Rattle.sqlite_resolve.specs.declared.compiled.Compiled.{Compiled}
use Rattle.sqlite_resolve.specs.declared.error.CompileError.{CompileError}
use Rattle.adm_schema.specs.Rows.{rows_of}
use Rattle.adm_schema.specs.declared.version.Version.{Version}
use Rattle.adm_schema.specs.Schema.{meta, schema_of}
use Rattle.adm_schema.specs.Texts.{select_meta}
use Rattle.adm_schema.proofs.Queries.{no_store_error}
use Rattle.adm_rows.specs.declared.fault.OpenFault.{OpenFault}
use Rattle.adm_rows.specs.declared.fault.OpenFault.TheVariants.{NotOurs}
use Rattle.adm_rows.specs.FirstFault.{first_open_fault, AnswersRows, IsAnswered, IsNotAsked, IsFirstFault}

-- ---- what a query finds, under any schema

-- the rows that are shown are those that the text answers
pub answered : (sql : List ℕ) (old new : State) (rows : List Row) → Shown sql [] old new rows → IsAnswered old.now sql rows
unfolding Shown
answered sql old new rows h = (
  h.0,
  h.1.is,
  λ plain. let it = subst (ShowsRows old new sql h.0 (timed [] h.0.formats h.1.now) rows) plain h.2 in (it.0, timed [] h.0.formats h.1.now, it.1, it.2),
)

-- a query that runs is not refused for its text
no_text_error : (limit : Option ℕ) (command : Command) (db : Database) (params : Row) (e : Error) (why : CompileError) → e ≡ SqlInputError why → RefusesToRead limit command db params e → ⊥
no_text_error limit (Select q names) db params e why text (inl type) = absurd (let wrong = sym type.0 ∙ text in cc)
no_text_error limit (Select q names) db params e why text (inr (inl sum)) = absurd (let wrong = sym sum.0 ∙ text in cc)
no_text_error limit (Select q names) db params e why text (inr (inr steps)) = absurd (let wrong = sym steps.0 ∙ text in cc)
no_text_error limit (Rows values width names) db params e why text h = absurd (let wrong = sym h.0 ∙ text in cc)
no_text_error limit _ db params e why text h = absurd (let wrong = sym h ∙ text in cc)

abbrev Understood : Type 0
Understood = Result Compiled CompileError

ok_is : (a b : Compiled) (r : Understood) → r ≡ Ok a → r ≡ Ok b → a ≡ b
ok_is a b r first second = let e = sym first ∙ second in cc

-- a text that is refused is no query that is understood
pub not_asked : (sql : List ℕ) (old new : State) (e : Error) (why : CompileError) → e ≡ SqlInputError why → FailsToQuery sql [] old new e ⊎ IsTooLate sql [] old new e → IsNotAsked old.now sql
unfolding FailsToQuery IsNotRun
not_asked sql old new e why text (inl (inl (inl h))) c is plain = elim h.0 [
  | inl none ↦ absurd (let wrong = sym none.1 ∙ is in cc)
  | inr some ↦ elim some.2 [
    | inl many ↦ absurd (let wrong = sym many.1 ∙ text in cc)
    | inr (inl count) ↦ absurd (let wrong = sym count.1 ∙ text in cc)
    | inr (inr clock) ↦ absurd (let wrong = sym clock.1 ∙ text in cc)
  ]
]
not_asked sql old new e why text (inl (inl (inr h))) c is plain = no_store_error h.0 why (sym h.1 ∙ text)
not_asked sql old new e why text (inl (inr h)) c is plain =
    let same : h.0 ≡ c = ok_is h.0 c _ h.1.is is in
    let it = subst (FailsToShow old new sql h.0 (timed [] h.0.formats h.1.now) e) (ap (λ (k : Compiled). k.returning) same ∙ plain) h.2 in
    no_text_error old.step_limit h.0.command it.0 (timed [] h.0.formats h.1.now) e why text it.2
not_asked sql old new e why text (inr h) c is plain = absurd (let wrong = sym h.4 ∙ text in cc)

-- ---- the first error

-- it does not depend on the order of the rows
first_permuted : (xs ys : List Row) → IsPermutation xs ys → first_open_fault xs ≡ first_open_fault ys
first_permuted [] [] moved = refl
first_permuted [] (y ∷ ys) moved = absurd (omega (arith, length_permutation _ _ moved))
first_permuted (x ∷ []) ys moved = ap first_open_fault (sym (one_permutation x ys moved))
first_permuted (x ∷ next ∷ xs) [] moved = absurd (omega (arith, length_permutation _ _ moved))
first_permuted (x ∷ next ∷ xs) (y ∷ []) moved = absurd (omega (arith, length_permutation _ _ moved))
first_permuted (x ∷ next ∷ xs) (y ∷ other ∷ ys) moved = refl

pub first_by_rows : (db : Database) (rows : List Row) (fault : OpenFault) → IsAnswered db select_meta rows
    → ((v : Version) → db.schema ≡ schema_of v → IsPermutation (rows_of meta db.trees) rows) → fault ≡ first_open_fault rows → IsFirstFault db fault
first_by_rows db rows fault asked own is = record {
  no_table = λ why refused. absurd (let wrong = sym asked.1 ∙ refused in cc);
  by_rows = λ c understood plain. let same : asked.0 ≡ c = ok_is asked.0 c _ asked.1 understood in
      (rows, subst (λ k. AnswersRows db select_meta k rows) same (asked.2 (ap (λ (k : Compiled). k.returning) same ∙ plain)), is);
  own_rows = λ v has. is ∙ first_permuted rows (rows_of meta db.trees) (IsPermutation-sym _ _ (own v has));
}

pub first_refused : (db : Database) (fault : OpenFault) → IsNotAsked db select_meta → ((v : Version) → db.schema ≡ schema_of v → ⊥) → fault ≡ NotOurs → IsFirstFault db fault
first_refused db fault none foreign is = record {
  no_table = λ why refused. is;
  by_rows = λ c understood plain. absurd (none c understood plain);
  own_rows = λ v has. absurd (foreign v has);
}
