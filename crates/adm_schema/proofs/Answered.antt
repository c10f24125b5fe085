-- A query of one table is refused for the types of its columns alone, where the steps have no limit.
use Rattle.std.proofs.Common.{◌≡◌, ◌⊎◌, inl, inr, ℕ, List, [], None}
use Rattle.std.specs.Prelude.{IsSome}
use Rattle.sqlite.specs.Term.{Term}
use Rattle.sqlite.specs.Tree.{Trees}
use Rattle.sqlite_sql.specs.Program.{ProgramOverflows}
use Rattle.sqlite_value.specs.declared.keys.Key.{Key}
use Rattle.sqlite.specs.declared.error.ErrorCode.TheVariants.{IntegerOverflow, OperationInterrupted}
use Rattle.sqlite.specs.declared.error.Error.{Error}
use Rattle.sqlite.specs.declared.error.Error.TheVariants.{SqliteFailure}
use Rattle.adm_schema.specs.Queries.{query_of}

pub answered : (Mismatch : Type 0) (db : Trees) (e : Error) (tree : ℕ) (project : List Term) (order : List (Term × Key)) → (Mismatch → ⊥)
    → Mismatch ⊎ (((e ≡ SqliteFailure IntegerOverflow) × ProgramOverflows db [] [] [] (query_of tree [] project order)) ⊎ ((e ≡ SqliteFailure OperationInterrupted) × IsSome {T = ℕ} None)) → ⊥
answered Mismatch db e tree project order none h = elim h [
  | inl type ↦ none type
  | inr (inl sum) ↦ elim sum.1 [ inl group ↦ group | inr fold ↦ fold.4 ]
  | inr (inr steps) ↦ absurd (let wrong = steps.1 in cc)
]
