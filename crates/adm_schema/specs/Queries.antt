-- A query of one table, and no more.
use Rattle.std.specs.Prelude.{◌≡◌, ◌≤◌, ℕ, List, [], length, pos, negsuc, false, None, Result, Ok, Err}
use Rattle.sqlite.specs.Schema.{Schema}
use Rattle.sqlite.specs.Command.TheVariants.{Select}
use Rattle.sqlite.specs.Listing.{understood, reads_listing}
use Rattle.sqlite.proofs.Callers.{IsPlain, command_of}
use Rattle.sqlite.specs.declared.types.Value.TheVariants.{Int}
use Rattle.sqlite.specs.Term.{Term, lit}
use Rattle.sqlite.specs.Query.{Query, inner, end}
use Rattle.sqlite_value.specs.declared.keys.Key.{Key}
use Rattle.sqlite_resolve.specs.declared.compiled.Compiled.{Compiled}
use Rattle.sqlite_resolve.specs.declared.error.CompileError.{CompileError}
use Rattle.sqlite.specs.declared.error.Error.{Error}
use Rattle.sqlite.specs.Effect.{RefusesQuery}
use Rattle.sqlite.specs.Tree.{Trees}
use Rattle.sqlite_schema.specs.declared.program.Program.{Program}

-- these columns of each row that passes the tests
abbrev pub query_of : ℕ → List Term → List Term → List (Term × Key) → Query
query_of tree filter project order = record {
  from = inner tree end;
  filter = filter;
  group = None;
  project = project;
  distinct = false;
  collations = [];
  order = order;
  limit = lit (Int (negsuc 0));
  offset = lit (Int (pos 0));
}

abbrev pub program_of : Query → Program
program_of q = record { lets = []; body = q }

-- the text is one statement without parameters
abbrev pub IsWhole : List ℕ → Result Compiled CompileError → Type 0
IsWhole sql (Ok c) = (length sql ≤ c.tail) × (c.names ≡ [])
IsWhole sql (Err why) = ⊥

-- under the schema the text queries these columns of each row of one table, which is never refused
pub record Asks (schema : Schema) (sql : List ℕ) (tree : ℕ) (project : List Term) (order : List (Term × Key)) : Type 0 where
  pub names : List (List ℕ)
  pub command : command_of (understood schema sql) ≡ Select (program_of (query_of tree [] project order)) names
  pub unlisted : reads_listing schema sql ≡ false
  pub plain : IsPlain (understood schema sql)
  pub whole : IsWhole sql (understood schema sql)
  pub answered : (db : Trees) (e : Error) → RefusesQuery None (record { schema = schema; trees = db }) (program_of (query_of tree [] project order)) [] e → ⊥
