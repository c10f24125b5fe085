-- What queries of the tables answer, one after another.
use Rattle.std.proofs.Common.{◌≡◌, ◌∙◌, ℕ, ◌<◌, ◌^◌, false, List, [], ◌∷◌, map, sym, ap, subst, arith, nat_le}
use Rattle.std.proofs.lemmas.Bool.Decides.{nat_tests}
use Rattle.std.specs.List.Sorted.{IsPermutation}
use Rattle.std.proofs.lemmas.List.Sorted.{IsPermutation-sym, IsPermutation-trans}
use Rattle.sqlite.specs.Term.{eval_all}
use Rattle.sqlite.specs.Order.{Row}
use Rattle.sqlite.specs.Table.{Table}
use Rattle.sqlite.specs.Tree.{Trees}
use Rattle.sqlite.specs.Effect.{Database}
use Rattle.sqlite.specs.State.{State, HasCleanDisk}
use Rattle.adm_schema.specs.Rows.{rows_of}
use Rattle.adm_schema.specs.declared.version.Version.{Version}
use Rattle.adm_schema.specs.Schema.{schema_of}
use Rattle.adm_rows.specs.Reads.{AsksAll, SeesTheSameIn, Holds}
use Rattle.adm_rows.specs.Represents.{HasRows}

-- the trees of the register's tables are few
pub few_trees : (tree : ℕ) → tree < 16 → nat_le (2 ^ 31) tree ≡ false
few_trees tree low = grind (arith, nat_tests)

-- the rows of a table, as its query shows them
pub table_shown : (v : Version) (table : Table) (text : List ℕ) (query : AsksAll v table text) (db : Trees) (rows : List Row)
    → IsPermutation (map (λ row. eval_all query.project ([] ∷ row ∷ [])) (db table.tree)) rows → HasRows table rows db
table_shown v table text query db rows shown = IsPermutation-sym _ _ (subst (λ xs. IsPermutation xs rows) (λ k. map (λ row. query.columns row k) (db table.tree)) shown)

module _ {X : Type 0} (table : Table) (row_of : X → Row) (db : Trees) (rows slice : List Row) (shown : HasRows table rows db) (value : slice ≡ rows) where
  pub held : (read all : List X) → all ≡ read → map row_of read ≡ slice → Holds table row_of all db
  held read all same is = subst (λ xs. IsPermutation xs (rows_of table db)) (sym (ap (map row_of) same ∙ is ∙ value)) shown

  pub held_as : (all : List X) → Holds table row_of all db → IsPermutation (map row_of all) slice
  held_as all holds = subst (IsPermutation (map row_of all)) (sym value) (IsPermutation-trans _ _ _ holds (IsPermutation-sym _ _ shown))

-- what a reader sees after another it saw before, and the other way round
module _ (v : Version) (old new : State) (same : SeesTheSameIn v old new) (clean : HasCleanDisk new) (has : old.now.schema ≡ schema_of v) where
  pub still : new.now.schema ≡ schema_of v
  still = ap (λ (d : Database). d.schema) (same clean has) ∙ has

  pub seen_before : (P : Trees → Type 0) → P new.now.trees → P old.now.trees
  seen_before P = subst (λ (d : Database). P d.trees) (same clean has)

  pub seen_after : (P : Trees → Type 0) → P old.now.trees → P new.now.trees
  seen_after P = subst (λ (d : Database). P d.trees) (sym (same clean has))
