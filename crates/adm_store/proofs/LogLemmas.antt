-- What a list of writes leaves of each table: of one statement, and of one write more.
use Rattle.std.proofs.Common.{◌≡◌, ◌==◌, ℕ, ℤ, Bool, true, false, List, [], ◌∷◌, ◌++◌, map, refl, sym, ap, ◌∙◌, subst, IsTrue, arith, pos, ◌≤◌}
use Rattle.std.specs.Prelude.{◌&&◌, is_some, if◌then◌else◌}
use Rattle.std.specs.List.Sorted.{IsPermutation}
use Rattle.std.proofs.lemmas.Bool.{and_parts, eqb-true, eqb-false}
use Rattle.std.proofs.lemmas.List.{nil_from_length}
use Rattle.std.proofs.lemmas.List.Sorted.{IsPermutation-refl, IsPermutation-trans, IsPermutation-append_comm}
use Rattle.sqlite.specs.Order.{Row}
use Rattle.sqlite.specs.Schema.{Schema}
use Rattle.sqlite.specs.Table.{Table}
use Rattle.sqlite.specs.Tree.{rowid}
use Rattle.sqlite.specs.View.{is_int}
use Rattle.sqlite.specs.Edit.{have_rowids}
use Rattle.sqlite.specs.State.{State, HasCleanDisk, Survives}
use Rattle.sqlite_trees.specs.View.{doubt}
use Rattle.sqlite_rules.specs.Lists.{Has}
use Rattle.adm_schema.specs.Rows.{columns_of, rows_of}
use Rattle.adm_schema.specs.Effects.{Sees, SeesDatabase, WritesOnly, AddsRow, AddsRows, PutsRow, DeletesRow, DropsRow, SetsDraws, Turns, put_each, with_draws}
use Rattle.adm_schema.specs.Schema.{meta, register_schema}
use Rattle.adm_schema.proofs.Listed.{has_meta}
use Rattle.sqlite.specs.declared.types.Value.TheVariants.{Int}
use Rattle.adm_schema.proofs.Inside.{survives_on}
use Rattle.adm_store.proofs.MapLemmas.{keyed_moved}
use Rattle.adm_store.specs.Writes.{Adds, Puts, Cuts, Drops, Sets, Write, changed, after_writes, count_of, are_keyed, Leaves, Writes, key_row}
use Rattle.adm_store.proofs.LeftByWrites.{same_table, count_more, writes_then}
use Rattle.adm_store.proofs.LoopWrites.{changed_none}

-- ---- one statement

one_write : (w : Write) (old new : State) → Has register_schema.tables w.table → old.now.schema ≡ register_schema → WritesOnly w.table old new
    → (IsTrue (are_keyed w.table (rows_of w.table old.now.trees))
    → IsPermutation (changed w.kind w.rows (rows_of w.table old.now.trees)) (rows_of w.table new.now.trees) × IsTrue (are_keyed w.table (rows_of w.table new.now.trees)))
    → Leaves (w ∷ []) old new
one_write w old new here has only own = record {
  was_open = only.was_open;
  is_open = only.is_open;
  schema = only.schema;
  sound = only.sound;
  rows = λ t listed keyed. (each t listed keyed (t.tree == w.table.tree) refl).0;
  keyed = λ t listed keyed. (each t listed keyed (t.tree == w.table.tree) refl).1;
}
  where
    each : (t : Table) → Has register_schema.tables t → IsTrue (are_keyed t (rows_of t old.now.trees)) → (b : Bool) → (t.tree == w.table.tree) ≡ b
        → IsPermutation (if t.tree == w.table.tree then changed w.kind w.rows (rows_of t old.now.trees) else rows_of t old.now.trees) (rows_of t new.now.trees)
        × IsTrue (are_keyed t (rows_of t new.now.trees))
    each t listed keyed true is =
        let own_t = subst (λ (u : Table). IsTrue (are_keyed u (rows_of u old.now.trees))
        → IsPermutation (changed w.kind w.rows (rows_of u old.now.trees)) (rows_of u new.now.trees) × IsTrue (are_keyed u (rows_of u new.now.trees)))
        (same_table w.table t here listed (sym (eqb-true t.tree w.table.tree is))) own keyed in
        subst (λ b. IsPermutation (if b then changed w.kind w.rows (rows_of t old.now.trees) else rows_of t old.now.trees) (rows_of t new.now.trees)
        × IsTrue (are_keyed t (rows_of t new.now.trees))) (sym is) own_t
    each t listed keyed false is =
        let same : rows_of t old.now.trees ≡ rows_of t new.now.trees = ap (map (columns_of t))
        (sym (only.others t (subst (λ (s : Schema). Has s.tables t) (sym has) listed) (eqb-false t.tree w.table.tree is))) in
        subst (λ b. IsPermutation (if b then changed w.kind w.rows (rows_of t old.now.trees) else rows_of t old.now.trees) (rows_of t new.now.trees)
        × IsTrue (are_keyed t (rows_of t new.now.trees))) (sym is)
        (subst (IsPermutation (rows_of t old.now.trees)) same (IsPermutation-refl _), subst (λ rows. IsTrue (are_keyed t rows)) same keyed)

keyed_both : (xs ys : List Row) → have_rowids xs ≡ true → have_rowids ys ≡ true → have_rowids (xs ++ ys) ≡ true
keyed_both [] ys one two = two
keyed_both (x ∷ xs) ys one two = let parts = and_parts (is_int (rowid x)) (have_rowids xs) one in λ k. parts.0 k && keyed_both xs ys parts.1 two k

-- what writes of one table leave
pub own_writes : (table : Table) (writes : List Write) (old new : State) → Has register_schema.tables table → old.now.schema ≡ register_schema → WritesOnly table old new
    → ((t : Table) (rows : List Row) → (t.tree == table.tree) ≡ false → after_writes t writes rows ≡ rows)
    → (IsTrue (are_keyed table (rows_of table old.now.trees))
    → IsPermutation (after_writes table writes (rows_of table old.now.trees)) (rows_of table new.now.trees) × IsTrue (are_keyed table (rows_of table new.now.trees))) → Leaves writes old new
own_writes table writes old new here has only apart own = record {
  was_open = only.was_open;
  is_open = only.is_open;
  schema = only.schema;
  sound = only.sound;
  rows = λ t listed keyed. (each t listed keyed (t.tree == table.tree) refl).0;
  keyed = λ t listed keyed. (each t listed keyed (t.tree == table.tree) refl).1;
}
  where
    each : (t : Table) → Has register_schema.tables t → IsTrue (are_keyed t (rows_of t old.now.trees)) → (b : Bool) → (t.tree == table.tree) ≡ b
        → IsPermutation (after_writes t writes (rows_of t old.now.trees)) (rows_of t new.now.trees) × IsTrue (are_keyed t (rows_of t new.now.trees))
    each t listed keyed true is = subst (λ (u : Table). IsTrue (are_keyed u (rows_of u old.now.trees))
        → IsPermutation (after_writes u writes (rows_of u old.now.trees)) (rows_of u new.now.trees) × IsTrue (are_keyed u (rows_of u new.now.trees)))
        (same_table table t here listed (sym (eqb-true t.tree table.tree is))) own keyed
    each t listed keyed false is =
        let same : rows_of t old.now.trees ≡ rows_of t new.now.trees = ap (map (columns_of t))
        (sym (only.others t (subst (λ (s : Schema). Has s.tables t) (sym has) listed) (eqb-false t.tree table.tree is))) in (
          subst (λ rows. IsPermutation rows (rows_of t new.now.trees)) (sym (apart t (rows_of t old.now.trees) is)) (subst (IsPermutation (rows_of t old.now.trees)) same (IsPermutation-refl _)),
          subst (λ rows. IsTrue (are_keyed t rows)) same keyed,
        )

module _ (table : Table) (listed : Has register_schema.tables table) (old new : State) (monotone : doubt old.is_clean ≤ doubt new.is_clean) where
  -- rows that are written, each at its key
  pub put_many : is_some table.key ≡ true → (news : List Row) → (HasCleanDisk new → Sees register_schema old → Turns table (λ rows. put_each rows news) old new)
      → Writes (record { kind = Puts; table = table; rows = news } ∷ []) old new
  put_many has_key news puts clean sees sound =
      let p = puts clean sees in
      let early : HasCleanDisk old = omega (arith, monotone, clean) in (
        λ _. p.only.is_open,
        λ _. one_write _ old new listed (sees early p.only.was_open) p.only (λ keyed.
            let own : IsTrue (have_rowids (rows_of table old.now.trees)) = subst (λ b. IsTrue (if b then have_rowids (rows_of table old.now.trees) else true)) has_key keyed in
            (p.rows own, subst (λ b. IsTrue (if b then have_rowids (rows_of table new.now.trees) else true)) (sym has_key) (p.keyed own))),
      )

  -- a row that is written
  pub put_one : is_some table.key ≡ true → (row : Row) → (HasCleanDisk new → Sees register_schema old → PutsRow table row old new)
      → Writes (record { kind = Puts; table = table; rows = row ∷ [] } ∷ []) old new
  put_one has_key row puts = put_many has_key (row ∷ []) puts

  -- a key that is deleted
  pub cut_one : is_some table.key ≡ true → (key : ℕ) → (HasCleanDisk new → Sees register_schema old → DeletesRow table (pos key) old new)
      → Writes (record { kind = Cuts; table = table; rows = key_row key ∷ [] } ∷ []) old new
  cut_one has_key key cuts clean sees sound =
      let p = cuts clean sees in
      let early : HasCleanDisk old = omega (arith, monotone, clean) in (
        λ _. p.only.is_open,
        λ _. one_write _ old new listed (sees early p.only.was_open) p.only (λ keyed.
            let own : IsTrue (have_rowids (rows_of table old.now.trees)) = subst (λ b. IsTrue (if b then have_rowids (rows_of table old.now.trees) else true)) has_key keyed in
            (p.rows own, subst (λ b. IsTrue (if b then have_rowids (rows_of table new.now.trees) else true)) (sym has_key) (p.keyed own))),
      )

  -- a row that is deleted from a table without such a key, by its first values
  pub drop_one : is_some table.key ≡ false → (key : Row) → (HasCleanDisk new → Sees register_schema old → SeesDatabase old → DropsRow table key old new)
      → Writes (record { kind = Drops; table = table; rows = key ∷ [] } ∷ []) old new
  drop_one no_key key drops clean sees sound =
      let p = drops clean sees sound in
      let early : HasCleanDisk old = omega (arith, monotone, clean) in (
        λ _. p.only.is_open,
        λ _. one_write _ old new listed (sees early p.only.was_open) p.only (λ _.
            (p.rows, subst (λ b. IsTrue (if b then have_rowids (rows_of table new.now.trees) else true)) (sym no_key) refl)),
      )

  -- a row that is added to a table without such a key
  pub add_one : is_some table.key ≡ false → (row : Row) → (HasCleanDisk new → Sees register_schema old → AddsRow table row old new)
      → Writes (record { kind = Adds; table = table; rows = row ∷ [] } ∷ []) old new
  add_one no_key row adds clean sees sound =
      let p = adds clean sees in
      let early : HasCleanDisk old = omega (arith, monotone, clean) in (
        λ _. p.only.is_open,
        λ _. one_write _ old new listed (sees early p.only.was_open) p.only (λ _. (
          IsPermutation-trans _ _ _ (IsPermutation-append_comm (rows_of table old.now.trees) (row ∷ [])) p.adds,
          subst (λ b. IsTrue (if b then have_rowids (rows_of table new.now.trees) else true)) (sym no_key) refl,
        )),
      )

  -- rows that are added to a table without such a key
  pub add_many : is_some table.key ≡ false → (news : List Row) → (HasCleanDisk new → Sees register_schema old → AddsRows table news old new)
      → Writes (record { kind = Adds; table = table; rows = news } ∷ []) old new
  add_many no_key news adds clean sees sound =
      let p = adds clean sees in
      let early : HasCleanDisk old = omega (arith, monotone, clean) in (
        λ _. p.only.is_open,
        λ _. one_write _ old new listed (sees early p.only.was_open) p.only (λ _. (
          IsPermutation-trans _ _ _ (IsPermutation-append_comm (rows_of table old.now.trees) news) p.adds,
          subst (λ b. IsTrue (if b then have_rowids (rows_of table new.now.trees) else true)) (sym no_key) refl,
        )),
      )

  -- a row that is added to a table with such a key
  pub add_keyed : is_some table.key ≡ true → (row : Row) → is_int (rowid row) ≡ true → (HasCleanDisk new → Sees register_schema old → AddsRow table row old new)
      → Writes (record { kind = Adds; table = table; rows = row ∷ [] } ∷ []) old new
  add_keyed has_key row int adds clean sees sound =
      let p = adds clean sees in
      let early : HasCleanDisk old = omega (arith, monotone, clean) in (
        λ _. p.only.is_open,
        λ _. one_write _ old new listed (sees early p.only.was_open) p.only (λ keyed.
            let own : have_rowids (rows_of table old.now.trees) ≡ true = subst (λ b. IsTrue (if b then have_rowids (rows_of table old.now.trees) else true)) has_key keyed in
            let both : have_rowids (row ∷ rows_of table old.now.trees) ≡ true = λ k. int k && own k in (
              IsPermutation-trans _ _ _ (IsPermutation-append_comm (rows_of table old.now.trees) (row ∷ [])) p.adds,
              subst (λ b. IsTrue (if b then have_rowids (rows_of table new.now.trees) else true)) (sym has_key) (keyed_moved _ _ p.adds both),
            )),
      )

  -- rows that are added to a table with such a key
  pub add_many_keyed : is_some table.key ≡ true → (news : List Row) → have_rowids news ≡ true → (HasCleanDisk new → Sees register_schema old → AddsRows table news old new)
      → Writes (record { kind = Adds; table = table; rows = news } ∷ []) old new
  add_many_keyed has_key news ints adds clean sees sound =
      let p = adds clean sees in
      let early : HasCleanDisk old = omega (arith, monotone, clean) in (
        λ _. p.only.is_open,
        λ _. one_write _ old new listed (sees early p.only.was_open) p.only (λ keyed.
            let own : have_rowids (rows_of table old.now.trees) ≡ true = subst (λ b. IsTrue (if b then have_rowids (rows_of table old.now.trees) else true)) has_key keyed in (
              IsPermutation-trans _ _ _ (IsPermutation-append_comm (rows_of table old.now.trees) news) p.adds,
              subst (λ b. IsTrue (if b then have_rowids (rows_of table new.now.trees) else true)) (sym has_key) (keyed_moved _ _ p.adds (keyed_both news _ ints own)),
            )),
      )

-- a count keeps each row's key
keyed_counts : (count : Row) (rows : List Row) → have_rowids rows ≡ true → have_rowids (map (with_draws count) rows) ≡ true
keyed_counts count [] keyed = refl
keyed_counts count ([] ∷ rows) keyed = absurd (let none = (and_parts false (have_rowids rows) keyed).0 in cc)
keyed_counts count ((key ∷ row) ∷ rows) keyed = let parts = and_parts (is_int key) (have_rowids rows) keyed in λ k. parts.0 k && keyed_counts count rows parts.1 k

-- the count of draws in the row of `meta`
pub set_one : (old new : State) → doubt old.is_clean ≤ doubt new.is_clean → (count : ℤ) → (HasCleanDisk new → Sees register_schema old → SeesDatabase old → SetsDraws (Int count ∷ []) old new)
    → Writes (record { kind = Sets; table = meta; rows = (Int count ∷ []) ∷ [] } ∷ []) old new
set_one old new monotone count sets clean sees sound =
    let p = sets clean sees sound in
    let early : HasCleanDisk old = omega (arith, monotone, clean) in (
      λ _. p.only.is_open,
      λ _. one_write _ old new has_meta (sees early p.only.was_open) p.only (λ keyed. let rows = p.rows keyed in
          (rows, keyed_moved _ _ rows (keyed_counts (Int count ∷ []) (rows_of meta old.now.trees) keyed))),
    )

-- ---- the writers of a commit

pub record Ran (writes : List Write) (old new : State) : Type 0 where
  pub survives : Survives old new (λ _. ⊥)
  pub leaves : Writes writes old new

pub ran_then : {p q : List Write} {a b c : State} → Ran p a b → Ran q b c → Ran (p ++ q) a c
ran_then {p} {q} {a} {b} {c} x y = record { survives = survives_on a b c x.survives y.survives; leaves = writes_then p q a b c x.survives y.survives x.leaves y.leaves }

pub keyed_none : (t : Table) → IsTrue (are_keyed t [])
keyed_none t = go (is_some t.key)
  where
    go : (b : Bool) → IsTrue (if b then have_rowids [] else true)
    go true = refl
    go false = refl

-- where no row is written, nothing changes
pub after_none : (t : Table) (writes : List Write) (rows : List Row) → count_of writes ≡ 0 → after_writes t writes rows ≡ rows
after_none t [] rows none = refl
after_none t (w ∷ writes) rows none =
    let parts = count_more (w ∷ []) writes in
    let own : w.rows ≡ [] = nil_from_length w.rows (omega (arith, parts, none)) in
    let rest : count_of writes ≡ 0 = omega (arith, parts, none) in
    ap (λ xs. after_writes t writes xs) (go own (t.tree == w.table.tree)) ∙ after_none t writes rows rest
  where
    go : w.rows ≡ [] → (b : Bool) → (if b then changed w.kind w.rows rows else rows) ≡ rows
    go own true = ap (λ news. changed w.kind news rows) own ∙ sym (changed_none w.kind rows)
    go own false = refl
