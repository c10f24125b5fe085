-- What all statements on one table have in common.
use Rattle.std.proofs.Common.{◌≡◌, ◌≢◌, ◌⊎◌, inl, inr, ℕ, ℤ, List, [], length, slice_get, Bool, true, false, Some, None, Ok, Err, Result, sym, ap, subst, ◌∙◌, append-nil}
use Rattle.std.specs.Prelude.{MatchBool, if◌then◌else◌}
use Rattle.sqlite.specs.Order.{Row}
use Rattle.sqlite.specs.Table.{Table}
use Rattle.sqlite.specs.Schema.{Schema}
use Rattle.sqlite.specs.Edit.{Edit, Applies}
use Rattle.sqlite.specs.Rowids.TheVariants.{Chosen}
use Rattle.sqlite_schema.specs.declared.schema.Keys.TheVariants.{Enforced}
use Rattle.sqlite_rules.specs.Action.{works}
use Rattle.sqlite_rules.specs.Lists.{Has}
use Rattle.sqlite_rules.proofs.ListLemmas.{all_has}
use Rattle.sqlite.specs.Does.{Tally, AtPlace, Concludes}
use Rattle.sqlite.specs.declared.run.Mode.{Mode}
use Rattle.sqlite.specs.Rows.{Written, Part, Outcome, Task, stamped, rowids_for}
use Rattle.sqlite.specs.Tree.{Trees}
use Rattle.sqlite.specs.Effect.{Database, IsDatabase}
use Rattle.sqlite.specs.State.{State, Shows}
use Rattle.adm_schema.specs.Effects.{WritesOnly}

-- a part that gave a value did not stop on the way
pub went : {B E R : Type 0} {b : B} {Stops : E → Type 0} → ((stop : E) × Stops stop × (Ok b ≡ Err stop)) ⊎ R → R
went (inl stopped) = absurd (let e = stopped.2 in cc)
went (inr on) = on

pub same_value : {B E : Type 0} {a b : B} → ◌≡◌ {A = Result B E} (Ok a) (Ok b) → a ≡ b
same_value e = cc

pub unless_counted : (counted other : Bool) (P Q : Type 0) → counted ≡ false → MatchBool (if counted then other else false) P Q → Q
unless_counted true other P Q e h = absurd (cc)
unless_counted false other P Q e h = h

pub unless : (b : Bool) (P Q : Type 0) → b ≡ false → MatchBool b P Q → Q
unless true P Q e h = absurd (cc)
unless false P Q e h = h

-- a table without defaults that depend on the time takes the parameters as they are, and one without AUTOINCREMENT chooses its rowids
pub unstamped_row : (table : Table) → table.stamps.terms ≡ [] → (params : Row) → stamped table params ≡ params
unstamped_row table unstamped params = rw (unstamped, append-nil params)

pub uncounted_rowids : (table : Table) → table.is_counted ≡ false → (top : ℤ) → rowids_for table top ≡ Chosen
uncounted_rowids table uncounted top = rw uncounted

module _ (schema : Schema) (table : Table) (at : ℕ) (found : slice_get schema.tables at ≡ Some table) (uncounted : table.is_counted ≡ false) (unstamped : table.stamps.terms ≡ [])
    (alone : (olds news : List Row) → works schema Enforced 0 table.tree olds news ≡ []) where
  pub at_table : {A : Type 0} (P : Table → Part A) (out : Outcome A) → AtPlace P (slice_get schema.tables at) out → P table out
  at_table P out h = rw found at h

  abbrev pub task_in : State → Row → Task
  task_in old params = record { limit = old.step_limit; keys = Enforced; schema = schema; table = table; params = params }

  pub ends : (task : Task) (mode : Mode) (w : Written) (tally : Tally) (after : Database) → Concludes task mode None w (Ok (tally, after)) → after ≡ record { schema = task.schema; trees = w.trees }
  ends task mode w tally after h = ap (λ (p : Tally × Database). p.1) (same_value (went (went h).2).2)

  pub counts : (task : Task) (mode : Mode) (w : Written) (tally : Tally) (after : Database) → Concludes task mode None w (Ok (tally, after)) → tally.rows ≡ Some (length w.rows)
  counts task mode w tally after h = ap (λ (p : Tally × Database). p.0.rows) (same_value (went (went h).2).2)

  -- what a statement on this table leaves of the rest
  pub leaves_others : (old new : State) (edit : Edit) (trees : Trees) → edit.table ≡ table → old.now.schema ≡ schema → new.now ≡ record { schema = schema; trees = trees }
      → Applies schema Enforced old.now.trees edit trees → Shows old new new.now old.committed true → IsDatabase new.now → WritesOnly table old new
  leaves_others old new edit trees of has is applied shown sound = record {
    was_open = shown.was_open;
    is_open = shown.is_open;
    schema = ap (λ (d : Database). d.schema) is ∙ sym has;
    sound = sound;
    others = λ t h differ.
        let kept = all_has (λ (u : Table). u.tree ≢ edit.table.tree → trees u.tree ≡ old.now.trees u.tree) schema.tables t applied.tables (subst (λ (s : Schema). Has s.tables t) has h) in
        ap (λ (d : Database). d.trees t.tree) is ∙ kept (subst (λ (u : Table). t.tree ≢ u.tree) (sym of) differ);
  }
