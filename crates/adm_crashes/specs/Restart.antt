-- What a start after a crash finds and leaves, for private clauses.
use Rattle.std.specs.Prelude.{◌≡◌}
use Rattle.sqlite_trees.specs.declared.store.Store.{Ghosts}
use Rattle.sqlite_trees.specs.View.{IsClean}
use Rattle.sqlite.specs.Held.{Held, state}
use Rattle.sqlite.specs.Tree.{Trees}
use Rattle.adm_register.specs.State.{State as Register}
use Rattle.adm_rows.specs.Represents.{Represents, RepresentsNone}

-- the register is the one that one of these databases represents
abbrev pub FindsOne : (Trees → Type 0) → Register → Type 0
FindsOne left found = (db : Trees) × left db × ((r : Register) → Represents db r → found ≡ r)

-- one of these databases represents no register
abbrev pub FindsNone : (Trees → Type 0) → Type 0
FindsNone left = (db : Trees) × left db × RepresentsNone db

-- each database that is left now represents the registers of one that was left before
abbrev pub LeavesSame : (Trees → Type 0) → (Trees → Type 0) → Type 0
LeavesSame before after = (db : Trees) → after db → (was : Trees) × before was × ((r : Register) → Represents was r → Represents db r)

module _ {S : Type 0} (g : Ghosts S) where
  -- a wrong answer of the disk is not forgotten, and a crash leaves what it could leave before
  pub record LeavesNoMore (before after : S) : Type 0 where
    pub clean : IsClean (g.view after) → IsClean (g.view before)
    pub outcomes : (db : Trees) → g.recovers after db → g.recovers before db

  -- the start found one of the databases that the crash could leave, and a crash now leaves this one
  pub record StartsFrom (before : S) (conn : Held S) : Type 0 where
    pub clean : IsClean (g.view before)
    pub found : g.recovers before (state g conn).committed.trees
    pub only : (db : Trees) → g.recovers conn.store db → db ≡ (state g conn).committed.trees
