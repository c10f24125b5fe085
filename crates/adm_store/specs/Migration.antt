-- What makes a file of the first version one of the second.
use Rattle.std.specs.Prelude.{◌≡◌, IsTrue}
use Rattle.adm_register.specs.State.{State as Register}
use Rattle.sqlite.specs.Effect.{IsDatabase}
use Rattle.sqlite.specs.State.{State}
use Rattle.sqlite.specs.Tree.{Trees}
use Rattle.adm_schema.specs.declared.version.Version.TheVariants.{First, Second}
use Rattle.adm_schema.specs.Effects.{AddsTable, MarksSecond}
use Rattle.adm_schema.specs.Schema.{schema_of, register_schema}
use Rattle.adm_rows.specs.Represents.{RepresentsIn, LeavesAll}

-- where the tables were those of the first version, the table of the present schools is there too, without rows
abbrev pub MakesPresent : State → State → Type 0
MakesPresent old new = (IsTrue old.is_open → old.now.schema ≡ schema_of First) → AddsTable (schema_of First) register_schema old new

-- where the tables were those of the second version, the row of `meta` names it
abbrev pub MakesSecond : State → State → Type 0
MakesSecond old new = (IsTrue old.is_open → (old.now.schema ≡ register_schema) × IsDatabase old.now) → MarksSecond old new

-- the file is open, and represents in the second version each register that all that a crash could leave before represented in the first
abbrev pub Migrates : State → State → Type 0
Migrates old new = IsTrue new.is_open × ((r : Register) → LeavesAll First r old → RepresentsIn Second new.committed.trees r)

-- the trees represent in the second version a register that all that a crash could leave before represented in the first
pub record IsMigrated (old : State) (db : Trees) : Type 0 where
  pub register : Register
  pub was : (it : Trees) → old.may_leave it → RepresentsIn First it register
  pub is : RepresentsIn Second db register
