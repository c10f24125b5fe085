-- The two files of a register.
use Rattle.sqlite_wal.specs.Recovery.{Image}
use Rattle.sqlite.specs.Files.{HoldsDatabase}
use Rattle.sqlite.specs.Tree.{Trees}
use Rattle.adm_register.specs.State.{State as Register}
use Rattle.adm_rows.specs.Represents.{Represents}

-- the two files hold a database that represents the register
abbrev pub IsFileOf : Register → Image → Type 0
IsFileOf r image = ∥ ((db : Trees) × HoldsDatabase image db × Represents db r) ∥₁
