-- The state of a desk, and what a command may be answered.
use Rattle.std.specs.Prelude.{◌≡◌, Bool, true, false, Ok, Err, refl}
use Rattle.std.specs.Coded.{Coded, code_by, coded×, coded_bool}
use Rattle.sqlite.specs.State.{State as Disk, HasCleanDisk}
use Rattle.adm_types.specs.declared.commands.Command.{Command}
use Rattle.adm_types.specs.declared.commands.Reply.{Reply}
use Rattle.adm_register.specs.State.{State as Register}
use Rattle.adm_register.specs.CodedState.{coded_state}
use Rattle.adm_commands.specs.Steps.{Step, Accepts}
use Rattle.adm_rows.specs.Represents.{LeavesOnly, LeavesEither}
use Rattle.adm_desk.specs.declared.answer.Answer.{Answer}
use Rattle.adm_desk.specs.declared.answer.Answer.TheVariants.{Done, Refused, Memory, Failed}

-- the register of the acknowledged commands, whether a commit has failed, and the connection
pub record DeskState (C : Type 0) : Type 0 where
  pub register : Register
  pub failed : Bool
  pub conn : C

-- the state of a desk is stored as the tuple of its fields
abbrev pub coded_desk_state : {C : Type 0} → Coded C → Coded (DeskState C)
coded_desk_state {C} conn =
    code_by (Register × (Bool × C)) (coded× coded_state (coded× coded_bool conn))
    (λ s. (s.register, (s.failed, s.conn)))
    (λ p. record { register = p.0; failed = p.1.0; conn = p.1.1 })
    (λ _. refl)

-- The command in flight: accepted, it would leave the register `next`, and each thing that a crash may leave
-- represents the register before it or that one.
pub record InFlight (register : Register) (command : Command) (left : Disk) : Type 0 where
  pub next : Register
  pub accepted : Accepts register command next
  pub leaves : LeavesEither register next left

-- A wrong answer of the disk is not forgotten: where it is clean now, it was so before.
abbrev pub WasClean : Disk → Disk → Type 0
WasClean old new = HasCleanDisk new → HasCleanDisk old

-- A command is answered, where `disk` is what a connection's file may be. No wrong answer of the disk is forgotten.
-- Done: an accepted step, and all that a crash may leave represents the register after it.
-- Refused: by the first test that fails, with the row of an import and 0 for a command without rows, and nothing changes.
-- Memory: nothing changes.
-- Failed: the register stays that of the acknowledged commands; from then on each answer is Failed, and the connection stays.
abbrev pub Handles : {C : Type 0} → (C → Disk) → DeskState C → Command → Answer → DeskState C → Type 0
Handles disk old command (Done reply) new = (old.failed ≡ false) × Step old.register command (Ok reply) new.register × (new.failed ≡ false) × LeavesOnly new.register (disk new.conn)
    × WasClean (disk old.conn) (disk new.conn)
Handles disk old command (Refused refusal row) new = (old.failed ≡ false) × Step old.register command (Err (record { refusal = refusal; row = row })) old.register × (new ≡ old)
Handles disk old command Memory new = (old.failed ≡ false) × (new ≡ old)
Handles disk old command Failed new = (new.failed ≡ true) × (new.register ≡ old.register) × (old.failed ≡ true → new ≡ old) × (old.failed ≡ false → InFlight old.register command (disk new.conn))
    × WasClean (disk old.conn) (disk new.conn)

-- ---- for private clauses

-- the new register was written, or memory ran out before, or the commit failed
abbrev pub Keeps : {C : Type 0} → (C → Disk) → DeskState C → Register → Reply → Answer → DeskState C → Type 0
Keeps disk old next reply (Done r) new = (r ≡ reply) × (new.register ≡ next) × (new.failed ≡ false) × LeavesOnly next (disk new.conn)
Keeps disk old next reply (Refused refusal row) new = ⊥
Keeps disk old next reply Memory new = new ≡ old
Keeps disk old next reply Failed new = (new.failed ≡ true) × (new.register ≡ old.register) × LeavesEither old.register next (disk new.conn)
