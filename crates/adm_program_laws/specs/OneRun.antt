-- What a call of the program leaves over the files that the runs before it left.
use Rattle.std.specs.Prelude.{◌≡◌, ◌⊎◌, ℕ, List, [], ◌∷◌, ◌++◌, Ok}
use Rattle.std.specs.Borrow.{Bor}
use Rattle.sqlite_disk.specs.declared.Disk as disk
use Rattle.sqlite_wal.specs.Recovery.{Image}
use Rattle.adm_types.specs.declared.commands.Command.{Command}
use Rattle.adm_types.specs.declared.seasons.Phase.{Phase}
use Rattle.adm_types.specs.declared.seasons.Size.{Size}
use Rattle.adm_register.specs.State.{State as Register}
use Rattle.adm_desk.specs.Files.{IsFileOf}
use Rattle.adm_wire.specs.declared.streams.Output as output
use Rattle.adm_words.specs.declared.actions.Action.TheVariants as action
use Rattle.adm_desk.specs.declared.answer.Answer.{Answer}
use Rattle.adm_host.specs.declared.ended.RunEnd.{RunEnd}
use Rattle.adm_http.specs.Connections.{Errors, errors_of}
use Rattle.adm_program.specs.Arguments.{ActsOn, held_by_named}
use Rattle.adm_program.specs.Given.{Around}
use Rattle.adm_program_laws.specs.Birth.{HoldsNone, HoldsSeason}
use Rattle.adm_program_laws.specs.Exchanges.{Exchange}
use Rattle.adm_program_laws.specs.FoundAgain.{AreServed, HoldsServed}
use Rattle.adm_program_laws.specs.SuccessiveRuns.{AnswersFor, HoldsAfterRuns, MayRemain}

module _ {D L : Type 0} {g : disk.Ghosts D} where
  -- The run did what its arguments say. Where the file that they name, with its log, held the register after some runs, all that a crash may leave of what remains holds the one after those and this one.
  abbrev pub AddsRun : (List ℕ → Image) → Bor (List (Bor (List ℕ))) → (Errors → Errors → Around) → output.Ghosts L → L → L → RunEnd D g → Type 0
  AddsRun held arguments around l log log_new end = (did : ActsOn held arguments around l log log_new end)
      × ((first : Register) (runs : List (List (Command × Answer))) (after : Image) → HoldsAfterRuns first runs (held_by_named held did.read) → MayRemain (held_by_named held did.read) end.remains after
      → (answered : List (Command × Answer)) × AnswersFor did.read (record { read = did.read; around = around (errors_of l log) (errors_of l log_new); end = end }) answered × HoldsAfterRuns first (runs ++ answered ∷ []) after)

  -- The run did what its arguments say. Where the file of `init`, with its log, held no register, all that a crash may leave holds the register of its season, or none again.
  abbrev pub Begins : (List ℕ → Image) → Bor (List (Bor (List ℕ))) → (Errors → Errors → Around) → output.Ghosts L → L → L → RunEnd D g → Type 0
  Begins held arguments around l log log_new end = (did : ActsOn held arguments around l log log_new end)
      × ((file : Bor (List ℕ)) (phase : Phase) (year : ℕ) (days : List ℕ) (size : Size) (after : Image) → did.read ≡ Ok (action.Init file phase year days size) → HoldsNone (held_by_named held did.read)
      → MayRemain (held_by_named held did.read) end.remains after → ∥ HoldsSeason phase year days size after ⊎ HoldsNone after ∥₁)

  -- The run did what its arguments say. Where the file of `serve`, with its log, held a register, all that a crash may leave holds one that has each command to which the status 200 was written.
  abbrev pub Recalls : (List ℕ → Image) → Bor (List (Bor (List ℕ))) → (Errors → Errors → Around) → output.Ghosts L → L → L → RunEnd D g → Type 0
  Recalls held arguments around l log log_new end = (did : ActsOn held arguments around l log log_new end)
      × ((first : Register) (file : Bor (List ℕ)) (port count : ℕ) (after : Image) → did.read ≡ Ok (action.Serve file port count) → IsFileOf first (held_by_named held did.read)
      → MayRemain (held_by_named held did.read) end.remains after
      → (served : List Exchange) × AreServed port count (around (errors_of l log) (errors_of l log_new)).given.visits served × HoldsServed g first served after)
