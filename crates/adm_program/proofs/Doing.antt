-- The result of each action, and the exit status of its line, from the clauses of what it calls.
use Rattle.std.proofs.Common.{◌≡◌, ◌≢◌, ◌⊎◌, ℕ, Bool, true, false, if◌then◌else◌, nat_lt, refl, List, Option, None, Some, Result, Ok, Err, inl, inr, Bor, sym, subst}
use Rattle.std.specs.Prelude.{IfOk}
use Rattle.sqlite_disk.specs.declared.Disk as disk
use Rattle.sqlite_disk.specs.declared.Files.{Files}
use Rattle.sqlite_wal.specs.Recovery.{Image}
use Rattle.sqlite_store.specs.declared.store.FileStore.{FileStore}
use Rattle.sqlite.specs.declared.error.Error.{Error}
use Rattle.adm_types.specs.Seasons.{SeasonFacts, IsRising}
use Rattle.adm_types.specs.declared.seasons.Phase.{Phase}
use Rattle.adm_types.specs.declared.seasons.Size.{Size}
use Rattle.adm_words.specs.declared.actions.Action.{Action}
use Rattle.adm_words.specs.declared.actions.Action.TheVariants as action
use Rattle.adm_words.specs.declared.faults.WordsFault.{WordsFault}
use Rattle.adm_words.specs.declared.faults.WordsFault.TheVariants as arguments
use Rattle.sqlite.specs.Files.{file_state}
use Rattle.sqlite.specs.Held.{Held}
use Rattle.adm_desk.specs.Lines.{AnswersLine}
use Rattle.adm_desk.specs.Questions.{AnswersQuestionLine}
use Rattle.adm_desk.specs.DeskState.{Handles, DeskState}
use Rattle.adm_desk.specs.declared.answer.Answer.{Answer}
use Rattle.adm_desk.specs.declared.answer.Answer.TheVariants as answer
use Rattle.adm_desk.specs.declared.run.Run.{Run}
use Rattle.adm_desk.specs.declared.run.RunFault.{RunFault}
use Rattle.adm_files.specs.Outcomes.{of_lines, exit_of_answer}
use Rattle.adm_host.specs.Exits.{ExitsBy, ending_of, error_of, exit_of_result, line_outcome, exit_of_arguments, exit_code}
use Rattle.adm_wire.specs.Streams.{Stream}
use Rattle.adm_files.specs.Opened.{IsNotOpened}
use Rattle.adm_files.specs.Imports.{ImportsAs, ImportsFile, ImportsInto}
use Rattle.adm_program.specs.Served.{ServesAs, ServesOver, Visits}
use Rattle.adm_host.specs.Texts.{PrintsAs, document_text}
use Rattle.adm_files.specs.Runs.{LineStep, OpensAndRuns, Prints}
use Rattle.adm_host.specs.Creation.{Creates, CreatesAs}
use Rattle.adm_program.specs.Does.{Does, file_of, shown}
use Rattle.adm_program.specs.Given.{Given}
use Rattle.adm_host.specs.declared.document.Document.{Document}
use Rattle.adm_host.specs.declared.document.Document.TheVariants as document
use Rattle.adm_host.specs.declared.connecting.OpenError.{OpenError}
use Rattle.adm_host.specs.declared.ended.LineEnd.{LineEnd}
use Rattle.adm_host.specs.declared.exit.Exit.{Exit}
use Rattle.adm_host.specs.declared.exit.Exit.TheVariants as exit
use Rattle.adm_host.specs.declared.fault.Fault.{Fault}

pub if_ok : {X E : Type 0} {P Q : X → Type 0} → ((x : X) → P x → Q x) → (r : Result X E) → IfOk r P → IfOk r Q
if_ok more (Ok x) holds = more x holds
if_ok more (Err e) holds = holds

-- the status of a line that ended so, and of the result of its close
abbrev status : Result Exit Fault → Option Error → ℕ
status e closed = exit_code (exit_of_result (ending_of e closed))

-- a line that ended with an error
fault_exit : (e : Result Exit Fault) (f : Fault) (closed : Option Error) → e ≡ Err f → status e closed ≡ 1
fault_exit e f closed reported = subst (λ (y : Result Exit Fault). status y closed ≡ 1) (sym reported) refl

-- something was done, and its connection closed
done_exit : (e : Exit) (closed : Option Error) → e ≡ exit.Done → (status (Ok e) closed ≡ 0) ⊎ (status (Ok e) closed ≡ 1)
done_exit e closed is = subst (λ (y : Exit). (status (Ok y) closed ≡ 0) ⊎ (status (Ok y) closed ≡ 1)) (sym is) (of_done closed)
  where
    of_done : (c : Option Error) → (status (Ok exit.Done) c ≡ 0) ⊎ (status (Ok exit.Done) c ≡ 1)
    of_done None = inl refl
    of_done (Some error) = inr refl

-- lines were run, and their connection closed
run_exit : (failed refused : Bool) (closed : Option Error) → status (Ok (if failed then exit.Failed else (if refused then exit.Refused else exit.Done))) closed ≢ 2
run_exit true refused closed = λ e. cc
run_exit false true None = λ e. cc
run_exit false true (Some error) = λ e. cc
run_exit false false None = λ e. cc
run_exit false false (Some error) = λ e. cc

-- a command was answered, and its connection closed
answer_exit : (a : Answer) (closed : Option Error) → status (Ok (exit_of_answer a)) closed ≢ 2
answer_exit (answer.Done reply) None = λ e. cc
answer_exit (answer.Done reply) (Some error) = λ e. cc
answer_exit (answer.Refused refusal row) None = λ e. cc
answer_exit (answer.Refused refusal row) (Some error) = λ e. cc
answer_exit answer.Memory None = λ e. cc
answer_exit answer.Memory (Some error) = λ e. cc
answer_exit answer.Failed closed = λ e. cc

-- connections were served, or none
abbrev IsOfServing : ℕ → Type 0
IsOfServing n = (n ≡ 0) ⊎ ((n ≡ 1) ⊎ (n ≡ 4))

served_exit : (failed : Bool) (closed : Option Error) → IsOfServing (status (Ok (if failed then exit.Failed else exit.Done)) closed)
served_exit true closed = inr (inr refl)
served_exit false None = inl refl
served_exit false (Some error) = inr (inl refl)

not_two : (n : ℕ) → n ≡ 1 → n ≢ 2
not_two n is = subst (λ (m : ℕ). m ≢ 2) (sym is) (λ e. cc)

-- a text was printed, or there was none
print_exit : (read : Result (List ℕ) Fault) (output : Stream) (e : Result Exit Fault) (closed : Option Error) → PrintsAs read output e
    → (status e closed ≡ 0) ⊎ (status e closed ≡ 1)
print_exit (Ok text) output (Ok x) closed prints = done_exit x closed prints.1
print_exit (Ok text) output (Err f) closed prints = inr refl
print_exit (Err f) output e closed prints = inr (fault_exit e f closed prints.0)

-- an action that failed before it began
unmade : (a : Action) → ExitsBy (Ok a) 1
unmade (action.Init file phase year days size) = inr refl
unmade (action.Do file) = λ e. cc
unmade (action.WhatIf file) = λ e. cc
unmade (action.Import file csv) = λ e. cc
unmade (action.Serve file port count) = inr (inl refl)
unmade (action.Letter file child) = inr refl
unmade (action.List file school) = inr refl
unmade (action.RoundReport file round) = inr refl
unmade (action.Pairs file school) = inr refl
unmade (action.Show file draw) = inr refl

-- arguments that are a usage error
pub refused : (fault : WordsFault) → ExitsBy (Err fault) (exit_code (exit_of_arguments fault))
refused (arguments.Usage e) = refl
refused arguments.BadDate = refl
refused arguments.BadWord = refl
refused arguments.Memory = refl

-- a run over lines never ends with 2
ran : (run : Result Run RunFault) (e : Result Exit Fault) (closed : Option Error) → e ≡ of_lines run → status e closed ≢ 2
ran (Err f) e closed reported = subst (λ (y : Result Exit Fault). status y closed ≢ 2) (sym reported) (λ e. cc)
ran (Ok run) e closed reported = subst (λ (y : Result Exit Fault). status y closed ≢ 2) (sym reported) (run_exit run.failed (nat_lt 0 run.refused) closed)

module _ {D : Type 0} {g : disk.Ghosts D} where
  pub season_made : (held : List ℕ → Image) (a : Action) (file : Bor (List ℕ)) (phase : Phase) (year : ℕ) (days listed : List ℕ) (size : Size) (given : Given)
      (e : Result Exit Fault) (closed : Result (Files D) (Error × FileStore D g)) (s sized : SeasonFacts) → a ≡ action.Init file phase year days size → listed ≡ days
      → given.input.new ≡ given.input.old → given.output.new ≡ given.output.old → (s.phase ≡ phase) × (s.year ≡ year) × IsRising listed s.holidays
      → sized ≡ record s { size = size } → Creates (held file.now) sized e closed → Does (held (file_of a)) a given e closed
  season_made held a file phase year days listed size given e closed s sized is same read written facts of_size made =
      let rising = subst (λ (l : List ℕ). IsRising l s.holidays) same facts.2 in
      let creates = subst (λ (season : SeasonFacts). Creates (held file.now) season e closed) of_size made in
      subst (λ (x : Action). Does (held (file_of x)) x given e closed) (sym is) (read, written, record s { size = size }, facts.0, facts.1, rising, refl, creates)

  created : (season : SeasonFacts) (found left : Held (FileStore D g)) (e : Result Exit Fault) (closed : Option Error) → CreatesAs season found left e
      → (status e closed ≡ 0) ⊎ (status e closed ≡ 1)
  created season found left (Err f) closed made = inr refl
  created season found left (Ok x) closed made = done_exit x closed made.0

  imported : (old new : DeskState (Held (FileStore D g))) (file output : Stream) (e : Result Exit Fault) (closed : Option Error) → ImportsAs old new file output e
      → status e closed ≢ 2
  imported old new file output (Err f) closed ends = λ e. cc
  imported old new file output (Ok x) closed ends =
      subst (λ (y : Exit). status (Ok y) closed ≢ 2) (sym ends.2.exit) (answer_exit ends.2.answer closed)

  -- the register was not opened
  not_opened : (image : Image) (e : Result Exit Fault) (closed : Result (Files D) (Error × FileStore D g)) → IsNotOpened image e closed → status e (error_of closed) ≡ 1
  not_opened image e closed left = fault_exit e _ (error_of closed) left.reported

  lines_exit : (runs : LineStep (DeskState (Held (FileStore D g)))) (image : Image) (input output : Stream) (e : Result Exit Fault) (closed : Result (Files D) (Error × FileStore D g)) → OpensAndRuns runs image input output e closed
      → status e (error_of closed) ≢ 2
  lines_exit runs image input output e closed (inl left) = not_two _ (not_opened image e closed left.0)
  lines_exit runs image input output e closed (inr does) = ran does.2.run e (error_of closed) does.2.reported

  file_exit : (desk : DeskState (Held (FileStore D g))) (file output : Stream) (e : Result Exit Fault) (closed : Result (Files D) (Error × FileStore D g))
      → ImportsFile desk file output e closed → status e (error_of closed) ≢ 2
  file_exit desk file output e closed (inl left) = not_two _ (fault_exit e _ (error_of closed) left.1)
  file_exit desk file output e closed (inr does) = imported desk does.after file output e (error_of closed) does.ends

  import_exit : (image : Image) (file output : Stream) (e : Result Exit Fault) (closed : Result (Files D) (Error × FileStore D g)) → ImportsInto image file output e closed
      → status e (error_of closed) ≢ 2
  import_exit image file output e closed (inl left) = not_two _ (not_opened image e closed left.0)
  import_exit image file output e closed (inr does) = file_exit does.0 file output e closed does.2

  document_exit : (image : Image) (wanted : Document) (output : Stream) (e : Result Exit Fault) (closed : Result (Files D) (Error × FileStore D g))
      → Prints image wanted output e closed → (status e (error_of closed) ≡ 0) ⊎ (status e (error_of closed) ≡ 1)
  document_exit image wanted output e closed (inl left) = inr (not_opened image e closed left.0)
  document_exit image wanted output e closed (inr does) = print_exit (document_text does.0.register wanted) output e (error_of closed) does.2.0

  served : (old new : DeskState (Held (FileStore D g))) (port count : ℕ) (visits : Visits) (output : Stream) (e : Result Exit Fault) (closed : Option Error)
      → ServesAs old new port count visits output e → IsOfServing (status e closed)
  served old new port count visits output (Err f) closed ends = inr (inl refl)
  served old new port count visits output (Ok x) closed ends = subst (λ (y : Exit). IsOfServing (status (Ok y) closed)) (sym ends.2) (served_exit new.failed closed)

  serve_exit : (image : Image) (port count : ℕ) (visits : Visits) (output : Stream) (e : Result Exit Fault) (closed : Result (Files D) (Error × FileStore D g))
      → ServesOver image port count visits output e closed → IsOfServing (status e (error_of closed))
  serve_exit image port count visits output e closed (inl left) = inr (inl (not_opened image e closed left.0))
  serve_exit image port count visits output e closed (inr does) = served does.0 does.2.after port count visits output e (error_of closed) does.2.ends

  -- what an action that was taken up did
  made : (image : Image) (a : Action) (given : Given) (e : Result Exit Fault) (closed : Result (Files D) (Error × FileStore D g)) → Does image a given e closed
      → ExitsBy (Ok a) (status e (error_of closed))
  made image (action.Init file phase year days size) given e closed does =
      created does.2 does.7.found does.7.creates.left e (error_of closed) does.7.creates.made
  made image (action.Do file) given e closed does = lines_exit (AnswersLine (Handles file_state)) image given.input given.output e closed does
  made image (action.WhatIf file) given e closed does = lines_exit AnswersQuestionLine image given.input given.output e closed does
  made image (action.Import file csv) given e closed does = import_exit image (given.rows csv.now) given.output e closed does.1
  made image (action.Serve file port count) given e closed does = serve_exit image port count given.visits given.output e closed does.1
  made image (action.Letter file child) given e closed does = document_exit image (document.Letter child) given.output e closed does.1
  made image (action.List file school) given e closed does = document_exit image (document.List school) given.output e closed does.1
  made image (action.RoundReport file round) given e closed does = document_exit image (document.Report round) given.output e closed does.1
  made image (action.Pairs file school) given e closed does = document_exit image (document.Pairs school) given.output e closed does.1
  made image (action.Show file draw) given e closed does = document_exit image (shown draw) given.output e closed does.1

  -- the status of an action
  pub exits : (image : Image) (a : Action) (given : Given) (r : Result (LineEnd D g) (OpenError D g)) (n : ℕ)
      → IfOk r (λ ended. Does image a given ended.exit ended.closed) → n ≡ exit_code (exit_of_result (line_outcome r)) → ExitsBy (Ok a) n
  exits image a given (Ok ended) n does reported = subst (λ (m : ℕ). ExitsBy (Ok a) m) (sym reported) (made image a given ended.exit ended.closed does)
  exits image a given (Err f) n does reported = subst (λ (m : ℕ). ExitsBy (Ok a) m) (sym reported) (unmade a)
