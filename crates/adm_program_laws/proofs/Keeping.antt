-- What each subcommand keeps of a register, from what it did.
use Rattle.std.proofs.Common.{◌≡◌, ◌≢◌, ◌∙◌, ◌⊎◌, ℕ, ◌-◌, take, drop, length, List, [], ◌∷◌, ◌++◌, Result, Ok, Err, inl, inr, refl, sym, ap, subst, arith}
use Rattle.std.specs.Prelude.{IsErr}
use Rattle.std.specs.Io.KnownBytes.{Appends, Consumes, IsAtEnd}
use Rattle.std.proofs.Math.Seq.{take-length}
use Rattle.std.proofs.lemmas.Bool.{false≢true}
use Rattle.std.proofs.lemmas.Grind.{flat_map-append}
use Rattle.std.proofs.lemmas.List.{take-append-drop}
use Rattle.sqlite_disk.specs.declared.Disk as disk
use Rattle.sqlite_disk.specs.declared.Files.{Files}
use Rattle.sqlite_wal.specs.Recovery.{Image}
use Rattle.sqlite_wal.proofs.LogLemmas.{SeenMayStay}
use Rattle.sqlite_store.specs.declared.store.FileStore.{FileStore}
use Rattle.sqlite.specs.declared.error.Error.{Error}
use Rattle.sqlite.specs.Files.{file_state}
use Rattle.sqlite.specs.Held.{Held}
use Rattle.adm_types.specs.declared.commands.Command.{Command}
use Rattle.adm_types.specs.declared.commands.Command.TheVariants.{Import}
use Rattle.adm_rows.specs.Represents.{OneRegister}
use Rattle.adm_words.specs.declared.actions.Action.{Action}
use Rattle.adm_words.specs.declared.actions.Action.TheVariants as action
use Rattle.adm_words.specs.declared.faults.WordsFault.{WordsFault}
use Rattle.adm_wire.specs.Streams.{Stream}
use Rattle.adm_desk.specs.Acknowledged.{KeepsAcknowledged, handled}
use Rattle.adm_desk.specs.DeskState.{DeskState, Handles, WasClean}
use Rattle.adm_desk.specs.Lines.{AnswersLine, AnswersLines, answer_text, answers_text, line_text, lines_of, lines_ended}
use Rattle.adm_desk.specs.Questions.{AnswersQuestionLine}
use Rattle.adm_desk.specs.Written.{EndsAs, IsBeginning}
use Rattle.adm_desk.specs.declared.answer.Answer.{Answer}
use Rattle.adm_desk.specs.declared.answer.LineAnswer.{LineAnswer}
use Rattle.adm_desk.specs.declared.run.Run.{Run}
use Rattle.adm_desk.specs.declared.run.RunFault.{RunFault}
use Rattle.adm_desk.specs.declared.run.RunFault.TheVariants as run
use Rattle.adm_desk.proofs.AcknowledgedLemmas.{RunsOver, keeps, keeps_lines, was_clean, lines_clean}
use Rattle.adm_http.specs.Connections.{Moment}
use Rattle.adm_files.specs.Imports.{ImportsAs}
use Rattle.adm_files.specs.Opened.{IsNotOpened, IsOpened}
use Rattle.adm_files.specs.Outcomes.{of_lines}
use Rattle.adm_files.specs.Runs.{Prints}
use Rattle.adm_host.specs.Exits.{ending_of, error_of, exit_code, exit_of_result}
use Rattle.adm_host.specs.Found.{Closes}
use Rattle.adm_host.specs.Texts.{Puts}
use Rattle.adm_host.specs.declared.connecting.Remainder.TheVariants as remainder
use Rattle.adm_host.specs.declared.document.Document.{Document}
use Rattle.adm_host.specs.declared.document.Document.TheVariants as document
use Rattle.adm_host.specs.declared.ended.Remains.{Remains}
use Rattle.adm_host.specs.declared.ended.Remains.TheVariants as remains
use Rattle.adm_host.specs.declared.exit.Exit.{Exit}
use Rattle.adm_host.specs.declared.fault.Fault.{Fault}
use Rattle.adm_host.specs.declared.fault.Fault.TheVariants as fault
use Rattle.adm_program.specs.Arguments.{FollowsFrom}
use Rattle.adm_program.specs.Does.{Does, shown}
use Rattle.adm_program.specs.Served.{AreUntaken, ServesAs, Visits}
use Rattle.adm_program_laws.specs.Exchanges.{commands_of}
use Rattle.adm_program_laws.specs.SuccessiveRuns.{AnswersInput, AnswersRows, AnswersConnections, AnswersNone, AnswersBy, AnswersFor, ProgramRun, TakesNone}
use Rattle.adm_program_laws.proofs.AnsweredLemmas.{took}
use Rattle.adm_program_laws.proofs.Remaining.{Leaves, not_opened, not_begun, desk_kept, not_created}
use Rattle.adm_program_laws.proofs.ServingLemmas.{are_recorded, each_answered, each_turn}

-- ---- lines

-- the text of all answers misses no part of the last one
whole : (answers : List LineAnswer) → IsBeginning answers (answers_text answers)
whole answers =
    let first = take (length answers - 1) answers in
    let last = drop (length answers - 1) answers in
    let parts : answers_text answers ≡ answers_text first ++ answers_text last =
    ap answers_text (sym (take-append-drop (length answers - 1) answers)) ∙ flat_map-append (λ (a : LineAnswer). line_text a ++ 10 ∷ []) first last in
    (length (answers_text last), parts ∙ ap (λ (text : List ℕ). answers_text first ++ text) (sym (take-length (answers_text last))))

-- questions leave the desk as it was
same_desk : {C : Type 0} (old new : DeskState C) (lines : List (List ℕ)) (answers : List LineAnswer) → AnswersLines AnswersQuestionLine old lines answers new → new ≡ old
same_desk old new [] [] same = same
same_desk old new [] (a ∷ answers) it = absurd it
same_desk old new (l ∷ lines) [] it = absurd it
same_desk old new (l ∷ lines) (a ∷ answers) it = same_desk it.0 new lines answers it.2 ∙ it.1.1

-- there is one answer for each line
same_length : {S : Type 0} (runs : S → List ℕ → LineAnswer → S → Type 0) (old new : S) (lines : List (List ℕ)) (answers : List LineAnswer) → AnswersLines runs old lines answers new
    → length answers ≡ length lines
same_length runs old new [] [] it = refl
same_length runs old new [] (a ∷ answers) it = absurd it
same_length runs old new (l ∷ lines) [] it = absurd it
same_length runs old new (l ∷ lines) (a ∷ answers) it = let more = same_length runs it.0 new lines answers it.2 in omega (arith, more)

abbrev Desk : {D : Type 0} → disk.Ghosts D → Type 0
Desk {D} g = DeskState (Held (FileStore D g))

abbrev Closed : {D : Type 0} → disk.Ghosts D → Type 0
Closed {D} g = Result (Files D) (Error × FileStore D g)

module _ {D : Type 0} {g : disk.Ghosts D} where
  abbrev command_line : Desk g → List ℕ → LineAnswer → Desk g → Type 0
  command_line = AnswersLine (Handles file_state)

  -- ---- a desk that was opened

  module _ (image : Image) (desk : Desk g) (opened : IsOpened image desk) where
    stays_clean : (last : Desk g) → last ≡ desk → WasClean (file_state desk.conn) (file_state last.conn)
    stays_clean last same = subst (λ (it : Desk g). WasClean (file_state desk.conn) (file_state it.conn)) (sym same) (λ clean. clean)

    keeps_none : (last : Desk g) → last ≡ desk → KeepsAcknowledged file_state desk last []
    keeps_none last same = keeps file_state desk last [] opened.alive opened.leaves same

    keeps_all : (last : Desk g) (lines : List (List ℕ)) (answers : List LineAnswer) → AnswersLines command_line desk lines answers last → KeepsAcknowledged file_state desk last (handled lines answers)
    keeps_all last lines answers it = keeps_lines file_state desk last lines answers opened.alive opened.leaves it

    -- the lines of an input
    module _ (last : Desk g) (input output : Stream) where
      pub record KeepsInput (status : ℕ) : Type 0 where
        pub answered : List (Command × Answer)
        pub are : AnswersInput status input output answered
        pub kept : KeepsAcknowledged file_state desk last answered
        pub clean : WasClean (file_state desk.conn) (file_state last.conn)

      -- these first lines were answered so, and the text of their answers was written but for a part of the last one
      first_lines : (status : ℕ) (bytes : List ℕ) → Consumes input.old input.new bytes → (count : ℕ) (answers : List LineAnswer) → AnswersLines command_line desk (take count (lines_of bytes)) answers last
          → (text : List ℕ) → IsBeginning answers text → Appends output.old output.new text
          → (status ≢ 1 → IsAtEnd input.new × (count ≡ length (lines_of bytes)) × (text ≡ answers_text answers)) → KeepsInput status
      first_lines status bytes read count answers it text beginning written all =
          let lines = take count (lines_of bytes) in
          record {
            answered = handled lines answers;
            are = record {
              bytes = bytes;
              read = read;
              count = count;
              answers = answers;
              each = same_length command_line desk last lines answers it;
              commands = refl;
              text = text;
              beginning = beginning;
              written = written;
              all = all;
            };
            kept = keeps_all last lines answers it;
            clean = lines_clean file_state desk last lines answers it;
          }

      kept_lines : (status : ℕ) (ran : Result Run RunFault) → EndsAs command_line desk last input output ran → (IsErr ran → status ≡ 1) → KeepsInput status
      kept_lines status (Ok ran) (end, bytes, read, it) ends =
          let lines = lines_of bytes in
          let all = subst (λ (them : List (List ℕ)). AnswersLines command_line desk them it.answers last) (sym (take-length lines)) it.answered in
          first_lines status bytes read (length lines) it.answers all (answers_text it.answers) (whole it.answers) it.written (λ other. (end, refl, refl))
      kept_lines status (Err run.Read) (failed, bytes, read, it) ends =
          first_lines status bytes read (lines_ended bytes) it.answers it.answered (answers_text it.answers) (whole it.answers) it.written (λ other. absurd (other (ends refl)))
      kept_lines status (Err run.Write) (failed, bytes, read, it) ends =
          first_lines status bytes read it.count it.interrupted.answers it.interrupted.answered it.interrupted.text it.interrupted.beginning it.interrupted.written (λ other. absurd (other (ends refl)))
      kept_lines status (Err run.Memory) (bytes, read, it) ends =
          first_lines status bytes read it.count it.interrupted.answers it.interrupted.answered it.interrupted.text it.interrupted.beginning it.interrupted.written (λ other. absurd (other (ends refl)))

      kept_questions : (ran : Result Run RunFault) → EndsAs AnswersQuestionLine desk last input output ran → last ≡ desk
      kept_questions (Ok ran) it = same_desk desk last (lines_of it.1) it.3.answers it.3.answered
      kept_questions (Err run.Read) it = same_desk desk last (take (lines_ended it.1) (lines_of it.1)) it.3.answers it.3.answered
      kept_questions (Err run.Write) it = same_desk desk last (take it.3.count (lines_of it.1)) it.3.interrupted.answers it.3.interrupted.answered
      kept_questions (Err run.Memory) it = same_desk desk last (take it.2.count (lines_of it.0)) it.2.interrupted.answers it.2.interrupted.answered

    -- the rows of a file
    pub record KeepsRows (status : ℕ) (last : Desk g) (file output : Stream) : Type 0 where
      pub answered : List (Command × Answer)
      pub are : AnswersNone status output answered ⊎ AnswersRows status file output answered
      pub kept : KeepsAcknowledged file_state desk last answered
      pub clean : WasClean (file_state desk.conn) (file_state last.conn)

    -- a text that was put is written whole, unless that was an error
    put_whole : (text : List ℕ) (output : Stream) (status : ℕ) (e : Result Exit Fault) → Puts text output e → (IsErr e → status ≡ 1) → status ≢ 1 → Appends output.old output.new text
    put_whole text output status (Ok x) puts ends other = puts
    put_whole text output status (Err f) puts ends other = absurd (other (ends refl))

    kept_rows : (status : ℕ) (last : Desk g) (file output : Stream) (e : Result Exit Fault) → ImportsAs desk last file output e → (IsErr e → status ≡ 1) → KeepsRows status last file output
    kept_rows status last file output (Err (fault.Row f)) it ends = record {
      answered = [];
      are = inl (ends refl, refl, it.2);
      kept = keeps_none last it.1;
      clean = stays_clean last it.1;
    }
    kept_rows status last file output e it ends =
        let answer = it.2.answer in
        let run : RunsOver (Handles file_state) desk ((Import it.0, answer) ∷ []) last = (last, it.2.handled, refl) in
        let text = answer_text answer ++ 10 ∷ [] in
        record {
          answered = (Import it.0, answer) ∷ [];
          are = inr (record { rows = it.0; given = it.1; answer = answer; command = refl; result = e; written = it.2.written; all = put_whole text output status e it.2.written ends });
          kept = keeps file_state desk last ((Import it.0, answer) ∷ []) opened.alive opened.leaves run;
          clean = was_clean file_state desk last ((Import it.0, answer) ∷ []) run;
        }

    -- the requests of connections
    pub record KeepsConnections (status port count : ℕ) (visits : Visits) (last : Desk g) : Type 0 where
      pub answered : List (Command × Answer)
      pub run : RunsOver (Handles file_state) desk answered last
      pub are : TakesNone status port visits answered ⊎ AnswersConnections count (visits.coming port) visits.new answered

    kept_served : (status port count : ℕ) (visits : Visits) (last : Desk g) (output : Stream) (e : Result Exit Fault) → ServesAs desk last port count visits output e → (IsErr e → status ≡ 1)
        → KeepsConnections status port count visits last
    kept_served status port count visits last output (Ok x) it ends =
        let before : Moment (Desk g) = record { desk = desk; traffic = visits.coming port; errors = visits.log_before } in
        let after : Moment (Desk g) = record { desk = last; traffic = visits.new; errors = visits.log_after } in
        let so = each_turn file_state count before after it.1 in
        record {
          answered = commands_of so.served;
          run = so.run;
          are = inr (record {
            served = so.served;
            few = so.few;
            exchanged = so.exchanged;
            each = each_answered file_state desk last so.served so.serves;
            commands = refl;
            recorded = are_recorded so.served;
            effects = took file_state desk last so.served so.serves;
          });
        }
    kept_served status port count visits last output (Err fault.Listen) it ends =
        record { answered = []; run = it.0; are = inl (record { ends = ends refl; none = refl; untaken = inl it.2 }) }
    kept_served status port count visits last output (Err f) it ends =
        record { answered = []; run = it.0; are = inl (record { ends = ends refl; none = refl; untaken = it.2 }) }

  -- ---- each subcommand

  -- an error makes the status 1, and nothing else does before the close
  error_status : (status : ℕ) (e : Result Exit Fault) (closed : Closed g) → status ≡ exit_code (exit_of_result (ending_of e (error_of closed))) → IsErr e → status ≡ 1
  error_status status (Ok x) closed is err = absurd (false≢true err)
  error_status status (Err f) closed is err = is

  -- a register that was not opened is an error
  unopened_status : (image : Image) (status : ℕ) (e : Result Exit Fault) (closed : Closed g) → status ≡ exit_code (exit_of_result (ending_of e (error_of closed))) → IsNotOpened image e closed
      → status ≡ 1
  unopened_status image status e closed is it = error_status status e closed is (subst (λ (y : Result Exit Fault). IsErr y) (sym it.reported) refl)

  module _ (seen : SeenMayStay g) (one : OneRegister) (image : Image) (this : ProgramRun g) where
    -- the commands of the run, with their answers, and what it leaves
    pub record KeepsRun (read : Result Action WordsFault) (remained : Remains D g) : Type 0 where
      pub answered : List (Command × Answer)
      pub are : AnswersFor read this answered
      pub leaves : Leaves {g = g} image remained answered

    module _ (e : Result Exit Fault) (closed : Closed g) (exits : this.end.status ≡ exit_code (exit_of_result (ending_of e (error_of closed)))) where
      -- a register was not opened
      unopened : (a : Action) → AnswersBy a this [] → IsNotOpened image e closed → KeepsRun (Ok a) (remains.Closed closed)
      unopened a none it = record { answered = []; are = none; leaves = not_opened seen one image e closed it }

      -- a desk that was opened is as it was
      unchanged : (a : Action) → AnswersBy a this [] → (desk last : Desk g) → IsOpened image desk → last ≡ desk → Closes last.conn closed → KeepsRun (Ok a) (remains.Closed closed)
      unchanged a none desk last opened same closes = record {
        answered = [];
        are = none;
        leaves = desk_kept seen one image desk last [] closed opened (stays_clean image desk opened last same) (keeps_none image desk opened last same) closes;
      }

      no_answer : this.around.given.output.new ≡ this.around.given.output.old → IsNotOpened image e closed → AnswersNone this.end.status this.around.given.output []
      no_answer unwritten it = (unopened_status image this.end.status e closed exits it, refl, unwritten)

      -- an error of a run of lines is one of its end
      run_status : (ran : Result Run RunFault) → e ≡ of_lines ran → IsErr ran → this.end.status ≡ 1
      run_status (Ok ran) reported err = absurd (false≢true err)
      run_status (Err f) reported err = error_status this.end.status e closed exits (subst (λ (y : Result Exit Fault). IsErr y) (sym reported) refl)

      -- the text of a document was printed, or none
      printed : (a : Action) → AnswersBy a this [] → (wanted : Document) → Prints image wanted this.around.given.output e closed → KeepsRun (Ok a) (remains.Closed closed)
      printed a none wanted (inl it) = unopened a none it.0
      printed a none wanted (inr (desk, opened, it)) = unchanged a none desk desk opened refl it.1

      pub each : (a : Action) → Does image a this.around.given e closed → KeepsRun (Ok a) (remains.Closed closed)
      each (action.Init file phase year days size) did = record { answered = []; are = refl; leaves = not_created seen one image did.2 e closed did.7 }
      each (action.Do file) (inl it) = unopened (action.Do file) (inl (no_answer it.1.1 it.0)) it.0
      each (action.Do file) (inr (desk, opened, it)) =
          let kept = kept_lines image desk opened it.after this.around.given.input this.around.given.output this.end.status it.run it.ends (run_status it.run it.reported) in
          record { answered = kept.answered; are = inr kept.are; leaves = desk_kept seen one image desk it.after kept.answered closed opened kept.clean kept.kept it.closes }
      each (action.WhatIf file) (inl it) = unopened (action.WhatIf file) refl it.0
      each (action.WhatIf file) (inr (desk, opened, it)) =
          unchanged (action.WhatIf file) refl desk it.after opened (kept_questions image desk opened it.after this.around.given.input this.around.given.output it.run it.ends) it.closes
      each (action.Import file csv) (unread, inl it) = unopened (action.Import file csv) (inl (no_answer it.1 it.0)) it.0
      each (action.Import file csv) (unread, inr (desk, opened, inl it)) =
          let failed = error_status this.end.status e closed exits (subst (λ (y : Result Exit Fault). IsErr y) (sym it.1) refl) in
          unchanged (action.Import file csv) (inl (failed, refl, it.3)) desk desk opened refl it.4
      each (action.Import file csv) (unread, inr (desk, opened, inr it)) =
          let kept = kept_rows image desk opened this.end.status it.after (this.around.given.rows csv.now) this.around.given.output e it.ends (error_status this.end.status e closed exits) in
          record { answered = kept.answered; are = kept.are; leaves = desk_kept seen one image desk it.after kept.answered closed opened kept.clean kept.kept it.closes }
      each (action.Serve file port count) (unread, inl it) =
          unopened (action.Serve file port count)
          (inl (record { ends = unopened_status image this.end.status e closed exits it.0; none = refl; untaken = inl it.1.1 })) it.0
      each (action.Serve file port count) (unread, inr (desk, opened, it)) =
          let kept = kept_served image desk opened this.end.status port count this.around.given.visits it.after this.around.given.output e it.ends (error_status this.end.status e closed exits) in
          record {
            answered = kept.answered;
            are = kept.are;
            leaves = desk_kept seen one image desk it.after kept.answered closed opened (was_clean file_state desk it.after kept.answered kept.run)
                (keeps file_state desk it.after kept.answered opened.alive opened.leaves kept.run) it.closes;
          }
      each (action.Letter file child) (unread, it) = printed (action.Letter file child) refl (document.Letter child) it
      each (action.List file school) (unread, it) = printed (action.List file school) refl (document.List school) it
      each (action.RoundReport file round) (unread, it) = printed (action.RoundReport file round) refl (document.Report round) it
      each (action.Pairs file school) (unread, it) = printed (action.Pairs file school) refl (document.Pairs school) it
      each (action.Show file draw) (unread, it) = printed (action.Show file draw) refl (shown draw) it

    -- an action that failed before it began answers no command
    none_by : (a : Action) → this.end.status ≡ 1 → this.around.given.output.new ≡ this.around.given.output.old → AreUntaken this.around.given.visits → AnswersBy a this []
    none_by (action.Do file) is same untaken = inl (is, refl, same)
    none_by (action.Import file csv) is same untaken = inl (is, refl, same)
    none_by (action.Serve file port count) is same untaken = inl (record { ends = is; none = refl; untaken = inl untaken })
    none_by other is same untaken = refl

    -- whatever the arguments were read as
    pub each_end : (read : Result Action WordsFault) (remained : Remains D g)
        → FollowsFrom g image read this.around (record { status = this.end.status; remains = remained }) → KeepsRun read remained
    each_end (Ok a) (remains.Closed closed) it = each it.ended closed it.exits a it.does
    each_end (Ok a) (remains.Unopened left) it = record { answered = []; are = none_by a it.exits it.unwritten it.untaken; leaves = not_begun {g = g} seen one image left it.left }
    each_end (Err fault) (remains.Closed closed) it = absurd it.1
    each_end (Err fault) (remains.Unopened (remainder.Untouched left)) it = record { answered = []; are = refl; leaves = not_begun {g = g} seen one image (remainder.Untouched left) tt }
    each_end (Err fault) (remains.Unopened other) it = absurd it.1
