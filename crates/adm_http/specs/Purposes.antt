-- What a body is run as over a desk: as a command, as the rows of an import, or as a question.
use Rattle.std.specs.Prelude.{◌≡◌, ℕ, List, Result, Ok, Err}
use Rattle.sqlite.specs.State.{State as Disk}
use Rattle.adm_types.specs.declared.commands.Command.{Command}
use Rattle.adm_types.specs.declared.commands.Command.TheVariants as command
use Rattle.adm_types.specs.declared.rows.Row.{Row as ImportRow}
use Rattle.adm_csv.specs.Rows.{ReadsRows, records_of}
use Rattle.adm_csv.specs.declared.fault.RowFault.{RowFault}
use Rattle.adm_desk.specs.Lines.{AnswersLine}
use Rattle.adm_desk.specs.Questions.{AnswersQuestionLine}
use Rattle.adm_desk.specs.DeskState.{Handles, DeskState}
use Rattle.adm_desk.specs.declared.answer.Answer.{Answer}
use Rattle.adm_desk.specs.declared.answer.LineAnswer.{LineAnswer}
use Rattle.adm_desk.specs.declared.answer.LineAnswer.TheVariants.{Handled, Faulty, Queried}
use Rattle.adm_http.specs.declared.body_answer.BodyAnswer.{BodyAnswer}
use Rattle.adm_http.specs.declared.body_answer.BodyAnswer.TheVariants.{Line, Unread}
use Rattle.adm_http.specs.declared.routes.Purpose.{Purpose}
use Rattle.adm_http.specs.declared.routes.Purpose.TheVariants.{Command as ForCommand, Import, Question}

-- the body is answered as a line is
abbrev pub AnswersAsLine : {D : Type 0} → (D → List ℕ → LineAnswer → D → Type 0) → D → List ℕ → BodyAnswer → D → Type 0
AnswersAsLine runs old body (Line answer) new = runs old body answer new
AnswersAsLine runs old body (Unread fault) new = ⊥

-- the body has these rows, or this error, as a file of rows has; none of its reads fails
abbrev pub HasRows : List ℕ → Result (List ImportRow) RowFault → Type 0
HasRows body read = ReadsRows ⊥ (λ (rows : List ImportRow). rows) (records_of body) read

-- The rows of the body are handled as one command. A body that has none is answered by its first error, and changes nothing. Any body may run out of memory.
abbrev pub AnswersImport : {D : Type 0} → (D → Command → Answer → D → Type 0) → D → List ℕ → BodyAnswer → D → Type 0
AnswersImport step old body (Line (Handled answer)) new = (rows : List ImportRow) × HasRows body (Ok rows) × step old (command.Import rows) answer new
AnswersImport step old body (Line (Faulty fault)) new = ⊥
AnswersImport step old body (Line (Queried what_if_answer)) new = ⊥
AnswersImport step old body (Unread fault) new = HasRows body (Err fault) × (new ≡ old)

-- a command is handled, the rows of an import are one command, and a question is answered and changes nothing
abbrev pub RunsBody : {C : Type 0} → (C → Disk) → Purpose → DeskState C → List ℕ → BodyAnswer → DeskState C → Type 0
RunsBody disk ForCommand = AnswersAsLine (AnswersLine (Handles disk))
RunsBody disk Import = AnswersImport (Handles disk)
RunsBody disk Question = AnswersAsLine AnswersQuestionLine
