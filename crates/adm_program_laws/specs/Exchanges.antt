-- What `serve` keeps: the commands in the requests of connections, and the responses to them.
use Rattle.std.specs.Prelude.{◌≡◌, ◌≢◌, ◌≤◌, ◌⊎◌, ⊤, ℕ, Bool, false, not, List, [], ◌∷◌, ◌++◌, codes, filter, length, map, take, drop, Option, Some, None, Result, Ok, Err, is_ok, if◌then◌else◌}
use Rattle.std.specs.List.{AllByRecursion, AllZip}
use Rattle.sqlite.specs.State.{HasCleanDisk, State as Disk}
use Rattle.sqlite.specs.Tree.{Trees}
use Rattle.adm_csv.specs.declared.fault.RowFault.{RowFault}
use Rattle.adm_types.specs.declared.commands.Command.{Command}
use Rattle.adm_types.specs.declared.commands.Command.TheVariants as command
use Rattle.adm_types.specs.declared.rows.Row.{Row as ImportRow}
use Rattle.adm_register.specs.State.{State as Register}
use Rattle.adm_commands.specs.Imports.{Reaches}
use Rattle.adm_rows.specs.Represents.{LeavesOnly, RepresentsNow}
use Rattle.adm_desk.specs.Acknowledged.{KeepsAcknowledged}
use Rattle.adm_desk.specs.DeskState.{DeskState, Handles}
use Rattle.adm_desk.specs.Lines.{answer_text}
use Rattle.adm_desk.specs.declared.answer.Answer.{Answer}
use Rattle.adm_desk.specs.declared.answer.Answer.TheVariants.{Failed}
use Rattle.adm_desk.specs.declared.answer.LineAnswer.TheVariants.{Faulty}
use Rattle.adm_http.specs.Connections.{EndedConnection, Moment, ServesEach, Traffic, ended}
use Rattle.adm_http.specs.Heads.{IsJudgement}
use Rattle.adm_http.specs.Purposes.{HasRows, RunsBody}
use Rattle.adm_http.specs.Reading.{is_connection_fault, is_read_fault, is_write_fault}
use Rattle.adm_http.specs.Replies.{status_of_command}
use Rattle.adm_http.specs.Responses.{Responds, of_answer}
use Rattle.adm_http.specs.Shows.{Shows}
use Rattle.adm_http.specs.Texts.{bare, json, response_bytes}
use Rattle.adm_http.specs.declared.body_answer.BodyAnswer.TheVariants.{Line, Unread}
use Rattle.adm_http.specs.declared.heads.Judgement.{Judgement}
use Rattle.adm_http.specs.declared.heads.Judgement.TheVariants.{Whole, Malformed, Unfinished}
use Rattle.adm_http.specs.declared.heads.Verdict.TheVariants.{Run}
use Rattle.adm_http.specs.declared.routes.Purpose.{Purpose}
use Rattle.adm_http.specs.declared.routes.Purpose.TheVariants as purpose
use Rattle.adm_http.specs.declared.serve.ServeFault.{ServeFault}
use Rattle.adm_http.specs.declared.serve.ServeFault.TheVariants.{Read, Write, Memory}
use Rattle.adm_wire.specs.Commands.{command_of}
use Rattle.adm_wire.specs.declared.fault.WireFault.{WireFault}
use Rattle.adm_program_laws.specs.Effects.{IsEffect}
use Rattle.adm_program_laws.specs.Recorded.{IsMerged, recorded}

-- what was read of a connection as its request, what was written to it, and how it ended: without an error where its response was written whole; with the command that
-- the request was and the answer of the desk, or none
pub record Exchange : Type 0 where
  pub request : List ℕ
  pub written : List ℕ
  pub ended : Result ℕ ServeFault
  pub answered : Option (Command × Answer)

-- a body for this is this command: a line of commands, or for an import its rows
abbrev pub IsCommandFor : Purpose → List ℕ → Command → Type 0
IsCommandFor purpose.Command body c = command_of body ≡ Ok c
IsCommandFor purpose.Import body c = (rows : List ImportRow) × HasRows body (Ok rows) × (c ≡ command.Import rows)
IsCommandFor purpose.Question body c = ⊥

-- the request has a head for a body of this size, and the body is this command
pub record SendsCommand (request : List ℕ) (command : Command) : Type 0 where
  pub head : ℕ
  pub size : ℕ
  pub purpose : Purpose
  pub judged : IsJudgement request (Whole head (Run purpose size))
  pub body : IsCommandFor purpose (take size (drop head request)) command

-- the response to a command: 200 just where it was answered Done, 409 where it was refused, and else 503
abbrev pub command_response : Answer → List ℕ
command_response answer = response_bytes (json (status_of_command answer) (answer_text answer))

-- Of a request that is judged so, a response to no command: the head is for no command; or the body was short, and the response is 400; or it is that of the error
-- for which the body is no command or has no rows; or no head came whole, and the response is 400, or 431 where the window was full.
abbrev pub HasNoCommand : Judgement → List ℕ → Type 0
HasNoCommand (Whole head (Run purpose.Command size)) response = (response ≡ response_bytes (bare 400)) ⊎ ((fault : WireFault) × (response ≡ response_bytes (of_answer (Line (Faulty fault)))))
HasNoCommand (Whole head (Run purpose.Import size)) response = (response ≡ response_bytes (bare 400)) ⊎ ((fault : RowFault) × (response ≡ response_bytes (of_answer (Unread fault))))
HasNoCommand (Whole head verdict) response = ⊤
HasNoCommand Malformed response = response ≡ response_bytes (bare 400)
HasNoCommand Unfinished response = (is_full : Bool) × (response ≡ response_bytes (bare (if is_full then 431 else 400)))

-- A request that was a command is this one, and the response is the one to its answer. Where none is named, the response is to no command, or there is none.
abbrev pub AnswersTo : List ℕ → List ℕ → Option (Command × Answer) → Type 0
AnswersTo request response None = (response ≡ []) ⊎ ((judgement : Judgement) × IsJudgement request judgement × HasNoCommand judgement response)
AnswersTo request response (Some answered) = SendsCommand request answered.0 × (response ≡ command_response answered.1)

-- the command was handled, or there was none and nothing changed
abbrev pub Moves : {C : Type 0} → (C → Disk) → Option (Command × Answer) → DeskState C → DeskState C → Type 0
Moves disk None old new = new ≡ old
Moves disk (Some answered) old new = Handles disk old answered.0 answered.1 new

-- How much of a response was written, by how its connection ended: all of it; or a beginning, where a write failed; or nothing, where a read failed, so that no response was
-- made, or where memory ran out.
abbrev pub IsWrittenBy : Result ℕ ServeFault → List ℕ → List ℕ → Type 0
IsWrittenBy (Ok n) response written = written ≡ response
IsWrittenBy (Err Write) response written = (n : ℕ) × (written ≡ take n response)
IsWrittenBy (Err Read) response written = (response ≡ []) × (written ≡ [])
IsWrittenBy (Err Memory) response written = written ≡ []

-- What was written is a beginning of a response: all of it, unless the connection failed or memory ran out. Its command is in the request, if it was one, and the answer to it
-- makes the response.
pub record IsAnswered (e : Exchange) : Type 0 where
  pub response : List ℕ
  pub size : ℕ
  pub written : e.written ≡ take size response
  pub whole : IsWrittenBy e.ended response e.written
  pub command : AnswersTo e.request response e.answered

-- The response is that of the request's route, or none where it could not be read or memory ran out. Its command, if it was one, was handled.
pub record ServesExchange {C : Type 0} (disk : C → Disk) (old : DeskState C) (e : Exchange) (new : DeskState C) : Type 0 where
  pub is : IsAnswered e
  pub responds : Responds (RunsBody disk) Shows old e.request is.response new ⊎ ((is.response ≡ []) × (new ≡ old))
  pub moves : Moves disk e.answered old new

-- so were these, one after another
abbrev pub ServesExchanges : {C : Type 0} → (C → Disk) → DeskState C → List Exchange → DeskState C → Type 0
ServesExchanges disk old [] new = new ≡ old
ServesExchanges {C} disk old (e ∷ more) new = (mid : DeskState C) × ServesExchange disk old e mid × ServesExchanges disk mid more new

-- the command of an exchange with its answer, or none, before these
abbrev pub with_answered : Option (Command × Answer) → List (Command × Answer) → List (Command × Answer)
with_answered None more = more
with_answered (Some answered) more = answered ∷ more

-- the commands of exchanges with their answers
abbrev pub commands_of : List Exchange → List (Command × Answer)
commands_of [] = []
commands_of (e ∷ more) = with_answered e.answered (commands_of more)

-- the response was written whole
abbrev pub is_whole : Exchange → Bool
is_whole e = is_ok e.ended

-- the acknowledged commands of exchanges: those that were recorded, and whose response was written whole
abbrev pub acknowledged_in : List Exchange → List Command
acknowledged_in served = recorded (commands_of (filter is_whole served))

-- the commands of exchanges that were recorded, not answered: their response was not written whole, as the connection failed or memory ran out
abbrev pub unanswered_in : List Exchange → List Command
unanswered_in served = recorded (commands_of (filter (λ e. not (is_whole e)) served))

-- the connection did not fail, and memory did not run out
abbrev pub IsUndisturbed : Exchange → Type 0
IsUndisturbed e = (is_connection_fault e.ended ≡ false) × (e.ended ≢ Err Memory)

-- The recorded commands of exchanges are the acknowledged ones and those that were recorded, not answered. Of the latter there is none where no connection failed and memory
-- did not run out.
pub record AreRecorded (served : List Exchange) : Type 0 where
  pub merged : IsMerged (recorded (commands_of served)) (acknowledged_in served) (unanswered_in served)
  pub undisturbed : AllByRecursion IsUndisturbed served → unanswered_in served ≡ []

-- the connection of an exchange, as it was ended
abbrev pub ended_of : Exchange → EndedConnection
ended_of e = ended e.written (is_read_fault e.ended) (is_write_fault e.ended)

-- the request is a beginning of what the connection sent
abbrev pub SentFirst : Exchange → List ℕ → Type 0
SentFirst e sent = (more : List ℕ) × (sent ≡ e.request ++ more)

-- these are the exchanges of the connections that were taken in between, one after another, where the bytes of connections and whether each failed are known
abbrev pub AreExchanged : Option Traffic → Option Traffic → List Exchange → Type 0
AreExchanged None new served = ⊤
AreExchanged (Some old) None served = ⊥
AreExchanged (Some old) (Some new) served =
    (sent : List (List ℕ)) × (old.coming ≡ sent ++ new.coming) × (new.answered ≡ old.answered ++ map ended_of served) × AllZip SentFirst served sent

-- ---- what was answered with the status 200

-- What was written has the status 200: it begins so, whatever part of the response follows.
abbrev pub HasStatus200 : List ℕ → Type 0
HasStatus200 written = (rest : List ℕ) × (written ≡ codes "HTTP/1.1 200" ++ rest)

-- what was written is a response of the status 200, or a beginning of one
abbrev pub BeginsStatus200 : List ℕ → Type 0
BeginsStatus200 written = (body : List ℕ) × (size : ℕ) × (written ≡ take size (response_bytes (json 200 body)))

-- the request was no command, or the status 200 was not written to it
abbrev pub LacksStatus200 : Exchange → Type 0
LacksStatus200 e = (command : Command) → SendsCommand e.request command → ¬ HasStatus200 e.written

-- the command of the request took effect, and what was written is a response of the status 200, or a beginning of one
pub record HasEffect (e : Exchange) (command : Command) : Type 0 where
  pub sent : SendsCommand e.request command
  pub begins : BeginsStatus200 e.written

-- the command of the request took effect, though it was in flight, for which the desk answered Failed: the status 200 was written neither to it nor to a command after it
pub record HasLastEffect (e : Exchange) (later : List Exchange) (command : Command) : Type 0 where
  pub sent : SendsCommand e.request command
  pub failed : e.answered ≡ Some (command, Failed)
  pub lacks : LacksStatus200 e
  pub none_later : AllByRecursion LacksStatus200 later

-- These commands of exchanges took effect, in the order of the exchanges. Each command to which the status 200 was written is among them. Any other is one to which a
-- beginning of such a response was written, or the last one, which was in flight.
abbrev pub TookEffect : List Exchange → List Command → Type 0
TookEffect [] done = done ≡ []
TookEffect (e ∷ more) done =
    ((command : Command) × (later : List Command) × HasEffect e command × TookEffect more later × (done ≡ command ∷ later))
    ⊎ ((LacksStatus200 e × TookEffect more done) ⊎ ((command : Command) × HasLastEffect e more command × (done ≡ command ∷ [])))

-- A register that may be found after exchanges over the first one: the one to which the commands that took effect lead, each of which was accepted.
pub record IsFoundServed (first : Register) (served : List Exchange) (found : Register) : Type 0 where
  pub done : List Command
  pub took : TookEffect served done
  pub reached : Reaches first done found

-- each thing that a crash may leave represents such a register
abbrev pub LeavesServed : Register → List Exchange → Disk → Type 0
LeavesServed first served disk = HasCleanDisk disk → (db : Trees) → disk.may_leave db → (found : Register) × IsFoundServed first served found × RepresentsNow db found

-- ---- over a desk

-- At most so many connections were served, each by its request, and the desk has the register after the recorded commands of their requests, in order. All that a crash may leave
-- represents it, or also the one that the command in flight leaves; so one that has each command to which the status 200 was written.
pub record KeepsServed {C : Type 0} (disk : C → Disk) (count : ℕ) (old new : Moment (DeskState C)) : Type 0 where
  pub served : List Exchange
  pub few : length served ≤ count
  pub exchanged : AreExchanged old.traffic new.traffic served
  pub serves : ServesExchanges disk old.desk served new.desk
  pub recorded : AreRecorded served
  pub kept : KeepsAcknowledged disk old.desk new.desk (commands_of served)
  pub effects : (done : List Command) → IsEffect (commands_of served) done → TookEffect served done
  pub leaves : LeavesServed old.desk.register served (disk new.desk.conn)

-- where a desk had not failed, and a crash leaves its register
abbrev pub KeepsIfSound : {C : Type 0} → (C → Disk) → ℕ → Moment (DeskState C) → Moment (DeskState C) → Type 0
KeepsIfSound disk count old new = old.desk.failed ≡ false → LeavesOnly old.desk.register (disk old.desk.conn) → KeepsServed disk count old new

-- So it is after as many turns of connections as `serve_on` serves.
abbrev pub ServedIsKept : {C : Type 0} → (C → Disk) → Type 0
ServedIsKept {C} disk = (count : ℕ) (old new : Moment (DeskState C)) → ServesEach (RunsBody disk) Shows count old new → KeepsIfSound disk count old new
