-- The status and the text of what is answered to a body.
use Rattle.std.specs.Prelude.{ℕ, List, ◌++◌, codes, decimal}
use Rattle.adm_csv.specs.declared.fault.Fault.{Fault}
use Rattle.adm_csv.specs.declared.fault.Fault.TheVariants as row_fault
use Rattle.adm_wire.specs.declared.fault.WireFault.{WireFault}
use Rattle.adm_wire.specs.declared.fault.WireFault.TheVariants as fault
use Rattle.adm_desk.specs.declared.answer.Answer.{Answer}
use Rattle.adm_desk.specs.declared.answer.Answer.TheVariants.{Done, Refused, Memory, Failed}
use Rattle.adm_wire.specs.Texts.{memory_text}
use Rattle.adm_desk.specs.Lines.{line_text}
use Rattle.adm_desk.specs.declared.answer.LineAnswer.TheVariants.{Handled, Faulty, Queried}
use Rattle.adm_desk.specs.declared.answer.WhatIfAnswer.{WhatIfAnswer}
use Rattle.adm_desk.specs.declared.answer.WhatIfAnswer.TheVariants.{School, Unanswered}
use Rattle.adm_desk.specs.declared.answer.WhatIfAnswer.TheVariants as what_if_answer
use Rattle.adm_http.specs.declared.body_answer.BodyAnswer.{BodyAnswer}
use Rattle.adm_http.specs.declared.body_answer.BodyAnswer.TheVariants.{Line, Unread}
use Rattle.adm_commands.specs.declared.what_ifs.QuestionFault.TheVariants as unanswered

-- the status of the answer to a command
abbrev pub status_of_command : Answer → ℕ
status_of_command (Done reply) = 200
status_of_command (Refused refusal row) = 409
status_of_command Memory = 503
status_of_command Failed = 503

-- a body that is no command is an error of the client, and out of memory is one of the server
abbrev pub status_of_fault : WireFault → ℕ
status_of_fault fault.Memory = 503
status_of_fault fault.NotJson = 400
status_of_fault fault.UnknownCommand = 400
status_of_fault fault.MissingField = 400
status_of_fault fault.WrongKind = 400
status_of_fault fault.ExtraField = 400

-- the status of the answer to a question: out of memory and a desk that has failed are errors of the server
abbrev pub status_of_what_if : WhatIfAnswer → ℕ
status_of_what_if (School school) = 200
status_of_what_if (Unanswered unanswered.LotCount) = 409
status_of_what_if (Unanswered unanswered.LotsRepeated) = 409
status_of_what_if (Unanswered unanswered.UnknownChild) = 409
status_of_what_if (Unanswered unanswered.NotItsSchools) = 409
status_of_what_if (Unanswered unanswered.Memory) = 503
status_of_what_if what_if_answer.Failed = 503

-- a body that has no rows for an import is an error of the client, and out of memory is one of the server
abbrev pub status_of_row_fault : Fault → ℕ
status_of_row_fault row_fault.Memory = 503
status_of_row_fault row_fault.Header = 400
status_of_row_fault row_fault.FieldCount = 400
status_of_row_fault row_fault.BadNumber = 400
status_of_row_fault row_fault.BadDate = 400
status_of_row_fault row_fault.BadText = 400
status_of_row_fault row_fault.TooManyRows = 400
status_of_row_fault row_fault.Read = 400

-- the status of the answer to a command, to a body that is none, to a question, or to a body without rows for an import
abbrev pub status_of : BodyAnswer → ℕ
status_of (Line (Handled answer)) = status_of_command answer
status_of (Line (Faulty f)) = status_of_fault f
status_of (Line (Queried what_if_answer)) = status_of_what_if what_if_answer
status_of (Unread fault) = status_of_row_fault fault.fault

-- a number, a name and the row of an import
abbrev pub named_row_text : ℕ → List ℕ → ℕ → List ℕ
named_row_text number name row =
    codes "{\"fault\":" ++ (decimal number ++ (codes ",\"name\":\"" ++ (name ++ (codes "\",\"row\":" ++ (decimal row ++ codes "}")))))

-- the text of an error of the row of this number: errors 1 to 7 by their numbers and names; out of memory, the eighth, has the text of that answer
abbrev pub row_fault_text : Fault → ℕ → List ℕ
row_fault_text row_fault.Header row = named_row_text 1 (codes "Header") row
row_fault_text row_fault.FieldCount row = named_row_text 2 (codes "FieldCount") row
row_fault_text row_fault.BadNumber row = named_row_text 3 (codes "BadNumber") row
row_fault_text row_fault.BadDate row = named_row_text 4 (codes "BadDate") row
row_fault_text row_fault.BadText row = named_row_text 5 (codes "BadText") row
row_fault_text row_fault.TooManyRows row = named_row_text 6 (codes "TooManyRows") row
row_fault_text row_fault.Read row = named_row_text 7 (codes "Read") row
row_fault_text row_fault.Memory row = memory_text

-- the text of the answer to a body
abbrev pub body_text : BodyAnswer → List ℕ
body_text (Line answer) = line_text answer
body_text (Unread fault) = row_fault_text fault.fault fault.row
