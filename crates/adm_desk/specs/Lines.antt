-- Lines of commands, and their answers.
use Rattle.std.specs.Prelude.{◌≡◌, ℕ, ◌==◌, ◌&&◌, List, [], ◌∷◌, ◌++◌, codes, Bool, true, false, not, Option, Some, None, count_by, Ok, Err, if◌then◌else◌}
use Rattle.std.specs.List.{flat_map}
use Rattle.adm_types.specs.declared.commands.Command.{Command}
use Rattle.adm_wire.specs.Commands.{command_of}
use Rattle.adm_wire.specs.Texts.{reply_text, refusal_text, fault_text, memory_text, failed_text}
use Rattle.adm_wire.specs.declared.fault.WireFault.TheVariants as fault
use Rattle.adm_types.specs.declared.commands.Refusal.TheVariants as refusal
use Rattle.adm_commands.specs.declared.what_ifs.QuestionFault.{QuestionFault}
use Rattle.adm_commands.specs.declared.what_ifs.QuestionFault.TheVariants as unanswered
use Rattle.adm_desk.specs.declared.answer.Answer.{Answer}
use Rattle.adm_desk.specs.declared.answer.Answer.TheVariants.{Done, Refused, Memory, Failed}
use Rattle.adm_desk.specs.declared.answer.LineAnswer.{LineAnswer}
use Rattle.adm_desk.specs.declared.answer.LineAnswer.TheVariants.{Handled, Faulty, Queried}
use Rattle.adm_desk.specs.declared.answer.WhatIfAnswer.{WhatIfAnswer}
use Rattle.adm_desk.specs.declared.answer.WhatIfAnswer.TheVariants.{School, Unanswered}
use Rattle.adm_desk.specs.declared.answer.WhatIfAnswer.TheVariants as what_if_answer

-- ---- lines

-- a byte at the front of the first line
abbrev pub onto_first : ℕ → List (List ℕ) → List (List ℕ)
onto_first b [] = (b ∷ []) ∷ []
onto_first b (line ∷ lines) = (b ∷ line) ∷ lines

-- The lines of bytes: each ends with LF, and so may the last, which counts where it is not empty.
abbrev pub lines_of : List ℕ → List (List ℕ)
lines_of [] = []
lines_of (b ∷ bs) = if b == 10 then [] ∷ lines_of bs else onto_first b (lines_of bs)

-- how many lines end with LF
abbrev pub lines_ended : List ℕ → ℕ
lines_ended bytes = count_by (λ b. b == 10) bytes

-- ---- texts

-- the text of the answer to a command
abbrev pub answer_text : Answer → List ℕ
answer_text (Done reply) = reply_text reply
answer_text (Refused refusal row) = refusal_text refusal row
answer_text Memory = memory_text
answer_text Failed = failed_text

-- a school in quotes, or null
abbrev pub school_text : Option (List ℕ) → List ℕ
school_text None = codes "{\"school\":null}"
school_text (Some school) = codes "{\"school\":\"" ++ (school ++ codes "\"}")

-- a refusal as of a command; the last has a number that no command answers
abbrev pub question_fault_text : QuestionFault → List ℕ
question_fault_text unanswered.LotCount = refusal_text refusal.LotCount 0
question_fault_text unanswered.LotsRepeated = refusal_text refusal.LotsRepeated 0
question_fault_text unanswered.UnknownChild = refusal_text refusal.UnknownChild 0
question_fault_text unanswered.NotItsSchools = codes "{\"name\":\"NotItsSchools\",\"refused\":23}"
question_fault_text unanswered.Memory = memory_text

-- the text of the answer to a question
abbrev pub what_if_answer_text : WhatIfAnswer → List ℕ
what_if_answer_text (School school) = school_text school
what_if_answer_text (Unanswered why) = question_fault_text why
what_if_answer_text what_if_answer.Failed = failed_text

-- the text of the answer to a line
abbrev pub line_text : LineAnswer → List ℕ
line_text (Handled answer) = answer_text answer
line_text (Faulty fault) = fault_text fault
line_text (Queried what_if_answer) = what_if_answer_text what_if_answer

-- each answer's text, and LF
abbrev pub answers_text : List LineAnswer → List ℕ
answers_text answers = flat_map (λ a. line_text a ++ 10 ∷ []) answers

-- ---- answers

-- A line that is no command is answered by its error, and changes nothing. Any line may run out of memory.
abbrev pub AnswersLine : {D : Type 0} → (D → Command → Answer → D → Type 0) → D → List ℕ → LineAnswer → D → Type 0
AnswersLine step old line (Faulty fault.Memory) new = new ≡ old
AnswersLine step old line (Faulty f) new = (command_of line ≡ Err f) × (new ≡ old)
AnswersLine step old line (Queried what_if_answer) new = ⊥
AnswersLine step old line (Handled answer) new = (command : Command) × (command_of line ≡ Ok command) × step old command answer new

-- the answers to these lines, one after another, where `runs old line answer new` says what one line may be answered, and what is there then
abbrev pub AnswersLines : {D : Type 0} → (D → List ℕ → LineAnswer → D → Type 0) → D → List (List ℕ) → List LineAnswer → D → Type 0
AnswersLines runs old [] [] new = new ≡ old
AnswersLines {D} runs old (line ∷ lines) (answer ∷ answers) new = (mid : D) × runs old line answer mid × AnswersLines runs mid lines answers new
AnswersLines runs old [] (answer ∷ answers) new = ⊥
AnswersLines runs old (line ∷ lines) [] new = ⊥

-- ---- counts

-- whether an answer counts as done: a command was accepted, or a question was answered
abbrev pub is_done : LineAnswer → Bool
is_done (Handled (Done reply)) = true
is_done (Handled (Refused refusal row)) = false
is_done (Handled Memory) = false
is_done (Handled Failed) = false
is_done (Faulty f) = false
is_done (Queried (School school)) = true
is_done (Queried (Unanswered why)) = false
is_done (Queried what_if_answer.Failed) = false

-- whether an answer counts as failed: it is Failed, to a command or to a question
abbrev pub is_failed : LineAnswer → Bool
is_failed (Handled Failed) = true
is_failed (Handled (Done reply)) = false
is_failed (Handled (Refused refusal row)) = false
is_failed (Handled Memory) = false
is_failed (Faulty f) = false
is_failed (Queried (School school)) = false
is_failed (Queried (Unanswered why)) = false
is_failed (Queried what_if_answer.Failed) = true

-- neither done nor failed
abbrev pub is_refused : LineAnswer → Bool
is_refused a = not (is_done a) && not (is_failed a)
