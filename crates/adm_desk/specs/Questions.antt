-- The questions that a desk answers: which school a child would get by another list.
use Rattle.std.specs.Prelude.{◌≡◌, ⊤, ℕ, List, true, false, Some, None, Ok, Err}
use Rattle.adm_wire.specs.WhatIfs.{what_if_of}
use Rattle.adm_wire.specs.declared.fault.WireFault.TheVariants as fault
use Rattle.adm_wire.specs.declared.what_if.WhatIf.{WhatIf}
use Rattle.adm_match.specs.Relisting.{IsWhatIf, IsNoGain}
use Rattle.adm_register.specs.State.{State as Register}
use Rattle.adm_commands.specs.Commands.Round.{round_market}
use Rattle.adm_commands.specs.WhatIf.{question_fault}
use Rattle.adm_commands.specs.declared.what_ifs.QuestionFault.TheVariants as unanswered
use Rattle.adm_desk.specs.DeskState.{DeskState}
use Rattle.adm_desk.specs.declared.answer.LineAnswer.{LineAnswer}
use Rattle.adm_desk.specs.declared.answer.LineAnswer.TheVariants.{Handled, Faulty, Queried}
use Rattle.adm_desk.specs.declared.answer.WhatIfAnswer.{WhatIfAnswer}
use Rattle.adm_desk.specs.declared.answer.WhatIfAnswer.TheVariants.{School, Unanswered, Failed}

-- The answer to a question about a register. A school, or none: no test fails, the child has it in the best allocation of the next round's problem in which it
-- lists these schools, and by its own list it does no worse. Else the first test that fails, or out of memory.
abbrev pub AnswersQuestion : Register → WhatIf → WhatIfAnswer → Type 0
AnswersQuestion s asked (School school) =
    (question_fault s asked.child asked.lots asked.preferences ≡ None)
    × IsWhatIf (round_market s asked.lots) asked.child asked.preferences school × IsNoGain (round_market s asked.lots) asked.child school
AnswersQuestion s asked (Unanswered unanswered.Memory) = ⊤
AnswersQuestion s asked (Unanswered why) = question_fault s asked.child asked.lots asked.preferences ≡ Some why
AnswersQuestion s asked Failed = ⊥

-- What a desk answers to bytes: their error where they are no question, that it has failed, or the answer to the question about its register. Any may run out of memory. The desk is unchanged.
abbrev pub AnswersWhatIf : {C : Type 0} → DeskState C → List ℕ → LineAnswer → Type 0
AnswersWhatIf desk bytes (Faulty fault.Memory) = ⊤
AnswersWhatIf desk bytes (Faulty f) = what_if_of bytes ≡ Err f
AnswersWhatIf desk bytes (Queried Failed) = (desk.failed ≡ true) × ((asked : WhatIf) × (what_if_of bytes ≡ Ok asked))
AnswersWhatIf desk bytes (Queried what_if_answer) = (desk.failed ≡ false) × ((asked : WhatIf) × (what_if_of bytes ≡ Ok asked) × AnswersQuestion desk.register asked what_if_answer)
AnswersWhatIf desk bytes (Handled answer) = ⊥

-- the same of lines, one after another
abbrev pub AnswersQuestionLine : {C : Type 0} → DeskState C → List ℕ → LineAnswer → DeskState C → Type 0
AnswersQuestionLine old line answer new = AnswersWhatIf old line answer × (new ≡ old)
