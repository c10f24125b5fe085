use Rattle.std.proofs.Common.{◌≡◌, ◌∙◌, ℕ, List, [], ◌∷◌, Option, Result, Ok, Err, subst}
use Rattle.adm_wire.specs.Streams.{Stream}
use Rattle.adm_desk.specs.Lines.{AnswersLines}
use Rattle.adm_desk.specs.Questions.{AnswersQuestionLine}
use Rattle.adm_desk.specs.DeskState.{DeskState}
use Rattle.adm_desk.specs.Written.{Finished, AnsweredUpTo, InterruptedWithin, EndsAs}
use Rattle.adm_desk.specs.declared.answer.LineAnswer.{LineAnswer}
use Rattle.adm_desk.specs.declared.run.Run.{Run}
use Rattle.adm_desk.specs.declared.run.RunFault.{RunFault}
use Rattle.adm_desk.specs.declared.run.RunFault.TheVariants.{Read, Write, Memory}
use Rattle.adm_desk.proofs.desk.Desk.answer_questions.Goals as goal

-- questions leave the desk as it is
stays : {C : Type 0} (old new : DeskState C) (lines : List (List ℕ)) (answers : List LineAnswer) → AnswersLines AnswersQuestionLine old lines answers new → new ≡ old
stays old new [] [] what_if_answer = what_if_answer
stays old new [] (a ∷ answers) what_if_answer = absurd what_if_answer
stays old new (line ∷ lines) [] what_if_answer = absurd what_if_answer
stays old new (line ∷ lines) (a ∷ answers) what_if_answer = stays what_if_answer.0 new lines answers what_if_answer.2 ∙ what_if_answer.1.1

finished : {C : Type 0} (old new : DeskState C) (u v : Option (List ℕ)) (run : Run) (lines : List (List ℕ)) → Finished AnswersQuestionLine old new u v run lines → Finished AnswersQuestionLine old old u v run lines
finished old new u v run lines it = subst (λ n. Finished AnswersQuestionLine old n u v run lines) (stays old new lines it.answers it.answered) it

up_to : {C : Type 0} (old new : DeskState C) (u v : Option (List ℕ)) (bytes : List ℕ) → AnsweredUpTo AnswersQuestionLine old new u v bytes → AnsweredUpTo AnswersQuestionLine old old u v bytes
up_to old new u v bytes it = subst (λ n. AnsweredUpTo AnswersQuestionLine old n u v bytes) (stays old new _ it.answers it.answered) it

within : {C : Type 0} (old new : DeskState C) (u v : Option (List ℕ)) (bytes : List ℕ) (left : Option (List ℕ)) → InterruptedWithin AnswersQuestionLine old new u v bytes left → InterruptedWithin AnswersQuestionLine old old u v bytes left
within old new u v bytes left it = subst (λ n. InterruptedWithin AnswersQuestionLine old n u v bytes left) (stays old new _ it.interrupted.answers it.interrupted.answered) it

ends : {C : Type 0} (old new : DeskState C) (input output : Stream) (r : Result Run RunFault) → EndsAs AnswersQuestionLine old new input output r → EndsAs AnswersQuestionLine old old input output r
ends old new input output (Ok run) it = (it.0, it.1, it.2, finished old new _ _ run _ it.3)
ends old new input output (Err Read) it = (it.0, it.1, it.2, up_to old new _ _ it.1 it.3)
ends old new input output (Err Write) it = (it.0, it.1, it.2, within old new _ _ it.1 _ it.3)
ends old new input output (Err Memory) it = (it.0, it.1, within old new _ _ it.0 _ it.2)

pub returns-clause-ends : goal.returns-clause-ends
returns-clause-ends g c = ends _ _ _ _ c.run_lines.result c.run_lines.ensures.ends
