-- Requests that were answered, as commands.
use Rattle.std.proofs.Common.{◌≡◌, ◌⊎◌, ℕ, zero, suc, Bool, true, false, MatchBool, nat_le, take, drop, length, length-append, List, [], ◌∷◌, ◌++◌, inl, inr, refl, sym, subst, arith}
use Rattle.sqlite.specs.State.{State as Disk}
use Rattle.adm_lists.proofs.Each.{each_push}
use Rattle.adm_types.specs.declared.commands.Command.{Command}
use Rattle.adm_types.specs.declared.commands.Command.TheVariants as command
use Rattle.adm_wire.specs.declared.fault.WireFault.{WireFault}
use Rattle.adm_wire.specs.declared.fault.WireFault.TheVariants as fault
use Rattle.adm_desk.specs.DeskState.{DeskState, Handles}
use Rattle.adm_desk.specs.Lines.{AnswersLine}
use Rattle.adm_desk.specs.declared.answer.Answer.{Answer}
use Rattle.adm_desk.specs.declared.answer.LineAnswer.TheVariants.{Handled, Faulty, Queried}
use Rattle.adm_http.specs.Bodies.{IsOfBody, HandlesEach, AnswersBodies}
use Rattle.adm_http.specs.Purposes.{RunsBody}
use Rattle.adm_http.specs.Responses.{Carries, OnJudgement, Responds, of_answer}
use Rattle.adm_http.specs.Heads.{verdict_at_end}
use Rattle.adm_http.specs.Shows.{Shows}
use Rattle.adm_http.specs.Texts.{Response, bare}
use Rattle.adm_http.specs.declared.body_answer.BodyAnswer.{BodyAnswer}
use Rattle.adm_http.specs.declared.body_answer.BodyAnswer.TheVariants.{Line, Unread}
use Rattle.adm_http.specs.declared.heads.Judgement.{Judgement}
use Rattle.adm_http.specs.declared.heads.Judgement.TheVariants.{Whole, Malformed, Unfinished}
use Rattle.adm_http.specs.declared.heads.Verdict.{Verdict}
use Rattle.adm_http.specs.declared.heads.Verdict.TheVariants.{Reject, NotAllowed, Show, Run}
use Rattle.adm_http.specs.declared.routes.Purpose.{Purpose}
use Rattle.adm_http.specs.declared.routes.Purpose.TheVariants as purpose

-- one command more
each_more : {S : Type 0} (step : S → Command → Answer → S → Type 0) (old mid new : S) (answered : List (Command × Answer)) (c : Command) (answer : Answer)
    → HandlesEach step old answered mid → step mid c answer new → HandlesEach step old (answered ++ (c, answer) ∷ []) new
each_more {S} step old mid new [] c answer same by = (new, subst (λ (s : S). step s c answer new) same by, refl)
each_more step old mid new ((first, a) ∷ answered) c answer it by = (it.0, it.1, each_more step it.0 mid new answered c answer it.2 by)

module _ {C : Type 0} (disk : C → Disk) where
  -- one command that some body is was answered, or none
  abbrev OneCommand : DeskState C → DeskState C → Type 0
  OneCommand old new = (new ≡ old) ⊎ ((answered : Command × Answer) × IsOfBody answered × Handles disk old answered.0 answered.1 new)

  no_command : (old new : DeskState C) (body : List ℕ) (f : WireFault) → AnswersLine (Handles disk) old body (Faulty f) new → new ≡ old
  no_command old new body fault.Memory it = it
  no_command old new body fault.NotJson it = it.1
  no_command old new body fault.UnknownCommand it = it.1
  no_command old new body fault.MissingField it = it.1
  no_command old new body fault.WrongKind it = it.1
  no_command old new body fault.ExtraField it = it.1

  ran : (for : Purpose) (old new : DeskState C) (body : List ℕ) (answer : BodyAnswer) → RunsBody disk for old body answer new → OneCommand old new
  ran purpose.Command old new body (Line (Handled a)) it = inr ((it.0, a), (body, inl it.1), it.2)
  ran purpose.Command old new body (Line (Faulty f)) it = inl (no_command old new body f it)
  ran purpose.Command old new body (Line (Queried a)) it = absurd it
  ran purpose.Command old new body (Unread f) it = absurd it
  ran purpose.Import old new body (Line (Handled a)) it = inr ((command.Import it.0, a), (body, inr (it.0, it.1, refl)), it.2)
  ran purpose.Import old new body (Line (Faulty f)) it = absurd it
  ran purpose.Import old new body (Line (Queried a)) it = absurd it
  ran purpose.Import old new body (Unread f) it = inl it.1
  ran purpose.Question old new body (Line a) it = inl it.1
  ran purpose.Question old new body (Unread f) it = absurd it

  -- a body was run, or it was too short
  run_or_short : (for : Purpose) (old new : DeskState C) (body : List ℕ) (response : Response) (is_whole : Bool)
      → MatchBool is_whole ((answer : BodyAnswer) × RunsBody disk for old body answer new × (response ≡ of_answer answer)) ((response ≡ bare 400) × (new ≡ old)) → OneCommand old new
  run_or_short for old new body response true it = ran for old new body it.0 it.1
  run_or_short for old new body response false it = inl it.1

  carried : (old new : DeskState C) (rest : List ℕ) (verdict : Verdict) (response : Response) → Carries (RunsBody disk) Shows old rest verdict response new → OneCommand old new
  carried old new rest (Reject status) response it = inl it.1
  carried old new rest (NotAllowed verb) response it = inl it.1
  carried old new rest (Show resource) response it = inl it.3
  carried old new rest (Run for n) response it = run_or_short for old new (take n rest) response (nat_le n (length rest)) it

  judged : (old new : DeskState C) (input : List ℕ) (judgement : Judgement) (response : Response) → OnJudgement (RunsBody disk) Shows old input judgement response new → OneCommand old new
  judged old new input (Whole len verdict) response it = carried old new (drop len input) verdict response it
  judged old new input Malformed response it = carried old new input (verdict_at_end input Malformed) response it
  judged old new input Unfinished response it = carried old new input (verdict_at_end input Unfinished) response it

  responded : (old new : DeskState C) (input output : List ℕ) → Responds (RunsBody disk) Shows old input output new → OneCommand old new
  responded old new [] output it = inl it.1
  responded old new (b ∷ input) output it = judged old new (b ∷ input) it.1.0 it.0 it.1.2

  pub answers_bodies : AnswersBodies disk
  answers_bodies zero old new same = ([], omega arith, tt, same)
  answers_bodies (suc n) old new (mid, before, one) =
      let first = answers_bodies n old mid before in
      let last : OneCommand mid new = elim one [ inl same ↦ inl same | inr request ↦ responded mid new request.0 request.1 request.2 ] in
      elim last [
        | inl same ↦ (first.0, omega (arith, first.1), first.2, subst (λ (d : DeskState C). HandlesEach (Handles disk) old first.0 d) (sym same) first.3)
        | inr it ↦ (
          first.0 ++ it.0 ∷ [],
          omega (arith, first.1, length-append first.0 (it.0 ∷ [])),
          each_push IsOfBody first.0 it.0 first.2 it.1,
          each_more (Handles disk) old mid new first.0 it.0.0 it.0.1 first.3 it.2,
        )
      ]
