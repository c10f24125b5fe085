-- What the status 200 says of a command, and which commands took effect where exchanges came one after another.
use Rattle.std.proofs.Common.{◌≡◌, ◌≢◌, ◌∙◌, inl, inr, refl, ap, sym, subst, arith, ℕ, zero, suc, List, [], ◌∷◌, ◌++◌, take, drop, length, true, Option, Some, None, append-nil}
use Rattle.std.specs.Prelude.{codes}
use Rattle.std.specs.List.{AllByRecursion}
use Rattle.std.proofs.lemmas.Bool.{false≢true}
use Rattle.std.proofs.lemmas.Option.{none-some, same_Some}
use Rattle.std.specs.Fmt.{digits}
use Rattle.http.specs.StatusCode.{status_text}
use Rattle.httparse.specs.Ascii.{crlf_bytes}
use Rattle.httparse.specs.Grammar.{ReadsRequest, print_request}
use Rattle.httparse.specs.Spans.{RequestOverflows}
use Rattle.httparse.proofs.GrammarLemmas.{request_unique}
use Rattle.sqlite.specs.State.{State as Disk}
use Rattle.adm_types.specs.declared.commands.Command.{Command}
use Rattle.adm_csv.specs.declared.fault.Fault.{Fault}
use Rattle.adm_csv.specs.declared.fault.Fault.TheVariants as row_fault
use Rattle.adm_wire.specs.declared.fault.WireFault.{WireFault}
use Rattle.adm_wire.specs.declared.fault.WireFault.TheVariants as fault
use Rattle.adm_desk.specs.Acknowledged.{acknowledged}
use Rattle.adm_desk.specs.DeskState.{DeskState}
use Rattle.adm_desk.specs.Lines.{answer_text}
use Rattle.adm_desk.specs.declared.answer.Answer.{Answer}
use Rattle.adm_desk.specs.declared.answer.Answer.TheVariants.{Done, Refused, Memory, Failed}
use Rattle.adm_desk.specs.declared.answer.LineAnswer.TheVariants.{Faulty}
use Rattle.adm_http.specs.Heads.{HeadDecides, IsJudgement, head_verdict, window}
use Rattle.adm_http.specs.Replies.{status_of_command, status_of_fault, status_of_row_fault}
use Rattle.adm_http.specs.Responses.{of_answer}
use Rattle.adm_http.specs.Texts.{Response, bare, json, line, response_bytes}
use Rattle.adm_http.specs.declared.body_answer.BodyAnswer.TheVariants.{Line, Unread}
use Rattle.adm_http.specs.declared.heads.Judgement.{Judgement}
use Rattle.adm_http.specs.declared.heads.Judgement.TheVariants.{Whole, Malformed, Unfinished}
use Rattle.adm_http.specs.declared.heads.Verdict.{Verdict}
use Rattle.adm_http.specs.declared.heads.Verdict.TheVariants.{Run}
use Rattle.adm_http.specs.declared.routes.Purpose.{Purpose}
use Rattle.adm_http.specs.declared.routes.Purpose.TheVariants as purpose
use Rattle.adm_program_laws.specs.Effects.{IsEffect}
use Rattle.adm_program_laws.specs.Exchanges.{AnswersTo, Exchange, HasEffect, HasNoCommand, HasStatus200, IsCommandFor, LacksStatus200, Moves, SendsCommand, ServesExchange, ServesExchanges, TookEffect, command_response, commands_of, with_answered}

-- ---- the status in the bytes of a response

-- bytes that part after a common beginning do not begin alike
apart : (p : List ℕ) (n x y : ℕ) (more rest : List ℕ) → x ≢ y → take n (p ++ x ∷ more) ≡ p ++ y ∷ rest → ⊥
apart [] zero x y more rest differ e = cc
apart [] (suc n) x y more rest differ e = differ cc
apart (z ∷ p) zero x y more rest differ e = cc
apart (z ∷ p) (suc n) x y more rest differ e = apart p n x y more rest differ cc

-- the text of the status does not begin as that of 200 does
IsOther : ℕ → Type 0
IsOther status = (x : ℕ) × (more : List ℕ) × (x ≢ 50) × (status_text status ≡ x ∷ more)

other_400 : IsOther 400
unfolding IsOther digits
other_400 = (52, _, (λ same. omega (arith, same)), refl)

other_409 : IsOther 409
unfolding IsOther digits
other_409 = (52, _, (λ same. omega (arith, same)), refl)

other_503 : IsOther 503
unfolding IsOther digits
other_503 = (53, _, (λ same. omega (arith, same)), refl)

other_fault : (f : WireFault) → IsOther (status_of_fault f)
other_fault fault.Memory = other_503
other_fault fault.NotJson = other_400
other_fault fault.UnknownCommand = other_400
other_fault fault.MissingField = other_400
other_fault fault.WrongKind = other_400
other_fault fault.ExtraField = other_400

other_row_fault : (f : Fault) → IsOther (status_of_row_fault f)
other_row_fault row_fault.Memory = other_503
other_row_fault row_fault.Header = other_400
other_row_fault row_fault.FieldCount = other_400
other_row_fault row_fault.BadNumber = other_400
other_row_fault row_fault.BadDate = other_400
other_row_fault row_fault.BadText = other_400
other_row_fault row_fault.TooManyRows = other_400
other_row_fault row_fault.Read = other_400

apart_after : (written : List ℕ) (size x : ℕ) (more text lines : List ℕ) → x ≢ 50 → text ≡ x ∷ more → written ≡ take size (line (codes "HTTP/1.1 " ++ text) lines) → HasStatus200 written → ⊥
apart_after written size x more text lines differ same is has =
    let begins = sym (is ∙ ap (λ (t : List ℕ). take size (line (codes "HTTP/1.1 " ++ t) lines)) same) ∙ has.1 in
    apart (codes "HTTP/1.1 ") size x 50 (more ++ (crlf_bytes ++ lines)) (48 ∷ 48 ∷ has.0) differ begins

-- a beginning of a response of such a status does not have the status 200
not_200 : (written : List ℕ) (size : ℕ) (r : Response) → IsOther r.status → written ≡ take size (response_bytes r) → HasStatus200 written → ⊥
unfolding IsOther response_bytes
not_200 written size r other is has = apart_after written size other.0 other.1 (status_text r.status) _ other.2 other.3 is has

no_bytes : (size : ℕ) → take {A = ℕ} size [] ≡ []
no_bytes zero = refl
no_bytes (suc n) = refl

-- nor does nothing
not_nothing : (written : List ℕ) (size : ℕ) → written ≡ take size [] → HasStatus200 written → ⊥
not_nothing written size is has = let none : [] ≡ codes "HTTP/1.1 200" ++ has.0 = sym (no_bytes size) ∙ (sym is ∙ has.1) in cc

-- ---- the request of a command is judged in one way

-- a head that fits is not refused
fits : (bytes : List ℕ) (len : ℕ) (verdict : Verdict) → HeadDecides bytes len verdict → RequestOverflows 64 (window bytes) → ⊥
fits bytes len verdict it over =
    let rest = drop (length (print_request it.head)) (window bytes) in
    let many = over [] it.head rest (subst (λ b. ReadsRequest b it.head rest) (sym (append-nil (window bytes))) it.has.reads) in
    omega (arith, many, it.has.room)

one_judgement : (bytes : List ℕ) (j : Judgement) (len : ℕ) (verdict : Verdict) → IsJudgement bytes j → HeadDecides bytes len verdict → j ≡ Whole len verdict
one_judgement bytes (Whole m other) len verdict a b =
    let same = request_unique (window bytes) a.head b.head _ _ a.has.reads b.has.reads in
    let length_is : m ≡ len = a.len_is ∙ ap (λ h. length (print_request h)) same.0 ∙ sym b.len_is in
    let verdict_is : other ≡ verdict = a.verdict_is ∙ ap head_verdict same.0 ∙ sym b.verdict_is in
    cc (length_is, verdict_is)
one_judgement bytes Malformed len verdict a b = absurd (fits bytes len verdict b a)
one_judgement bytes Unfinished len verdict a b = absurd (a.0 b.head _ b.has.reads)

-- ---- one exchange

-- the response to no command has the status 200 for no request that is one
not_for : (written : List ℕ) (size : ℕ) (response : List ℕ) → written ≡ take size response → (for : Purpose) (body : List ℕ) (command : Command) (head length : ℕ) → IsCommandFor for body command
    → HasNoCommand (Whole head (Run for length)) response → HasStatus200 written → ⊥
not_for written size response is purpose.Command body command head length sent none has = elim none [
  | inl short ↦ not_200 written size (bare 400) other_400 (is ∙ ap (take size) short) has
  | inr it ↦ not_200 written size (of_answer (Line (Faulty it.0))) (other_fault it.0) (is ∙ ap (take size) it.1) has
]
not_for written size response is purpose.Import body command head length sent none has = elim none [
  | inl short ↦ not_200 written size (bare 400) other_400 (is ∙ ap (take size) short) has
  | inr it ↦ not_200 written size (of_answer (Unread it.0)) (other_row_fault it.0.fault) (is ∙ ap (take size) it.1) has
]
not_for written size response is purpose.Question body command head length sent none has = absurd sent

lacks_none : (e : Exchange) (size : ℕ) (response : List ℕ) → e.written ≡ take size response → AnswersTo e.request response None → LacksStatus200 e
lacks_none e size response is (inl none) command sent has = not_nothing e.written size (is ∙ ap (take size) none) has
lacks_none e size response is (inr (j, judged, none)) command sent has =
    let same = one_judgement e.request j sent.head (Run sent.purpose sent.size) judged sent.judged in
    not_for e.written size response is sent.purpose _ command sent.head sent.size sent.body (subst (λ k. HasNoCommand k response) same none) has

lacks_other : (e : Exchange) (size : ℕ) (response : List ℕ) (a : Answer) → IsOther (status_of_command a) → e.written ≡ take size response → response ≡ command_response a → LacksStatus200 e
lacks_other e size response a other is answer command sent has = not_200 e.written size (json (status_of_command a) (answer_text a)) other (is ∙ ap (take size) answer) has

-- ---- any number of exchanges

pub no_effect : (done : List Command) → IsEffect [] done → done ≡ []
no_effect done (inl same) = same
no_effect done (inr it) = absurd (none-some it.0 it.1)

none_took : (served : List Exchange) → AllByRecursion LacksStatus200 served → TookEffect served []
none_took [] all = refl
none_took (e ∷ served) all = inr (inl (all.0, none_took served all.1))

module _ {C : Type 0} (disk : C → Disk) where
  -- a desk that failed stays so
  stays_failed : (o : Option (Command × Answer)) (old new : DeskState C) → Moves disk o old new → old.failed ≡ true → new.failed ≡ true
  stays_failed None old new same failed = ap (λ (s : DeskState C). s.failed) same ∙ failed
  stays_failed (Some (c, Done reply)) old new it failed = absurd (false≢true (sym it.0 ∙ failed))
  stays_failed (Some (c, Refused refusal row)) old new it failed = absurd (false≢true (sym it.0 ∙ failed))
  stays_failed (Some (c, Memory)) old new it failed = absurd (false≢true (sym it.0 ∙ failed))
  stays_failed (Some (c, Failed)) old new it failed = it.0

  -- so it answers no command with 200
  failed_lacks : (e : Exchange) (size : ℕ) (response : List ℕ) → e.written ≡ take size response → (o : Option (Command × Answer)) (old new : DeskState C) → AnswersTo e.request response o
      → Moves disk o old new → old.failed ≡ true → LacksStatus200 e × ((more : List (Command × Answer)) → acknowledged (with_answered o more) ≡ acknowledged more)
  failed_lacks e size response is None old new answers it failed = (lacks_none e size response is answers, λ more. refl)
  failed_lacks e size response is (Some (c, Done reply)) old new answers it failed = absurd (false≢true (sym it.0 ∙ failed))
  failed_lacks e size response is (Some (c, Refused refusal row)) old new answers it failed = absurd (false≢true (sym it.0 ∙ failed))
  failed_lacks e size response is (Some (c, Memory)) old new answers it failed = absurd (false≢true (sym it.0 ∙ failed))
  failed_lacks e size response is (Some (c, Failed)) old new answers it failed = (lacks_other e size response Failed other_503 is answers.1, λ more. refl)

  all_lack : (old new : DeskState C) (served : List Exchange) → old.failed ≡ true → ServesExchanges disk old served new
      → AllByRecursion LacksStatus200 served × (acknowledged (commands_of served) ≡ [])
  all_lack old new [] failed it = (tt, refl)
  all_lack old new (e ∷ served) failed (mid, s, rest) =
      let more = all_lack mid new served (stays_failed e.answered old mid s.moves failed) rest in
      let here = failed_lacks e s.is.size s.is.response s.is.written e.answered old mid s.is.command s.moves failed in
      ((here.0, more.0), here.1 (commands_of served) ∙ more.1)

  -- the first of exchanges, by its command and the answer
  first_took : (old mid new : DeskState C) (e : Exchange) (more : List Exchange) (s : ServesExchange disk old e mid) → ServesExchanges disk mid more new
      → ((done : List Command) → IsEffect (commands_of more) done → TookEffect more done) → (o : Option (Command × Answer)) → e.answered ≡ o → AnswersTo e.request s.is.response o → Moves disk o old mid
      → (done : List Command) → IsEffect (with_answered o (commands_of more)) done → TookEffect (e ∷ more) done
  first_took old mid new e more s rest later None which answers it done is = inr (inl (lacks_none e s.is.size s.is.response s.is.written answers, later done is))
  first_took old mid new e more s rest later (Some (c, Done reply)) which answers it done is = elim is [
    | inl same ↦ inl (c, acknowledged (commands_of more), has, later (acknowledged (commands_of more)) (inl refl), same)
    | inr (last, flew, same) ↦
        inl (c, acknowledged (commands_of more) ++ last ∷ [], has, later (acknowledged (commands_of more) ++ last ∷ []) (inr (last, flew, refl)), same)
  ]
    where
      has : HasEffect e c
      has = record { sent = answers.0; begins = (answer_text (Done reply), s.is.size, s.is.written ∙ ap (take s.is.size) answers.1) }
  first_took old mid new e more s rest later (Some (c, Refused refusal row)) which answers it done is =
      inr (inl (lacks_other e s.is.size s.is.response (Refused refusal row) other_409 s.is.written answers.1, later done is))
  first_took old mid new e more s rest later (Some (c, Memory)) which answers it done is =
      inr (inl (lacks_other e s.is.size s.is.response Memory other_503 s.is.written answers.1, later done is))
  first_took old mid new e more s rest later (Some (c, Failed)) which answers it done is =
      let lacks = lacks_other e s.is.size s.is.response Failed other_503 s.is.written answers.1 in
      let none = all_lack mid new more it.0 rest in
      elim is [
        | inl same ↦ inr (inl (lacks, subst (TookEffect more) (sym (same ∙ none.1)) (none_took more none.0)))
        | inr (last, flew, same) ↦ inr (inr (
          last,
          record {
            sent = subst (λ (command : Command). SendsCommand e.request command) (same_Some c last flew) answers.0;
            failed = which ∙ ap (λ (command : Command). Some (command, Failed)) (same_Some c last flew);
            lacks = lacks;
            none_later = none.0;
          },
          same ∙ ap (λ (xs : List Command). xs ++ last ∷ []) none.1,
        ))
      ]

  -- the commands that took effect, by the bytes of the exchanges
  pub took : (old new : DeskState C) (served : List Exchange) → ServesExchanges disk old served new → (done : List Command) → IsEffect (commands_of served) done → TookEffect served done
  took old new [] it done is = no_effect done is
  took old new (e ∷ served) (mid, s, rest) done is = first_took old mid new e served s rest (took mid new served rest) e.answered refl s.is.command s.moves done is
