-- What serving connections keeps, turn by turn.
use Rattle.std.proofs.Common.{◌≡◌, ◌≤◌, ◌∙◌, inl, inr, refl, ap, sym, subst, arith, ℕ, zero, suc, Bool, true, false, MatchBool, nat_le, not, List, [], ◌∷◌, ◌++◌, filter, map, length, length-append, take, drop, Option, Some, None, Result, Ok, Err, append_assoc}
use Rattle.std.specs.Io.KnownBytes.{Consumes}
use Rattle.std.specs.List.{AllByRecursion, AllZip}
use Rattle.std.proofs.Math.Seq.{take-length}
use Rattle.std.proofs.lemmas.Bool.{false≢true}
use Rattle.std.proofs.lemmas.List.{append-nil}
use Rattle.std.proofs.lemmas.Option.{none-some, same_Some}
use mathlib.Core.List.{map-append}
use Rattle.sqlite.specs.State.{State as Disk}
use Rattle.adm_types.specs.declared.commands.Command.{Command}
use Rattle.adm_types.specs.declared.commands.Command.TheVariants as command
use Rattle.adm_wire.specs.declared.fault.WireFault.{WireFault}
use Rattle.adm_wire.specs.declared.fault.WireFault.TheVariants as fault
use Rattle.adm_desk.specs.Acknowledged.{KeepsAcknowledged, in_flight}
use Rattle.adm_desk.specs.DeskState.{DeskState, Handles}
use Rattle.adm_desk.specs.Lines.{AnswersLine}
use Rattle.adm_desk.specs.declared.answer.Answer.{Answer}
use Rattle.adm_desk.specs.declared.answer.Answer.TheVariants.{Done, Refused, Failed}
use Rattle.adm_desk.specs.declared.answer.Answer.TheVariants as answer
use Rattle.adm_desk.specs.declared.answer.LineAnswer.TheVariants.{Handled, Faulty, Queried}
use Rattle.adm_desk.proofs.AcknowledgedLemmas.{RunsOver, keeps}
use Rattle.adm_desk.proofs.CrashLemmas.{each_again}
use Rattle.adm_http.specs.Connections.{EndedConnection, Exchanges, Moment, ServesEach, Takes, Traffic}
use Rattle.adm_http.specs.Heads.{IsJudgement}
use Rattle.adm_http.specs.Purposes.{RunsBody}
use Rattle.adm_http.specs.Reading.{Served, is_connection_fault}
use Rattle.adm_http.specs.Responses.{Carries, OnJudgement, Responds, of_answer}
use Rattle.adm_http.specs.Shows.{Shows}
use Rattle.adm_http.specs.Texts.{Response, bare, response_bytes}
use Rattle.adm_http.specs.declared.body_answer.BodyAnswer.{BodyAnswer}
use Rattle.adm_http.specs.declared.body_answer.BodyAnswer.TheVariants.{Line, Unread}
use Rattle.adm_http.specs.declared.heads.Judgement.{Judgement}
use Rattle.adm_http.specs.declared.heads.Judgement.TheVariants.{Whole, Malformed, Unfinished}
use Rattle.adm_http.specs.declared.heads.Verdict.{Verdict}
use Rattle.adm_http.specs.declared.heads.Verdict.TheVariants.{Reject, NotAllowed, Show, Run}
use Rattle.adm_http.specs.declared.routes.Purpose.{Purpose}
use Rattle.adm_http.specs.declared.routes.Purpose.TheVariants as purpose
use Rattle.adm_http.specs.declared.serve.ServeFault.{ServeFault}
use Rattle.adm_http.specs.declared.serve.ServeFault.TheVariants.{Read, Write, Memory}
use Rattle.adm_program_laws.specs.Exchanges.{AnswersTo, AreExchanged, AreRecorded, Exchange, HasNoCommand, IsAnswered, IsUndisturbed, IsWrittenBy, LeavesServed, Moves, SentFirst, ServedIsKept, ServesExchange, ServesExchanges, TookEffect, acknowledged_in, commands_of, ended_of, is_whole, unanswered_in, with_answered}
use Rattle.adm_program_laws.specs.Recorded.{IsMerged, recorded}
use Rattle.adm_program_laws.specs.Effects.{IsEffect}
use Rattle.adm_program_laws.proofs.AnsweredLemmas.{took}
use Rattle.adm_program_laws.proofs.Remaining.{effect}

-- ---- lists

one_more : {A B : Type 0} (R : A → B → Type 0) (xs : List A) (ys : List B) (x : A) (y : B) → AllZip R xs ys → R x y → AllZip R (xs ++ x ∷ []) (ys ++ y ∷ [])
one_more R [] [] x y all one = (one, tt)
one_more R [] (z ∷ ys) x y all one = absurd all
one_more R (w ∷ xs) [] x y all one = absurd all
one_more R (w ∷ xs) (z ∷ ys) x y all one = (all.0, one_more R xs ys x y all.1 one)

commands_more : (served : List Exchange) (e : Exchange) → commands_of (served ++ e ∷ []) ≡ commands_of served ++ with_answered e.answered []
commands_more [] e = refl
commands_more (first ∷ served) e = ap (with_answered first.answered) (commands_more served e) ∙ behind first.answered (commands_of served) (with_answered e.answered [])
  where
    behind : (o : Option (Command × Answer)) (xs ys : List (Command × Answer)) → with_answered o (xs ++ ys) ≡ with_answered o xs ++ ys
    behind None xs ys = refl
    behind (Some answered) xs ys = refl

runs_more : {S : Type 0} (step : S → Command → Answer → S → Type 0) (old mid new : S) (answered : List (Command × Answer)) (c : Command) (a : Answer)
    → RunsOver step old answered mid → step mid c a new → RunsOver step old (answered ++ (c, a) ∷ []) new
runs_more {S} step old mid new [] c a same by = (new, subst (λ (s : S). step s c a new) same by, refl)
runs_more step old mid new ((first, b) ∷ answered) c a it by = (it.0, it.1, runs_more step it.0 mid new answered c a it.2 by)

-- ---- recorded commands

-- the recorded commands of one more answer, before others, are one of two lists
merged_one : (answered : Option (Command × Answer)) (all : List (Command × Answer)) (xs ys : List (Command × Answer)) → IsMerged (recorded all) (recorded xs) (recorded ys)
    → IsMerged (recorded (with_answered answered all)) (recorded (with_answered answered xs)) (recorded ys)
merged_one None all xs ys it = it
merged_one (Some (c, Done reply)) all xs ys it = inl (recorded xs, refl, it)
merged_one (Some (c, Refused refusal row)) all xs ys it = it
merged_one (Some (c, answer.Memory)) all xs ys it = it
merged_one (Some (c, Failed)) all xs ys it = it

merged_other : (answered : Option (Command × Answer)) (all : List (Command × Answer)) (xs ys : List (Command × Answer)) → IsMerged (recorded all) (recorded xs) (recorded ys)
    → IsMerged (recorded (with_answered answered all)) (recorded xs) (recorded (with_answered answered ys))
merged_other None all xs ys it = it
merged_other (Some (c, Done reply)) all xs ys it = inr (recorded ys, refl, it)
merged_other (Some (c, Refused refusal row)) all xs ys it = it
merged_other (Some (c, answer.Memory)) all xs ys it = it
merged_other (Some (c, Failed)) all xs ys it = it

merged_by : (e : Exchange) (served : List Exchange) (ended : Result ℕ ServeFault) → e.ended ≡ ended → IsMerged (recorded (commands_of served)) (acknowledged_in served) (unanswered_in served)
    → IsMerged (recorded (commands_of (e ∷ served))) (acknowledged_in (e ∷ served)) (unanswered_in (e ∷ served))
merged_by e served (Ok n) is before =
    rw is (merged_one e.answered (commands_of served) (commands_of (filter is_whole served)) (commands_of (filter (λ it. not (is_whole it)) served)) before)
merged_by e served (Err f) is before =
    rw is (merged_other e.answered (commands_of served) (commands_of (filter is_whole served)) (commands_of (filter (λ it. not (is_whole it)) served)) before)

merged : (served : List Exchange) → IsMerged (recorded (commands_of served)) (acknowledged_in served) (unanswered_in served)
merged [] = (refl, refl)
merged (e ∷ served) = merged_by e served e.ended refl (merged served)

failed_by : (ended : Result ℕ ServeFault) (of : Result ℕ ServeFault) → ended ≡ of → is_connection_fault ended ≡ false → is_connection_fault of ≡ false
failed_by ended of is it = subst (λ (r : Result ℕ ServeFault). is_connection_fault r ≡ false) is it

answered_by : (e : Exchange) (served : List Exchange) (ended : Result ℕ ServeFault) → e.ended ≡ ended → IsUndisturbed e → unanswered_in served ≡ [] → unanswered_in (e ∷ served) ≡ []
answered_by e served (Ok n) is it before = rw is before
answered_by e served (Err Memory) is it before = absurd (it.1 is)
answered_by e served (Err Read) is it before = absurd (false≢true (sym (failed_by e.ended (Err Read) is it.0)))
answered_by e served (Err Write) is it before = absurd (false≢true (sym (failed_by e.ended (Err Write) is it.0)))

all_answered : (served : List Exchange) → AllByRecursion IsUndisturbed served → unanswered_in served ≡ []
all_answered [] it = refl
all_answered (e ∷ served) it = answered_by e served e.ended refl it.0 (all_answered served it.1)

pub are_recorded : (served : List Exchange) → AreRecorded served
are_recorded served = record { merged = merged served; undisturbed = all_answered served }

-- no connection was taken
pub no_exchange : (a b : Option Traffic) → b ≡ a → AreExchanged a b []
no_exchange None b is = tt
no_exchange (Some t) None is = absurd (none-some t is)
no_exchange (Some t) (Some u) is = subst (λ (w : Traffic). AreExchanged (Some t) (Some w) []) (sym (same_Some u t is)) ([], refl, sym (append-nil t.answered), tt)

-- ---- one request

module _ {C : Type 0} (disk : C → Disk) where
  pub record Did (old new : DeskState C) (input output : List ℕ) : Type 0 where
    pub answered : Option (Command × Answer)
    pub moves : Moves disk answered old new
    pub is : AnswersTo input output answered

  did_nothing : (old new : DeskState C) (input output : List ℕ) → AnswersTo input output None → new ≡ old → Did old new input output
  did_nothing old new input output none same = record { answered = None; moves = same; is = none }

  no_command : (old new : DeskState C) (body : List ℕ) (f : WireFault) → AnswersLine (Handles disk) old body (Faulty f) new → new ≡ old
  no_command old new body fault.Memory it = it
  no_command old new body fault.NotJson it = it.1
  no_command old new body fault.UnknownCommand it = it.1
  no_command old new body fault.MissingField it = it.1
  no_command old new body fault.WrongKind it = it.1
  no_command old new body fault.ExtraField it = it.1

  module _ (old new : DeskState C) (input output : List ℕ) where
    -- nothing was done for bytes that are judged so
    unchanged : (judgement : Judgement) → IsJudgement input judgement → HasNoCommand judgement output → new ≡ old → Did old new input output
    unchanged judgement judged none same = did_nothing old new input output (inr (judgement, judged, none)) same

    -- the body was short
    short : (for : Purpose) (head size : ℕ) → output ≡ response_bytes (bare 400) → HasNoCommand (Whole head (Run for size)) output
    short purpose.Command head size is = inl is
    short purpose.Import head size is = inl is
    short purpose.Question head size is = tt

    ran : (for : Purpose) (head size : ℕ) → IsJudgement input (Whole head (Run for size)) → (answer : BodyAnswer) → RunsBody disk for old (take size (drop head input)) answer new
        → output ≡ response_bytes (of_answer answer) → Did old new input output
    ran purpose.Command head size judged (Line (Handled a)) it is = record {
      answered = Some (it.0, a);
      moves = it.2;
      is = (record { head = head; size = size; purpose = purpose.Command; judged = judged; body = it.1 }, is);
    }
    ran purpose.Command head size judged (Line (Faulty f)) it is =
        unchanged (Whole head (Run purpose.Command size)) judged (inr (f, is)) (no_command old new (take size (drop head input)) f it)
    ran purpose.Command head size judged (Line (Queried a)) it is = absurd it
    ran purpose.Command head size judged (Unread f) it is = absurd it
    ran purpose.Import head size judged (Line (Handled a)) it is = record {
      answered = Some (command.Import it.0, a);
      moves = it.2;
      is = (record { head = head; size = size; purpose = purpose.Import; judged = judged; body = (it.0, it.1, refl) }, is);
    }
    ran purpose.Import head size judged (Line (Faulty f)) it is = absurd it
    ran purpose.Import head size judged (Line (Queried a)) it is = absurd it
    ran purpose.Import head size judged (Unread f) it is = unchanged (Whole head (Run purpose.Import size)) judged (inr (f, is)) it.1
    ran purpose.Question head size judged (Line a) it is = unchanged (Whole head (Run purpose.Question size)) judged tt it.1
    ran purpose.Question head size judged (Unread f) it is = absurd it

    run_or_short : (for : Purpose) (head size : ℕ) → IsJudgement input (Whole head (Run for size)) → (response : Response) → output ≡ response_bytes response → (is_whole : Bool)
        → MatchBool is_whole ((answer : BodyAnswer) × RunsBody disk for old (take size (drop head input)) answer new × (response ≡ of_answer answer)) ((response ≡ bare 400) × (new ≡ old))
        → Did old new input output
    run_or_short for head size judged response is true it = ran for head size judged it.0 it.1 (is ∙ ap response_bytes it.2)
    run_or_short for head size judged response is false it =
        unchanged (Whole head (Run for size)) judged (short for head size (is ∙ ap response_bytes it.0)) it.1

    carried : (head : ℕ) (verdict : Verdict) → IsJudgement input (Whole head verdict) → (response : Response) → output ≡ response_bytes response
        → Carries (RunsBody disk) Shows old (drop head input) verdict response new → Did old new input output
    carried head (Reject status) judged response is it = unchanged (Whole head (Reject status)) judged tt it.1
    carried head (NotAllowed verb) judged response is it = unchanged (Whole head (NotAllowed verb)) judged tt it.1
    carried head (Show resource) judged response is it = unchanged (Whole head (Show resource)) judged tt it.3
    carried head (Run for size) judged response is it = run_or_short for head size judged response is (nat_le size (length (drop head input))) it

    judged_so : (judgement : Judgement) → IsJudgement input judgement → (response : Response) → output ≡ response_bytes response
        → OnJudgement (RunsBody disk) Shows old input judgement response new → Did old new input output
    judged_so (Whole head verdict) judged response is it = carried head verdict judged response is it
    judged_so Malformed judged response is it = unchanged Malformed judged (is ∙ ap response_bytes it.0) it.1
    judged_so Unfinished judged response is it =
        unchanged Unfinished judged (nat_le 8192 (length input), is ∙ ap response_bytes it.0) it.1

  responded : (old new : DeskState C) (input output : List ℕ) → Responds (RunsBody disk) Shows old input output new → Did old new input output
  responded old new [] output it = did_nothing old new [] output (inl it.0) it.1
  responded old new (b ∷ input) output it = judged_so old new (b ∷ input) output it.1.0 it.1.1 it.0 it.2 it.1.2

  -- ---- one turn

  -- a connection of these bytes was served
  pub record Turned (old new : DeskState C) (unread : Option (List ℕ)) (written : List ℕ) (result : Result ℕ ServeFault) : Type 0 where
    pub request : List ℕ
    pub left : Option (List ℕ)
    pub consumed : Consumes unread left request
    pub answered : Option (Command × Answer)
    pub serves : ServesExchange disk old (record { request = request; written = written; ended = result; answered = answered }) new

  turned : (old new : DeskState C) (unread left : Option (List ℕ)) (written got output : List ℕ) (n : ℕ) → Consumes unread left got → written ≡ take n output
      → (result : Result ℕ ServeFault) → IsWrittenBy result output written → Responds (RunsBody disk) Shows old got output new → Turned old new unread written result
  turned old new unread left written got output n consumed is result whole it =
      let did = responded old new got output it in
      record {
        request = got;
        left = left;
        consumed = consumed;
        answered = did.answered;
        serves = record { is = record { response = output; size = n; written = is; whole = whole; command = did.is }; responds = inl it; moves = did.moves };
      }

  -- nothing was done for these bytes
  idle : (old new : DeskState C) (unread left : Option (List ℕ)) (written got : List ℕ) → Consumes unread left got → new ≡ old → written ≡ [] → (result : Result ℕ ServeFault)
      → IsWrittenBy result [] written → Turned old new unread written result
  idle old new unread left written got consumed same none result whole = record {
    request = got;
    left = left;
    consumed = consumed;
    answered = None;
    serves = record { is = record { response = []; size = 0; written = none; whole = whole; command = inl refl }; responds = inr (refl, same); moves = same };
  }

  turn : (old new : DeskState C) (unread left : Option (List ℕ)) (written : List ℕ) (result : Result ℕ ServeFault)
      → Served (RunsBody disk) Shows (record { before = old; after = new; unread = unread; left = left }) (Some []) (Some written) result → Turned old new unread written result
  turn old new unread left written (Ok n) it = turned old new unread left written it.0 it.1 (length it.1) it.2.consumed (it.4 ∙ sym (take-length it.1)) (Ok n) it.4 it.3
  turn old new unread left written (Err Write) it = turned old new unread left written it.0 it.1 it.4.0 it.2.consumed it.4.1 (Err Write) it.4 it.3
  turn old new unread left written (Err Read) it = idle old new unread left written it.0 it.1.consumed it.2 it.3 (Err Read) (refl, it.3)
  turn old new unread left written (Err Memory) it = elim it.3 [
    | inl same ↦ idle old new unread left written it.0 it.1.consumed same it.2 (Err Memory) it.2
    | inr run ↦ turned old new unread left written it.0 run.0 0 run.1.consumed it.2 (Err Memory) it.2 run.2
  ]

  -- ---- any number of turns

  pub record ServedSo (count : ℕ) (old new : Moment (DeskState C)) : Type 0 where
    pub served : List Exchange
    pub few : length served ≤ count
    pub exchanged : AreExchanged old.traffic new.traffic served
    pub serves : ServesExchanges disk old.desk served new.desk
    pub run : RunsOver (Handles disk) old.desk (commands_of served) new.desk

  -- the traffic after a turn to which no connection came
  after_none : (old mid new : Option Traffic) (served : List Exchange) (failed : ℕ) → AreExchanged old mid served → Takes mid new failed None → AreExchanged old new served
  after_none None mid new served failed it taken = tt
  after_none (Some t) None new served failed it taken = absurd it
  after_none (Some t) (Some m) None served failed it taken = absurd taken
  after_none (Some t) (Some m) (Some u) served failed it taken = subst (λ (w : Traffic). AreExchanged (Some t) (Some w) served) (sym taken.1) it

  -- and after the turn of one
  after_one : (old mid new : Option Traffic) (served : List Exchange) (e : Exchange) (failed : ℕ) (unread left : Option (List ℕ)) → AreExchanged old mid served
      → Exchanges mid new failed unread (ended_of e) → Consumes unread left e.request → AreExchanged old new (served ++ e ∷ [])
  after_one None mid new served e failed unread left it exchanged consumed = tt
  after_one (Some t) None new served e failed unread left it exchanged consumed = absurd it
  after_one (Some t) (Some m) None served e failed unread left it exchanged consumed = absurd exchanged
  after_one (Some t) (Some m) (Some u) served e failed unread left it exchanged consumed =
      let bytes = exchanged.0 in (
        it.0 ++ bytes ∷ [],
        it.1 ∙ ap (λ (xs : List (List ℕ)). it.0 ++ xs) exchanged.2 ∙ sym (append_assoc it.0 (bytes ∷ []) u.coming),
        exchanged.3 ∙ ap (λ (xs : List EndedConnection). xs ++ ended_of e ∷ []) it.2 ∙ append_assoc t.answered (map ended_of served) (ended_of e ∷ [])
            ∙ ap (λ (xs : List EndedConnection). t.answered ++ xs) (sym (map-append ended_of served (e ∷ []))),
        one_more SentFirst served it.0 e bytes it.3 (first left (subst (λ (o : Option (List ℕ)). Consumes o left e.request) exchanged.1 consumed)),
      )
    where
      first : (o : Option (List ℕ)) → Consumes (Some exchanged.0) o e.request → SentFirst e exchanged.0
      first None it = absurd it
      first (Some more) it = (more, it)

  -- one exchange more
  serves_more : (old mid new : DeskState C) (served : List Exchange) (e : Exchange) → ServesExchanges disk old served mid → ServesExchange disk mid e new → ServesExchanges disk old (served ++ e ∷ []) new
  serves_more old mid new [] e same it = (new, subst (λ (s : DeskState C). ServesExchange disk s e new) same it, refl)
  serves_more old mid new (first ∷ served) e run it = (run.0, run.1, serves_more run.0 mid new served e run.2 it)

  -- the command of the last exchange comes after the others
  last_command : (old mid new : DeskState C) (served : List Exchange) (answered : Option (Command × Answer)) → RunsOver (Handles disk) old (commands_of served) mid → Moves disk answered mid new
      → RunsOver (Handles disk) old (commands_of served ++ with_answered answered []) new
  last_command old mid new served None run same =
      subst (λ (xs : List (Command × Answer)). RunsOver (Handles disk) old xs new) (sym (append-nil (commands_of served))) (subst (λ (s : DeskState C). RunsOver (Handles disk) old (commands_of served) s) (sym same) run)
  last_command old mid new served (Some (c, a)) run by = runs_more (Handles disk) old mid new (commands_of served) c a run by

  pub each_turn : (count : ℕ) (old new : Moment (DeskState C)) → ServesEach (RunsBody disk) Shows count old new → ServedSo count old new
  each_turn zero old new same = record { served = []; few = omega arith; exchanged = no_exchange old.traffic new.traffic (ap (λ (m : Moment (DeskState C)). m.traffic) same); serves = ap (λ (m : Moment (DeskState C)). m.desk) same; run = ap (λ (m : Moment (DeskState C)). m.desk) same }
  each_turn (suc n) old new (mid, before, now) =
      let so = each_turn n old mid before in
      elim now [
        | inl none ↦ record {
          served = so.served;
          few = omega (arith, so.few);
          exchanged = after_none old.traffic mid.traffic new.traffic so.served none.failed so.exchanged none.none;
          serves = subst (λ (s : DeskState C). ServesExchanges disk old.desk so.served s) (sym none.desk) so.serves;
          run = subst (λ (s : DeskState C). RunsOver (Handles disk) old.desk (commands_of so.served) s) (sym none.desk) so.run;
        }
        | inr one ↦
            let it = turn mid.desk new.desk one.unread one.left one.written one.result one.served in
            let e : Exchange = record { request = it.request; written = one.written; ended = one.result; answered = it.answered } in
            record {
              served = so.served ++ e ∷ [];
              few = omega (arith, so.few, length-append so.served (e ∷ []));
              exchanged = after_one old.traffic mid.traffic new.traffic so.served e one.failed one.unread it.left so.exchanged one.exchanged it.consumed;
              serves = serves_more old.desk mid.desk new.desk so.served e so.serves it.serves;
              run = subst (λ (xs : List (Command × Answer)). RunsOver (Handles disk) old.desk xs new.desk) (sym (commands_more so.served e))
                  (last_command old.desk mid.desk new.desk so.served it.answered so.run it.serves.moves);
            }
      ]

  -- what was written to each
  pub each_answered : (old new : DeskState C) (served : List Exchange) → ServesExchanges disk old served new → AllByRecursion IsAnswered served
  each_answered old new [] it = tt
  each_answered old new (e ∷ served) it = (it.1.is, each_answered it.0 new served it.2)

  -- a register that a crash leaves has the effect of these commands
  leaves_served : (old new : DeskState C) (served : List Exchange) → KeepsAcknowledged disk old new (commands_of served)
      → ((done : List Command) → IsEffect (commands_of served) done → TookEffect served done) → LeavesServed old.register served (disk new.conn)
  leaves_served old new served kept effects clean db may =
      let again = each_again new.register (in_flight (commands_of served)) (disk new.conn) kept.leaves clean db may in
      let did = effect old.register new.register again.0 (commands_of served) kept.run again.1 in
      (again.0, record { done = did.0; took = effects did.0 did.1; reached = did.2 }, again.2)

  pub served_is_kept_lem : ServedIsKept disk
  served_is_kept_lem count old new it alive leaves =
      let so = each_turn count old new it in
      let kept = keeps disk old.desk new.desk (commands_of so.served) alive leaves so.run in
      let effects = took disk old.desk new.desk so.served so.serves in
      record {
        served = so.served;
        few = so.few;
        exchanged = so.exchanged;
        serves = so.serves;
        recorded = are_recorded so.served;
        kept = kept;
        effects = effects;
        leaves = leaves_served old.desk new.desk so.served kept effects;
      }
