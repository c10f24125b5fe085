-- A turn of the loop over connections, from the steps that it takes.
use Rattle.std.proofs.Common.{◌≡◌, ◌⊎◌, ℕ, zero, suc, ◌+◌, ◌||◌, Bool, true, false, List, [], ◌∷◌, ◌++◌, take, Option, None, Some, Result, Ok, Err, inl, inr, refl, sym, ap, ◌∙◌, subst, append_assoc, append-nil, add-zero, add-suc}
use Rattle.std.specs.Prelude.{codes, is_err, MatchResult}
use Rattle.std.specs.Io.KnownBytes.{Appends, Keeps}
use Rattle.std.proofs.KnownBytes.{Appends-nil, Appends-trans}
use Rattle.adm_http.specs.declared.body_answer.BodyAnswer.{BodyAnswer}
use Rattle.adm_http.specs.Reading.{Request, HasRead, Served, IsUnanswered, is_read_fault, is_write_fault}
use Rattle.adm_http.specs.Responses.{Responds}
use Rattle.adm_http.specs.Connections.{EndedConnection, Traffic, IsIdle, Takes, TakesNext, Ends, Exchanges, ServesOpen, ended, Errors, PrintsExactly, PrintsAccepts, accept_lines, connection_fault_line, outcome_line, Moment, ServesTurn, ServesEach, AnswersOne, AnswersUpTo}
use Rattle.adm_http.specs.declared.routes.Purpose.{Purpose}
use Rattle.adm_http.specs.declared.routes.Resource.{Resource}
use Rattle.adm_http.specs.declared.request_handler.ShowResult.{ShowResult}
use Rattle.adm_http.specs.declared.serve.ServeFault.{ServeFault}
use Rattle.adm_http.specs.declared.serve.ServeFault.TheVariants.{Read, Write, Memory}

-- ---- what is printed

pub prints_more : (a b c : Errors) (x y : List ℕ) → PrintsExactly a b x → PrintsExactly b c y → PrintsExactly a c (x ++ y)
prints_more a b c x y first second unfailed =
    let last = second unfailed in
    let before = first last.0 in
    (before.0, Appends-trans a.printed b.printed c.printed x y before.1 last.1)

unfailed_before : (a b : Bool) → b ≡ (a || false) → b ≡ false → a ≡ false
unfailed_before true b now unfailed = cc
unfailed_before false b now unfailed = refl

failed_now : (a b : Bool) → b ≡ (a || true) → b ≡ false → ⊥
failed_now true b now unfailed = cc
failed_now false b now unfailed = cc

pub put_prints : {A B : Type 0} (a b : Errors) (text : List ℕ) (result : Result A B)
    → MatchResult result (λ _. Appends a.printed b.printed text) (λ _. (n : ℕ) × Appends a.printed b.printed (take n text))
    → b.has_failed ≡ (a.has_failed || is_err result) → PrintsExactly a b text
put_prints a b text (Ok x) written fails unfailed = (unfailed_before a.has_failed b.has_failed fails unfailed, written)
put_prints a b text (Err e) written fails unfailed = absurd (failed_now a.has_failed b.has_failed fails unfailed)

-- ---- accepts that failed

accept_lines_sum : (n m : ℕ) → accept_lines n ++ accept_lines m ≡ accept_lines (n + m)
accept_lines_sum n zero = append-nil (accept_lines n) ∙ ap accept_lines (sym (add-zero n))
accept_lines_sum n (suc m) =
    sym (append_assoc (accept_lines n) (accept_lines m) (codes "fault: Accept\n")) ∙ ap (λ l. l ++ codes "fault: Accept\n") (accept_lines_sum n m)
    ∙ ap accept_lines (sym (add-suc n m))

pub accepts_more : (a b c : Errors) → PrintsAccepts a b → PrintsAccepts b c → PrintsAccepts a c
accepts_more a b c first second =
    (first.0 + second.0, subst (PrintsExactly a c) (accept_lines_sum first.0 second.0) (prints_more a b c _ _ first.1 second.1))

pub accept_printed : (a b c : Errors) → PrintsAccepts a b → PrintsExactly b c (codes "fault: Accept\n") → PrintsAccepts a c
accept_printed a b c first second = accepts_more a b c first (1, second)

-- ---- connections

pub ends_idle : (old new : Option Traffic) (ended : EndedConnection) → Ends old new ended → IsIdle new
ends_idle None new ended ends = subst IsIdle (sym ends) tt
ends_idle (Some t) None ended ends = absurd ends
ends_idle (Some t) (Some new) ended ends = ends.3

exchanges : (old mid new : Option Traffic) (failed : ℕ) (unread : Option (List ℕ)) (ended : EndedConnection) → Takes old mid failed (Some unread) → Ends mid new ended
    → Exchanges old new failed unread ended
exchanges None mid new failed unread ended takes ends = subst (λ (m : Option Traffic). Ends m new ended) takes ends
exchanges (Some t) None new failed unread ended takes ends = absurd takes
exchanges (Some t) (Some m) None failed unread ended takes ends = absurd ends
exchanges (Some t) (Some m) (Some new) failed unread ended takes ends = (
  takes.0,
  takes.1,
  takes.2 ∙ ap (λ l. takes.0 ∷ l) (sym ends.0),
  ends.1 ∙ ap (λ l. l ++ (ended ∷ [])) takes.3,
  ends.2 ∙ takes.4,
  ends.3,
)

-- a connection ended so, where whether a read and the write failed is known otherwise
pub ended_so : (old new : Option Traffic) (written : List ℕ) (a b c d : Bool) → a ≡ b → c ≡ d → Ends old new (ended written a c) → Ends old new (ended written b d)
ended_so old new written a b c d same also ends =
    subst (λ (failed : Bool). Ends old new (ended written b failed)) also (subst (λ (failed : Bool). Ends old new (ended written failed c)) same ends)

-- ---- a request

module _ {S : Type 0} (runs : Purpose → S → List ℕ → BodyAnswer → S → Type 0) (shows : S → Resource → ShowResult → Type 0) where
  pub unanswered : (r : Request S) (was written : Option (List ℕ)) (fault : ServeFault) → IsUnanswered runs shows r fault → Keeps was written
      → Served runs shows r was written (Err fault)
  unanswered r was written Read none kept = (none.0, none.1, none.2, kept)
  unanswered r was written Write none kept = absurd none
  unanswered r was written Memory none kept = (none.0, none.1, kept, none.2)

  -- where no response was made, no write has failed
  pub unwritten : (r : Request S) (fault : ServeFault) → IsUnanswered runs shows r fault → false ≡ is_write_fault {A = ℕ} (Err fault)
  unwritten r Read none = refl
  unwritten r Write none = absurd none
  unwritten r Memory none = refl

  -- the turn of a connection that had not failed, from the writer of errors before its own error was printed
  served_turn : (old new : Moment S) (mid : Option Traffic) (between : Errors) (unread : Option (List ℕ)) (had_failed : Bool) (result : Result ℕ ServeFault) → TakesNext old.traffic mid (Some unread) old.errors between
      → had_failed ≡ false → ServesOpen runs shows (record { desk = old.desk; traffic = mid }) (record { desk = new.desk; traffic = new.traffic }) unread had_failed result
      → PrintsExactly between new.errors (outcome_line result) → ServesTurn runs shows old new
  served_turn old new mid between unread had_failed result takes unfailed served printed = inr
      (record {
        failed = takes.0;
        unread = unread;
        left = served.0;
        written = served.1;
        result = result;
        exchanged = exchanges old.traffic mid new.traffic takes.0 unread (ended served.1 (is_read_fault result) (is_write_fault result)) takes.1
            (ended_so mid new.traffic served.1 (had_failed || is_read_fault result) (is_read_fault result) (is_write_fault result) (is_write_fault result)
            (ap (λ (b : Bool). b || is_read_fault result) unfailed) refl served.3);
        served = served.2;
        printed = prints_more old.errors between new.errors (accept_lines takes.0) (outcome_line result) takes.2 printed;
      })

  -- a connection that was answered
  pub answered_turn : (old new : Moment S) (mid : Option Traffic) (unread : Option (List ℕ)) (had_failed : Bool) (n : ℕ) → TakesNext old.traffic mid (Some unread) old.errors new.errors → had_failed ≡ false
      → ServesOpen runs shows (record { desk = old.desk; traffic = mid }) (record { desk = new.desk; traffic = new.traffic }) unread had_failed (Ok n) → ServesTurn runs shows old new
  answered_turn old new mid unread had_failed n takes unfailed served =
      served_turn old new mid new.errors unread had_failed (Ok n) takes unfailed served (λ alive. (alive, Appends-nil new.errors.printed))

  -- a connection whose error was printed
  pub failed_turn : (old new : Moment S) (mid : Option Traffic) (between : Errors) (unread : Option (List ℕ)) (had_failed : Bool) (fault : ServeFault) → TakesNext old.traffic mid (Some unread) old.errors between
      → had_failed ≡ false → ServesOpen runs shows (record { desk = old.desk; traffic = mid }) (record { desk = new.desk; traffic = new.traffic }) unread had_failed (Err fault)
      → PrintsExactly between new.errors (connection_fault_line fault) → ServesTurn runs shows old new
  failed_turn old new mid between unread had_failed fault takes unfailed served printed = served_turn old new mid between unread had_failed (Err fault) takes unfailed served printed

  of_served : (r : Request S) (was written : Option (List ℕ)) (result : Result ℕ ServeFault) → Served runs shows r was written result → AnswersOne runs shows r.before r.after
  of_served r was written (Ok n) served = inr (served.0, served.1, served.3)
  of_served r was written (Err Write) served = inr (served.0, served.1, served.3)
  of_served r was written (Err Read) served = inl served.2
  of_served r was written (Err Memory) served = either served.3
    where
      either : (r.after ≡ r.before) ⊎ ((output : List ℕ) × HasRead r.unread r.left served.0 × Responds runs shows r.before served.0 output r.after) → AnswersOne runs shows r.before r.after
      either (inl same) = inl same
      either (inr made) = inr (served.0, made.0, made.2)

  answers_one : (old new : Moment S) → ServesTurn runs shows old new → AnswersOne runs shows old.desk new.desk
  answers_one old new (inl none) = inl none.desk
  answers_one old new (inr one) = of_served _ (Some []) (Some one.written) one.result one.served

  -- at most as many requests are answered as there are turns
  pub answers_up_to : (n : ℕ) (old new : Moment S) → ServesEach runs shows n old new → AnswersUpTo runs shows n old.desk new.desk
  answers_up_to zero old new same = ap (λ m. m.desk) same
  answers_up_to (suc n) old new served = (served.0.desk, answers_up_to n old served.0 served.1, answers_one served.0 new served.2)
