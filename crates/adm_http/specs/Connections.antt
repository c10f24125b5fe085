-- What serving connections, one after the other, answers, leaves and prints.
use Rattle.std.specs.Prelude.{◌≡◌, ℕ, zero, suc, ◌+◌, ◌⊎◌, ◌||◌, Bool, true, false, List, [], ◌∷◌, ◌++◌, codes, Option, None, Some, Result, Ok, Err, ⊤}
use Rattle.std.specs.Io.KnownBytes.{Appends}
use Rattle.adm_http.specs.declared.body_answer.BodyAnswer.{BodyAnswer}
use Rattle.adm_wire.specs.declared.streams.Output as output
use Rattle.adm_http.specs.Reading.{Served, is_read_fault, is_write_fault}
use Rattle.adm_http.specs.Responses.{Responds}
use Rattle.adm_http.specs.declared.routes.Purpose.{Purpose}
use Rattle.adm_http.specs.declared.routes.Resource.{Resource}
use Rattle.adm_http.specs.declared.request_handler.ShowResult.{ShowResult}
use Rattle.adm_http.specs.declared.serve.ServeFault.{ServeFault}
use Rattle.adm_http.specs.declared.serve.ServeFault.TheVariants.{Read, Write, Memory}

-- a connection that was taken and ended: what was written to it, whether a read of it failed, and whether the write of its response did
pub record EndedConnection : Type 0 where
  pub written : List ℕ
  pub read_failed : Bool
  pub write_failed : Bool

-- the connection that was ended so
abbrev pub ended : List ℕ → Bool → Bool → EndedConnection
ended written read_failed write_failed = record { written = written; read_failed = read_failed; write_failed = write_failed }

-- the bytes of each connection that is still to be taken, in this order; those that were taken and ended, in their order; how many accepts have failed; and whether
-- one connection is taken and not ended
pub record Traffic : Type 0 where
  pub coming : List (List ℕ)
  pub answered : List EndedConnection
  pub failed_accepts : ℕ
  pub is_open : Bool

-- no connection is taken and not ended
abbrev pub IsIdle : Option Traffic → Type 0
IsIdle None = ⊤
IsIdle (Some t) = t.is_open ≡ false

-- one connection is taken and not ended
abbrev pub IsOpen : Option Traffic → Type 0
IsOpen None = ⊤
IsOpen (Some t) = t.is_open ≡ true

-- So many accepts fail, and the first connection that comes is taken, with these bytes; or none is, where none comes.
abbrev pub Takes : Option Traffic → Option Traffic → ℕ → Option (Option (List ℕ)) → Type 0
Takes None new failed taken = new ≡ None
Takes (Some t) None failed taken = ⊥
Takes (Some t) (Some new) failed None = (t.coming ≡ []) × (new ≡ record t { failed_accepts = t.failed_accepts + failed })
Takes (Some t) (Some new) failed (Some unread) =
    (bytes : List ℕ) × (unread ≡ Some bytes) × (t.coming ≡ bytes ∷ new.coming) × (new.answered ≡ t.answered) × (new.failed_accepts ≡ t.failed_accepts + failed)
    × (new.is_open ≡ true)

-- the connection that was taken is ended, and this is what was written to it and whether it failed
abbrev pub Ends : Option Traffic → Option Traffic → EndedConnection → Type 0
Ends None new ended = new ≡ None
Ends (Some t) None ended = ⊥
Ends (Some t) (Some new) ended =
    (new.coming ≡ t.coming) × (new.answered ≡ t.answered ++ ended ∷ []) × (new.failed_accepts ≡ t.failed_accepts) × (new.is_open ≡ false)

-- So many accepts failed, and the first connection that comes, with these bytes, was taken and ended; this is what was written to it and whether it failed.
abbrev pub Exchanges : Option Traffic → Option Traffic → ℕ → Option (List ℕ) → EndedConnection → Type 0
Exchanges None new failed unread ended = new ≡ None
Exchanges (Some t) None failed unread ended = ⊥
Exchanges (Some t) (Some new) failed unread ended =
    (bytes : List ℕ) × (unread ≡ Some bytes) × (t.coming ≡ bytes ∷ new.coming) × (new.answered ≡ t.answered ++ ended ∷ [])
    × (new.failed_accepts ≡ t.failed_accepts + failed) × (new.is_open ≡ false)

-- what a writer of errors holds, where it is known, and whether it has failed
pub record Errors : Type 0 where
  pub printed : Option (List ℕ)
  pub has_failed : Bool

-- the same of a writer
abbrev pub errors_of : {E : Type 0} → output.Ghosts E → E → Errors
errors_of g writer = record { printed = g.contents writer; has_failed = g.has_failed writer }

-- unless the writer has failed by then, exactly this was printed
abbrev pub PrintsExactly : Errors → Errors → List ℕ → Type 0
PrintsExactly old new text = new.has_failed ≡ false → (old.has_failed ≡ false) × Appends old.printed new.printed text

-- what is printed of so many accepts that failed
abbrev pub accept_lines : ℕ → List ℕ
accept_lines zero = []
accept_lines (suc n) = accept_lines n ++ codes "fault: Accept\n"

-- accepts that failed are printed, and nothing else
abbrev pub PrintsAccepts : Errors → Errors → Type 0
PrintsAccepts old new = (n : ℕ) × PrintsExactly old new (accept_lines n)

-- The next connection is taken, with these bytes, or none; and each accept that failed before is printed to the writer, and nothing else.
abbrev pub TakesNext : Option Traffic → Option Traffic → Option (Option (List ℕ)) → Errors → Errors → Type 0
TakesNext old new taken before after = (failed : ℕ) × Takes old new failed taken × PrintsExactly before after (accept_lines failed)

-- what is printed of a connection's error
abbrev pub connection_fault_line : ServeFault → List ℕ
connection_fault_line Read = codes "fault: Read\n"
connection_fault_line Write = codes "fault: Write\n"
connection_fault_line Memory = codes "fault: Memory\n"

-- the same of how a connection ended
abbrev pub outcome_line : Result ℕ ServeFault → List ℕ
outcome_line (Ok n) = []
outcome_line (Err fault) = connection_fault_line fault

-- the desk, the connections and the writer of errors between two turns
pub record Moment (S : Type 0) : Type 0 where
  pub desk : S
  pub traffic : Option Traffic
  pub errors : Errors

-- the same of a desk, of connections and of a writer of errors
abbrev pub moment : {S E : Type 0} → output.Ghosts E → S → Option Traffic → E → Moment S
moment g desk traffic writer = record { desk = desk; traffic = traffic; errors = errors_of g writer }

-- a desk and the connections to it, for a private clause
pub record Service (S : Type 0) : Type 0 where
  pub desk : S
  pub traffic : Option Traffic

-- a desk and its connections, as they are now
abbrev pub service : {S : Type 0} → S → Option Traffic → Service S
service desk traffic = record { desk = desk; traffic = traffic }

module _ {S : Type 0} (runs : Purpose → S → List ℕ → BodyAnswer → S → Type 0) (shows : S → Resource → ShowResult → Type 0) where
  -- one request was answered, or none
  abbrev pub AnswersOne : S → S → Type 0
  AnswersOne old new = (new ≡ old) ⊎ ((input : List ℕ) × (output : List ℕ) × Responds runs shows old input output new)

  -- as many at most, one after another
  abbrev pub AnswersUpTo : ℕ → S → S → Type 0
  AnswersUpTo zero old new = new ≡ old
  AnswersUpTo (suc n) old new = (mid : S) × AnswersUpTo n old mid × AnswersOne mid new

  -- a turn to which no connection came: the desk is as it was, and of each accept that failed a line is printed
  pub record ServesNone (old new : Moment S) : Type 0 where
    pub failed : ℕ
    pub none : Takes old.traffic new.traffic failed None
    pub desk : new.desk ≡ old.desk
    pub printed : PrintsExactly old.errors new.errors (accept_lines failed)

  -- The turn of a connection: its own bytes were read and answered to it. A read of it failed exactly where the result is Read, and the write of its response exactly where it is Write. A line is printed of each accept that
  -- failed and of the connection's error, and nothing else.
  pub record ServesOne (old new : Moment S) : Type 0 where
    pub failed : ℕ
    pub unread : Option (List ℕ)
    pub left : Option (List ℕ)
    pub written : List ℕ
    pub result : Result ℕ ServeFault
    pub exchanged : Exchanges old.traffic new.traffic failed unread (ended written (is_read_fault result) (is_write_fault result))
    pub served : Served runs shows (record { before = old.desk; after = new.desk; unread = unread; left = left }) (Some []) (Some written) result
    pub printed : PrintsExactly old.errors new.errors (accept_lines failed ++ outcome_line result)

  -- one turn
  abbrev pub ServesTurn : Moment S → Moment S → Type 0
  ServesTurn old new = ServesNone old new ⊎ ServesOne old new

  -- so many turns, one after another
  abbrev pub ServesEach : ℕ → Moment S → Moment S → Type 0
  ServesEach zero old new = new ≡ old
  ServesEach (suc n) old new = (mid : Moment S) × ServesEach n old mid × ServesTurn mid new

  -- ---- for a private clause

  -- a request of these bytes was answered to the connection that is open, which may have failed before, and which was ended
  abbrev pub ServesOpen : Service S → Service S → Option (List ℕ) → Bool → Result ℕ ServeFault → Type 0
  ServesOpen old new unread had_failed result =
      (left : Option (List ℕ)) × (written : List ℕ)
      × Served runs shows (record { before = old.desk; after = new.desk; unread = unread; left = left }) (Some []) (Some written) result
      × Ends old.traffic new.traffic (ended written (had_failed || is_read_fault result) (is_write_fault result))
