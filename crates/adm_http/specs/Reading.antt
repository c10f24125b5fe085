-- Where reading a request stops, and what serving one leaves.
use Rattle.std.specs.Prelude.{◌≡◌, ℕ, ◌+◌, ◌<◌, ◌≤◌, ◌⊎◌, ◌||◌, Bool, true, false, List, ◌++◌, length, take, drop, Option, Result, Ok, Err, ⊤}
use Rattle.std.specs.Io.KnownBytes.{Consumes, Appends, Keeps, IsAtEnd}
use Rattle.adm_http.specs.Heads.{IsJudgement, most_body}
use Rattle.adm_http.specs.Responses.{Responds}
use Rattle.adm_http.specs.declared.heads.Verdict.{Verdict}
use Rattle.adm_http.specs.declared.heads.Verdict.TheVariants.{Reject, NotAllowed, Show, Run}
use Rattle.adm_http.specs.declared.heads.Judgement.{Judgement}
use Rattle.adm_http.specs.declared.heads.Judgement.TheVariants.{Whole, Malformed, Unfinished}
use Rattle.adm_http.specs.declared.routes.Purpose.{Purpose}
use Rattle.adm_http.specs.declared.routes.Resource.{Resource}
use Rattle.adm_http.specs.declared.body_answer.BodyAnswer.{BodyAnswer}
use Rattle.adm_http.specs.declared.request_handler.ShowResult.{ShowResult}
use Rattle.adm_http.specs.declared.serve.ServeFault.{ServeFault}
use Rattle.adm_http.specs.declared.serve.ServeFault.TheVariants.{Read, Write, Memory}

-- the body has its length, or none is needed
abbrev pub HasBody : List ℕ → Verdict → Type 0
HasBody rest (Reject status) = ⊤
HasBody rest (NotAllowed verb) = ⊤
HasBody rest (Show resource) = ⊤
HasBody rest (Run purpose n) = n ≤ length rest

-- no more bytes are needed: the head is whole and its body is there or none is needed, no head can come, or 8,192 bytes hold no whole head
abbrev pub IsSettled : List ℕ → Judgement → Type 0
IsSettled bytes (Whole len verdict) = HasBody (drop len bytes) verdict
IsSettled bytes Malformed = ⊤
IsSettled bytes Unfinished = 8192 ≤ length bytes

-- reading may stop: the bytes may be judged as settled
abbrev pub MayStop : List ℕ → Type 0
MayStop bytes = (judgement : Judgement) × IsJudgement bytes judgement × IsSettled bytes judgement

-- reading must have stopped: the bytes are settled, however they are judged
abbrev pub MustStop : List ℕ → Type 0
MustStop bytes = (judgement : Judgement) → IsJudgement bytes judgement → IsSettled bytes judgement

-- at most 8,192 bytes were read past the first place where reading must have stopped
abbrev pub IsNotFarPast : List ℕ → Type 0
IsNotFarPast got = (n : ℕ) → n ≤ length got → MustStop (take n got) → length got ≤ n + 8192

-- a request was read from the reader's bytes: these, up to a place where reading may stop or to the end
pub record HasRead (old new : Option (List ℕ)) (got : List ℕ) : Type 0 where
  pub consumed : Consumes old new got
  pub near : IsNotFarPast got
  pub stopped : MayStop got ⊎ IsAtEnd new

-- reading ended with an error
pub record HasReadSome (old new : Option (List ℕ)) (got : List ℕ) : Type 0 where
  pub consumed : Consumes old new got
  pub near : IsNotFarPast got

-- a beginning of the bytes was written
abbrev pub WritesFront : Option (List ℕ) → Option (List ℕ) → List ℕ → Type 0
WritesFront old new bytes = (n : ℕ) × Appends old new (take n bytes)

-- what handles a request, before it and after it; and the reader's bytes before they are read, and what is left of them
pub record Request (S : Type 0) : Type 0 where
  pub before : S
  pub after : S
  pub unread : Option (List ℕ)
  pub left : Option (List ℕ)

module _ {S : Type 0} (runs : Purpose → S → List ℕ → BodyAnswer → S → Type 0) (shows : S → Resource → ShowResult → Type 0) where
  -- what serving one request leaves of the desk, the reader and the writer
  abbrev pub Served : Request S → Option (List ℕ) → Option (List ℕ) → Result ℕ ServeFault → Type 0
  -- the response to the bytes that were read was written, and this is its length
  Served r was written (Ok n) =
      (got : List ℕ) × (output : List ℕ) × HasRead r.unread r.left got × Responds runs shows r.before got output r.after
      × Appends was written output × (n ≡ length output)
  -- a beginning of it was written
  Served r was written (Err Write) =
      (got : List ℕ) × (output : List ℕ) × HasRead r.unread r.left got × Responds runs shows r.before got output r.after
      × WritesFront was written output
  -- no command was run, and nothing was written
  Served r was written (Err Read) =
      (got : List ℕ) × HasReadSome r.unread r.left got × (r.after ≡ r.before) × Keeps was written
  -- nothing was written; the desk is as before, or as a response to the bytes says
  Served r was written (Err Memory) =
      (got : List ℕ) × HasReadSome r.unread r.left got × Keeps was written
      × ((r.after ≡ r.before) ⊎ ((output : List ℕ) × HasRead r.unread r.left got × Responds runs shows r.before got output r.after))

-- whether the error is the reader's
abbrev pub is_read_fault : {A : Type 0} → Result A ServeFault → Bool
is_read_fault (Ok a) = false
is_read_fault (Err Read) = true
is_read_fault (Err Write) = false
is_read_fault (Err Memory) = false

-- whether the error is the writer's
abbrev pub is_write_fault : {A : Type 0} → Result A ServeFault → Bool
is_write_fault (Ok a) = false
is_write_fault (Err Read) = false
is_write_fault (Err Write) = true
is_write_fault (Err Memory) = false

-- whether the error is the connection's: that of its reader or of its writer
abbrev pub is_connection_fault : {A : Type 0} → Result A ServeFault → Bool
is_connection_fault result = is_read_fault result || is_write_fault result

-- ---- for a private clause

module _ {S : Type 0} (runs : Purpose → S → List ℕ → BodyAnswer → S → Type 0) (shows : S → Resource → ShowResult → Type 0) where
  -- a request was read, and these are the bytes of its response
  abbrev pub IsAnswered : Request S → List ℕ → Type 0
  IsAnswered r output = (got : List ℕ) × HasRead r.unread r.left got × Responds runs shows r.before got output r.after

  -- there is no response, for this cause
  abbrev pub IsUnanswered : Request S → ServeFault → Type 0
  IsUnanswered r Read = (got : List ℕ) × HasReadSome r.unread r.left got × (r.after ≡ r.before)
  IsUnanswered r Write = ⊥
  IsUnanswered r Memory =
      (got : List ℕ) × HasReadSome r.unread r.left got
      × ((r.after ≡ r.before) ⊎ ((output : List ℕ) × HasRead r.unread r.left got × Responds runs shows r.before got output r.after))

-- the bytes may be judged as not settled
abbrev pub MayNeedMore : List ℕ → Type 0
MayNeedMore bytes = (judgement : Judgement) × IsJudgement bytes judgement × ¬ (IsSettled bytes judgement)

-- there are fewer bytes than this many, and they may be judged as not settled until there are, whatever follows
pub record MayNeedMoreUpTo (total : ℕ) (bytes : List ℕ) : Type 0 where
  pub fewer : length bytes < total
  pub limit : total ≤ 8192 + most_body
  pub on : (more : List ℕ) → length (bytes ++ more) < total → MayNeedMore (bytes ++ more)
