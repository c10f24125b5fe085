-- The response to a request: what is carried out, and its bytes.
use Rattle.std.specs.Prelude.{◌≡◌, ℕ, List, [], ◌∷◌, length, take, drop, nat_le, MatchBool, string_bytes}
use Rattle.adm_http.specs.Heads.{IsJudgement, verdict_at_end}
use Rattle.adm_wire.specs.Texts.{memory_text, failed_text}
use Rattle.adm_http.specs.Replies.{status_of, body_text}
use Rattle.adm_http.specs.Routes.{media_of}
use Rattle.adm_http.specs.Texts.{Response, response_bytes, json, bare, not_allowed}
use Rattle.adm_http.specs.declared.routes.Purpose.{Purpose}
use Rattle.adm_http.specs.declared.routes.Resource.{Resource}
use Rattle.adm_http.specs.declared.heads.Verdict.{Verdict}
use Rattle.adm_http.specs.declared.heads.Verdict.TheVariants.{Reject, NotAllowed, Show, Run}
use Rattle.adm_http.specs.declared.heads.Judgement.{Judgement}
use Rattle.adm_http.specs.declared.heads.Judgement.TheVariants.{Whole, Malformed, Unfinished}
use Rattle.adm_http.specs.declared.request_handler.ShowResult.{ShowResult}
use Rattle.adm_http.specs.declared.request_handler.ShowResult.TheVariants as shown
use Rattle.adm_http.specs.declared.body_answer.BodyAnswer.{BodyAnswer}

-- the response to what running a body answered: its text
abbrev pub of_answer : BodyAnswer → Response
of_answer answer = json (status_of answer) (body_text answer)

-- the response to what reading a text gave
abbrev pub of_shown : Resource → ShowResult → Response
of_shown resource (shown.Text text) = record (json 200 (string_bytes text)) { media = media_of resource }
of_shown resource shown.Missing = bare 404
of_shown resource shown.Memory = json 503 memory_text
of_shown resource shown.Failed = json 503 failed_text

-- `runs purpose old body answer new`: running the body as what it is for may answer this, and leave `new`; `shows old resource text`: reading a text may give this
module _ {S : Type 0} (runs : Purpose → S → List ℕ → BodyAnswer → S → Type 0) (shows : S → Resource → ShowResult → Type 0) where
  -- what a verdict on a head makes of the bytes that follow the head: at most the one command is run
  abbrev pub Carries : S → List ℕ → Verdict → Response → S → Type 0
  Carries old rest (Reject status) response new = (response ≡ bare status) × (new ≡ old)
  Carries old rest (NotAllowed verb) response new = (response ≡ not_allowed verb) × (new ≡ old)
  Carries old rest (Show resource) response new =
      (text : ShowResult) × shows old resource text × (response ≡ of_shown resource text) × (new ≡ old)
  Carries old rest (Run purpose n) response new =
      MatchBool (nat_le n (length rest))
      ((answer : BodyAnswer) × runs purpose old (take n rest) answer new × (response ≡ of_answer answer))
      ((response ≡ bare 400) × (new ≡ old))

  -- by what the bytes are judged to be
  abbrev pub OnJudgement : S → List ℕ → Judgement → Response → S → Type 0
  OnJudgement old input (Whole len verdict) response new = Carries old (drop len input) verdict response new
  OnJudgement old input Malformed response new = Carries old input (verdict_at_end input Malformed) response new
  OnJudgement old input Unfinished response new = Carries old input (verdict_at_end input Unfinished) response new

  -- the request that the bytes are may be answered by this response, and leave that desk
  abbrev pub AnswersRequest : S → List ℕ → Response → S → Type 0
  AnswersRequest old input response new =
      (judgement : Judgement) × IsJudgement input judgement × OnJudgement old input judgement response new

  -- the bytes of the response; no bytes get none
  abbrev pub Responds : S → List ℕ → List ℕ → S → Type 0
  Responds old [] output new = (output ≡ []) × (new ≡ old)
  Responds old (b ∷ input) output new =
      (response : Response) × AnswersRequest old (b ∷ input) response new × (output ≡ response_bytes response)
