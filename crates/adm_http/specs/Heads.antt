-- What the head of a request decides.
use Rattle.std.specs.Prelude.{◌≡◌, ℕ, ◌≤◌, ◌<◌, ◌-◌, ◌++◌, ◌⊎◌, get_or, Bool, List, [], ◌∷◌, length, take, drop, map, filter, nat_lt, nat_le, if◌then◌else◌, Option, Some, None, codes, bytes_eq, IsUtf8, ⊤}
use Rattle.std.specs.Char.{to_ascii_lowercase}
use Rattle.httparse.specs.Ascii.{space}
use Rattle.httparse.specs.Grammar.{LineEnd, RequestHead, print_blank, print_request, is_uri_byte, AllPass, IsToken, ReadsRequest, HasNoRequest, MayBecomeRequest}
use Rattle.httparse.specs.Spans.{RequestOverflows, name_and_value}
use Rattle.adm_http.specs.Lengths.{body_length_of}
use Rattle.adm_http.specs.Routes.{target_of}
use Rattle.adm_http.specs.declared.routes.Target.{Target}
use Rattle.adm_http.specs.declared.routes.Target.TheVariants.{Body, Text}
use Rattle.adm_http.specs.declared.routes.Purpose.{Purpose}
use Rattle.adm_http.specs.declared.heads.Verb.{Verb}
use Rattle.adm_http.specs.declared.heads.Verb.TheVariants.{Get, Post}
use Rattle.adm_http.specs.declared.heads.Verdict.{Verdict}
use Rattle.adm_http.specs.declared.heads.Verdict.TheVariants.{Reject, NotAllowed, Show, Run}
use Rattle.adm_http.specs.declared.heads.Judgement.{Judgement}
use Rattle.adm_http.specs.declared.heads.Judgement.TheVariants.{Whole, Malformed, Unfinished}

-- the bytes in which a head is looked for
abbrev pub window : List ℕ → List ℕ
window input = take 8192 input

-- a field's name, and its value without the white space around it
abbrev pub HeadField : Type 0
HeadField = List ℕ × List ℕ

-- the field has this name, without regard to ASCII case
abbrev pub is_named : List ℕ → HeadField → Bool
is_named name field = bytes_eq (map to_ascii_lowercase field.0) (map to_ascii_lowercase name)

-- the values of the fields of this name
abbrev pub values_of : List ℕ → List HeadField → List (List ℕ)
values_of name fields = map (λ field. field.1) (filter (is_named name) fields)

-- there are this many values, and this is the last of them
pub record AreCounted (values : List (List ℕ)) (count : ℕ) (last : List ℕ) : Type 0 where
  pub count_is : count ≡ length values
  pub last_is : 0 < count → last ≡ get_or values (count - 1) []

-- the methods that the desk serves
abbrev pub verb_of : List ℕ → Option Verb
verb_of method =
    if bytes_eq method (codes "GET") then Some Get else (if bytes_eq method (codes "POST") then Some Post else None)

-- how many bytes a body has at the most: a mebibyte
abbrev pub most_body : ℕ
most_body = 1048576

-- a body of this length: a longer one is refused
abbrev pub by_length : Purpose → Option ℕ → Verdict
by_length purpose None = Reject 400
by_length purpose (Some n) = if nat_lt most_body n then Reject 413 else Run purpose n

-- by the values of Content-Length, of which there must be one
abbrev pub by_lengths : Purpose → List (List ℕ) → Verdict
by_lengths purpose [] = Reject 411
by_lengths purpose (value ∷ []) = by_length purpose (body_length_of value)
by_lengths purpose (value ∷ (other ∷ more)) = Reject 400

-- no transfer coding is taken
abbrev pub by_codings : Purpose → List (List ℕ) → List (List ℕ) → Verdict
by_codings purpose [] lengths = by_lengths purpose lengths
by_codings purpose (coding ∷ more) lengths = Reject 501

-- by the fields of a request with a body
abbrev pub body_verdict : Purpose → List HeadField → Verdict
body_verdict purpose fields =
    by_codings purpose (values_of (codes "Transfer-Encoding") fields) (values_of (codes "Content-Length") fields)

-- by what the target names, and the method that its route is for
abbrev pub on_target : Verb → Option Target → List HeadField → Verdict
on_target verb None fields = Reject 404
on_target Get (Some (Body purpose)) fields = NotAllowed Post
on_target Post (Some (Body purpose)) fields = body_verdict purpose fields
on_target Get (Some (Text resource)) fields = Show resource
on_target Post (Some (Text resource)) fields = NotAllowed Get

-- the verdict by the method: 501 where it is neither GET nor POST, and else by the target
abbrev pub on_verb : Option Verb → Option Target → List HeadField → Verdict
on_verb None target fields = Reject 501
on_verb (Some verb) target fields = on_target verb target fields

-- what a method, a target and fields decide: a refusal, a text to show, or a body of this length
abbrev pub verdict_of : List ℕ → List ℕ → List HeadField → Verdict
verdict_of method target fields = on_verb (verb_of method) (target_of target) fields

-- the verdict on a head, by its method, its target and its fields
abbrev pub head_verdict : RequestHead → Verdict
head_verdict h = verdict_of h.method h.target (map name_and_value h.fields)

-- the bytes begin with the head h, which has at most 64 fields
pub record HasHead (bytes : List ℕ) (h : RequestHead) : Type 0 where
  pub reads : ReadsRequest bytes h (drop (length (print_request h)) bytes)
  pub room : length h.fields ≤ 64

-- the window begins with a head of this length, which decides this
pub record HeadDecides (bytes : List ℕ) (len : ℕ) (verdict : Verdict) : Type 0 where
  pub head : RequestHead
  pub has : HasHead (window bytes) head
  pub len_is : len ≡ length (print_request head)
  pub verdict_is : verdict ≡ head_verdict head

-- what the bytes are so far: a whole head; no head, and none of at most 64 fields whatever bytes come; or none yet, and one may come
abbrev pub IsJudgement : List ℕ → Judgement → Type 0
IsJudgement bytes (Whole len verdict) = HeadDecides bytes len verdict
IsJudgement bytes Malformed = RequestOverflows 64 (window bytes)
IsJudgement bytes Unfinished = HasNoRequest (window bytes) × MayBecomeRequest (window bytes)

-- a body is no longer than it may be
abbrev pub IsSmall : Verdict → Type 0
IsSmall (Reject status) = ⊤
IsSmall (NotAllowed verb) = ⊤
IsSmall (Show resource) = ⊤
IsSmall (Run purpose n) = n ≤ most_body

-- a whole head lies in the bytes and in the limits
abbrev pub IsInside : List ℕ → Judgement → Type 0
IsInside bytes (Whole len verdict) = (len ≤ length bytes) × (len ≤ 8192) × IsSmall verdict
IsInside bytes Malformed = ⊤
IsInside bytes Unfinished = ⊤

-- what judged bytes decide where no more of them come: without a whole head they are refused, by 431 where the window is full
abbrev pub verdict_at_end : List ℕ → Judgement → Verdict
verdict_at_end bytes (Whole len verdict) = verdict
verdict_at_end bytes Malformed = Reject 400
verdict_at_end bytes Unfinished = Reject (if nat_le 8192 (length bytes) then 431 else 400)

-- the bytes end within a target that is no UTF-8, whatever bytes of a target follow
abbrev pub EndsInBrokenTarget : List ℕ → Type 0
EndsInBrokenTarget bytes =
    (blank : List LineEnd) × (method : List ℕ) × (target : List ℕ)
    × IsToken method × AllPass is_uri_byte target × (bytes ≡ print_blank blank ++ method ++ space ∷ target)
    × ((more : List ℕ) → AllPass is_uri_byte more → ¬ (IsUtf8 (target ++ more)))

-- a head with more than 64 fields may still come, and no other
abbrev pub AwaitsMoreFields : List ℕ → Type 0
AwaitsMoreFields bytes =
    HasNoRequest bytes × RequestOverflows 64 bytes
    × ((more : List ℕ) × (h : RequestHead) × ReadsRequest (bytes ++ more) h [] × (64 < length h.fields))

-- No head of at most 64 fields can come, which the reader of heads may see at once or later: a target that breaks UTF-8 has not ended, or the 64 fields are passed and the head has not ended.
-- Malformed and Unfinished are then both right.
abbrev pub IsAmbiguous : List ℕ → Type 0
IsAmbiguous bytes = EndsInBrokenTarget (window bytes) ⊎ AwaitsMoreFields (window bytes)

-- The same bytes are judged in one way, save where they are ambiguous; and these decide the same at their end, save where the window is full: 400 or 431.
abbrev pub JudgedInOneWay : Type 0
JudgedInOneWay =
    (bytes : List ℕ) (j k : Judgement) → IsJudgement bytes j → IsJudgement bytes k
    → (j ≡ k) ⊎ (IsAmbiguous bytes × ((verdict_at_end bytes j ≡ verdict_at_end bytes k) ⊎ (8192 ≤ length bytes)))
