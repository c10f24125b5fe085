-- The bytes of a response: its status, header fields and body.
use Rattle.std.specs.Prelude.{ℕ, List, [], ◌++◌, length, Option, Some, None, codes, decimal}
use Rattle.httparse.specs.Ascii.{crlf_bytes}
use Rattle.http.specs.StatusCode.{status_text}
use Rattle.adm_http.specs.declared.heads.Verb.{Verb}
use Rattle.adm_http.specs.declared.heads.Verb.TheVariants.{Get, Post}
use Rattle.adm_http.specs.declared.responses.Media.{Media}
use Rattle.adm_http.specs.declared.responses.Media.TheVariants.{Json, PlainText}

-- the name of a method
abbrev pub verb_text : Verb → List ℕ
verb_text Get = codes "GET"
verb_text Post = codes "POST"

-- the name of a media type, as the field Content-Type has it
abbrev pub media_text : Media → List ℕ
media_text Json = codes "application/json"
media_text PlainText = codes "text/plain; charset=utf-8"

-- what is answered: a status, the one method that is allowed, a type and a body
pub record Response : Type 0 where
  pub status : ℕ
  pub allow : Option Verb
  pub media : Media
  pub body : List ℕ

-- the line of the field Allow, where one method is allowed
abbrev pub allow_line : Option Verb → List ℕ
allow_line None = []
allow_line (Some verb) = codes "Allow: " ++ verb_text verb ++ crlf_bytes

-- a line, and what follows it
abbrev pub line : List ℕ → List ℕ → List ℕ
line text rest = text ++ (crlf_bytes ++ rest)

-- the bytes of a response; the status is written with its canonical reason
unfoldable pub response_bytes : Response → List ℕ
response_bytes r =
    line (codes "HTTP/1.1 " ++ status_text r.status)
    (line (codes "Content-Type: " ++ media_text r.media)
    (line (codes "Content-Length: " ++ decimal (length r.body))
    (line (codes "Connection: close")
    (allow_line r.allow
    ++ line [] r.body))))

-- a body of JSON
abbrev pub json : ℕ → List ℕ → Response
json status body = record { status = status; allow = None; media = Json; body = body }

-- the body that names the status alone
abbrev pub status_body : ℕ → List ℕ
status_body status = codes "{\"status\":" ++ decimal status ++ codes "}"

-- the response with this status, whose body names the status alone
abbrev pub bare : ℕ → Response
bare status = json status (status_body status)

-- the route is for this method alone
abbrev pub not_allowed : Verb → Response
not_allowed verb = record (bare 405) { allow = Some verb }
