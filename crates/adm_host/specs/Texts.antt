-- How a text is written, and what is printed of a register.
use Rattle.std.specs.Prelude.{◌≡◌, ℕ, true, List, ◌++◌, codes, take, Option, Some, None, option_map, Result, Ok, Err, IfOk, string_bytes}
use Rattle.std.specs.FinMap.{get}
use Rattle.std.specs.Io.KnownBytes.{Appends}
use Rattle.std.specs.declared.string.String.{String}
use Rattle.serde_json.specs.Written.{compact_text}
use Rattle.adm_types.specs.declared.draws.Draw.{Draw}
use Rattle.adm_register.specs.State.{State}
use Rattle.adm_letters.specs.Letters.{letter_text}
use Rattle.adm_letters.specs.Lists.{list_text}
use Rattle.adm_letters.specs.Pairs.{pairs_text}
use Rattle.adm_letters.specs.Reports.{round_text}
use Rattle.adm_view.specs.Draws.{draw_data_with_lots}
use Rattle.adm_view.specs.Register.{register_data}
use Rattle.adm_wire.specs.Streams.{Stream}
use Rattle.adm_host.specs.declared.document.Document.{Document}
use Rattle.adm_host.specs.declared.document.Document.TheVariants as document
use Rattle.adm_host.specs.declared.exit.Exit.{Exit}
use Rattle.adm_host.specs.declared.exit.Exit.TheVariants as exit
use Rattle.adm_host.specs.declared.fault.Fault.{Fault}
use Rattle.adm_host.specs.declared.fault.Fault.TheVariants as fault

-- The text was written. Where the writer failed a beginning of it was, and nothing where memory ran out before.
abbrev pub Puts : {A : Type 0} → List ℕ → Stream → Result A Fault → Type 0
Puts text output (Ok x) = Appends output.old output.new text
Puts text output (Err fault.Write) = (output.has_failed ≡ true) × (n : ℕ) × Appends output.old output.new (take n text)
Puts text output (Err fault.Memory) = output.new ≡ output.old
Puts text output (Err f) = ⊥

-- the text, or this error where there is none
abbrev pub text_or : Fault → Option (List ℕ) → Result (List ℕ) Fault
text_or f (Some text) = Ok text
text_or f None = Err f

-- a text as a line, which ends with LF
abbrev pub line_of : List ℕ → List ℕ
line_of text = text ++ codes "\n"

-- the register as a line of JSON
unfoldable pub register_line : State → List ℕ
register_line s = line_of (compact_text (register_data s))

-- a draw with its lots, its cutoffs and its refusals as a line of JSON
unfoldable pub draw_line : State → Draw → List ℕ
draw_line s draw = line_of (compact_text (draw_data_with_lots s draw))

-- the text of a document of a register
abbrev pub document_text : State → Document → Result (List ℕ) Fault
document_text s (document.Letter child) = text_or fault.UnknownChild (letter_text s child)
document_text s (document.List school) = text_or fault.UnknownSchool (list_text s school)
document_text s (document.Report round) = text_or fault.NoRound (round_text s round)
document_text s (document.Pairs school) = text_or fault.UnknownSchool (pairs_text s school)
document_text s document.Register = Ok (register_line s)
document_text s (document.Draw number) = text_or fault.NoDraw (option_map (draw_line s) (get s.draws number))

-- printing a text is done where it was written; where there is none, its error is reported and nothing is written
abbrev pub PrintsAs : Result (List ℕ) Fault → Stream → Result Exit Fault → Type 0
PrintsAs (Ok text) output e = Puts text output e × IfOk e (λ x. x ≡ exit.Done)
PrintsAs (Err f) output e = (e ≡ Err f) × (output.new ≡ output.old)

-- ---- for a private clause

-- the text, or its error; for a text memory may run out
abbrev pub Says : {A : Type 0} → Result (List ℕ) Fault → Result (String A) Fault → Type 0
Says (Ok text) (Ok given) = string_bytes given ≡ text
Says (Ok text) (Err f) = f ≡ fault.Memory
Says (Err f) (Ok given) = ⊥
Says (Err f) (Err e) = e ≡ f
