-- What may be shown of a register.
use Rattle.std.specs.Prelude.{◌≡◌, ℕ, List, Option, Some, None, Result, Ok, Err, MatchBool, string_bytes, ⊤}
use Rattle.std.specs.declared.alloc.AllocError.{AllocError}
use Rattle.std.specs.declared.string.String.{String}
use Rattle.adm_desk.specs.DeskState.{DeskState}
use Rattle.adm_letters.specs.declared.fault.LetterFault.{LetterFault}
use Rattle.adm_letters.specs.declared.fault.LetterFault.TheVariants as letter
use Rattle.adm_view.specs.declared.fault.ViewFault.{ViewFault}
use Rattle.adm_view.specs.declared.fault.ViewFault.TheVariants as view
use Rattle.adm_http.specs.Routes.{text_in}
use Rattle.adm_http.specs.declared.request_handler.ShowResult.{ShowResult}
use Rattle.adm_http.specs.declared.request_handler.ShowResult.TheVariants.{Text, Missing, Memory, Failed}
use Rattle.adm_http.specs.declared.routes.Resource.{Resource}

-- the text, if there is one, or that there is none; for a text memory may run out
abbrev pub IsShown : Option (List ℕ) → ShowResult → Type 0
IsShown text Failed = ⊥
IsShown text Missing = text ≡ None
IsShown text Memory = (some : List ℕ) × (text ≡ Some some)
IsShown text (Text given) = text ≡ Some (string_bytes given)

-- Of a desk that has failed nothing is shown, and else what its register has.
abbrev pub Shows : {C : Type 0} → DeskState C → Resource → ShowResult → Type 0
Shows desk resource shown = MatchBool desk.failed (shown ≡ Failed) (IsShown (text_in desk.register resource) shown)

-- ---- for private clauses

-- what a call that makes a text answered, as what is shown
abbrev pub IsShownAs : {A : Type 0} → Result (String A) LetterFault → ShowResult → Type 0
IsShownAs (Ok text) (Text given) = string_bytes given ≡ string_bytes text
IsShownAs (Ok text) Missing = ⊥
IsShownAs (Ok text) Memory = ⊥
IsShownAs (Ok text) Failed = ⊥
IsShownAs (Err fault) (Text given) = ⊥
IsShownAs (Err fault) Missing = fault ≡ letter.Memory → ⊥
IsShownAs (Err fault) Memory = fault ≡ letter.Memory
IsShownAs (Err fault) Failed = ⊥

-- the same of a call that makes a text unless memory runs out
abbrev pub IsMadeAs : {A : Type 0} → Result (String A) AllocError → ShowResult → Type 0
IsMadeAs (Ok text) (Text given) = string_bytes given ≡ string_bytes text
IsMadeAs (Ok text) Missing = ⊥
IsMadeAs (Ok text) Memory = ⊥
IsMadeAs (Ok text) Failed = ⊥
IsMadeAs (Err fault) (Text given) = ⊥
IsMadeAs (Err fault) Missing = ⊥
IsMadeAs (Err fault) Memory = ⊤
IsMadeAs (Err fault) Failed = ⊥

-- the same of a call that makes the text of a draw
abbrev pub IsDrawAs : {A : Type 0} → Result (String A) ViewFault → ShowResult → Type 0
IsDrawAs (Ok text) (Text given) = string_bytes given ≡ string_bytes text
IsDrawAs (Ok text) Missing = ⊥
IsDrawAs (Ok text) Memory = ⊥
IsDrawAs (Ok text) Failed = ⊥
IsDrawAs (Err fault) (Text given) = ⊥
IsDrawAs (Err fault) Missing = fault ≡ view.NoDraw
IsDrawAs (Err fault) Memory = fault ≡ view.Memory
IsDrawAs (Err fault) Failed = ⊥

-- the same of a call that makes the text of an entry where there is one, unless memory runs out
abbrev pub IsEntryAs : {A : Type 0} → Result (Option (String A)) AllocError → ShowResult → Type 0
IsEntryAs (Ok (Some text)) (Text given) = string_bytes given ≡ string_bytes text
IsEntryAs (Ok (Some text)) Missing = ⊥
IsEntryAs (Ok (Some text)) Memory = ⊥
IsEntryAs (Ok (Some text)) Failed = ⊥
IsEntryAs (Ok None) (Text given) = ⊥
IsEntryAs (Ok None) Missing = ⊤
IsEntryAs (Ok None) Memory = ⊥
IsEntryAs (Ok None) Failed = ⊥
IsEntryAs (Err fault) (Text given) = ⊥
IsEntryAs (Err fault) Missing = ⊥
IsEntryAs (Err fault) Memory = ⊤
IsEntryAs (Err fault) Failed = ⊥
