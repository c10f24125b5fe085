-- What a call for a text answers.
use Rattle.std.specs.Prelude.{◌≡◌, ℕ, List, Option, Some, None, Result, Ok, Err, string_bytes}
use Rattle.std.specs.declared.string.String.{String}
use Rattle.adm_letters.specs.declared.fault.LetterFault.{LetterFault}
use Rattle.adm_letters.specs.declared.fault.LetterFault.TheVariants as letter
use Rattle.adm_register.specs.declared.list_fault.ListFault.{ListFault}
use Rattle.adm_register.specs.declared.list_fault.ListFault.TheVariants.{UnknownSchool, Memory}

-- the text, if there is one, or else this error; for a text memory may run out
abbrev pub GivesText : {A : Type 0} → Option (List ℕ) → LetterFault → Result (String A) LetterFault → Type 0
GivesText (Some text) fault (Ok given) = string_bytes given ≡ text
GivesText (Some text) fault (Err e) = e ≡ letter.Memory
GivesText None fault (Ok given) = ⊥
GivesText None fault (Err e) = e ≡ fault

-- why there is no text, where there is no waiting list
abbrev pub text_fault_of : ListFault → LetterFault
text_fault_of UnknownSchool = letter.UnknownSchool
text_fault_of Memory = letter.Memory
