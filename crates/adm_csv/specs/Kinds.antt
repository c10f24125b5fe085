-- The kinds of a field: what its text says, or the error of the kind. No text is a field that is none, or no UTF-8.
use Rattle.std.specs.Prelude.{ℕ, List, Bool, true, false, codes, Option, Some, None, option_and_then, option_map, Result, if◌then◌else◌}
use Rattle.std.specs.Str.{bytes_eq}
use Rattle.adm_types.specs.Code.{code_or_none_of}
use Rattle.adm_types.specs.Fields.{plain_of, child_named}
use Rattle.adm_types.specs.Flags.{flag_of, bits_of}
use Rattle.adm_types.specs.DayText.{day_named}
use Rattle.adm_types.specs.Joined.{items_of, codes_of}
use Rattle.adm_csv.specs.declared.fault.Fault.{Fault}
use Rattle.adm_csv.specs.declared.fault.Fault.TheVariants.{BadNumber, BadDate, BadText}
use Rattle.adm_csv.specs.Reading.{some_or}

-- a text, as bytes
abbrev pub Text : Type 0
Text = List ℕ

-- a plain number
abbrev pub a_number : Option Text → Result ℕ Fault
a_number text = some_or BadNumber (option_and_then plain_of text)

-- a plain number from 1 to 9,999,999
abbrev pub a_child : Option Text → Result ℕ Fault
a_child text = some_or BadNumber (option_and_then child_named text)

-- any text
abbrev pub a_text : Option Text → Result Text Fault
a_text text = some_or BadText text

-- `yes` or `no`
abbrev pub truth_of : Text → Option Bool
truth_of text = if bytes_eq text (codes "yes") then Some true else (if bytes_eq text (codes "no") then Some false else None)

-- a truth value: `yes` or `no`
abbrev pub a_truth : Option Text → Result Bool Fault
a_truth text = some_or BadText (option_and_then truth_of text)

-- plain numbers from 0 to 15, with `;` between each two
abbrev pub flag_named : Text → Option ℕ
flag_named text = option_and_then flag_of (plain_of text)

-- the flags that a text lists, with `;` between each two
abbrev pub flags_of : Text → Option (List ℕ)
flags_of = items_of flag_named

-- flags, as the bits of a number
abbrev pub some_flags : Option Text → Result ℕ Fault
some_flags text = some_or BadNumber (option_map bits_of (option_and_then flags_of text))

-- codes of schools, with `;` between each two
abbrev pub some_codes : Option Text → Result (List Text) Fault
some_codes text = some_or BadText (option_and_then codes_of text)

-- the code of a school, or the empty text for none
abbrev pub a_code_or_none : Option Text → Result (Option Text) Fault
a_code_or_none text = some_or BadText (option_and_then code_or_none_of text)

-- a day, as YYYY-MM-DD
abbrev pub a_day : Option Text → Result ℕ Fault
a_day text = some_or BadDate (option_and_then day_named text)
