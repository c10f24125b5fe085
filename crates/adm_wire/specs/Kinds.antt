-- The kinds of a field's value, and the keys of an object.
use Rattle.std.specs.Prelude.{ℕ, ◌^◌, List, [], ◌∷◌, Bool, nat_lt, Option, Some, None, option_and_then, option_map, unwrap_or, Result, Ok, Err, if◌then◌else◌}
use Rattle.std.specs.Str.{bytes_eq}
use Rattle.std.specs.List.{list_any, list_all}
use Rattle.serde_json.specs.Data.{Data, Items, no_items, item, Members, no_members, member}
use Rattle.serde_json.specs.Find.{as_number, as_u64, as_bool, as_str, as_array, as_object}
use Rattle.adm_types.specs.Code.{code_of, code_or_none_of}
use Rattle.adm_types.specs.DayText.{day_named}
use Rattle.adm_types.specs.Criteria.{criterion_of}
use Rattle.adm_types.specs.Flags.{flag_of, bits_of}
use Rattle.adm_types.specs.Numbers.{child_of}
use Rattle.adm_types.specs.declared.criteria.Criterion.{Criterion}
use Rattle.adm_wire.specs.declared.fault.WireFault.{WireFault}
use Rattle.adm_wire.specs.declared.fault.WireFault.TheVariants.{ExtraField}

-- ---- kinds of a value

-- a whole number below 2 ^ 32, written without a fraction and an exponent
abbrev pub a_number : Data → Option ℕ
a_number d = option_and_then (λ n. if nat_lt n (2 ^ 32) then Some n else None) (option_and_then as_u64 (as_number d))

-- `true` or `false`
abbrev pub a_truth : Data → Option Bool
a_truth = as_bool

-- the number of a child, from 1 to 9,999,999
abbrev pub a_child : Data → Option ℕ
a_child d = option_and_then child_of (a_number d)

-- a verified flag, from 0 to 15
abbrev pub a_flag : Data → Option ℕ
a_flag d = option_and_then flag_of (a_number d)

-- any text
abbrev pub a_text : Data → Option (List ℕ)
a_text = as_str

-- the code of a school
abbrev pub a_code : Data → Option (List ℕ)
a_code d = option_and_then code_of (a_text d)

-- the code of a school, or the empty text for none
abbrev pub a_code_or_none : Data → Option (Option (List ℕ))
a_code_or_none d = option_and_then code_or_none_of (a_text d)

-- a day, as YYYY-MM-DD
abbrev pub a_day : Data → Option ℕ
a_day d = option_and_then day_named (a_text d)

-- an oversubscription criterion
abbrev pub a_criterion : Data → Option Criterion
a_criterion d = option_and_then criterion_of (a_text d)

-- what each item says, where all are of the kind
abbrev pub each : {A : Type 0} → (Data → Option A) → Items → Option (List A)
each kind no_items = Some []
each kind (item d ds) = option_and_then (λ x. option_map (λ xs. x ∷ xs) (each kind ds)) (kind d)

-- a list of values of the kind
abbrev pub a_list : {A : Type 0} → (Data → Option A) → Data → Option (List A)
a_list kind d = option_and_then (each kind) (as_array d)

-- verified flags, as the bits of a number
abbrev pub some_flags : Data → Option ℕ
some_flags d = option_map bits_of (a_list a_flag d)

-- ---- the keys of an object

-- the keys of the members, in their order
abbrev pub member_keys : Members → List (List ℕ)
member_keys no_members = []
member_keys (member k d ms) = k ∷ member_keys ms

-- the keys of an object, in their order; data that is no object has none
abbrev pub keys_of : Data → List (List ℕ)
keys_of d = unwrap_or (option_map member_keys (as_object d)) []

-- whether the key is one of these
abbrev pub is_one_of : List (List ℕ) → List ℕ → Bool
is_one_of known key = list_any (λ k. bytes_eq k key) known

-- this, unless a member has a key that is not known
abbrev pub only : {A : Type 0} → List (List ℕ) → Data → A → Result A WireFault
only known d x = if list_all (is_one_of known) (keys_of d) then Ok x else Err ExtraField
