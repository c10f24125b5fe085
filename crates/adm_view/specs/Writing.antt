-- Values and records as JSON data: what data each kind of value is, and the members of an object for each list of fields.
use Rattle.std.specs.Prelude.{ℕ, zero, suc, List, [], ◌∷◌, ◌++◌, map, filter, Bool, true, false, Option, Some, None, if◌then◌else◌}
use Rattle.serde_json.specs.Data.{Data, boolean, number, unsigned, string, array, no_items, Members, no_members, put}
use Rattle.serde_json.specs.View.{items_of}
use Rattle.adm_types.specs.Flags.{has_flag}
use Rattle.adm_types.specs.Criteria.{criterion_text}
use Rattle.adm_types.specs.declared.criteria.Criterion.{Criterion}
use Rattle.adm_fields.specs.Lists.{Format}
use Rattle.adm_days.specs.Days.{day_text}

-- a whole number
abbrev pub number_data : ℕ → Data
number_data n = number (unsigned n)

-- a list, each item in its own form
abbrev pub list_data : {A : Type 0} → (A → Data) → List A → Data
list_data form xs = array (items_of (map form xs))

-- the code of a school, or the empty text for none
abbrev pub code_or_empty : Option (List ℕ) → Data
code_or_empty None = string []
code_or_empty (Some code) = string code

-- a day as YYYY-MM-DD
abbrev pub day_data : ℕ → Data
day_data day = string (day_text day)

-- the numbers below this one, in order
abbrev pub numbers_below : ℕ → List ℕ
numbers_below zero = []
numbers_below (suc n) = numbers_below n ++ n ∷ []

-- the flags from 0 to 15 whose bits are set, in order
abbrev pub flags_data : ℕ → Data
flags_data bits = list_data number_data (filter (has_flag bits) (numbers_below 16))

-- a criterion as commands write it
abbrev pub criterion_data : Criterion → Data
criterion_data criterion = string (criterion_text criterion)

-- whether data are an empty list
abbrev pub is_empty_list : Data → Bool
is_empty_list (array no_items) = true
is_empty_list d = false

-- whether a field is left out: it may be omitted, and its data are an empty list
abbrev pub is_left_out : {A : Type 0} → Option A → Data → Bool
is_left_out None d = false
is_left_out (Some default) d = is_empty_list d

-- others with the member for a field, unless it is left out
abbrev pub put_field : {A : Type 0} → Option A → List ℕ → Data → Members → Members
put_field otherwise name d others = if is_left_out otherwise d then others else put name d others

-- records as the members of JSON objects, each value in the form of its kind
abbrev pub members : Format (λ A. A → Data) (λ A. A → Members)
members = record {
  field = λ name otherwise kind others v. put_field otherwise name (kind v.0) (others v.1);
  no_more = λ v. no_members;
  a_child = number_data;
  a_code_or_none = code_or_empty;
  a_text = string;
  a_number = number_data;
  a_truth = boolean;
  a_day = day_data;
  some_flags = flags_data;
  some_codes = list_data string;
}
