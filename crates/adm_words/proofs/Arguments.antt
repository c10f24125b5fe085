-- Arguments that take one value: in arguments without an error each required one has a value, which passes.
use Rattle.std.proofs.Common.{◌≡◌, ◌∙◌, ℕ, Bool, true, false, true≢false, refl, ap, List, [], ◌∷◌, length, Option, Some, None}
use Rattle.std.specs.Prelude.{if◌then◌else◌, ◌&&◌, not}
use Rattle.std.specs.Str.{bytes_eq}
use Rattle.clap.specs.Kinds.{range_kinds, value_kinds}
use Rattle.clap.specs.Simple.{Shape, built, new_rule, new_shape}
use Rattle.clap.specs.Faults.{repeat_fault}
use Rattle.clap.specs.Walk.{Row, Rule, Text, has_row, first_of, more_values}
use Rattle.clap.specs.ValueTests.{accepts}
use Rattle.clap.specs.declared.error.kind.ErrorKind.TheVariants as kind
use Rattle.clap.specs.declared.error.kind.ErrorKind.{ErrorKind}
use Rattle.clap.specs.declared.builder.action.ArgAction.TheVariants.{Set}
use Rattle.clap.specs.declared.builder.value_parser.ValueParser.{ValueParser}
use Rattle.clap.specs.declared.parser.matches.ValueSource.TheVariants.{CommandLine}
use Rattle.adm_words.specs.Program.{program_app}
use Rattle.adm_words.proofs.FoundRows.{nonempty, both_empty, row_passes, fresh}
use Rattle.adm_words.proofs.Faultless.{UsesWell}

-- an argument of one value, by its long name, its place, and whether it is required
abbrev single : Text → Option Text → Option ℕ → Bool → ValueParser → Rule
single id long index required p = record (new_rule id) {
  long = long;
  index = index;
  action = Some Set;
  range = Some (record { start_inclusive = 1; end_inclusive = 1 });
  value_names = 1;
  parser = Some p;
  required = required;
}

-- a required argument at this place
abbrev pub taken : Text → ℕ → ValueParser → Rule
taken id i p = single id None (Some i) true p

-- an option that may be omitted
abbrev pub optional : Text → ValueParser → Rule
optional id p = single id (Some id) None false p

unrepeated : (b : Bool) → (if b && not false then kind.ArgumentConflict ∷ [] else []) ≡ [] → b ≡ false
unrepeated true e = absurd (nonempty _ refl e)
unrepeated false e = refl

passed : (b : Bool) (k : ErrorKind) → (if b then [] else k ∷ []) ≡ [] → b ≡ true
passed true k e = refl
passed false k e = absurd (nonempty _ refl e)

single_uses : (id : Text) (long : Option Text) (index : Option ℕ) (required : Bool) (p : ValueParser) → bytes_eq id id ≡ true → UsesWell false (single id long index required p)
single_uses id long index required p same [] rows none good = absurd (nonempty (kind.InvalidValue ∷ []) refl none)
single_uses id long index required p same (v ∷ vs) rows none good =
    let parts = both_empty (range_kinds 1 1 (length (v ∷ vs))) _ none in
    let inner = both_empty (repeat_fault false id rows) _ parts.1 in
    let value = both_empty (value_kinds false p v) _ inner.1 in
    ap (row_passes (single id long index required p)) (fresh id (more_values CommandLine (v ∷ vs)) _ rows same (unrepeated (has_row id rows) inner.0))
    ∙ passed (accepts false p v) _ value.0

pub taken_uses : (id : Text) (i : ℕ) (p : ValueParser) → bytes_eq id id ≡ true → UsesWell false (taken id i p)
taken_uses id i p same = single_uses id None (Some i) true p same

pub optional_uses : (id : Text) (p : ValueParser) → bytes_eq id id ≡ true → UsesWell false (optional id p)
optional_uses id p same = single_uses id (Some id) None false p same

-- ---- what is required is given

pub wanted : (b : Bool) → (if b then kind.MissingRequiredArgument ∷ [] else []) ≡ [] → b ≡ false
wanted true e = absurd (nonempty _ refl e)
wanted false e = refl

pub given_if : (b : Bool) → not b ≡ false → b ≡ true
given_if true e = refl
given_if false e = absurd (true≢false e)

-- a required argument of a level without an error has a value, which passes
abbrev pub HasValue : Text → ValueParser → List Row → Type 0
HasValue id p rows = (v : Text) × (first_of id rows ≡ Some v) × (accepts false p v ≡ true)

-- ---- the subcommands as they are built

abbrev pub head_shape : List Shape → Shape
head_shape [] = new_shape []
head_shape (s ∷ ss) = s

abbrev pub tail_shapes : List Shape → List Shape
tail_shapes [] = []
tail_shapes (s ∷ ss) = ss

abbrev pub subs_of : ValueParser → List Shape
subs_of phases = (built (program_app phases)).subs

abbrev pub taking_shapes : ValueParser → List Shape
taking_shapes phases = tail_shapes (tail_shapes (tail_shapes (subs_of phases)))

abbrev pub reading_shapes : ValueParser → List Shape
reading_shapes phases = tail_shapes (tail_shapes (taking_shapes phases))

abbrev pub init_shape : ValueParser → Shape
init_shape phases = head_shape (subs_of phases)

abbrev pub do_shape : ValueParser → Shape
do_shape phases = head_shape (tail_shapes (subs_of phases))

abbrev pub what_if_shape : ValueParser → Shape
what_if_shape phases = head_shape (tail_shapes (tail_shapes (subs_of phases)))

abbrev pub import_shape : ValueParser → Shape
import_shape phases = head_shape (taking_shapes phases)

abbrev pub serve_shape : ValueParser → Shape
serve_shape phases = head_shape (tail_shapes (taking_shapes phases))

abbrev pub letter_shape : ValueParser → Shape
letter_shape phases = head_shape (reading_shapes phases)

abbrev pub list_shape : ValueParser → Shape
list_shape phases = head_shape (tail_shapes (reading_shapes phases))

abbrev pub report_shape : ValueParser → Shape
report_shape phases = head_shape (tail_shapes (tail_shapes (reading_shapes phases)))

abbrev pub pairs_shape : ValueParser → Shape
pairs_shape phases = head_shape (tail_shapes (tail_shapes (tail_shapes (reading_shapes phases))))

abbrev pub show_shape : ValueParser → Shape
show_shape phases = head_shape (tail_shapes (tail_shapes (tail_shapes (tail_shapes (reading_shapes phases)))))

abbrev pub help_of : ValueParser → Shape
help_of phases = head_shape (tail_shapes (tail_shapes (tail_shapes (tail_shapes (tail_shapes (reading_shapes phases))))))
