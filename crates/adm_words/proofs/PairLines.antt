-- In arguments that clap accepts, a line of a file and one more argument has both, and where that may be omitted the file.
use Rattle.std.proofs.Common.{◌≡◌, ◌∙◌, false, refl, ap, List, [], Option, Some, inl, inr}
use Rattle.std.specs.Prelude.{codes, not, option_map}
use Rattle.clap.specs.Faults.{level_fault}
use Rattle.clap.specs.Walk.{Text, first_of, rows_after, nothing_held}
use Rattle.clap.specs.Takes.{is_given}
use Rattle.clap.specs.declared.builder.value_parser.ValueParser.{ValueParser}
use Rattle.clap.specs.declared.builder.value_parser.ValueParser.TheVariants as parser
use Rattle.adm_words.specs.Lines.{Line, IsLine, import_line, letter_line, list_line, report_line, pairs_line, show_line, file_and_argument, import_in, letter_in, list_in, report_in, pairs_in, show_in}
use Rattle.adm_words.proofs.Arguments.{taken, taken_uses, wanted, given_if, import_shape, letter_shape, list_shape, report_shape, pairs_shape, show_shape}
use Rattle.adm_words.proofs.FoundRows.{either_false}
use Rattle.adm_words.proofs.Faultless.{level_good, given_first}

paired : (line : Text → Text → Line) (file word : Option Text) (a b : Text) → file ≡ Some a → word ≡ Some b → IsLine (file_and_argument line file word)
paired line file word a b f w = (line a b, ap (λ o. file_and_argument line o word) f ∙ ap (λ o. file_and_argument line (Some a) o) w)

pub import_there : (phases : ValueParser) (arguments : List Text) → level_fault (import_shape phases) [] nothing_held arguments false [] ≡ []
    → IsLine (import_in (rows_after (import_shape phases).rules [] arguments))
import_there phases arguments none =
    let rows = rows_after (import_shape phases).rules [] arguments in
    let file_rule = taken (codes "file") 1 parser.String in
    let word_rule = taken (codes "csv") 2 parser.String in
    let file = level_good (import_shape phases) file_rule (inl refl, (inr refl, (inr refl, tt))) (taken_uses (codes "file") 1 parser.String refl) refl [] arguments false [] none in
    let word = level_good (import_shape phases) word_rule (inr refl, (inl refl, (inr refl, tt))) (taken_uses (codes "csv") 2 parser.String refl) refl [] arguments false [] none in
    let first = either_false (not (is_given (codes "file") rows)) _ (wanted _ file.1) in
    let second = either_false (not (is_given (codes "csv") rows)) _ first.1 in
    let a = given_first file_rule rows file.0 (given_if _ first.0) in
    let b = given_first word_rule rows word.0 (given_if _ second.0) in
    paired import_line _ _ a.0 b.0 a.1 b.1

pub letter_there : (phases : ValueParser) (arguments : List Text) → level_fault (letter_shape phases) [] nothing_held arguments false [] ≡ []
    → IsLine (letter_in (rows_after (letter_shape phases).rules [] arguments))
letter_there phases arguments none =
    let rows = rows_after (letter_shape phases).rules [] arguments in
    let file_rule = taken (codes "file") 1 parser.String in
    let word_rule = taken (codes "child") 2 parser.String in
    let file = level_good (letter_shape phases) file_rule (inl refl, (inr refl, (inr refl, tt))) (taken_uses (codes "file") 1 parser.String refl) refl [] arguments false [] none in
    let word = level_good (letter_shape phases) word_rule (inr refl, (inl refl, (inr refl, tt))) (taken_uses (codes "child") 2 parser.String refl) refl [] arguments false [] none in
    let first = either_false (not (is_given (codes "file") rows)) _ (wanted _ file.1) in
    let second = either_false (not (is_given (codes "child") rows)) _ first.1 in
    let a = given_first file_rule rows file.0 (given_if _ first.0) in
    let b = given_first word_rule rows word.0 (given_if _ second.0) in
    paired letter_line _ _ a.0 b.0 a.1 b.1

pub list_there : (phases : ValueParser) (arguments : List Text) → level_fault (list_shape phases) [] nothing_held arguments false [] ≡ []
    → IsLine (list_in (rows_after (list_shape phases).rules [] arguments))
list_there phases arguments none =
    let rows = rows_after (list_shape phases).rules [] arguments in
    let file_rule = taken (codes "file") 1 parser.String in
    let word_rule = taken (codes "school") 2 parser.String in
    let file = level_good (list_shape phases) file_rule (inl refl, (inr refl, (inr refl, tt))) (taken_uses (codes "file") 1 parser.String refl) refl [] arguments false [] none in
    let word = level_good (list_shape phases) word_rule (inr refl, (inl refl, (inr refl, tt))) (taken_uses (codes "school") 2 parser.String refl) refl [] arguments false [] none in
    let first = either_false (not (is_given (codes "file") rows)) _ (wanted _ file.1) in
    let second = either_false (not (is_given (codes "school") rows)) _ first.1 in
    let a = given_first file_rule rows file.0 (given_if _ first.0) in
    let b = given_first word_rule rows word.0 (given_if _ second.0) in
    paired list_line _ _ a.0 b.0 a.1 b.1

pub report_there : (phases : ValueParser) (arguments : List Text) → level_fault (report_shape phases) [] nothing_held arguments false [] ≡ []
    → IsLine (report_in (rows_after (report_shape phases).rules [] arguments))
report_there phases arguments none =
    let rows = rows_after (report_shape phases).rules [] arguments in
    let file_rule = taken (codes "file") 1 parser.String in
    let word_rule = taken (codes "round") 2 parser.String in
    let file = level_good (report_shape phases) file_rule (inl refl, (inr refl, (inr refl, tt))) (taken_uses (codes "file") 1 parser.String refl) refl [] arguments false [] none in
    let word = level_good (report_shape phases) word_rule (inr refl, (inl refl, (inr refl, tt))) (taken_uses (codes "round") 2 parser.String refl) refl [] arguments false [] none in
    let first = either_false (not (is_given (codes "file") rows)) _ (wanted _ file.1) in
    let second = either_false (not (is_given (codes "round") rows)) _ first.1 in
    let a = given_first file_rule rows file.0 (given_if _ first.0) in
    let b = given_first word_rule rows word.0 (given_if _ second.0) in
    paired report_line _ _ a.0 b.0 a.1 b.1

pub pairs_there : (phases : ValueParser) (arguments : List Text) → level_fault (pairs_shape phases) [] nothing_held arguments false [] ≡ []
    → IsLine (pairs_in (rows_after (pairs_shape phases).rules [] arguments))
pairs_there phases arguments none =
    let rows = rows_after (pairs_shape phases).rules [] arguments in
    let file_rule = taken (codes "file") 1 parser.String in
    let file = level_good (pairs_shape phases) file_rule (inl refl, (inr refl, (inr refl, tt))) (taken_uses (codes "file") 1 parser.String refl) refl [] arguments false [] none in
    let missing = either_false (not (is_given (codes "file") rows)) _ (wanted _ file.1) in
    let value = given_first file_rule rows file.0 (given_if _ missing.0) in
    let line : Text → Line = λ f. pairs_line f (first_of (codes "school") rows) in
    (line value.0, ap (option_map line) value.1)

pub show_there : (phases : ValueParser) (arguments : List Text) → level_fault (show_shape phases) [] nothing_held arguments false [] ≡ []
    → IsLine (show_in (rows_after (show_shape phases).rules [] arguments))
show_there phases arguments none =
    let rows = rows_after (show_shape phases).rules [] arguments in
    let file_rule = taken (codes "file") 1 parser.String in
    let file = level_good (show_shape phases) file_rule (inl refl, (inr refl, (inr refl, tt))) (taken_uses (codes "file") 1 parser.String refl) refl [] arguments false [] none in
    let missing = either_false (not (is_given (codes "file") rows)) _ (wanted _ file.1) in
    let value = given_first file_rule rows file.0 (given_if _ missing.0) in
    let line : Text → Line = λ f. show_line f (first_of (codes "draw") rows) in
    (line value.0, ap (option_map line) value.1)
