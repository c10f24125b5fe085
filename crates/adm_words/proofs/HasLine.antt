-- In arguments that clap accepts, the program's line is one of its lines, and has all of its values.
use Rattle.std.proofs.Common.{◌≡◌, ◌∙◌, ℕ, Bool, true, false, true≢false, cond, refl, sym, ap, subst, arith, List, [], Option, Some, None, inl, inr}
use Rattle.std.specs.Prelude.{◌||◌, not, codes, pos, option_and_then, option_map, is_some}
use Rattle.std.specs.List.{list_any}
use Rattle.std.specs.Option.{option_map_or}
use Rattle.std.specs.Str.{bytes_eq}
use Rattle.std.proofs.lemmas.Slice.Eq.{bytes_eq-Decides}
use Rattle.clap.specs.Simple.{Shape, built, entered, names_of, argument_words, rows_at}
use Rattle.clap.specs.Faults.{entered_fault, level_fault, walk_fault, fault_of}
use Rattle.clap.specs.Walk.{Row, Text, rows_after, walk, walk_from, nothing_held}
use Rattle.clap.specs.Words.{subcommand_of}
use Rattle.clap.specs.ValueTests.{accepts}
use Rattle.clap.specs.declared.builder.value_parser.ValueParser.{ValueParser}
use Rattle.clap.specs.declared.builder.value_parser.ValueParser.TheVariants as parser
use Rattle.clap.proofs.WalkLemmas.{list_any-map}
use Rattle.adm_types.specs.declared.seasons.Phase.{Phase}
use Rattle.adm_types.specs.declared.seasons.Phase.TheVariants.{Primary, Secondary}
use Rattle.adm_types.specs.declared.seasons.Size.{Size}
use Rattle.adm_words.specs.Program.{IsPhases, program_app}
use Rattle.adm_words.specs.Lines.{IsLine, init_line, do_line, what_if_line, phase_of, year_of, init_of, init_in, do_in, what_if_line_in, holidays_in, size_in, line_in}
use Rattle.adm_words.proofs.Arguments.{HasValue, taken, taken_uses, wanted, given_if, init_shape, do_shape, what_if_shape, import_shape, serve_shape, letter_shape, list_shape, report_shape, pairs_shape, show_shape, help_of}
use Rattle.adm_words.proofs.FoundRows.{both_empty, either_false}
use Rattle.adm_words.proofs.PairLines.{import_there, letter_there, list_there, report_there, pairs_there, show_there}
use Rattle.adm_words.proofs.Ranges.{number_named}
use Rattle.adm_words.proofs.ServeLine.{serve_there}
use Rattle.clap.specs.Takes.{is_given}
use Rattle.adm_words.proofs.NoHelp.{IsNoHelp, no_help_met}
use Rattle.adm_words.proofs.Faultless.{level_good, given_first}

-- ---- values

named : (v : Text) → (bytes_eq (codes "primary") v || (bytes_eq (codes "secondary") v || false)) ≡ true → (phase : Phase) × (phase_of v ≡ Some phase)
named v e = go (bytes_eq (codes "primary") v) (bytes_eq (codes "secondary") v) refl refl e
  where
    go : (a b : Bool) → bytes_eq (codes "primary") v ≡ a → bytes_eq (codes "secondary") v ≡ b → (a || (b || false)) ≡ true → (phase : Phase) × (phase_of v ≡ Some phase)
    go true b first second h = subst (λ (t : Text). (phase : Phase) × (phase_of t ≡ Some phase)) ((bytes_eq-Decides (codes "primary") v).0 first) (Primary, refl)
    go false true first second h = subst (λ (t : Text). (phase : Phase) × (phase_of t ≡ Some phase)) ((bytes_eq-Decides (codes "secondary") v).0 second) (Secondary, refl)
    go false false first second h = absurd (true≢false (sym h))

phase_named : (phases : ValueParser) → IsPhases phases → (v : Text) → accepts false phases v ≡ true → (phase : Phase) × (phase_of v ≡ Some phase)
phase_named (parser.Names given) is v e =
    named v (ap (list_any (λ n. bytes_eq n v)) (sym is) ∙ sym (list_any-map (λ n. bytes_eq n v) (λ n. n.now) given.now) ∙ e)
phase_named _ is v e = absurd is

-- ---- the lines

made : (file : Option Text) (phase : Option Phase) (year : Option ℕ) (holidays : List Text) (size : Size) (a : Text) (b : Phase) (c : ℕ)
    → file ≡ Some a → phase ≡ Some b → year ≡ Some c → IsLine (init_of file phase year holidays size)
made file phase year holidays size a b c f p y = (
  init_line a b c holidays size,
  ap (λ o. init_of o phase year holidays size) f ∙ ap (λ o. init_of (Some a) o year holidays size) p ∙ ap (λ o. init_of (Some a) (Some b) o holidays size) y,
)

init_values : (phases : ValueParser) (arguments : List Text) → level_fault (init_shape phases) [] nothing_held arguments false [] ≡ []
    → let rows = rows_after (init_shape phases).rules [] arguments in
    HasValue (codes "file") parser.String rows × HasValue (codes "phase") phases rows × HasValue (codes "year") (parser.Signed (pos 2000) (pos 2100)) rows
init_values phases arguments none =
    let rows = rows_after (init_shape phases).rules [] arguments in
    let file_rule = taken (codes "file") 1 parser.String in
    let phase_rule = taken (codes "phase") 2 phases in
    let year_rule = taken (codes "year") 3 (parser.Signed (pos 2000) (pos 2100)) in
    let file = level_good (init_shape phases) file_rule (inl refl, (inr refl, (inr refl, (inr refl, (inr refl, (inr refl, tt)))))) (taken_uses (codes "file") 1 parser.String refl) refl [] arguments false [] none in
    let phase = level_good (init_shape phases) phase_rule (inr refl, (inl refl, (inr refl, (inr refl, (inr refl, (inr refl, tt)))))) (taken_uses (codes "phase") 2 phases refl) refl [] arguments false [] none in
    let year = level_good (init_shape phases) year_rule (inr refl, (inr refl, (inl refl, (inr refl, (inr refl, (inr refl, tt)))))) (taken_uses (codes "year") 3 (parser.Signed (pos 2000) (pos 2100)) refl) refl [] arguments false [] none in
    let missing = wanted _ file.1 in
    let first = either_false (not (is_given (codes "file") rows)) _ missing in
    let second = either_false (not (is_given (codes "phase") rows)) _ first.1 in
    let third = either_false (not (is_given (codes "year") rows)) _ second.1 in
    (given_first file_rule rows file.0 (given_if _ first.0), given_first phase_rule rows phase.0 (given_if _ second.0), given_first year_rule rows year.0 (given_if _ third.0))

init_there : (phases : ValueParser) → IsPhases phases → (arguments : List Text) → level_fault (init_shape phases) [] nothing_held arguments false [] ≡ []
    → IsLine (init_in (rows_after (init_shape phases).rules [] arguments))
init_there phases is arguments none =
    let rows = rows_after (init_shape phases).rules [] arguments in
    let values = init_values phases arguments none in
    let phase = phase_named phases is values.1.0 values.1.2 in
    let year = number_named 2000 2100 (omega arith) (omega arith) values.2.0 values.2.2 in
    made _ _ _ (holidays_in rows) (size_in rows) values.0.0 phase.0 year.0 values.0.1
    (ap (option_and_then phase_of) values.1.1 ∙ phase.1) (ap (option_and_then year_of) values.2.1 ∙ year.1)

do_there : (phases : ValueParser) (arguments : List Text) → level_fault (do_shape phases) [] nothing_held arguments false [] ≡ []
    → IsLine (do_in (rows_after (do_shape phases).rules [] arguments))
do_there phases arguments none =
    let rows = rows_after (do_shape phases).rules [] arguments in
    let file_rule = taken (codes "file") 1 parser.String in
    let file = level_good (do_shape phases) file_rule (inl refl, (inr refl, tt)) (taken_uses (codes "file") 1 parser.String refl) refl [] arguments false [] none in
    let missing = either_false (not (is_given (codes "file") rows)) _ (wanted _ file.1) in
    let value = given_first file_rule rows file.0 (given_if _ missing.0) in
    (do_line value.0, ap (option_map do_line) value.1)

what_if_there : (phases : ValueParser) (arguments : List Text) → level_fault (what_if_shape phases) [] nothing_held arguments false [] ≡ []
    → IsLine (what_if_line_in (rows_after (what_if_shape phases).rules [] arguments))
what_if_there phases arguments none =
    let rows = rows_after (what_if_shape phases).rules [] arguments in
    let file_rule = taken (codes "file") 1 parser.String in
    let file = level_good (what_if_shape phases) file_rule (inl refl, (inr refl, tt)) (taken_uses (codes "file") 1 parser.String refl) refl [] arguments false [] none in
    let missing = either_false (not (is_given (codes "file") rows)) _ (wanted _ file.1) in
    let value = given_first file_rule rows file.0 (given_if _ missing.0) in
    (what_if_line value.0, ap (option_map what_if_line) value.1)

-- ---- the subcommand

abbrev LineOf : Option (Text × List Row) → Type 0
LineOf None = Unit {0}
LineOf (Some p) = IsLine (line_in p.0 p.1)

flipped : (x y : Text) → bytes_eq x y ≡ false → (bytes_eq y x || false) ≡ false
flipped x y apart = go (bytes_eq y x) refl
  where
    go : (b : Bool) → bytes_eq y x ≡ b → (b || false) ≡ false
    go false e = refl
    go true e = absurd (true≢false (sym ((bytes_eq-Decides x y).1 (sym ((bytes_eq-Decides y x).0 e))) ∙ apart))

entered_line : (phases : ValueParser) → IsPhases phases → (name : Text) (rows : List Row) (stop : Option (Text × List Text)) → IsNoHelp stop
    → entered_fault (built (program_app phases)) stop ≡ [] → entered (built (program_app phases)) stop ≡ Some (name, rows) → IsLine (line_in name rows)
entered_line phases plain name rows None no_help none found = absurd (none_is_some found)
  where
    none_is_some : {X : Type 0} {x : X} → None ≡ Some x → ⊥
    none_is_some e = true≢false (sym (ap is_some e))
entered_line phases plain name rows (Some q) no_help none found =
    go (named_as (codes "init")) (named_as (codes "do")) (named_as (codes "what-if")) (named_as (codes "import")) (named_as (codes "serve"))
    (named_as (codes "letter")) (named_as (codes "list")) (named_as (codes "round-report")) (named_as (codes "pairs")) (named_as (codes "show")) (named_as (codes "help")) (flipped q.0 (codes "help") no_help) none found
  where
    named_as : Text → Bool
    named_as text = bytes_eq text q.0 || false

    chosen : Bool → Bool → Bool → Bool → Bool → Bool → Bool → Bool → Bool → Bool → Bool → Option Shape
    chosen a b c d e f g h i j k = cond a (Some (init_shape phases)) (cond b (Some (do_shape phases)) (cond c (Some (what_if_shape phases)) (
        cond d (Some (import_shape phases)) (cond e (Some (serve_shape phases)) (cond f (Some (letter_shape phases)) (cond g (Some (list_shape phases)) (
        cond h (Some (report_shape phases)) (cond i (Some (pairs_shape phases)) (cond j (Some (show_shape phases)) (cond k (Some (help_of phases)) None))))))))))

    go : (a b c d e f g h i j k : Bool) → k ≡ false → option_map_or (λ s. level_fault s [] nothing_held q.1 false []) (chosen a b c d e f g h i j k) [] ≡ []
        → option_map (λ s. rows_at s q.1) (chosen a b c d e f g h i j k) ≡ Some (name, rows) → IsLine (line_in name rows)
    go true b c d e f g h i j k apart well is = subst LineOf is (init_there phases plain q.1 well)
    go false true c d e f g h i j k apart well is = subst LineOf is (do_there phases q.1 well)
    go false false true d e f g h i j k apart well is = subst LineOf is (what_if_there phases q.1 well)
    go false false false true e f g h i j k apart well is = subst LineOf is (import_there phases q.1 well)
    go false false false false true f g h i j k apart well is = subst LineOf is (serve_there phases q.1 well)
    go false false false false false true g h i j k apart well is = subst LineOf is (letter_there phases q.1 well)
    go false false false false false false true h i j k apart well is = subst LineOf is (list_there phases q.1 well)
    go false false false false false false false true i j k apart well is = subst LineOf is (report_there phases q.1 well)
    go false false false false false false false false true j k apart well is = subst LineOf is (pairs_there phases q.1 well)
    go false false false false false false false false false true k apart well is = subst LineOf is (show_there phases q.1 well)
    go false false false false false false false false false false true apart well is = absurd (true≢false apart)
    go false false false false false false false false false false false apart well is = absurd (true≢false (sym (ap is_some is)))

-- arguments that clap accepts are those of a line
pub has_line : (phases : ValueParser) → IsPhases phases → (arguments : List Text) (name : Text) (rows : List Row) → fault_of (program_app phases) arguments ≡ []
    → subcommand_of (program_app phases) arguments ≡ Some (name, rows) → IsLine (line_in name rows)
has_line phases is arguments name rows none found =
    let app = built (program_app phases) in
    let after = argument_words (program_app phases) arguments in
    let stop = (walk app.top.rules (names_of app) nothing_held after).stopped in
    let parts = both_empty (walk_fault app.top (names_of app) (walk_from nothing_held) after) _ none in
    let inner = both_empty (entered_fault app stop) _ parts.1 in
    entered_line phases is name rows stop (no_help_met app.top refl (names_of app) (walk_from nothing_held) after parts.0 tt) inner.0 found
