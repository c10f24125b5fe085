-- The program's command line is one that clap's function reads.
use Rattle.std.proofs.Common.{◌≡◌, List, [], true, Result, Ok, Err, refl, sym, ap, ◌∙◌, inl, inr, ◌⊎◌, subst, Option, Some, None, option_map}
use Rattle.clap.specs.Words.{App, Row, Text, fault_of, subcommand_of, is_simple_and_free, is_simple, IsAmong, HasKind, Kinds, HasMatchesOf, subcommand_rows_of, kind_of}
use Rattle.clap.specs.declared.error.Error.{Error}
use Rattle.clap.specs.declared.error.kind.ErrorKind.{ErrorKind}
use Rattle.clap.specs.declared.error.kind.ErrorKind.TheVariants as kind
use Rattle.clap.specs.declared.parser.matches.ArgMatches.{ArgMatches}
use Rattle.clap.specs.declared.builder.value_parser.ValueParser.{ValueParser}
use Rattle.clap.specs.declared.builder.value_parser.ValueParser.TheVariants as parser
use Rattle.clap.proofs.OnLiterals.{clap_on_literals}
use Rattle.adm_words.specs.declared.actions.Action.{Action}
use Rattle.adm_words.specs.declared.faults.WordsFault.{WordsFault}
use Rattle.adm_words.specs.declared.faults.WordsFault.TheVariants.{Usage, BadDate, BadWord, Memory}
use Rattle.adm_words.specs.Program.{IsPhases, program_app}
use Rattle.adm_words.specs.Lines.{Line, init_line, do_line, what_if_line, import_line, serve_line, letter_line, list_line, report_line, pairs_line, show_line, Reads, ReadsLine, ReadsArguments, line_in}

pub is_free : (phases : ValueParser) → IsPhases phases → is_simple_and_free (program_app phases) ≡ true
unfolding clap_on_literals
is_free (parser.Names given) h = refl
is_free _ h = absurd h

pub is_plain : (phases : ValueParser) → IsPhases phases → is_simple (program_app phases) ≡ true
unfolding clap_on_literals
is_plain (parser.Names given) h = refl
is_plain _ h = absurd h

pub no_fault : (app : App) (phases : ValueParser) (arguments : List Text) → IsPhases phases → app ≡ program_app phases
    → (is_simple_and_free app ≡ true → fault_of app arguments ≡ []) → fault_of (program_app phases) arguments ≡ []
no_fault app phases arguments h is f = ap (λ a. fault_of a arguments) (sym is) ∙ f (ap is_simple_and_free is ∙ is_free phases h)

pub finds : (app : App) (phases : ValueParser) (arguments : List Text) (m : ArgMatches) → IsPhases phases → app ≡ program_app phases → HasMatchesOf app arguments m
    → subcommand_rows_of m ≡ subcommand_of (program_app phases) arguments
finds app phases arguments m h is f = (f (ap is_simple is ∙ is_plain phases h)).1 ∙ ap (λ a. subcommand_of a arguments) is

among : (k : ErrorKind) (kinds : Kinds) → (k ≡ kind.OutOfMemory → ⊥) → (k ≡ kind.OutOfMemory) ⊎ IsAmong k kinds → IsAmong k kinds
among k kinds other (inl h) = absurd (other h)
among k kinds other (inr h) = h

pub refuses : (app : App) (phases : ValueParser) (arguments : List Text) (e : Error) → IsPhases phases → app ≡ program_app phases
    → (is_simple_and_free app ≡ true → HasKind (fault_of app arguments) e) → (kind_of e ≡ kind.OutOfMemory → ⊥) → ReadsArguments arguments (Err (Usage e))
refuses app phases arguments e h is f other =
    let has : HasKind (fault_of app arguments) e = f (ap is_simple_and_free is ∙ is_free phases h) in
    (phases, h, subst (λ (a : App). IsAmong (kind_of e) (fault_of a arguments)) is (among (kind_of e) (fault_of app arguments) other has))

no_words : (line : Line) (e : Error) → Reads line (Err (Usage e)) → ⊥
no_words (init_line file phase year texts size) e h = h
no_words (do_line file) e h = h
no_words (what_if_line file) e h = h
no_words (import_line file csv) e h = h
no_words (serve_line file port count) e h = h
no_words (letter_line file word) e h = h
no_words (list_line file word) e h = h
no_words (report_line file word) e h = h
no_words (pairs_line file word) e h = h
no_words (show_line file word) e h = h

pub reads_from : (phases : ValueParser) (arguments : List Text) (r : Result Action WordsFault) (name : Text) (rows : List Row) → IsPhases phases
    → fault_of (program_app phases) arguments ≡ [] → subcommand_of (program_app phases) arguments ≡ Some (name, rows) → ReadsLine (line_in name rows) r → ReadsArguments arguments r
reads_from phases arguments (Ok action) name rows h none is reads = (phases, h, none, name, rows, is, reads)
reads_from phases arguments (Err BadDate) name rows h none is reads = (phases, h, none, name, rows, is, reads)
reads_from phases arguments (Err BadWord) name rows h none is reads = (phases, h, none, name, rows, is, reads)
reads_from phases arguments (Err (Usage e)) name rows h none is reads = absurd (no_words reads.0 e reads.2)
reads_from phases arguments (Err Memory) name rows h none is reads = tt

-- a pair of which each half is known
pub met : {X A B : Type 0} (a : X → A) (b : X → B) (o : Option X) (x : A) (y : B) → Some x ≡ option_map a o
    → Some y ≡ option_map (λ (p : A × B). p.1) (option_map {U = A × B} (λ (e : X). (a e, b e)) o) → option_map {U = A × B} (λ (e : X). (a e, b e)) o ≡ Some (x, y)
met a b (Some e) x y first second = cc
met a b None x y first second = cc
