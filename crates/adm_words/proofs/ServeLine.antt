-- In arguments that clap accepts, the line `serve` has a file and a port, and a number of connections or none.
use Rattle.std.proofs.Common.{◌≡◌, ◌∙◌, ℕ, true, false, refl, ap, arith, List, [], Option, Some, None, inl, inr, ◌⊎◌}
use Rattle.std.specs.Prelude.{codes, not, pos, option_and_then}
use Rattle.std.specs.Option.{option_map_or}
use Rattle.clap.specs.Faults.{level_fault}
use Rattle.clap.specs.Walk.{Text, rows_after, nothing_held}
use Rattle.clap.specs.Takes.{is_given}
use Rattle.clap.specs.ValueTests.{accepts}
use Rattle.clap.specs.declared.builder.value_parser.ValueParser.{ValueParser}
use Rattle.clap.specs.declared.builder.value_parser.ValueParser.TheVariants as parser
use Rattle.adm_words.specs.Lines.{IsLine, serve_line, serve_of, serve_in, port_of, connections_of}
use Rattle.adm_words.proofs.Arguments.{taken, taken_uses, optional, optional_uses, wanted, given_if, serve_shape}
use Rattle.adm_words.proofs.FoundRows.{either_false}
use Rattle.adm_words.proofs.Faultless.{level_good, given_first, none_or_first}
use Rattle.adm_words.proofs.Ranges.{number_named}

abbrev ports : ValueParser
ports = parser.Signed (pos 1) (pos 65535)

abbrev counts : ValueParser
counts = parser.Signed (pos 1) (pos 1000000)

served : (file : Option Text) (port count : Option ℕ) (a : Text) (b c : ℕ) → file ≡ Some a → port ≡ Some b → count ≡ Some c → IsLine (serve_of file port count)
served file port count a b c f p n =
    (serve_line a b c, ap (λ o. serve_of o port count) f ∙ ap (λ o. serve_of (Some a) o count) p ∙ ap (λ o. serve_of (Some a) (Some b) o) n)

-- without the option there are 1,000,000 connections
counted : (o : Option Text) → (o ≡ None) ⊎ ((v : Text) × (o ≡ Some v) × (accepts false counts v ≡ true)) → (n : ℕ) × (option_map_or connections_of o (Some 1000000) ≡ Some n)
counted o (inl e) = (1000000, ap (λ t. option_map_or connections_of t (Some 1000000)) e)
counted o (inr h) =
    let n = number_named 1 1000000 (omega arith) (omega arith) h.0 h.2 in
    (n.0, ap (λ t. option_map_or connections_of t (Some 1000000)) h.1 ∙ n.1)

pub serve_there : (phases : ValueParser) (arguments : List Text) → level_fault (serve_shape phases) [] nothing_held arguments false [] ≡ []
    → IsLine (serve_in (rows_after (serve_shape phases).rules [] arguments))
serve_there phases arguments none =
    let rows = rows_after (serve_shape phases).rules [] arguments in
    let file_rule = taken (codes "file") 1 parser.String in
    let port_rule = taken (codes "port") 2 ports in
    let count_rule = optional (codes "count") counts in
    let file = level_good (serve_shape phases) file_rule (inl refl, (inr refl, (inr refl, (inr refl, tt)))) (taken_uses (codes "file") 1 parser.String refl) refl [] arguments false [] none in
    let port = level_good (serve_shape phases) port_rule (inr refl, (inl refl, (inr refl, (inr refl, tt)))) (taken_uses (codes "port") 2 ports refl) refl [] arguments false [] none in
    let count = level_good (serve_shape phases) count_rule (inr refl, (inr refl, (inl refl, (inr refl, tt)))) (optional_uses (codes "count") counts refl) refl [] arguments false [] none in
    let first = either_false (not (is_given (codes "file") rows)) _ (wanted _ file.1) in
    let second = either_false (not (is_given (codes "port") rows)) _ first.1 in
    let a = given_first file_rule rows file.0 (given_if _ first.0) in
    let b = given_first port_rule rows port.0 (given_if _ second.0) in
    let p = number_named 1 65535 (omega arith) (omega arith) b.0 b.2 in
    let n = counted _ (none_or_first count_rule rows count.0) in
    served _ _ _ a.0 p.0 n.0 a.1 (ap (option_and_then port_of) b.1 ∙ p.1) n.1
