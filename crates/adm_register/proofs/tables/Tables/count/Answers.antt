use Rattle.std.proofs.Common.{◌∙◌, ◌<◌, ap, sym, length, arith}
use Rattle.std.specs.Prelude.{slice_set}
use Rattle.std.specs.List.{position_or_len}
use Rattle.std.specs.Option.{option_copied}
use Rattle.std.proofs.lemmas.List.Edits.{map_over_more}
use Rattle.adm_register.specs.Tallies.{lists_tallied, with_application}
use Rattle.adm_register.proofs.TallyLemmas.{begun, none_listed, nobody_there}
use Rattle.adm_register.proofs.tables.Tables.count.Goals as goal

pub returns-then-first-tallies : goal.returns-then-first-tallies
returns-then-first-tallies c =
    let tallies = c.args.tallies.now in
    let first = c.first_listed-first.ensures ∙ ap (λ list. position_or_len (lists_tallied list) tallies) c.as_slice.ensures in
    none_listed c.args.self.now c.args.application.now tallies c.first_listed-first.result first (omega arith)

pub returns-in_default : goal.returns-in_default
returns-in_default c = sym (nobody_there c.args.self.now c.args.application.now (sym c.child.ensures ∙ ap option_copied c.in_default.is) c.args.tallies.now)

pub loop-index-init : goal.loop-index-init
loop-index-init c =
    let tallies = c.args.tallies.now in
    let first = c.first_listed-first.ensures ∙ ap (λ list. position_or_len (lists_tallied list) tallies) c.as_slice.ensures in
    begun c.args.self.now c.args.application.now tallies c.first_listed-first.result first

pub loop-index-preserved : goal.loop-index-preserved
loop-index-preserved c =
    let counted = with_application c.args.self.now c.args.application.now in
    let before = c.args.tallies.now in
    let tallies = c.loop-index.tallies in
    let index = c.loop-index.index in
    let within : index < length before = omega (arith, c.loop-index-test.true) in
    ap (slice_set tallies index) (c.count_at.ensures ∙ ap counted (sym c.index-tallies-index.is)) ∙ map_over_more counted before tallies index c.index-tallies-index.result within c.loop-index.invariant c.index-tallies-index.is
