use Rattle.std.proofs.Common.{◌≡◌, ◌∙◌, ◌<◌, ap, sym, true, length, get_or, arith}
use Rattle.std.proofs.lemmas.List.Sums.{position_or_len_is}
use Rattle.adm_types.specs.Limits.{is_listed}
use Rattle.adm_types.specs.declared.rows.School.{School}
use Rattle.adm_register.specs.Tallies.{lists_tallied}
use Rattle.adm_register.proofs.TallyLemmas.{none_passes}
use Rattle.adm_register.proofs.standings.first_listed.Goals as goal

pub returns-then-is_listed : goal.returns-then-is_listed
returns-then-is_listed c =
    let tallies = c.args.tallies.now in
    let lists = lists_tallied c.args.list.now in
    let index = c.loop-index.index in
    let one = c.index-tallies-index.result in
    let within : index < length tallies = omega (arith, c.loop-index-test.true) in
    let hit : lists (get_or tallies index one) ≡ true = ap (λ (school : School). is_listed c.args.list.now school.code) (sym c.as_ref.ensures) ∙ sym c.is_listed.ensures ∙ c.if-is_listed.true in
    sym (position_or_len_is lists tallies index one (omega arith) (λ k before. c.loop-index.invariant k one before) (λ _. hit))

pub returns : goal.returns
returns c = none_passes (lists_tallied c.args.list.now) c.args.tallies.now (λ k d within. c.loop-index.invariant k d (omega (arith, within, c.loop-index-test.false)))
