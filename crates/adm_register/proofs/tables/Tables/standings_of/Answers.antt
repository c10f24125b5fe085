use Rattle.std.proofs.Common.{◌≡◌, ◌∙◌, ap, sym, arith, length}
use Rattle.std.specs.List.{filter_map, list_all}
use Rattle.std.specs.FinMap.{values}
use Rattle.std.proofs.lemmas.List.{with_items_is}
use Rattle.std.proofs.lemmas.Result.{MatchResult-weaker}
use Rattle.adm_register.specs.Wanted.{wanted}
use Rattle.adm_register.specs.Waits.{standing_at}
use Rattle.adm_register.specs.Tallies.{has_school_in_range, with_applications}
use Rattle.adm_register.proofs.AmongListing.{nobody_stands}
use Rattle.adm_register.proofs.TallyLemmas.{in_range_at, all_standings}
use Rattle.adm_register.proofs.tables.Tables.standings_of.Goals as goal

pub returns-then-not-has_first_round : goal.returns-then-not-has_first_round
returns-then-not-has_first_round c = c.new.ensures.items ∙ nobody_stands c.args.self.now c.args.child (sym c.if-not-has_first_round.ensures)

pub count_all-requires-clause-in_range : goal.count_all-requires-clause-in_range
count_all-requires-clause-in_range c =
    let s = c.args.self.now in
    let codes = c.deref.result.now in
    ap (list_all has_school_in_range) (c.deref_mut.ensures.value ∙ c.in_ok-tallies.ensures) ∙ in_range_at s c.requires c.args.child codes

pub returns : goal.returns
returns c =
    let s = c.args.self.now in
    let codes = c.deref.result.now in
    let wanted' : codes ≡ wanted s c.args.child = c.deref.ensures.value ∙ c.in_ok-schools.ensures in
    let before = c.deref_mut.ensures.value ∙ c.in_ok-tallies.ensures in
    let counted = c.count_all.ensures.value ∙ ap (λ tallies. with_applications s tallies (values s.applications)) before in
    let tallies = c.deref-2.ensures.value ∙ with_items_is c.in_ok-tallies.tallies c.count_all.new.tallies (omega (arith, ap length c.deref_mut.ensures.value, c.in_ok-tallies.tallies.ok)) ∙ counted in
    MatchResult-weaker c.standings_in.result c.standings_in.ensures
    (λ found says. says ∙ all_standings s c.requires c.args.child c.count_all.ensures.room codes c.deref-2.result.now tallies ∙ ap (filter_map (standing_at s c.args.child)) wanted') (λ e _. tt)
