use Rattle.std.proofs.Common.{◌≡◌, ◌∙◌, ap, sym, inl, cond, true, false, None, Some}
use Rattle.adm_round.specs.Ranks.{market_of_round}
use Rattle.adm_register.specs.State.{State}
use Rattle.adm_commands.specs.Problem.{lots_fault}
use Rattle.adm_commands.specs.Commands.Round.{sites, round_applicants, round_lots, is_lot_count, are_lots_apart}
use Rattle.adm_commands.specs.declared.problems.DrawFault.TheVariants.{LotCount, LotsRepeated}
use Rattle.adm_commands.proofs.Posed.{posed_as}
use Rattle.adm_commands.proofs.problems.problem.Goals as goal

pub returns-then-not-counted-clause-fault : goal.returns-then-not-counted-clause-fault
returns-then-not-counted-clause-fault c =
    let old = c.args.old.now in
    let numbers = c.args.lots.now in
    let count : is_lot_count old numbers ≡ false = ap (λ (s : State). is_lot_count s numbers) (sym c.tables.ensures.value) ∙ sym c.in_ok-sites.ensures.counted ∙ c.if-not-counted.true in
    inl (λ i. cond (count i) (cond (are_lots_apart old numbers) None (Some LotsRepeated)) (Some LotCount))

pub returns-then-not-apart-clause-fault : goal.returns-then-not-apart-clause-fault
returns-then-not-apart-clause-fault c =
    let old = c.args.old.now in
    let numbers = c.args.lots.now in
    let same = c.tables.ensures.value in
    let parts = c.in_ok-sites.ensures in
    let counted = sym parts.counted ∙ c.if-not-counted.false in
    let count : is_lot_count old numbers ≡ true = ap (λ (s : State). is_lot_count s numbers) (sym same) ∙ counted in
    let apart : are_lots_apart old numbers ≡ false = ap (λ (s : State). are_lots_apart s numbers) (sym same) ∙ sym (parts.apart counted) ∙ c.if-not-apart.true in
    inl (λ i. cond (count i) (cond (apart i) None (Some LotsRepeated)) (Some LotCount))

pub problem_of-requires : goal.problem_of-requires
problem_of-requires c =
    let old = c.args.old.now in
    let numbers = c.args.lots.now in
    let same = c.tables.ensures.value in
    let parts = c.in_ok-sites.ensures in
    let counted = sym parts.counted ∙ c.if-not-counted.false in
    let count : is_lot_count old numbers ≡ true = ap (λ (s : State). is_lot_count s numbers) (sym same) ∙ counted in
    let apart : are_lots_apart old numbers ≡ true = ap (λ (s : State). are_lots_apart s numbers) (sym same) ∙ sym (parts.apart counted) ∙ c.if-not-apart.false in
    let passes : lots_fault old numbers ≡ None = λ i. cond (count i) (cond (apart i) None (Some LotsRepeated)) (Some LotCount) in
    let at_lots = c.deref-3.ensures.value ∙ parts.drawn counted ∙ ap (λ (s : State). round_lots s numbers) same in
    posed_as old numbers c.deref.result.now c.deref-2.result.now c.deref-3.result.now c.tables.ensures.well_formed passes (c.deref.ensures.value ∙ parts.sites ∙ ap sites same)
    (c.deref-2.ensures.value ∙ parts.applicants ∙ ap round_applicants same) at_lots

pub returns-clause-problem : goal.returns-clause-problem
returns-clause-problem c =
    let numbers = c.args.lots.now in
    let same = c.tables.ensures.value in
    let parts = c.in_ok-sites.ensures in
    let counted = sym parts.counted ∙ c.if-not-counted.false in
    let at_sites = c.deref.ensures.value ∙ parts.sites ∙ ap sites same in
    let at_entrants = c.deref-2.ensures.value ∙ parts.applicants ∙ ap round_applicants same in
    let at_lots = c.deref-3.ensures.value ∙ parts.drawn counted ∙ ap (λ (s : State). round_lots s numbers) same in
    c.in_ok-problem_of.ensures ∙ (λ i. market_of_round (at_sites i) (at_entrants i) (at_lots i))
