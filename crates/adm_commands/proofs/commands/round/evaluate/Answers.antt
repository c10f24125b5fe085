use Rattle.std.proofs.Common.{◌∙◌, ap, sym, arith, length, ◌+◌, ◌∷◌, [], None}
use Rattle.std.specs.Prelude.{count_by, is_none}
use Rattle.std.proofs.lemmas.List.{length-map}
use Rattle.adm_types.specs.declared.draws.Outcome.{Outcome}
use Rattle.adm_types.specs.declared.commands.Reply.TheVariants.{Round as RoundReply}
use Rattle.adm_register.specs.declared.draws_so_far.DrawsSoFar.{DrawsSoFar}
use Rattle.adm_round.specs.Round.{number_of}
use Rattle.adm_round.specs.Outcomes.{is_kept}
use Rattle.adm_commands.specs.Commands.Round.{offers_on, round_lots, is_lot_count, are_lots_apart}
use Rattle.adm_commands.specs.Commands.Round as round
use Rattle.adm_commands.specs.Rules.{without_row}
use Rattle.adm_commands.proofs.Posed.{lots_pass, lots_counted, posed_as, best_as, few_entrants}
use Rattle.adm_commands.proofs.commands.round.evaluate.Goals as goal

pub refusal_of-why-requires-clause-apart : goal.refusal_of-why-requires-clause-apart
refusal_of-why-requires-clause-apart c = λ counted.
    let old = c.args.old.now in
    c.in_ok-sites.ensures.apart (ap (is_lot_count old) c.as_slice.ensures ∙ counted) ∙ ap (are_lots_apart old) c.as_slice.ensures

pub allot-requires : goal.allot-requires
allot-requires c =
    let old = c.args.old.now in
    let numbers = c.args.lots.now in
    let parts = c.in_ok-sites.ensures in
    let passes = sym c.refusal_of-why.ensures ∙ c.in_default.is in
    let at_lots = parts.drawn (ap (is_lot_count old) c.as_slice.ensures ∙ lots_counted old c.args.draw c.args.day numbers passes) ∙ ap (round_lots old) c.as_slice.ensures in
    record {
      posed = posed_as old numbers c.deref.result.now c.deref-2.result.now c.deref-3.result.now c.requires.well_formed (lots_pass old c.args.draw c.args.day numbers passes)
          (c.deref.ensures.value ∙ parts.sites) (c.deref-2.ensures.value ∙ parts.applicants) (c.deref-3.ensures.value ∙ at_lots);
    }

pub reply_of-reply-requires : goal.reply_of-reply-requires
reply_of-reply-requires c =
    let taking = c.deref-2.result.now in
    let same = ap length c.in_ok-outcomes.ensures.children in
    let few = few_entrants c.args.old.now c.requires.well_formed in
    let all = ap length (c.deref-2.ensures.value ∙ c.in_ok-sites.ensures.applicants) in
    let shown = ap length c.deref-4.ensures.value in
    omega (arith, same, few, all, shown, length-map c.in_ok-outcomes.outcomes.items (λ (o : Outcome). o.child), length-map taking number_of)

pub returns : goal.returns
unfolding round.change_of
returns c =
    let old = c.args.old.now in
    let numbers = c.args.lots.now in
    let passes = sym c.refusal_of-why.ensures ∙ c.in_default.is in
    let parts = c.in_ok-sites.ensures in
    let at_lots = parts.drawn (ap (is_lot_count old) c.as_slice.ensures ∙ lots_counted old c.args.draw c.args.day numbers passes) ∙ ap (round_lots old) c.as_slice.ensures in
    let outcomes = c.in_ok-outcomes.outcomes.items in
    let best = best_as old numbers c.deref.result.now c.deref-2.result.now c.deref-3.result.now outcomes
    (c.deref.ensures.value ∙ parts.sites) (c.deref-2.ensures.value ∙ parts.applicants) (c.deref-3.ensures.value ∙ at_lots) c.in_ok-outcomes.ensures.best in
    let places = c.from_vec.ensures ∙ c.in_ok-offers_on.ensures ∙ ap (offers_on c.args.day) c.deref-5.ensures.value in
    let rounds = ap (λ (d : DrawsSoFar). d.rounds + 1) c.requires.draws in
    let draws = c.in_ok-change.ensures ∙ (λ i. record { number = c.args.draw; round = rounds i; school = None; day = c.args.day; outcomes = outcomes; lots = at_lots i } ∷ []) in
    let none = c.none-change.ensures in
    let shown = c.deref-4.ensures.value in
    let reply = c.reply_of-reply.ensures ∙ (λ i. RoundReply (rounds i) (count_by (λ (o : Outcome). o.fresh) (shown i)) (count_by is_kept (shown i))
    (count_by (λ (o : Outcome). is_none o.school) (shown i))) in
    (ap without_row passes, (outcomes, best, λ i. record (none i) { places = places i; draws = draws i }, reply))
