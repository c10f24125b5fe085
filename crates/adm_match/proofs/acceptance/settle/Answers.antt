-- The queue, from the start to its end.
use Rattle.std.proofs.Common.{◌∙◌, List, refl, sym, ap, subst, length, arith}
use Rattle.std.proofs.lemmas.Option.{slice_get_read}
use Rattle.adm_match.specs.declared.progress.Progress.{Progress}
use Rattle.adm_match.specs.Market.{market_of}
use Rattle.adm_match.specs.Turns.{IsFree}
use Rattle.adm_match.specs.Queue.{Turned}
use Rattle.adm_match.proofs.QueueLemmas.{free_if, not_free_if, skipped, some_back, queued_within, empty_done, between_turns_first, between_turns_as, empty_if, written}
use Rattle.adm_match.proofs.acceptance.settle.Goals as goal

pub loop-index-init : goal.loop-index-init
loop-index-init c = between_turns_first (market_of c.args.entrants.now c.args.seats.now) c.in_ok-rows.rows.items c.in_ok-schools.schools.items
    c.in_ok-queue.queue.items c.in_ok-rows.ensures c.in_ok-schools.ensures c.in_ok-queue.ensures.waiting c.in_ok-queue.ensures.within

pub propose-requires-clause-free : goal.propose-requires-clause-free
propose-requires-clause-free c =
    let m = market_of c.args.entrants.now c.args.seats.now in
    let h = c.loop-index.invariant in
    let less = queued_within m c.loop-index.rows.items c.loop-index.schools.items c.in-Some.index c.loop-index.queue.items
    c.pop_front.new.self.items h c.in-Some.ensures.items in
    let ek = slice_get_read m.entrants (length m.entrants) c.in-Some.index c.index-entrants-index.result refl less c.index-entrants-index.is in
    let rk = slice_get_read c.loop-index.rows.items (length m.entrants) c.in-Some.index c.index.result.now (sym h.sound.shaped.same) less c.index.ensures in
    subst (λ (x : List Progress). IsFree m.entrants x c.in-Some.index) (sym c.deref_mut.ensures.value)
    (free_if m.entrants c.loop-index.rows.items c.in-Some.index c.index-entrants-index.result c.index.result.now ek rk (sym c.is_free.ensures ∙ c.if-not-is_free.false))

pub loop-index-preserved : goal.loop-index-preserved
loop-index-preserved c =
    let m = market_of c.args.entrants.now c.args.seats.now in
    let h = c.loop-index.invariant in
    let rows_is = written c.loop-index.rows.len c.propose.new.rows c.loop-index.rows.items (omega (arith, ap length c.deref_mut.ensures.value)) (omega (arith, c.loop-index.rows.ok)) in
    let schools_is = written c.loop-index.schools.len c.propose.new.schools c.loop-index.schools.items (omega (arith, ap length c.deref_mut-in-Some.ensures.value))
    (omega (arith, c.loop-index.schools.ok)) in
    let turned : Turned m c.loop-index.rows.items c.propose.new.rows c.propose.new.schools c.in-Some.index c.in_ok-out.out = subst
    (λ (x : List Progress). Turned m x c.propose.new.rows c.propose.new.schools c.in-Some.index c.in_ok-out.out) c.deref_mut.ensures.value c.in_ok-out.ensures in
    between_turns_as m _ c.propose.new.rows _ c.propose.new.schools c.line_up.new.queue.items rows_is schools_is
    (some_back m c.loop-index.rows.items c.propose.new.rows c.loop-index.schools.items c.propose.new.schools c.in-Some.index c.in_ok-out.out c.loop-index.queue.items
    c.pop_front.new.self.items c.line_up.new.queue.items h c.in-Some.ensures.items turned c.in_ok-line_up.ensures)

pub loop-index-preserved-then-not-is_free : goal.loop-index-preserved-then-not-is_free
loop-index-preserved-then-not-is_free c =
    let m = market_of c.args.entrants.now c.args.seats.now in
    let h = c.loop-index.invariant in
    let less = queued_within m c.loop-index.rows.items c.loop-index.schools.items c.in-Some.index c.loop-index.queue.items c.pop_front.new.self.items h c.in-Some.ensures.items in
    let ek = slice_get_read m.entrants (length m.entrants) c.in-Some.index c.index-entrants-index.result refl less c.index-entrants-index.is in
    let rk = slice_get_read c.loop-index.rows.items (length m.entrants) c.in-Some.index c.index.result.now (sym h.sound.shaped.same) less c.index.ensures in
    skipped m c.loop-index.rows.items c.loop-index.schools.items c.in-Some.index c.loop-index.queue.items c.pop_front.new.self.items h c.in-Some.ensures.items
    (not_free_if m.entrants c.loop-index.rows.items c.in-Some.index c.index-entrants-index.result c.index.result.now ek rk (sym c.is_free.ensures ∙ c.if-not-is_free.true))

pub returns-clause-done : goal.returns-clause-done
returns-clause-done c = empty_done (market_of c.args.entrants.now c.args.seats.now) c.loop-index.rows.items c.loop-index.schools.items
    c.loop-index.queue.items c.loop-index.invariant (empty_if c.loop-index.queue.items (omega (arith, c.in_default.ensures.cases)))
