use Rattle.std.proofs.Common.{◌≡◌, ◌∙◌, ℕ, List, Some, refl, sym, ap, subst, length, arith}
use Rattle.std.specs.List.{slice_get}
use Rattle.std.proofs.lemmas.Option.{slice_get_read}
use Rattle.adm_match.specs.declared.problem.Wish.{Wish}
use Rattle.adm_match.specs.Market.{Candidate, market_of}
use Rattle.adm_match.specs.Places.{AreKnown, AreSeats}
use Rattle.adm_match.proofs.PlaceLemmas.{none_beside, one_beside, all_beside, known_of}
use Rattle.adm_match.proofs.places.places_of.Goals as goal

pub loop-index-init : goal.loop-index-init
loop-index-init c =
    none_beside (λ (e : Candidate) (places : List ℕ). AreSeats c.args.seats.now e.list places) c.args.entrants.now c.in_ok-places.places.items c.in_ok-places.ensures.items

pub places_of_list-requires-clause-known : goal.places_of_list-requires-clause-known
places_of_list-requires-clause-known c =
    let entrants = c.args.entrants.now in
    let e = c.index-entrants-index.result in
    let here = slice_get_read entrants (length entrants) c.loop-index.index e refl c.loop-index-test.true c.index-entrants-index.is in
    subst (λ (list : List Wish). AreKnown c.args.seats.now list) (sym (c.deref-in-loop-index.ensures.value ∙ ap (λ (it : Candidate). it.list) c.entrant.view_is))
    (known_of (market_of entrants c.args.seats.now) c.loop-index.index e c.requires here)

pub loop-index-preserved : goal.loop-index-preserved
loop-index-preserved c =
    one_beside (λ (e : Candidate) (places : List ℕ). AreSeats c.args.seats.now e.list places) c.args.entrants.now c.loop-index.places.items c.push.new.self.items c.loop-index.index
    c.index-entrants-index.result c.in_ok-places_of_list.field-0 c.loop-index-test.true c.index-entrants-index.is
    (subst (λ (list : List Wish). AreSeats c.args.seats.now list c.in_ok-places_of_list.field-0)
    (c.deref-in-loop-index.ensures.value ∙ ap (λ (it : Candidate). it.list) c.entrant.view_is) c.in_ok-places_of_list.ensures)
    c.in_ok-push.ensures.items c.loop-index.invariant

pub returns : goal.returns
returns c =
    all_beside (λ (e : Candidate) (places : List ℕ). AreSeats c.args.seats.now e.list places) c.args.entrants.now c.loop-index.places.items c.loop-index.index (omega arith)
    c.loop-index.invariant
