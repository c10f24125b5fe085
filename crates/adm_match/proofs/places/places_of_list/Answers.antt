use Rattle.std.proofs.Common.{ℕ, refl, length, arith}
use Rattle.std.proofs.lemmas.Option.{slice_get_read}
use Rattle.adm_match.specs.declared.problem.Wish.{Wish}
use Rattle.adm_match.specs.Places.{SeatedAt}
use Rattle.adm_match.proofs.PlaceLemmas.{none_beside, one_beside, all_beside}
use Rattle.adm_match.proofs.places.places_of_list.Goals as goal

pub loop-index-init : goal.loop-index-init
loop-index-init c = none_beside (λ (w : Wish) (k : ℕ). SeatedAt c.args.seats.now w.school k) c.args.list.now c.in_ok-indices.indices.items c.in_ok-indices.ensures.items

pub index_of_school-requires-clause-there : goal.index_of_school-requires-clause-there
index_of_school-requires-clause-there c =
    let list = c.args.list.now in
    c.requires.known c.loop-index.index c.index-list-index.result
    (slice_get_read list (length list) c.loop-index.index c.index-list-index.result refl c.loop-index-test.true c.index-list-index.is)

pub loop-index-preserved : goal.loop-index-preserved
loop-index-preserved c =
    one_beside (λ (w : Wish) (k : ℕ). SeatedAt c.args.seats.now w.school k) c.args.list.now c.loop-index.indices.items c.push.new.self.items c.loop-index.index
    c.index-list-index.result c.index_of_school.result c.loop-index-test.true c.index-list-index.is c.index_of_school.ensures.at c.in_ok-push.ensures.items c.loop-index.invariant

pub returns : goal.returns
returns c =
    all_beside (λ (w : Wish) (k : ℕ). SeatedAt c.args.seats.now w.school k) c.args.list.now c.loop-index.indices.items c.loop-index.index (omega arith) c.loop-index.invariant
