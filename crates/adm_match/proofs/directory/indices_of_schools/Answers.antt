use Rattle.std.proofs.Common.{arith, refl}
use Rattle.std.specs.Ordering.{nat_cmp}
use Rattle.std.specs.Cmp.Lexicographic.{slice_cmp}
use Rattle.adm_match.specs.declared.problem.Seats.{Seats}
use Rattle.adm_match.proofs.DirectoryLemmas.{no_pairs, one_pair, all_pairs}
use Rattle.adm_match.proofs.directory.indices_of_schools.Goals as goal

pub loop-index-init : goal.loop-index-init
loop-index-init c = rw c.in_ok-indices.ensures.items (no_pairs (λ (it : Seats). it.code) c.args.seats.now)

pub loop-index-preserved : goal.loop-index-preserved
loop-index-preserved c =
    one_pair (λ (it : Seats). it.code) c.args.seats.now c.loop-index.indices.items c.push.new.self.items c.loop-index.index c.index-seats-index.result c.index-seats-index.result.code
    c.loop-index-test.true c.index-seats-index.is refl c.in_ok-push.ensures.items c.loop-index.invariant

pub returns : goal.returns
returns c =
    all_pairs (λ (it : Seats). it.code) c.args.seats.now (slice_cmp nat_cmp) c.loop-index.indices.items c.in_order.result.items c.loop-index.index (omega arith) c.loop-index.invariant
    c.in_order.ensures.permutation c.in_order.ensures.sorted
