use Rattle.std.proofs.Common.{ap}
use Rattle.adm_round.specs.Lookups.{children_for}
use Rattle.adm_round.proofs.Wants.{pairs_more}
use Rattle.adm_round.proofs.lots.wanted_pairs.Goals as goal

pub loop-index-preserved : goal.loop-index-preserved
loop-index-preserved c =
    pairs_more c.args.sites.now c.args.applicants.now c.loop-index.index c.index-sites-index.result c.as_ref.result.now.code (children_for c.in_ok-wanting.wanting c.as_ref.result.now.code)
    c.loop-index.found.items c.add_pairs.new.found.items c.loop-index-test.true c.index-sites-index.is (ap (λ s. s.code) c.as_ref.ensures) (c.in_ok-wanting.ensures c.as_ref.result.now.code)
    c.loop-index.invariant c.in_ok-add_pairs.ensures
