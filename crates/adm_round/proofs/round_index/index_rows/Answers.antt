use Rattle.std.proofs.Common.{◌∙◌, ap, ◌++◌, ◌∷◌, []}
use Rattle.adm_types.specs.declared.rows.School.{School}
use Rattle.adm_round.proofs.Walks.{rows_more}
use Rattle.adm_round.proofs.round_index.index_rows.Goals as goal

pub loop-index-preserved : goal.loop-index-preserved
loop-index-preserved c =
    rows_more c.args.sites.now c.loop-index.index c.index-sites-index.result c.loop-index.rows.items c.push.new.self.items c.loop-index-test.true c.index-sites-index.is c.loop-index.invariant
    (c.in_ok-push.ensures.items ∙ ap (λ (school : School). c.loop-index.rows.items ++ (school.code, c.loop-index.index) ∷ []) c.as_ref.ensures)
