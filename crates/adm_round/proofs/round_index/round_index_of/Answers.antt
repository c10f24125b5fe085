use Rattle.std.proofs.Common.{◌∙◌, refl}
use Rattle.adm_round.proofs.Walks.{is_round_index}
use Rattle.adm_round.proofs.round_index.round_index_of.Goals as goal

pub returns : goal.returns
returns c =
    is_round_index c.args.sites.now c.args.lots.now _ c.deref.result.now _ (c.deref.ensures.value ∙ c.in_ok-index_rows.ensures) refl
    c.in_ok-indices.ensures c.in_ok-lots.ensures
