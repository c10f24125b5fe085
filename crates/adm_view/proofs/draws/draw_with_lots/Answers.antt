use Rattle.std.proofs.Common.{◌∙◌, ap, ap₂, codes}
use Rattle.serde_json.specs.Data.{object, put}
use Rattle.adm_view.specs.Writing.{list_data}
use Rattle.adm_view.specs.Draws.{lot_data, cutoff_data, refusal_data}
use Rattle.adm_view.proofs.draws.draw_with_lots.Goals as goal

pub returns : goal.returns
returns c =
    let why = c.in_ok-explanation.ensures in
    let cutoffs = c.in_ok-put.ensures.ok ∙ ap₂ (put (codes "cutoffs")) (c.in_ok-cutoffs.ensures ∙ ap (list_data cutoff_data) (c.deref.ensures.value ∙ why.cutoffs)) c.in_ok-object.ensures in
    let lots = c.in_ok-put-2.ensures.ok ∙ ap₂ (put (codes "lots")) (c.in_ok-lots.ensures ∙ ap (list_data lot_data) c.as_slice.ensures) cutoffs in
    let refusals = c.in_ok-refusals.ensures ∙ ap (list_data refusal_data) (c.deref-2.ensures.value ∙ why.refusals) in
    c.from.ensures ∙ ap object (c.in_ok-put-3.ensures.ok ∙ ap₂ (put (codes "refusals")) refusals lots)
