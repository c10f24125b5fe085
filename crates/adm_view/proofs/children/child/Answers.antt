use Rattle.std.proofs.Common.{◌∙◌, ap, ap₂, codes}
use Rattle.serde_json.specs.Data.{object, string, put}
use Rattle.adm_view.specs.Writing.{list_data}
use Rattle.adm_view.specs.Children.{place_data}
use Rattle.adm_view.proofs.Left.{left_rise}
use Rattle.adm_view.proofs.Walks.{left_codes}
use Rattle.adm_view.proofs.children.child.Goals as goal

pub left_by-requires : goal.left_by-requires
left_by-requires c = left_rise c.args.register.now c.tables-tables.ensures.well_formed c.args.left.now c.requires.left

pub returns : goal.returns
returns c =
    let applied = c.in_ok-put.ensures.ok ∙ ap₂ (put (codes "application")) c.in_ok-application.ensures c.in_ok-object.ensures in
    let codes_left = c.deref.ensures.value ∙ c.in_ok-left_by.ensures ∙ ap (left_codes c.args.child.now.no) c.requires.left in
    let left = c.in_ok-put-2.ensures.ok ∙ ap₂ (put (codes "left")) (c.in_ok-left.ensures ∙ ap (list_data string) codes_left) applied in
    c.from.ensures ∙ ap object (c.in_ok-put-3.ensures.ok ∙ ap₂ (put (codes "place")) (c.in_ok-place.ensures ∙ ap place_data c.place.ensures) left)
