use Rattle.std.proofs.Common.{◌∙◌, ap, sym}
use Rattle.std.specs.FinMap.{get}
use Rattle.adm_lists.proofs.Maps.{get_rows}
use Rattle.adm_register.proofs.Maps.{left_cmp-total}
use Rattle.adm_register.proofs.tables.Tables.left_pair.Goals as goal

pub returns : goal.returns
returns c = c.get.ensures ∙ sym (get_rows left_cmp-total c.self.inside.course.left c.args.pair) ∙ ap (λ s. get s.left c.args.pair) c.self.view_is
