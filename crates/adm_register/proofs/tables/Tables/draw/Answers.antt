use Rattle.std.proofs.Common.{◌∙◌, ap, sym}
use Rattle.std.specs.FinMap.{get}
use Rattle.std.specs.Cmp.{nat_cmp_total}
use Rattle.adm_lists.proofs.Maps.{get_rows}
use Rattle.adm_register.proofs.tables.Tables.draw.Goals as goal

pub returns : goal.returns
returns c = c.row.ensures ∙ sym (get_rows nat_cmp_total c.self.inside.course.draws c.args.number) ∙ ap (λ s. get s.draws c.args.number) c.self.view_is
