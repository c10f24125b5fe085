use Rattle.std.proofs.Common.{◌∙◌, ap, sym}
use Rattle.std.specs.FinMap.{get}
use Rattle.std.specs.Cmp.{nat_cmp_total}
use Rattle.adm_lists.proofs.Maps.{get_rows}
use Rattle.adm_register.proofs.tables.Tables.imported_row.Goals as goal

pub returns : goal.returns
returns c = c.row.ensures ∙ sym (get_rows nat_cmp_total c.self.inside.course.imported c.args.child) ∙ ap (λ s. get s.imported c.args.child) c.self.view_is
