use Rattle.std.proofs.Common.{◌∙◌, ap, sym}
use Rattle.std.specs.FinMap.{get}
use Rattle.std.specs.Cmp.Lexicographic.{nat_list_cmp_total}
use Rattle.adm_lists.proofs.Maps.{get_rows}
use Rattle.adm_register.proofs.tables.Tables.shared_school.Goals as goal

pub returns : goal.returns
returns c = c.get.ensures ∙ sym (get_rows nat_list_cmp_total c.self.inside.base.schools c.args.code) ∙ ap (λ s. get s.schools c.args.code) c.self.view_is
