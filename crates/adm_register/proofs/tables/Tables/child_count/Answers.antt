use Rattle.std.proofs.Common.{◌∙◌, ap, sym}
use Rattle.std.specs.FinMap.{len}
use Rattle.std.specs.Cmp.{nat_cmp_total}
use Rattle.adm_register.proofs.TableMaps.{len_rows}
use Rattle.adm_register.proofs.tables.Tables.child_count.Goals as goal

pub returns : goal.returns
returns c = c.len.ensures.value ∙ sym (len_rows nat_cmp_total c.self.inside.base.children c.len.ensures.ordered) ∙ ap (λ s. len s.children) c.self.view_is
