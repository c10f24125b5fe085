use Rattle.std.proofs.Common.{◌∙◌, ap, sym}
use Rattle.std.specs.FinMap.{len}
use Rattle.std.specs.Cmp.Lexicographic.{nat_list_cmp_total}
use Rattle.adm_register.proofs.TableMaps.{len_rows}
use Rattle.adm_register.proofs.tables.Tables.school_count.Goals as goal

pub returns : goal.returns
returns c = c.len.ensures.value ∙ sym (len_rows nat_list_cmp_total c.self.inside.base.schools c.len.ensures.ordered) ∙ ap (λ s. len s.schools) c.self.view_is
