use Rattle.std.proofs.Common.{◌∙◌, ap, sym}
use Rattle.std.specs.FinMap.{values}
use Rattle.std.specs.Cmp.{nat_cmp_total}
use Rattle.std.proofs.lemmas.Result.{MatchResult-weaker}
use Rattle.adm_register.proofs.TableMaps.{values_rows}
use Rattle.adm_register.proofs.tables.Tables.all_children.Goals as goal

pub returns : goal.returns
returns c =
    MatchResult-weaker c.to_vec.result c.to_vec.ensures.rows
    (λ found rows. rows ∙ sym (values_rows nat_cmp_total c.self.inside.base.children c.to_vec.ensures.ordered) ∙ ap (λ s. values s.children) c.self.view_is)
    (λ e _. tt)
