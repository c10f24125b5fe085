use Rattle.std.proofs.Common.{◌∙◌, ap, sym}
use Rattle.std.specs.FinMap.{values}
use Rattle.adm_register.proofs.Maps.{left_cmp-total}
use Rattle.std.proofs.lemmas.Result.{MatchResult-weaker}
use Rattle.adm_register.proofs.TableMaps.{values_rows}
use Rattle.adm_register.proofs.tables.Tables.all_left.Goals as goal

pub returns : goal.returns
returns c =
    MatchResult-weaker c.to_vec.result c.to_vec.ensures.rows
    (λ found rows. rows ∙ sym (values_rows left_cmp-total c.self.inside.course.left c.to_vec.ensures.ordered) ∙ ap (λ s. values s.left) c.self.view_is)
    (λ e _. tt)
