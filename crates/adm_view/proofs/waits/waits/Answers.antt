use Rattle.std.proofs.Common.{◌∙◌, ap, map}
use Rattle.std.specs.FinMap.{values}
use Rattle.std.proofs.lemmas.Result.{IfOk-weaker}
use Rattle.adm_types.specs.declared.rows.School.{School}
use Rattle.adm_register.specs.State.{State}
use Rattle.adm_view.proofs.Positions.{has_waits}
use Rattle.adm_view.proofs.waits.waits.Goals as goal

pub returns : goal.returns
returns c =
    let schools = c.deref.ensures.value ∙ c.in_ok-schools.ensures ∙ ap (λ (s : State). values s.schools) c.tables.ensures.value in
    let codes = c.deref-2.ensures.value ∙ c.in_ok-codes.ensures ∙ ap (map (λ (school : School). school.code)) schools in
    IfOk-weaker c.waits_at.result _ _ (λ waits all. has_waits c.args.register.now c.deref-2.result.now waits codes all) c.waits_at.ensures
