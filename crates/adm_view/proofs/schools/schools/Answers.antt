use Rattle.std.proofs.Common.{◌≡◌, ◌∙◌, sym, ap, subst, Some, List}
use Rattle.std.specs.Prelude.{All}
use Rattle.std.specs.FinMap.{get, values}
use Rattle.adm_types.specs.declared.rows.School.{School}
use Rattle.adm_register.specs.State.{State}
use Rattle.adm_register.specs.WellFormed.{WellFormed}
use Rattle.adm_view.proofs.Rows.{schools_at_own}
use Rattle.adm_view.proofs.schools.schools.Goals as goal

all_own : (s t : State) (schools : List School) → t ≡ s → WellFormed s → schools ≡ values t.schools → All (λ (school : School). get s.schools school.code ≡ Some school) schools
all_own s t schools same well are =
    subst (All (λ (school : School). get s.schools school.code ≡ Some school)) (sym (are ∙ ap (λ (u : State). values u.schools) same)) (schools_at_own s well)

pub each_school-requires-clause-schools : goal.each_school-requires-clause-schools
each_school-requires-clause-schools c =
    all_own c.args.register.now c.tables-tables.result.now c.deref-2.result.now c.tables-tables.ensures.value c.tables-tables.ensures.well_formed (c.deref-2.ensures.value ∙ c.in_ok-all.ensures)
