use Rattle.std.proofs.Common.{◌≡◌, ◌∙◌, sym, ap, subst, Some, List}
use Rattle.std.specs.Prelude.{All}
use Rattle.std.specs.FinMap.{get, values}
use Rattle.adm_types.specs.declared.rows.Child.{Child}
use Rattle.adm_register.specs.State.{State}
use Rattle.adm_register.specs.WellFormed.{WellFormed}
use Rattle.adm_view.proofs.Rows.{children_at_own}
use Rattle.adm_view.proofs.children.children.Goals as goal

all_own : (s t : State) (children : List Child) → t ≡ s → WellFormed s → children ≡ values t.children → All (λ (child : Child). get s.children child.no ≡ Some child) children
all_own s t children same well are =
    subst (All (λ (child : Child). get s.children child.no ≡ Some child)) (sym (are ∙ ap (λ (u : State). values u.children) same)) (children_at_own s well)

pub each_child-requires-clause-children : goal.each_child-requires-clause-children
each_child-requires-clause-children c =
    all_own c.args.register.now c.tables-tables.result.now c.deref-2.result.now c.tables-tables.ensures.value c.tables-tables.ensures.well_formed (c.deref-2.ensures.value ∙ c.in_ok-all.ensures)
