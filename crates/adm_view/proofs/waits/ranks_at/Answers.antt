use Rattle.std.proofs.Common.{◌∙◌, ap}
use Rattle.adm_register.specs.State.{State}
use Rattle.adm_register.specs.Waits.{waiting_at}
use Rattle.adm_register.proofs.WaitLemmas.{waiters_fit}
use Rattle.adm_view.proofs.Rows.{school_in_range}
use Rattle.adm_view.proofs.waits.ranks_at.Goals as goal

pub ranks_of-requires-clause-school : goal.ranks_of-requires-clause-school
ranks_of-requires-clause-school c =
    school_in_range c.args.register.now c.tables.ensures.well_formed c.args.school.now.code c.args.school.now c.requires

pub ranks_of-requires-clause-children : goal.ranks_of-requires-clause-children
ranks_of-requires-clause-children c =
    waiters_fit c.args.register.now c.tables.ensures.well_formed c.args.school.now.code c.deref.result.now
    (c.deref.ensures.value ∙ c.in_ok-waiting.ensures ∙ ap (λ (s : State). waiting_at s c.args.school.now.code) c.tables.ensures.value)
