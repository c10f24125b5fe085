use Rattle.std.proofs.Common.{◌∙◌, ap, sym, rules}
use Rattle.std.specs.Ordering.{nat_cmp}
use Rattle.adm_lists.proofs.Maps.{values-empty}
use Rattle.adm_types.specs.declared.draws.Draw.{Draw}
use Rattle.adm_register.specs.Draws.{no_draws, count_draws, draws_so_far}
use Rattle.adm_register.proofs.OnlySeason.{only_season-WellFormed}
use Rattle.adm_register.proofs.registers.Register.new.Goals as goal

pub invariant_of-result : goal.invariant_of-result
invariant_of-result c = (
  rw c.new.ensures (only_season-WellFormed c.args.season c.year-year.ensures.season),
  c.none.ensures ∙ sym (ap (count_draws no_draws) (values-empty nat_cmp Draw)) ∙ ap draws_so_far (sym c.new.ensures),
  rw c.none.ensures (search rules),
)
