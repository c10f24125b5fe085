use Rattle.std.proofs.Common.{subst, Ok}
use Rattle.adm_register.specs.State.{State}
use Rattle.adm_commands.specs.Commands.{rules_of}
use Rattle.adm_commands.specs.Rules.{Follows}
use Rattle.adm_commands.proofs.EachCommand.{shows}
use Rattle.adm_commands.proofs.proposals.propose.Goals as goal

-- what an accepted command changes fits
pub changed-requires : goal.changed-requires
changed-requires c =
    let old = c.args.old.now in
    let asked = c.args.command in
    let made = c.in-Ok in
    let comes = subst (λ (s : State). Follows (rules_of asked) s (Ok (made.whole, made.reply))) c.tables.ensures.value
    (subst (Follows (rules_of asked) c.tables.result.now) made.is c.in_ok-refusal.ensures.follows) in
    (shows asked).fits old c.evaluate.ensures.kept c.tables.ensures.well_formed c.allotment_fits.ensures comes.0 made.whole made.reply comes.1
