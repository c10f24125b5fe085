use Rattle.std.proofs.Common.{IfOk, sym, subst}
use Rattle.adm_types.specs.declared.commands.Command.{Command}
use Rattle.adm_commands.specs.Commands.{rules_of}
use Rattle.adm_commands.specs.Rules.{Follows}
use Rattle.adm_commands.proofs.commands.evaluate.Goals as goal

pub returns-in-Apply-clause-follows : goal.returns-in-Apply-clause-follows
returns-in-Apply-clause-follows c =
    subst (λ (x : Command). IfOk c.evaluate-in-Apply.result (Follows (rules_of x) c.args.old.now)) (sym c.in-Apply.is) c.evaluate-in-Apply.ensures.follows
