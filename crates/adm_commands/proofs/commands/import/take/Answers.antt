use Rattle.std.proofs.Common.{◌∙◌, ap, sym, None}
use Rattle.adm_commands.specs.Commands.Import.{or_later}
use Rattle.adm_commands.proofs.commands.import.take.Goals as goal

pub returns-in-Some-clause-refused : goal.returns-in-Some-clause-refused
returns-in-Some-clause-refused c seen beside = ap (λ o. or_later c.args.number o None) (sym (c.refusal_of_row.ensures seen beside) ∙ c.in-Some.is)
