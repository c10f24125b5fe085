use Rattle.std.proofs.Common.{◌∙◌}
use Rattle.adm_types.proofs.Prefixes.{read_behind, nothing_behind}
use Rattle.adm_types.specs.Fields.{plain_of}
use Rattle.adm_types.proofs.criteria.number_after.Goals as goal

pub returns-in-Some : goal.returns-in-Some
returns-in-Some c =
    let found = c.in-Some.ensures.cases in
    c.plain.ensures ∙ read_behind plain_of c.args.prefix.now c.args.text.now c.in-Some.number.now found.0 found.1 found.2

pub returns-in-None : goal.returns-in-None
returns-in-None c = nothing_behind plain_of c.args.prefix.now c.args.text.now c.in-None.ensures.cases
