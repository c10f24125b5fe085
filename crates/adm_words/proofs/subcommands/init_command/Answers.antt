use Rattle.std.proofs.Common.{codes}
use Rattle.clap.specs.Words.{App, new_app, with_rule}
use Rattle.adm_words.specs.Program.{file_rule, phase_rule, year_rule, holiday_rule, large_rule}
use Rattle.adm_words.proofs.subcommands.init_command.Goals as goal

pub returns : goal.returns
returns c =
    let q = c.phase.ensures in
    let named : App = with_rule (new_app (codes "init")) file_rule in
    let phased : App = with_rule named (phase_rule q.0) in
    let dated : App = with_rule phased year_rule in
    let first = c.with_arg-init.ensures named (phase_rule q.0) c.file_command-init.ensures q.2 in
    let second = c.with_arg-init-2.ensures phased year_rule first c.year.ensures in
    let third = c.with_arg-init-3.ensures dated holiday_rule second c.holiday.ensures in
    (q.0, q.1, c.with_arg.ensures (with_rule dated holiday_rule) large_rule third c.large.ensures)
