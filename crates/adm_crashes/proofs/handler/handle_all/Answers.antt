use Rattle.std.proofs.Common.{subst, zip}
use Rattle.std.proofs.lemmas.Result.{IfOk-weaker}
use Rattle.sqlite.specs.Held.{state}
use Rattle.sqlite.specs.State.{HasCleanDisk}
use Rattle.adm_desk.proofs.AcknowledgedLemmas.{was_clean}
use Rattle.adm_desk.specs.DeskState.{DeskState, Handles}
use Rattle.adm_crashes.proofs.CommandLemmas.{keeps_commands, over_commands}
use Rattle.adm_crashes.proofs.Runs.{either_way}
use Rattle.adm_crashes.proofs.handler.handle_all.Goals as goal

pub returns-clause-kept : goal.returns-clause-kept
returns-clause-kept g c = IfOk-weaker c.answer_all.result _ _ (λ answers run alive.
    keeps_commands (state g.S.Store) c.args.desk.now c.answer_all.new.handler c.args.commands.items answers.items alive (c.leaves_its_register.ensures alive) run) c.answer_all.ensures.run

pub returns-clause-clean : goal.returns-clause-clean
returns-clause-clean g c = either_way c.answer_all.result c.answer_all.ensures.run c.answer_all.ensures.err
    (λ answers run. was_clean (state g.S.Store) c.args.desk.now c.answer_all.new.handler (zip c.args.commands.items answers.items)
    (over_commands (Handles (state g.S.Store)) c.args.desk.now c.answer_all.new.handler c.args.commands.items answers.items run))
    (λ same. subst (λ (s : DeskState _). HasCleanDisk (state g.S.Store s.conn)) same)
