use Rattle.std.proofs.Common.{◌≡◌, false, subst}
use Rattle.sqlite.specs.Held.{state}
use Rattle.adm_rows.specs.Represents.{LeavesOnly}
use Rattle.adm_desk.specs.DeskState.{DeskState}
use Rattle.adm_desk.proofs.AcknowledgedLemmas.{keeps_lines}
use Rattle.adm_desk.proofs.desk.Desk.run_lines.Goals as goal

pub returns-clause-kept : goal.returns-clause-kept
returns-clause-kept g c = λ alive lines answers run.
    let leaves = subst (λ (s : DeskState _). s.failed ≡ false → LeavesOnly s.register (state g.S.Store s.conn)) c.self.view_is c.self.invariant in
    keeps_lines (state g.S.Store) c.args.self.now c.run_lines.new.handler lines answers alive (leaves alive) run
