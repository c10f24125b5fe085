use Rattle.std.proofs.Common.{◌≡◌, false, subst, Ok}
use Rattle.sqlite.specs.Held.{state}
use Rattle.adm_commands.specs.Steps.{Step}
use Rattle.adm_desk.specs.DeskState.{DeskState}
use Rattle.adm_desk.proofs.DeskStateLemmas.{handles}
use Rattle.adm_desk.proofs.desk.Desk.handle.Goals as goal

pub returns-in-Ok : goal.returns-in-Ok
returns-in-Ok g c =
    let alive = subst (λ (s : DeskState _). s.failed ≡ false) c.self.view_is c.if-self.false in
    let step = subst (λ (s : DeskState _). Step s.register c.args.command (Ok c.in-Ok.proposal.reply) c.in-Ok.proposal.register) c.self.view_is c.in-Ok.ensures.step in
    handles (state g.S.Store) c.args.self.now c.keep.new.self c.args.command c.in-Ok.proposal.register c.in-Ok.proposal.reply c.keep.result alive step c.keep.ensures.keeps c.keep.ensures.clean
