use Rattle.std.proofs.Common.{[], refl, sym, subst, zip, arith}
use Rattle.sqlite.specs.Files.{file_state}
use Rattle.sqlite.specs.State.{HasCleanDisk}
use Rattle.sqlite_store.specs.FileStore.{recovers}
use Rattle.adm_register.specs.State.{State as Register}
use Rattle.adm_desk.specs.Acknowledged.{KeepsAcknowledged}
use Rattle.adm_desk.specs.DeskState.{DeskState}
use Rattle.adm_crashes.specs.Crashes.{KeepsEachDatabase, KeepsEveryImage}
use Rattle.adm_crashes.proofs.FoundLemmas.{each_database, every_image}
use Rattle.adm_crashes.proofs.crashes.run_commands.Goals as goal

pub returns-in-Ok-handle_all-clause-keeps : goal.returns-in-Ok-handle_all-clause-keeps
returns-in-Ok-handle_all-clause-keeps g c r file clean =
    let desk = c.in-Ok.desk in
    let last = c.handle_all.new.desk in
    let it = c.store_of-store in
    let late : HasCleanDisk (file_state last.conn) = omega (arith, it.ensures.quiet.clean, clean) in
    let alive = c.in-Ok.ensures.alive.0 in
    let answered = zip c.args.commands.items c.in-Ok-handle_all.answers.items in
    subst (λ (x : Register). KeepsEveryImage x answered it.result) (c.in-Ok.ensures.register r file (c.handle_all.ensures.clean late))
    (every_image {g = g.D.Disk} c.draws_kept.ensures c.rounds_are_recorded.ensures c.rounds_stay.ensures c.round_is_recorded.ensures answered desk last it.result
    (c.has_draws_in_order.ensures alive) (c.in-Ok-handle_all.ensures.kept alive) it.ensures.quiet clean (it.ensures.numbered clean) (it.ensures.sound clean))

pub returns-in-Ok-handle_all-clause-answers : goal.returns-in-Ok-handle_all-clause-answers
returns-in-Ok-handle_all-clause-answers g c = record {
  desk = c.in-Ok.desk;
  alive = c.in-Ok.ensures.alive;
  register = λ r file clean.
      let late : HasCleanDisk (file_state c.handle_all.new.desk.conn) = omega (arith, c.store_of-store.ensures.quiet.clean, clean) in
      c.in-Ok.ensures.register r file (c.handle_all.ensures.clean late);
  last = c.handle_all.new.desk;
  run = c.in-Ok-handle_all.ensures.run;
}

pub returns-in-Ok-handle_all-clause-databases : goal.returns-in-Ok-handle_all-clause-databases
returns-in-Ok-handle_all-clause-databases g c r file clean =
    let desk = c.in-Ok.desk in
    let last = c.handle_all.new.desk in
    let it = c.store_of-store in
    let late : HasCleanDisk (file_state last.conn) = omega (arith, it.ensures.quiet.clean, clean) in
    let alive = c.in-Ok.ensures.alive.0 in
    let answered = zip c.args.commands.items c.in-Ok-handle_all.answers.items in
    subst (λ (x : Register). KeepsEachDatabase x answered (recovers it.result)) (c.in-Ok.ensures.register r file (c.handle_all.ensures.clean late))
    (each_database {g = g.D.Disk} c.draws_kept.ensures c.rounds_are_recorded.ensures c.rounds_stay.ensures c.round_is_recorded.ensures answered desk last it.result
    (c.has_draws_in_order.ensures alive) (c.in-Ok-handle_all.ensures.kept alive) it.ensures.quiet clean)

pub returns-in-Err-clause-unhandled : goal.returns-in-Err-clause-unhandled
returns-in-Err-clause-unhandled g c r file clean = (c.in-Err.ensures.never r file clean, λ are. c.in-Err.ensures.left r are clean)

pub returns-in-Err-handle_all-clause-unhandled : goal.returns-in-Err-handle_all-clause-unhandled
returns-in-Err-handle_all-clause-unhandled g c r file clean =
    let desk = c.in-Ok.desk in
    let last = c.handle_all.new.desk in
    let it = c.store_of in
    let late : HasCleanDisk (file_state last.conn) = omega (arith, it.ensures.quiet.clean, clean) in
    let alive = c.in-Ok.ensures.alive.0 in
    let none : KeepsAcknowledged file_state desk desk [] = record { run = refl; failed = alive; leaves = c.in-Ok.ensures.alive.1 } in
    let kept = subst (λ (s : DeskState _). KeepsAcknowledged file_state desk s []) (sym c.in-Err-handle_all.ensures.err) none in
    subst (λ (x : Register). KeepsEveryImage x [] it.result) (c.in-Ok.ensures.register r file (c.handle_all.ensures.clean late))
    (every_image {g = g.D.Disk} c.draws_kept.ensures c.rounds_are_recorded.ensures c.rounds_stay.ensures c.round_is_recorded.ensures [] desk last it.result
    (c.has_draws_in_order.ensures alive) kept it.ensures.quiet clean (it.ensures.numbered clean) (it.ensures.sound clean))
