use Rattle.std.proofs.Common.{arith}
use Rattle.sqlite_trees.proofs.Doubt.{no_doubt}
use Rattle.sqlite.specs.Files.{file_state}
use Rattle.sqlite.specs.State.{HasCleanDisk}
use Rattle.adm_desk.proofs.CrashLemmas.{opens_one, is_not_none, still_represents}
use Rattle.adm_crashes.proofs.StartLemmas.{found_stands, seen_is, left_stands}
use Rattle.adm_crashes.proofs.files.open_files.Goals as goal

pub returns-in-Err-clause-left : goal.returns-in-Err-clause-left
returns-in-Err-clause-left g c r are clean = left_stands {g = g.D.Disk} r c.args.files g.met.D.Disk.seen_may_stay are c.in-Err.left (c.in-Err.ensures.unharmed clean)

pub returns-in-Ok-open-clause-register : goal.returns-in-Ok-open-clause-register
returns-in-Ok-open-clause-register g c r file clean =
    let conn = c.in-Ok.conn in
    let desk = c.in-Ok-open.desk in
    let kept = c.in-Ok-open.ensures.kept in
    let early : HasCleanDisk (file_state conn) = omega (arith, kept.clean, clean) in
    opens_one {g = g.D.Disk} g.met.D.Disk.seen_may_stay c.one_register.ensures r conn (c.in-Ok.ensures.opened early).0.is_open
    (found_stands {g = g.D.Disk} r c.args.files file conn (c.in-Ok.ensures.found early)) desk.conn kept clean desk.register c.in-Ok-open.ensures.opened.1

pub returns-in-Err-open-clause-never : goal.returns-in-Err-open-clause-never
returns-in-Err-open-clause-never g c r file honest bad =
    let conn = c.in-Ok.conn in
    let after = c.in-Err-open.conn in
    let kept = c.in-Err-open.ensures.left in
    let clean : HasCleanDisk (file_state after) = omega (arith, c.into_store.ensures.quiet.clean, no_doubt _ honest) in
    let early : HasCleanDisk (file_state conn) = omega (arith, kept.clean, clean) in
    is_not_none {g = g.D.Disk} g.met.D.Disk.seen_may_stay c.one_register.ensures r conn (c.in-Ok.ensures.opened early).0.is_open
    (found_stands {g = g.D.Disk} r c.args.files file conn (c.in-Ok.ensures.found early)) after kept clean (c.in-Err-open.ensures.bad bad)

pub returns-in-Err-open-clause-left : goal.returns-in-Err-open-clause-left
returns-in-Err-open-clause-left g c r are honest =
    let conn = c.in-Ok.conn in
    let after = c.in-Err-open.conn in
    let kept = c.in-Err-open.ensures.left in
    let quiet = c.into_store.ensures.quiet in
    let clean : HasCleanDisk (file_state after) = omega (arith, quiet.clean, no_doubt _ honest) in
    let early : HasCleanDisk (file_state conn) = omega (arith, kept.clean, clean) in
    still_represents {g = g.D.Disk} g.met.D.Disk.seen_may_stay c.one_register.ensures r conn (c.in-Ok.ensures.opened early).0.is_open
    (found_stands {g = g.D.Disk} r c.args.files (seen_is g.D.Disk r c.args.files g.met.D.Disk.seen_may_stay are) conn (c.in-Ok.ensures.found early)) after kept clean c.into_store.result quiet.outcomes
