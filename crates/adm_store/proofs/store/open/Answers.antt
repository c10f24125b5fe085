use Rattle.std.proofs.Common.{arith, inl, inr}
use Rattle.sqlite.specs.Held.{state}
use Rattle.sqlite.specs.State.{HasCleanDisk}
use Rattle.adm_store.proofs.MigrationLemmas.{leaves_read, brought}
use Rattle.adm_store.proofs.store.open.Goals as goal

pub returns-in-Err-clause-bad : goal.returns-in-Err-clause-bad
returns-in-Err-clause-bad g c structural clean db may r file =
    let early : HasCleanDisk (state g.S.Store c.args.conn) = omega (arith, c.read.ensures.survives.clean, clean) in
    let live = c.requires.started early in
    elim (c.read.ensures.survives.crash clean db may) [ inl was ↦ c.in-Err.ensures.bad clean live structural db was r file | inr none ↦ none ]

pub returns-in-Err-clause-disk : goal.returns-in-Err-clause-disk
returns-in-Err-clause-disk g c is = inl (c.in-Err.ensures.disk is)

-- what was read, brought to the second version
pub returns-in-Ok-bring_up-clause-ok : goal.returns-in-Ok-bring_up-clause-ok
returns-in-Ok-bring_up-clause-ok g c =
    c.in-Ok-bring_up.ensures.ok c.in-Ok.found.1 (leaves_read c.in-Ok.found.0 c.in-Ok.found.1 (state g.S.Store c.args.conn)
    (state g.S.Store c.read.new.conn) c.requires.started c.read.ensures.survives c.in-Ok.ensures.ok)

pub returns-in-Ok-bring_up-clause-kept : goal.returns-in-Ok-bring_up-clause-kept
returns-in-Ok-bring_up-clause-kept g c =
    let start = state g.S.Store c.args.conn in
    let mid = state g.S.Store c.read.new.conn in
    let leaves = leaves_read c.in-Ok.found.0 c.in-Ok.found.1 start mid c.requires.started c.read.ensures.survives c.in-Ok.ensures.ok in
    brought c.in-Ok.found.0 c.in-Ok.found.1 start mid c.requires.started c.read.ensures.survives c.in-Ok.ensures.ok (state g.S.Store c.bring_up.new.conn)
    (c.bring_up.ensures.survives c.in-Ok.found.1 leaves)

pub returns-in-Err-bring_up-clause-left : goal.returns-in-Err-bring_up-clause-left
returns-in-Err-bring_up-clause-left g c =
    let start = state g.S.Store c.args.conn in
    let mid = state g.S.Store c.read.new.conn in
    let leaves = leaves_read c.in-Ok.found.0 c.in-Ok.found.1 start mid c.requires.started c.read.ensures.survives c.in-Ok.ensures.ok in
    brought c.in-Ok.found.0 c.in-Ok.found.1 start mid c.requires.started c.read.ensures.survives c.in-Ok.ensures.ok (state g.S.Store c.bring_up.new.conn)
    (c.bring_up.ensures.survives c.in-Ok.found.1 leaves)
