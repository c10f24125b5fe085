use Rattle.std.proofs.Common.{sym, subst, IfOk}
use Rattle.sqlite.specs.Held.{state}
use Rattle.adm_rows.specs.Reads.{ReadsIn, HoldsPresent}
use Rattle.adm_rows.proofs.reading.present.presents_in.Goals as goal

pub returns-in-Second-clause-ok : goal.returns-in-Second-clause-ok
returns-in-Second-clause-ok g c =
    subst (λ v. IfOk c.read_present.result (λ all. ReadsIn v (HoldsPresent v all.items) (state g.S.Store c.args.tx.now.conn.now)
    (state g.S.Store c.read_present.new.tx.conn.now))) (sym c.in-Second.is) c.read_present.ensures.ok
