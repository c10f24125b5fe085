use Rattle.std.proofs.Common.{◌≡◌, ◌∙◌, Result, Ok, Err, refl, sym, ap, subst, arith, rules}
use Rattle.std.specs.Result.{IfOk}
use Rattle.std.proofs.lemmas.Result.{IfErr-weaker, IfOk-weaker}
use Rattle.sqlite.specs.Held.{Held, state}
use Rattle.sqlite.specs.State.{HasCleanDisk}
use Rattle.adm_rows.specs.Represents.{HoldsRegister}
use Rattle.adm_rows.specs.FirstFault.{IsFirstFault}
use Rattle.adm_rows.specs.Causes.{HasDiskCause}
use Rattle.adm_rows.proofs.CauseLemmas.{cause_before}
use Rattle.adm_rows.proofs.FaultLemmas.{represents_now, stands_here}
use Rattle.adm_store.proofs.store.read.Goals as goal

pub returns-clause-bad : goal.returns-clause-bad
returns-clause-bad g c clean live =
    let start = c.args.conn.now in
    let begun = c.transaction-tx.ensures.begun in
    let mid = state g.S.Store c.register_in-found.new.tx.conn.now in
    let late : HasCleanDisk (state g.S.Store c.rollback.new.self.0) = search rules in
    let early : HasCleanDisk mid = omega (arith, c.rollback.ensures.survives.clean) in
    IfErr-weaker c.register_in-found.result _ _ (λ _ bad structural db may r file.
    let it = represents_now (state g.S.Store start) db r file (g.met.S.Store.settled start.store db live may) (c.if-prove.ensures.settled refl live) (c.schema.ensures.live live).0 in
    bad structural r it.0 early (ap (λ (h : Held _). h.schema) begun ∙ it.1) (subst (λ (h : Held _). HoldsRegister it.0 (state g.S.Store h).now.trees r) (sym begun) it.2))
    c.register_in-found.ensures.bad

pub returns-clause-first : goal.returns-clause-first
returns-clause-first g c clean =
    let mid = state g.S.Store c.register_in-found.new.tx.conn.now in
    let late : HasCleanDisk (state g.S.Store c.rollback.new.self.0) = search rules in
    let early : HasCleanDisk mid = omega (arith, c.rollback.ensures.survives.clean) in
    IfErr-weaker c.register_in-found.result _ _ (λ e first structural. subst (λ (h : Held _). IsFirstFault (state g.S.Store h).now e) c.transaction-tx.ensures.begun (first structural))
    (c.register_in-found.ensures.first early)

pub returns-clause-disk : goal.returns-clause-disk
returns-clause-disk g c =
    let mid = state g.S.Store c.register_in-found.new.tx.conn.now in
    let same : c.rollback.new.self.0 ≡ c.conn-1.given.0 = search rules in
    IfErr-weaker c.register_in-found.result _ _ (λ _ disk is.
    let failed = subst (λ (h : Held _). HasDiskCause (state g.S.Store h) mid) c.transaction-tx.ensures.begun (disk is) in
    subst (λ h. HasDiskCause (state g.S.Store c.args.conn.now) (state g.S.Store h)) same
    (cause_before (state g.S.Store c.args.conn.now) mid (state g.S.Store c.rollback.new.self.0) c.rollback.ensures.survives failed))
    c.register_in-found.ensures.disk

with_both : {T E : Type 0} (r : Result T E) (P Q R : T → Type 0) → ((x : T) → P x → Q x → R x) → IfOk r P → IfOk r Q → IfOk r R
with_both (Ok x) P Q R f p q = f x p q
with_both (Err e) P Q R f p q = tt

pub returns-clause-ok : goal.returns-clause-ok
returns-clause-ok g c clean live =
    let start = c.args.conn.now in
    let begun = c.transaction-tx.ensures.begun in
    let mid = state g.S.Store c.register_in-found.new.tx.conn.now in
    let late : HasCleanDisk (state g.S.Store c.rollback.new.self.0) = search rules in
    let early : HasCleanDisk mid = omega (arith, c.rollback.ensures.survives.clean) in
    with_both c.register_in-found.result _ _ _ (λ it holds has db may.
    stands_here it.0 (state g.S.Store start) db it.1 (subst (λ (h : Held _). HoldsRegister it.0 (state g.S.Store h).now.trees it.1) begun (holds early has))
    (sym (ap (λ (h : Held _). h.schema) begun) ∙ has)
    (g.met.S.Store.settled start.store db live may) (c.if-prove.ensures.settled refl live) (c.schema.ensures.live live).0)
    c.register_in-found.ensures.ok c.register_in-found.ensures.tables

pub returns-clause-tables : goal.returns-clause-tables
returns-clause-tables g c =
    IfOk-weaker c.register_in-found.result _ _ (λ _ has. sym (ap (λ (h : Held _). h.schema) c.transaction-tx.ensures.begun) ∙ has) c.register_in-found.ensures.tables
