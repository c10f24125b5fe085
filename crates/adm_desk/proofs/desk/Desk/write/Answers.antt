use Rattle.std.proofs.Common.{◌≡◌, false, ap, refl, sym, subst}
use Rattle.sqlite.specs.Held.{state}
use Rattle.sqlite.specs.State.{HasCleanDisk}
use Rattle.adm_register.specs.Extends.{Extends}
use Rattle.adm_store.specs.Changes.{IsChanges}
use Rattle.adm_rows.specs.Represents.{LeavesEither}
use Rattle.adm_desk.specs.DeskState.{DeskState}
use Rattle.adm_desk.proofs.desk.Desk.write.Goals as goal

pub invariant_of-self : goal.invariant_of-self
invariant_of-self g c alive =
    let changes = subst (λ (s : DeskState _). IsChanges s.register c.args.new c.args.changes.now) (sym c.self.view_is) c.requires.changes in
    let extends = subst (λ (s : DeskState _). Extends s.register c.args.new) (sym c.self.view_is) c.requires.extends.0 in
    c.in-Ok.ensures.ok _ _ record { changes_are = changes; extends = extends; formed = c.requires.extends.1 } (c.self.invariant alive)

pub returns-in-Ok-clause-keeps : goal.returns-in-Ok-clause-keeps
returns-in-Ok-clause-keeps g c =
    let alive = subst (λ (s : DeskState _). s.failed ≡ false) (sym c.self.view_is) c.requires.alive in
    let changes = subst (λ (s : DeskState _). IsChanges s.register c.args.new c.args.changes.now) (sym c.self.view_is) c.requires.changes in
    let extends = subst (λ (s : DeskState _). Extends s.register c.args.new) (sym c.self.view_is) c.requires.extends.0 in
    (refl, refl, alive, c.in-Ok.ensures.ok _ _ record { changes_are = changes; extends = extends; formed = c.requires.extends.1 } (c.self.invariant alive))

pub returns-in-Err-clause-keeps : goal.returns-in-Err-clause-keeps
returns-in-Err-clause-keeps g c =
    let alive = subst (λ (s : DeskState _). s.failed ≡ false) (sym c.self.view_is) c.requires.alive in
    let changes = subst (λ (s : DeskState _). IsChanges s.register c.args.new c.args.changes.now) (sym c.self.view_is) c.requires.changes in
    let extends = subst (λ (s : DeskState _). Extends s.register c.args.new) (sym c.self.view_is) c.requires.extends.0 in
    let either = c.in-Err.ensures.err _ _ record { changes_are = changes; extends = extends; formed = c.requires.extends.1 } (c.self.invariant alive) in
    (refl, ap (λ (s : DeskState _). s.register) c.self.view_is, subst (λ (s : DeskState _). LeavesEither s.register c.args.new (state g.S.Store c.commit.new.self)) c.self.view_is either)

pub returns-in-Ok-clause-clean : goal.returns-in-Ok-clause-clean
returns-in-Ok-clause-clean g c =
    let alive = subst (λ (s : DeskState _). s.failed ≡ false) (sym c.self.view_is) c.requires.alive in
    let changes = subst (λ (s : DeskState _). IsChanges s.register c.args.new c.args.changes.now) (sym c.self.view_is) c.requires.changes in
    let extends = subst (λ (s : DeskState _). Extends s.register c.args.new) (sym c.self.view_is) c.requires.extends.0 in
    subst (λ (s : DeskState _). HasCleanDisk (state g.S.Store c.commit.new.self) → HasCleanDisk (state g.S.Store s.conn)) c.self.view_is
    (c.commit.ensures.clean _ _ record { changes_are = changes; extends = extends; formed = c.requires.extends.1 } (c.self.invariant alive))

pub returns-in-Err-clause-clean : goal.returns-in-Err-clause-clean
returns-in-Err-clause-clean g c =
    let alive = subst (λ (s : DeskState _). s.failed ≡ false) (sym c.self.view_is) c.requires.alive in
    let changes = subst (λ (s : DeskState _). IsChanges s.register c.args.new c.args.changes.now) (sym c.self.view_is) c.requires.changes in
    let extends = subst (λ (s : DeskState _). Extends s.register c.args.new) (sym c.self.view_is) c.requires.extends.0 in
    subst (λ (s : DeskState _). HasCleanDisk (state g.S.Store c.commit.new.self) → HasCleanDisk (state g.S.Store s.conn)) c.self.view_is
    (c.commit.ensures.clean _ _ record { changes_are = changes; extends = extends; formed = c.requires.extends.1 } (c.self.invariant alive))
