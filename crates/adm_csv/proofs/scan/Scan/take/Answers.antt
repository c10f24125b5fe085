use Rattle.std.proofs.Common.{◌≡◌, ◌∙◌, Bool, cond, sym, ap, arith}
use Rattle.std.specs.Prelude.{nat_eq}
use Rattle.std.specs.Cmp.Lexicographic.{pointwise}
use Rattle.adm_csv.specs.Kinds.{Text}
use Rattle.adm_csv.specs.Ended.{ended_by, reader_state}
use Rattle.adm_csv.proofs.ScanLemmas.{the_mark, scan_mark, scan_other, grown}
use Rattle.adm_csv.proofs.scan.Scan.take.Goals as goal

tested : (slice mark text : Text) (r b : Bool) → r ≡ pointwise nat_eq slice mark → slice ≡ text → mark ≡ the_mark → r ≡ b → pointwise nat_eq text the_mark ≡ b
tested slice mark text r b eq is mark_is test = sym (eq ∙ (ap (λ t. pointwise nat_eq t mark) is ∙ ap (pointwise nat_eq text) mark_is)) ∙ test

pub returns-then-eq : goal.returns-then-eq
returns-then-eq c =
    let items = c.in_ok-push.ensures.items in
    let scan = scan_mark c.args.self.now.text.items c.args.byte (tested _ _ _ _ _ c.eq.ensures (c.as_slice.ensures.value ∙ items) c.as_slice-2.ensures c.if-eq.true) in
    (items, scan.0, scan.1, omega arith)

pub returns-then-ends : goal.returns-then-ends
returns-then-ends c =
    let items = c.in_ok-push.ensures.items in
    let scan = scan_other c.args.self.now.text.items c.args.byte (reader_state c.args.self.now.at)
    (tested _ _ _ _ _ c.eq.ensures (c.as_slice.ensures.value ∙ items) c.as_slice-2.ensures c.if-eq.false) c.requires.1 in
    let long = grown c.args.self.now.text.items c.args.byte in
    let one : ended_by (reader_state c.args.self.now.at) c.args.byte ≡ 1 = ap (λ t. cond t 1 0) (sym c.after-at.ensures.ends ∙ c.if-ends.true) in
    (items, c.after-at.ensures.at ∙ scan.0, omega (arith, one, scan.1, c.requires.2), omega (arith, long, c.requires.3))

pub returns-else-ends : goal.returns-else-ends
returns-else-ends c =
    let items = c.in_ok-push.ensures.items in
    let scan = scan_other c.args.self.now.text.items c.args.byte (reader_state c.args.self.now.at)
    (tested _ _ _ _ _ c.eq.ensures (c.as_slice.ensures.value ∙ items) c.as_slice-2.ensures c.if-eq.false) c.requires.1 in
    let long = grown c.args.self.now.text.items c.args.byte in
    let none : ended_by (reader_state c.args.self.now.at) c.args.byte ≡ 0 = ap (λ t. cond t 1 0) (sym c.after-at.ensures.ends ∙ c.if-ends.false) in
    (items, c.after-at.ensures.at ∙ scan.0, omega (arith, none, scan.1, c.requires.2), omega (arith, long, c.requires.3))
