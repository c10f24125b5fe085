use Rattle.std.proofs.Common.{◌≡◌, ◌∙◌, ap, sym, subst, cond, ◌+◌, ◌≤◌, length, take, drop, arith}
use Rattle.std.specs.Prelude.{is_some}
use Rattle.std.specs.List.Sorted.{IsStrictlySortedBy}
use Rattle.std.specs.Map.{keys_of, lookup, remove_entry}
use Rattle.std.specs.BTreeMap.{is_at}
use Rattle.std.specs.List.{AllByRecursion}
use Rattle.std.specs.declared.cmp.Ordering.TheVariants.{Less}
use Rattle.adm_table.specs.Pieces.{ArePieces, rows_of_pieces}
use Rattle.adm_table.proofs.Runs.{lookup-removed}
use Rattle.adm_table.proofs.PieceRuns.{IsChanged, length-changed, cut-changed, some-row}
use Rattle.adm_table.proofs.pieces.Pieces.cut.Goals as goal
use Rattle.adm_table.proofs.pieces.Pieces.cut.Given as given
use Rattle.adm_table.proofs.pieces.Pieces.cut.Goals.{in-Some, in-None}

change : (g : given.Over) (c : goal.In_ok-put_rows g) → IsChanged c.index_of-index.result c.self.inside.pieces.items c.take_rows.new.pieces.items
    c.put_rows.new.pieces.items c.in_ok-rows.rows.entries c.remove.new.self.entries
change g c = record {
  room = subst (λ ps. c.index_of-index.result ≤ length ps) c.deref.ensures.value c.index_of-index.ensures.room;
  without = c.in_ok-rows.ensures.pieces;
  taken_is = c.in_ok-rows.ensures.rows;
  before = c.in_ok-put_rows.ensures.before;
  after = c.in_ok-put_rows.ensures.after;
  starts = c.in_ok-put_rows.ensures.starts;
}

now : (g : given.Over) (c : goal.In_ok-put_rows g)
    → (rows_of_pieces c.put_rows.new.pieces.items ≡ remove_entry (is_at (g.K.Ord.cmp c.args.key.now)) (rows_of_pieces c.self.inside.pieces.items)) × ArePieces g.K.Ord.cmp c.put_rows.new.pieces.items
now g c =
    let R = g.K.Ord.cmp in
    let index = c.index_of-index.result in
    let lower = subst (λ ps. AllByRecursion (λ other. R other c.args.key.now ≡ Less) (keys_of (rows_of_pieces (take index ps)))) c.deref.ensures.value c.index_of-index.ensures.below in
    let higher = subst (λ ps. AllByRecursion (λ other. R c.args.key.now other ≡ Less) (keys_of (rows_of_pieces (drop (index + 1) ps)))) c.deref.ensures.value c.index_of-index.ensures.above in
    cut-changed index c.self.inside.pieces.items _ _ _ _ (change g c) g.met.K.Ord.total c.self.invariant.0 c.args.key.now lower higher c.remove.ensures.entries

rows : (g : given.Over) (c : goal.In_ok-put_rows g) → rows_of_pieces c.put_rows.new.pieces.items ≡ remove_entry (is_at (g.K.Ord.cmp c.args.key.now)) c.args.self
rows g c = (now g c).0 ∙ ap (remove_entry (is_at (g.K.Ord.cmp c.args.key.now))) c.self.view_is

pub returns-clause-rows : goal.returns-clause-rows
returns-clause-rows g c = rows g c

pub returns-clause-at : goal.returns-clause-at
returns-clause-at g c q =
    ap (lookup (is_at (g.K.Ord.cmp q))) (rows g c)
    ∙ lookup-removed g.met.K.Ord.total c.args.self c.args.key.now q (subst (λ rows. IsStrictlySortedBy g.K.Ord.cmp (keys_of rows)) c.self.view_is c.self.invariant.0.sorted)

pub invariant_of-result : goal.invariant_of-result
invariant_of-result g c =
    let kept = length c.remove.new.self.entries in
    let count = length-changed c.index_of-index.result c.self.inside.pieces.items _ _ _ _ (change g c) in
    let was = c.self.invariant.1 in
    let removed = c.remove.ensures.len in (
      (now g c).1,
      elim c.match-remove.branch [
        | in-Some w ↦
            let less = sym (ap (λ o. kept + cond (is_some o) 1 0) w.in-Some.is) ∙ removed in
            omega (arith, count, was, less, w.len-is)
        | in-None w ↦
            let same = sym (ap (λ o. kept + cond (is_some o) 1 0) w.in-None.is) ∙ removed in
            omega (arith, count, was, same, w.len-is)
      ],
    )

pub overflow_sub-len : goal.overflow_sub-len
overflow_sub-len g c =
    let was = c.self.invariant.1 in
    let some = some-row c.index_of-index.result c.self.inside.pieces.items c.in_ok-rows.rows.entries (length c.remove.new.self.entries) c.in_ok-rows.ensures.rows c.in-Some.ensures.len in
    omega (arith, was, some)
