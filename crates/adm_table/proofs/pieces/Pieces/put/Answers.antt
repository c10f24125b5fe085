use Rattle.std.proofs.Common.{◌≡◌, ◌∙◌, ap, subst, cond, ◌+◌, ◌≤◌, length, take, drop, arith}
use Rattle.std.specs.Prelude.{is_some}
use Rattle.std.specs.Map.{keys_of, lookup}
use Rattle.std.specs.BTreeMap.{insert_entry, is_at}
use Rattle.std.specs.List.{AllByRecursion}
use Rattle.std.specs.declared.cmp.Ordering.TheVariants.{Less}
use Rattle.adm_table.specs.Pieces.{ArePieces, rows_of_pieces}
use Rattle.adm_table.proofs.Runs.{lookup-inserted}
use Rattle.adm_table.proofs.PieceRuns.{IsChanged, length-changed, put-changed}
use Rattle.adm_table.proofs.pieces.Pieces.put.Goals as goal
use Rattle.adm_table.proofs.pieces.Pieces.put.Given as given
use Rattle.adm_table.proofs.pieces.Pieces.put.Goals.{in-Some, in-None+in_ok-len-in-None}

change : (g : given.Over) (c : goal.In_ok-put_rows g) → IsChanged c.index_of-index.result c.self.inside.pieces.items c.take_rows.new.pieces.items
    c.put_rows.new.pieces.items c.in_ok-rows.rows.entries c.insert.new.self.entries
change g c = record {
  room = subst (λ ps. c.index_of-index.result ≤ length ps) c.deref.ensures.value c.index_of-index.ensures.room;
  without = c.in_ok-rows.ensures.pieces;
  taken_is = c.in_ok-rows.ensures.rows;
  before = c.in_ok-put_rows.ensures.before;
  after = c.in_ok-put_rows.ensures.after;
  starts = c.in_ok-put_rows.ensures.starts;
}

now : (g : given.Over) (c : goal.In_ok-put_rows g)
    → (rows_of_pieces c.put_rows.new.pieces.items ≡ insert_entry g.K.Ord.cmp (rows_of_pieces c.self.inside.pieces.items) c.args.key c.args.row) × ArePieces g.K.Ord.cmp c.put_rows.new.pieces.items
now g c =
    let R = g.K.Ord.cmp in
    let index = c.index_of-index.result in
    let lower = subst (λ ps. AllByRecursion (λ other. R other c.args.key ≡ Less) (keys_of (rows_of_pieces (take index ps)))) c.deref.ensures.value c.index_of-index.ensures.below in
    let higher = subst (λ ps. AllByRecursion (λ other. R c.args.key other ≡ Less) (keys_of (rows_of_pieces (drop (index + 1) ps)))) c.deref.ensures.value c.index_of-index.ensures.above in
    put-changed index c.self.inside.pieces.items _ _ _ _ (change g c) g.met.K.Ord.total c.self.invariant.0 c.args.key lower higher c.args.row c.in_ok-there.ensures.entries

rows : (g : given.Over) (c : goal.In_ok-put_rows g) → rows_of_pieces c.put_rows.new.pieces.items ≡ insert_entry g.K.Ord.cmp c.args.self c.args.key c.args.row
rows g c = (now g c).0 ∙ ap (λ rows. insert_entry g.K.Ord.cmp rows c.args.key c.args.row) c.self.view_is

pub returns-clause-rows : goal.returns-clause-rows
returns-clause-rows g c = rows g c

pub returns-clause-at : goal.returns-clause-at
returns-clause-at g c q = ap (lookup (is_at (g.K.Ord.cmp q))) (rows g c) ∙ lookup-inserted g.met.K.Ord.total c.args.self c.args.key c.args.row q

pub returns-clause-ordered : goal.returns-clause-ordered
returns-clause-ordered g c = (now g c).1.sorted

pub invariant_of-result : goal.invariant_of-result
invariant_of-result g c =
    let taken = length c.in_ok-rows.rows.entries in
    let count = length-changed c.index_of-index.result c.self.inside.pieces.items _ _ _ _ (change g c) in
    let was = c.self.invariant.1 in
    let added = c.in_ok-there.ensures.len in (
      (now g c).1,
      elim c.match-there.branch [
        | in-Some w ↦
            let same = added ∙ ap (λ o. taken + cond (is_some o) 0 1) w.in-Some.is in
            omega (arith, count, was, same, w.len-is)
        | in-None+in_ok-len-in-None w ↦
            let more = added ∙ ap (λ o. taken + cond (is_some o) 0 1) w.in-None.is in
            let next : w.in_ok-len-in-None.len ≡ c.self.inside.len + 1 = grind (arith, w.in_ok-len-in-None.ensures.value, w.checked_add.ensures) in
            omega (arith, count, was, more, next, w.len-is)
      ],
    )
