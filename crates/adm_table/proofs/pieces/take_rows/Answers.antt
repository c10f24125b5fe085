use Rattle.std.proofs.Common.{◌∙◌, ap, sym, inl, inr, arith, ◌<◌, length}
use Rattle.std.proofs.lemmas.Result.{MatchResult-weaker}
use Rattle.adm_table.proofs.PieceRuns.{rows-read}
use Rattle.adm_table.proofs.TableCopies.{same_entries}
use Rattle.adm_table.proofs.pieces.take_rows.Goals as goal

pub returns-clause-rows : goal.returns-clause-rows
returns-clause-rows g c =
    let pieces = c.args.pieces.now.items in
    let piece = c.remove-piece.result in
    let whole = c.args.pieces.now.ok in
    let within : c.args.index < length pieces = omega (arith, c.requires, c.len.ensures, c.if-index-len.false) in
    let here = rows-read c.args.index pieces piece within c.remove-piece.ensures.value in
    MatchResult-weaker c.unwrap_or_clone.result c.unwrap_or_clone.ensures.ok
    (λ rows either. elim either [
      | inl same ↦ ap (λ m. m.entries) same ∙ sym here
      | inr copied ↦ same_entries _ _ g.met.K.Exact.clones_are_equal g.met.V.Exact.clones_are_equal _ _ copied ∙ sym here
    ])
    (λ e _. tt)
