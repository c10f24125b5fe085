use Rattle.std.proofs.Common.{◌∙◌, ap, sym, length, ◌≤◌, ◌<◌, ◌+◌, arith}
use Rattle.std.specs.Prelude.{find, nat_eq}
use Rattle.std.specs.Option.{option_or, option_copied}
use Rattle.std.specs.FinMap.{values}
use Rattle.std.specs.Cmp.{nat_cmp_total}
use Rattle.std.specs.Map.{values_of}
use Rattle.std.proofs.lemmas.List.{take_all}
use Rattle.adm_types.specs.declared.draws.Draw.{Draw}
use Rattle.adm_table.specs.Pieces.{rows_of_pieces}
use Rattle.adm_register.proofs.PieceRows.{find-more, find-first}
use Rattle.adm_register.proofs.TableMaps.{values_rows}
use Rattle.adm_register.proofs.tables.Tables.first_of_round.Goals as goal

pub returns-in-Some : goal.returns-in-Some
returns-in-Some c =
    let here = λ (draw : Draw). nat_eq draw.round c.args.number in
    let pieces = c.pieces-piece-items.result.now in
    let place = c.loop-piece.piece-index in
    let within : place < length pieces = omega (arith, c.loop-piece-test.true) in
    let found = sym c.round_in.ensures ∙ ap option_copied c.in-Some.is in
    let first = find-more here place pieces c.piece-item.result within c.piece-item.is
    ∙ (λ i. option_or (c.loop-piece.invariant i) (found i)) in
    let all = sym (find-first here (place + 1) pieces c.in-Some.draw.now first) in
    let rows = sym (values_rows nat_cmp_total c.self.inside.course.draws c.pieces-piece-items.ensures.ordered) ∙ ap (λ s. values s.draws) c.self.view_is in
    all ∙ ap (λ rows. find here (values_of rows)) c.pieces-piece-items.ensures.rows ∙ ap (find here) rows

pub loop-piece-preserved : goal.loop-piece-preserved
loop-piece-preserved c =
    let here = λ (draw : Draw). nat_eq draw.round c.args.number in
    let pieces = c.pieces-piece-items.result.now in
    let place = c.loop-piece.piece-index in
    let within : place < length pieces = omega (arith, c.loop-piece-test.true) in
    let none = sym c.round_in.ensures ∙ ap option_copied c.in_default.is in
    find-more here place pieces c.piece-item.result within c.piece-item.is ∙ (λ i. option_or (c.loop-piece.invariant i) (none i))

pub returns : goal.returns
returns c =
    let here = λ (draw : Draw). nat_eq draw.round c.args.number in
    let pieces = c.pieces-piece-items.result.now in
    let place = c.loop-piece.piece-index in
    let whole : length pieces ≤ place = omega (arith, c.loop-piece-test.false) in
    let rows = sym (values_rows nat_cmp_total c.self.inside.course.draws c.pieces-piece-items.ensures.ordered) ∙ ap (λ s. values s.draws) c.self.view_is in
    sym c.loop-piece.invariant ∙ ap (λ ps. find here (values_of (rows_of_pieces ps))) (take_all place pieces whole)
    ∙ ap (λ rows. find here (values_of rows)) c.pieces-piece-items.ensures.rows ∙ ap (find here) rows
