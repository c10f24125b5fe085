use Rattle.std.proofs.Common.{ℕ, List, ◌++◌, subst, codes}
use Rattle.std.specs.Prelude.{decimal}
use Rattle.std.specs.Io.KnownBytes.{Appends}
use Rattle.adm_wire.specs.Streams.{Stream}
use Rattle.adm_host.specs.Reports.{IsCut}
use Rattle.adm_host.proofs.Wording.{as_cut, cut_front, cut_more, writes_more}
use Rattle.adm_host.proofs.fault.print_row.Goals as goal

-- the text before the row is cut
pub returns-in_err-print_text : goal.returns-in_err-print_text
returns-in_err-print_text g c =
    let errors : Stream = record { old = g.E.Output.contents c.args.errors.now; new = g.E.Output.contents c.print_text.new.errors; has_failed = g.E.Output.has_failed c.print_text.new.errors } in
    as_cut _ errors c.from_residual.result c.from_residual.ensures.0 (cut_front (codes "fault: row ") (decimal c.args.row ++ c.args.end.now) errors c.in_err-print_text.ensures)

-- the row is cut
pub returns-in_err-print_text-2 : goal.returns-in_err-print_text-2
returns-in_err-print_text-2 g c =
    let errors : Stream = record { old = g.E.Output.contents c.args.errors.now; new = g.E.Output.contents c.print_text-2.new.errors; has_failed = g.E.Output.has_failed c.print_text-2.new.errors } in
    let row : Stream = record { old = g.E.Output.contents c.print_text.new.errors; new = g.E.Output.contents c.print_text-2.new.errors; has_failed = g.E.Output.has_failed c.print_text-2.new.errors } in
    let cut : IsCut (decimal c.args.row) row = subst (λ (text : List ℕ). IsCut text row) c.format.ensures.text c.in_err-print_text-2.ensures in
    as_cut _ errors c.from_residual-in_err-print_text-2.result c.from_residual-in_err-print_text-2.ensures.0
    (cut_more (codes "fault: row ") (decimal c.args.row ++ c.args.end.now) errors.old row.old row.new row.has_failed c.in_ok-print_text.ensures
    (cut_front (decimal c.args.row) c.args.end.now row cut))

-- what follows the row is written, or cut
pub returns : goal.returns
returns g c =
    let row = subst (λ (text : List ℕ). Appends (g.E.Output.contents c.print_text.new.errors) (g.E.Output.contents c.print_text-2.new.errors) text)
    c.format.ensures.text c.in_ok-print_text-2.ensures in
    writes_more (codes "fault: row ") (decimal c.args.row ++ c.args.end.now) _ (g.E.Output.contents c.print_text.new.errors) _ _ c.print_text-3.result c.in_ok-print_text.ensures
    (writes_more (decimal c.args.row) c.args.end.now _ (g.E.Output.contents c.print_text-2.new.errors) _ _ c.print_text-3.result row c.print_text-3.ensures)
