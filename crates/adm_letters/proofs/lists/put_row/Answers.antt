use Rattle.std.proofs.Common.{append_assoc, refl}
use Rattle.adm_letters.specs.Lists.{list_row}
use Rattle.adm_letters.proofs.Written.{written}
use Rattle.adm_letters.proofs.Widths.{in_column}
use Rattle.adm_letters.proofs.lists.put_row.Goals as goal

pub returns : goal.returns
unfolding list_row
returns c =
    let position = in_column 5 c.args.entry.now.position refl in
    let child = in_column 9 c.get-child.result refl in
    let class = in_column 4 c.args.entry.now.class refl in
    let metres = in_column 9 c.args.entry.now.metres refl in
    written _ _ _ c.writeln.result c.writeln.ensures.bytes
    (rw (c.laid_out.ensures, c.laid_out-2.ensures, c.laid_out-3.ensures, c.laid_out-4.ensures, position, child, class, metres, c.get-child.ensures.value) (simp append_assoc))
