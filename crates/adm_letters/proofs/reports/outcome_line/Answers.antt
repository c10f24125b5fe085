use Rattle.std.proofs.Common.{append_assoc, refl}
use Rattle.adm_letters.specs.Reports.{outcome_line}
use Rattle.adm_letters.proofs.Written.{written}
use Rattle.adm_letters.proofs.Widths.{in_column}
use Rattle.adm_letters.proofs.reports.outcome_line.Goals as goal

pub returns : goal.returns
unfolding outcome_line
returns c = written _ _ _ c.writeln.result c.writeln.ensures.bytes (rw (c.laid_out.ensures, in_column 9 c.args.child refl) (simp append_assoc))
