use Rattle.std.proofs.Common.{append_assoc}
use Rattle.adm_letters.specs.LetterLines.{withdrawal_line}
use Rattle.adm_letters.proofs.Written.{written}
use Rattle.adm_letters.proofs.letter_lines.withdrawal_line.Goals as goal

pub returns : goal.returns
unfolding withdrawal_line
returns c = written _ _ _ c.writeln.result c.writeln.ensures.bytes (simp append_assoc)
