use Rattle.std.proofs.Common.{append_assoc}
use Rattle.adm_letters.specs.LetterLines.{waiting_line}
use Rattle.adm_letters.proofs.Written.{written}
use Rattle.adm_letters.proofs.letter_lines.waiting_line.Goals as goal

pub returns : goal.returns
unfolding waiting_line
returns c = written _ _ _ c.writeln.result c.writeln.ensures.bytes (simp append_assoc)
