use Rattle.std.proofs.Common.{codes, refl}
use Rattle.adm_host.proofs.reporting.print_arguments_fault.Goals as goal

pub returns-in-Ok-2 : goal.returns-in-Ok-2
returns-in-Ok-2 g c = rw c.in-Usage.is (codes "fault: Memory\n", tt, λ e. cc, c.print.ensures)

pub returns-in-BadDate : goal.returns-in-BadDate
returns-in-BadDate g c = rw c.in-BadDate.is (codes "fault: BadDate\n", refl, λ e. cc, c.print_text-in-BadDate.ensures)

pub returns-in-BadWord : goal.returns-in-BadWord
returns-in-BadWord g c = rw c.in-BadWord.is (codes "fault: BadWord\n", refl, λ e. cc, c.print_text-in-BadWord.ensures)

pub returns-in-Memory : goal.returns-in-Memory
returns-in-Memory g c = rw c.in-Memory.is (codes "fault: Memory\n", refl, λ e. cc, c.print-in-Memory.ensures)
