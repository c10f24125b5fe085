use Rattle.adm_host.proofs.fault.Fault.print.Goals as goal

pub returns-in-Ok : goal.returns-in-Ok
returns-in-Ok g c = rw c.in-Ok.ensures at c.print_text.ensures

pub returns-in-Err : goal.returns-in-Err
returns-in-Err g c = rw c.in-Err.ensures (rw c.row_fault_end.ensures at c.print_row.ensures)
