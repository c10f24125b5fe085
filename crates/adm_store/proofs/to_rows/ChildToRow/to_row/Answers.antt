use Rattle.std.proofs.Common.{[]}
use Rattle.adm_store.proofs.to_rows.ChildToRow.to_row.Goals as goal

pub returns : goal.returns
returns c = c.in_ok-columns.ensures (λ _. [])
