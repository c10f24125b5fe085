-- There is room for one more row.
use Rattle.std.proofs.Common.{cond, true, false, ℕ, ◌≤◌, ◌<◌, ◌+◌, arith}
use Rattle.std.specs.declared.cmp.Ordering.{Ordering}
use Rattle.std.specs.Cmp.{IsTotalOrder}
use Rattle.std.specs.FinMap.{FinMap, insert, len, contains_key, len-insert}

pub len-insert_room : {K V : Type 0} {R : K → K → Ordering} → IsTotalOrder R → (rows : FinMap R V) (key : K) (row : V) (limit : ℕ) → len rows < limit → len (insert rows key row) ≤ limit
len-insert_room total rows key row limit room =
    rw (len-insert total rows key row) (elim (contains_key rows key) as (λ b. cond b (len rows) (len rows + 1) ≤ limit) [ true ↦ omega arith | false ↦ omega arith ])
