use Rattle.std.proofs.Common.{◌≡◌, sym, subst, refl, length, []}
use Rattle.std.specs.declared.cmp.Ordering.{Ordering}
use Rattle.std.specs.List.Sorted.{IsStrictlySortedBy}
use Rattle.adm_table.specs.Pieces.{ArePieces, rows_of_pieces}
use Rattle.adm_table.proofs.pieces.Pieces.new.Goals as goal

none : {K V : Type 0} (R : K → K → Ordering) → ArePieces {V = V} R []
unfolding IsStrictlySortedBy
none R = record { sorted = tt; starts = tt }

pub invariant_of-result : goal.invariant_of-result
invariant_of-result g c = subst (λ ps. ArePieces g.K.Ord.cmp ps × (0 ≡ length (rows_of_pieces ps))) (sym c.new.ensures.items) (none g.K.Ord.cmp, refl)
