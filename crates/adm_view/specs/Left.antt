-- Pairs of children and the schools that they left, in the order of the children. Only private functions cite this.
use Rattle.std.specs.Prelude.{⊤, ℕ, ◌≤◌, Bool, nat_lt, nat_le, List, [], ◌∷◌}
use Rattle.std.specs.List.{AllByRecursion}
use Rattle.adm_types.specs.declared.rows.LeftPair.{LeftPair}

-- whether the pair is of a child before this one
abbrev pub is_below : ℕ → LeftPair → Bool
is_below child pair = nat_lt pair.child child

-- whether it is of a child before this one or of this one
abbrev pub is_upto : ℕ → LeftPair → Bool
is_upto child pair = nat_le pair.child child

-- the pairs come in the order of their children
abbrev pub Rise : List LeftPair → Type 0
Rise [] = ⊤
Rise (pair ∷ pairs) = AllByRecursion (λ (other : LeftPair). pair.child ≤ other.child) pairs × Rise pairs
