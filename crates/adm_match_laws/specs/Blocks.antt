-- The first block among some entrants.
use Rattle.std.specs.Prelude.{ℕ, Option, None, Some, nat_le, if◌then◌else◌}
use Rattle.adm_match.specs.Market.{Code}

-- the pair so far, or the child with the school found for it where that has the smaller number
abbrev pub earlier : Option (ℕ × Code) → ℕ → Option Code → Option (ℕ × Code)
earlier first child None = first
earlier None child (Some school) = Some (child, school)
earlier (Some pair) child (Some school) = if nat_le pair.0 child then Some pair else Some (child, school)
