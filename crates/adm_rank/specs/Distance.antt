-- The distance of two points of the map (this profile).
use Rattle.std.specs.Prelude.{ℕ, zero, suc, ◌+◌, ◌-◌, ◌*◌, ◌≤◌, nat_le, if◌then◌else◌}
use Rattle.adm_types.specs.declared.rows.Point.{Point}

-- how far two numbers are apart
abbrev pub gap : ℕ → ℕ → ℕ
gap a b = (a - b) + (b - a)

-- the sum of the squares of the two differences, in square metres
abbrev pub squares_between : Point → Point → ℕ
squares_between a b = gap a.east b.east * gap a.east b.east + gap a.north b.north * gap a.north b.north

-- The greatest whole number whose square is at most that sum. This profile.
pub record IsDistance (a b : Point) (d : ℕ) : Type 0 where
  pub within : d * d ≤ squares_between a b
  pub greatest : (e : ℕ) → e * e ≤ squares_between a b → e ≤ d

-- the greatest number up to a limit whose square is at most n
unfoldable pub root_upto : ℕ → ℕ → ℕ
root_upto zero n = 0
root_upto (suc k) n = if nat_le (suc k * suc k) n then suc k else root_upto k n

-- the number that `IsDistance` says: no number greater than n has a square that is at most n
unfoldable pub distance_of : Point → Point → ℕ
distance_of a b = root_upto (squares_between a b) (squares_between a b)
