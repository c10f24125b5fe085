-- The results of tests joined by `&&` and `||`.
use Rattle.std.proofs.Common.{◌≡◌, refl, Bool, true, false, cond, T, ◌&&◌, ◌||◌}

-- where both of two tests are passed, each is
pub both_hold : (a b : Bool) → T (a && b) → T a × T b
both_hold true b h = (tt, h)
both_hold false b h = absurd h

-- one test after another is the two joined, as a walk over one more joins them
pub or_test : (b c : Bool) → cond b true c ≡ (c || (b || false))
or_test true true = refl
or_test true false = refl
or_test false true = refl
or_test false false = refl
