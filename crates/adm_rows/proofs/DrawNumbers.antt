-- Draws in the order of their numbers: how each follows those before it, and how many there are.
use Rattle.std.proofs.Common.{◌≡◌, ◌+◌, ◌<◌, ◌≤◌, ℕ, true, List, [], ◌∷◌, length, arith, nat_lt}
use Rattle.std.proofs.lemmas.Bool.{and_parts, eqb-true}
use Rattle.std.proofs.lemmas.Bool.Decides.{nat_tests}
use Rattle.adm_types.specs.Limits.{most_draws}
use Rattle.adm_types.specs.Seasons.{SeasonFacts}
use Rattle.adm_types.specs.declared.draws.Draw.{Draw}
use Rattle.adm_register.specs.Draws.{count_draw, is_next, are_in_order}
use Rattle.adm_register.specs.declared.draws_so_far.DrawsSoFar.{DrawsSoFar}

below : (a b : ℕ) → nat_lt a b ≡ true → a < b
below a b h = grind (arith, nat_tests)

-- ---- one after another

-- what a draw has as the next after those before it
pub record IsNumbered (season : SeasonFacts) (before : DrawsSoFar) (draw : Draw) : Type 0 where
  pub number : draw.number ≡ before.draws + 1
  pub room : before.draws < most_draws

pub next_numbered : (season : SeasonFacts) (before : DrawsSoFar) (draw : Draw) → is_next season before draw ≡ true → IsNumbered season before draw
next_numbered season before draw next =
    let lots = and_parts _ _ next in
    let day = and_parts _ _ lots.0 in
    let due = and_parts _ _ day.0 in
    let room = and_parts _ _ due.0 in
    let number = and_parts _ _ room.0 in
    record { number = eqb-true _ _ number.0; room = below _ _ room.1 }

-- there are not too many
pub few_draws : (season : SeasonFacts) (before : DrawsSoFar) (draws : List Draw) → before.draws ≤ most_draws → are_in_order season before draws ≡ true → before.draws + length draws ≤ most_draws
few_draws season before [] few in_order = omega (arith, few)
few_draws season before (draw ∷ draws) few in_order =
    let parts = and_parts (is_next season before draw) (are_in_order season (count_draw before draw) draws) in_order in
    let room = (next_numbered season before draw parts.0).room in
    let rest = few_draws season (count_draw before draw) draws (omega (arith, room)) parts.1 in
    omega (arith, rest)
