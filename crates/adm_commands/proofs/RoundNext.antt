-- The draw of a round is the next.
use Rattle.std.proofs.Common.{◌≡◌, ◌∙◌, ap, refl, true, ℕ, ◌+◌, ◌≤◌, List, [], ◌∷◌, None, length, arith}
use Rattle.std.specs.Prelude.{nat_eq, nat_le, nat_lt, ◌&&◌, if◌then◌else◌}
use Rattle.std.specs.Cmp.{unsigned_Decides}
use Rattle.std.proofs.lemmas.Bool.{leb-true, le-leb, lt-ltb, and_parts}
use Rattle.adm_types.specs.Limits.{most_draws, most_lots}
use Rattle.adm_types.specs.declared.draws.Outcome.{Outcome}
use Rattle.adm_round.specs.declared.applicants.Pair.{Pair}
use Rattle.adm_round.specs.Round.{lots_of}
use Rattle.adm_register.specs.State.{State}
use Rattle.adm_commands.specs.Tests.{first_failing}
use Rattle.adm_types.specs.declared.commands.Refusal.TheVariants as refusal
use Rattle.adm_commands.proofs.Passed.{passed}
use Rattle.adm_register.specs.Draws.{are_in_order, draws_so_far}
use Rattle.adm_commands.specs.Commands.Round as round
use Rattle.adm_commands.specs.Commands.Round.{round_lots, round_pairs}

-- as many lots as there are pairs and numbers
pub lots-few : (pairs : List Pair) (numbers : List ℕ) → length (lots_of pairs numbers) ≤ length numbers
lots-few [] numbers = omega arith
lots-few (pair ∷ pairs) [] = omega arith
lots-few (pair ∷ pairs) (number ∷ numbers) = let rest = lots-few pairs numbers in omega (arith, rest)

pub round-next : (old : State) (draw day : ℕ) (numbers : List ℕ) (outcomes : List Outcome) → first_failing (round.tests old draw day numbers) ≡ None
    → are_in_order old.season (draws_so_far old) (record {
      number = draw;
      round = (draws_so_far old).rounds + 1;
      school = None;
      day = day;
      outcomes = outcomes;
      lots = round_lots old numbers;
    } ∷ []) ≡ true
unfolding round.tests
round-next old draw day numbers outcomes passes =
    let pass = passed (round.tests old draw day numbers) passes in
    let room = and_parts (nat_lt (draws_so_far old).draws most_draws) _ (pass refusal.RegisterFull) in
    let few = lots-few (round_pairs old) numbers in
    let most = leb-true _ _ room.1 in
    let fits : nat_le ((draws_so_far old).lots + length (round_lots old numbers)) (most_lots old.season.size) ≡ true = le-leb _ _ (omega (arith, few, most)) in
    let round_is : nat_lt 0 ((draws_so_far old).rounds + 1) ≡ true = lt-ltb 0 ((draws_so_far old).rounds + 1) (omega arith) in
    let numbered : (if nat_lt 0 ((draws_so_far old).rounds + 1) then nat_eq ((draws_so_far old).rounds + 1) ((draws_so_far old).rounds + 1) else nat_lt 0 (draws_so_far old).rounds) ≡ true =
    ap (λ b. if b then nat_eq ((draws_so_far old).rounds + 1) ((draws_so_far old).rounds + 1) else nat_lt 0 (draws_so_far old).rounds) round_is
    ∙ (unsigned_Decides ((draws_so_far old).rounds + 1) ((draws_so_far old).rounds + 1)).1 refl in
    λ i. (pass refusal.WrongDraw) i && numbered i && room.0 i && (pass refusal.TooSoon) i && (pass refusal.ListClosed) i && fits i && true
