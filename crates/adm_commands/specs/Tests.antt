-- The tests of a command, in their order, each with the refusal that it gives where it fails.
use Rattle.std.specs.Prelude.{◌≡◌, ⊤, Bool, true, List, [], ◌∷◌, Option, Some, None, if◌then◌else◌}
use Rattle.adm_types.specs.declared.commands.Refusal.{Refusal}

-- the refusal of the first test that fails
abbrev pub first_failing : List (Bool × Refusal) → Option Refusal
first_failing [] = None
first_failing (test ∷ tests) = if test.0 then first_failing tests else Some test.1

-- no test fails
abbrev pub AllPass : List (Bool × Refusal) → Type 0
AllPass [] = ⊤
AllPass (test ∷ tests) = (test.0 ≡ true) × AllPass tests
