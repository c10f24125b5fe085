-- Where no test of a command fails, each one passes: it is named by the refusal that it gives.
use Rattle.std.proofs.Common.{◌≡◌, refl, Bool, true, false, List, [], ◌∷◌, ◌++◌, None}
use Rattle.std.specs.Prelude.{⊤, nat_eq}
use Rattle.adm_types.specs.declared.commands.Refusal.{Refusal}
use Rattle.adm_types.specs.Refusals.{refusal_number}
use Rattle.adm_commands.specs.Tests.{first_failing, AllPass}

-- one of two types
abbrev Which : Bool → Type 0 → Type 0 → Type 0
Which true X Y = X
Which false X Y = Y

-- the first of the tests that gives this refusal passes
abbrev pub Passes : Refusal → List (Bool × Refusal) → Type 0
Passes reason [] = ⊤
Passes reason (test ∷ tests) = Which (nat_eq (refusal_number test.1) (refusal_number reason)) (test.0 ≡ true) (Passes reason tests)

-- where no test is the first that fails, all pass
all_pass : (tests : List (Bool × Refusal)) → first_failing tests ≡ None → AllPass tests
all_pass [] e = tt
all_pass ((true, reason) ∷ tests) e = (refl, all_pass tests e)
all_pass ((false, reason) ∷ tests) e = cc

passes_of : (reason : Refusal) (tests : List (Bool × Refusal)) → AllPass tests → Passes reason tests
passes_of reason [] all = tt
passes_of reason (test ∷ tests) all = which (nat_eq (refusal_number test.1) (refusal_number reason)) all.0 (passes_of reason tests all.1)
  where
    which : {X Y : Type 0} (b : Bool) → X → Y → Which b X Y
    which true x y = x
    which false x y = y

pub passed : (tests : List (Bool × Refusal)) → first_failing tests ≡ None → (reason : Refusal) → Passes reason tests
passed tests none reason = passes_of reason tests (all_pass tests none)

-- ---- tests of more than one command

pub passed_rest : (test : Bool × Refusal) (tests : List (Bool × Refusal)) → first_failing (test ∷ tests) ≡ None → first_failing tests ≡ None
passed_rest (true, reason) tests none = none
passed_rest (false, reason) tests none = cc

pub both_pass : (first second : List (Bool × Refusal)) → first_failing (first ++ second) ≡ None → (first_failing first ≡ None) × (first_failing second ≡ None)
both_pass [] second none = (refl, none)
both_pass ((true, reason) ∷ first) second none = both_pass first second none
both_pass ((false, reason) ∷ first) second none = cc
