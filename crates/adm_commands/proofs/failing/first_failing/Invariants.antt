use Rattle.std.proofs.Common.{◌≡◌, drop}
use Rattle.adm_commands.specs.Tests.{first_failing}
use Rattle.adm_commands.proofs.failing.first_failing.Given as goal

-- the tests that remain decide
abbrev pub invariant-loop-passes : goal.invariant-loop-passes
invariant-loop-passes l = first_failing (drop l.passes-index l.tests) ≡ first_failing l.tests
