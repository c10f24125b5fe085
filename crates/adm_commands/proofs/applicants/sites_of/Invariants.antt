use Rattle.std.proofs.Common.{◌≡◌, map, take, ◌-◌}
use Rattle.std.specs.Prelude.{count_by, nat_eq}
use Rattle.std.specs.Cmp.Lexicographic.{pointwise}
use Rattle.adm_commands.proofs.applicants.sites_of.Given as goal

-- the sites so far are those of as many schools
abbrev pub invariant-loop-index : goal.invariant-loop-index
invariant-loop-index l = l.found.items ≡ map (λ school. record { school = school; quota = school.pan - count_by (λ code. pointwise nat_eq code school.code) l.plans }) (take l.index l.schools)
