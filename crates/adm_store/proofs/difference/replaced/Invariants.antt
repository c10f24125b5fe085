use Rattle.std.proofs.Common.{◌≡◌, take}
use Rattle.adm_store.specs.Schools.{replaced_of}
use Rattle.adm_store.proofs.difference.replaced.Given as goal

-- the codes so far
abbrev pub invariant-schools : goal.invariant-schools
invariant-schools l = l.codes.items ≡ replaced_of l.old.schools (take l.row-index l.schools)
