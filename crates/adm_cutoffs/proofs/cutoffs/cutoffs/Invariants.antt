use Rattle.std.proofs.Common.{◌≡◌, take}
use Rattle.std.specs.List.{filter_map}
use Rattle.adm_types.specs.declared.rows.School.{School}
use Rattle.adm_cutoffs.specs.Lookups.{cutoff_in}
use Rattle.adm_cutoffs.proofs.cutoffs.cutoffs.Given as goal

-- those so far are the cutoffs of as many schools
abbrev pub invariant-loop-index : goal.invariant-loop-index
invariant-loop-index l = l.cutoffs.items ≡ filter_map (λ (school : School). cutoff_in l.keys school.code) (take l.index l.schools)
