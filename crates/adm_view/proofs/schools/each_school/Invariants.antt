use Rattle.std.proofs.Common.{◌≡◌, take, map}
use Rattle.serde_json.specs.View.{view}
use Rattle.adm_view.specs.Schools.{school_data}
use Rattle.adm_view.proofs.schools.each_school.Given as goal

-- those so far are those of as many schools
abbrev pub invariant-loop-index : goal.invariant-loop-index
invariant-loop-index l = map view l.made.items ≡ map (school_data l.register) (take l.index l.schools)
