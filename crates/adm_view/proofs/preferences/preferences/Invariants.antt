use Rattle.std.proofs.Common.{◌≡◌, take, map}
use Rattle.serde_json.specs.View.{view}
use Rattle.adm_view.specs.Children.{preference_data}
use Rattle.adm_view.proofs.preferences.preferences.Given as goal

-- those so far are those of as many schools
abbrev pub invariant-loop-school : goal.invariant-loop-school
invariant-loop-school l = map view l.made.items ≡ map (preference_data l.register l.child) (take l.school-index l.list)
