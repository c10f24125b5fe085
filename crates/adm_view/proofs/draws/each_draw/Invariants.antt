use Rattle.std.proofs.Common.{◌≡◌, take, map}
use Rattle.serde_json.specs.View.{view}
use Rattle.adm_view.specs.Draws.{draw_data}
use Rattle.adm_view.proofs.draws.each_draw.Given as goal

-- those so far are those of as many draws
abbrev pub invariant-loop-index : goal.invariant-loop-index
invariant-loop-index l = map view l.made.items ≡ map draw_data (take l.index l.draws)
