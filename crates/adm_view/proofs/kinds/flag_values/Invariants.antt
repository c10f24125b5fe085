use Rattle.std.proofs.Common.{◌≡◌, map}
use Rattle.std.specs.Prelude.{filter}
use Rattle.serde_json.specs.View.{view}
use Rattle.adm_types.specs.Flags.{has_flag}
use Rattle.adm_view.specs.Writing.{number_data, numbers_below}
use Rattle.adm_view.proofs.kinds.flag_values.Given as goal

-- those so far are the flags below this number whose bits are set
abbrev pub invariant-loop-flag : goal.invariant-loop-flag
invariant-loop-flag l = map view l.flags.items ≡ map number_data (filter (has_flag l.bits) (numbers_below l.flag))
