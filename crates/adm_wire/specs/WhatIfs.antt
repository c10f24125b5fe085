-- What bytes say: a question what a child would be allotted by another list, or the first error.
use Rattle.std.specs.Prelude.{ℕ, List, Result, Ok}
use Rattle.serde_json.specs.Data.{Data}
use Rattle.serde_json.specs.Find.{as_object}
use Rattle.adm_wire.specs.Commands.{json_of}
use Rattle.adm_wire.specs.declared.fault.WireFault.{WireFault}
use Rattle.adm_wire.specs.declared.fault.WireFault.TheVariants.{NotJson, WrongKind}
use Rattle.adm_wire.specs.declared.what_if.WhatIf.{WhatIf}
use Rattle.adm_fields.specs.Lists.{child_and, preferences_and}
use Rattle.adm_wire.specs.Forms.{json, no_fields, lots_and, alone}
use Rattle.adm_wire.specs.Reading.{◌>>=◌, some_or}

-- its fields, in the order in which they are tested, and no further key
unfoldable pub what_if_form : Data → Result WhatIf WireFault
what_if_form d = alone (child_and json (lots_and (preferences_and json no_fields))) d >>= λ v. Ok (record { child = v.0; lots = v.1.0; preferences = v.1.1.0 })

-- the question of JSON data
unfoldable pub what_if_in : Data → Result WhatIf WireFault
what_if_in d = do
  ms ← some_or WrongKind (as_object d)
  what_if_form d

-- the question of bytes
unfoldable pub what_if_of : List ℕ → Result WhatIf WireFault
what_if_of bytes = do
  d ← some_or NotJson (json_of bytes)
  what_if_in d
