use Rattle.std.proofs.Common.{rules, ◌≡◌, ℕ, List, Bool, true, false, cond, Option, Some, None, Ok, Err, IsUtf8, refl, ap}
use Rattle.std.specs.Str.{is_utf8}
use Rattle.std.proofs.lemmas.Str.{IsUtf8-from_is_utf8, is_utf8-from_IsUtf8}
use Rattle.serde_json.specs.Data.{Data}
use Rattle.serde_json.specs.Read.{read}
use Rattle.adm_wire.specs.Commands.{json_of}
use Rattle.adm_wire.specs.Reading.{some_or}
use Rattle.adm_wire.specs.declared.fault.WireFault.TheVariants.{NotJson}
use Rattle.adm_wire.proofs.read.json.Goals as goal

json_read : (bytes : List ℕ) (d : Data) → IsUtf8 bytes × (read bytes ≡ Some d) → some_or NotJson (json_of bytes) ≡ Ok d
unfolding json_of
json_read bytes d h = rw (is_utf8-from_IsUtf8 bytes h.0, h.1) refl

none_at : (b : Bool) (o : Option Data) → (b ≡ true → o ≡ None) → cond b o None ≡ None
none_at true o none = none refl
none_at false o none = refl

json_refused : (bytes : List ℕ) → (IsUtf8 bytes → read bytes ≡ None) → some_or NotJson (json_of bytes) ≡ Err NotJson
unfolding json_of
json_refused bytes none =
    ap (some_or NotJson) (none_at (is_utf8 bytes) (read bytes) (λ utf8. none (IsUtf8-from_is_utf8 bytes utf8)))

pub returns-in-Ok : goal.returns-in-Ok
returns-in-Ok c = json_read c.args.bytes.now _ c.in-Ok.ensures.ok

pub returns-else-is_memory : goal.returns-else-is_memory
returns-else-is_memory c = json_refused c.args.bytes.now (c.in-Err.ensures.err (search rules))
