-- The keys of an object.
use Rattle.std.proofs.Common.{◌≡◌, List, [], ◌∷◌, refl, String, Global, string_bytes, ap, ◌&&◌, ℕ}
use Rattle.std.specs.List.{list_all}
use Rattle.std.specs.Map.{keys_of}
use Rattle.serde_json.specs.View.{members_view}
use Rattle.serde_json.specs.declared.value.Value.{Value}
use Rattle.adm_wire.specs.Kinds.{member_keys, is_one_of}

pub all_known : (known : List (List ℕ)) (es : List (String Global × Value))
    → list_all (λ key. is_one_of known (string_bytes key)) (keys_of es) ≡ list_all (is_one_of known) (member_keys (members_view es))
all_known known [] = refl
all_known known (e ∷ es) = ap (λ b. is_one_of known (string_bytes e.0) && b) (all_known known es)
