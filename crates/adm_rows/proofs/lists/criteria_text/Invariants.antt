use Rattle.std.proofs.Common.{◌≡◌, map, take, string_bytes}
use Rattle.adm_types.specs.Criteria.{criterion_text}
use Rattle.adm_rows.specs.Forms.{criteria_text}
use Rattle.adm_rows.proofs.ListLemmas.{is_nil}
use Rattle.adm_rows.proofs.lists.criteria_text.Given as goal

-- the text of the items so far
abbrev pub invariant-items : goal.invariant-items
invariant-items l = record { text : string_bytes l.text ≡ criteria_text (take l.item-index l.criteria); first : l.is_first ≡ is_nil (map criterion_text (take l.item-index l.criteria)) }
