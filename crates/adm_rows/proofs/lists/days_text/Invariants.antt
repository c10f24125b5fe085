use Rattle.std.proofs.Common.{◌≡◌, map, take, string_bytes}
use Rattle.std.specs.Fmt.{decimal}
use Rattle.adm_rows.specs.Forms.{days_text}
use Rattle.adm_rows.proofs.ListLemmas.{is_nil}
use Rattle.adm_rows.proofs.lists.days_text.Given as goal

-- the text of the items so far
abbrev pub invariant-items : goal.invariant-items
invariant-items l = record { text : string_bytes l.text ≡ days_text (take l.day-index l.days); first : l.is_first ≡ is_nil (map decimal (take l.day-index l.days)) }
