use Rattle.std.proofs.Common.{◌≡◌, take, string_bytes}
use Rattle.adm_rows.specs.Forms.{codes_text}
use Rattle.adm_rows.proofs.ListLemmas.{is_nil}
use Rattle.adm_rows.proofs.lists.codes_text.Given as goal

-- the text of the items so far
abbrev pub invariant-items : goal.invariant-items
invariant-items l = record { text : string_bytes l.text ≡ codes_text (take l.code-index l.codes); first : l.is_first ≡ is_nil (take l.code-index l.codes) }
