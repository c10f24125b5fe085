use Rattle.std.proofs.Common.{◌∙◌, sym}
use Rattle.adm_rows.proofs.CodeLemmas.{no_codes_read, text_of_codes}
use Rattle.adm_rows.proofs.reading.codes.codes_in.Goals as goal

pub returns-clause-ok : goal.returns-clause-ok
returns-clause-ok c = text_of_codes c.args.text.now c.in-Some.list (sym c.in-Ok.ensures ∙ c.in-Some.is)

pub returns-in_default-read-clause-bad : goal.returns-in_default-read-clause-bad
returns-in_default-read-clause-bad c structural list fit is = no_codes_read c.args.text.now list fit is (sym c.in-Ok.ensures ∙ c.in_default-read.is)
