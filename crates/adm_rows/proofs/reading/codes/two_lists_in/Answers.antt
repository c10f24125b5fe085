use Rattle.std.proofs.Common.{◌∙◌, sym}
use Rattle.adm_rows.proofs.CodeLemmas.{no_lists_read, text_of_lists}
use Rattle.adm_rows.proofs.reading.codes.two_lists_in.Goals as goal

pub returns-clause-ok : goal.returns-clause-ok
returns-clause-ok c = text_of_lists c.args.text.now c.in-Some.lists (sym c.in-Ok.ensures ∙ c.in-Some.is)

pub returns-in_default-read-clause-bad : goal.returns-in_default-read-clause-bad
returns-in_default-read-clause-bad c structural lists one more is = no_lists_read c.args.text.now lists one more is (sym c.in-Ok.ensures ∙ c.in_default-read.is)
