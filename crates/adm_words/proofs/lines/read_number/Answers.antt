use Rattle.std.proofs.Common.{◌∙◌}
use Rattle.adm_words.proofs.Numbers.{number_read}
use Rattle.adm_words.proofs.lines.read_number.Goals as goal

pub returns : goal.returns
returns c = c.ok.ensures.value ∙ number_read c.args.text.now c.parse.result c.parse.ensures.value.0
