use Rattle.adm_days.proofs.Dates.{text_is}
use Rattle.adm_days.proofs.days.day_text.Goals as goal

pub returns : goal.returns
returns c = text_is c.text.result.bytes c.args.day c.text.ensures
