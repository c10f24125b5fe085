use Rattle.std.proofs.Common.{◌∙◌, ap}
use Rattle.jiff.specs.Words.{parse_date}
use Rattle.adm_lists.proofs.Options.{if_none_weaker}
use Rattle.adm_types.proofs.DayTexts.{none_read, none_unread, named_read, named_unread}
use Rattle.adm_types.proofs.days.Day.parse.Goals as goal

pub returns-in-Ok-clause-none : goal.returns-in-Ok-clause-none
returns-in-Ok-clause-none c =
    if_none_weaker _ _ c.written.result c.written.ensures.none (none_read c.args.text.now c.in-Ok.date (c.in-Ok.ensures ∙ ap parse_date c.as_bytes.ensures.value))

pub returns-in-Err-clause-none : goal.returns-in-Err-clause-none
returns-in-Err-clause-none c = none_unread c.args.text.now c.in-Err.field-0 (c.in-Err.ensures ∙ ap parse_date c.as_bytes.ensures.value)

pub returns-in-Ok-clause-reads : goal.returns-in-Ok-clause-reads
returns-in-Ok-clause-reads c = c.written.ensures.reads ∙ named_read c.args.text.now c.in-Ok.date (c.in-Ok.ensures ∙ ap parse_date c.as_bytes.ensures.value)

pub returns-in-Err-clause-reads : goal.returns-in-Err-clause-reads
returns-in-Err-clause-reads c = named_unread c.args.text.now c.in-Err.field-0 (c.in-Err.ensures ∙ ap parse_date c.as_bytes.ensures.value)
