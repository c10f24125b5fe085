use Rattle.std.proofs.Common.{◌∙◌, sym}
use Rattle.adm_csv.proofs.HeaderLemmas.{no_header, other_header}
use Rattle.adm_csv.proofs.SourceLemmas.{source_more, source_none}
use Rattle.adm_csv.proofs.rows.take_header.Goals as goal

pub returns-then-is_header : goal.returns-then-is_header
returns-then-is_header c =
    let plain = c.requires in
    let step = rw (c.in-Some-Ok.is, c.in-Some-Ok.field-0-is) at ((c.next.ensures.steps plain.2 plain.0).0 plain.1) in
    let more = source_more c.args.records.now c.next.new.self c.in-Some-Ok.fields plain step in
    record { ok = (_, more.0, sym c.is_header.ensures ∙ c.if-is_header.true, more.1, c.len.ensures); err = tt }

pub returns-in-Some-Ok-clause-err : goal.returns-in-Some-Ok-clause-err
returns-in-Some-Ok-clause-err c =
    let plain = c.requires in
    let step = rw (c.in-Some-Ok.is, c.in-Some-Ok.field-0-is) at ((c.next.ensures.steps plain.2 plain.0).0 plain.1) in
    let more = source_more c.args.records.now c.next.new.self c.in-Some-Ok.fields plain step in
    other_header _ _ _ more.0 (sym c.is_header.ensures ∙ c.if-is_header.false)

pub returns-clause-err : goal.returns-clause-err
returns-clause-err c =
    let plain = c.requires in
    let step = rw c.in-None.is at ((c.next.ensures.steps plain.2 plain.0).0 plain.1) in
    no_header _ (source_none c.args.records.now c.next.new.self plain step)
