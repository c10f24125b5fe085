use Rattle.std.proofs.Common.{◌≡◌, ◌∙◌, ◌+◌, sym, rules, true, subst, arith}
use Rattle.std.specs.Result.{is_ok}
use Rattle.adm_csv.specs.Remaining.{remaining_of}
use Rattle.adm_csv.proofs.RowLemmas.{HasRows, rows_begin, rows_read, rows_so_far, row_reached, row_fault, rows_end}
use Rattle.adm_csv.proofs.SourceLemmas.{source_more, source_none}
use Rattle.adm_csv.proofs.rows.rows_from.Goals as goal

pub loop-record-init : goal.loop-record-init
loop-record-init c = rw c.into_iter-record-iterator.ensures.into_iter_gives (c.requires, omega arith, rows_begin _ _ _ c.new-rows.ensures.items)

pub returns-in_default-clause-memory : goal.returns-in_default-clause-memory
returns-in_default-clause-memory c = λ m. row_reached _ _ _ _ _ c.loop-record.invariant.2

pub returns-then-is_err-clause-memory : goal.returns-then-is_err-clause-memory
returns-then-is_err-clause-memory c = λ m. row_reached _ _ _ _ _ c.loop-record.invariant.2

pub returns-in-Err : goal.returns-in-Err
returns-in-Err c =
    let plain = c.loop-record.invariant.0 in
    let has = c.loop-record.invariant.2 in
    let step = rw (c.in-Some.is, c.in-Ok.is) at ((c.next.ensures.steps plain.2 plain.0).0 plain.1) in
    let more = source_more c.loop-record.record-iterator c.next.new.self c.in-Ok.fields plain step in
    record {
      reads = row_fault c.args.width c.loop-record.rows.items (c.loop-record.number + 1) _ _ _ _ c.in-Err.fault more.0 (rows_so_far _ _ _ _ _ has) c.in-Err.ensures.reads;
      memory = λ m. row_reached _ _ _ _ _ has;
    }

pub loop-record-preserved : goal.loop-record-preserved
loop-record-preserved c =
    let plain = c.loop-record.invariant.0 in
    let step = rw (c.in-Some.is, c.in-Ok.is) at ((c.next.ensures.steps plain.2 plain.0).0 plain.1) in
    let more = source_more c.loop-record.record-iterator c.next.new.self c.in-Ok.fields plain step in
    let good : is_ok c.push.result ≡ true = search rules in
    let items = rw good at c.push.ensures.items in (
      more.1,
      c.in-Ok-row_at.ensures.upper,
      subst (HasRows c.args.width (remaining_of c.args.records) (c.loop-record.number + 1) (remaining_of c.next.new.self)) (sym items)
          (rows_read _ _ _ _ _ _ _ c.in-Ok-row_at.row c.loop-record.invariant.2 more.0 c.in-Ok-row_at.ensures.reads),
    )

pub returns : goal.returns
returns c =
    let plain = c.loop-record.invariant.0 in
    let has = c.loop-record.invariant.2 in
    let step = rw c.in-None.is at ((c.next.ensures.steps plain.2 plain.0).0 plain.1) in
    record {
      reads = sym (rows_so_far _ _ _ _ _ has) ∙ rows_end c.args.width c.loop-record.rows.items (c.loop-record.number + 1) _ (source_none c.loop-record.record-iterator c.next.new.self plain step);
      memory = tt;
    }
