use Rattle.std.proofs.Common.{rules, refl, ◌∙◌, ◌||◌, Bool, true, false, Err, ◌≡◌, [], ◌++◌, take}
use Rattle.std.proofs.lemmas.Result.{IfOk-weaker, on_err_weaker, err_from_is_err_and}
use Rattle.adm_desk.specs.declared.run.Run.{Run}
use Rattle.adm_desk.proofs.Known.{Consumes-nothing, Consumes-then}
use Rattle.adm_desk.proofs.AnswerLemmas.{Takes-nothing, Takes-then, Takes-breaks}
use Rattle.adm_desk.proofs.RunLemmas.{Consumes-kept, Consumes-end, read_has_failed, out_of_reads, finished_from, interrupted_from, broken_from, read_failed_from, ends_from, writer_left, reader_left}
use Rattle.adm_desk.proofs.lines.run_lines.Goals as goal

pub loop-turn-init : goal.loop-turn-init
loop-turn-init g c =
    rw c.new-pending.ensures.items
    ([], Consumes-nothing _, Takes-nothing g.H.LineHandler.runs _ _ _ [], refl, refl)

goes_on : (old new : Bool) → new ≡ (old || false) → new ≡ old
goes_on false new same = same
goes_on true new same = same

pub loop-turn-preserved : goal.loop-turn-preserved
loop-turn-preserved g c =
    let i = c.loop-turn.invariant in (
      i.0 ++ take c.in-Ok.count c.read_some.new.buffer,
      Consumes-then _ _ _ i.0 _ i.1 c.in-Ok.ensures.bytes.0,
      Takes-then g.H.LineHandler.runs _ _ _ _ _ _ _ _ _ _ _ _ i.0 _ i.2 c.in_ok-take_bytes.ensures.taken,
      c.in_ok-take_bytes.ensures.writer ∙ i.3,
      goes_on _ _ c.in-Ok.ensures.fails ∙ i.4,
    )

pub returns-in-Err-clause-ends : goal.returns-in-Err-clause-ends
returns-in-Err-clause-ends g c =
    let i = c.loop-turn.invariant in (
      read_has_failed _ _ c.in-Err.ensures.fails,
      i.0,
      Consumes-kept _ _ _ i.0 i.1 c.in-Err.ensures.bytes,
      read_failed_from g.H.LineHandler.runs _ _ _ _ _ _ _ i.0 i.2,
    )

pub returns-then-count-eq0-clause-ends : goal.returns-then-count-eq0-clause-ends
returns-then-count-eq0-clause-ends g c =
    let i = c.loop-turn.invariant in
    let reads = rw c.if-count-eq0.true at c.in-Ok.ensures.bytes in
    let end = reads.1 (search rules) (search rules) in
    ends_from g.H.LineHandler.runs _ _ _ _ _ c.finish.result
    (IfOk-weaker c.finish.result _ _
    (λ ran last. (end, i.0, Consumes-end _ _ _ i.0 i.1 reads.0, finished_from g.H.LineHandler.runs _ _ _ _ _ _ _ ran _ i.0 i.2 last))
    (rw c.as_slice.ensures.value at c.finish.ensures.answered))
    (on_err_weaker c.finish.result
    (λ last. (i.0, Consumes-end _ _ _ i.0 i.1 reads.0, interrupted_from g.H.LineHandler.runs _ _ _ _ _ _ _ _ _ _ i.0 i.2 last end))
    (rw c.as_slice.ensures.value at c.finish.ensures.interrupted))
    c.finish.ensures.fault
    c.finish.ensures.writer

pub returns-in_err-take_bytes-clause-ends : goal.returns-in_err-take_bytes-clause-ends
returns-in_err-take_bytes-clause-ends g c =
    let i = c.loop-turn.invariant in
    let bytes = i.0 ++ take c.in-Ok.count c.read_some.new.buffer in
    let p = err_from_is_err_and c.from_residual.result c.from_residual.ensures.1 in
    rw (p.1, p.2) (ends_from g.H.LineHandler.runs _ _ _ _ _ (Err _) tt (
      bytes,
      Consumes-then _ _ _ i.0 _ i.1 c.in-Ok.ensures.bytes.0,
      broken_from g.H.LineHandler.runs _ _ _ _ _ bytes (Takes-breaks g.H.LineHandler.runs _ _ _ _ _ _ _ _ _ _ i.0 _ i.2 c.in_err-take_bytes.ensures.broken),
    )
    c.in_err-take_bytes.ensures.fault
    c.in_err-take_bytes.ensures.writer)

pub returns-clause-ends : goal.returns-clause-ends
returns-clause-ends g c =
    let i = c.loop-turn.invariant in
    (i.0, i.1, out_of_reads g.H.LineHandler.runs _ _ _ _ _ _ _ _ i.0 i.2)

pub returns-in-Err-clause-reader : goal.returns-in-Err-clause-reader
returns-in-Err-clause-reader g c = read_has_failed _ _ c.in-Err.ensures.fails

pub returns-clause-reader : goal.returns-clause-reader
returns-clause-reader g c = c.loop-turn.invariant.4

pub returns-in-Err-clause-writer : goal.returns-in-Err-clause-writer
returns-in-Err-clause-writer g c = c.loop-turn.invariant.3

pub returns-then-count-eq0-clause-writer : goal.returns-then-count-eq0-clause-writer
returns-then-count-eq0-clause-writer g c = writer_left c.finish.result _ _ _ c.loop-turn.invariant.3 c.finish.ensures.writer

pub returns-then-count-eq0-clause-reader : goal.returns-then-count-eq0-clause-reader
returns-then-count-eq0-clause-reader g c = reader_left c.finish.result _ _ (goes_on _ _ c.in-Ok.ensures.fails ∙ c.loop-turn.invariant.4) c.finish.ensures.fault

pub returns-in_err-take_bytes-clause-writer : goal.returns-in_err-take_bytes-clause-writer
returns-in_err-take_bytes-clause-writer g c =
    let p = err_from_is_err_and c.from_residual.result c.from_residual.ensures.1 in
    rw (p.1, p.2) (writer_left {A = Run} (Err _) _ _ _ c.loop-turn.invariant.3 c.in_err-take_bytes.ensures.writer)

pub returns-in_err-take_bytes-clause-reader : goal.returns-in_err-take_bytes-clause-reader
returns-in_err-take_bytes-clause-reader g c =
    let p = err_from_is_err_and c.from_residual.result c.from_residual.ensures.1 in
    rw (p.1, p.2) (reader_left {A = Run} (Err _) _ _ (goes_on _ _ c.in-Ok.ensures.fails ∙ c.loop-turn.invariant.4) c.in_err-take_bytes.ensures.fault)

pub returns-clause-writer : goal.returns-clause-writer
returns-clause-writer g c = c.loop-turn.invariant.3
