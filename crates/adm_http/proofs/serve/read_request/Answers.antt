use Rattle.std.proofs.Common.{◌≡◌, ◌<◌, ◌≤◌, ◌||◌, Bool, true, false, length, inl, inr, ⊎_elim, arith}
use Rattle.std.proofs.lemmas.Result.{err_from_is_err_and}
use Rattle.adm_http.specs.declared.heads.Judgement.TheVariants.{Whole, Malformed, Unfinished}
use Rattle.adm_http.proofs.StepLemmas.{consumed_on, judged_same, head_goes_on, still}
use Rattle.adm_http.proofs.serve.read_request.Goals as goal

-- a flag that was kept
kept : (b d : Bool) → d ≡ b → d ≡ (b || false)
kept true d e = e
kept false d e = e

-- the head is whole

pub returns-in-Whole-clause-ok : goal.returns-in-Whole-clause-ok
returns-in-Whole-clause-ok g c =
    let more = c.in_ok-read_body-in-Whole.ensures.bytes in
    let judged = rw c.deref.ensures.value at c.in-Whole.ensures.judged in
    let inside = rw c.deref.ensures.value at c.in-Whole.ensures.inside in
    let same = judged_same c.loop-len.input.items more.0 c.read_body.new.input.items c.in-Whole.len c.in-Whole.verdict judged inside more.2 in
    record {
      consumed = consumed_on _ _ _ c.loop-len.input.items more.0 _ c.loop-len.invariant.consumed more.1 more.2;
      near = more.3;
      stopped = ⊎_elim (λ body. inl (Whole c.in-Whole.len c.in-Whole.verdict, same.0, body)) (λ end. inr end) c.in_ok-read_body-in-Whole.ensures.stopped;
    }

pub returns-in-Whole-clause-judged : goal.returns-in-Whole-clause-judged
returns-in-Whole-clause-judged g c =
    let judged = rw c.deref.ensures.value at c.in-Whole.ensures.judged in
    let inside = rw c.deref.ensures.value at c.in-Whole.ensures.inside in
    let more = c.in_ok-read_body-in-Whole.ensures.bytes in
    judged_same c.loop-len.input.items more.0 c.read_body.new.input.items c.in-Whole.len c.in-Whole.verdict judged inside more.2

pub returns-in_err-read_body-in-Whole-clause-err : goal.returns-in_err-read_body-in-Whole-clause-err
returns-in_err-read_body-in-Whole-clause-err g c =
    let less = c.in_err-read_body-in-Whole.ensures.bytes in
    let p = err_from_is_err_and c.from_residual.result c.from_residual.ensures.1 in
    rw (p.1, p.2) (
      c.in_err-read_body-in-Whole.ensures.stopped,
      (
        c.read_body.new.input.items,
        record { consumed = consumed_on _ _ _ c.loop-len.input.items less.0 _ c.loop-len.invariant.consumed less.1 less.2; near = less.3 },
      ),
    )

-- no head can come

pub returns-in-Malformed-clause-ok : goal.returns-in-Malformed-clause-ok
returns-in-Malformed-clause-ok g c =
    let judged = rw c.deref.ensures.value at c.in-Malformed.ensures.judged in
    record { consumed = c.loop-len.invariant.consumed; near = c.loop-len.invariant.near; stopped = inl (Malformed, judged, tt) }

pub returns-in-Malformed-clause-judged : goal.returns-in-Malformed-clause-judged
returns-in-Malformed-clause-judged g c =
    let judged = rw c.deref.ensures.value at c.in-Malformed.ensures.judged in
    (judged, tt)

-- there is none yet, in as many bytes as a head may have

pub returns-then-len-ge-HEAD_LIMIT-clause-ok : goal.returns-then-len-ge-HEAD_LIMIT-clause-ok
returns-then-len-ge-HEAD_LIMIT-clause-ok g c =
    let judged = rw c.deref.ensures.value at c.in-Unfinished.ensures.judged in
    let full : 8192 ≤ length c.loop-len.input.items = omega (arith, c.len.ensures, c.if-len-ge-HEAD_LIMIT.true) in
    record { consumed = c.loop-len.invariant.consumed; near = c.loop-len.invariant.near; stopped = inl (Unfinished, judged, full) }

pub returns-then-len-ge-HEAD_LIMIT-clause-judged : goal.returns-then-len-ge-HEAD_LIMIT-clause-judged
returns-then-len-ge-HEAD_LIMIT-clause-judged g c =
    let judged = rw c.deref.ensures.value at c.in-Unfinished.ensures.judged in
    (judged, tt)

pub returns-then-len-ge-HEAD_LIMIT-clause-reader : goal.returns-then-len-ge-HEAD_LIMIT-clause-reader
returns-then-len-ge-HEAD_LIMIT-clause-reader g c = kept (g.R.Input.has_failed c.args.reader.now) _ c.loop-len.invariant.unfailed

-- there may come one

pub read_to-requires-clause-on : goal.read_to-requires-clause-on
read_to-requires-clause-on g c =
    let judged = rw c.deref.ensures.value at c.in-Unfinished.ensures.judged in
    let short : length c.loop-len.input.items < 8192 = omega (arith, c.len.ensures, c.if-len-ge-HEAD_LIMIT.false) in
    head_goes_on c.loop-len.input.items _ judged short (omega (arith, c.len-total.ensures))

pub loop-len-preserved : goal.loop-len-preserved
loop-len-preserved g c =
    let more = c.in_ok-is_reached-in-Unfinished.ensures.bytes in
    record {
      consumed = consumed_on _ _ _ c.loop-len.input.items more.0 _ c.loop-len.invariant.consumed more.1 more.2;
      near = more.3;
      unfailed = still (g.R.Input.has_failed c.loop-len.reader) _ _ c.in_ok-is_reached-in-Unfinished.ensures.reader c.loop-len.invariant.unfailed;
    }

pub returns-then-not-is_reached-clause-ok : goal.returns-then-not-is_reached-clause-ok
returns-then-not-is_reached-clause-ok g c =
    let more = c.in_ok-is_reached-in-Unfinished.ensures.bytes in
    let end = rw c.if-not-is_reached.true at c.in_ok-is_reached-in-Unfinished.ensures.reached in
    record {
      consumed = consumed_on _ _ _ c.loop-len.input.items more.0 _ c.loop-len.invariant.consumed more.1 more.2;
      near = more.3;
      stopped = inr end;
    }

pub returns-then-not-is_reached-clause-judged : goal.returns-then-not-is_reached-clause-judged
returns-then-not-is_reached-clause-judged g c =
    let judged = rw c.deref-then-not-is_reached.ensures.value at c.judge-judgement.ensures.judged in
    let inside = rw c.deref-then-not-is_reached.ensures.value at c.judge-judgement.ensures.inside in
    (judged, inside)

pub returns-in_err-is_reached-in-Unfinished-clause-err : goal.returns-in_err-is_reached-in-Unfinished-clause-err
returns-in_err-is_reached-in-Unfinished-clause-err g c =
    let less = c.in_err-is_reached-in-Unfinished.ensures.bytes in
    let p = err_from_is_err_and c.from_residual-in_err-is_reached-in-Unfinished.result c.from_residual-in_err-is_reached-in-Unfinished.ensures.1 in
    rw (p.1, p.2) (
      c.in_err-is_reached-in-Unfinished.ensures.reached,
      (
        c.read_to.new.input.items,
        record { consumed = consumed_on _ _ _ c.loop-len.input.items less.0 _ c.loop-len.invariant.consumed less.1 less.2; near = less.3 },
      ),
    )
