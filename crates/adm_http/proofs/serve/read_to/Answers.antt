use Rattle.std.proofs.Common.{length, sym, ap, subst, arith}
use Rattle.adm_http.specs.Reading.{MayNeedMore}
use Rattle.adm_http.proofs.StepLemmas.{read_step, failed_step, still}
use Rattle.adm_http.proofs.serve.read_to.Goals as goal

pub returns-then-count-eq0-clause-bytes : goal.returns-then-count-eq0-clause-bytes
returns-then-count-eq0-clause-bytes g c =
    let was = c.loop-reader.invariant.grown in
    let same = ap length was.2 in
    let on : MayNeedMore c.loop-reader.input.items =
    subst MayNeedMore (sym was.2) (c.requires.on.on was.0 (omega (arith, same, c.len.ensures, c.loop-reader-test.true))) in
    let more = c.in_ok-count.ensures.ok in
    let step = read_step _ _ _ c.args.input.now.items was.0 c.loop-reader.input.items more.0 c.read_more.new.input.items was.1 was.2 on more.1 more.2
    (omega (arith, more.3, more.4)) in
    (_, step.consumed, step.grown, step.near)

pub loop-reader-preserved : goal.loop-reader-preserved
loop-reader-preserved g c =
    let was = c.loop-reader.invariant.grown in
    let same = ap length was.2 in
    let on : MayNeedMore c.loop-reader.input.items =
    subst MayNeedMore (sym was.2) (c.requires.on.on was.0 (omega (arith, same, c.len.ensures, c.loop-reader-test.true))) in
    let more = c.in_ok-count.ensures.ok in
    let step = read_step _ _ _ c.args.input.now.items was.0 c.loop-reader.input.items more.0 c.read_more.new.input.items was.1 was.2 on more.1 more.2
    (omega (arith, more.3, more.4)) in
    record {
      grown = (_, step.consumed, step.grown);
      near = step.near;
      unfailed = still (g.R.Input.has_failed c.loop-reader.reader) _ _ c.in_ok-count.ensures.reader c.loop-reader.invariant.unfailed;
    }

pub returns-in_err-count-clause-bytes : goal.returns-in_err-count-clause-bytes
returns-in_err-count-clause-bytes g c =
    let was = c.loop-reader.invariant.grown in
    let less = c.in_err-count.ensures.err in
    let step = failed_step _ _ _ c.args.input.now.items was.0 c.loop-reader.input.items c.read_more.new.input.items was.1 was.2
    c.loop-reader.invariant.near less.2 less.1 in
    (_, step.consumed, step.grown, step.near)
