use Rattle.std.proofs.Common.{◌≡◌, ◌∙◌, ◌<◌, ◌≤◌, ◌++◌, ℕ, true, List, length, take, Result, Ok, Err, MatchResult, sym, subst, arith, length-take, true≢false}
use Rattle.std.specs.Result.{is_err}
use Rattle.std.proofs.KnownBytes.{Consumes-trans}
use Rattle.adm_csv.specs.Ended.{enough}
use Rattle.adm_csv.proofs.ScanLemmas.{needed_more, taken_within, taken_whole}
use Rattle.adm_csv.proofs.input.read_text.Goals as goal
use Rattle.adm_csv.proofs.input.read_text.Goals.{else-loop-turn-test, then-loop-turn-test+else-scan-ge-ENOUGH+in-Ok+else-count-eq0+then-is_err}

failed : {A E : Type 0} (r : Result A E) (P : A → Type 0) (Q : Type 0) → is_err r ≡ true → MatchResult r P (λ _. Q) → Q
failed (Ok x) P Q is h = absurd (true≢false (sym is))
failed (Err e) P Q is h = h

short : (n : ℕ) (buffer : List ℕ) → n ≤ length buffer → length buffer ≡ 4096 → length (take n buffer) ≤ 4096
short n buffer fits is = let taken = length-take n buffer in omega (arith, taken, fits, is)

pub returns-clause-needed : goal.returns-clause-needed
returns-clause-needed g c =
    elim c.loop-turn-test.branch [
      | else-loop-turn-test w ↦ rw w.reader-is (c.loop-turn.scan.text.items, c.loop-turn.invariant.0, c.loop-turn.invariant.2)
      | then-loop-turn-test+else-scan-ge-ENOUGH+in-Ok+else-count-eq0+then-is_err w ↦
          let room : length w.read_some.new.buffer ≡ 4096 = w.read_some.auto.buffer ∙ c.loop-turn.invariant.4 in
          let piece = take w.in-Ok.count w.read_some.new.buffer in
          rw w.reader-is (
            c.loop-turn.scan.text.items ++ piece,
            Consumes-trans _ _ _ c.loop-turn.scan.text.items piece c.loop-turn.invariant.0 w.in-Ok.ensures.bytes.0,
            needed_more c.loop-turn.scan.text.items piece (subst (λ n. n < enough) c.loop-turn.invariant.1.2 w.if-scan-ge-ENOUGH.false)
                (short w.in-Ok.count w.read_some.new.buffer w.in-Ok.ensures.bound room),
          )
    ]

pub returns-clause-memory : goal.returns-clause-memory
returns-clause-memory g c = λ m.
    elim c.loop-turn-test.branch [
      | else-loop-turn-test w ↦ rw w.reader-is (taken_whole _ _ c.loop-turn.scan.text.items _ c.loop-turn.invariant.0 (rw w.scan-is c.loop-turn.invariant.1.2))
      | then-loop-turn-test+else-scan-ge-ENOUGH+in-Ok+else-count-eq0+then-is_err w ↦
          let is : is_err w.take_all.result ≡ true = sym w.is_err.ensures.value ∙ w.if-is_err.true in
          let part = failed w.take_all.result _ _ is w.take_all.ensures in
          let room : length w.read_some.new.buffer ≡ 4096 = w.read_some.auto.buffer ∙ c.loop-turn.invariant.4 in
          rw (w.reader-is, w.scan-is)
          (taken_within _ _ _ c.loop-turn.scan.text.items (take w.in-Ok.count w.read_some.new.buffer) part.0 _ c.loop-turn.invariant.0 w.in-Ok.ensures.bytes.0
          (short w.in-Ok.count w.read_some.new.buffer w.in-Ok.ensures.bound room) part.1.2)
    ]
