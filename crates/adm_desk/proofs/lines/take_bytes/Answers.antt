use Rattle.std.proofs.Common.{ℕ, [], ◌∷◌, ◌++◌, ◌+◌, ◌<◌, ◌≡◌, List, length, take, drop, get_or, Err, sym, ap, ◌∙◌, arith}
use Rattle.std.proofs.lemmas.List.{take_more, take-append-drop}
use Rattle.std.proofs.lemmas.Result.{err_from_is_err_and}
use Rattle.adm_desk.specs.declared.run.Run.{Run}
use Rattle.adm_desk.proofs.AnswerLemmas.{Takes-then, Takes-breaks, Breaks-longer}
use Rattle.adm_desk.proofs.RunLemmas.{writer_left}
use Rattle.adm_desk.proofs.lines.take_bytes.Goals as goal

pub loop-byte-preserved : goal.loop-byte-preserved
loop-byte-preserved g c = (
  rw (take_more c.args.bytes.now c.loop-byte.byte-index 0 (omega arith))
      (Takes-then g.H.LineHandler.runs _ _ _ _ _ _ _ _ _ _ _ _ _ _ c.loop-byte.invariant.0 c.in_ok-take_byte.ensures.taken),
  c.in_ok-take_byte.ensures.writer ∙ c.loop-byte.invariant.1,
)

cut_at : (xs : List ℕ) (i : ℕ) → i < length xs → (take i xs ++ get_or xs i 0 ∷ []) ++ drop (i + 1) xs ≡ xs
cut_at xs i within = ap (λ ys. ys ++ drop (i + 1) xs) (sym (take_more xs i 0 within)) ∙ take-append-drop (i + 1) xs

pub returns-in_err-take_byte-clause-broken : goal.returns-in_err-take_byte-clause-broken
returns-in_err-take_byte-clause-broken g c =
    let p = err_from_is_err_and c.from_residual.result c.from_residual.ensures.1 in
    rw (p.1, ← cut_at c.args.bytes.now c.loop-byte.byte-index (omega arith))
    (Breaks-longer g.H.LineHandler.runs _ _ _ _ _ _ _ (Takes-breaks g.H.LineHandler.runs _ _ _ _ _ _ _ _ _ _ _ _ c.loop-byte.invariant.0 c.in_err-take_byte.ensures.broken))

pub returns-in_err-take_byte-clause-writer : goal.returns-in_err-take_byte-clause-writer
returns-in_err-take_byte-clause-writer g c =
    let p = err_from_is_err_and c.from_residual.result c.from_residual.ensures.1 in
    rw (p.1, p.2) (writer_left {A = Run} (Err _) _ _ _ c.loop-byte.invariant.1 c.in_err-take_byte.ensures.writer)
