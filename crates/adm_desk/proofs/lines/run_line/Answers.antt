use Rattle.std.proofs.Common.{ℕ, List, [], ◌∷◌, ◌++◌, take, Option, refl, subst, sym}
use Rattle.std.specs.Io.KnownBytes.{Appends}
use Rattle.std.proofs.lemmas.List.{append-nil}
use Rattle.std.proofs.lemmas.Result.{on_ok_weaker, on_err_weaker}
use Rattle.adm_desk.specs.declared.answer.LineAnswer.{LineAnswer}
use Rattle.adm_desk.specs.declared.run.Run.{Run}
use Rattle.adm_desk.specs.Lines.{line_text}
use Rattle.adm_desk.specs.Written.{Answered, Interrupted, Counts}
use Rattle.adm_desk.proofs.lines.run_line.Goals as goal

one_answered : {D : Type 0} (runs : D → List ℕ → LineAnswer → D → Type 0) (old new : D) (w v : Option (List ℕ)) (run ran : Run) (line : List ℕ) (a : LineAnswer)
    → runs old line a new → Counts run ran (a ∷ []) → Appends w v (line_text a ++ 10 ∷ []) → Answered runs old new w v run ran (line ∷ [])
one_answered runs old new w v run ran line a by counts text = record {
  answers = a ∷ [];
  answered = (new, by, refl);
  written = (let P : List ℕ → Type 0 = λ t. Appends w v t in subst P (sym (append-nil (line_text a ++ 10 ∷ []))) text);
  counted = counts;
}

one_interrupted : {D : Type 0} (runs : D → List ℕ → LineAnswer → D → Type 0) (old new : D) (w v : Option (List ℕ)) (line : List ℕ) (a : LineAnswer)
    → runs old line a new → (n : ℕ) × Appends w v (take n (line_text a ++ 10 ∷ [])) → Interrupted runs old new w v (line ∷ [])
one_interrupted runs old new w v line a by part = record {
  answers = a ∷ [];
  text = take part.0 (line_text a ++ 10 ∷ []);
  answered = (new, by, refl);
  beginning = (part.0, rw (append-nil (line_text a ++ 10 ∷ [])) refl);
  written = part.1;
}

pub returns-clause-answered : goal.returns-clause-answered
returns-clause-answered g c =
    on_ok_weaker c.write_answer.result
    (λ text. one_answered g.H.LineHandler.runs _ _ _ _ _ _ c.args.line.now c.answer-answer.result c.answer-answer.ensures c.count.ensures text)
    c.write_answer.ensures.whole

pub returns-clause-interrupted : goal.returns-clause-interrupted
returns-clause-interrupted g c =
    on_err_weaker c.write_answer.result
    (λ part. one_interrupted g.H.LineHandler.runs _ _ _ _ c.args.line.now c.answer-answer.result c.answer-answer.ensures part)
    c.write_answer.ensures.part
