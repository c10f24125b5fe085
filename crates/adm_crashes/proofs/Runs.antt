-- A run of commands goes on by one step.
use Rattle.std.proofs.Common.{List, [], ◌∷◌, ◌++◌, subst, refl, Result, Ok, Err, IfOk, OnErr}
use Rattle.adm_types.specs.declared.commands.Command.{Command}
use Rattle.adm_desk.specs.declared.answer.Answer.{Answer}
use Rattle.adm_crashes.specs.Steps.{IsRun}

-- step is a variable of each lemma
pub Run-more : {D : Type 0} (step : D → Command → Answer → D → Type 0) (old mid new : D) (cs : List Command) (answers : List Answer) (c : Command) (a : Answer)
    → IsRun step old cs answers mid → step mid c a new → IsRun step old (cs ++ c ∷ []) (answers ++ a ∷ []) new
Run-more {D} step old mid new [] [] c a run last = (new, (let P : D → Type 0 = λ h. step h c a new in subst P run last), refl)
Run-more step old mid new [] (b ∷ answers) c a run last = absurd run
Run-more step old mid new (d ∷ cs) [] c a run last = absurd run
Run-more step old mid new (d ∷ cs) (b ∷ answers) c a run last = (run.0, run.1, Run-more step run.0 mid new cs answers c a run.2 last)

pub either_way : {T E : Type 0} (r : Result T E) {P : T → Type 0} {Q R : Type 0} → IfOk r P → OnErr r Q → ((x : T) → P x → R) → (Q → R) → R
either_way (Ok x) ok err f g = f x ok
either_way (Err e) ok err f g = g err
