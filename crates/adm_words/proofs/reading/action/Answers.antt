use Rattle.std.proofs.Common.{ℕ, List, Bor, map, ◌∙◌, sym}
use Rattle.adm_words.proofs.HasLine.{has_line}
use Rattle.adm_words.proofs.ProgramLemmas.{no_fault, finds, refuses, reads_from, met}
use Rattle.adm_words.proofs.reading.action.Goals as goal

pub read_line-requires : goal.read_line-requires
read_line-requires c =
    let q = c.in_ok-command.ensures.app in
    let arguments : List (List ℕ) = map (λ (w : Bor (List ℕ)). w.now) c.args.arguments.now in
    let found = finds _ q.0 arguments c.in-Ok.matches q.1 q.2 c.in-Ok.ensures.matches in
    has_line q.0 q.1 arguments c.in-Some.name.now _ (no_fault _ q.0 arguments q.1 q.2 c.in-Ok.ensures.kinds)
    (sym found ∙ met _ _ _ _ _ c.in-Some.ensures.name c.in-Some.ensures.rows)

pub returns-in-Some-clause-reads : goal.returns-in-Some-clause-reads
returns-in-Some-clause-reads c =
    let q = c.in_ok-command.ensures.app in
    let arguments : List (List ℕ) = map (λ (w : Bor (List ℕ)). w.now) c.args.arguments.now in
    let found = finds _ q.0 arguments c.in-Ok.matches q.1 q.2 c.in-Ok.ensures.matches in
    reads_from q.0 arguments c.read_line.result c.in-Some.name.now _ q.1 (no_fault _ q.0 arguments q.1 q.2 c.in-Ok.ensures.kinds)
    (sym found ∙ met _ _ _ _ _ c.in-Some.ensures.name c.in-Some.ensures.rows) c.read_line.ensures.reads

pub returns-clause-reads : goal.returns-clause-reads
returns-clause-reads c =
    let q = c.in_ok-command.ensures.app in
    let arguments : List (List ℕ) = map (λ (w : Bor (List ℕ)). w.now) c.args.arguments.now in
    refuses _ q.0 arguments c.in-Err.error q.1 q.2 c.in-Err.ensures.kinds (λ h. c.in_default.not-OutOfMemory (c.kind.ensures ∙ h))
