-- A run of lines, from the pieces that were read to the whole input, and how it ended.
use Rattle.std.proofs.Common.{◌≡◌, ℕ, ◌||◌, Bool, true, false, List, [], ◌∷◌, ◌++◌, length, take, Option, Some, None, Result, Ok, Err, IfOk, OnErr, IfErr, inl, inr, refl, sym, ap, ◌∙◌, arith}
use Rattle.std.specs.Io.KnownBytes.{Consumes, Keeps, IsAtEnd}
use Rattle.std.specs.List.{AllByRecursion}
use Rattle.std.proofs.Math.Seq.{take-length}
use Rattle.adm_desk.specs.declared.answer.LineAnswer.{LineAnswer}
use Rattle.adm_desk.specs.declared.run.Run.{Run}
use Rattle.adm_desk.specs.declared.run.RunFault.{RunFault}
use Rattle.adm_desk.specs.declared.run.RunFault.TheVariants.{Read, Write, Memory}
use Rattle.adm_wire.specs.Streams.{Stream}
use Rattle.adm_desk.specs.Lines.{lines_of, lines_ended, answers_text}
use Rattle.adm_desk.specs.Written.{Answered, Finished, AnsweredUpTo, Interrupted, InterruptedWithin, EndsAs, ReaderFailsBy, WriterFailsBy, OfWriter, Takes, Breaks, joined_lines, HasNoLineFeed, last_line}
use Rattle.adm_desk.proofs.CutLemmas.{lines_of-joined, lines_of-piece, ended-joined, ended-more, first_lines}
use Rattle.adm_desk.proofs.AnswerLemmas.{whole_beginning, Answered-then, Answered-interrupted}

-- ---- what was read, and the input

pub Consumes-kept : (a b c : Option (List ℕ)) (xs : List ℕ) → Consumes a b xs → Keeps b c → Consumes a c xs
Consumes-kept None b c xs p q = tt
Consumes-kept (Some start) None c xs p q = absurd p
Consumes-kept (Some start) (Some bs) None xs p q = absurd q
Consumes-kept (Some start) (Some bs) (Some cs) xs p q = p ∙ ap (λ zs. xs ++ zs) (sym q)

pub Consumes-end : (a b c : Option (List ℕ)) (xs : List ℕ) → Consumes a b xs → Consumes b c [] → Consumes a c xs
Consumes-end None b c xs p q = tt
Consumes-end (Some start) None c xs p q = absurd p
Consumes-end (Some start) (Some bs) None xs p q = absurd q
Consumes-end (Some start) (Some bs) (Some cs) xs p q = p ∙ ap (λ zs. xs ++ zs) q

-- ---- what failed

-- a read that failed
pub read_has_failed : (old new : Bool) → new ≡ (old || true) → new ≡ true
read_has_failed true new failed = failed
read_has_failed false new failed = failed

-- nothing failed before
pub writer_left : {A : Type 0} (r : Result A RunFault) (old mid new : Bool) → mid ≡ old → WriterFailsBy r mid new → WriterFailsBy r old new
writer_left (Ok x) old mid new same left = left ∙ same
writer_left (Err Read) old mid new same left = left ∙ same
writer_left (Err Write) old mid new same left = left
writer_left (Err Memory) old mid new same left = left ∙ same

pub reader_left : {A : Type 0} (r : Result A RunFault) (old new : Bool) → new ≡ old → IfErr r OfWriter → ReaderFailsBy r old new
reader_left (Ok x) old new same fault = same
reader_left (Err Read) old new same fault = absurd fault
reader_left (Err Write) old new same fault = same
reader_left (Err Memory) old new same fault = same

-- ---- whole lines

last_lines : (p : List ℕ) → HasNoLineFeed p → lines_of p ≡ last_line p
last_lines [] plain = refl
last_lines (b ∷ bs) plain = lines_of-piece b bs plain

all_lines : (ls : List (List ℕ)) (p : List ℕ) → AllByRecursion HasNoLineFeed ls → HasNoLineFeed p → lines_of (joined_lines ls ++ p) ≡ ls ++ last_line p
all_lines ls p plain rest = lines_of-joined ls p plain ∙ ap (λ zs. ls ++ zs) (last_lines p rest)

ended_lines : (ls : List (List ℕ)) (p : List ℕ) → AllByRecursion HasNoLineFeed ls → HasNoLineFeed p → take (lines_ended (joined_lines ls ++ p)) (lines_of (joined_lines ls ++ p)) ≡ ls
ended_lines ls p plain rest = rw (ended-joined ls p plain rest) (first_lines ls p plain)

-- ---- the ends of a run

pub finished_from : {D : Type 0} (runs : D → List ℕ → LineAnswer → D → Type 0) (old mid new : D) (u v w : Option (List ℕ)) (run ran : Run) (p bytes : List ℕ)
    → Takes runs old mid u v (record { done = 0; refused = 0; failed = false }) run [] p bytes → Answered runs mid new v w run ran (last_line p) → Finished runs old new u w ran (lines_of bytes)
finished_from {D} runs old mid new u v w run ran p bytes takes last =
    let plain = takes.cut.plain tt in
    let whole = Answered-then runs old mid new u v w _ run ran takes.lines (last_line p) takes.answered last in
    let lines : lines_of bytes ≡ takes.lines ++ last_line p = ap lines_of takes.cut.whole ∙ all_lines takes.lines p plain.0 plain.1 in
    rw lines record {
      answers = whole.answers;
      answered = whole.answered;
      written = whole.written;
      done = omega (arith, whole.counted.done);
      refused = omega (arith, whole.counted.refused);
      failed = whole.counted.failed;
    }

pub interrupted_from : {D : Type 0} (runs : D → List ℕ → LineAnswer → D → Type 0) (old mid new : D) (u v w left : Option (List ℕ)) (run ran : Run) (p bytes : List ℕ)
    → Takes runs old mid u v run ran [] p bytes → Interrupted runs mid new v w (last_line p) → IsAtEnd left → InterruptedWithin runs old new u w bytes left
interrupted_from runs old mid new u v w left run ran p bytes takes last end =
    let plain = takes.cut.plain tt in
    let lines : lines_of bytes ≡ takes.lines ++ last_line p = ap lines_of takes.cut.whole ∙ all_lines takes.lines p plain.0 plain.1 in
    record {
      count = length (lines_of bytes);
      within = inl end;
      interrupted = rw (take-length (lines_of bytes), lines) (Answered-interrupted runs old mid new u v w run ran takes.lines (last_line p) takes.answered last);
    }

pub broken_from : {D : Type 0} (runs : D → List ℕ → LineAnswer → D → Type 0) (old new : D) (u v left : Option (List ℕ)) (bytes : List ℕ)
    → Breaks runs old new u v [] bytes → InterruptedWithin runs old new u v bytes left
broken_from runs old new u v left bytes broken = record {
  count = length broken.lines;
  within = inr (rw broken.whole (ended-more broken.lines broken.more (broken.plain tt)));
  interrupted = rw (broken.whole, first_lines broken.lines broken.more (broken.plain tt)) broken.interrupted;
}

pub read_failed_from : {D : Type 0} (runs : D → List ℕ → LineAnswer → D → Type 0) (old new : D) (u v : Option (List ℕ)) (run ran : Run) (p bytes : List ℕ)
    → Takes runs old new u v run ran [] p bytes → AnsweredUpTo runs old new u v bytes
read_failed_from runs old new u v run ran p bytes takes =
    let plain = takes.cut.plain tt in
    let lines : take (lines_ended bytes) (lines_of bytes) ≡ takes.lines = ap (λ b. take (lines_ended b) (lines_of b)) takes.cut.whole ∙ ended_lines takes.lines p plain.0 plain.1 in
    record {
      answers = takes.answered.answers;
      answered = rw lines takes.answered.answered;
      written = takes.answered.written;
    }

-- no more reads are made: the lines that had ended were answered, and each answer was written whole
pub out_of_reads : {D : Type 0} (runs : D → List ℕ → LineAnswer → D → Type 0) (old new : D) (u v left : Option (List ℕ)) (run ran : Run) (p bytes : List ℕ)
    → Takes runs old new u v run ran [] p bytes → InterruptedWithin runs old new u v bytes left
out_of_reads runs old new u v left run ran p bytes takes =
    let plain = takes.cut.plain tt in
    let lines : take (lines_ended bytes) (lines_of bytes) ≡ takes.lines = ap (λ b. take (lines_ended b) (lines_of b)) takes.cut.whole ∙ ended_lines takes.lines p plain.0 plain.1 in
    record {
      count = lines_ended bytes;
      within = inr (omega arith);
      interrupted = rw lines record {
        answers = takes.answered.answers;
        text = answers_text takes.answered.answers;
        answered = takes.answered.answered;
        beginning = whole_beginning takes.answered.answers;
        written = takes.answered.written;
      };
    }

-- a run that read its input to the end, or that no error of the reader ended
pub ends_from : {D : Type 0} (runs : D → List ℕ → LineAnswer → D → Type 0) (old new : D) (input output : Stream) (had_failed : Bool) (r : Result Run RunFault)
    → IfOk r (λ run. IsAtEnd input.new × (bytes : List ℕ) × Consumes input.old input.new bytes × Finished runs old new output.old output.new run (lines_of bytes))
    → OnErr r ((bytes : List ℕ) × Consumes input.old input.new bytes × InterruptedWithin runs old new output.old output.new bytes input.new)
    → IfErr r OfWriter → WriterFailsBy r had_failed output.has_failed → EndsAs runs old new input output r
ends_from runs old new input output had_failed (Ok run) ok interrupted fault left = ok
ends_from runs old new input output had_failed (Err Read) ok interrupted fault left = absurd fault
ends_from runs old new input output had_failed (Err Write) ok interrupted fault left = (left, interrupted.0, interrupted.1, interrupted.2)
ends_from runs old new input output had_failed (Err Memory) ok interrupted fault left = interrupted
