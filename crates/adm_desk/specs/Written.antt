-- What a call over a reader and a writer did.
use Rattle.std.specs.Prelude.{◌≡◌, ◌≢◌, ◌⊎◌, ◌≤◌, ℕ, ◌+◌, ◌-◌, ◌^◌, ◌||◌, min, max, List, [], ◌∷◌, ◌++◌, Bool, true, Option, Result, Ok, Err, length, take, drop, count_by}
use Rattle.std.specs.List.{list_any, flat_map, AllByRecursion}
use Rattle.std.specs.Io.KnownBytes.{Appends, Consumes, IsAtEnd}
use Rattle.adm_wire.specs.Streams.{Stream}
use Rattle.adm_desk.specs.declared.answer.LineAnswer.{LineAnswer}
use Rattle.adm_desk.specs.declared.run.Run.{Run}
use Rattle.adm_desk.specs.declared.run.RunFault.{RunFault}
use Rattle.adm_desk.specs.declared.run.RunFault.TheVariants.{Read, Write, Memory}
use Rattle.adm_desk.specs.Lines.{AnswersLines, lines_of, lines_ended, answers_text, is_done, is_refused, is_failed}

-- a count that saturates at the largest number
abbrev pub counted : ℕ → ℕ → ℕ
counted old n = max old (min (old + n) (2 ^ 64 - 1))

-- the counts have grown by those of these answers
pub record Counts (old new : Run) (answers : List LineAnswer) : Type 0 where
  pub done : new.done ≡ counted old.done (count_by is_done answers)
  pub refused : new.refused ≡ counted old.refused (count_by is_refused answers)
  pub failed : new.failed ≡ (old.failed || list_any is_failed answers)

-- the answers but for a part of the last one
abbrev pub IsBeginning : List LineAnswer → List ℕ → Type 0
IsBeginning answers text = (n : ℕ) × (text ≡ answers_text (take (length answers - 1) answers) ++ take n (answers_text (drop (length answers - 1) answers)))

-- the lines were answered, each answer was written whole, and the counts are theirs
pub record Answered {D : Type 0} (runs : D → List ℕ → LineAnswer → D → Type 0) (old new : D) (old_text new_text : Option (List ℕ)) (old_run new_run : Run) (lines : List (List ℕ)) : Type 0 where
  pub answers : List LineAnswer
  pub answered : AnswersLines runs old lines answers new
  pub written : Appends old_text new_text (answers_text answers)
  pub counted : Counts old_run new_run answers

-- the lines were answered, each answer was written whole, and the run counts them
pub record Finished {D : Type 0} (runs : D → List ℕ → LineAnswer → D → Type 0) (old new : D) (old_text new_text : Option (List ℕ)) (run : Run) (lines : List (List ℕ)) : Type 0 where
  pub answers : List LineAnswer
  pub answered : AnswersLines runs old lines answers new
  pub written : Appends old_text new_text (answers_text answers)
  pub done : run.done ≡ min (count_by is_done answers) (2 ^ 64 - 1)
  pub refused : run.refused ≡ min (count_by is_refused answers) (2 ^ 64 - 1)
  pub failed : run.failed ≡ list_any is_failed answers

-- The reader failed after these bytes: the lines that had ended were answered, and their answers written.
pub record AnsweredUpTo {D : Type 0} (runs : D → List ℕ → LineAnswer → D → Type 0) (old new : D) (old_text new_text : Option (List ℕ)) (bytes : List ℕ) : Type 0 where
  pub answers : List LineAnswer
  pub answered : AnswersLines runs old (take (lines_ended bytes) (lines_of bytes)) answers new
  pub written : Appends old_text new_text (answers_text answers)

-- the lines were answered, and the answers were written but for a part of the last one
pub record Interrupted {D : Type 0} (runs : D → List ℕ → LineAnswer → D → Type 0) (old new : D) (old_text new_text : Option (List ℕ)) (lines : List (List ℕ)) : Type 0 where
  pub answers : List LineAnswer
  pub text : List ℕ
  pub answered : AnswersLines runs old lines answers new
  pub beginning : IsBeginning answers text
  pub written : Appends old_text new_text text

-- An error of the writer or of memory, after these bytes: some first lines of them were answered, and one without LF only at the end of the input.
pub record InterruptedWithin {D : Type 0} (runs : D → List ℕ → LineAnswer → D → Type 0) (old new : D) (old_text new_text : Option (List ℕ)) (bytes : List ℕ) (left : Option (List ℕ)) : Type 0 where
  pub count : ℕ
  pub within : IsAtEnd left ⊎ (count ≤ lines_ended bytes)
  pub interrupted : Interrupted runs old new old_text new_text (take count (lines_of bytes))

-- How a run over the lines of an input ended. Without an error the input was read to its end, and each of its lines was answered, written and
-- counted. With Read the input failed, and the lines that had ended before were answered; with Write the output failed, or with Memory memory ran
-- out: some first lines were answered, and only of the last answer a part may be missing.
abbrev pub EndsAs : {D : Type 0} → (D → List ℕ → LineAnswer → D → Type 0) → D → D → Stream → Stream → Result Run RunFault → Type 0
EndsAs runs old new input output (Ok run) = IsAtEnd input.new
    × (bytes : List ℕ) × Consumes input.old input.new bytes × Finished runs old new output.old output.new run (lines_of bytes)
EndsAs runs old new input output (Err Read) = (input.has_failed ≡ true)
    × (bytes : List ℕ) × Consumes input.old input.new bytes × AnsweredUpTo runs old new output.old output.new bytes
EndsAs runs old new input output (Err Write) = (output.has_failed ≡ true)
    × (bytes : List ℕ) × Consumes input.old input.new bytes × InterruptedWithin runs old new output.old output.new bytes input.new
EndsAs runs old new input output (Err Memory) = (bytes : List ℕ) × Consumes input.old input.new bytes
    × InterruptedWithin runs old new output.old output.new bytes input.new

-- a writer has failed since exactly with Write
abbrev pub WriterFailsBy : {A : Type 0} → Result A RunFault → Bool → Bool → Type 0
WriterFailsBy (Ok x) old new = new ≡ old
WriterFailsBy (Err Read) old new = new ≡ old
WriterFailsBy (Err Write) old new = new ≡ true
WriterFailsBy (Err Memory) old new = new ≡ old

-- and a reader exactly with Read
abbrev pub ReaderFailsBy : {A : Type 0} → Result A RunFault → Bool → Bool → Type 0
ReaderFailsBy (Ok x) old new = new ≡ old
ReaderFailsBy (Err Read) old new = new ≡ true
ReaderFailsBy (Err Write) old new = new ≡ old
ReaderFailsBy (Err Memory) old new = new ≡ old

-- ---- for private clauses

abbrev pub HasNoLineFeed : List ℕ → Type 0
HasNoLineFeed line = AllByRecursion (λ b. b ≢ 10) line

-- a last piece, where it is a line
abbrev pub last_line : List ℕ → List (List ℕ)
last_line [] = []
last_line (b ∷ bs) = (b ∷ bs) ∷ []

-- each line, and LF
abbrev pub joined_lines : List (List ℕ) → List ℕ
joined_lines lines = flat_map (λ line. line ++ 10 ∷ []) lines

-- The bytes pending and these bytes are these lines, and then the bytes pending now.
pub record Cuts (old_pending bytes : List ℕ) (lines : List (List ℕ)) (pending : List ℕ) : Type 0 where
  pub whole : old_pending ++ bytes ≡ joined_lines lines ++ pending
  pub plain : HasNoLineFeed old_pending → AllByRecursion HasNoLineFeed lines × HasNoLineFeed pending

-- the bytes were taken, and their lines answered
pub record Takes {D : Type 0} (runs : D → List ℕ → LineAnswer → D → Type 0) (old new : D) (old_text new_text : Option (List ℕ)) (old_run new_run : Run) (old_pending pending bytes : List ℕ) : Type 0 where
  pub lines : List (List ℕ)
  pub cut : Cuts old_pending bytes lines pending
  pub answered : Answered runs old new old_text new_text old_run new_run lines

-- the bytes were taken up to some place, and it stopped there
pub record Breaks {D : Type 0} (runs : D → List ℕ → LineAnswer → D → Type 0) (old new : D) (old_text new_text : Option (List ℕ)) (old_pending bytes : List ℕ) : Type 0 where
  pub lines : List (List ℕ)
  pub more : List ℕ
  pub whole : old_pending ++ bytes ≡ joined_lines lines ++ more
  pub plain : HasNoLineFeed old_pending → AllByRecursion HasNoLineFeed lines
  pub interrupted : Interrupted runs old new old_text new_text lines

-- no error of a reader
abbrev pub OfWriter : RunFault → Type 0
OfWriter Read = ⊥
OfWriter Write = Unit {0}
OfWriter Memory = Unit {0}
