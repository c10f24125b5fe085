-- Lines answered one after another: what was counted, and what was written of the answers.
use Rattle.std.proofs.Common.{◌≡◌, ℕ, zero, suc, cond, ◌+◌, ◌-◌, ◌||◌, List, [], ◌∷◌, ◌++◌, length, take, drop, Option, Bool, true, false, refl, sym, ap, ◌∙◌, append_assoc, arith, count_by, subst, length-append}
use Rattle.std.proofs.lemmas.List.{append-nil, take-append-drop}
use Rattle.std.proofs.lemmas.List.Folds.{list_any-append}
use Rattle.std.proofs.lemmas.Grind.{flat_map-append}
use Rattle.std.proofs.lemmas.List.Sums.{sum_by-append}
use Rattle.std.proofs.Math.Seq.{take-append-add, drop-append-add, take-length}
use Rattle.adm_lists.proofs.Each.{each_append}
use Rattle.adm_lists.proofs.KnownBytes.{Appends-then}
use Rattle.adm_desk.specs.declared.answer.LineAnswer.{LineAnswer}
use Rattle.adm_desk.specs.declared.run.Run.{Run}
use Rattle.adm_desk.specs.Lines.{AnswersLines, line_text, answers_text, is_done, is_refused, is_failed}
use Rattle.adm_desk.specs.Written.{Answered, Interrupted, Counts, counted, IsBeginning, Takes, Breaks, joined_lines, HasNoLineFeed}
use Rattle.adm_desk.proofs.Known.{Appends-nothing}
use Rattle.adm_desk.proofs.CutLemmas.{Cuts-then, Cuts-nothing, whole-then}

AnswersLines-append : {D : Type 0} (runs : D → List ℕ → LineAnswer → D → Type 0) (old mid new : D) (ls ms : List (List ℕ)) (xs ys : List LineAnswer)
    → AnswersLines runs old ls xs mid → AnswersLines runs mid ms ys new → AnswersLines runs old (ls ++ ms) (xs ++ ys) new
AnswersLines-append {D} runs old mid new [] ms [] ys p q = let P : D → Type 0 = λ h. AnswersLines runs h ms ys new in subst P p q
AnswersLines-append runs old mid new [] ms (x ∷ xs) ys p q = absurd p
AnswersLines-append runs old mid new (l ∷ ls) ms [] ys p q = absurd p
AnswersLines-append runs old mid new (l ∷ ls) ms (x ∷ xs) ys p q = (p.0, p.1, AnswersLines-append runs p.0 mid new ls ms xs ys p.2 q)

pub answers_text-append : (xs ys : List LineAnswer) → answers_text (xs ++ ys) ≡ answers_text xs ++ answers_text ys
answers_text-append xs ys = flat_map-append (λ a. line_text a ++ 10 ∷ []) xs ys

count_by-append : {X : Type 0} (p : X → Bool) (xs ys : List X) → count_by p (xs ++ ys) ≡ count_by p xs + count_by p ys
count_by-append p xs ys = sum_by-append (λ x. cond (p x) 1 0) xs ys

counted-then : (a b c m n : ℕ) → b ≡ counted a m → c ≡ counted b n → c ≡ counted a (m + n)
counted-then a b c m n p q = omega arith

or-then : (a b c p q : Bool) → b ≡ (a || p) → c ≡ (b || q) → c ≡ (a || (p || q))
or-then true b c p q e f = rw (f, e) refl
or-then false b c p q e f = rw (f, e) refl

Counts-then : (a b c : Run) (xs ys : List LineAnswer) → Counts a b xs → Counts b c ys → Counts a c (xs ++ ys)
Counts-then a b c xs ys p q = record {
  done = rw (count_by-append is_done xs ys) (counted-then a.done b.done c.done _ _ p.done q.done);
  refused = rw (count_by-append is_refused xs ys) (counted-then a.refused b.refused c.refused _ _ p.refused q.refused);
  failed = rw (list_any-append is_failed xs ys) (or-then a.failed b.failed c.failed _ _ p.failed q.failed);
}

pub Answered-then : {D : Type 0} (runs : D → List ℕ → LineAnswer → D → Type 0) (old mid new : D) (u v w : Option (List ℕ)) (a b c : Run) (ls ms : List (List ℕ))
    → Answered runs old mid u v a b ls → Answered runs mid new v w b c ms → Answered runs old new u w a c (ls ++ ms)
Answered-then runs old mid new u v w a b c ls ms p q = record {
  answers = p.answers ++ q.answers;
  answered = AnswersLines-append runs old mid new ls ms p.answers q.answers p.answered q.answered;
  written = rw (answers_text-append p.answers q.answers) (Appends-then u v w _ _ p.written q.written);
  counted = Counts-then a b c p.answers q.answers p.counted q.counted;
}

pub whole_beginning : (xs : List LineAnswer) → IsBeginning xs (answers_text xs)
whole_beginning xs =
    let k = length xs - 1 in (
      length (answers_text (drop k xs)),
      rw (take-length (answers_text (drop k xs))) (ap answers_text (sym (take-append-drop k xs)) ∙ answers_text-append (take k xs) (drop k xs)),
    )

take-nil : (n : ℕ) → take n (answers_text []) ≡ []
take-nil zero = refl
take-nil (suc n) = refl

after_front : (xs ys : List LineAnswer) (k n : ℕ) (text : List ℕ) → text ≡ answers_text (take k ys) ++ take n (answers_text (drop k ys))
    → answers_text xs ++ text ≡ answers_text (take (length xs + k) (xs ++ ys)) ++ take n (answers_text (drop (length xs + k) (xs ++ ys)))
after_front xs ys k n text e =
    rw (e, take-append-add xs ys k, drop-append-add xs ys k, answers_text-append xs (take k ys))
    (sym (append_assoc (answers_text xs) (answers_text (take k ys)) (take n (answers_text (drop k ys)))))

later_beginning : (xs ys : List LineAnswer) (text : List ℕ) → IsBeginning ys text → IsBeginning (xs ++ ys) (answers_text xs ++ text)
later_beginning xs [] text h =
    let none : text ≡ [] = h.1 ∙ take-nil h.0 in
    rw (append-nil xs, none, append-nil (answers_text xs)) (whole_beginning xs)
later_beginning xs (y ∷ ys) text h =
    let same : length (xs ++ y ∷ ys) - 1 ≡ length xs + (length (y ∷ ys) - 1) = omega (arith, length-append xs (y ∷ ys)) in
    (h.0, rw same (after_front xs (y ∷ ys) (length (y ∷ ys) - 1) h.0 text h.1))

pub Answered-interrupted : {D : Type 0} (runs : D → List ℕ → LineAnswer → D → Type 0) (old mid new : D) (u v w : Option (List ℕ)) (a b : Run) (ls ms : List (List ℕ))
    → Answered runs old mid u v a b ls → Interrupted runs mid new v w ms → Interrupted runs old new u w (ls ++ ms)
Answered-interrupted runs old mid new u v w a b ls ms p q = record {
  answers = p.answers ++ q.answers;
  text = answers_text p.answers ++ q.text;
  answered = AnswersLines-append runs old mid new ls ms p.answers q.answers p.answered q.answered;
  beginning = later_beginning p.answers q.answers q.text q.beginning;
  written = Appends-then u v w _ _ p.written q.written;
}

pub Answered-nothing : {D : Type 0} (runs : D → List ℕ → LineAnswer → D → Type 0) (h : D) (w : Option (List ℕ)) (run : Run) → Answered runs h h w w run run []
Answered-nothing runs h w run = record {
  answers = [];
  answered = refl;
  written = Appends-nothing w;
  counted = record { done = omega arith; refused = omega arith; failed = or_false run.failed };
}
  where
    or_false : (b : Bool) → b ≡ (b || false)
    or_false true = refl
    or_false false = refl

pub Interrupted-nothing : {D : Type 0} (runs : D → List ℕ → LineAnswer → D → Type 0) (h : D) (w : Option (List ℕ)) → Interrupted runs h h w w []
Interrupted-nothing runs h w = record {
  answers = [];
  text = [];
  answered = refl;
  beginning = (0, refl);
  written = Appends-nothing w;
}

pub Takes-nothing : {D : Type 0} (runs : D → List ℕ → LineAnswer → D → Type 0) (h : D) (w : Option (List ℕ)) (run : Run) (pending : List ℕ) → Takes runs h h w w run run pending pending []
Takes-nothing runs h w run pending = record { lines = []; cut = Cuts-nothing pending; answered = Answered-nothing runs h w run }

pub Takes-then : {D : Type 0} (runs : D → List ℕ → LineAnswer → D → Type 0) (old mid new : D) (u v w : Option (List ℕ)) (a b c : Run) (p q r xs ys : List ℕ)
    → Takes runs old mid u v a b p q xs → Takes runs mid new v w b c q r ys → Takes runs old new u w a c p r (xs ++ ys)
Takes-then runs old mid new u v w a b c p q r xs ys first next = record {
  lines = first.lines ++ next.lines;
  cut = Cuts-then p xs q ys r first.lines next.lines first.cut next.cut;
  answered = Answered-then runs old mid new u v w a b c first.lines next.lines first.answered next.answered;
}

pub Takes-breaks : {D : Type 0} (runs : D → List ℕ → LineAnswer → D → Type 0) (old mid new : D) (u v w : Option (List ℕ)) (a b : Run) (p q xs ys : List ℕ)
    → Takes runs old mid u v a b p q xs → Breaks runs mid new v w q ys → Breaks runs old new u w p (xs ++ ys)
Takes-breaks runs old mid new u v w a b p q xs ys first next = record {
  lines = first.lines ++ next.lines;
  more = next.more;
  whole = whole-then p xs q ys next.more first.lines next.lines first.cut.whole next.whole;
  plain = λ plain. let before = first.cut.plain plain in each_append HasNoLineFeed first.lines next.lines before.0 (next.plain before.1);
  interrupted = Answered-interrupted runs old mid new u v w a b first.lines next.lines first.answered next.interrupted;
}

-- bytes that were not taken lie behind
pub Breaks-longer : {D : Type 0} (runs : D → List ℕ → LineAnswer → D → Type 0) (old new : D) (u v : Option (List ℕ)) (p xs ys : List ℕ)
    → Breaks runs old new u v p xs → Breaks runs old new u v p (xs ++ ys)
Breaks-longer runs old new u v p xs ys b = record {
  lines = b.lines;
  more = b.more ++ ys;
  whole = sym (append_assoc p xs ys) ∙ (ap (λ zs. zs ++ ys) b.whole ∙ append_assoc (joined_lines b.lines) b.more ys);
  plain = b.plain;
  interrupted = b.interrupted;
}
