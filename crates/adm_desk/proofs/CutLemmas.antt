-- Bytes cut into lines.
use Rattle.std.proofs.Common.{◌≡◌, ◌≤◌, ℕ, ◌+◌, ◌==◌, eqb, List, [], ◌∷◌, ◌++◌, length, take, Bool, true, false, cond, refl, sym, ap, ◌∙◌, append_assoc, arith}
use Rattle.std.specs.List.{AllByRecursion}
use Rattle.std.proofs.lemmas.List.{append-nil}
use Rattle.std.proofs.lemmas.Grind.{flat_map-append}
use Rattle.std.proofs.lemmas.List.Sums.{sum_by-append}
use Rattle.std.proofs.Math.Seq.{take-append_seam}
use Rattle.std.proofs.lemmas.Bool.Decides.{Decides-eqb}
use Rattle.adm_lists.proofs.Each.{each_append}
use Rattle.adm_desk.specs.Lines.{lines_of, onto_first, lines_ended}
use Rattle.adm_desk.specs.Written.{HasNoLineFeed, joined_lines, Cuts}

pub joined-append : (xs ys : List (List ℕ)) → joined_lines (xs ++ ys) ≡ joined_lines xs ++ joined_lines ys
joined-append xs ys = flat_map-append (λ line. line ++ 10 ∷ []) xs ys

pub Cuts-nothing : (pending : List ℕ) → Cuts pending [] [] pending
Cuts-nothing pending = record { whole = append-nil pending; plain = λ plain. (tt, plain) }

pub whole-then : (p xs q ys r : List ℕ) (ls ms : List (List ℕ)) → p ++ xs ≡ joined_lines ls ++ q → q ++ ys ≡ joined_lines ms ++ r → p ++ (xs ++ ys) ≡ joined_lines (ls ++ ms) ++ r
whole-then p xs q ys r ls ms first next =
    sym (append_assoc p xs ys) ∙ (ap (λ zs. zs ++ ys) first ∙ (append_assoc (joined_lines ls) q ys ∙ (ap (λ zs. joined_lines ls ++ zs) next
    ∙ (sym (append_assoc (joined_lines ls) (joined_lines ms) r) ∙ ap (λ zs. zs ++ r) (sym (joined-append ls ms))))))

pub Cuts-then : (p xs q ys r : List ℕ) (ls ms : List (List ℕ)) → Cuts p xs ls q → Cuts q ys ms r → Cuts p (xs ++ ys) (ls ++ ms) r
Cuts-then p xs q ys r ls ms first next = record {
  whole = whole-then p xs q ys r ls ms first.whole next.whole;
  plain = λ plain. let a = first.plain plain in let b = next.plain a.1 in (each_append HasNoLineFeed ls ms a.0 b.0, b.1);
}

pub Cuts-byte : (p : List ℕ) (b : ℕ) → (b ≡ 10 → ⊥) → Cuts p (b ∷ []) [] (p ++ b ∷ [])
Cuts-byte p b other = record {
  whole = refl;
  plain = λ plain. (tt, each_append (λ b. b ≡ 10 → ⊥) p (b ∷ []) plain (other, tt));
}

other_byte : (b : ℕ) → (b ≡ 10 → ⊥) → eqb b 10 ≡ false
other_byte b other = differs (eqb b 10) refl
  where
    differs : (t : Bool) → eqb b 10 ≡ t → t ≡ false
    differs true e = absurd (other ((Decides-eqb b 10).0 e))
    differs false e = refl

lines_of-byte : (b : ℕ) (bs : List ℕ) → (b ≡ 10 → ⊥) → lines_of (b ∷ bs) ≡ onto_first b (lines_of bs)
lines_of-byte b bs other = rw (other_byte b other) refl

lines_of-line : (line more : List ℕ) → HasNoLineFeed line → lines_of (line ++ 10 ∷ more) ≡ line ∷ lines_of more
lines_of-line [] more plain = refl
lines_of-line (b ∷ bs) more plain = lines_of-byte b (bs ++ 10 ∷ more) plain.0 ∙ ap (onto_first b) (lines_of-line bs more plain.1)

pub lines_of-joined : (ls : List (List ℕ)) (more : List ℕ) → AllByRecursion HasNoLineFeed ls → lines_of (joined_lines ls ++ more) ≡ ls ++ lines_of more
lines_of-joined [] more plain = refl
lines_of-joined (l ∷ ls) more plain =
    ap lines_of (append_assoc (l ++ 10 ∷ []) (joined_lines ls) more ∙ append_assoc l (10 ∷ []) (joined_lines ls ++ more))
    ∙ (lines_of-line l (joined_lines ls ++ more) plain.0 ∙ ap (λ zs. l ∷ zs) (lines_of-joined ls more plain.1))

-- a last piece without LF
pub lines_of-piece : (b : ℕ) (bs : List ℕ) → HasNoLineFeed (b ∷ bs) → lines_of (b ∷ bs) ≡ (b ∷ bs) ∷ []
lines_of-piece b [] plain = lines_of-byte b [] plain.0
lines_of-piece b (c ∷ bs) plain = lines_of-byte b (c ∷ bs) plain.0 ∙ ap (onto_first b) (lines_of-piece c bs plain.1)

ended-append : (xs ys : List ℕ) → lines_ended (xs ++ ys) ≡ lines_ended xs + lines_ended ys
ended-append xs ys = sum_by-append (λ b. cond (b == 10) 1 0) xs ys

ended-plain : (p : List ℕ) → HasNoLineFeed p → lines_ended p ≡ 0
ended-plain [] plain = refl
ended-plain (b ∷ bs) plain = ended-append (b ∷ []) bs ∙ rw (other_byte b plain.0, ended-plain bs plain.1) refl

pub ended-joined : (ls : List (List ℕ)) (p : List ℕ) → AllByRecursion HasNoLineFeed ls → HasNoLineFeed p → lines_ended (joined_lines ls ++ p) ≡ length ls
ended-joined [] p plain rest = ended-plain p rest
ended-joined (l ∷ ls) p plain rest =
    let none = ended-plain l plain.0 in
    let later = ended-joined ls p plain.1 rest in
    omega (arith, ended-append ((l ++ 10 ∷ []) ++ joined_lines ls) p, ended-append (l ++ 10 ∷ []) (joined_lines ls), ended-append l (10 ∷ []), ended-append (joined_lines ls) p, none, later)

-- at least the whole lines have ended
pub ended-more : (ls : List (List ℕ)) (more : List ℕ) → AllByRecursion HasNoLineFeed ls → length ls ≤ lines_ended (joined_lines ls ++ more)
ended-more ls more plain = omega (arith, ended-append (joined_lines ls) more, ap lines_ended (append-nil (joined_lines ls)), ended-joined ls [] plain tt)

pub first_lines : (ls : List (List ℕ)) (more : List ℕ) → AllByRecursion HasNoLineFeed ls → take (length ls) (lines_of (joined_lines ls ++ more)) ≡ ls
first_lines ls more plain = rw (lines_of-joined ls more plain, take-append_seam ls (lines_of more)) refl
