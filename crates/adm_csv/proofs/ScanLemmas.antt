-- A scan of bytes, one byte after another.
use Rattle.std.proofs.Common.{◌≡◌, ◌∙◌, ◌+◌, ◌<◌, ◌≤◌, ◌++◌, ℕ, Bool, true, false, cond, [], ◌∷◌, length, take, drop, Option, refl, sym, ap, subst, arith, true≢false, append_assoc, append-nil, length-drop}
use Rattle.std.specs.Io.KnownBytes.{Consumes}
use Rattle.std.proofs.KnownBytes.{Consumes-trans}
use Rattle.std.proofs.lemmas.List.{take-append-drop}
use Rattle.std.specs.Prelude.{◌&&◌, nat_eq}
use Rattle.std.specs.Cmp.Lexicographic.{pointwise}
use Rattle.csv.specs.Machine.{step}
use Rattle.csv.specs.Reading.{default_config, strip_bom, is_bom}
use Rattle.csv.specs.declared.parser.State.{State}
use Rattle.csv.specs.declared.parser.State.TheVariants as st
use Rattle.std.proofs.Math.Bool.{and-false}
use Rattle.adm_csv.specs.Kinds.{Text}
use Rattle.adm_csv.specs.Ended.{IsNeeded, StopsWithin, ended_by, ended_from, ended_in, enough, state_from}

abbrev pub the_mark : Text
the_mark = 239 ∷ 187 ∷ 191 ∷ []

mark_tests : (p q r b : Bool) → (p && (q && (r && true))) ≡ b → (p && q && r) ≡ b
mark_tests true true true b is = is
mark_tests true true false b is = is
mark_tests true false r b is = is
mark_tests false q r b is = is

longer : (p q r : Bool) → (p && (q && (r && false))) ≡ false
longer true true true = refl
longer true true false = refl
longer true false r = refl
longer false q r = refl

not_empty : (rest : Text) (x : ℕ) → pointwise nat_eq (rest ++ x ∷ []) [] ≡ false
not_empty [] x = refl
not_empty (y ∷ rest) x = refl

-- the mark goes
pub strip_mark : (text : Text) (x : ℕ) → pointwise nat_eq (text ++ x ∷ []) the_mark ≡ true → strip_bom (text ++ x ∷ []) ≡ []
unfolding strip_bom
strip_mark [] x is = absurd (true≢false (sym is ∙ and-false (nat_eq x 239)))
strip_mark (a ∷ []) x is = absurd (true≢false (sym is ∙ last_false (nat_eq a 239) (nat_eq x 187)))
  where
    last_false : (p q : Bool) → (p && (q && false)) ≡ false
    last_false true true = refl
    last_false true false = refl
    last_false false q = refl
strip_mark (a ∷ b ∷ []) x is = rw (mark_tests (nat_eq a 239) (nat_eq b 187) (nat_eq x 191) true is) refl
strip_mark (a ∷ b ∷ c ∷ rest) x is =
    absurd (true≢false (sym is ∙ (ap (λ t. nat_eq a 239 && (nat_eq b 187 && (nat_eq c 191 && t))) (not_empty rest x) ∙ longer (nat_eq a 239) (nat_eq b 187) (nat_eq c 191))))

-- any other byte stays
pub strip_other : (text : Text) (x : ℕ) → pointwise nat_eq (text ++ x ∷ []) the_mark ≡ false → strip_bom (text ++ x ∷ []) ≡ strip_bom text ++ x ∷ []
unfolding strip_bom
strip_other [] x is = refl
strip_other (a ∷ []) x is = refl
strip_other (a ∷ b ∷ []) x is = rw (mark_tests (nat_eq a 239) (nat_eq b 187) (nat_eq x 191) false is) refl
strip_other (a ∷ b ∷ c ∷ rest) x is = by (is_bom a b c)
  where
    by : (t : Bool) → cond t (rest ++ x ∷ []) (a ∷ b ∷ c ∷ (rest ++ x ∷ [])) ≡ cond t rest (a ∷ b ∷ c ∷ rest) ++ x ∷ []
    by true = refl
    by false = refl

state_more : (s : State) (text : Text) (x : ℕ) → state_from s (text ++ x ∷ []) ≡ (step default_config (state_from s text) x).0
state_more s [] x = refl
state_more s (b ∷ text) x = state_more (step default_config s b).0 text x

ended_more : (s : State) (text : Text) (x : ℕ) → ended_from s (text ++ x ∷ []) ≡ ended_from s text + ended_by (state_from s text) x
ended_more s [] x = omega arith
ended_more s (b ∷ text) x = let more = ended_more (step default_config s b).0 text x in omega (arith, more)

-- a scan of the mark, and of any byte more
pub scan_mark : (text : Text) (x : ℕ) → pointwise nat_eq (text ++ x ∷ []) the_mark ≡ true
    → (st.StartRecord ≡ state_from st.StartRecord (strip_bom (text ++ x ∷ []))) × (0 ≡ ended_in (text ++ x ∷ []))
scan_mark text x is =
    let gone = strip_mark text x is in
    (sym (ap (state_from st.StartRecord) gone), sym (ap (ended_from st.StartRecord) gone))

pub scan_other : (text : Text) (x : ℕ) (s : State) → pointwise nat_eq (text ++ x ∷ []) the_mark ≡ false → s ≡ state_from st.StartRecord (strip_bom text)
    → ((step default_config s x).0 ≡ state_from st.StartRecord (strip_bom (text ++ x ∷ []))) × (ended_in text + ended_by s x ≡ ended_in (text ++ x ∷ []))
scan_other text x s is at =
    let stays = strip_other text x is in (
      ap (λ t. (step default_config t x).0) at ∙ sym (ap (state_from st.StartRecord) stays ∙ state_more st.StartRecord (strip_bom text) x),
      ap (λ t. ended_in text + ended_by t x) at ∙ sym (ap (ended_from st.StartRecord) stays ∙ ended_more st.StartRecord (strip_bom text) x),
    )

pub grown : (text : Text) (x : ℕ) → length (text ++ x ∷ []) ≡ length text + 1
grown [] x = refl
grown (y ∷ text) x = let more = grown text x in omega (arith, more)

-- a piece after what was not enough
pub needed_more : (text piece : Text) → ended_in text < enough → length piece ≤ 4096 → IsNeeded (text ++ piece)
needed_more text piece few short = (text, piece, refl, short, few)

-- a part of a piece was taken
pub taken_within : (old mid new : Option Text) (text piece : Text) (n ended : ℕ) → Consumes old mid text → Consumes mid new piece → length piece ≤ 4096 → ended ≡ ended_in (text ++ take n piece)
    → StopsWithin old new ended
taken_within old mid new text piece n ended before taken short is =
    let whole : text ++ piece ≡ (text ++ take n piece) ++ drop n piece =
    ap (λ t. text ++ t) (sym (take-append-drop n piece)) ∙ sym (append_assoc text (take n piece) (drop n piece)) in
    let long = length-drop n piece in
    (text ++ take n piece, drop n piece, subst (Consumes old new) whole (Consumes-trans old mid new text piece before taken), omega (arith, long, short), is)

-- a whole piece was taken
pub taken_whole : (old new : Option Text) (text : Text) (ended : ℕ) → Consumes old new text → ended ≡ ended_in text → StopsWithin old new ended
taken_whole old new text ended taken is = (text, [], subst (Consumes old new) (sym (append-nil text)) taken, omega arith, is)
