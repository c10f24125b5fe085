-- Texts as lines, each ended by LF. This profile's own form.
use Rattle.std.specs.Prelude.{◌≡◌, ℕ, ◌-◌, List, [], ◌∷◌, ◌++◌, length, replicate, string_bytes}
use Rattle.std.specs.declared.string.String.{String}

-- the lines one after another, each with LF at its end
abbrev pub lines_text : List (List ℕ) → List ℕ
lines_text [] = []
lines_text (line ∷ lines) = line ++ 10 ∷ lines_text lines

-- blanks, and then the text, in so many places: a text that is wider stays whole
abbrev pub right : ℕ → List ℕ → List ℕ
right width text = replicate (width - length text) 32 ++ text

-- the new text is the old one and then these lines
abbrev pub AddsLines : {A : Type 0} → String A → List (List ℕ) → String A → Type 0
AddsLines old lines new = string_bytes new ≡ string_bytes old ++ lines_text lines
