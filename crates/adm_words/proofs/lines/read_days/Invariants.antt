use Rattle.std.proofs.Common.{ℕ, List, ◌++◌, map, drop}
use Rattle.adm_words.specs.Lines.{AreDays, HasNoDay}
use Rattle.adm_words.proofs.lines.read_days.Given as goal

abbrev pub invariant-loop-text : goal.invariant-loop-text
invariant-loop-text l =
    ((rest : List ℕ) → AreDays (map (λ t. t.now) (drop l.text-index l.texts)) rest → AreDays (map (λ t. t.now) l.texts) (l.days.items ++ rest))
    × (HasNoDay (map (λ t. t.now) (drop l.text-index l.texts)) → HasNoDay (map (λ t. t.now) l.texts))
