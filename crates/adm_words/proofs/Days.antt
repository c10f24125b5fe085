-- Days read from texts, one after another.
use Rattle.std.proofs.Common.{◌≡◌, ℕ, List, [], ◌++◌, subst}
use Rattle.std.proofs.lemmas.List.{append-nil}
use Rattle.clap.specs.Words.{Text}
use Rattle.adm_words.specs.Lines.{AreDays}

-- no text remains
pub all_days : (texts left : List Text) (days : List ℕ) → left ≡ [] → ((rest : List ℕ) → AreDays left rest → AreDays texts (days ++ rest)) → AreDays texts days
all_days texts left days e more =
    subst (λ (ds : List ℕ). AreDays texts ds) (append-nil days) (more [] (rw e tt))
