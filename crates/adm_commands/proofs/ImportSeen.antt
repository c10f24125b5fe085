-- The rows of an import as they are gone through, each beside those before it.
use Rattle.std.proofs.Common.{◌≡◌, ◌∙◌, ap, sym, refl, true, false, ℕ, ◌+◌, List, [], ◌∷◌, ◌++◌, Some, None}
use Rattle.std.specs.Prelude.{if◌then◌else◌}
use Rattle.std.proofs.lemmas.List.{append_assoc}
use Rattle.adm_types.specs.declared.rows.Row.{Row as ImportRow}
use Rattle.adm_types.specs.declared.commands.Refusal.{Refusal}
use Rattle.adm_register.specs.State.{State}
use Rattle.adm_commands.specs.Commands.Import.{is_known, refusal_of_row, with_row, after_row, refused_from, or_later, new_rows}

-- what results from the rows that remain, beside those that were seen, results from all rows
pub record Seen (old : State) (rows : List ImportRow) (seen : State) (number : ℕ) (rest added : List ImportRow) : Type 0 where
  pub why : refused_from seen number rest ≡ refused_from old 1 rows
  pub new : added ++ new_rows seen rest ≡ new_rows old rows

pub seen_none : (old : State) (rows : List ImportRow) → Seen old rows old 1 rows []
seen_none old rows = record { why = refl; new = refl }

module _ (old : State) (rows : List ImportRow) (seen : State) (number : ℕ) (row : ImportRow) (rest added : List ImportRow) (so_far : Seen old rows seen number (row ∷ rest) added) where
  -- a row that is refused is the first
  pub refused_here : (refusal : Refusal) → refusal_of_row seen row ≡ Some refusal → refused_from old 1 rows ≡ Some (record { refusal = refusal; row = number })
  unfolding refused_from
  refused_here refusal refused = sym so_far.why ∙ ap (λ o. or_later number o (refused_from (after_row seen row) (number + 1) rest)) refused

  later : refusal_of_row seen row ≡ None → refused_from (after_row seen row) (number + 1) rest ≡ refused_from old 1 rows
  unfolding refused_from
  later passes = sym (ap (λ o. or_later number o (refused_from (after_row seen row) (number + 1) rest)) passes) ∙ so_far.why

  -- a known row changes nothing
  pub known_seen : refusal_of_row seen row ≡ None → is_known seen row ≡ true → Seen old rows seen (number + 1) rest added
  unfolding after_row new_rows
  known_seen passes known = record {
    why = sym (ap (λ b. refused_from (if b then seen else with_row seen row) (number + 1) rest) known) ∙ later passes;
    new = sym (ap (λ b. added ++ (if b then new_rows seen rest else row ∷ new_rows (with_row seen row) rest)) known) ∙ so_far.new;
  }

  -- any other is added
  pub new_seen : refusal_of_row seen row ≡ None → is_known seen row ≡ false → Seen old rows (with_row seen row) (number + 1) rest (added ++ row ∷ [])
  unfolding after_row new_rows
  new_seen passes unknown = record {
    why = sym (ap (λ b. refused_from (if b then seen else with_row seen row) (number + 1) rest) unknown) ∙ later passes;
    new = append_assoc added (row ∷ []) (new_rows (with_row seen row) rest) ∙ sym (ap (λ b. added ++ (if b then new_rows seen rest else row ∷ new_rows (with_row seen row) rest)) unknown) ∙ so_far.new;
  }

-- at the end none was refused, and the new rows are there
pub seen_all : (old : State) (rows : List ImportRow) (seen : State) (number : ℕ) (added : List ImportRow) → Seen old rows seen number [] added
    → (None ≡ refused_from old 1 rows) × (added ≡ new_rows old rows)
unfolding refused_from new_rows
seen_all old rows seen number added so_far = (so_far.why, sym (append-nil added) ∙ so_far.new)
  where
    append-nil : (xs : List ImportRow) → xs ++ [] ≡ xs
    append-nil [] = refl
    append-nil (x ∷ xs) = λ i. x ∷ append-nil xs i
