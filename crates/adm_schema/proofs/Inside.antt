-- One statement after another, inside a transaction.
use Rattle.std.proofs.Common.{refl, inl, inr, arith, ◌≡◌, ℤ, Bool, false, not, List, [], ◌∷◌, Ok, Err, Result, IsTrue}
use Rattle.std.proofs.lemmas.Bool.{true_from_ne_false}
use Rattle.std.specs.List.Sorted.{IsPermutation}
use Rattle.std.proofs.lemmas.List.Sorted.{IsPermutation-cons}
use Rattle.sqlite.specs.declared.error.Error.{Error}
use Rattle.sqlite.specs.Order.{Row}
use Rattle.sqlite.specs.State.{State, Survives}
use Rattle.sqlite.proofs.StateLemmas.{survives_then}
use Rattle.sqlite_keyed.proofs.ListLemmas.{IsPermutation-filter}
use Rattle.sqlite.specs.Tree.{has_rowid, without_rowid}
use Rattle.sqlite.specs.Edit.{without_all}
use Rattle.adm_schema.specs.Effects.{StaysOpen, integer_key, put_in, put_each}

-- a statement that succeeded ran inside the transaction
pub is_inside : {X : Type 0} (b : Bool) (x : X) (e : Error) (P : Type 0) → (b ≡ false → (◌≡◌ {A = Result X Error} (Ok x) (Err e)) × P) → IsTrue b
is_inside b x e P h = true_from_ne_false b (λ is. let wrong = (h is).0 in cc)

pub survives_on : (a b c : State) → Survives a b (λ _. ⊥) → Survives b c (λ _. ⊥) → Survives a c (λ _. ⊥)
survives_on a b c = survives_then a b c (λ _. ⊥) (λ _. ⊥) (λ _. ⊥) (λ _ db none. none) (λ _ db none. none)

pub survives_same : (s : State) → Survives s s (λ _. ⊥)
survives_same s = record { clean = omega (arith); shield = λ shielded. shielded; counts = omega (arith); limit = refl; closes = λ clean live. inl live; crash = λ clean db may. inl may }

-- before the first write it is open where it was
pub goes_none : (s : State) → StaysOpen 0 s s
goes_none s (inl some) = absurd (omega (arith, some))
goes_none s (inr here) = here

-- ---- a table whose key is an integer in its first column

pub without_moved : (k : ℤ) (xs ys : List Row) → IsPermutation xs ys → IsPermutation (without_rowid k xs) (without_rowid k ys)
without_moved k xs ys same = IsPermutation-filter (λ r. not (has_rowid k r)) xs ys same

pub put_moved : (row : Row) (xs ys : List Row) → IsPermutation xs ys → IsPermutation (put_in row xs) (put_in row ys)
put_moved row xs ys same = IsPermutation-cons row _ _ (without_moved (integer_key row) xs ys same)

pub puts_moved : (news xs ys : List Row) → IsPermutation xs ys → IsPermutation (put_each xs news) (put_each ys news)
puts_moved [] xs ys same = same
puts_moved (row ∷ news) xs ys same = puts_moved news (put_in row xs) (put_in row ys) (put_moved row xs ys same)

pub cuts_moved : (keys : List ℤ) (xs ys : List Row) → IsPermutation xs ys → IsPermutation (without_all xs keys) (without_all ys keys)
cuts_moved [] xs ys same = same
cuts_moved (k ∷ keys) xs ys same = cuts_moved keys (without_rowid k xs) (without_rowid k ys) (without_moved k xs ys same)
