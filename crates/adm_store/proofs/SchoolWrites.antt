-- The rows of schools after a commit adds new ones, and drops and adds those that changed.
use Rattle.std.proofs.Common.{◌≡◌, ◌∙◌, inl, inr, Bool, true, false, ◌&&◌, List, [], ◌∷◌, ◌++◌, ℕ, map, fold, Some, refl, sym, ap, subst}
use Rattle.std.specs.Prelude.{if◌then◌else◌}
use Rattle.std.specs.List.Sorted.{IsPermutation}
use Rattle.std.specs.Ordering.{is_eq, eq_by_cmp}
use Rattle.std.specs.Cmp.Lexicographic.{nat_list_cmp_total}
use Rattle.std.specs.FinMap.{FinMap, get, values, contains_key}
use Rattle.sqlite_value.proofs.OrderLemmas.{value_cmp-Text}
use Rattle.sqlite.specs.Order.{Row}
use Rattle.sqlite_rules.specs.Lists.{Has}
use Rattle.adm_types.specs.contracts.rows.School.{the_row as school_code}
use Rattle.adm_types.specs.declared.rows.School.{School}
use Rattle.adm_schema.specs.Effects.{begins_with, drop_of}
use Rattle.adm_register.specs.Difference.{AreNew}
use Rattle.adm_types.specs.Limits.{code_cmp}
use Rattle.adm_rows.specs.Forms.{school_row}
use Rattle.adm_store.specs.Schools.{code_row, replaced_by, replaced_of}
use Rattle.adm_store.proofs.MapLemmas.{coded_stable}
use Rattle.adm_rows.proofs.PresentLists.{from_given, is_given}
use Rattle.adm_rows.proofs.RowsFit.{same_code}
use Rattle.adm_store.proofs.ReplacedRows.{replaced_rows}

-- the test by which a code drops the row of a school
begins_code : (code : List ℕ) (s : School) → begins_with (code_row code) (school_row s) ≡ eq_by_cmp code_cmp s.code code
begins_code code s = ap (λ o. is_eq o && true) (value_cmp-Text s.code code) ∙ and_true (eq_by_cmp code_cmp s.code code)
  where
    and_true : (b : Bool) → (b && true) ≡ b
    and_true true = refl
    and_true false = refl

module _ (old new : FinMap code_cmp School) (own_old : (k : List ℕ) (s : School) → get old k ≡ Some s → s.code ≡ k) (own_new : (k : List ℕ) (s : School) → get new k ≡ Some s → s.code ≡ k)
    (stay : (k : List ℕ) → contains_key old k ≡ true → contains_key new k ≡ true) (news : List School) (differ : AreNew (λ (s : School). s.code) old new news) where
  -- the code of a new school that was there goes
  covers : (s : School) → Has news s → contains_key old s.code ≡ true → Has (replaced_of old news) s.code
  covers s h had = is_given (replaced_by old) news s s.code h (subst (λ b. Has (if b then s.code ∷ [] else []) s.code) (sym had) (inl refl))

  -- and no other
  only : (k : List ℕ) → Has (replaced_of old news) k → (s : School) × Has news s × (s.code ≡ k)
  only k h = let it = from_given (replaced_by old) news k h in (it.0, it.1, own it.0 (contains_key old it.0.code) it.2)
    where
      own : (s : School) (b : Bool) → Has (if b then s.code ∷ [] else []) k → s.code ≡ k
      own s true (inl is) = sym is
      own s true (inr none) = absurd none
      own s false none = absurd none

  -- a table that had the rows of the old schools has those of the new ones
  pub schools_written : (written was now : List Row) → written ≡ map school_row news → IsPermutation (map school_row (values old)) was
      → IsPermutation (fold (λ rows key. drop_of key rows) was (map code_row (replaced_of old news)) ++ written) now → IsPermutation (map school_row (values new)) now
  schools_written written was now is held writes =
      replaced_rows nat_list_cmp_total same_code (λ (s : School). s.code) (coded_stable school_code.coded) old new own_old own_new stay news differ
      (replaced_of old news) covers only school_row code_row begins_code written was now is held writes
