-- The rows of a map, each at its key.
use Rattle.std.proofs.Common.{◌≡◌, ◌∙◌, inl, inr, true, false, List, [], ◌∷◌, map, Some, None, Option, refl, sym, ap}
use Rattle.std.specs.Prelude.{is_some}
use Rattle.std.specs.List.{AllByRecursion}
use Rattle.std.specs.declared.cmp.Ordering.{Ordering}
use Rattle.std.specs.Cmp.{IsTotalOrder}
use Rattle.std.specs.FinMap.{FinMap, get, values, entries, entries_sorted, get-entries, contains_key, IsAntisymmetric}
use Rattle.sqlite_rules.specs.Lists.{Has}
use Rattle.adm_rows.proofs.Entries.{found}

-- a key that is there has a row
pub row_there : {K V : Type 0} {R : K → K → Ordering} (m : FinMap R V) (key : K) → contains_key m key ≡ true → (row : V) × (get m key ≡ Some row)
row_there m key there = go (get m key) refl there
  where
    go : (o : Option _) → get m key ≡ o → is_some (get m key) ≡ true → (row : _) × (get m key ≡ Some row)
    go (Some row) is some = (row, is)
    go None is some = absurd (let wrong : false ≡ true = sym (ap is_some is) ∙ some in cc)

module _ {K V : Type 0} {R : K → K → Ordering} (total : IsTotalOrder R) (exact : IsAntisymmetric R) where
  -- what holds of each row of a map holds of each of its values
  pub each_value : (P : V → Type 0) (m : FinMap R V) → ((key : K) (row : V) → get m key ≡ Some row → P row) → AllByRecursion P (values m)
  each_value P m all = go (entries m) (λ e h. h)
    where
      go : (es : List (K × V)) → ((e : K × V) → Has es e → Has (entries m) e) → AllByRecursion P (map (λ (e : K × V). e.1) es)
      go [] there = tt
      go (e ∷ es) there = (all e.0 e.1 (get-entries m e.0 ∙ found total exact (entries m) (entries_sorted m) e (there e (inl refl))), go es (λ x h. there x (inr h)))
