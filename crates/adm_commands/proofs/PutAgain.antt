-- A row that was put into a map or removed from it, looked up again.
use Rattle.std.proofs.Common.{◌≡◌, ◌∙◌, ap, sym, refl, cond, Bool, true, false, Some, None}
use Rattle.std.specs.Prelude.{not, is_some}
use Rattle.std.specs.declared.cmp.Ordering.{Ordering}
use Rattle.std.specs.Ordering.{eq_by_cmp}
use Rattle.std.specs.Cmp.{IsTotalOrder}
use Rattle.std.specs.FinMap.{FinMap, get, insert, remove, contains_key, get-insert, same_map, IsAntisymmetric}
use Rattle.adm_lists.proofs.Maps.{not_contains_key-removed}
use Rattle.adm_lists.proofs.Options.{none_of}
use Rattle.adm_lists.proofs.Orders.{tied}

module _ {K V : Type 0} {R : K → K → Ordering} (total : IsTotalOrder R) where
  -- what was put is there
  pub get-insert_same : (rows : FinMap R V) (key : K) (row : V) → get (insert rows key row) key ≡ Some row
  get-insert_same rows key row = get-insert total rows key row key ∙ ap (λ b. cond b (Some row) (get rows key)) (tied total key)

  pub insert_again : IsAntisymmetric R → (rows : FinMap R V) (key : K) (row : V) → insert (insert rows key row) key row ≡ insert rows key row
  insert_again same rows key row = same_map total same _ _ (λ q.
      get-insert total (insert rows key row) key row q ∙ ap (cond (eq_by_cmp R q key) (Some row)) (get-insert total rows key row q)
      ∙ elim (eq_by_cmp R q key) as (λ b. cond b (Some row) (cond b (Some row) (get rows q)) ≡ cond b (Some row) (get rows q)) [ true ↦ refl | false ↦ refl ]
      ∙ sym (get-insert total rows key row q))

  pub not_again : (rows : FinMap R V) (key : K) (row : V) → not (contains_key (insert rows key row) key) ≡ true → ⊥
  not_again rows key row again = let there = ap is_some (get-insert_same rows key row) in cc

  -- what was cut is not there
  pub gone : (rows : FinMap R V) (key : K) → get (remove rows key) key ≡ None
  gone rows key = none_of _ (not_contains_key-removed total rows key)

pub both : {b : Bool} → b ≡ true → not b ≡ true → ⊥
both one other = cc

pub both_false : {b : Bool} → b ≡ true → b ≡ false → ⊥
both_false one other = cc
