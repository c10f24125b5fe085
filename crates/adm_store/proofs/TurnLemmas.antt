-- A table of rows by their numbers, which a commit overwrites and deletes.
use Rattle.std.proofs.Common.{◌≡◌, ◌∙◌, ℕ, true, false, not, pos, List, [], ◌∷◌, map, filter, Option, Some, None, refl, sym, ap, subst, IsTrue}
use Rattle.std.specs.Prelude.{is_some}
use Rattle.std.specs.Ordering.{nat_cmp}
use Rattle.std.specs.Cmp.{nat_cmp_total}
use Rattle.std.specs.List.Sorted.{IsPermutation}
use Rattle.std.specs.FinMap.{FinMap, get, values, contains_key, nat_cmp-IsAntisymmetric}
use Rattle.sqlite.specs.declared.types.Value.TheVariants.{Int}
use Rattle.sqlite.specs.Order.{Row}
use Rattle.sqlite.specs.Tree.{rowid}
use Rattle.sqlite.specs.Edit.{have_rowids, without_all}
use Rattle.sqlite_rules.specs.Lists.{Has}
use Rattle.sqlite_rules.proofs.ListLemmas.{has_filtered, has_kept}
use Rattle.adm_register.specs.Difference.{AreNew}
use Rattle.adm_schema.specs.Effects.{integer_key, put_each}
use Rattle.adm_schema.proofs.Lists.{has_source, has_mapped}
use Rattle.adm_store.specs.Writes.{key_row}
use Rattle.adm_store.proofs.MapLemmas.{Stable, table_new, less_each, other_key, gone_key, still_none}
use Rattle.adm_rows.proofs.Entries.{has_value}

-- the keys of rows that are keys alone
keys_are : (keys : List ℕ) → map integer_key (map key_row keys) ≡ map pos keys
keys_are [] = refl
keys_are (key ∷ keys) = ap (λ ks. pos key ∷ ks) (keys_are keys)

-- the table had the rows of the old map; what is written is the rows of the new one that the old one has not
module _ {V : Type 0} (key : V → ℕ) (row_of : V → Row) (own_rowid : (v : V) → rowid (row_of v) ≡ Int (pos (key v))) (stable : Stable V)
    (old new : FinMap nat_cmp V) (own_old : (k : ℕ) (v : V) → get old k ≡ Some v → key v ≡ k) (own_new : (k : ℕ) (v : V) → get new k ≡ Some v → key v ≡ k)
    (news : List V) (differ : AreNew key old new news) (written was now : List Row) (same : written ≡ map row_of news) (held : IsPermutation (map row_of (values old)) was) where
  -- where each key stays
  pub put_over : ((q : ℕ) → IsTrue (contains_key old q) → IsTrue (contains_key new q)) → (IsTrue (have_rowids was) → IsPermutation (put_each was written) now)
      → IsPermutation (map row_of (values new)) now
  put_over stay turns = table_new key row_of own_rowid stable old new [] news written was now own_old own_new differ (λ q none. still q none (get old q) refl) (λ q v there. refl) same held turns
    where
      still : (q : ℕ) → get new q ≡ None → (o : Option V) → get old q ≡ o → get old q ≡ None
      still q none None is = is
      still q none (Some v) is = absurd (let wrong : true ≡ false = sym (stay q (ap is_some is)) ∙ ap is_some none in cc)

  -- where the keys that are gone are deleted first
  pub cut_and_put : (keys : List ℕ) → keys ≡ map key (filter (λ v. not (contains_key new (key v))) (values old))
      → (IsTrue (have_rowids was) → IsPermutation (put_each (without_all was (map integer_key (map key_row keys))) written) now) → IsPermutation (map row_of (values new)) now
  cut_and_put keys are turns =
      table_new key row_of own_rowid stable old new keys news written was now own_old own_new differ (λ q none. gone q none (get old q) refl)
      (λ q v there. other_key key row_of own_rowid keys old q (λ h. stays q v there h)) same held
      (λ keyed. subst (λ ks. IsPermutation (put_each (without_all was ks) written) now) (keys_are keys) (turns keyed))
    where
      gone : (q : ℕ) → get new q ≡ None → (o : Option V) → get old q ≡ o → get (less_each key row_of own_rowid old keys) q ≡ None
      gone q none None is = still_none key row_of own_rowid keys old q is
      gone q none (Some v) is =
          let at : key v ≡ q = own_old q v is in
          let without : not (contains_key new (key v)) ≡ true = ap (λ k. not (contains_key new k)) at ∙ ap (λ o. not (is_some o)) none in
          let ended = has_kept (λ v. not (contains_key new (key v))) (values old) v (has_value nat_cmp_total nat_cmp-IsAntisymmetric old q v is) without in
          gone_key key row_of own_rowid keys old q (subst (λ ks. Has ks q) (sym are)
          (subst (Has (map key (filter (λ v. not (contains_key new (key v))) (values old)))) at (has_mapped key (filter (λ v. not (contains_key new (key v))) (values old)) v ended)))

      stays : (q : ℕ) (v : V) → get new q ≡ Some v → Has keys q → ⊥
      stays q v there h =
          let it = has_source key (filter (λ v. not (contains_key new (key v))) (values old)) q (subst (λ ks. Has ks q) are h) in
          let without = (has_filtered (λ v. not (contains_key new (key v))) (values old) it.0 it.1).1 in
          let here : not (contains_key new (key it.0)) ≡ false = ap (λ k. not (contains_key new k)) (sym it.2) ∙ ap (λ o. not (is_some o)) there in
          let wrong : true ≡ false = sym without ∙ here in
          cc
