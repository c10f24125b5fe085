-- A table whose rows begin with their keys, from which a commit drops the rows that it adds as they are now.
use Rattle.std.proofs.Common.{◌≡◌, ◌∙◌, Bool, true, false, not, cond, List, ◌++◌, map, filter, fold, Some, None, Option, refl, sym, ap, subst}
use Rattle.std.specs.Prelude.{is_some}
use Rattle.std.specs.List.{list_all}
use Rattle.std.specs.List.Sorted.{IsPermutation}
use Rattle.std.specs.declared.cmp.Ordering.{Ordering}
use Rattle.std.specs.Ordering.{is_eq, eq_by_cmp}
use Rattle.std.specs.Cmp.{IsTotalOrder, tied_itself}
use Rattle.std.specs.FinMap.Entries.{where_key, is_sorted-where_key, find-where_key, same_entries}
use Rattle.std.specs.FinMap.{FinMap, get, values, entries, entries_sorted, get-entries, contains_key, IsAntisymmetric}
use Rattle.std.proofs.lemmas.Bool.{false≢true}
use Rattle.std.proofs.lemmas.List.{map-append}
use Rattle.std.proofs.lemmas.List.Sorted.{IsPermutation-filter_both, IsPermutation-map, IsPermutation-trans, IsPermutation-append_left}
use Rattle.std.proofs.lemmas.Option.{none-some, same_Some}
use Rattle.sqlite.specs.Order.{Row}
use Rattle.sqlite_rules.specs.Lists.{Has}
use Rattle.sqlite_rules.proofs.ListLemmas.{has_filtered, has_kept, test_from, fails_from}
use Rattle.adm_lists.proofs.Orders.{same_key}
use Rattle.adm_schema.specs.Effects.{begins_with, drop_of}
use Rattle.adm_register.specs.Difference.{AreNew}
use Rattle.adm_store.proofs.AddedRows.{filter_values, same_where}
use Rattle.adm_store.proofs.DroppedRows.{left_by, drop_each, drops, drops_moved}
use Rattle.adm_rows.proofs.Entries.{has_value, own_entry, value_at}
use Rattle.adm_store.proofs.MapLemmas.{Stable, some_stable, both_none}
use Rattle.adm_rows.proofs.MapRows.{row_there}

not_not : (b : Bool) → b ≡ not (not b)
not_not true = refl
not_not false = refl

-- the keys that go are those of new values that were there
module _ {K V : Type 0} {R : K → K → Ordering} (total : IsTotalOrder R) (same : IsAntisymmetric R) (key : V → K) (stable : Stable V) (old new : FinMap R V)
    (own_old : (k : K) (v : V) → get old k ≡ Some v → key v ≡ k) (own_new : (k : K) (v : V) → get new k ≡ Some v → key v ≡ k)
    (stay : (k : K) → contains_key old k ≡ true → contains_key new k ≡ true) (news : List V) (differ : AreNew key old new news)
    (gone : List K) (covers : (v : V) → Has news v → contains_key old (key v) ≡ true → Has gone (key v)) (only : (k : K) → Has gone k → (v : V) × Has news v × (key v ≡ k)) where
  -- whether no key that goes is this one
  abbrev stays_at : K → Bool
  stays_at k = list_all (λ g. not (eq_by_cmp R k g)) gone

  -- whether what the new map has is what the old one had
  abbrev kept_in : Option V → Bool
  kept_in None = false
  kept_in (Some v) = not (differ.is_new v)

  abbrev is_kept : K → Bool
  is_kept k = kept_in (get new k)

  new_value : (v : V) → Has news v → (get new (key v) ≡ Some v) × (differ.is_new v ≡ true)
  new_value v h =
      let it = has_filtered differ.is_new (values new) v (subst (λ xs. Has xs v) differ.rows_are h) in
      (value_at total same key new own_new v it.0, it.1)

  -- at each key stays of the old map what the new one has kept
  at : (k : K) → cond (stays_at k) (get old k) None ≡ cond (is_kept k) (get new k) None
  at k = by (get old k) refl
    where
      none_kept : get old k ≡ None → (o : Option V) → get new k ≡ o → None ≡ cond (is_kept k) (get new k) None
      none_kept was None there = sym (ap (λ o. cond (kept_in o) o None) there)
      none_kept was (Some v) there =
          let own : key v ≡ k = own_new k v there in
          let new_one : differ.is_new v ≡ true = (differ.decides v (ap (get new) own ∙ there)).1 (λ e. none-some v (sym was ∙ ap (get old) (sym own) ∙ e)) in
          sym (ap (λ o. cond (kept_in o) o None) there ∙ ap (λ b. cond (not b) (Some v) None) new_one)

      -- a value that is new goes
      goes : (v : V) → get new k ≡ Some v → contains_key old k ≡ true → differ.is_new v ≡ true → stays_at k ≡ false
      goes v there had is =
          let own : key v ≡ k = own_new k v there in
          let listed : Has news v = subst (λ xs. Has xs v) (sym differ.rows_are) (has_kept differ.is_new (values new) v (has_value total same new k v there) is) in
          fails_from _ gone k (subst (Has gone) own (covers v listed (ap (contains_key old) own ∙ had))) (ap (λ o. not (is_eq o)) (tied_itself total k))

      -- one that is not stays
      remains : (v : V) → get new k ≡ Some v → differ.is_new v ≡ false → stays_at k ≡ true
      remains v there is = test_from _ gone (λ g h. apart g h (eq_by_cmp R k g) refl)
        where
          apart : (g : K) → Has gone g → (b : Bool) → eq_by_cmp R k g ≡ b → not (eq_by_cmp R k g) ≡ true
          apart g h false tie = ap not tie
          apart g h true tie = absurd (
              let it = only g h in
              let one = new_value it.0 it.1 in
              let here : get new k ≡ Some it.0 = ap (get new) (same_key same k g tie ∙ sym it.2) ∙ one.0 in
              let is_it : v ≡ it.0 = same_Some v it.0 (sym there ∙ here) in
              false≢true (sym is ∙ ap differ.is_new is_it ∙ one.1)
              )

      some_kept : (w v : V) → get old k ≡ Some w → get new k ≡ Some v → (b : Bool) → differ.is_new v ≡ b → cond (stays_at k) (get old k) None ≡ cond (is_kept k) (get new k) None
      some_kept w v was there true is =
          ap (λ b. cond b (get old k) None) (goes v there (ap is_some was) is)
          ∙ sym (ap (λ o. cond (kept_in o) o None) there ∙ ap (λ b. cond (not b) (Some v) None) is)
      some_kept w v was there false is =
          let own : key v ≡ k = own_new k v there in
          let both = differ.decides v (ap (get new) own ∙ there) in
          let before : get old (key v) ≡ Some v = some_stable stable (get old (key v)) v (λ differs. false≢true (sym is ∙ both.1 differs)) in
          ap (λ b. cond b (get old k) None) (remains v there is) ∙ ap (get old) (sym own) ∙ before
          ∙ sym (ap (λ o. cond (kept_in o) o None) there ∙ ap (λ b. cond (not b) (Some v) None) is)

      by : (o : Option V) → get old k ≡ o → cond (stays_at k) (get old k) None ≡ cond (is_kept k) (get new k) None
      by None was = ap (λ o. cond (stays_at k) o None) was ∙ both_none (stays_at k) ∙ none_kept was (get new k) refl
      by (Some w) was = let it = row_there new k (stay k (ap is_some was)) in some_kept w it.0 was it.1 (differ.is_new it.0) refl

  kept_entries : where_key R stays_at (entries old) ≡ where_key R is_kept (entries new)
  kept_entries = same_entries R total same (where_key R stays_at (entries old)) (where_key R is_kept (entries new))
      (is_sorted-where_key R stays_at (entries old) (entries_sorted old)) (is_sorted-where_key R is_kept (entries new) (entries_sorted new))
      (λ q. find-where_key R stays_at q (λ x tie. ap stays_at (sym (same q x tie))) (entries old) ∙ ap (λ o. cond (stays_at q) o None) (sym (get-entries old q)) ∙ at q
      ∙ ap (λ o. cond (is_kept q) o None) (get-entries new q) ∙ sym (find-where_key R is_kept q (λ x tie. ap is_kept (sym (same q x tie))) (entries new)))

  -- what stays of the old values is what the new ones have kept
  kept_values : filter (λ v. stays_at (key v)) (values old) ≡ filter (λ v. not (differ.is_new v)) (values new)
  kept_values =
      filter_values R key stays_at (entries old) (own_entry total same key old own_old) ∙ ap (map (λ (e : K × V). e.1)) kept_entries
      ∙ sym (filter_values R key is_kept (entries new) (own_entry total same key new own_new))
      ∙ same_where (λ v. is_kept (key v)) (λ v. not (differ.is_new v)) (values new) (λ v h. ap kept_in (value_at total same key new own_new v h))

  kept_and_new : IsPermutation (values new) (filter (λ v. stays_at (key v)) (values old) ++ news)
  kept_and_new =
      let both = IsPermutation-filter_both (λ v. not (differ.is_new v)) differ.is_new (λ v. not_not (differ.is_new v)) (values new) in
      subst (λ xs. IsPermutation (values new) (xs ++ news)) (sym kept_values)
      (subst (λ xs. IsPermutation (values new) (filter (λ v. not (differ.is_new v)) (values new) ++ xs)) (sym differ.rows_are) both)

  -- a table that had the rows of the old map has those of the new one, once these keys dropped rows and the new ones are added
  pub replaced_rows : (row_of : V → Row) (key_of : K → Row) → ((k : K) (v : V) → begins_with (key_of k) (row_of v) ≡ eq_by_cmp R (key v) k) → (written was now : List Row) → written ≡ map row_of news
      → IsPermutation (map row_of (values old)) was → IsPermutation (fold (λ rows k. drop_of k rows) was (map key_of gone) ++ written) now → IsPermutation (map row_of (values new)) now
  replaced_rows row_of key_of begins written was now is held writes =
      let stays = filter (λ v. stays_at (key v)) (values old) in
      let tests = same_where (left_by row_of key_of gone) (λ v. stays_at (key v)) (values old) (λ v h i. list_all (λ k. not (begins k v i)) gone) in
      let left : drop_each (map row_of (values old)) (map key_of gone) ≡ map row_of stays = drops row_of key_of gone (values old) ∙ ap (map row_of) tests in
      let dropped = subst (λ l. IsPermutation l (drop_each was (map key_of gone))) left (drops_moved (map key_of gone) _ _ held) in
      let parts : map row_of (stays ++ news) ≡ map row_of stays ++ written = map-append row_of stays news ∙ ap (λ xs. map row_of stays ++ xs) (sym is) in
      let put = subst (IsPermutation (map row_of (values new))) parts (IsPermutation-map row_of _ _ kept_and_new) in
      IsPermutation-trans _ _ _ put (IsPermutation-trans _ _ _ (IsPermutation-append_left written _ _ dropped) writes)
