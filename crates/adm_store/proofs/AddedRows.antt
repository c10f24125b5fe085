-- Two maps of rows, of which the second has all of the first as they were, and more.
use Rattle.std.proofs.Common.{◌≡◌, ◌∙◌, inl, inr, Bool, true, false, not, cond, List, [], ◌∷◌, ◌++◌, map, filter, Some, None, Option, refl, sym, ap, subst}
use Rattle.std.specs.Prelude.{is_some}
use Rattle.std.specs.declared.cmp.Ordering.{Ordering}
use Rattle.std.specs.Cmp.{IsTotalOrder}
use Rattle.std.specs.List.Sorted.{IsPermutation}
use Rattle.std.proofs.lemmas.List.{map-append}
use Rattle.std.proofs.lemmas.List.Sorted.{IsPermutation-sym, IsPermutation-filter_both, IsPermutation-map, IsPermutation-trans, IsPermutation-append_left}
use Rattle.std.specs.FinMap.Entries.{where_key, is_sorted-where_key, find-where_key, same_entries}
use Rattle.std.specs.FinMap.{FinMap, get, values, entries, entries_sorted, get-entries, contains_key, IsAntisymmetric}
use Rattle.sqlite.specs.Order.{Row}
use Rattle.sqlite_rules.specs.Lists.{Has}
use Rattle.std.proofs.lemmas.Option.{none-some, same_Some}
use Rattle.adm_register.specs.Difference.{AreNew}
use Rattle.adm_rows.proofs.Entries.{own_entry, value_at}
use Rattle.adm_rows.proofs.MapRows.{row_there}

pub same_where : {X : Type 0} (p q : X → Bool) (xs : List X) → ((x : X) → Has xs x → p x ≡ q x) → filter p xs ≡ filter q xs
same_where p q [] same = refl
same_where p q (x ∷ xs) same = λ i. cond (same x (inl refl) i) (x ∷ same_where p q xs (λ y h. same y (inr h)) i) (same_where p q xs (λ y h. same y (inr h)) i)

-- the values at the keys that pass a test, where each row is at its own key
module _ {K V : Type 0} (R : K → K → Ordering) (key : V → K) where
  pub filter_values : (p : K → Bool) (es : List (K × V)) → ((e : K × V) → Has es e → key e.1 ≡ e.0)
      → filter (λ v. p (key v)) (map (λ (e : K × V). e.1) es) ≡ map (λ (e : K × V). e.1) (where_key R p es)
  filter_values p [] at = refl
  filter_values p (e ∷ es) at = go (p e.0) (p (key e.1)) (ap p (at e (inl refl))) (filter_values p es (λ x h. at x (inr h)))
    where
      go : (a b : Bool) → b ≡ a → filter (λ v. p (key v)) (map (λ (e : K × V). e.1) es) ≡ map (λ (e : K × V). e.1) (where_key R p es)
          → cond b (e.1 ∷ filter (λ v. p (key v)) (map (λ (e : K × V). e.1) es)) (filter (λ v. p (key v)) (map (λ (e : K × V). e.1) es)) ≡ map (λ (e : K × V). e.1)
          (cond a (e ∷ where_key R p es) (where_key R p es))
      go true true is rest = ap (λ xs. e.1 ∷ xs) rest
      go true false is rest = absurd (cc)
      go false true is rest = absurd (cc)
      go false false is rest = rest

-- where each row is at its own key, and each of the old ones is in the new map as it was
module _ {K V : Type 0} {R : K → K → Ordering} (total : IsTotalOrder R) (same : IsAntisymmetric R) (key : V → K) (old new : FinMap R V)
    (own : (k : K) (v : V) → get new k ≡ Some v → key v ≡ k) (kept : (k : K) (v : V) → get old k ≡ Some v → get new k ≡ Some v) where
  -- the entries of the new map at the keys of the old one are the old one's
  old_entries : where_key R (contains_key old) (entries new) ≡ entries old
  old_entries =
      let p = contains_key old in
      let es = entries new in
      same_entries R total same (where_key R p es) (entries old) (is_sorted-where_key R p es (entries_sorted new)) (entries_sorted old)
      (λ q. find-where_key R p q (λ x tie. ap p (sym (same q x tie))) es ∙ ap (λ o. cond (p q) o None) (sym (get-entries new q)) ∙ go q (get old q) refl ∙ get-entries old q)
    where
      go : (q : K) (o : Option V) → get old q ≡ o → cond (is_some (get old q)) (get new q) None ≡ get old q
      go q (Some v) is = ap (λ o. cond (is_some o) (get new q) None) is ∙ kept q v is ∙ sym is
      go q None is = ap (λ o. cond (is_some o) (get new q) None) is ∙ sym is

  module _ (news : List V) (differ : AreNew key old new news) where
    pub old_and_new : IsPermutation (values old ++ news) (values new)
    old_and_new =
        let p = λ (v : V). contains_key old (key v) in
        let both = IsPermutation-sym _ _ (IsPermutation-filter_both p (λ v. not (p v)) (λ v. refl) (values new)) in
        let was = filter_values R key (contains_key old) (entries new) (own_entry total same key new own) ∙ ap (map (λ (e : K × V). e.1)) old_entries in
        let added : news ≡ filter (λ v. not (p v)) (values new) =
        differ.rows_are ∙ same_where differ.is_new (λ v. not (p v)) (values new) (λ v h. let there = value_at total same key new own v h in
        new_where v there (differ.is_new v) refl (get old (key v)) refl) in
        subst (λ xs. IsPermutation (values old ++ xs) (values new)) (sym added) (subst (λ xs. IsPermutation (xs ++ filter (λ v. not (p v)) (values new)) (values new)) was both)
      where
        new_where : (v : V) → get new (key v) ≡ Some v → (b : Bool) → differ.is_new v ≡ b → (o : Option V) → get old (key v) ≡ o → differ.is_new v ≡ not (is_some (get old (key v)))
        new_where v there b is None none = (differ.decides v there).1 (λ e. none-some v (sym none ∙ e)) ∙ sym (ap (λ o. not (is_some o)) none)
        new_where v there true is (Some w) was = absurd ((differ.decides v there).0 is (was ∙ ap Some (same_Some w v (sym (kept (key v) w was) ∙ there))))
        new_where v there false is (Some w) was = is ∙ sym (ap (λ o. not (is_some o)) was)

    -- so a table that had the rows of the old map has those of the new one, once these are added
    pub added_rows : (row_of : V → Row) (written was now : List Row) → written ≡ map row_of news → IsPermutation (map row_of (values old)) was
        → IsPermutation (was ++ written) now → IsPermutation (map row_of (values new)) now
    added_rows row_of written was now is held adds =
        let more = IsPermutation-map row_of _ _ (IsPermutation-sym _ _ old_and_new) in
        let parts = map-append row_of (values old) news ∙ ap (λ xs. map row_of (values old) ++ xs) (sym is) in
        let put = subst (λ xs. IsPermutation (map row_of (values new)) xs) parts more in
        IsPermutation-trans _ _ _ put (IsPermutation-trans _ _ _ (IsPermutation-append_left written _ _ held) adds)

-- rows that are their own keys stay where their keys do
pub keys_kept : {K : Type 0} {R : K → K → Ordering} (old new : FinMap R K) → ((k v : K) → get old k ≡ Some v → v ≡ k) → ((k v : K) → get new k ≡ Some v → v ≡ k)
    → ((k : K) → contains_key old k ≡ true → contains_key new k ≡ true) → (k v : K) → get old k ≡ Some v → get new k ≡ Some v
keys_kept old new was own stay k v there = let it = row_there new k (stay k (ap is_some there)) in it.1 ∙ ap Some (own k it.0 it.1 ∙ sym (was k v there))
