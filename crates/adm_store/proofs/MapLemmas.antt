-- Maps by numbers, and the rows of a table that hold them.
use Rattle.std.proofs.Common.{◌≡◌, ◌∙◌, ◌⊎◌, inl, inr, pos, Bool, true, false, not, cond, List, [], ◌∷◌, map, ℕ, Some, None, Option, refl, sym, ap, subst, arith}
use base.Stored.{Gv, gnil, gnum, gcons}
use Rattle.std.specs.Coded.{Coded}
use Rattle.std.proofs.lemmas.Bool.{and_parts, eqb-true, eq-eqb}
use Rattle.std.specs.Prelude.{T, ◌&&◌, nat_eq, IsTrue}
use Rattle.std.specs.List.Sorted.{IsPermutation}
use Rattle.std.proofs.lemmas.List.Sorted.{IsPermutation-refl, IsPermutation-sym, IsPermutation-trans, IsPermutation-cons, IsPermutation-map, IsPermutation-append_left, IsPermutation-append_comm, Contains-permutation}
use Rattle.std.proofs.lemmas.Int.{ints}
use Rattle.std.proofs.lemmas.Bool.Decides.{nat_tests}
use Rattle.std.specs.declared.cmp.Ordering.{Ordering}
use Rattle.std.specs.declared.cmp.Ordering.TheVariants.{Less, Equal, Greater}
use Rattle.std.specs.Ordering.{is_eq, eq_by_cmp, nat_cmp}
use Rattle.std.specs.Cmp.{IsTotalOrder, tied_itself, eq_by_cmp_equiv, nat_cmp_total}
use Rattle.std.specs.FinMap.Entries.{where_key, put, by_order, is_sorted-where_key, find-where_key, same_entries}
use Rattle.std.specs.FinMap.{FinMap, is_sorted, get, values, insert, remove, entries, entries_sorted, entries-insert, get-entries, get-insert, get-remove, same_map, nat_cmp-IsAntisymmetric}
use Rattle.sqlite.specs.declared.types.Value.TheVariants.{Int}
use Rattle.sqlite.specs.Order.{Row, value_cmp}
use Rattle.sqlite.specs.Tree.{rowid, has_rowid, without_rowid}
use Rattle.sqlite.specs.Edit.{id_in, have_rowids, without_all}
use Rattle.sqlite.specs.View.{is_int}
use Rattle.sqlite_value.proofs.OrderLemmas.{value_cmp-Int}
use Rattle.sqlite_rules.specs.Lists.{Has}
use Rattle.sqlite_rules.proofs.ListLemmas.{has_filtered, has_kept, has_contained, contains_had, test_has, test_from}
use Rattle.std.proofs.lemmas.Option.{none-some, same_Some}
use Rattle.adm_lists.proofs.Tests.{both_hold}
use Rattle.adm_lists.proofs.Orders.{same_key}
use Rattle.adm_register.specs.Difference.{AreNew}
use Rattle.adm_schema.specs.Effects.{put_in, put_each}
use Rattle.adm_schema.proofs.Inside.{put_moved, without_moved}
use Rattle.adm_rows.proofs.Entries.{below, has_value, own_entry, value_at}

less_both : (k a b : ℕ) → nat_cmp k a ≡ Less → nat_cmp a b ≡ Less → nat_cmp k b ≡ Less
less_both k a b p q = grind (arith, nat_tests)

not_tied : (k a : ℕ) → nat_cmp k a ≡ Less → not (eq_by_cmp nat_cmp k a) ≡ true
not_tied k a p = ap (λ o. not (is_eq o)) p

-- a rowid is a number just where the keys tie
same_test : (a k : ℕ) → has_rowid (pos k) (Int (pos a) ∷ []) ≡ eq_by_cmp nat_cmp k a
same_test a k = ap is_eq (value_cmp-Int (pos a) (pos k)) ∙ grind (arith, ints, nat_tests)

swap_front : {X : Type 0} (a b : X) (xs : List X) → IsPermutation (a ∷ b ∷ xs) (b ∷ a ∷ xs)
swap_front a b xs = IsPermutation-append_left xs (a ∷ b ∷ []) (b ∷ a ∷ []) (IsPermutation-append_comm (a ∷ []) (b ∷ []))

number_total : IsTotalOrder nat_cmp
number_total = nat_cmp_total

abbrev apart : ℕ → ℕ → Bool
apart k x = not (eq_by_cmp nat_cmp k x)

turned : {X : Type 0} (b : Bool) (x y : X) → cond b x y ≡ cond (not b) y x
turned true x y = refl
turned false x y = refl

module _ {V : Type 0} where
  -- where each key is above, none is deleted
  all_above : (k : ℕ) (es : List (ℕ × V)) → ((e : ℕ × V) → Has es e → nat_cmp k e.0 ≡ Less) → where_key nat_cmp (apart k) es ≡ es
  all_above k [] above = refl
  all_above k (e ∷ es) above = rw (not_tied k e.0 (above e (inl refl))) (ap (λ xs. e ∷ xs) (all_above k es (λ x h. above x (inr h))))

  -- an entry that is written in its place is one more, beside those of another key
  put_values : (k : ℕ) (v : V) (es : List (ℕ × V)) → T (is_sorted nat_cmp es) → IsPermutation (map (λ e. e.1) (put nat_cmp k v es)) (v ∷ map (λ e. e.1) (where_key nat_cmp (apart k) es))
  put_values k v [] sorted = IsPermutation-refl _
  put_values k v (e ∷ es) sorted =
      let parts = both_hold _ _ sorted in
      go (nat_cmp k e.0) refl (λ x h. below number_total nat_cmp-IsAntisymmetric e.0 es x parts.0 h) (put_values k v es parts.1)
    where
      go : (o : Ordering) → nat_cmp k e.0 ≡ o → ((x : ℕ × V) → Has es x → nat_cmp e.0 x.0 ≡ Less)
          → IsPermutation (map (λ x. x.1) (put nat_cmp k v es)) (v ∷ map (λ x. x.1) (where_key nat_cmp (apart k) es))
          → IsPermutation (map (λ x. x.1) (by_order o ((k, v) ∷ e ∷ es) ((e.0, v) ∷ es) (e ∷ put nat_cmp k v es)))
          (v ∷ map (λ x. x.1) (cond (not (is_eq o)) (e ∷ where_key nat_cmp (apart k) es) (where_key nat_cmp (apart k) es)))
      go Less is above later = rw (all_above k es (λ x h. less_both k e.0 x.0 is (above x h))) (IsPermutation-refl _)
      go Equal is above later = rw (all_above k es (λ x h. subst (λ n. nat_cmp n x.0 ≡ Less) (sym (nat_cmp-IsAntisymmetric k e.0 is)) (above x h))) (IsPermutation-refl _)
      go Greater is above later = IsPermutation-trans _ _ _ (IsPermutation-cons e.1 _ _ later) (swap_front e.1 v _)

  entries-remove : (m : FinMap nat_cmp V) (k : ℕ) → entries (remove m k) ≡ where_key nat_cmp (apart k) (entries m)
  entries-remove m k =
      let test = λ (q : ℕ). get-remove number_total m k q ∙ ap (λ b. cond b None (get m q)) ((eq_by_cmp_equiv number_total).symm q k) ∙ turned (eq_by_cmp nat_cmp k q) None (get m q) in
      same_entries nat_cmp number_total nat_cmp-IsAntisymmetric (entries (remove m k)) (where_key nat_cmp (apart k) (entries m)) (entries_sorted (remove m k))
      (is_sorted-where_key nat_cmp (apart k) (entries m) (entries_sorted m))
      (λ q. sym (get-entries (remove m k) q) ∙ test q ∙ ap (λ o. cond (apart k q) o None) (get-entries m q)
      ∙ sym (find-where_key nat_cmp (apart k) q (λ x tie. ap (apart k) (sym (nat_cmp-IsAntisymmetric q x tie))) (entries m)))

  put_perm : (m : FinMap nat_cmp V) (k : ℕ) (v : V) → IsPermutation (values (insert m k v)) (v ∷ values (remove m k))
  put_perm m k v =
      let put_in_place = subst (λ es. IsPermutation (map (λ e. e.1) es) (v ∷ map (λ e. e.1) (where_key nat_cmp (apart k) (entries m))))
      (sym (entries-insert number_total m k v)) (put_values k v (entries m) (entries_sorted m)) in
      subst (λ es. IsPermutation (values (insert m k v)) (v ∷ map (λ e. e.1) es)) (sym (entries-remove m k)) put_in_place

-- two values are the same where they cannot differ
abbrev pub Stable : Type 0 → Type 0
Stable V = (x y : V) → ((x ≡ y → ⊥) → ⊥) → x ≡ y

pub some_stable : {V : Type 0} → Stable V → (o : Option V) (v : V) → ((o ≡ Some v → ⊥) → ⊥) → o ≡ Some v
some_stable stable None v h = absurd (h (none-some v))
some_stable stable (Some w) v h = ap Some (stable w v (λ differ. h (λ e. differ (same_Some w v e))))

abbrev same_code : Gv → Gv → Bool
same_code gnil gnil = true
same_code gnil (gnum n) = false
same_code gnil (gcons a b) = false
same_code (gnum n) gnil = false
same_code (gnum n) (gnum m) = nat_eq n m
same_code (gnum n) (gcons a b) = false
same_code (gcons a b) gnil = false
same_code (gcons a b) (gnum n) = false
same_code (gcons a b) (gcons c d) = same_code a c && same_code b d

code_is : (x y : Gv) → same_code x y ≡ true → x ≡ y
code_is gnil gnil e = refl
code_is gnil (gnum n) e = absurd (cc)
code_is gnil (gcons a b) e = absurd (cc)
code_is (gnum n) gnil e = absurd (cc)
code_is (gnum n) (gnum m) e = ap gnum (eqb-true n m e)
code_is (gnum n) (gcons a b) e = absurd (cc)
code_is (gcons a b) gnil e = absurd (cc)
code_is (gcons a b) (gnum n) e = absurd (cc)
code_is (gcons a b) (gcons c d) e = λ i. gcons (code_is a c (and_parts _ _ e).0 i) (code_is b d (and_parts _ _ e).1 i)

code_itself : (x : Gv) → same_code x x ≡ true
code_itself gnil = refl
code_itself (gnum n) = eq-eqb n n refl
code_itself (gcons a b) = rw (code_itself a, code_itself b)

-- what has a code is stable
pub coded_stable : {V : Type 0} → Coded V → Stable V
coded_stable c x y h = go (same_code (c.code x) (c.code y)) refl
  where
    go : (b : Bool) → same_code (c.code x) (c.code y) ≡ b → x ≡ y
    go true is = c.inj x y (code_is _ _ is)
    go false is = absurd (h (λ e. let own = code_itself (c.code x) in let other : same_code (c.code x) (c.code x) ≡ false = ap (λ z. same_code (c.code x) (c.code z)) e
        ∙ is in let wrong = sym own ∙ other in cc))

pub both_none : {X : Type 0} (b : Bool) → ◌≡◌ {A = Option X} (cond b None None) None
both_none true = refl
both_none false = refl

pub keyed_moved : (xs ys : List Row) → IsPermutation xs ys → have_rowids xs ≡ true → have_rowids ys ≡ true
keyed_moved xs ys same all = test_from (λ (r : Row). is_int (rowid r)) ys
    (λ r h. test_has (λ (r : Row). is_int (rowid r)) xs r all (has_contained xs r (Contains-permutation ys xs r (IsPermutation-sym xs ys same) (contains_had ys r h))))

-- the rows of a table by the key of each value
module _ {V : Type 0} (key : V → ℕ) (row_of : V → Row) (own_rowid : (v : V) → rowid (row_of v) ≡ Int (pos (key v))) where
  abbrev pub Own : FinMap nat_cmp V → Type 0
  Own m = (k : ℕ) (v : V) → get m k ≡ Some v → key v ≡ k

  row_test : (k : ℕ) (v : V) → has_rowid (pos k) (row_of v) ≡ eq_by_cmp nat_cmp k (key v)
  row_test k v = ap (λ r. is_eq (value_cmp r (Int (pos k)))) (own_rowid v) ∙ same_test (key v) k

  rows_left : (k : ℕ) (es : List (ℕ × V)) → ((e : ℕ × V) → Has es e → key e.1 ≡ e.0)
      → map row_of (map (λ e. e.1) (where_key nat_cmp (apart k) es)) ≡ without_rowid (pos k) (map row_of (map (λ e. e.1) es))
  rows_left k [] own = refl
  rows_left k (e ∷ es) own = go (apart k e.0) (not (has_rowid (pos k) (row_of e.1))) (ap not (row_test k e.1 ∙ ap (eq_by_cmp nat_cmp k) (own e (inl refl)))) (rows_left k es (λ x h. own x (inr h)))
    where
      go : (a b : Bool) → b ≡ a → map row_of (map (λ x. x.1) (where_key nat_cmp (apart k) es)) ≡ without_rowid (pos k) (map row_of (map (λ x. x.1) es))
          → map row_of (map (λ x. x.1) (cond a (e ∷ where_key nat_cmp (apart k) es) (where_key nat_cmp (apart k) es))) ≡ cond b
          (row_of e.1 ∷ without_rowid (pos k) (map row_of (map (λ x. x.1) es))) (without_rowid (pos k) (map row_of (map (λ x. x.1) es)))
      go true true same rest = ap (λ xs. row_of e.1 ∷ xs) rest
      go true false same rest = absurd (cc)
      go false true same rest = absurd (cc)
      go false false same rest = rest

  -- the rows of a map from which a key is removed, and of one into which a value is written
  cut_rows : (m : FinMap nat_cmp V) (k : ℕ) → Own m → map row_of (values (remove m k)) ≡ without_rowid (pos k) (map row_of (values m))
  cut_rows m k own = ap (λ es. map row_of (map (λ e. e.1) es)) (entries-remove m k) ∙ rows_left k (entries m) (own_entry number_total nat_cmp-IsAntisymmetric key m own)

  put_rows : (m : FinMap nat_cmp V) (v : V) → Own m → IsPermutation (map row_of (values (insert m (key v) v))) (put_in (row_of v) (map row_of (values m)))
  put_rows m v own =
      let moved = IsPermutation-map row_of _ _ (put_perm m (key v) v) in
      let number : id_in (rowid (row_of v)) ≡ pos (key v) = ap id_in (own_rowid v) in
      subst (λ xs. IsPermutation (map row_of (values (insert m (key v) v))) (row_of v ∷ xs)) (cut_rows m (key v) own ∙ ap (λ n. without_rowid n (map row_of (values m))) (sym number)) moved

  own_removed : (m : FinMap nat_cmp V) (k : ℕ) → Own m → Own (remove m k)
  own_removed m k own q v there = go (eq_by_cmp nat_cmp q k) (sym (get-remove number_total m k q) ∙ there)
    where
      go : (b : Bool) → cond b None (get m q) ≡ Some v → key v ≡ q
      go true here = absurd (none-some v here)
      go false here = own q v here

  own_inserted : (m : FinMap nat_cmp V) (x : V) → Own m → Own (insert m (key x) x)
  own_inserted m x own q v there = go (eq_by_cmp nat_cmp q (key x)) refl (sym (get-insert number_total m (key x) x q) ∙ there)
    where
      go : (b : Bool) → eq_by_cmp nat_cmp q (key x) ≡ b → cond b (Some x) (get m q) ≡ Some v → key v ≡ q
      go true tie here = ap key (sym (same_Some x v here)) ∙ sym (same_key nat_cmp-IsAntisymmetric q (key x) tie)
      go false tie here = own q v here

  -- the map with each of these values put in, and with each of these keys deleted
  abbrev pub with_each : FinMap nat_cmp V → List V → FinMap nat_cmp V
  with_each m [] = m
  with_each m (v ∷ vs) = with_each (insert m (key v) v) vs

  abbrev pub less_each : FinMap nat_cmp V → List ℕ → FinMap nat_cmp V
  less_each m [] = m
  less_each m (k ∷ ks) = less_each (remove m k) ks

  pub each_put : (news : List V) (m : FinMap nat_cmp V) (rows : List Row) → Own m → IsPermutation (map row_of (values m)) rows
      → IsPermutation (map row_of (values (with_each m news))) (put_each rows (map row_of news))
  each_put [] m rows own held = held
  each_put (v ∷ news) m rows own held =
      each_put news (insert m (key v) v) (put_in (row_of v) rows) (own_inserted m v own) (IsPermutation-trans _ _ _ (put_rows m v own) (put_moved (row_of v) _ _ held))

  pub each_cut : (keys : List ℕ) (m : FinMap nat_cmp V) (rows : List Row) → Own m → IsPermutation (map row_of (values m)) rows
      → IsPermutation (map row_of (values (less_each m keys))) (without_all rows (map pos keys))
  each_cut [] m rows own held = held
  each_cut (k ∷ keys) m rows own held =
      each_cut keys (remove m k) (without_rowid (pos k) rows) (own_removed m k own)
      (subst (λ xs. IsPermutation xs (without_rowid (pos k) rows)) (sym (cut_rows m k own)) (without_moved (pos k) _ _ held))

  pub own_less : (keys : List ℕ) (m : FinMap nat_cmp V) → Own m → Own (less_each m keys)
  own_less [] m own = own
  own_less (k ∷ keys) m own = own_less keys (remove m k) (own_removed m k own)

  -- ---- what such a map has at each key

  pub with_each_gets : (new : FinMap nat_cmp V) (news : List V) (m : FinMap nat_cmp V) → ((v : V) → Has news v → get new (key v) ≡ Some v)
      → ((q : ℕ) → (get m q ≡ get new q) ⊎ ((v : V) × Has news v × (key v ≡ q))) → (q : ℕ) → get (with_each m news) q ≡ get new q
  with_each_gets new [] m there all q = elim (all q) [ inl same ↦ same | inr it ↦ absurd it.1 ]
  with_each_gets new (x ∷ news) m there all q = with_each_gets new news (insert m (key x) x) (λ v h. there v (inr h)) (λ k. next k (eq_by_cmp nat_cmp k (key x)) refl (all k)) q
    where
      next : (k : ℕ) (b : Bool) → eq_by_cmp nat_cmp k (key x) ≡ b → (get m k ≡ get new k) ⊎ ((v : V) × Has (x ∷ news) v × (key v ≡ k))
          → (get (insert m (key x) x) k ≡ get new k) ⊎ ((v : V) × Has news v × (key v ≡ k))
      next k true tie before = inl (get-insert number_total m (key x) x k ∙ ap (λ b. cond b (Some x) (get m k)) tie ∙ sym (there x (inl refl))
          ∙ ap (get new) (sym (same_key nat_cmp-IsAntisymmetric k (key x) tie)))
      next k false tie (inl same) = inl (get-insert number_total m (key x) x k ∙ ap (λ b. cond b (Some x) (get m k)) tie ∙ same)
      next k false tie (inr it) = elim it.1 [
        | inl is ↦ absurd (
            let wrong : eq_by_cmp nat_cmp k (key x) ≡ true = ap (λ n. eq_by_cmp nat_cmp n (key x)) (sym it.2 ∙ ap key is) ∙ ap is_eq (tied_itself number_total (key x)) in
            let e = sym wrong ∙ tie in
            cc
            )
        | inr h ↦ inr (it.0, h, it.2)
      ]

  pub still_none : (keys : List ℕ) (m : FinMap nat_cmp V) (q : ℕ) → get m q ≡ None → get (less_each m keys) q ≡ None
  still_none [] m q none = none
  still_none (k ∷ keys) m q none = still_none keys (remove m k) q (get-remove number_total m k q ∙ ap (cond (eq_by_cmp nat_cmp q k) None) none ∙ both_none (eq_by_cmp nat_cmp q k))

  pub gone_key : (keys : List ℕ) (m : FinMap nat_cmp V) (q : ℕ) → Has keys q → get (less_each m keys) q ≡ None
  gone_key [] m q h = absurd h
  gone_key (k ∷ keys) m q (inl is) = still_none keys (remove m k) q (get-remove number_total m k q
      ∙ ap (λ b. cond b None (get m q)) (ap (λ n. eq_by_cmp nat_cmp n k) is ∙ ap is_eq (tied_itself number_total k)))
  gone_key (k ∷ keys) m q (inr h) = gone_key keys (remove m k) q h

  pub other_key : (keys : List ℕ) (m : FinMap nat_cmp V) (q : ℕ) → (Has keys q → ⊥) → get (less_each m keys) q ≡ get m q
  other_key [] m q apart_from = refl
  other_key (k ∷ keys) m q apart_from = other_key keys (remove m k) q (λ h. apart_from (inr h)) ∙ get-remove number_total m k q ∙ go (eq_by_cmp nat_cmp q k) refl
    where
      go : (b : Bool) → eq_by_cmp nat_cmp q k ≡ b → cond b None (get m q) ≡ get m q
      go true tie = absurd (apart_from (inl (same_key nat_cmp-IsAntisymmetric q k tie)))
      go false tie = refl

  -- ---- the values of the new map that the old one has not

  -- the old map, less some keys, with the new values is the new map
  pub new_map : Stable V → (old new start : FinMap nat_cmp V) (news : List V) → Own new → AreNew key old new news
      → ((q : ℕ) → get new q ≡ None → get start q ≡ None) → ((q : ℕ) (v : V) → get new q ≡ Some v → get start q ≡ get old q) → with_each start news ≡ new
  new_map stable old new start news own differ gone stays =
      same_map number_total nat_cmp-IsAntisymmetric (with_each start news) new (with_each_gets new news start
      (λ v h. value_at number_total nat_cmp-IsAntisymmetric key new own v (has_filtered differ.is_new (values new) v (subst (λ xs. Has xs v) differ.rows_are h)).0)
      (λ q. at q (get new q) refl))
    where
      known : (q : ℕ) (v : V) → get new q ≡ Some v → (b : Bool) → differ.is_new v ≡ b → (get start q ≡ get new q) ⊎ ((w : V) × Has news w × (key w ≡ q))
      known q v there true is =
          inr (v, subst (λ xs. Has xs v) (sym differ.rows_are) (has_kept differ.is_new (values new) v (has_value number_total nat_cmp-IsAntisymmetric new q v there) is), own q v there)
      known q v there false is =
          let here : key v ≡ q = own q v there in
          let both = differ.decides v (ap (get new) here ∙ there) in
          let was : get old (key v) ≡ Some v = some_stable stable (get old (key v)) v (λ differs. absurd (let e = sym (both.1 differs) ∙ is in cc)) in
          inl (stays q v there ∙ ap (get old) (sym here) ∙ was ∙ sym there)

      at : (q : ℕ) (o : Option V) → get new q ≡ o → (get start q ≡ get new q) ⊎ ((w : V) × Has news w × (key w ≡ q))
      at q None none = inl (gone q none ∙ sym none)
      at q (Some v) there = known q v there (differ.is_new v) refl

  -- so a table that held the old map, less some keys, holds the new one once the new values are written
  pub holds_new : Stable V → (old new : FinMap nat_cmp V) (keys : List ℕ) (news : List V) (rows : List Row) → Own old → Own new → AreNew key old new news
      → ((q : ℕ) → get new q ≡ None → get (less_each old keys) q ≡ None) → ((q : ℕ) (v : V) → get new q ≡ Some v → get (less_each old keys) q ≡ get old q)
      → IsPermutation (map row_of (values old)) rows → IsPermutation (map row_of (values new)) (put_each (without_all rows (map pos keys)) (map row_of news))
  holds_new stable old new keys news rows own_old own_new differ gone stays held =
      subst (λ m. IsPermutation (map row_of (values m)) (put_each (without_all rows (map pos keys)) (map row_of news))) (new_map stable old new (less_each old keys) news own_new differ gone stays)
      (each_put news (less_each old keys) (without_all rows (map pos keys)) (own_less keys old own_old) (each_cut keys old rows own_old held))

  -- ---- a table that a commit writes

  -- such rows have integers as their keys
  pub rows_keyed : (vs : List V) → have_rowids (map row_of vs) ≡ true
  rows_keyed [] = refl
  rows_keyed (v ∷ vs) = rw (own_rowid v, rows_keyed vs)

  -- a table that held the old map holds the new one, where what was written is the new values and the keys are those that are gone
  pub table_new : Stable V → (old new : FinMap nat_cmp V) (keys : List ℕ) (news : List V) (written was now : List Row) → Own old → Own new → AreNew key old new news
      → ((q : ℕ) → get new q ≡ None → get (less_each old keys) q ≡ None) → ((q : ℕ) (v : V) → get new q ≡ Some v → get (less_each old keys) q ≡ get old q)
      → written ≡ map row_of news → IsPermutation (map row_of (values old)) was
      → (IsTrue (have_rowids was) → IsPermutation (put_each (without_all was (map pos keys)) written) now) → IsPermutation (map row_of (values new)) now
  table_new stable old new keys news written was now own_old own_new differ gone stays same held turns =
      let keyed = keyed_moved (map row_of (values old)) was held (rows_keyed (values old)) in
      let holds = holds_new stable old new keys news was own_old own_new differ gone stays held in
      IsPermutation-trans _ _ _ (subst (λ xs. IsPermutation (map row_of (values new)) (put_each (without_all was (map pos keys)) xs)) (sym same) holds) (turns keyed)
