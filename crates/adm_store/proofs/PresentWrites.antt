-- The rows of present schools after a commit drops some of them and adds others.
use Rattle.std.proofs.Common.{◌≡◌, ◌∙◌, inl, inr, pos, Bool, true, false, not, cond, ◌&&◌, List, [], ◌∷◌, ◌++◌, map, filter, fold, flat_map, ℕ, Some, None, Option, option_and_then, refl, sym, ap, ap₂, subst, append-nil, arith}
use Rattle.std.specs.Prelude.{if◌then◌else◌}
use Rattle.std.specs.List.Sorted.{IsPermutation}
use Rattle.std.specs.Ordering.{is_eq, eq_by_cmp, nat_cmp}
use Rattle.std.specs.Cmp.{nat_cmp_total, tied_itself}
use Rattle.std.specs.Cmp.Lexicographic.{same_text, nat_list_eq_equiv}
use Rattle.std.specs.FinMap.{FinMap, get, values, contains_key, nat_cmp-IsAntisymmetric}
use Rattle.std.proofs.lemmas.Bool.{false≢true}
use Rattle.std.proofs.lemmas.Bool.Decides.{nat_tests}
use Rattle.std.proofs.lemmas.Int.{ints}
use Rattle.std.proofs.lemmas.Grind.{flat_map-append}
use Rattle.std.proofs.lemmas.List.{map-append}
use Rattle.std.proofs.lemmas.List.Elements.{filter-append}
use Rattle.std.proofs.lemmas.Option.{same_Some}
use Rattle.std.proofs.lemmas.List.Sorted.{IsPermutation-trans, IsPermutation-map, IsPermutation-append, IsPermutation-append_left, IsPermutation-sym}
use Rattle.sqlite_value.proofs.OrderLemmas.{value_cmp-Int}
use Rattle.sqlite_rules.specs.Lists.{Has}
use Rattle.sqlite_rules.proofs.ListLemmas.{test_from, fails_from}
use Rattle.sqlite_trees.proofs.ListLemmas.{flat_map_same_on, IsPermutation-flat_map}
use Rattle.sqlite.specs.Order.{Row, value_cmp}
use Rattle.sqlite.specs.declared.types.Value.TheVariants.{Int}
use Rattle.adm_lists.proofs.Orders.{same_key}
use Rattle.adm_types.specs.Children.{present_row, present_of_child, present_of_import, presents_of}
use Rattle.adm_types.specs.declared.rows.Child.{Child}
use Rattle.adm_types.specs.declared.rows.Row.{Row as ImportRow}
use Rattle.adm_types.specs.declared.rows.PresentRow.{PresentRow}
use Rattle.adm_schema.specs.Effects.{begins_with, drop_of}
use Rattle.adm_register.specs.Difference.{AreNew}
use Rattle.adm_rows.specs.Forms.{truth_code}
use Rattle.adm_rows.specs.Present.{present_columns, moved_key, was_present, is_same_present, moved_from, present_removed_by, present_added_by, present_removed_of, present_added_of}
use Rattle.adm_rows.proofs.Entries.{value_at}
use Rattle.adm_store.proofs.AddedRows.{old_and_new}
use Rattle.adm_store.proofs.DroppedRows.{left_by, drop_each, drops, drops_moved}
use Rattle.adm_rows.proofs.PresentLists.{flat_map_at, flat_map_where, filter-flat_map, from_given, is_given, middle_turned, flat_map_both, given, given_then}

-- ---- what a key drops

-- the test by which the key of a child drops a row
begins_key : (key : ℕ) (row : PresentRow) → begins_with (moved_key key) (present_columns row) ≡ (eq_by_cmp nat_cmp row.child key && not row.is_imported)
begins_key key row = λ i. same_number row.child key i && is_child row.is_imported i
  where
    same_number : (a k : ℕ) → is_eq (value_cmp (Int (pos a)) (Int (pos k))) ≡ eq_by_cmp nat_cmp a k
    same_number a k = ap is_eq (value_cmp-Int (pos a) (pos k)) ∙ grind (arith, ints, nat_tests)

    is_child : (b : Bool) → (is_eq (value_cmp (Int (pos (truth_code b))) (Int (pos 0))) && true) ≡ not b
    is_child true = ap (λ o. is_eq o && true) (value_cmp-Int (pos 1) (pos 0))
    is_child false = ap (λ o. is_eq o && true) (value_cmp-Int (pos 0) (pos 0))

-- none of these keys drops the row
abbrev is_left : List ℕ → PresentRow → Bool
is_left = left_by present_columns moved_key

-- the rows of an imported row stay
left_import : (keys : List ℕ) (child : ℕ) (school : List ℕ) → is_left keys (record { child = child; is_imported = true; school = school }) ≡ true
left_import keys child school =
    test_from _ keys (λ key h. ap not (begins_key key (record { child = child; is_imported = true; school = school })) ∙ out (eq_by_cmp nat_cmp child key))
  where
    out : (b : Bool) → not (b && false) ≡ true
    out true = refl
    out false = refl

-- the row of a child stays where its number is no key
left_child : (keys : List ℕ) (child : ℕ) (school : List ℕ) → (Has keys child → ⊥) → is_left keys (record { child = child; is_imported = false; school = school }) ≡ true
left_child keys child school no_key =
    test_from _ keys (λ key h. ap not (begins_key key (record { child = child; is_imported = false; school = school })) ∙ go key h (eq_by_cmp nat_cmp child key) refl)
  where
    go : (key : ℕ) → Has keys key → (b : Bool) → eq_by_cmp nat_cmp child key ≡ b → not (eq_by_cmp nat_cmp child key && true) ≡ true
    go key h true tie = absurd (no_key (subst (Has keys) (sym (same_key nat_cmp-IsAntisymmetric child key tie)) h))
    go key h false tie = ap (λ b. not (b && true)) tie

-- and goes where it is one
gone_child : (keys : List ℕ) (child : ℕ) (school : List ℕ) → Has keys child → is_left keys (record { child = child; is_imported = false; school = school }) ≡ false
gone_child keys child school h =
    fails_from _ keys child h (ap not (begins_key child (record { child = child; is_imported = false; school = school })) ∙ ap (λ o. not (is_eq o && true)) (tied_itself nat_cmp_total child))

-- ---- the present school of one child

-- schools that test as the same are the same
same_present : (was is : Option (List ℕ)) → is_same_present was is ≡ true → was ≡ is
same_present None None e = refl
same_present None (Some y) e = absurd (false≢true e)
same_present (Some x) None e = absurd (false≢true e)
same_present (Some x) (Some y) e = ap Some (same_text x y (sym e))

-- and each tests as itself
present_itself : (o : Option (List ℕ)) → is_same_present o o ≡ true
present_itself None = refl
present_itself (Some x) = nat_list_eq_equiv.refl x

-- the row that a child keeps
abbrev kept_by : FinMap nat_cmp Child → Child → List PresentRow
kept_by before child = if is_same_present (was_present before child.no) child.present then present_row child.no false (was_present before child.no) else []

-- with the row that comes it is the row of the child
kept_and_arrived : (before : FinMap nat_cmp Child) (child : Child) → kept_by before child ++ present_added_by before child ≡ present_of_child child
kept_and_arrived before child = go (is_same_present (was_present before child.no) child.present) refl
  where
    go : (b : Bool) → is_same_present (was_present before child.no) child.present ≡ b
        → (if b then present_row child.no false (was_present before child.no) else []) ++ (if b then [] else present_of_child child) ≡ present_of_child child
    go true is = append-nil _ ∙ ap (present_row child.no false) (same_present _ _ is)
    go false is = refl

-- a child whose present school is as it was moves no number
none_moved : (was : Option (List ℕ)) (child : Child) → is_same_present was child.present ≡ true → moved_from was child ≡ []
none_moved None child is = refl
none_moved (Some s) child is = ap (λ b. if b then [] else child.no ∷ []) is

-- and brings none
none_arrived : (before : FinMap nat_cmp Child) (child : Child) → is_same_present (was_present before child.no) child.present ≡ true → present_added_by before child ≡ []
none_arrived before child is = ap (λ b. if b then [] else present_of_child child) is

-- what moves is the child's own number, and only where the school is another one
own_moved : (was : Option (List ℕ)) (child : Child) (number : ℕ) → Has (moved_from was child) number → (number ≡ child.no) × (is_same_present was child.present ≡ false)
own_moved None child number h = absurd h
own_moved (Some s) child number h = go (is_same_present (Some s) child.present) refl h
  where
    go : (b : Bool) → is_same_present (Some s) child.present ≡ b → Has (if b then [] else child.no ∷ []) number → (number ≡ child.no) × (is_same_present (Some s) child.present ≡ false)
    go true is at = absurd at
    go false is (inl at) = (at, is)
    go false is (inr at) = absurd at

-- ---- the children of two registers

module _ (old new : FinMap nat_cmp Child) (own_old : (k : ℕ) (c : Child) → get old k ≡ Some c → c.no ≡ k) (own_new : (k : ℕ) (c : Child) → get new k ≡ Some c → c.no ≡ k)
    (stay : (k : ℕ) → contains_key old k ≡ true → contains_key new k ≡ true) where
  -- the row that a child of the new register had
  abbrev old_row : Child → List PresentRow
  old_row c = present_row c.no false (was_present old c.no)

  -- these are the rows of the old one
  old_rows : flat_map present_of_child (values old) ≡ flat_map old_row (values new)
  old_rows = given_then nat_cmp_total nat_cmp-IsAntisymmetric old new stay (λ (c : Child). c.no) own_new present_of_child
      ∙ flat_map_same_on (λ c. given present_of_child (get old c.no)) old_row (λ c. at c.no (get old c.no) (own_old c.no)) (values new)
    where
      at : (k : ℕ) (o : Option Child) → ((w : Child) → o ≡ Some w → w.no ≡ k) → given present_of_child o ≡ present_row k false (option_and_then (λ (w : Child). w.present) o)
      at k None own = refl
      at k (Some w) own = ap (λ n. present_row n false w.present) (own w refl)

  -- the numbers that move, of all children
  abbrev moved : List ℕ
  moved = flat_map (present_removed_by old) (values new)

  -- a child whose present school is as it was has no number that moves
  not_moved : (c : Child) → Has (values new) c → is_same_present (was_present old c.no) c.present ≡ true → Has moved c.no → ⊥
  not_moved c there as_was h =
      let it = from_given (present_removed_by old) (values new) c.no h in
      let by = own_moved (was_present old it.0.no) it.0 c.no it.2 in
      let one = value_at nat_cmp_total nat_cmp-IsAntisymmetric (λ (w : Child). w.no) new own_new c there in
      let other = value_at nat_cmp_total nat_cmp-IsAntisymmetric (λ (w : Child). w.no) new own_new it.0 it.1 in
      let is : c ≡ it.0 = same_Some c it.0 (sym one ∙ ap (get new) by.0 ∙ other) in
      false≢true (sym by.1 ∙ ap (λ (w : Child). is_same_present (was_present old w.no) w.present) (sym is) ∙ as_was)

  -- the row that a child had remains just where it keeps it
  left_row : (c : Child) → Has (values new) c → filter (is_left moved) (old_row c) ≡ kept_by old c
  left_row c there = go (was_present old c.no) refl
    where
      left : (s : List ℕ) → was_present old c.no ≡ Some s → (b : Bool) → is_same_present (Some s) c.present ≡ b → is_left moved (record { child = c.no; is_imported = false; school = s }) ≡ b
      left s was true is = left_child moved c.no s (not_moved c there (ap (λ o. is_same_present o c.present) was ∙ is))
      left s was false is = gone_child moved c.no s (is_given (present_removed_by old) (values new) c c.no there
          (subst (λ o. Has (moved_from o c) c.no) (sym was) (subst (λ b. Has (if b then [] else c.no ∷ []) c.no) (sym is) (inl refl))))

      none : (o : Option (List ℕ)) → (if is_same_present None o then present_row c.no false None else []) ≡ []
      none None = refl
      none (Some s) = refl

      go : (o : Option (List ℕ)) → was_present old c.no ≡ o → filter (is_left moved) (present_row c.no false (was_present old c.no)) ≡ kept_by old c
      go None was = ap (λ o. filter (is_left moved) (present_row c.no false o)) was ∙ sym (none c.present) ∙ ap (λ o. if is_same_present o c.present then present_row c.no false o else []) (sym was)
      go (Some s) was =
          let row : PresentRow = record { child = c.no; is_imported = false; school = s } in
          ap (λ o. filter (is_left moved) (present_row c.no false o)) was
          ∙ ap (λ b. cond b (row ∷ []) []) (left s was (is_same_present (Some s) c.present) refl)
          ∙ ap (λ o. if is_same_present o c.present then present_row c.no false o else []) (sym was)

  module _ (news : List Child) (differ : AreNew (λ (c : Child). c.no) old new news) where
    -- a child that did not change has the present school that it had
    as_it_was : (c : Child) → Has (values new) c → differ.is_new c ≡ false → is_same_present (was_present old c.no) c.present ≡ true
    as_it_was c there is = go (is_same_present (was_present old c.no) c.present) refl
      where
        go : (b : Bool) → is_same_present (was_present old c.no) c.present ≡ b → is_same_present (was_present old c.no) c.present ≡ true
        go true same = same
        go false other =
            let here = value_at nat_cmp_total nat_cmp-IsAntisymmetric (λ (w : Child). w.no) new own_new c there in
            absurd (false≢true (sym is ∙ (differ.decides c here).1
            (λ was. false≢true (sym other ∙ ap (λ o. is_same_present (option_and_then (λ (w : Child). w.present) o) c.present) was ∙ present_itself c.present))))

    -- so the numbers that move are those of the changed children
    moved_are : present_removed_of old news ≡ moved
    moved_are = ap (flat_map (present_removed_by old)) differ.rows_are
        ∙ flat_map_where (present_removed_by old) differ.is_new (values new) (λ c there is. none_moved (was_present old c.no) c (as_it_was c there is))

    -- and so are the rows that come
    arrived_are : flat_map (present_added_by old) news ≡ flat_map (present_added_by old) (values new)
    arrived_are = ap (flat_map (present_added_by old)) differ.rows_are ∙ flat_map_where (present_added_by old) differ.is_new (values new) (λ c there is. none_arrived old c (as_it_was c there is))

  -- what remains of the rows, before rows of imported rows
  left_rows : (imported : List ImportRow) → filter (is_left moved) (presents_of (values old) imported) ≡ flat_map (kept_by old) (values new) ++ flat_map present_of_import imported
  left_rows imported =
      filter-append (is_left moved) (flat_map present_of_child (values old)) (flat_map present_of_import imported)
      ∙ ap₂ ◌++◌ (ap (filter (is_left moved)) old_rows ∙ filter-flat_map (is_left moved) old_row (values new)
      ∙ flat_map_at (λ c. filter (is_left moved) (old_row c)) (kept_by old) (values new) left_row)
      (filter-flat_map (is_left moved) present_of_import imported
      ∙ flat_map_same_on (λ r. filter (is_left moved) (present_of_import r)) present_of_import (λ r. at r.child.no r.child.present) imported)
    where
      at : (k : ℕ) (o : Option (List ℕ)) → filter (is_left moved) (present_row k true o) ≡ present_row k true o
      at k None = refl
      at k (Some s) = let row : PresentRow = record { child = k; is_imported = true; school = s } in ap (λ b. cond b (row ∷ []) []) (left_import moved k s)

  -- what children keep and what comes are their rows
  rows_now : IsPermutation (flat_map present_of_child (values new)) (flat_map (kept_by old) (values new) ++ flat_map (present_added_by old) (values new))
  rows_now =
      subst (λ l. IsPermutation l (flat_map (kept_by old) (values new) ++ flat_map (present_added_by old) (values new)))
      (flat_map_same_on (λ c. kept_by old c ++ present_added_by old c) present_of_child (kept_and_arrived old) (values new))
      (flat_map_both (kept_by old) (present_added_by old) (values new))

  -- a table that had the rows of the old present schools has those of the new ones, once those that moved are dropped and those that come are added
  pub presents_written : (news : List Child) → AreNew (λ (c : Child). c.no) old new news
      → (iold inew : FinMap nat_cmp ImportRow) → ((k : ℕ) (r : ImportRow) → get inew k ≡ Some r → r.child.no ≡ k) → ((k : ℕ) (r : ImportRow) → get iold k ≡ Some r → get inew k ≡ Some r)
      → (inews : List ImportRow) → AreNew (λ (r : ImportRow). r.child.no) iold inew inews
      → (was now : List Row) → IsPermutation (map present_columns (presents_of (values old) (values iold))) was
      → IsPermutation (fold (λ rows key. drop_of key rows) was (map moved_key (present_removed_of old news)) ++ map present_columns (present_added_of old news inews)) now
      → IsPermutation (map present_columns (presents_of (values new) (values inew))) now
  presents_written news differ iold inew own_inew kept inews idiffer was now held writes =
      let stays = flat_map (kept_by old) (values new) in
      let comes = flat_map (present_added_by old) (values new) in
      let before = flat_map present_of_import (values iold) in
      let more = flat_map present_of_import inews in
      let imports : IsPermutation (flat_map present_of_import (values inew)) (before ++ more) =
      subst (IsPermutation _) (flat_map-append present_of_import (values iold) inews)
      (IsPermutation-flat_map present_of_import _ _ (IsPermutation-sym _ _
      (old_and_new nat_cmp_total nat_cmp-IsAntisymmetric (λ (r : ImportRow). r.child.no) iold inew own_inew kept inews idiffer))) in
      let rows = IsPermutation-trans _ _ _ (IsPermutation-append _ _ _ _ rows_now imports) (middle_turned stays comes before more) in
      let put = subst (IsPermutation _) (map-append present_columns (stays ++ before) (comes ++ more)) (IsPermutation-map present_columns _ _ rows) in
      let left : drop_each (map present_columns (presents_of (values old) (values iold))) (map moved_key (present_removed_of old news)) ≡ map present_columns (stays ++ before) =
      ap (λ ks. drop_each (map present_columns (presents_of (values old) (values iold))) (map moved_key ks)) (moved_are news differ)
      ∙ drops present_columns moved_key moved (presents_of (values old) (values iold)) ∙ ap (map present_columns) (left_rows (values iold)) in
      let dropped = subst (λ l. IsPermutation l (drop_each was (map moved_key (present_removed_of old news)))) left (drops_moved (map moved_key (present_removed_of old news)) _ _ held) in
      let added = ap (λ l. map present_columns (l ++ more)) (arrived_are news differ) in
      let write = subst (λ l. IsPermutation (drop_each was (map moved_key (present_removed_of old news)) ++ l) now) added writes in
      IsPermutation-trans _ _ _ put (IsPermutation-trans _ _ _ (IsPermutation-append_left (map present_columns (comes ++ more)) _ _ dropped) write)
