-- What of a change differs from the old rows is just the difference of the old rows and the new.
use Rattle.std.proofs.Common.{◌≡◌, ◌∙◌, ap, sym, subst, refl, cond, Bool, true, false, List, [], ◌∷◌, Some, None, map}
use Rattle.std.specs.Prelude.{Option, is_some, not, ◌&&◌, ◌||◌, ◌↔◌}
use Rattle.std.specs.declared.cmp.Ordering.{Ordering}
use Rattle.std.specs.declared.cmp.Ordering.TheVariants.{Less}
use Rattle.std.specs.Ordering.{eq_by_cmp}
use Rattle.std.specs.List.{AllByRecursion, filter, list_any}
use Rattle.std.specs.List.Sorted.{IsStrictlySortedBy}
use Rattle.std.specs.Map.{keys_of, values_of}
use Rattle.std.specs.BTreeMap.{is_at}
use Rattle.std.specs.Cmp.{IsTotalOrder, eq_by_cmp_equiv, nat_cmp_total}
use Rattle.std.specs.Cmp.Lexicographic.{nat_list_cmp_total}
use Rattle.std.specs.FinMap.{FinMap, get, entries, values, contains_key, contains_key-keys, same_map, from_entries, IsAntisymmetric, nat_cmp-IsAntisymmetric}
use Rattle.std.proofs.lemmas.Map.Entries.{option_filter, lookup-filter-values}
use Rattle.std.proofs.lemmas.Map.Keys.{IsDistinct-from_sorted}
use Rattle.std.proofs.lemmas.Map.Made.{is_some-lookup}
use Rattle.std.proofs.lemmas.List.Kept.{IsStrictlySortedBy-filter}
use Rattle.std.proofs.Math.Bool.{and-false}
use Rattle.std.proofs.lemmas.Bool.{false≢true}
use Rattle.adm_lists.proofs.Options.{none_of}
use Rattle.adm_lists.proofs.Orders.{same_key}
use Rattle.adm_lists.proofs.Maps.{get_rows, none_at, entries_in_order, map_of_entries}
use Rattle.adm_types.specs.declared.rows.School.{School}
use Rattle.adm_types.specs.declared.rows.Child.{Child}
use Rattle.adm_types.specs.declared.rows.Application.{Application}
use Rattle.adm_types.specs.declared.rows.Row.{Row as ImportRow}
use Rattle.adm_types.specs.declared.rows.PlaceRow.{PlaceRow}
use Rattle.adm_types.specs.declared.rows.LeftPair.{LeftPair}
use Rattle.adm_types.specs.declared.draws.Draw.{Draw}
use Rattle.adm_register.specs.declared.difference.Difference.{Difference}
use Rattle.adm_register.specs.State.{State}
use Rattle.adm_table.specs.TableRows.{row_at, put_at, cut_at}
use Rattle.adm_register.specs.Change.{put_all, cut_all, after}
use Rattle.adm_register.specs.Difference.{AreNew, IsDifference, differing}
use Rattle.adm_table.specs.Same.{is_other, is_same_school, is_same_child, is_same_application, is_same_place, is_same_left, is_same_draw, is_same_import}
use Rattle.adm_register.specs.WellFormed.{WellFormed, AllRows}
use Rattle.adm_register.proofs.TableMaps.{entries_rows}
use Rattle.adm_register.proofs.Maps.{code_cmp-IsAntisymmetric, left_cmp-total, left_cmp-IsAntisymmetric}
use Rattle.adm_register.proofs.SameRows.{entries_at_own_keys}
use Rattle.adm_register.proofs.Puts.{get-put_all, get-cut_all, there_before}
use Rattle.adm_register.proofs.SameLemmas.{same_school, same_child, same_application, same_place, same_left, same_draw, same_import, other_row}
use Rattle.adm_register.specs.Fits.{IsTidyIn, IsTidy}

pairs : {K V : Type 0} → (V → K) → List V → List (K × V)
pairs key [] = []
pairs key (row ∷ rows) = (key row, row) ∷ pairs key rows

module _ {K V : Type 0} (key : V → K) where
  keys_of-pairs : (rows : List V) → keys_of (pairs key rows) ≡ map key rows
  unfolding pairs
  keys_of-pairs [] = refl
  keys_of-pairs (row ∷ rows) = λ i. key row ∷ keys_of-pairs rows i

  values_of-pairs : (rows : List V) → values_of (pairs key rows) ≡ rows
  unfolding pairs
  values_of-pairs [] = refl
  values_of-pairs (row ∷ rows) = λ i. row ∷ values_of-pairs rows i

values_of-filter : {K V : Type 0} (p : V → Bool) (es : List (K × V)) → values_of (filter (λ e. p e.1) es) ≡ filter p (values_of es)
values_of-filter p [] = refl
values_of-filter p (e ∷ es) =
    elim (p e.1) as (λ b. values_of (cond b (e ∷ filter (λ d. p d.1) es) (filter (λ d. p d.1) es)) ≡ cond b (e.1 ∷ filter p (values_of es)) (filter p (values_of es))) [
      | true ↦ λ i. e.1 ∷ values_of-filter p es i
      | false ↦ values_of-filter p es
    ]

-- the first, or else the second
or_else : {V : Type 0} → Option V → Option V → Option V
or_else None other = other
or_else (Some row) other = Some row

module _ {K V : Type 0} {R : K → K → Ordering} (total : IsTotalOrder R) (same : IsAntisymmetric R) where
  sorted-filter : (p : V → Bool) (es : List (K × V)) → IsStrictlySortedBy R (keys_of es) → IsStrictlySortedBy R (keys_of (filter (λ e. p e.1) es))
  unfolding IsStrictlySortedBy
  sorted-filter p [] sorted = tt
  sorted-filter p (e ∷ es) sorted =
      elim (p e.1) as (λ b. IsStrictlySortedBy R (keys_of (cond b (e ∷ filter (λ d. p d.1) es) (filter (λ d. p d.1) es)))) [
        | true ↦ (below es sorted.0, sorted-filter p es sorted.1)
        | false ↦ sorted-filter p es sorted.1
      ]
    where
      below : (ds : List (K × V)) → AllByRecursion (λ k. R e.0 k ≡ Less) (keys_of ds) → AllByRecursion (λ k. R e.0 k ≡ Less) (keys_of (filter (λ d. p d.1) ds))
      below [] all = tt
      below (d ∷ ds) all =
          elim (p d.1) as (λ b. AllByRecursion (λ k. R e.0 k ≡ Less) (keys_of (cond b (d ∷ filter (λ g. p g.1) ds) (filter (λ g. p g.1) ds)))) [
            | true ↦ (all.0, below ds all.1)
            | false ↦ below ds all.1
          ]

  -- rows in order that are found alike are the same rows
  same_rows : (es ds : List (K × V)) → IsStrictlySortedBy R (keys_of es) → IsStrictlySortedBy R (keys_of ds) → ((q : K) → row_at R es q ≡ row_at R ds q) → es ≡ ds
  same_rows es ds sorted other alike =
      sym (entries_rows total es sorted)
      ∙ ap entries (same_map total same (from_entries {R = R} es) (from_entries {R = R} ds) (λ q. get_rows total es q ∙ alike q ∙ sym (get_rows total ds q)))
      ∙ entries_rows total ds other

  -- rows put in order are each at its key
  put_at-sorted : (key : V → K) (put : List V) → IsStrictlySortedBy R (map key put) → (q : K) (there : Option V) → put_at R key put q there ≡ or_else (row_at R (pairs key put) q) there
  unfolding IsStrictlySortedBy pairs or_else
  put_at-sorted key [] sorted q there = refl
  put_at-sorted key (row ∷ put) sorted q there =
      put_at-sorted key put sorted.1 q (cond (is_at (R (key row)) q) (Some row) there)
      ∙ ap (λ b. or_else (row_at R (pairs key put) q) (cond b (Some row) there)) ((eq_by_cmp_equiv total).symm (key row) q)
      ∙ elim (is_at (R q) (key row)) as (λ b. is_at (R q) (key row) ≡ b
      → or_else (row_at R (pairs key put) q) (cond b (Some row) there) ≡ or_else (cond b (Some row) (row_at R (pairs key put) q)) there) [
        | true ↦ λ tie.
            let above = subst (AllByRecursion (λ k. R (key row) k ≡ Less)) (sym (keys_of-pairs key put)) sorted.0 in
            let none = ap (row_at R (pairs key put)) (same_key same q (key row) tie) ∙ none_at R (key row) (pairs key put) above in
            ap (λ o. or_else o (Some row)) none
        | false ↦ λ tie. refl
      ] refl

  row_of_map : (m : FinMap R V) (q : K) → row_at R (entries m) q ≡ get m q
  row_of_map m q = sym (get_rows total (entries m) q) ∙ ap (λ n. get n q) (map_of_entries total same m)

  found-filter : (p : V → Bool) (es : List (K × V)) → IsStrictlySortedBy R (keys_of es) → (q : K) → row_at R (filter (λ e. p e.1) es) q ≡ option_filter p (row_at R es q)
  found-filter p es sorted q = lookup-filter-values (eq_by_cmp_equiv total) p q es (IsDistinct-from_sorted R (keys_of es) sorted)

  module _ (key : V → K) (test : V → V → Bool) (decides : (x y : V)
      → (test x y ≡ true) ↔ (x ≡ y)) (old : FinMap R V) (own : AllRows (λ k v. key v ≡ k) old) (cut : List K) (put : List V) (tidy : IsTidyIn R key cut put) where
    abbrev new : FinMap R V
    new = put_all key (cut_all old cut) put

    abbrev differs : V → Bool
    differs row = is_other test (get old (key row)) row

    get_new : (q : K) → get new q ≡ or_else (row_at R (pairs key put) q) (get (cut_all old cut) q)
    get_new q = get-put_all total key (cut_all old cut) put q ∙ put_at-sorted key put tidy.put_sorted q (get (cut_all old cut) q)

    -- a row that was there before does not differ
    was_there : (q : K) (row : V) → get old q ≡ Some row → differs row ≡ false
    was_there q row there =
        let at : get old (key row) ≡ Some row = ap (get old) (own q row there) ∙ there in
        ap (λ o. is_other test o row) at ∙ ap not ((decides row row).1 refl)

    kept_apart : (q : K) → option_filter differs (get (cut_all old cut) q) ≡ None
    kept_apart q = elim (get (cut_all old cut) q) as (λ o. get (cut_all old cut) q ≡ o → option_filter differs o ≡ None) [
      | None ↦ λ is. refl
      | Some row ↦ λ is. ap (λ b. cond b (Some row) None) (was_there q row (there_before total old cut q row is))
    ] refl

    alike : (q : K) → option_filter differs (row_at R (pairs key put) q) ≡ option_filter differs (or_else (row_at R (pairs key put) q) (get (cut_all old cut) q))
    unfolding or_else
    alike q = elim (row_at R (pairs key put) q) as (λ o. option_filter differs o ≡ option_filter differs (or_else o (get (cut_all old cut) q))) [
      | None ↦ sym (kept_apart q)
      | Some row ↦ refl
    ]

    -- the rows that are written and differ are just those that are new
    pub exactly_new : AreNew key old new (filter differs put)
    exactly_new = record {
      is_new = differs;
      decides = λ row there. other_row test decides (get old (key row)) row;
      rows_are =
          let in_order = subst (IsStrictlySortedBy R) (sym (keys_of-pairs key put)) tidy.put_sorted in
          let one = filter (λ (e : K × V). differs e.1) (pairs key put) in
          let other = filter (λ (e : K × V). differs e.1) (entries new) in
          let rows : one ≡ other = same_rows one other (sorted-filter differs (pairs key put) in_order) (sorted-filter differs (entries new) (entries_in_order new)) (λ q.
          found-filter differs (pairs key put) in_order q ∙ alike q ∙ sym (found-filter differs (entries new) (entries_in_order new) q ∙ ap (option_filter differs) (row_of_map new q ∙ get_new q))) in
          ap (filter differs) (sym (values_of-pairs key put)) ∙ sym (values_of-filter differs (pairs key put)) ∙ ap values_of rows ∙ values_of-filter differs (entries new);
    }

-- keys in order of which the same are there are the same keys
units : {K : Type 0} → List K → List (K × Unit {0})
units [] = []
units (k ∷ ks) = (k, tt) ∷ units ks

keys_of-units : {K : Type 0} (ks : List K) → keys_of (units ks) ≡ ks
unfolding units
keys_of-units [] = refl
keys_of-units (k ∷ ks) = λ i. k ∷ keys_of-units ks i

row_at-units : {K : Type 0} (R : K → K → Ordering) (ks : List K) (q : K) → row_at R (units ks) q ≡ cond (list_any (eq_by_cmp R q) ks) (Some tt) None
unfolding units
row_at-units R [] q = refl
row_at-units R (k ∷ ks) q = elim (eq_by_cmp R q k) as (λ b. cond b (Some tt) (row_at R (units ks) q) ≡ cond (b || list_any (eq_by_cmp R q) ks) (Some tt) None) [
  | true ↦ refl
  | false ↦ row_at-units R ks q
]

filter-map : {A B : Type 0} (f : A → B) (p : B → Bool) (xs : List A) → map f (filter (λ x. p (f x)) xs) ≡ filter p (map f xs)
filter-map f p [] = refl
filter-map f p (x ∷ xs) = elim (p (f x)) as (λ b. map f (cond b (x ∷ filter (λ y. p (f y)) xs) (filter (λ y. p (f y)) xs)) ≡ cond b (f x ∷ filter p (map f xs)) (filter p (map f xs))) [
  | true ↦ λ i. f x ∷ filter-map f p xs i
  | false ↦ filter-map f p xs
]

module _ {K : Type 0} {R : K → K → Ordering} (total : IsTotalOrder R) (same : IsAntisymmetric R) where
  same_keys : (xs ys : List K) → IsStrictlySortedBy R xs → IsStrictlySortedBy R ys → ((q : K) → list_any (eq_by_cmp R q) xs ≡ list_any (eq_by_cmp R q) ys) → xs ≡ ys
  same_keys xs ys sorted other alike =
      let rows = same_rows total same (units xs) (units ys) (subst (IsStrictlySortedBy R) (sym (keys_of-units xs)) sorted) (subst (IsStrictlySortedBy R) (sym (keys_of-units ys)) other)
      (λ q. row_at-units R xs q ∙ ap (λ b. cond b (Some tt) None) (alike q) ∙ sym (row_at-units R ys q)) in
      sym (keys_of-units xs) ∙ ap keys_of rows ∙ keys_of-units ys

  any-filter : (p : K → Bool) (xs : List K) (q : K) → list_any (eq_by_cmp R q) (filter p xs) ≡ (list_any (eq_by_cmp R q) xs && p q)
  any-filter p [] q = refl
  any-filter p (x ∷ xs) q =
      elim (eq_by_cmp R q x) as (λ b. eq_by_cmp R q x ≡ b → list_any (eq_by_cmp R q) (cond (p x) (x ∷ filter p xs) (filter p xs)) ≡ ((b || list_any (eq_by_cmp R q) xs) && p q)) [
        | true ↦ λ tie. elim (p x) as (λ b. p x ≡ b → list_any (eq_by_cmp R q) (cond b (x ∷ filter p xs) (filter p xs)) ≡ p q) [
          | true ↦ λ is. ap (λ b. b || list_any (eq_by_cmp R q) (filter p xs)) tie ∙ sym (ap p (same_key same q x tie) ∙ is)
          | false ↦ λ is. any-filter p xs q ∙ ap (λ b. list_any (eq_by_cmp R q) xs && b) (ap p (same_key same q x tie) ∙ is) ∙ and-false (list_any (eq_by_cmp R q) xs)
              ∙ sym (ap p (same_key same q x tie) ∙ is)
        ] refl
        | false ↦ λ tie. elim (p x) as (λ b. list_any (eq_by_cmp R q) (cond b (x ∷ filter p xs) (filter p xs)) ≡ (list_any (eq_by_cmp R q) xs && p q)) [
          | true ↦ ap (λ b. b || list_any (eq_by_cmp R q) (filter p xs)) tie ∙ any-filter p xs q
          | false ↦ any-filter p xs q
        ]
      ] refl

  -- what holds of each key holds of one that is among them
  at_one : (P : K → Type 0) (ks : List K) (q : K) → AllByRecursion P ks → list_any (eq_by_cmp R q) ks ≡ true → P q
  at_one P [] q all among = absurd (false≢true among)
  at_one P (k ∷ ks) q all among = elim (eq_by_cmp R q k) as (λ b. eq_by_cmp R q k ≡ b → (b || list_any (eq_by_cmp R q) ks) ≡ true → P q) [
    | true ↦ λ tie _. subst P (sym (same_key same q k tie)) all.0
    | false ↦ λ tie rest. at_one P ks q all.1 rest
  ] refl among

  -- what is at a key after a cut
  cut_at-any : {V : Type 0} (cut : List K) (q : K) (there : Option V) → cut_at R cut q there ≡ cond (list_any (eq_by_cmp R q) cut) None there
  cut_at-any [] q there = refl
  cut_at-any (k ∷ cut) q there =
      cut_at-any cut q (cond (is_at (R k) q) None there)
      ∙ ap (λ b. cond (list_any (eq_by_cmp R q) cut) None (cond b None there)) ((eq_by_cmp_equiv total).symm k q)
      ∙ both (eq_by_cmp R q k) (list_any (eq_by_cmp R q) cut)
    where
      both : (a b : Bool) → cond b None (cond a None there) ≡ cond (a || b) None there
      both true true = refl
      both true false = refl
      both false b = refl

module _ {K V : Type 0} {R : K → K → Ordering} (total : IsTotalOrder R) (same : IsAntisymmetric R) (key : V
    → K) (old : FinMap R V) (own : AllRows (λ k v. key v ≡ k) old) (cut : List K) (put : List V) (tidy : IsTidyIn R key cut put) where
  abbrev changed : FinMap R V
  changed = put_all key (cut_all old cut) put

  at : (q : K) → get changed q ≡ or_else (row_at R (pairs key put) q) (cond (list_any (eq_by_cmp R q) cut) None (get old q))
  at q = get-put_all total key (cut_all old cut) put q ∙ put_at-sorted total same key put tidy.put_sorted q (get (cut_all old cut) q)
      ∙ ap (or_else (row_at R (pairs key put) q)) (get-cut_all total old cut q ∙ cut_at-any total same cut q (get old q))

  not_put : (q : K) → list_any (eq_by_cmp R q) cut ≡ true → row_at R (pairs key put) q ≡ None
  not_put q among =
      let none = at_one total same (λ k. list_any (eq_by_cmp R k) (map key put) ≡ false) cut q tidy.apart among in
      none_of (row_at R (pairs key put) q) (ap not (is_some-lookup (eq_by_cmp R q) (pairs key put) ∙ ap (list_any (eq_by_cmp R q)) (keys_of-pairs key put) ∙ none))

  gone : (q : K) → (contains_key old q && not (contains_key changed q)) ≡ (list_any (eq_by_cmp R q) cut && contains_key old q)
  unfolding or_else
  gone q =
      ap (λ o. contains_key old q && not (is_some o)) (at q)
      ∙ elim (list_any (eq_by_cmp R q) cut) as (λ b. list_any (eq_by_cmp R q) cut ≡ b
      → (contains_key old q && not (is_some (or_else (row_at R (pairs key put) q) (cond b None (get old q))))) ≡ (b && contains_key old q)) [
        | true ↦ λ among. ap (λ o. contains_key old q && not (is_some (or_else o None))) (not_put q among) ∙ and_true (contains_key old q)
        | false ↦ λ among. stays (row_at R (pairs key put) q) (get old q)
      ] refl
    where
      and_true : (b : Bool) → (b && true) ≡ b
      and_true true = refl
      and_true false = refl

      stays : (o p : Option V) → (is_some p && not (is_some (or_else o p))) ≡ false
      stays None None = refl
      stays None (Some row) = refl
      stays (Some row) None = refl
      stays (Some row) (Some other) = refl

  -- the keys that are deleted and were there are just those of the rows that ended
  pub exactly_ended : filter (contains_key old) cut ≡ map key (filter (λ v. not (contains_key changed (key v))) (values old))
  exactly_ended =
      let p : K → Bool = λ k. not (contains_key changed k) in
      sym (filter-map key p (values old) ∙ ap (filter p) (entries_at_own_keys total same key old own)
      ∙ same_keys total same (filter p (keys_of (entries old))) (filter (contains_key old) cut)
      (IsStrictlySortedBy-filter R p (keys_of (entries old)) (entries_in_order old)) (IsStrictlySortedBy-filter R (contains_key old) cut tidy.cut_sorted)
      (λ q. any-filter total same p (keys_of (entries old)) q ∙ ap (λ b. b && p q) (sym (contains_key-keys old q)) ∙ gone q ∙ sym (any-filter total same (contains_key old) cut q)))

-- what of a tidy change differs from a register is its difference from the state after the change
pub differing_is : (old : State) (change : Difference) → WellFormed old → IsTidy change → IsDifference old (after old change) (differing old change)
differing_is old change well tidy = record {
  schools = exactly_new nat_list_cmp_total code_cmp-IsAntisymmetric (λ (s : School). s.code) is_same_school same_school old.schools
      (λ k s there. (well.base.schools_fit k s there).own_code) [] change.schools tidy.schools;
  children = exactly_new nat_cmp_total nat_cmp-IsAntisymmetric (λ (c : Child). c.no) is_same_child same_child old.children
      (λ k c there. (well.base.children_fit k c there).own_number) [] change.children tidy.children;
  applications = exactly_new nat_cmp_total nat_cmp-IsAntisymmetric (λ (a : Application). a.child) is_same_application same_application old.applications
      (λ k a there. (well.base.applications_fit k a there).own_number) change.ended change.applications tidy.applications;
  places = exactly_new nat_cmp_total nat_cmp-IsAntisymmetric (λ (p : PlaceRow). p.child) is_same_place same_place old.places
      (λ k p there. (well.places.each k p there).own_number) change.vacated change.places tidy.places;
  left = exactly_new left_cmp-total left_cmp-IsAntisymmetric (λ (p : LeftPair). p) is_same_left same_left old.left (λ k p there. (well.left k p there).own_key) [] change.left tidy.left;
  draws = exactly_new nat_cmp_total nat_cmp-IsAntisymmetric (λ (d : Draw). d.number) is_same_draw same_draw old.draws (λ k d there. (well.draws.each k d there).own_number) [] change.draws tidy.draws;
  imported = exactly_new nat_cmp_total nat_cmp-IsAntisymmetric (λ (r : ImportRow). r.child.no) is_same_import same_import old.imported
      (λ k r there. (well.imported k r there).child.own_number) [] change.imported tidy.imported;
  ended = exactly_ended nat_cmp_total nat_cmp-IsAntisymmetric (λ (a : Application). a.child) old.applications
      (λ k a there. (well.base.applications_fit k a there).own_number) change.ended change.applications tidy.applications;
  vacated = exactly_ended nat_cmp_total nat_cmp-IsAntisymmetric (λ (p : PlaceRow). p.child) old.places (λ k p there. (well.places.each k p there).own_number) change.vacated change.places tidy.places;
}
