-- What is in a table after rows were put and rows were cut.
use Rattle.std.proofs.Common.{◌≡◌, ◌∙◌, ap, sym, subst, refl, cond, true, false, ℕ, List, [], ◌∷◌, Some, None}
use Rattle.std.specs.Prelude.{is_some, map, not}
use Rattle.std.specs.declared.cmp.Ordering.{Ordering}
use Rattle.std.specs.Ordering.{eq_by_cmp}
use Rattle.std.specs.List.{AllByRecursion}
use Rattle.std.specs.Cmp.{IsTotalOrder, eq_by_cmp_equiv}
use Rattle.std.specs.FinMap.{FinMap, get, insert, remove, contains_key, from_entries, get-insert, get-remove, same_map, IsAntisymmetric}
use Rattle.std.proofs.lemmas.Option.{none-some, same_Some}
use Rattle.adm_lists.proofs.Options.{none_of}
use Rattle.adm_lists.proofs.Orders.{same_key, tied}
use Rattle.adm_lists.proofs.Each.{list_all-weaker}
use Rattle.adm_lists.proofs.Maps.{get_rows, contains_key-insert}
use Rattle.adm_types.specs.declared.rows.School.{School}
use Rattle.adm_types.specs.Limits.{code_cmp}
use Rattle.adm_table.specs.TableRows.{row_at, put_at, cut_at}
use Rattle.adm_register.specs.Change.{put_all, cut_all}
use Rattle.adm_register.specs.WellFormed.{AllRows, are_schools}

-- each key that was there is there still
abbrev pub Grows : {K V : Type 0} {R : K → K → Ordering} → FinMap R V → FinMap R V → Type 0
Grows {K} old new = (q : K) → contains_key old q ≡ true → contains_key new q ≡ true

module _ {K V : Type 0} {R : K → K → Ordering} (total : IsTotalOrder R) where
  pub get-put_all : (key : V → K) (rows : FinMap R V) (put : List V) (q : K) → get (put_all key rows put) q ≡ put_at R key put q (get rows q)
  get-put_all key rows [] q = refl
  get-put_all key rows (row ∷ put) q =
      get-put_all key (insert rows (key row) row) put q
      ∙ ap (put_at R key put q) (get-insert total rows (key row) row q ∙ ap (λ b. cond b (Some row) (get rows q)) ((eq_by_cmp_equiv total).symm q (key row)))

  pub get-cut_all : (rows : FinMap R V) (cut : List K) (q : K) → get (cut_all rows cut) q ≡ cut_at R cut q (get rows q)
  get-cut_all rows [] q = refl
  get-cut_all rows (key ∷ cut) q =
      get-cut_all (remove rows key) cut q
      ∙ ap (cut_at R cut q) (get-remove total rows key q ∙ ap (λ b. cond b None (get rows q)) ((eq_by_cmp_equiv total).symm q key))

  -- rows of a table that differ so make the map after the change
  pub changed_rows : IsAntisymmetric R → (key : V → K) (old new : List (K × V)) (cut : List K) (put : List V)
      → ((q : K) → row_at R new q ≡ put_at R key put q (cut_at R cut q (row_at R old q)))
      → from_entries {R = R} new ≡ put_all key (cut_all (from_entries old) cut) put
  changed_rows same key old new cut put differ = same_map total same _ _ (λ q.
      get_rows total new q ∙ differ q
      ∙ sym (get-put_all key (cut_all (from_entries old) cut) put q ∙ ap (put_at R key put q) (get-cut_all (from_entries old) cut q ∙ ap (cut_at R cut q) (get_rows total old q))))

  pub put_all-grows : (key : V → K) (rows : FinMap R V) (put : List V) → Grows rows (put_all key rows put)
  put_all-grows key rows [] q there = there
  put_all-grows key rows (row ∷ put) q there = put_all-grows key (insert rows (key row) row) put q (contains_key-insert total rows (key row) row q there)

  -- what is there after a cut was there before
  pub there_before : (rows : FinMap R V) (cut : List K) (q : K) (row : V) → get (cut_all rows cut) q ≡ Some row → get rows q ≡ Some row
  there_before rows [] q row there = there
  there_before rows (key ∷ cut) q row there =
      elim (eq_by_cmp R q key) as (λ b. cond b None (get rows q) ≡ Some row → get rows q ≡ Some row) [
        | true ↦ λ none. absurd (none-some row none)
        | false ↦ λ is. is
      ] (sym (get-remove total rows key q) ∙ there_before (remove rows key) cut q row there)

  -- a row of a key that is written nowhere stays
  pub stays : (key : V → K) (rows : FinMap R V) (put : List V) (q : K) → AllByRecursion (λ row. eq_by_cmp R q (key row) ≡ false) put → get (put_all key rows put) q ≡ get rows q
  stays key rows [] q others = refl
  stays key rows (row ∷ put) q others =
      stays key (insert rows (key row) row) put q others.1 ∙ get-insert total rows (key row) row q ∙ ap (λ b. cond b (Some row) (get rows q)) others.0

  -- so the rows that were there stay where each that is written is new
  pub all_stay : IsAntisymmetric R → (key : V → K) (rows : FinMap R V) (put : List V) → AllByRecursion (λ row. not (contains_key rows (key row)) ≡ true) put
      → (q : K) (row : V) → get rows q ≡ Some row → get (put_all key rows put) q ≡ Some row
  all_stay same key rows put new q row there = stays key rows put q (others put new) ∙ there
    where
      others : (them : List V) → AllByRecursion (λ it. not (contains_key rows (key it)) ≡ true) them → AllByRecursion (λ it. eq_by_cmp R q (key it) ≡ false) them
      others [] news = tt
      others (it ∷ them) news = (
        elim (eq_by_cmp R q (key it)) as (λ b. eq_by_cmp R q (key it) ≡ b → b ≡ false) [
          | true ↦ λ tie. absurd (none-some row (sym (none_of _ news.0) ∙ ap (get rows) (sym (same_key same q (key it) tie)) ∙ there))
          | false ↦ λ tie. refl
        ] refl,
        others them news.1,
      )

  -- the rows that were there fit where they stay, and so do those that are written
  pub AllRows-put_all : IsAntisymmetric R → (key : V → K) (P : K → V → Type 0) (rows : FinMap R V) (put : List V)
      → ((q : K) (row : V) → get rows q ≡ Some row → get (put_all key rows put) q ≡ Some row → P q row)
      → AllByRecursion (λ row. P (key row) row) put → AllRows P (put_all key rows put)
  AllRows-put_all same key P rows [] stay fit = λ q row there. stay q row there there
  AllRows-put_all same key P rows (first ∷ put) stay fit =
      AllRows-put_all same key P (insert rows (key first) first) put (λ q row there still.
      elim (eq_by_cmp R q (key first)) as (λ b. eq_by_cmp R q (key first) ≡ b → cond b (Some first) (get rows q) ≡ Some row → P q row) [
        | true ↦ λ tie here. subst (λ k. P k row) (sym (same_key same q (key first) tie)) (subst (P (key first)) (same_Some first row here) fit.0)
        | false ↦ λ tie here. stay q row here still
      ] refl (sym (get-insert total rows (key first) first q) ∙ there)) fit.1

module _ {X K V : Type 0} {R : K → K → Ordering} (total : IsTotalOrder R) (key : V → K) (f : X → V) where
  -- what is written is there
  pub there_each : (rows : FinMap R V) (xs : List X) → AllByRecursion (λ x. contains_key (put_all key rows (map f xs)) (key (f x)) ≡ true) xs
  there_each rows [] = tt
  there_each rows (x ∷ xs) = (
    put_all-grows total key (insert rows (key (f x)) (f x)) (map f xs) (key (f x))
        (ap is_some (get-insert total rows (key (f x)) (f x) (key (f x)) ∙ ap (λ b. cond b (Some (f x)) (get rows (key (f x)))) (tied total (key (f x))))),
    there_each (insert rows (key (f x)) (f x)) xs,
  )

-- schools that were there are there still
pub are_schools-grows : (old new : FinMap code_cmp School) → Grows old new → (codes : List (List ℕ)) → are_schools old codes ≡ true → are_schools new codes ≡ true
are_schools-grows old new grows codes all = list_all-weaker _ _ grows codes all
