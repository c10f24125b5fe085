-- One more step of the walks over sites, applicants, schools and lots.
use Rattle.std.proofs.Common.{◌≡◌, ℕ, suc, ◌+◌, ◌-◌, ◌<◌, List, [], ◌∷◌, ◌++◌, length, get_or, take, drop, map, Option, None, Some, Bool, true, false, cond, refl, sym, ap, ◌∙◌, subst, append_assoc, arith, Ordering, drop-cons, length-take-le}
use Rattle.std.specs.Prelude.{option_map, unwrap_or, find, ◌==◌, ◌&&◌, bytes_eq}
use Rattle.std.specs.Ordering.{is_eq, nat_cmp, ordering_then}
use Rattle.std.specs.Cmp.Lexicographic.{slice_cmp}
use Rattle.std.specs.BTreeMap.{BTreeMap, is_at, Updates}
use Rattle.std.specs.Prelude.{option_and_then, slice_get, All}
use Rattle.std.specs.List.{enumerate_from}
use Rattle.std.specs.Cmp.{tied_then}
use Rattle.std.proofs.lemmas.Option.{none-some, slice_get_within, get_or_from_slice_get}
use Rattle.std.proofs.lemmas.List.{get_or-map, length-map}
use Rattle.std.proofs.lemmas.List.Elements.{filter_map-append}
use Rattle.std.proofs.lemmas.Map.Text.{is_eq-slice_cmp}
use Rattle.adm_lists.proofs.Orders.{eq_number}
use Rattle.adm_lists.proofs.Walks.{next_of}
use Rattle.adm_types.specs.declared.draws.Lot.{Lot}
use Rattle.adm_types.specs.declared.rows.Child.{Child}
use Rattle.adm_match.specs.Market.{Code}
use Rattle.adm_match.specs.declared.problem.Wish.{Wish}
use Rattle.adm_round.specs.declared.applicants.Site.{Site}
use Rattle.adm_round.specs.declared.applicants.Pair.{Pair}
use Rattle.adm_round.specs.declared.round_index.RoundIndex.{RoundIndex}
use Rattle.adm_round.specs.Round.{code_of_site, pair_of}
use Rattle.adm_round.specs.Ranks.{wish_at, site_of, wishes_for}
use Rattle.adm_types.specs.Limits.{code_cmp}
use Rattle.adm_round.specs.Lookups.{pair_cmp, first_value, HasFirst, IsRoundIndex}

-- one more row, from the last one on
pub first_more : {K V : Type 0} (cmp : K → K → Ordering) (rows : List (K × V)) (back : ℕ) (row : K × V) (old new : BTreeMap K V) → back < length rows
    → row ≡ get_or rows (length rows - 1 - back) row → HasFirst cmp (drop (length rows - back) rows) old → Updates cmp old new row.0 (Some row.1)
    → HasFirst cmp (drop (length rows - (back + 1)) rows) new
first_more cmp rows back row old new less at was up key =
    let here : ℕ = length rows - (back + 1) in
    let same : length rows - 1 - back ≡ here = omega arith in
    let next : suc here ≡ length rows - back = omega arith in
    let split : drop here rows ≡ row ∷ drop (length rows - back) rows =
    drop-cons rows here row (omega arith) ∙ (λ i. sym (at ∙ ap (λ j. get_or rows j row) same) i ∷ drop (next i) rows) in
    up.0 key ∙ (ap (λ o. cond (is_at (cmp row.0) key) (Some row.1) o) (was key)
    ∙ (chosen (is_at (cmp row.0) key) row (find (λ r. is_eq (cmp r.0 key)) (drop (length rows - back) rows))
    ∙ ap (λ rs. first_value cmp rs key) (sym split)))
  where
    chosen : {K V : Type 0} (b : Bool) (r : K × V) (o : Option (K × V)) → cond b (Some r.1) (option_map (λ x. x.1) o) ≡ option_map (λ x. x.1) (cond b (Some r) o)
    chosen true r o = refl
    chosen false r o = refl

abbrev row_of_lot : Lot → Pair × ℕ
row_of_lot lot = (pair_of lot, lot.lot)

-- one more lot, from the last one on
pub lots_more : (lots : List Lot) (back : ℕ) (lot : Lot) (old new : BTreeMap Pair ℕ) → back < length lots
    → lot ≡ get_or lots (length lots - 1 - back) lot → HasFirst pair_cmp (drop (length lots - back) (map row_of_lot lots)) old
    → Updates pair_cmp old new (pair_of lot) (Some lot.lot) → HasFirst pair_cmp (drop (length lots - (back + 1)) (map row_of_lot lots)) new
lots_more lots back lot old new less at was up =
    subst More (length-map lots row_of_lot) (first_more pair_cmp (map row_of_lot lots) back (row_of_lot lot) old new) less
    (ap row_of_lot at ∙ sym (get_or-map row_of_lot lots (length lots - 1 - back) lot (row_of_lot lot) (omega arith))) was up
  where
    More : ℕ → Type 0
    More n =
        back < n → row_of_lot lot ≡ get_or (map row_of_lot lots) (n - 1 - back) (row_of_lot lot) → HasFirst pair_cmp (drop (n - back) (map row_of_lot lots)) old
        → Updates pair_cmp old new (pair_of lot) (Some lot.lot) → HasFirst pair_cmp (drop (n - (back + 1)) (map row_of_lot lots)) new

both_equal : (s t : Code) (a b : ℕ) → is_eq (ordering_then (slice_cmp nat_cmp s t) (nat_cmp a b)) ≡ (bytes_eq s t && a == b)
both_equal s t a b =
    sym (tied_then (slice_cmp nat_cmp s t) (nat_cmp a b)) ∙ (λ i. is_eq-slice_cmp s t i && eq_number a b i)

-- the lot of a pair is that of the first row with it
lots_found : (lots : List Lot) (school : Code) (child : ℕ) → first_value pair_cmp (map (λ lot. (pair_of lot, lot.lot)) lots)
    (record { school = school; child = child }) ≡ option_map (λ lot. lot.lot) (find (λ lot. bytes_eq lot.school school && lot.child == child) lots)
lots_found [] school child = refl
lots_found (lot ∷ lots) school child =
    let rest : Option (Pair × ℕ) = find (λ row. is_eq (pair_cmp row.0 (record { school = school; child = child }))) (map (λ lot. (pair_of lot, lot.lot)) lots) in
    ap (λ b. option_map (λ (row : Pair × ℕ). row.1) (cond b (Some (pair_of lot, lot.lot)) rest)) (both_equal lot.school school lot.child child)
    ∙ pick (bytes_eq lot.school school && lot.child == child) lot rest _ (lots_found lots school child)
  where
    pick : (b : Bool) (lot : Lot) (o : Option (Pair × ℕ)) (p : Option Lot) → option_map (λ row. row.1) o ≡ option_map (λ l. l.lot) p
        → option_map (λ (row : Pair × ℕ). row.1) (cond b (Some (pair_of lot, lot.lot)) o) ≡ option_map (λ (l : Lot). l.lot) (cond b (Some lot) p)
    pick true lot o p h = refl
    pick false lot o p h = h

abbrev pub row_of_place : ℕ × Site → Code × ℕ
row_of_place place = (code_of_site place.1, place.0)

-- the site of a school is at the index of the first row with its code, where the sites from n on are these
sites_found : (all : List Site) (n : ℕ) (sites : List Site) (code : Code) → ((k : ℕ) → slice_get all (n + k) ≡ slice_get sites k)
    → option_and_then (slice_get all) (first_value code_cmp (map row_of_place (enumerate_from n sites)) code) ≡ site_of sites code
sites_found all n [] code h = refl
sites_found all n (site ∷ sites) code h =
    let rest : Option (Code × ℕ) = find (λ row. is_eq (code_cmp row.0 code)) (map row_of_place (enumerate_from (n + 1) sites)) in
    ap (λ b. option_and_then (slice_get all) (option_map (λ (row : Code × ℕ). row.1) (cond b (Some (code_of_site site, n)) rest))) (is_eq-slice_cmp (code_of_site site) code)
    ∙ pick (bytes_eq (code_of_site site) code) all n site rest _
    (ap (slice_get all) (omega arith) ∙ h 0)
    (sites_found all (n + 1) sites code (λ k. let next : (n + 1) + k ≡ n + suc k = omega arith in ap (slice_get all) next ∙ h (suc k)))
  where
    pick : (b : Bool) (all : List Site) (n : ℕ) (site : Site) (o : Option (Code × ℕ)) (p : Option Site) → slice_get all n ≡ Some site
        → option_and_then (slice_get all) (option_map (λ row. row.1) o) ≡ p
        → option_and_then (slice_get all) (option_map (λ (row : Code × ℕ). row.1) (cond b (Some (code_of_site site, n)) o)) ≡ cond b (Some site) p
    pick true all n site o p at h = at
    pick false all n site o p at h = h

rows_push : (n : ℕ) (sites : List Site) (site : Site) → map row_of_place (enumerate_from n (sites ++ site ∷ [])) ≡ map row_of_place (enumerate_from n sites)
    ++ (code_of_site site, n + length sites) ∷ []
rows_push n [] site = let same : n ≡ n + 0 = omega arith in λ i. (code_of_site site, same i) ∷ []
rows_push n (first ∷ sites) site =
    let same : (n + 1) + length sites ≡ n + suc (length sites) = omega arith in
    ap (λ (rows : List (Code × ℕ)). (code_of_site first, n) ∷ rows)
    (rows_push (n + 1) sites site ∙ ap (λ k. map row_of_place (enumerate_from (n + 1) sites) ++ (code_of_site site, k) ∷ []) same)

pub rows_more : (sites : List Site) (i : ℕ) (site : Site) (old new : List (Code × ℕ)) → i < length sites → site ≡ get_or sites i site
    → old ≡ map row_of_place (enumerate_from 0 (take i sites)) → new ≡ old ++ (code_of_site site, i) ∷ [] → new ≡ map row_of_place (enumerate_from 0 (take (i + 1) sites))
rows_more sites i site old new l at was now =
    let count : 0 + length (take i sites) ≡ i = omega (arith, length-take-le i sites (omega arith)) in
    now ∙ ((λ j. was j ++ (code_of_site site, sym count j) ∷ [])
    ∙ (sym (rows_push 0 (take i sites) site) ∙ ap (λ (xs : List Site). map row_of_place (enumerate_from 0 xs)) (sym (next_of sites i site l at))))

pub is_round_index : (sites : List Site) (lots : List Lot) (round_index : RoundIndex) (index_rows : List (Code × ℕ)) (lot_rows : List (Pair × ℕ))
    → index_rows ≡ map (λ place. (code_of_site place.1, place.0)) (enumerate_from 0 sites) → lot_rows ≡ map (λ lot. (pair_of lot, lot.lot)) lots
    → HasFirst code_cmp index_rows round_index.indices → HasFirst pair_cmp lot_rows round_index.lots → IsRoundIndex sites lots round_index
is_round_index sites lots round_index index_rows lot_rows i l indices found = record {
  sites_found = λ code.
      ap (λ o. option_and_then (slice_get sites) o) (indices code ∙ ap (λ rs. first_value code_cmp rs code) i)
      ∙ sites_found sites 0 sites code (λ k. let same : 0 + k ≡ k = omega arith in ap (slice_get sites) same);
  lots_found = λ school child.
      ap (λ o. unwrap_or o 0) (found (record { school = school; child = child }) ∙ (ap (λ rs. first_value pair_cmp rs (record { school = school; child = child })) l ∙ lots_found lots school child));
}

-- what all sites are, the site that the directory has is
pub fits_in : (P : Site → Type 0) (sites : List Site) (o : Option ℕ) (site : Site) → All P sites → option_and_then (slice_get sites) o ≡ Some site → P site
fits_in P sites None site h e = absurd (none-some site e)
fits_in P sites (Some k) site h e =
    subst P (get_or_from_slice_get sites k site site e) (h k site (slice_get_within sites k site e))

pub wishes_append : (site : Code → Option Site) (lot : Code → ℕ → ℕ) (child : Child) (xs ys : List Code)
    → wishes_for site lot child (xs ++ ys) ≡ wishes_for site lot child xs ++ wishes_for site lot child ys
wishes_append site lot child xs ys = filter_map-append (λ code. option_map (wish_at lot child) (site code)) xs ys

pub wishes_more : (site : Code → Option Site) (lot : Code → ℕ → ℕ) (child : Child) (schools : List Code) (i : ℕ) (school : Code) (first old new : List Wish)
    → i < length schools → school ≡ get_or schools i school → old ≡ first ++ wishes_for site lot child (take i schools)
    → new ≡ old ++ wishes_for site lot child (school ∷ []) → new ≡ first ++ wishes_for site lot child (take (i + 1) schools)
wishes_more site lot child schools i school first old new l at was now =
    let one : List Wish = wishes_for site lot child (school ∷ []) in
    now ∙ (ap (λ (x : List Wish). x ++ one) was ∙ (append_assoc first (wishes_for site lot child (take i schools)) one
    ∙ sym (ap (λ (x : List Code). first ++ wishes_for site lot child x) (next_of schools i school l at)
    ∙ ap (λ (x : List Wish). first ++ x) (wishes_append site lot child (take i schools) (school ∷ [])))))
