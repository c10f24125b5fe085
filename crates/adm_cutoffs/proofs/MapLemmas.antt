-- What the maps of a draw have after one more outcome or lot, and what they say when all are in.
use Rattle.std.proofs.Common.{◌≡◌, ◌∙◌, refl, sym, ap, ℕ, suc, ◌+◌, ◌-◌, ◌<◌, List, [], ◌∷◌, length, get_or, take, drop, drop-cons, Bool, true, false, ◌&&◌, cond, Option, Some, None, arith}
use Rattle.std.specs.Prelude.{fold, bytes_eq}
use Rattle.std.specs.List.{filter_map, cons_option}
use Rattle.std.specs.Ordering.{nat_cmp}
use Rattle.std.specs.BTreeMap.{BTreeMap, get, Updates}
use Rattle.std.proofs.lemmas.List.Elements.{filter_map-append}
use Rattle.std.proofs.lemmas.List.Sums.{fold-append}
use Rattle.std.proofs.lemmas.Map.Text.{is_eq-slice_cmp}
use Rattle.std.proofs.lemmas.Slice.Eq.{bytes_eq-Decides}
use Rattle.adm_lists.proofs.Orders.{eq_number}
use Rattle.adm_lists.proofs.Walks.{next_of}
use Rattle.adm_types.specs.Limits.{code_cmp}
use Rattle.adm_types.specs.declared.draws.Lot.{Lot}
use Rattle.adm_types.specs.declared.draws.Outcome.{Outcome}
use Rattle.adm_rank.specs.declared.keys.RankKey.{RankKey}
use Rattle.adm_register.specs.State.{State}
use Rattle.adm_cutoffs.specs.Cutoffs.{outcome_for, is_new_place, key_by_lot, key_taken_in, later, last_of, last_key}
use Rattle.adm_cutoffs.specs.Lookups.{HasOutcomes, HasLastKeys, key_in}

-- one more outcome, from the last one on
pub outcome_more : (outcomes : List Outcome) (back : ℕ) (outcome : Outcome) (old new : BTreeMap ℕ Outcome) → back < length outcomes
    → outcome ≡ get_or outcomes (length outcomes - 1 - back) outcome → HasOutcomes (drop (length outcomes - back) outcomes) old
    → Updates nat_cmp old new outcome.child (Some outcome) → HasOutcomes (drop (length outcomes - (back + 1)) outcomes) new
outcome_more outcomes back outcome old new less at was up child =
    let here : ℕ = length outcomes - (back + 1) in
    let same : length outcomes - 1 - back ≡ here = omega arith in
    let next : suc here ≡ length outcomes - back = omega arith in
    let split : drop here outcomes ≡ outcome ∷ drop (length outcomes - back) outcomes =
    drop-cons outcomes here outcome (omega arith) ∙ (λ i. sym (at ∙ ap (λ j. get_or outcomes j outcome) same) i ∷ drop (next i) outcomes) in
    up.0 child ∙ (λ i. cond (eq_number outcome.child child i) (Some outcome) (was child i)) ∙ ap (λ os. outcome_for os child) (sym split)

-- ---- the last keys

-- the last key so far, with one more where there is one
abbrev with_key : Option RankKey → Option RankKey → Option RankKey
with_key last None = last
with_key last (Some next) = Some (later last next)

fold_one : (last one : Option RankKey) → fold (λ (l : Option RankKey) (n : RankKey). Some (later l n)) last (cons_option one []) ≡ with_key last one
fold_one last None = refl
fold_one last (Some next) = refl

module _ (s : State) (outcomes : List Outcome) where
  -- the last key by the lots so far and one more
  last_more : (lots : List Lot) (i : ℕ) (lot : Lot) (school : List ℕ) → i < length lots → lot ≡ get_or lots i lot
      → last_key s outcomes (take (i + 1) lots) school ≡ with_key (last_key s outcomes (take i lots) school) (key_taken_in s outcomes school lot)
  last_more lots i lot school within at =
      let form = key_taken_in s outcomes school in
      ap (λ xs. last_of (filter_map form xs)) (next_of lots i lot within at) ∙ ap last_of (filter_map-append form (take i lots) (lot ∷ []))
      ∙ fold-append (λ (l : Option RankKey) (n : RankKey). Some (later l n)) None (filter_map form (take i lots)) (cons_option (form lot) [])
      ∙ fold_one (last_key s outcomes (take i lots) school) (form lot)

  -- the key at a school is the one by the map, where it is the lot's school
  key_there : (by_child : BTreeMap ℕ Outcome) → HasOutcomes outcomes by_child → (lot : Lot) (school : List ℕ)
      → key_taken_in s outcomes school lot ≡ cond (bytes_eq lot.school school) (key_in s by_child lot) None
  key_there by_child has lot school =
      (λ i. cond (bytes_eq lot.school school && is_new_place lot.school (sym (has lot.child) i)) (key_by_lot s lot) None)
      ∙ by (bytes_eq lot.school school) (is_new_place lot.school (get nat_cmp by_child lot.child)) (key_by_lot s lot)
    where
      by : (b c : Bool) (o : Option RankKey) → cond (b && c) o None ≡ cond b (cond c o None) None
      by true c o = refl
      by false c o = refl

  -- one more lot, whose child was taken in
  pub key_added : (by_child : BTreeMap ℕ Outcome) → HasOutcomes outcomes by_child → (lots : List Lot) (i : ℕ) (lot : Lot) (key : RankKey) (old new : BTreeMap (List ℕ) RankKey)
      → i < length lots → lot ≡ get_or lots i lot → key_in s by_child lot ≡ Some key → Updates code_cmp old new lot.school (Some (later (get code_cmp old lot.school) key))
      → HasLastKeys s outcomes (take i lots) old → HasLastKeys s outcomes (take (i + 1) lots) new
  key_added by_child has lots i lot key old new within at is up was school =
      let key_is : key_taken_in s outcomes school lot ≡ cond (bytes_eq lot.school school) (Some key) None =
      key_there by_child has lot school ∙ ap (λ o. cond (bytes_eq lot.school school) o None) is in
      up.0 school ∙ ap (λ b. cond b (Some (later (get code_cmp old lot.school) key)) (get code_cmp old school)) (is_eq-slice_cmp lot.school school)
      ∙ by (bytes_eq lot.school school) refl
      ∙ ap (with_key (last_key s outcomes (take i lots) school)) (sym key_is) ∙ sym (last_more lots i lot school within at)
    where
      by : (b : Bool) → bytes_eq lot.school school ≡ b
          → cond b (Some (later (get code_cmp old lot.school) key)) (get code_cmp old school) ≡ with_key (last_key s outcomes (take i lots) school) (cond b (Some key) None)
      by true hit = ap (λ o. Some (later o key)) (ap (get code_cmp old) ((bytes_eq-Decides lot.school school).0 hit) ∙ was school)
      by false miss = was school

  -- one more lot, whose child was not
  pub key_left_out : (by_child : BTreeMap ℕ Outcome) → HasOutcomes outcomes by_child → (lots : List Lot) (i : ℕ) (lot : Lot) (keys : BTreeMap (List ℕ) RankKey)
      → i < length lots → lot ≡ get_or lots i lot → key_in s by_child lot ≡ None → HasLastKeys s outcomes (take i lots) keys → HasLastKeys s outcomes (take (i + 1) lots) keys
  key_left_out by_child has lots i lot keys within at is was school =
      was school ∙ ap (with_key (last_key s outcomes (take i lots) school)) (sym (key_there by_child has lot school ∙ ap (λ o. cond (bytes_eq lot.school school) o None) is ∙ by (bytes_eq lot.school school)))
      ∙ sym (last_more lots i lot school within at)
    where
      by : (b : Bool) → cond {A = Option RankKey} b None None ≡ None
      by true = refl
      by false = refl
