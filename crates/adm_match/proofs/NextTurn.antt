-- What is known of the entrant whose turn it is, before it proposes.
use Rattle.std.proofs.Common.{◌≡◌, ℕ, ◌<◌, List, length, set, get_or, Option, None, Some, Bool, refl, sym, ap, ◌∙◌, subst, arith}
use Rattle.std.specs.List.{slice_get}
use Rattle.std.proofs.lemmas.Option.{get_or_from_slice_get, slice_get_read, slice_get_within, same_Some}
use Rattle.adm_types.specs.Code.{has}
use Rattle.adm_match.specs.declared.problem.Wish.{Wish}
use Rattle.adm_match.specs.declared.problem.Seats.{Seats}
use Rattle.adm_match.specs.declared.progress.Progress.{Progress}
use Rattle.adm_match.specs.Market.{Candidate, Market}
use Rattle.adm_match.specs.Turns.{held_at, Sound, IsFree, IsLast, held_by}
use Rattle.adm_match.specs.Distinct.{Distinct, Seated}
use Rattle.adm_match.specs.Holding.{Holding, Considers}
use Rattle.adm_match.specs.Places.{SeatedAt, IsPlaced}
use Rattle.adm_match.specs.Queue.{Mirrored}
use Rattle.adm_match.proofs.Turn.{came, last_listed}
use Rattle.adm_rank.specs.declared.keys.RankKey.{RankKey}
use Rattle.adm_match.proofs.Turning.{Coming}

-- what the code reads of the entrant that it takes on
pub record Ahead (m : Market) (rows : List Progress) (i : ℕ) (e : Candidate) (r : Progress) (w : Wish) : Type 0 where
  pub entrant : slice_get m.entrants i ≡ Some e
  pub row : slice_get rows i ≡ Some r
  pub free : r.school ≡ None
  pub less : r.rejections < length e.list
  pub next : slice_get e.list r.rejections ≡ Some w

pub ahead_of : (m : Market) (rows : List Progress) (i : ℕ) (e : Candidate) (items : List Wish) (r : Progress) (w : Wish) (free : IsFree m.entrants rows i)
    → e ≡ get_or m.entrants i e → items ≡ e.list → r ≡ get_or rows i r → w ≡ get_or items r.rejections w → Ahead m rows i e r w
ahead_of m rows i e items r w free e_is items_is r_is w_is =
    let e_same : e ≡ free.0 = e_is ∙ get_or_from_slice_get m.entrants i free.0 e free.2 in
    let r_same : r ≡ free.1 = r_is ∙ get_or_from_slice_get rows i free.1 r free.3 in
    let ei : slice_get m.entrants i ≡ Some e = free.2 ∙ ap Some (sym e_same) in
    let less : r.rejections < length e.list = omega (arith, free.5, ap (λ (x : Progress). x.rejections) r_same, ap (λ (x : Candidate). length x.list) e_same) in
    let read : w ≡ get_or e.list r.rejections w = w_is ∙ (λ j. get_or (items_is j) r.rejections w) in
    let next : slice_get e.list r.rejections ≡ Some w = slice_get_read e.list (length e.list) r.rejections w refl less read in
    record {
      entrant = ei;
      row = free.3 ∙ ap Some (sym r_same);
      free = ap (λ (x : Progress). x.school) r_same ∙ free.4;
      less = less;
      next = next;
    }

module _ (m : Market) (rows : List Progress) (places : List (List ℕ)) (i : ℕ) (e : Candidate) (r : Progress) (w : Wish) (mine : List ℕ) (placed : IsPlaced m places)
    (ahead : Ahead m rows i e r w) (is : mine ≡ get_or places i mine) where
  next_place : (k : ℕ) × (slice_get mine r.rejections ≡ Some k) × SeatedAt m.seats w.school k
  next_place =
      let row = placed i e ahead.entrant in
      let same : mine ≡ row.0 = is ∙ get_or_from_slice_get places i row.0 mine row.1 in
      let it = row.2 r.rejections w ahead.next in
      (it.0, ap (λ (xs : List ℕ). slice_get xs r.rejections) same ∙ it.1, it.2)

  pub place_within : r.rejections < length mine
  place_within = slice_get_within mine r.rejections next_place.0 next_place.1

  -- it is that of the school to which the entrant proposes
  pub seated_at : (at : ℕ) → slice_get mine r.rejections ≡ Some at → SeatedAt m.seats w.school at
  seated_at at there = subst (λ (k : ℕ). SeatedAt m.seats w.school k) (same_Some next_place.0 at (sym next_place.1 ∙ there)) next_place.2

pub coming_of : (m : Market) (rows : List Progress) (schools : List Holding) (i at : ℕ) (e : Candidate) (r : Progress) (w : Wish) (old : Holding) → Ahead m rows i e r w
    → Distinct m → Seated m → Sound m rows → Mirrored m rows schools → (seat : SeatedAt m.seats w.school at) → slice_get schools at ≡ Some old → Coming m rows schools i at e r w seat.0 old
coming_of m rows schools i at e r w old a distinct seated sound mirrored seat there = record {
  distinct = distinct;
  seated = seated;
  sound = sound;
  mirrored = mirrored;
  entrant = a.entrant;
  row = a.row;
  free = a.free;
  less = a.less;
  next = a.next;
  seat_at = seat.1;
  code = seat.2;
  held_at = there;
}

pub considers_as : (old new : Holding) (child : ℕ) (key : RankKey) (tenant tenant' : Bool) (out out' : Option ℕ) → tenant ≡ tenant' → out ≡ out'
    → Considers old new (record { child = child; key = key; tenant = tenant }) out → Considers old new (record { child = child; key = key; tenant = tenant' }) out'
considers_as old new child key tenant tenant' out out' t o h =
    subst (λ (b : Bool). Considers old new (record { child = child; key = key; tenant = b }) out') t
    (subst (λ (x : Option ℕ). Considers old new (record { child = child; key = key; tenant = tenant }) x) o h)

-- the row of the one who is rejected has a school left to go on from
pub row_listed : (m : Market) (rows mid : List Progress) (schools : List Holding) (i at : ℕ) (e : Candidate) (r : Progress) (w : Wish) (seat : Seats) (old : Holding)
    (k : ℕ) → Coming m rows schools i at e r w seat old → mid ≡ set rows i (held_by r w.school) → (last : IsLast m.entrants mid w.school k) → (d : Candidate)
    → d ≡ get_or m.entrants k d → (row : Progress) → slice_get mid k ≡ Some row → row.rejections < length d.list
row_listed m rows mid schools i at e r w seat old k c mid_is last d d_is row rk =
    let here = came m rows mid i w (e, r, c.entrant, c.row, c.free, c.less) c.sound c.next mid_is in
    last_listed m mid w.school k last here.0.shaped d row d_is rk
