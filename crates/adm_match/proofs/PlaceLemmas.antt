-- The places of the wishes, one by one.
use Rattle.std.proofs.Common.{◌≡◌, ℕ, zero, suc, ◌+◌, ◌<◌, ◌≤◌, List, [], ◌∷◌, ◌++◌, length, get_or, Some, inl, inr, refl, sym, ap, ◌∙◌, subst, arith}
use Rattle.std.specs.Prelude.{bytes_eq}
use Rattle.std.specs.List.{slice_get}
use Rattle.std.proofs.lemmas.Bool.{cases_lt}
use Rattle.std.proofs.lemmas.Option.{same_Some, slice_get_within, slice_get_read}
use Rattle.std.proofs.lemmas.Slice.Eq.{bytes_eq-Decides}
use Rattle.adm_match.specs.declared.problem.Wish.{Wish}
use Rattle.adm_match.specs.declared.problem.Seats.{Seats}
use Rattle.adm_match.specs.Market.{Candidate, Market}
use Rattle.adm_match.specs.Distinct.{Seated}
use Rattle.adm_match.specs.Places.{EachBeside, AreKnown}
use Rattle.adm_match.proofs.RanksAndBlocks.{list_any_gives}

in_front : {X : Type 0} (xs : List X) (y : X) (j : ℕ) (x : X) → slice_get xs j ≡ Some x → slice_get (xs ++ y ∷ []) j ≡ Some x
in_front [] y j x e = absurd (omega (arith, slice_get_within [] j x e))
in_front (z ∷ zs) y zero x e = e
in_front (z ∷ zs) y (suc j) x e = in_front zs y j x e

at_end : {X : Type 0} (xs : List X) (y : X) → slice_get (xs ++ y ∷ []) (length xs) ≡ Some y
at_end [] y = refl
at_end (z ∷ zs) y = at_end zs y

length_more : {X : Type 0} (xs : List X) (y : X) → length (xs ++ y ∷ []) ≡ length xs + 1
length_more [] y = refl
length_more (z ∷ zs) y = omega (arith, length_more zs y)

module _ {X Y : Type 0} (R : X → Y → Type 0) (xs : List X) where
  -- the elements below an index have theirs
  pub record BesideBelow (ys : List Y) (n : ℕ) : Type 0 where
    pub count : length ys ≡ n
    pub each : (i : ℕ) (x : X) → i < n → slice_get xs i ≡ Some x → (y : Y) × (slice_get ys i ≡ Some y) × R x y

  pub none_beside : (ys : List Y) → ys ≡ [] → BesideBelow ys 0
  none_beside ys is = record { count = ap length is; each = λ i x below at. absurd (omega arith) }

  pub one_beside : (ys more : List Y) (n : ℕ) (x : X) (y : Y) → n < length xs → x ≡ get_or xs n x → R x y → more ≡ ys ++ y ∷ [] → BesideBelow ys n → BesideBelow more (n + 1)
  one_beside ys more n x y within at related added h = subst (λ (zs : List Y). BesideBelow zs (n + 1)) (sym added) (record {
    count = omega (arith, length_more ys y, h.count);
    each = λ i z below there. elim (cases_lt i n) [
      | inl less ↦ let it = h.each i z less there in (it.0, in_front ys y i it.0 it.1, it.2)
      | inr most ↦
          let last : i ≡ n = omega arith in
          let same : x ≡ z = same_Some x z (sym (slice_get_read xs (length xs) n x refl within at) ∙ (ap (slice_get xs) (sym last) ∙ there)) in
          (y, ap (slice_get (ys ++ y ∷ [])) (last ∙ sym h.count) ∙ at_end ys y, subst (λ (v : X). R v y) same related)
    ];
  })

  pub all_beside : (ys : List Y) (n : ℕ) → length xs ≤ n → BesideBelow ys n → EachBeside R xs ys
  all_beside ys n all h i x at = h.each i x (omega (arith, all, slice_get_within xs i x at)) at

-- each school of a list has seats
pub known_of : (m : Market) (i : ℕ) (e : Candidate) → Seated m → slice_get m.entrants i ≡ Some e → AreKnown m.seats e.list
known_of m i e h ei j w jw =
    let one = list_any_gives (λ (seat : Seats). bytes_eq seat.code w.school) m.seats (h.known i e j w ei jw) in
    (one.0, (one.1, one.2, (bytes_eq-Decides one.1.code w.school).0 one.3))
