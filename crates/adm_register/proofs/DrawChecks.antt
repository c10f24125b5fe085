-- The tests of a draw decide that it fits.
use Rattle.std.proofs.Common.{◌≡◌, refl, true, ℕ, List, [], ◌∷◌}
use Rattle.std.specs.Prelude.{nat_eq, All, ◌&&◌, ◌↔◌}
use Rattle.std.specs.Ordering.{nat_cmp}
use Rattle.std.specs.Cmp.{unsigned_Decides, nat_cmp_total}
use Rattle.std.specs.List.{list_all}
use Rattle.std.specs.FinMap.{FinMap, values, nat_cmp-IsAntisymmetric}
use Rattle.std.proofs.lemmas.List.Elements.{All-nil, All-cons, All-head, All-tail}
use Rattle.std.proofs.lemmas.Bool.{and_parts}
use Rattle.adm_types.specs.declared.rows.Child.{Child}
use Rattle.adm_types.specs.declared.rows.School.{School}
use Rattle.adm_types.specs.declared.draws.Draw.{Draw}
use Rattle.adm_draws.specs.Draws.{is_draw}
use Rattle.adm_types.specs.Limits.{code_cmp}
use Rattle.adm_register.specs.WellFormed.{AllRows}
use Rattle.adm_register.specs.Draws.{DrawFits}
use Rattle.adm_register.specs.RowTests.{fits_known_draw, is_known_draw}
use Rattle.adm_register.proofs.SameRows.{values_hold, rows_hold}

-- the form is omitted
pub record IsKnown (schools : FinMap code_cmp School) (children : FinMap nat_cmp Child) (number : ℕ) (draw : Draw) : Type 0 where
  pub test : fits_known_draw schools children number draw ≡ true

module _ (schools : FinMap code_cmp School) (children : FinMap nat_cmp Child) where
  pub draw_known : (number : ℕ) (draw : Draw) → (fits_known_draw schools children number draw ≡ true) ↔ IsKnown schools children number draw
  draw_known number draw = (λ test. record { test = test }, λ known. known.test)

  fits : (number : ℕ) (draw : Draw) → IsKnown schools children number draw → is_draw draw ≡ true → DrawFits schools children number draw
  fits number draw known form =
      let own = and_parts (nat_eq draw.number number) (is_known_draw schools children draw) known.test in
      let lots = and_parts _ _ own.1 in
      let outcomes = and_parts _ _ lots.0 in
      let school = and_parts _ _ outcomes.0 in
      record { own_number = (unsigned_Decides draw.number number).0 own.0; form = form; day = school.0; school = school.1; outcomes = outcomes.1; lots = lots.1 }

  known : (number : ℕ) (draw : Draw) → DrawFits schools children number draw → IsKnown schools children number draw
  known number draw it = record { test = λ i. (unsigned_Decides draw.number number).1 it.own_number i && (it.day i && it.school i && it.outcomes i && it.lots i) }

  pub draws_fit : (draws : FinMap nat_cmp Draw) → AllRows (IsKnown schools children) draws → list_all is_draw (values draws) ≡ true → AllRows (DrawFits schools children) draws
  draws_fit draws all formed number draw there =
      fits number draw (all number draw there) (rows_hold nat_cmp_total nat_cmp-IsAntisymmetric (λ d. is_draw d ≡ true) draws (All-from_list_all (values draws) formed) number draw there)
    where
      All-from_list_all : (ds : List Draw) → list_all is_draw ds ≡ true → All (λ d. is_draw d ≡ true) ds
      All-from_list_all [] e = All-nil (λ d. is_draw d ≡ true)
      All-from_list_all (d ∷ ds) e = let both = and_parts (is_draw d) (list_all is_draw ds) e in All-cons (λ d. is_draw d ≡ true) d ds both.0 (All-from_list_all ds both.1)

  pub draws_known : (draws : FinMap nat_cmp Draw) → AllRows (DrawFits schools children) draws → AllRows (IsKnown schools children) draws
  draws_known draws all number draw there = known number draw (all number draw there)

  pub draws_formed : (draws : FinMap nat_cmp Draw) → AllRows (DrawFits schools children) draws → list_all is_draw (values draws) ≡ true
  draws_formed draws all =
      list_all-from_All (values draws) (values_hold nat_cmp_total nat_cmp-IsAntisymmetric (λ d. is_draw d ≡ true) draws (λ number draw there. (all number draw there).form))
    where
      list_all-from_All : (ds : List Draw) → All (λ d. is_draw d ≡ true) ds → list_all is_draw ds ≡ true
      list_all-from_All [] all = refl
      list_all-from_All (d ∷ ds) all = λ i. All-head (λ d. is_draw d ≡ true) d ds all i && list_all-from_All ds (All-tail (λ d. is_draw d ≡ true) d ds all) i
