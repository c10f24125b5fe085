-- A register of the standard size is small, and a command keeps the season.
use Rattle.std.proofs.Common.{◌≡◌, ap, subst, true, refl, ℕ, nat_le, length, ◌≤◌, List, [], ◌∷◌, arith, leb-true}
use Rattle.std.specs.List.{list_all}
use Rattle.std.specs.FinMap.{len, values}
use Rattle.std.proofs.lemmas.Bool.{and_parts}
use Rattle.adm_types.specs.Limits.{most_schools, most_children, most_lots, most_catchments, is_allowed}
use Rattle.adm_types.specs.Seasons.{SeasonFacts}
use Rattle.adm_types.specs.declared.draws.Draw.{Draw}
use Rattle.adm_register.specs.State.{State}
use Rattle.adm_register.specs.declared.draws_so_far.DrawsSoFar.{DrawsSoFar}
use Rattle.adm_register.specs.Draws.{no_draws, count_draw, count_draws, is_next, are_in_order}
use Rattle.adm_command_laws.specs.Sizes.{StandardIsSmall, SeasonStays}

-- draws in order have no more lots together than the season's size allows
lots_within : (season : SeasonFacts) (before : DrawsSoFar) (draws : List Draw) → before.lots ≤ most_lots season.size → are_in_order season before draws ≡ true
    → (count_draws before draws).lots ≤ most_lots season.size
lots_within season before [] few in_order = few
lots_within season before (draw ∷ draws) few in_order =
    let both = and_parts (is_next season before draw) _ in_order in
    lots_within season (count_draw before draw) draws (leb-true _ _ (and_parts _ _ both.0).1) both.1

no_codes : (codes : List (List ℕ)) → nat_le (length codes) 0 ≡ true → codes ≡ []
no_codes [] few = refl
no_codes (code ∷ codes) few = absurd (omega (arith, leb-true _ _ few))

pub standard_is_small_lem : StandardIsSmall
standard_is_small_lem s well size = record {
  schools = subst (λ z. len s.schools ≤ most_schools z) size well.base.few_schools;
  children = subst (λ z. len s.children ≤ most_children z) size well.base.few_children;
  lots = subst (λ z. (count_draws no_draws (values s.draws)).lots ≤ most_lots z) size (lots_within s.season no_draws (values s.draws) (omega arith) well.draws.in_order);
  criteria = λ code school there. subst (λ z. list_all (is_allowed z) school.criteria ≡ true) size (well.base.schools_fit code school there).of_size;
  catchments = λ number child there.
      no_codes child.catchments (subst (λ z. nat_le (length child.catchments) (most_catchments z) ≡ true) size (well.base.children_fit number child there).of_size);
  imported = λ number row there.
      no_codes row.child.catchments (subst (λ z. nat_le (length row.child.catchments) (most_catchments z) ≡ true) size (well.imported number row there).child.of_size);
}

pub season_stays_lem : SeasonStays
season_stays_lem old new command step = ap (λ (s : State). s.season) step.1.1.2
