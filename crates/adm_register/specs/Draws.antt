-- The draws of a register, in the order of their numbers, and which one may come next.
use Rattle.std.specs.Prelude.{◌≡◌, ℕ, ◌+◌, ◌≤◌, Bool, true, ◌&&◌, nat_eq, nat_le, nat_lt, List, [], ◌∷◌, length, IsTrue, Option, Some, None, if◌then◌else◌}
use Rattle.std.specs.List.{list_all}
use Rattle.std.specs.Ordering.{nat_cmp}
use Rattle.std.specs.FinMap.{FinMap, values, contains_key}
use Rattle.adm_types.specs.Limits.{first_day, most_draws, most_lots, code_cmp}
use Rattle.adm_types.specs.declared.seasons.Size.TheVariants.{Large}
use Rattle.adm_types.specs.Seasons.{SeasonFacts, reaches_offer_day, lists_end}
use Rattle.adm_types.specs.declared.rows.School.{School}
use Rattle.adm_types.specs.declared.rows.Child.{Child}
use Rattle.adm_types.specs.declared.draws.Draw.{Draw}
use Rattle.adm_types.specs.declared.draws.Outcome.{Outcome}
use Rattle.adm_types.specs.declared.draws.Lot.{Lot}
use Rattle.adm_draws.specs.Draws.{is_draw}
use Rattle.adm_register.specs.State.{State}
use Rattle.adm_register.specs.declared.draws_so_far.DrawsSoFar.{DrawsSoFar}

-- ---- how far draws have come

-- the counts of no draws: all are 0, and there is no last day
abbrev pub no_draws : DrawsSoFar
no_draws = record { draws = 0; rounds = 0; lots = 0; day = None }

-- whether it is a round's
abbrev pub is_round : Draw → Bool
is_round draw = nat_lt 0 draw.round

-- the counts after one more draw
abbrev pub count_draw : DrawsSoFar → Draw → DrawsSoFar
count_draw before draw = record {
  draws = before.draws + 1;
  rounds = if is_round draw then before.rounds + 1 else before.rounds;
  lots = before.lots + length draw.lots;
  day = Some draw.day;
}

-- the counts after these draws, one after another
abbrev pub count_draws : DrawsSoFar → List Draw → DrawsSoFar
count_draws before [] = before
count_draws before (draw ∷ draws) = count_draws (count_draw before draw) draws

-- how far those of a register have come
abbrev pub draws_so_far : State → DrawsSoFar
draws_so_far s = count_draws no_draws (values s.draws)

-- no more than there may be in a register of any size
pub record IsWithin (before : DrawsSoFar) : Type 0 where
  pub rounds : before.rounds ≤ before.draws
  pub draws : before.draws ≤ most_draws
  pub lots : before.lots ≤ most_lots Large

-- ---- which draw may come next

-- not before the day of the last draw, nor, where there was none, before the offer day
abbrev pub is_due : SeasonFacts → Option ℕ → ℕ → Bool
is_due season None day = reaches_offer_day season day
is_due season (Some last) day = nat_le last day

-- draws are numbered over rounds and fills together, and rounds for themselves; the first draw is a round's
abbrev pub is_numbered : DrawsSoFar → Draw → Bool
is_numbered before draw = nat_eq draw.number (before.draws + 1) && (if is_round draw then nat_eq draw.round (before.rounds + 1) else nat_lt 0 before.rounds)

-- it has the next number, is due, and comes while lists are kept; draws and lots stay in their limits
abbrev pub is_next : SeasonFacts → DrawsSoFar → Draw → Bool
is_next season before draw =
    is_numbered before draw && nat_lt before.draws most_draws && is_due season before.day draw.day && nat_le draw.day (lists_end season)
    && nat_le (before.lots + length draw.lots) (most_lots season.size)

-- each draw is the next after those before it
abbrev pub are_in_order : SeasonFacts → DrawsSoFar → List Draw → Bool
are_in_order season before [] = true
are_in_order season before (draw ∷ draws) = is_next season before draw && are_in_order season (count_draw before draw) draws

-- ---- the rows that draws name

-- no school, or one that is there
abbrev pub is_choice : FinMap code_cmp School → Option (List ℕ) → Bool
is_choice schools None = true
is_choice schools (Some code) = contains_key schools code

-- whether the child of an outcome is in the register, and its school too, if it has one
abbrev pub is_known_outcome : FinMap code_cmp School → FinMap nat_cmp Child → Outcome → Bool
is_known_outcome schools children outcome = contains_key children outcome.child && is_choice schools outcome.school

-- its number is less than 2^32
abbrev pub is_known_lot : FinMap code_cmp School → FinMap nat_cmp Child → Lot → Bool
is_known_lot schools children lot = contains_key schools lot.school && contains_key children lot.child && nat_lt lot.lot 4294967296

-- a draw is at its own number, and each school and child that it names is there
pub record DrawFits (schools : FinMap code_cmp School) (children : FinMap nat_cmp Child) (number : ℕ) (draw : Draw) : Type 0 where
  pub own_number : draw.number ≡ number
  pub form : IsTrue (is_draw draw)
  pub day : IsTrue (nat_le first_day draw.day)
  pub school : IsTrue (is_choice schools draw.school)
  pub outcomes : IsTrue (list_all (is_known_outcome schools children) draw.outcomes)
  pub lots : IsTrue (list_all (is_known_lot schools children) draw.lots)
