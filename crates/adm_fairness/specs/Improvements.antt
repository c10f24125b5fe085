-- A child that ranks higher: what its better keys do to it (Balinski and Sonmez 1999: respecting improvements).
use Rattle.std.specs.Prelude.{◌≡◌, ◌≤◌, ◌==◌, ℕ, true, false, List, Some, None, IfSome, All, map}
use Rattle.std.specs.List.{AllZip}
use Rattle.std.specs.FinMap.{get}
use Rattle.adm_types.specs.Limits.{is_listed}
use Rattle.adm_types.specs.declared.rows.School.{School}
use Rattle.adm_types.specs.declared.rows.Child.{Child}
use Rattle.adm_types.specs.declared.rows.Application.{Application}
use Rattle.adm_types.specs.declared.draws.Outcome.{Outcome}
use Rattle.adm_types.specs.declared.commands.Command.TheVariants.{Amend}
use Rattle.adm_rank.specs.Ranking.{precedes}
use Rattle.adm_match.specs.Market.{Code, Candidate, Market, assigned_rank, key_at, first_fault}
use Rattle.adm_match.specs.Stability.{Allocation, IsBest, IsStable}
use Rattle.adm_waiting.specs.Waiting.{is_ahead}
use Rattle.adm_register.specs.State.{State}
use Rattle.adm_register.specs.WellFormed.{WellFormed}
use Rattle.adm_commands.specs.Commands.{KeptByTypes}
use Rattle.adm_commands.specs.Commands.Round.{round_market, AreOutcomes}
use Rattle.adm_commands.specs.Problem.{lots_fault}
use Rattle.adm_commands.specs.Steps.{Accepts}

-- An entrant, and the same one by keys of which none is after the former one at its school: its list and its tenancy are the same.
pub record RanksNoLower (entrant now : Candidate) : Type 0 where
  pub child : now.child ≡ entrant.child
  pub schools : map (λ wish. wish.school) now.list ≡ map (λ wish. wish.school) entrant.list
  pub tenant : now.tenant ≡ entrant.tenant
  pub keys : (school : Code) → IfSome (key_at entrant.list school) (λ was. IfSome (key_at now.list school) (λ key. precedes was key ≡ false))

-- an entrant then and now: by such keys where it is the child, and else as it was
pub record IsRaised (child : ℕ) (entrant now : Candidate) : Type 0 where
  pub raised : entrant.child == child ≡ true → RanksNoLower entrant now
  pub others : entrant.child == child ≡ false → now ≡ entrant

-- the problem in which the child ranks no lower at any school, and all else is as it was
pub record RaisesChild (child : ℕ) (m now : Market) : Type 0 where
  pub seats : now.seats ≡ m.seats
  pub entrants : AllZip (IsRaised child) m.entrants now.entrants

-- A child never loses by ranking higher: what the best allocation gives it by better keys is never after what any stable allocation
-- gives it by its former keys.
abbrev pub NoLossByRank : Type 0
NoLossByRank =
    (m now : Market) (child : ℕ) (best a : Allocation)
    → first_fault m ≡ None → first_fault now ≡ None → RaisesChild child m now → IsBest now best → IsStable m a
    → All (λ entrant. entrant.child ≡ child → assigned_rank entrant.list (best child) ≤ assigned_rank entrant.list (a child)) m.entrants

-- No child loses by an amendment before a round that puts it behind at no school of its list: by its new data it is never behind what it
-- was. Where the lots are the same, what the round gives it afterwards is not after what it would have given it before.
abbrev pub NoLossByAmend : Type 0
NoLossByAmend =
    (old new : State) (row was : Child) (application : Application) (numbers : List ℕ) (before after : List Outcome)
    (first : AreOutcomes old numbers before) (second : AreOutcomes new numbers after)
    → WellFormed old → KeptByTypes (Amend row) → Accepts old (Amend row) new → lots_fault old numbers ≡ None
    → get old.children row.no ≡ Some was → get old.applications row.no ≡ Some application
    → ((code : Code) (school : School) → get old.schools code ≡ Some school → is_listed application.list code ≡ true → is_ahead school was row ≡ false)
    → All (λ entrant. entrant.child ≡ row.no → assigned_rank entrant.list (second.allocation row.no) ≤ assigned_rank entrant.list (first.allocation row.no)) (round_market old numbers).entrants
