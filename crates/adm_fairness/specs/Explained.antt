-- What the view of a draw says of a round: the cutoffs of the problem that it solved, and just who is refused where, and why.
-- Azevedo and Leshno 2016; the reasons are this profile's.
use Rattle.std.specs.Prelude.{◌≡◌, ℕ, Bool, true, false, ◌&&◌, ◌==◌, List, Contains, Some, All, Any, bytes_eq}
use Rattle.std.specs.List.{list_any}
use Rattle.std.specs.FinMap.{get}
use Rattle.adm_types.specs.declared.draws.Draw.{Draw}
use Rattle.adm_types.specs.declared.commands.Command.TheVariants.{Round}
use Rattle.adm_match.specs.Market.{Code, Candidate, Market, some_pair}
use Rattle.adm_match.specs.Stability.{Allocation, IsBest, is_guest, prefers}
use Rattle.adm_register.specs.State.{State}
use Rattle.adm_register.specs.WellFormed.{WellFormed}
use Rattle.adm_cutoffs.specs.Cutoffs.{cutoffs_of, refusals_of}
use Rattle.adm_cutoffs.specs.declared.cutoffs.Cutoff.{Cutoff as CutoffRow}
use Rattle.adm_cutoffs.specs.declared.refusals.Refusal.{Refusal}
use Rattle.adm_commands.specs.Commands.{KeptByTypes}
use Rattle.adm_commands.specs.Commands.Round.{round_market}
use Rattle.adm_commands.specs.Steps.{Accepts}
use Rattle.adm_fairness.specs.Cutoffs.{Cutoff, IsLastKey, IsCutoff, refusal_at}

-- each row has the key of the last child that its school took in, and a school without a row took in nobody
pub record AreCutoffs (m : Market) (a : Allocation) (rows : List CutoffRow) : Type 0 where
  pub last : All (λ row. IsLastKey m a row.school row.key) rows
  pub others : (school : Code) → list_any (λ row. bytes_eq row.school school) rows ≡ false → All (λ entrant. is_guest a school entrant ≡ false) m.entrants

-- the refusal is of this entrant, which prefers the school, and its reason is the one that the cutoff of the school gives
pub record IsRefusalOf (m : Market) (a : Allocation) (row : Refusal) (entrant : Candidate) : Type 0 where
  pub child : row.child ≡ entrant.child
  pub wished : prefers a entrant row.school ≡ true
  pub reason : (cutoff : Cutoff) → IsCutoff m a row.school cutoff → row.by ≡ refusal_at entrant row.school cutoff

-- whether two refusals are of one child at one school
abbrev pub same_refused : Refusal → Refusal → Bool
same_refused one other = bytes_eq one.school other.school && one.child == other.child

-- Each entrant is refused at each school that it prefers, for the reason that the cutoff of the school gives; there is no other refusal,
-- and none twice.
pub record AreRefusals (m : Market) (a : Allocation) (rows : List Refusal) : Type 0 where
  pub each :
      All (λ entrant. (school : Code) (cutoff : Cutoff) → prefers a entrant school ≡ true → IsCutoff m a school cutoff
      → Contains rows (record { child = entrant.child; school = school; by = refusal_at entrant school cutoff })) m.entrants
  pub only : All (λ row. Any (IsRefusalOf m a row) m.entrants) rows
  pub once : some_pair same_refused rows ≡ false

-- the draw of this number explains the round by these lots: what its view says holds of the best allocation of the round's problem
pub record IsExplained (old new : State) (number : ℕ) (lots : List ℕ) : Type 0 where
  pub draw : Draw
  pub there : get new.draws number ≡ Some draw
  pub best : Allocation
  pub is_best : IsBest (round_market old lots) best
  pub cutoffs : AreCutoffs (round_market old lots) best (cutoffs_of new draw)
  pub refusals : AreRefusals (round_market old lots) best (refusals_of new draw)

-- After a round the view of its draw explains it.
abbrev pub RoundIsExplained : Type 0
RoundIsExplained =
    (old new : State) (draw day : ℕ) (numbers : List ℕ)
    → WellFormed old → KeptByTypes (Round draw day numbers) → Accepts old (Round draw day numbers) new → IsExplained old new draw numbers
