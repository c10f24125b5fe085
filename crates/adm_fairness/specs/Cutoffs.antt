-- The cutoff of a school in an allocation: the key of the last child that it took in; and why a child is refused there.
-- Azevedo and Leshno 2016, for a problem of finitely many children; tenants are this profile's.
use Rattle.std.specs.Prelude.{◌≡◌, ◌<◌, ◌≤◌, true, false, if◌then◌else◌, Option, Some, None, is_some, IfSome, All, Any}
use Rattle.adm_rank.specs.declared.keys.RankKey.{RankKey}
use Rattle.adm_rank.specs.Ranking.{precedes}
use Rattle.adm_cutoffs.specs.Reasons.{reason_beside}
use Rattle.adm_cutoffs.specs.declared.reasons.Reason.{Reason}
use Rattle.adm_match.specs.Market.{Code, Candidate, Market, is_tenant, key_at, quota_of, first_fault}
use Rattle.adm_match.specs.Stability.{Allocation, count_at, is_guest, prefers, IsStable}

-- the school has room; or the child of this key is the last that it took in; or it has no room and took nobody in
pub data Cutoff : Type 0 where
  Open : Cutoff
  Last : RankKey → Cutoff
  Closed : Cutoff

-- some child that the school took in has the key, and no such child ranks after it
pub record IsLastKey (m : Market) (a : Allocation) (school : Code) (key : RankKey) : Type 0 where
  pub had : Any (λ guest. (is_guest a school guest ≡ true) × (key_at guest.list school ≡ Some key)) m.entrants
  pub last : All (λ guest. is_guest a school guest ≡ true → IfSome (key_at guest.list school) (λ other. precedes key other ≡ false)) m.entrants

-- the cutoff of the school
abbrev pub IsCutoff : Market → Allocation → Code → Cutoff → Type 0
IsCutoff m a school Open = count_at m a school < quota_of m.seats school
IsCutoff m a school (Last key) = (quota_of m.seats school ≤ count_at m a school) × IsLastKey m a school key
IsCutoff m a school Closed = (quota_of m.seats school ≤ count_at m a school) × All (λ guest. is_guest a school guest ≡ false) m.entrants

-- why one that is no tenant is refused, by its key
abbrev pub reason_by : Cutoff → Option RankKey → Option Reason
reason_by Open key = None
reason_by (Last last) key = reason_beside (Some last) key
reason_by Closed key = reason_beside None key

-- why an entrant is refused at a school of this cutoff: a tenant never is
abbrev pub refusal_at : Candidate → Code → Cutoff → Option Reason
refusal_at entrant school cutoff = if is_tenant entrant school then None else reason_by cutoff (key_at entrant.list school)

-- The entrant is not refused at the school that it has, and is refused at each school that it wants more.
pub record IsDecided (a : Allocation) (cutoffs : Code → Cutoff) (entrant : Candidate) : Type 0 where
  pub given : (school : Code) → a entrant.child ≡ Some school → refusal_at entrant school (cutoffs school) ≡ None
  pub refused : (school : Code) → prefers a entrant school ≡ true → is_some (refusal_at entrant school (cutoffs school)) ≡ true

-- Cutoffs decide each stable allocation: each entrant has the first school of its list at which it is not refused.
abbrev pub CutoffsDecide : Type 0
CutoffsDecide =
    (m : Market) (a : Allocation) (cutoffs : Code → Cutoff)
    → first_fault m ≡ None → IsStable m a → ((school : Code) → IsCutoff m a school (cutoffs school))
    → All (IsDecided a cutoffs) m.entrants

-- So stable allocations with the same cutoffs give each entrant the same school.
abbrev pub SameCutoffsSamePlaces : Type 0
SameCutoffsSamePlaces =
    (m : Market) (a other : Allocation) (cutoffs : Code → Cutoff)
    → first_fault m ≡ None → IsStable m a → IsStable m other
    → ((school : Code) → IsCutoff m a school (cutoffs school)) → ((school : Code) → IsCutoff m other school (cutoffs school))
    → All (λ entrant. other entrant.child ≡ a entrant.child) m.entrants

-- Each school has a cutoff in each stable allocation.
abbrev pub SomeCutoff : Type 0
SomeCutoff = (m : Market) (a : Allocation) (school : Code) → first_fault m ≡ None → IsStable m a → (cutoff : Cutoff) × IsCutoff m a school cutoff
