-- The state of the entrants between two turns of deferred acceptance.
use Rattle.std.specs.Prelude.{◌≡◌, ℕ, ◌<◌, ◌≤◌, ◌⊎◌, ◌+◌, ◌-◌, ◌≢◌, Bool, true, false, List, length, Option, None, Some, is_none, is_some, if◌then◌else◌, slice_get, count_by, sum_by, unwrap_or, option_map, find, ◌==◌}
use Rattle.adm_types.specs.Code.{has}
use Rattle.adm_match.specs.declared.problem.Wish.{Wish}
use Rattle.adm_match.specs.declared.progress.Progress.{Progress}
use Rattle.adm_match.specs.Market.{Code, Candidate, Market, preference_rank, assigned_rank, is_tenant, key_at, ranks_before, quota_of}
use Rattle.adm_match.specs.Stability.{Allocation, IsStable}

-- how many of the entrants a school holds, tentatively
abbrev pub held_at : List Progress → Code → ℕ
held_at rows s = count_by (λ row. has row.school s) rows

-- each school of a list has the rank of its place on the list: no school is repeated
pub record WellListed (m : Market) : Type 0 where
  pub own_rank : (k : ℕ) (e : Candidate) (j : ℕ) (w : Wish) → slice_get m.entrants k ≡ Some e → slice_get e.list j ≡ Some w → preference_rank e.list w.school ≡ j

-- an entrant is held by nobody, or by the school after those that rejected it
abbrev pub IsHeldByNext : Candidate → Progress → Type 0
IsHeldByNext e r = (r.school ≡ None) ⊎ ((w : Wish) × (slice_get e.list r.rejections ≡ Some w) × (r.school ≡ Some w.school))

-- the rows are those of the entrants
pub record Shaped (m : Market) (rows : List Progress) : Type 0 where
  pub same : length rows ≡ length m.entrants
  pub children : (k : ℕ) (e : Candidate) (r : Progress) → slice_get m.entrants k ≡ Some e → slice_get rows k ≡ Some r → r.child ≡ e.child
  pub holds : (k : ℕ) (e : Candidate) (r : Progress) → slice_get m.entrants k ≡ Some e → slice_get rows k ≡ Some r → IsHeldByNext e r
  pub within : (k : ℕ) (e : Candidate) (r : Progress) → slice_get m.entrants k ≡ Some e → slice_get rows k ≡ Some r → r.rejections ≤ length e.list

-- One entrant is another one with a list that may be shorter at its end: at each school of its list it has that one's
-- rank, key and tenancy, and it ranks nothing later than that one does.
pub record BeginsLike (e f : Candidate) : Type 0 where
  pub child : e.child ≡ f.child
  pub tenant : (s : Code) → is_tenant f s ≡ is_tenant e s
  pub rank : (s : Code) → preference_rank e.list s < length e.list → preference_rank f.list s ≡ preference_rank e.list s
  pub key : (s : Code) → preference_rank e.list s < length e.list → key_at f.list s ≡ key_at e.list s
  pub later : (o : Option Code) → assigned_rank e.list o ≤ assigned_rank f.list o

-- Each entrant of a problem begins like one of the other problem, no test passes for more of its children than there,
-- and no school has fewer places.
pub record IsWithin (m other : Market) : Type 0 where
  pub members : (k : ℕ) (e : Candidate) → slice_get m.entrants k ≡ Some e → (j : ℕ) × (f : Candidate) × (slice_get other.entrants j ≡ Some f) × BeginsLike e f
  pub counts : (test : ℕ → Bool) → count_by (λ e. test e.child) m.entrants ≤ count_by (λ e. test e.child) other.entrants
  pub places : (school : Code) → quota_of other.seats school ≤ quota_of m.seats school

-- no stable allocation gives an entrant a school that rejected it: none of the problem, nor of one with more entrants,
-- longer lists or fewer places
abbrev pub NoneLost : Market → List Progress → Type 0
NoneLost m rows = (o : Market) → IsWithin m o → (a : Allocation) → IsStable o a → (k : ℕ) (e : Candidate) (r : Progress) → slice_get m.entrants k ≡ Some e → slice_get rows k ≡ Some r → r.rejections ≤ assigned_rank e.list (a e.child)

-- the school holds this entrant, which is no tenant of it
abbrev pub IsGuestAt : List Candidate → List Progress → Code → ℕ → Candidate → Type 0
IsGuestAt entrants rows s k e = (slice_get entrants k ≡ Some e) × ((r : Progress) × (slice_get rows k ≡ Some r) × (r.school ≡ Some s)) × (is_tenant e s ≡ false)

-- a school that rejected the entrant is full, and each guest there ranks before it
pub record IsRejected (m : Market) (rows : List Progress) (e : Candidate) (s : Code) : Type 0 where
  pub guest : is_tenant e s ≡ false
  pub full : quota_of m.seats s ≤ held_at rows s
  pub outranked : (k : ℕ) (d : Candidate) → IsGuestAt m.entrants rows s k d → ranks_before s d e ≡ true

-- what holds between two turns
pub record Sound (m : Market) (rows : List Progress) : Type 0 where
  pub shaped : Shaped m rows
  pub within_quota : (s : Code) (k : ℕ) (e : Candidate) → IsGuestAt m.entrants rows s k e → held_at rows s ≤ quota_of m.seats s
  pub rejected :
      (k : ℕ) (e : Candidate) (r : Progress) (j : ℕ) (w : Wish)
      → slice_get m.entrants k ≡ Some e → slice_get rows k ≡ Some r → j < r.rejections → slice_get e.list j ≡ Some w
      → IsRejected m rows e w.school
  pub none_lost : NoneLost m rows

-- each entrant that nobody holds was rejected by its whole list
abbrev pub AllDone : List Candidate → List Progress → Type 0
AllDone entrants rows = (k : ℕ) (e : Candidate) (r : Progress) → slice_get entrants k ≡ Some e → slice_get rows k ≡ Some r → r.school ≡ None → length e.list ≤ r.rejections

-- the allocation gives each entrant the school that holds it
abbrev pub AllotsWhatIsHeld : Market → List Progress → Allocation → Type 0
AllotsWhatIsHeld m rows b = (k : ℕ) (e : Candidate) (r : Progress) → slice_get m.entrants k ≡ Some e → slice_get rows k ≡ Some r → b e.child ≡ r.school

-- the entrant at the index is held by nobody, and has a school left on its list
abbrev pub IsFree : List Candidate → List Progress → ℕ → Type 0
IsFree entrants rows k =
    (e : Candidate) × (r : Progress) × (slice_get entrants k ≡ Some e) × (slice_get rows k ≡ Some r) × (r.school ≡ None) × (r.rejections < length e.list)

-- the guest of the school at the index ranks after each other one
abbrev pub IsLast : List Candidate → List Progress → Code → ℕ → Type 0
IsLast entrants rows s k =
    (d : Candidate) × IsGuestAt entrants rows s k d × ((l : ℕ) (c : Candidate) → l ≢ k → IsGuestAt entrants rows s l c → ranks_before s c d ≡ true)

-- the school has no guest
abbrev pub NoGuest : List Candidate → List Progress → Code → Type 0
NoGuest entrants rows s = (k : ℕ) (e : Candidate) → IsGuestAt entrants rows s k e → ⊥

-- of two guests of the school the one ranks before the other
abbrev pub AreRanked : List Candidate → List Progress → Code → Type 0
AreRanked entrants rows s =
    (k l : ℕ) (d c : Candidate) → k ≢ l → IsGuestAt entrants rows s k d → IsGuestAt entrants rows s l c → ranks_before s d c ≡ false → ranks_before s c d ≡ true

-- what remains to do: each turn takes one from it, so the turns end
abbrev pub turns_left : List Candidate → List Progress → ℕ
turns_left entrants rows =
    (sum_by (λ e. length e.list) entrants + count_by (λ r. is_none r.school) rows) - sum_by (λ r. r.rejections) rows

-- an entrant before the first turn
abbrev pub start_of : Candidate → Progress
start_of e = record { child = e.child; school = None; rejections = 0 }

-- the row of an entrant that a school holds, and of one that its school rejects
abbrev pub held_by : Progress → Code → Progress
held_by row school = record row { school = Some school }

abbrev pub with_rejection : Progress → Progress
with_rejection row = record row { school = None; rejections = row.rejections + 1 }

-- the list entries that an entrant has gone through: those that rejected it, and the one that holds it
abbrev pub reached : Progress → ℕ
reached row = row.rejections + (if is_some row.school then 1 else 0)

-- a child with the school that holds it, or none
abbrev pub given_by : Progress → ℕ × Option Code
given_by row = (row.child, row.school)

-- the school that holds a child, by its first row
abbrev pub found_in : List Progress → Allocation
found_in rows child = unwrap_or (option_map (λ row. row.school) (find (λ row. row.child == child) rows)) None
