-- What holds between two turns of the queue: the rows, the schools' holdings and the queue.
use Rattle.std.specs.Prelude.{◌≡◌, ◌≢◌, ◌⊎◌, ℕ, ◌+◌, ◌<◌, ◌==◌, true, List, length, Option, Some, IfSome, All, slice_get}
use Rattle.std.specs.List.{list_any, Contains}
use Rattle.std.specs.List.Sorted.{IsSortedByKey}
use Rattle.std.specs.declared.cmp.Ordering.{Ordering}
use Rattle.std.specs.Ordering.{nat_cmp}
use Rattle.std.specs.Cmp.Lexicographic.{slice_cmp}
use Rattle.adm_match.specs.declared.problem.Seats.{Seats}
use Rattle.adm_match.specs.declared.progress.Progress.{Progress}
use Rattle.adm_match.specs.Market.{Code, Candidate, Market}
use Rattle.adm_match.specs.Turns.{held_at, IsFree, Sound, turns_left}
use Rattle.adm_match.specs.Holding.{Holding, SameBag, guests_of}

-- pairs of a key and an index, in the order of the keys: each item's key beside its index, and no other pair
pub record FindsEach {V K : Type 0} (R : K → K → Ordering) (key : V → K) (items : List V) (pairs : List (K × ℕ)) : Type 0 where
  pub sorted : IsSortedByKey (λ (pair : K × ℕ). pair.0) R pairs
  pub each : (k : ℕ) (v : V) → slice_get items k ≡ Some v → Contains pairs (key v, k)
  pub only : (pair : K × ℕ) → Contains pairs pair → (v : V) × (slice_get items pair.1 ≡ Some v) × (key v ≡ pair.0)

-- each school is found at its index among the seats
abbrev pub FindsSchools : List Seats → List (Code × ℕ) → Type 0
FindsSchools = FindsEach (slice_cmp nat_cmp) (λ (seat : Seats). seat.code)

-- a school holds whom the rows say, with its quota
pub record IsMirror (m : Market) (rows : List Progress) (seat : Seats) (held : Holding) : Type 0 where
  pub quota : held.quota ≡ seat.quota
  pub count : length held.tenants + length held.guests ≡ held_at rows seat.code
  pub guests : SameBag (guests_of m.entrants rows seat.code) held.guests

-- the schools are in the order of the seats, and each holds whom the rows say
pub record Mirrored (m : Market) (rows : List Progress) (schools : List Holding) : Type 0 where
  pub same : length schools ≡ length m.seats
  pub each : (j : ℕ) (seat : Seats) (held : Holding) → slice_get m.seats j ≡ Some seat → slice_get schools j ≡ Some held → IsMirror m rows seat held

-- who is free after a turn of the entrant at i was free before and is another one, or is the one rejected
abbrev pub FreeAfter : List Candidate → List Progress → List Progress → ℕ → Option ℕ → Type 0
FreeAfter entrants old new i out = (k : ℕ) → IsFree entrants new k → ((k ≢ i) × IsFree entrants old k) ⊎ (out ≡ Some k)

-- what a turn does of the entrant at i, after which the one at the index `out`, if any, is rejected
pub record Turned (m : Market) (old new : List Progress) (schools : List Holding) (i : ℕ) (out : Option ℕ) : Type 0 where
  pub sound : Sound m new
  pub mirrored : Mirrored m new schools
  pub falls : turns_left m.entrants new < turns_left m.entrants old
  pub free : FreeAfter m.entrants old new i out
  pub within : IfSome out (λ k. k < length new)

-- each free entrant is in the queue, and the queue has indices of entrants
pub record Queued (entrants : List Candidate) (rows : List Progress) (queue : List ℕ) : Type 0 where
  pub waiting : (k : ℕ) → IsFree entrants rows k → list_any (λ q. q == k) queue ≡ true
  pub within : All (λ q. q < length entrants) queue

-- what holds between two turns
pub record BetweenTurns (m : Market) (rows : List Progress) (schools : List Holding) (queue : List ℕ) : Type 0 where
  pub sound : Sound m rows
  pub mirrored : Mirrored m rows schools
  pub queued : Queued m.entrants rows queue
