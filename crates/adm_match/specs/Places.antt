-- Where the seats of each wish are.
use Rattle.std.specs.Prelude.{◌≡◌, ℕ, List, Some, slice_get}
use Rattle.adm_match.specs.declared.problem.Wish.{Wish}
use Rattle.adm_match.specs.declared.problem.Seats.{Seats}
use Rattle.adm_match.specs.Market.{Code, Candidate, Market}

-- the school's seats are at that index
abbrev pub SeatedAt : List Seats → Code → ℕ → Type 0
SeatedAt seats school j = (seat : Seats) × (slice_get seats j ≡ Some seat) × (seat.code ≡ school)

-- each element of the first list has one at the same index of the second, to which it is related
abbrev pub EachBeside : {X Y : Type 0} → (X → Y → Type 0) → List X → List Y → Type 0
EachBeside {X} {Y} R xs ys = (i : ℕ) (x : X) → slice_get xs i ≡ Some x → (y : Y) × (slice_get ys i ≡ Some y) × R x y

-- the school of each wish has seats
abbrev pub AreKnown : List Seats → List Wish → Type 0
AreKnown seats list = (i : ℕ) (w : Wish) → slice_get list i ≡ Some w → (k : ℕ) × SeatedAt seats w.school k

-- for each wish of the list the index of its school among the seats
abbrev pub AreSeats : List Seats → List Wish → List ℕ → Type 0
AreSeats seats = EachBeside (λ (w : Wish) (k : ℕ). SeatedAt seats w.school k)

-- the same of each entrant's list
abbrev pub IsPlaced : Market → List (List ℕ) → Type 0
IsPlaced m = EachBeside (λ (e : Candidate) (places : List ℕ). AreSeats m.seats e.list places) m.entrants
