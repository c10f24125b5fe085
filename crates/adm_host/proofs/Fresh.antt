-- A file that was just opened holds what its start says, and so does all that a crash may leave of it.
use Rattle.std.proofs.Common.{◌≡◌, ℕ, Bool, cond, List, [], ◌∷◌, Option, Some, None, inl, inr, subst, subst₂}
use Rattle.std.specs.Prelude.{IfSome}
use Rattle.sqlite_disk.specs.Events.{Event, replay, settled}
use Rattle.sqlite_disk.specs.History.{MayLeave}
use Rattle.sqlite_wal.specs.Recovery.{Image}

abbrev pub image : List ℕ → List ℕ → Image
image log db = record { log = log; db = db }

-- what a read gives after these calls
abbrev pub seen : List ℕ → List ℕ → Bool → List Event → List ℕ
seen log db is_log history = (replay (cond is_log log db) history).seen

-- and what a crash may leave
abbrev pub MayStay : List ℕ → List ℕ → Bool → Bool → List Event → List ℕ → Type 0
MayStay log db mixes is_log history c =
    let m = replay (cond is_log log db) history in MayLeave mixes m.seen m.synced m.steps c

pub stays : (log db : List ℕ) (mixes want is_log : Bool) (key : ℕ) (history : List Event) (c : List ℕ) → is_log ≡ want → history ≡ settled key ∷ []
    → MayStay log db mixes is_log history c → c ≡ cond want log db
stays log db mixes want is_log key history c which calls may =
    elim (subst₂ (λ (b : Bool) (h : List Event). MayStay log db mixes b h c) which calls may) [ inl same ↦ same | inr same ↦ same ]

-- ---- of what remained, where something did

pub of_some : {A : Type 0} (P : A → Type 0) (o : Option A) (x : A) → o ≡ Some x → IfSome o P → P x
of_some {A = A} P o x is holds = subst (λ (it : Option A). IfSome it P) is holds

pub if_some : {A : Type 0} (P Q : A → Type 0) (o : Option A) → ((x : A) → P x → Q x) → IfSome o P → IfSome o Q
if_some P Q (Some x) to holds = to x holds
if_some P Q None to holds = tt
