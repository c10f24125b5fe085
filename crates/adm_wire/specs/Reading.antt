-- Reading gives a value, or the first error.
use Rattle.std.specs.Prelude.{◌≡◌, ℕ, List, Option, Some, None, Result, Ok, Err}
use Rattle.serde_json.specs.Data.{Data}
use Rattle.serde_json.specs.Find.{get}
use Rattle.adm_wire.specs.declared.fault.WireFault.{WireFault}
use Rattle.adm_wire.specs.declared.fault.WireFault.TheVariants.{MissingField, WrongKind, Memory}

-- the next reading, unless this one found an error
infixl 10 ◌>>=◌
-- the next reading, of the value that this one gives; or the error of this one
abbrev pub ◌>>=◌ : {A B : Type 0} → Result A WireFault → (A → Result B WireFault) → Result B WireFault
(Ok x) >>= f = f x
(Err e) >>= f = Err e

-- the value, or this error where there is none
abbrev pub some_or : {A : Type 0} → WireFault → Option A → Result A WireFault
some_or fault None = Err fault
some_or fault (Some x) = Ok x

-- the value in a field of this kind
abbrev pub field_at : {A : Type 0} → (Data → Option A) → List ℕ → Data → Result A WireFault
field_at kind key d = some_or MissingField (get key d) >>= λ v. some_or WrongKind (kind v)

-- the same, or what the field is where it may be omitted
abbrev pub value_in : {A : Type 0} → Option A → (Data → Option A) → Option Data → Result A WireFault
value_in otherwise kind None = some_or MissingField otherwise
value_in otherwise kind (Some v) = some_or WrongKind (kind v)

-- the value of the field with this key, by its kind; where there is no such key, the value for an omitted field, or an error
abbrev pub field_in : {A : Type 0} → Option A → (Data → Option A) → List ℕ → Data → Result A WireFault
field_in otherwise kind key d = value_in otherwise kind (get key d)

-- one reading before another
abbrev pub before : {A B : Type 0} → (Data → Result A WireFault) → (Data → Result B WireFault) → Data → Result (A × B) WireFault
before first others d = first d >>= λ x. others d >>= λ xs. Ok (x, xs)

-- A call that failed for another cause than memory failed as reading does.
abbrev pub Fails : {A : Type 0} → WireFault → Result A WireFault → Type 0
Fails Memory read = Unit {0}
Fails e read = read ≡ Err e

-- What a call returned, seen by view, is what reading gives, unless memory ran out.
abbrev pub GivesSeen : {A B : Type 0} → (A → B) → Result A WireFault → Result B WireFault → Type 0
GivesSeen view (Ok x) read = read ≡ Ok (view x)
GivesSeen view (Err e) read = Fails e read

-- What a call returned is what reading gives, unless memory ran out.
abbrev pub Gives : {A : Type 0} → Result A WireFault → Result A WireFault → Type 0
Gives (Ok x) read = read ≡ Ok x
Gives (Err e) read = Fails e read
