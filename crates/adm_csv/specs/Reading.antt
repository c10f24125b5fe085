-- Reading gives a value, or the first error.
use Rattle.std.specs.Prelude.{◌≡◌, Option, Some, None, Result, Ok, Err}
use Rattle.adm_csv.specs.declared.fault.Fault.{Fault}
use Rattle.adm_csv.specs.declared.fault.Fault.TheVariants.{Read, Memory}

-- the next reading, unless this one found an error
infixl 10 ◌>>=◌
-- the next reading, of the value that this one gives; or the error of this one
abbrev pub ◌>>=◌ : {A B F : Type 0} → Result A F → (A → Result B F) → Result B F
(Ok x) >>= f = f x
(Err e) >>= f = Err e

-- the value, or this error where there is none
abbrev pub some_or : {A : Type 0} → Fault → Option A → Result A Fault
some_or fault None = Err fault
some_or fault (Some x) = Ok x

-- A call that failed for another cause than memory failed as reading does. None here knows the reader of the file.
abbrev pub Fails : {A : Type 0} → Fault → Result A Fault → Type 0
Fails Memory read = Unit {0}
Fails Read read = ⊥
Fails e read = read ≡ Err e

-- What a call returned is what reading gives, unless memory ran out.
abbrev pub Gives : {A : Type 0} → Result A Fault → Result A Fault → Type 0
Gives (Ok x) read = read ≡ Ok x
Gives (Err e) read = Fails e read
