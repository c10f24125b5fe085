-- A reader or a writer before and after a call.
use Rattle.std.specs.Prelude.{ℕ, Bool, List, Option}
use Rattle.adm_wire.specs.declared.streams.Input as input
use Rattle.adm_wire.specs.declared.streams.Output as output

-- what a reader still gives, or what a writer holds, before and after, where it is known; and whether it has failed by then
pub record Stream : Type 0 where
  pub old : Option (List ℕ)
  pub new : Option (List ℕ)
  pub has_failed : Bool

-- what a reader had left to read before a call and after it, and whether it has failed by then
abbrev pub reader : {S : Type 0} → input.Ghosts S → S → S → Stream
reader g old new = record { old = g.remaining old; new = g.remaining new; has_failed = g.has_failed new }

-- what a writer had written before a call and after it, and whether it has failed by then
abbrev pub writer : {S : Type 0} → output.Ghosts S → S → S → Stream
writer g old new = record { old = g.contents old; new = g.contents new; has_failed = g.has_failed new }
