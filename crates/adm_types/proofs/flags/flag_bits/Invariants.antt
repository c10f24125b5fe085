use Rattle.std.proofs.Common.{◌≡◌, drop}
use Rattle.std.specs.Prelude.{bit_or}
use Rattle.adm_types.specs.Flags.{bits_of}
use Rattle.adm_types.proofs.flags.flag_bits.Given as goal

-- the flags so far and those to come are all the flags
abbrev pub invariant-flags : goal.invariant-flags
invariant-flags l = bit_or l.bits (bits_of (drop l.flag-index l.flags)) ≡ bits_of l.flags
