use Rattle.std.proofs.Common.{refl}
use Rattle.adm_wire.proofs.KeyLemmas.{all_known}
use Rattle.adm_wire.proofs.fields.only.Goals as goal

pub returns-then-not-are_known : goal.returns-then-not-are_known
returns-then-not-are_known g c =
    rw (← c.in-Some.ensures, ← all_known g.L.JsonFields.fields.names c.in-Some.members.now.entries, ← c.if-not-are_known.ensures) refl

pub returns-else-not-are_known : goal.returns-else-not-are_known
returns-else-not-are_known g c =
    rw (← c.in-Some.ensures, ← all_known g.L.JsonFields.fields.names c.in-Some.members.now.entries, ← c.if-not-are_known.ensures) refl
