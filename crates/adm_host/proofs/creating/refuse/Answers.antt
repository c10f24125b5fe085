use Rattle.std.proofs.Common.{refl}
use Rattle.adm_host.proofs.Refusing.{left_found, none_made, survives_same}
use Rattle.adm_host.proofs.creating.refuse.Goals as goal

pub returns-then-is_unused-clause-left : goal.returns-then-is_unused-clause-left
returns-then-is_unused-clause-left g c =
    left_found _ c.in_ok-conn.conn c.changed.result _ c.changed.ensures c.in_ok-conn.conn c.in_ok-conn.ensures.found (survives_same _ _)

pub returns-clause-refused : goal.returns-clause-refused
returns-clause-refused g c =
    let unused = c.if-is_unused.ensures refl in
    none_made _ c.in_ok-conn.conn c.create_register.ensures.left c.create_register.result.exit c.create_register.ensures.made unused
