use Rattle.std.proofs.Common.{take, subst}
use Rattle.adm_types.specs.Code.{IsCode}
use Rattle.adm_types.proofs.CodeTexts.{IsUtf8-from_code, ok_where, code_decided}
use Rattle.adm_types.proofs.school_code.SchoolCode.as_str.Goals as goal

pub unwrap-requires : goal.unwrap-requires
unwrap-requires c =
    ok_where _ _ _ c.from_utf8.result c.from_utf8.ensures.cases
    (rw c.from-len.ensures (IsUtf8-from_code (take c.self.inside.len c.self.inside.bytes) c.self.invariant.2))

pub returns-clause-tested : goal.returns-clause-tested
returns-clause-tested c = (code_decided c.args.self.now).1 (subst IsCode c.self.view_is c.self.invariant.2)
