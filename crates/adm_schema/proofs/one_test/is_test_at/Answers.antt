use Rattle.std.proofs.Common.{◌≡◌, ◌∙◌, sym, subst, suc, pos, true}
use Rattle.std.specs.Prelude.{◌↔◌}
use Rattle.sqlite.specs.Term.{op2, col, lit}
use Rattle.sqlite.specs.declared.types.Value.TheVariants.{Null, Int}
use Rattle.sqlite_sql.specs.declared.ops.BinaryOp.TheVariants.{Compare}
use Rattle.sqlite_sql.specs.declared.ops.CompareOp.TheVariants.{Eq}
use Rattle.sqlite.specs.Collation.TheVariants.{Binary}
use Rattle.sqlite_schema.specs.declared.code.Op.TheVariants as op
use Rattle.sqlite_schema.specs.Code.{op_term, term_to}
use Rattle.adm_schema.proofs.one_test.is_test_at.Goals as goal

pub returns-in-Some-Binary : goal.returns-in-Some-Binary
returns-in-Some-Binary c depth =
    let node = sym (c.in-Some-Binary.ensures.lookup.3.1 (op.Literal Null)) ∙ c.in-Some-Binary.field-0-is in
    subst (λ found. c.is_test_of.result ≡ true ↔ (op_term (term_to c.args.nodes.now (suc depth)) found ≡ op2 (Compare Eq Binary) (col 1 0) (lit (Int (pos 1))))) (sym node) (c.is_test_of.ensures depth)
