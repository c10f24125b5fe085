use Rattle.std.proofs.Common.{◌∙◌, ap}
use Rattle.adm_types.specs.Flags.{has_flag}
use Rattle.adm_types.proofs.FlagBits.{bits_more, bits_each, all_bits}
use Rattle.adm_types.proofs.flags.flag_bits.Goals as goal

pub flags-preserved : goal.flags-preserved
flags-preserved c = bits_more c.args.flags.now c.flags.flag-index c.get.result c.flags.bits _ c.flags-test.true (c.get.ensures.value
    ∙ c.flag-item.is) (rw c.get.ensures.value c.get.ensures.in_range) c.flags.invariant

pub returns-clause-value : goal.returns-clause-value
returns-clause-value c = all_bits c.args.flags.now c.flags.flag-index c.flags.bits c.flags-test.false c.flags.invariant

pub returns-clause-each : goal.returns-clause-each
returns-clause-each c flag = ap (λ bits. has_flag bits flag) (all_bits c.args.flags.now c.flags.flag-index c.flags.bits c.flags-test.false c.flags.invariant) ∙ bits_each c.args.flags.now flag
