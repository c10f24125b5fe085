use Rattle.std.proofs.Common.{◌∙◌, ap, sym, not, ◌&&◌}
use Rattle.adm_types.specs.Limits.{is_listed}
use Rattle.adm_register.specs.Wanted.{above, has_left}
use Rattle.adm_register.proofs.WaitLemmas.{wanted_parts}
use Rattle.adm_register.proofs.tables.Tables.wants_above.Goals as goal

pub returns-then-is_above : goal.returns-then-is_above
returns-then-is_above c =
    let s = c.args.self.now in
    let application = c.args.application.now in
    let at = c.is_above.ensures ∙ (λ i. is_listed (above (c.requires i) (c.as_slice.ensures i)) c.args.school) in
    ap not c.has_left.ensures ∙ sym (ap (λ b. b && not (has_left s.left application.child c.args.school)) (sym at ∙ c.if-is_above.true)) ∙ wanted_parts s application c.args.school

pub returns-else-is_above : goal.returns-else-is_above
returns-else-is_above c =
    let s = c.args.self.now in
    let application = c.args.application.now in
    let at = c.is_above.ensures ∙ (λ i. is_listed (above (c.requires i) (c.as_slice.ensures i)) c.args.school) in
    c.if-is_above.false ∙ sym (ap (λ b. b && not (has_left s.left application.child c.args.school)) (sym at ∙ c.if-is_above.false)) ∙ wanted_parts s application c.args.school
