use Rattle.std.proofs.Common.{◌∙◌, sym}
use Rattle.adm_waiting.proofs.Leaders.{first_is, first_none, first_empty}
use Rattle.adm_waiting.proofs.Lots.{drawn, first_here, apart, before_all, best_waits, has_best}
use Rattle.adm_waiting.proofs.vacancies.first_by_lot.Goals as goal

pub returns-in_err-best-clause-first : goal.returns-in_err-best-clause-first
returns-in_err-best-clause-first c =
    c.from_residual.ensures
    ∙ sym (first_empty (drawn c.args.school.now c.args.children.now c.args.lots.now) (sym c.best_of.ensures ∙ c.in_err-best.was))
    ∙ first_here c.args.school.now c.args.children.now c.args.lots.now

pub returns-in_err-best-clause-some : goal.returns-in_err-best-clause-some
returns-in_err-best-clause-some c = λ some many apart.
    absurd (has_best c.args.school.now c.args.children.now c.args.lots.now some many (sym c.best_of.ensures ∙ c.in_err-best.was))

pub returns-then-is_before_others-clause-first : goal.returns-then-is_before_others-clause-first
returns-then-is_before_others-clause-first c =
    sym (first_is (drawn c.args.school.now c.args.children.now c.args.lots.now) c.in_ok-best.best (sym c.best_of.ensures ∙ c.in_ok-best.was)
    (sym c.is_before_others.ensures ∙ c.if-is_before_others.true))
    ∙ first_here c.args.school.now c.args.children.now c.args.lots.now

pub returns-else-is_before_others-clause-first : goal.returns-else-is_before_others-clause-first
returns-else-is_before_others-clause-first c =
    sym (first_none (drawn c.args.school.now c.args.children.now c.args.lots.now) c.in_ok-best.best
    (apart c.args.school.now c.args.children.now c.args.lots.now c.requires.numbers) (sym c.best_of.ensures ∙ c.in_ok-best.was)
    (sym c.is_before_others.ensures ∙ c.if-is_before_others.false))
    ∙ first_here c.args.school.now c.args.children.now c.args.lots.now

pub returns-else-is_before_others-clause-some : goal.returns-else-is_before_others-clause-some
returns-else-is_before_others-clause-some c = λ some many differ.
    sym (sym c.is_before_others.ensures ∙ c.if-is_before_others.false)
    ∙ before_all c.args.school.now c.args.children.now c.args.lots.now c.in_ok-best.best differ (sym c.best_of.ensures ∙ c.in_ok-best.was)

pub returns-then-is_before_others-clause-waits : goal.returns-then-is_before_others-clause-waits
returns-then-is_before_others-clause-waits c =
    best_waits c.args.school.now c.args.children.now c.args.lots.now c.in_ok-best.best (sym c.best_of.ensures ∙ c.in_ok-best.was)
