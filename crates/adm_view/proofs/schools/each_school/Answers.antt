use Rattle.std.proofs.Common.{◌≡◌, ◌∙◌, ap, sym, subst, Some}
use Rattle.std.specs.FinMap.{get}
use Rattle.adm_types.specs.declared.rows.School.{School}
use Rattle.adm_view.specs.Schools.{school_data}
use Rattle.adm_view.proofs.Walks.{one_more}
use Rattle.adm_view.proofs.schools.each_school.Goals as goal

pub school-requires-clause-waits : goal.school-requires-clause-waits
school-requires-clause-waits c =
    let s = c.args.register.now in
    let row = c.index-schools-index.result in
    c.requires.waits.each c.as_ref-one.result.now
    (subst (λ (x : School). get s.schools x.code ≡ Some x) (sym (c.as_ref-one.ensures ∙ c.index-schools-index.is)) (c.requires.schools c.loop-index.index row c.loop-index-test.true))

pub loop-index-preserved : goal.loop-index-preserved
loop-index-preserved c =
    let form = school_data c.args.register.now in
    one_more form c.args.schools.now c.loop-index.index c.index-schools-index.result c.loop-index.made.items c.push.new.self.items c.in_ok-school.field-0
    c.index-schools-index.is c.loop-index-test.true c.loop-index.invariant (c.in_ok-school.ensures ∙ ap form c.as_ref-one.ensures) c.in_ok-push.ensures.items
