use Rattle.std.proofs.Common.{◌∙◌, ap, sym, subst}
use Rattle.std.specs.Prelude.{IfOk}
use Rattle.std.specs.FinMap as rows
use Rattle.std.specs.Option.{option_copied}
use Rattle.adm_view.specs.Waits.{AddsRanks}
use Rattle.adm_view.proofs.Positions.{none_put}
use Rattle.adm_view.proofs.Rows.{school_code}
use Rattle.adm_view.proofs.waits.put_ranks_at.Goals as goal

pub returns-in-None : goal.returns-in-None
returns-in-None c = none_put c.args.register.now c.args.code c.args.waits.now (sym c.school.ensures ∙ ap option_copied c.in-None.is)

pub put_ranks-requires : goal.put_ranks-requires
put_ranks-requires c =
    let there = sym c.school.ensures ∙ ap option_copied c.in-Some.is in
    ap (rows.get c.args.register.now.schools) (school_code c.args.register.now c.tables-tables.ensures.well_formed c.args.code c.in-Some.school.now there) ∙ there

pub returns-in-Some : goal.returns-in-Some
returns-in-Some c =
    let there = sym c.school.ensures ∙ ap option_copied c.in-Some.is in
    subst (λ code. IfOk c.put_ranks.result (λ _. AddsRanks c.args.register.now code c.args.waits.now c.put_ranks.new.waits))
    (school_code c.args.register.now c.tables-tables.ensures.well_formed c.args.code c.in-Some.school.now there) c.put_ranks.ensures
