use Rattle.std.proofs.Common.{◌∙◌, ap, sym, subst, arith}
use Rattle.sqlite.specs.Effect.{Database}
use Rattle.sqlite.specs.Tree.{Trees}
use Rattle.adm_crashes.proofs.restart.start_again.Goals as goal

pub returns-in-Ok-clause-from : goal.returns-in-Ok-clause-from
returns-in-Ok-clause-from g c clean =
    let again = c.in_default.ensures in
    let over = c.in-Ok.ensures in
    let same = ap (λ (d : Database). d.trees) (sym (over.opens clean).0.clean) ∙ over.trees clean ∙ again.fresh.clean in
    record {
      clean = omega (arith, again.clean, over.clean, clean);
      found = subst (λ (t : Trees). g.S.Store.recovers c.args.store t) (sym same) (again.found (omega (arith, over.clean, clean)));
      only = λ db may. g.met.S.Store.settled c.in-Ok.conn.store db (over.opens clean).0.is_open may;
    }

pub returns-in-Err-clause-left : goal.returns-in-Err-clause-left
returns-in-Err-clause-left g c = record { clean = λ clean. omega (arith, c.in-Err.ensures.clean, clean); outcomes = c.in-Err.ensures.outcomes }

pub returns-in-Err-over-clause-left : goal.returns-in-Err-over-clause-left
returns-in-Err-over-clause-left g c =
    let again = c.in_default.ensures in
    let quiet = c.in-Err-over.ensures.unharmed in
    record { clean = λ clean. omega (arith, again.clean, quiet.clean, clean); outcomes = λ db may. again.outcomes db (quiet.outcomes db may) }
