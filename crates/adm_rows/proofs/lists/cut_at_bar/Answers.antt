use Rattle.std.proofs.Common.{sym, ap, arith, Some, None}
use Rattle.std.proofs.lemmas.Str.Pattern.{split_parts}
use Rattle.adm_rows.proofs.CodeLemmas.{cut_some, cut_none}
use Rattle.adm_rows.proofs.lists.cut_at_bar.Goals as goal

pub returns-in-Some-clause-first : goal.returns-in-Some-clause-first
returns-in-Some-clause-first c =
    let parts = split_parts 124 c.args.text.now (Some (c.in-Some.first, c.in-Some.rest)) c.in-Some.ensures.cases (omega arith) in
    sym (ap (λ cut. cut.0) (cut_some c.args.text.now c.in-Some.first.now c.in-Some.rest.now parts.0 parts.1))

pub returns-in-Some-clause-rest : goal.returns-in-Some-clause-rest
returns-in-Some-clause-rest c =
    let parts = split_parts 124 c.args.text.now (Some (c.in-Some.first, c.in-Some.rest)) c.in-Some.ensures.cases (omega arith) in
    sym (ap (λ cut. cut.1) (cut_some c.args.text.now c.in-Some.first.now c.in-Some.rest.now parts.0 parts.1))

pub returns-in-None-clause-first : goal.returns-in-None-clause-first
returns-in-None-clause-first c =
    sym (ap (λ cut. cut.0) (cut_none c.args.text.now (split_parts 124 c.args.text.now None c.in-None.ensures.cases (omega arith))))

pub returns-in-None-clause-rest : goal.returns-in-None-clause-rest
returns-in-None-clause-rest c =
    sym (ap (λ cut. cut.1) (cut_none c.args.text.now (split_parts 124 c.args.text.now None c.in-None.ensures.cases (omega arith))))
