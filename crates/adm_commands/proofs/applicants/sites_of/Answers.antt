use Rattle.std.proofs.Common.{◌∙◌, ap, sym, ◌++◌, ◌∷◌, [], ◌-◌}
use Rattle.std.specs.Prelude.{count_by, nat_eq}
use Rattle.std.specs.Cmp.Lexicographic.{pointwise}
use Rattle.adm_lists.proofs.Walks.{map_next}
use Rattle.adm_types.specs.declared.rows.School.{School}
use Rattle.adm_round.specs.declared.applicants.Site.{Site}
use Rattle.adm_commands.proofs.applicants.sites_of.Goals as goal

pub loop-index-preserved : goal.loop-index-preserved
loop-index-preserved c =
    let site : School → Site = λ school. record { school = school; quota = school.pan - count_by (λ code. pointwise nat_eq code school.code) c.args.plans.now } in
    let school = c.index-schools-index.result in
    let made = c.quota.ensures ∙ ap (λ (s : School). s.pan - count_by (λ code. pointwise nat_eq code s.code) c.args.plans.now) c.as_ref.ensures in
    c.in_ok-push.ensures.items ∙ (λ i. c.loop-index.invariant i ++ record { school = c.in_ok-clone.ensures.cases i; quota = made i } ∷ [])
    ∙ sym (map_next site c.args.schools.now c.loop-index.index school c.index-schools-index.is c.loop-index-test.true)
