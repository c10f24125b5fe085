use Rattle.std.proofs.Common.{◌∙◌, ap, subst, cond, List, Some, None}
use Rattle.std.specs.Prelude.{option_map}
use Rattle.std.specs.List.{filter_map}
use Rattle.std.specs.FinMap.{values}
use Rattle.adm_types.specs.declared.rows.School.{School}
use Rattle.adm_types.specs.declared.draws.Lot.{Lot}
use Rattle.adm_types.specs.declared.draws.Outcome.{Outcome}
use Rattle.adm_register.specs.State.{State}
use Rattle.adm_cutoffs.specs.Reasons.{reason_beside}
use Rattle.adm_cutoffs.specs.Cutoffs.{key_by_lot, wants_more, cutoff_at, cutoffs_of, refusal_by_lot, refusals_of}
use Rattle.adm_cutoffs.specs.Lookups.{HasOutcomes}
use Rattle.adm_cutoffs.proofs.explanations.explain.Goals as goal

pub returns-clause-cutoffs : goal.returns-clause-cutoffs
unfolding cutoffs_of
returns-clause-cutoffs c =
    c.in_ok-cutoffs.ensures
    ∙ (λ i. filter_map (λ (school : School). option_map (λ key. record { school = school.code; key = key }) (c.in_ok-keys.ensures school.code i)) c.deref.result.now)
    ∙ ap (filter_map (cutoff_at c.args.register.now c.args.draw.now)) (c.deref.ensures.value ∙ c.in_ok-schools.ensures ∙ ap (λ (s : State). values s.schools) c.tables.ensures.value)

pub returns-clause-refusals : goal.returns-clause-refusals
unfolding refusals_of
returns-clause-refusals c =
    let s = c.args.register.now in
    let has : HasOutcomes c.args.draw.now.outcomes c.in_ok-by_child.by_child = subst (λ (os : List Outcome). HasOutcomes os c.in_ok-by_child.by_child) c.as_slice.ensures c.in_ok-by_child.ensures in
    c.in_ok-refusals.ensures
    ∙ (λ i. filter_map
    (λ (lot : Lot).
    cond (wants_more s (has lot.child i) lot.school)
    (Some (record { child = lot.child; school = lot.school; by = reason_beside (c.in_ok-keys.ensures lot.school i) (key_by_lot s lot) })) None)
    c.as_slice-2.result.now)
    ∙ ap (filter_map (refusal_by_lot s c.args.draw.now)) c.as_slice-2.ensures
