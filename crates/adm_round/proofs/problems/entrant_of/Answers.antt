use Rattle.std.proofs.Common.{◌≡◌, Option, ◌∙◌, ℕ, List, ◌++◌, ap, sym}
use Rattle.std.specs.Option.{option_to_list}
use Rattle.adm_types.specs.declared.rows.Child.{Child}
use Rattle.adm_match.specs.Market.{Code}
use Rattle.adm_match.specs.declared.problem.Wish.{Wish}
use Rattle.adm_round.specs.declared.applicants.Site.{Site}
use Rattle.adm_round.specs.Ranks.{wishes_for}
use Rattle.adm_round.specs.Lookups.{site_in, lot_in}
use Rattle.adm_round.proofs.Walks.{wishes_append}
use Rattle.adm_round.proofs.problems.entrant_of.Goals as goal

pub returns : goal.returns
returns c =
    let site : Code → Option Site = site_in c.args.sites.now c.args.round_index.now in
    let lot : Code → ℕ → ℕ = lot_in c.args.round_index.now in
    let a = c.args.applicant.now in
    let own : List Code = option_to_list a.own in
    let child : c.as_ref-child.result.now ≡ a.child = c.as_ref-child.ensures in
    let made = c.in_ok-add_own.ensures
    ∙ ap (λ (x : List Wish). x ++ wishes_for site lot c.as_ref-child.result.now own)
    (c.in_ok-add_wishes.ensures ∙ (λ i. c.new-list.ensures.items i ++ wishes_for site lot c.as_ref-child.result.now (c.as_slice-wanted.ensures i)))
    ∙ sym (wishes_append site lot c.as_ref-child.result.now a.wanted own)
    ∙ ap (λ (x : Child). wishes_for site lot x (a.wanted ++ own)) child in
    λ i. record { child = (child i).no; list = made i; tenant = a.own }
