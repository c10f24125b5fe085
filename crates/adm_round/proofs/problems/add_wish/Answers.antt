use Rattle.std.proofs.Common.{◌≡◌, true, ◌∙◌, sym, ap}
use Rattle.std.specs.Option.{option_copied}
use Rattle.std.specs.BTreeMap.{get}
use Rattle.adm_types.specs.Limits.{is_school_in_range}
use Rattle.adm_round.specs.declared.applicants.Site.{Site}
use Rattle.adm_types.specs.Limits.{code_cmp}
use Rattle.adm_round.proofs.Walks.{fits_in}
use Rattle.adm_round.proofs.problems.add_wish.Goals as goal

pub wish_at-requires-clause-school : goal.wish_at-requires-clause-school
wish_at-requires-clause-school c =
    fits_in (λ (site : Site). is_school_in_range site.school ≡ true) c.args.sites.now (get code_cmp c.args.round_index.now.indices c.args.school) c.in-Some.site.now c.requires.schools
    (sym c.site_in.ensures ∙ ap option_copied c.in-Some.is)
