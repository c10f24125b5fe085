use Rattle.std.proofs.Common.{◌∙◌, ap, [], ◌∷◌}
use Rattle.std.specs.Prelude.{is_some}
use Rattle.adm_types.specs.declared.commands.Refusal.TheVariants.{UnknownChild, UnknownSchool, NotOffered, NotReminded, TooSoon}
use Rattle.adm_commands.specs.Tests.{first_failing}
use Rattle.adm_commands.specs.Commands.Lapse.{tests}
use Rattle.adm_commands.specs.Offered.{is_reminded, is_after_reminder}
use Rattle.adm_commands.proofs.commands.lapse.refusal_of.Goals as goal

-- the tests in their order
pub returns : goal.returns
unfolding tests
returns c =
    let offer = c.offer_at-offer.ensures in
    c.first_failing.ensures
    ∙ (λ i. first_failing
    ((c.has_child.ensures i, UnknownChild)
    ∷ (c.has_school.ensures i, UnknownSchool)
    ∷ ((c.is_some.ensures ∙ ap is_some offer) i, NotOffered)
    ∷ ((c.is_reminded.ensures ∙ ap is_reminded offer) i, NotReminded)
    ∷ ((c.is_after_reminder.ensures ∙ ap (λ o. is_after_reminder o c.args.day) offer) i, TooSoon)
    ∷ []))
