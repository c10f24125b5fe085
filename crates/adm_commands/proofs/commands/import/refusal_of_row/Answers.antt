use Rattle.std.proofs.Common.{◌∙◌, ap, sym, ◌-◌}
use Rattle.adm_types.specs.Limits.{most_children}
use Rattle.adm_types.specs.Seasons.{SeasonFacts}
use Rattle.adm_commands.specs.Commands.AddChild as add_child
use Rattle.adm_commands.specs.Commands.Apply as apply
use Rattle.adm_register.specs.State.{application_of}
use Rattle.adm_commands.specs.Tests.{first_failing}
use Rattle.adm_commands.proofs.ImportBeside.{known_refusal, there_refusal, new_refusal}
use Rattle.adm_commands.proofs.RowTests.{or_next}
use Rattle.adm_commands.proofs.commands.import.refusal_of_row.Goals as goal

pub returns-then-is_known : goal.returns-then-is_known
returns-then-is_known c seen beside = sym (known_refusal c.args.old.now c.args.added.now.entries seen beside c.args.row.now (sym (c.is_known.ensures seen beside) ∙ c.if-is_known.true))

pub returns-then-has_child : goal.returns-then-has_child
returns-then-has_child c seen beside =
    sym (there_refusal c.args.old.now c.args.added.now.entries seen beside c.args.row.now (sym (c.is_known.ensures seen beside) ∙ c.if-is_known.false) (sym c.has_child.ensures ∙ c.if-has_child.true))

pub returns-in-Some : goal.returns-in-Some
returns-in-Some c seen beside =
    let most = c.most_children-most.ensures ∙ ap most_children (c.size.ensures ∙ ap (λ (s : SeasonFacts). s.size) c.season.ensures) in
    let room = sym (c.saturating_sub-room.ensures ∙ (λ i. most i - c.len.ensures.len i)) in
    sym (new_refusal c.args.old.now c.args.added.now.entries seen beside c.args.row.now (sym (c.is_known.ensures seen beside) ∙ c.if-is_known.false) (sym c.has_child.ensures ∙ c.if-has_child.false)
    ∙ ap (λ o. or_next o (first_failing (apply.further_tests c.args.old.now (application_of c.args.row.now))))
    (ap (λ room. first_failing (add_child.tests_with_room room c.args.old.now c.args.row.now.child)) room ∙ sym c.refusal_with_room.ensures ∙ c.in-Some.is))

pub returns-in-None : goal.returns-in-None
returns-in-None c seen beside =
    let row = c.args.row.now in
    let most = c.most_children-most.ensures ∙ ap most_children (c.size.ensures ∙ ap (λ (s : SeasonFacts). s.size) c.season.ensures) in
    let room = sym (c.saturating_sub-room.ensures ∙ (λ i. most i - c.len.ensures.len i)) in
    sym (new_refusal c.args.old.now c.args.added.now.entries seen beside row (sym (c.is_known.ensures seen beside) ∙ c.if-is_known.false) (sym c.has_child.ensures ∙ c.if-has_child.false)
    ∙ ap (λ o. or_next o (first_failing (apply.further_tests c.args.old.now (application_of row)))) (ap (λ room. first_failing (add_child.tests_with_room room c.args.old.now row.child)) room ∙ sym c.refusal_with_room.ensures ∙ c.in-None.is)
    ∙ sym (c.further_refusal_of.ensures
    ∙ ap (λ list. first_failing (apply.further_tests c.args.old.now (record { child = row.child.no; day = row.day; list = list }))) c.as_slice.ensures))
