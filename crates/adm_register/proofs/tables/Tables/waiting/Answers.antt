use Rattle.std.proofs.Common.{◌∙◌, ap, sym, subst, map, List, Some}
use Rattle.std.specs.Prelude.{option_map}
use Rattle.std.specs.Option.{option_copied}
use Rattle.std.specs.Ordering.{nat_cmp}
use Rattle.std.specs.List.Sorted.{IsStrictlySortedBy}
use Rattle.adm_types.specs.declared.rows.Child.{Child}
use Rattle.adm_waiting.specs.Waiting.{waiting_list}
use Rattle.adm_register.specs.Waits.{waiting_at, list_of}
use Rattle.adm_register.proofs.WaitLemmas.{waiters_rise, waiters_fit}
use Rattle.adm_register.proofs.tables.Tables.waiting.Goals as goal

pub waiting_list-requires-clause-school : goal.waiting_list-requires-clause-school
waiting_list-requires-clause-school c = (c.requires.base.schools_fit c.args.school c.in-Some.row.now (sym c.school.ensures ∙ ap option_copied c.in-Some.is)).in_range

pub waiting_list-requires-clause-children : goal.waiting_list-requires-clause-children
waiting_list-requires-clause-children c = waiters_fit c.args.self.now c.requires c.args.school c.deref.result.now (c.deref.ensures.value ∙ c.in_ok-children.ensures)

pub waiting_list-requires-clause-numbers : goal.waiting_list-requires-clause-numbers
waiting_list-requires-clause-numbers c =
    subst (λ (children : List Child). IsStrictlySortedBy nat_cmp (map (λ (child : Child). child.no) children)) (sym (c.deref.ensures.value ∙ c.in_ok-children.ensures))
    (waiters_rise c.args.self.now c.requires c.args.school)

pub returns-clause-list : goal.returns-clause-list
returns-clause-list c =
    let row = c.in-Some.row.now in
    let there = sym c.school.ensures ∙ ap option_copied c.in-Some.is in
    let code = (c.requires.base.schools_fit c.args.school row there).own_code in
    let made = c.in_ok-waiting_list.ensures.value ∙ ap (waiting_list row) (c.deref.ensures.value ∙ c.in_ok-children.ensures ∙ ap (waiting_at c.args.self.now) (sym code)) in
    ap (option_map (list_of c.args.self.now)) there ∙ ap Some (sym made)
