use Rattle.std.proofs.Common.{◌≡◌, ◌∙◌, refl, ap, sym, length, false, true, arith, map}
use Rattle.std.proofs.lemmas.Result.{err_from_is_err_and}
use Rattle.std.proofs.lemmas.List.Sorted.{IsPermutation-trans}
use Rattle.adm_types.specs.Children.{bare_child, bare_import}
use Rattle.adm_rows.specs.Joins.{left_rows}
use Rattle.adm_rows.proofs.JoinOnce.{once_joined}
use Rattle.adm_rows.proofs.JoinWhole.{written_over, all_given, nobodys, one_left}
use Rattle.adm_rows.proofs.reading.joined.join.Goals as goal

pub returns-in_err-left-clause-bad : goal.returns-in_err-left-clause-bad
returns-in_err-left-clause-bad c =
    let p = err_from_is_err_and c.from_residual.result c.from_residual.ensures.1 in
    rw p.1 (λ is joined joined_imports it. c.in_err-left.ensures.bad (sym p.2 ∙ is) (once_joined c.args.children.now.items c.args.imported.now.items c.args.rows.now joined joined_imports it))

pub returns-then-is_empty-clause-ok : goal.returns-then-is_empty-clause-ok
returns-then-is_empty-clause-ok c =
    let children = c.give_children.new.children in
    let imported = c.give_imported.new.imported in
    let own : length c.args.children.now.items ≡ c.args.children.now.len = omega arith in
    let others : length c.args.imported.now.items ≡ c.args.imported.now.len = omega arith in
    let kept : length children ≡ length c.args.children.now.items = omega arith in
    let kept_others : length imported ≡ length c.args.imported.now.items = omega arith in
    let all = all_given c.args.rows.now (left_rows c.in_ok-left.left) (left_rows c.give_children.new.left) children imported c.give_imported.new.left.entries
    (c.if-is_empty.ensures.0 refl) c.in_ok-left.ensures.ok
    c.give_children.ensures.given c.give_imported.ensures.given in
    rw (written_over c.args.children.now.len children c.args.children.now.items own kept, written_over c.args.imported.now.len imported c.args.imported.now.items others kept_others) all

pub returns-clause-bad : goal.returns-clause-bad
returns-clause-bad c is joined joined_imports it =
    let own = c.give_children.ensures in
    let others = c.give_imported.ensures in
    let row = one_left c.give_imported.new.left.entries (λ none. let wrong : true ≡ false = sym (c.is_empty.ensures.1 none) ∙ c.if-is_empty.false in cc) in
    nobodys c.args.rows.now (left_rows c.give_children.new.left)
    (left_rows c.give_imported.new.left) c.args.children.now.items c.give_children.new.children c.args.imported.now.items c.give_imported.new.imported
    (IsPermutation-trans _ _ _ c.in_ok-left.ensures.ok own.given) others.given (own.same ∙ ap (map bare_child) c.deref_mut.ensures.value) (others.same
    ∙ ap (map bare_import) c.deref_mut-2.ensures.value) own.taken others.taken row.0 row.1 joined joined_imports it
