use Rattle.std.proofs.Common.{◌≡◌, ◌∙◌, map, sym, ap, subst, subst₂}
use Rattle.std.specs.List.{list_all}
use Rattle.std.specs.List.Sorted.{IsPermutation}
use Rattle.std.proofs.lemmas.List.Sorted.{IsPermutation-sym}
use Rattle.std.proofs.lemmas.Result.{err_from_is_err_and}
use Rattle.std.specs.FinMap.{values}
use Rattle.sqlite.specs.Held.{state}
use Rattle.adm_types.specs.Children.{bare_child, bare_import, presents_of}
use Rattle.adm_types.specs.declared.rows.Child.{Child}
use Rattle.adm_register.specs.declared.register_rows.Rows.{Rows}
use Rattle.adm_rows.specs.Joins.{import_no}
use Rattle.adm_rows.specs.Represents.{HasRows, fits_first_version, written_in, written_tables}
use Rattle.adm_rows.proofs.CauseLemmas.{bad_rows, only_bad, rows_never_disk}
use Rattle.adm_rows.proofs.JoinOnce.{once_values}
use Rattle.adm_rows.proofs.RegisterRows.{bare_children, bare_imports, children_again, imports_again, each_table, first_again, not_said, presents_held, presents_fit, presents_said, presents_written, same_presents, with_later}
use Rattle.adm_rows.proofs.reading.with_presents.Goals as goal

pub returns-then-not-are_said-clause-bad : goal.returns-then-not-are_said-clause-bad
returns-then-not-are_said-clause-bad g c structural again r clean has first held =
    not_said c.args.version (state g.S.Store c.args.tx.now.conn.now).now.trees r c.args.rows.schools c.are_said.result
    (λ is. c.are_said.ensures.first is ∙ ap (list_all fits_first_version) c.as_slice.ensures) c.are_said.ensures.second c.if-not-are_said.true again.schools first.1.0 held

pub returns-in_err-presents-clause-bad : goal.returns-in_err-presents-clause-bad
returns-in_err-presents-clause-bad g c =
    let p = err_from_is_err_and c.from_residual.result c.from_residual.ensures.1 in
    rw (p.1, p.2) (λ structural again r clean has first held.
    c.in_err-presents.ensures.bad structural (presents_of (values r.children) (values r.imported))
    (presents_fit r held.formed) clean has (presents_held c.args.version (state g.S.Store c.args.tx.now.conn.now).now.trees r held))

pub returns-in_err-presents-clause-disk : goal.returns-in_err-presents-clause-disk
returns-in_err-presents-clause-disk g c =
    let p = err_from_is_err_and c.from_residual.result c.from_residual.ensures.1 in
    rw (p.1, p.2) (λ is. c.in_err-presents.ensures.disk is)

-- no register has these tables: its children and imported rows would be joined to the same rows
pub returns-in_err-join-clause-bad : goal.returns-in_err-join-clause-bad
returns-in_err-join-clause-bad g c =
    let p = err_from_is_err_and c.from_residual-in_err-join.result c.from_residual-in_err-join.ensures.1 in
    rw (p.1, p.2) (λ structural again r clean has first held.
    let v = c.args.version in
    let db = (state g.S.Store c.args.tx.now.conn.now).now.trees in
    c.in_err-join.ensures.bad (bad_rows _ structural) (values r.children) (values r.imported) (record {
      same_children = subst (λ xs. IsPermutation (map bare_child (values r.children)) (map bare_child xs)) (sym c.into_vec-children.ensures)
          (IsPermutation-sym _ _ (bare_children v db r c.args.rows.children again.children first.1.1.0 held));
      same_imports = subst (λ xs. IsPermutation (map bare_import (values r.imported)) (map bare_import xs)) (sym c.into_vec-imported.ensures)
          (IsPermutation-sym _ _ (bare_imports v db r c.args.rows.imported again.imported first.1.1.1.1.1.1.1.1.1.0 held));
      presents = subst (IsPermutation (presents_of (values r.children) (values r.imported))) (sym c.as_slice-2.ensures.value)
          (same_presents v db _ _ (presents_held v db r held) (c.in_ok-presents.ensures.ok clean has));
      once = once_values (λ (child : Child). child.no) r.children (λ k child is. (held.formed.base.children_fit k child is).own_number);
      once_imported = once_values import_no r.imported (λ k row is. (held.formed.imported k row is).child.own_number);
    }))

pub returns-clause-ok : goal.returns-clause-ok
returns-clause-ok g c clean has first =
    let v = c.args.version in
    let db = (state g.S.Store c.args.tx.now.conn.now).now.trees in
    let all = c.in_ok-presents.presents.items in
    let children : map bare_child c.from_vec.result ≡ map bare_child c.args.rows.children = ap (map bare_child) c.from_vec.ensures ∙ c.join.ensures.same_children
    ∙ ap (map bare_child) c.into_vec-children.ensures in
    let imported : map bare_import c.from_vec-2.result ≡ map bare_import c.args.rows.imported = ap (map bare_import) c.from_vec-2.ensures ∙ c.join.ensures.same_imports
    ∙ ap (map bare_import) c.into_vec-imported.ensures in
    let given = subst₂ (λ xs is. IsPermutation (presents_of xs is) c.as_slice-2.result.now) (sym c.from_vec.ensures) (sym c.from_vec-2.ensures) c.in_ok-join.ensures.ok in
    let joined = subst (IsPermutation (presents_of c.from_vec.result c.from_vec-2.result)) c.as_slice-2.ensures.value given in
    let held = c.in_ok-presents.ensures.ok clean has in
    let rows : Rows = record {
      season = c.args.rows.season;
      schools = c.args.rows.schools;
      children = c.from_vec.result;
      applications = c.args.rows.applications;
      places = c.args.rows.places;
      left = c.args.rows.left;
      draws = c.args.rows.draws;
      offers = c.args.rows.offers;
      lots = c.args.rows.lots;
      imported = c.from_vec-2.result;
    } in
    let tables = with_later v (λ t. HasRows t (written_in (written_tables v rows) t) db)
    (first_again v db c.args.rows c.from_vec.result c.from_vec-2.result children imported first) (presents_written v db rows all joined held) in
    record {
      each = λ t listed. each_table v (λ t. HasRows t (written_in (written_tables v rows) t) db) tables t listed;
      said = presents_said v db rows all (λ is. sym (c.are_said.ensures.first is ∙ ap (list_all fits_first_version) c.as_slice.ensures) ∙ c.if-not-are_said.false) joined held;
      sized = c.requires;
    }

pub returns-clause-again : goal.returns-clause-again
returns-clause-again g c again =
    let children : map bare_child c.from_vec.result ≡ map bare_child c.args.rows.children = ap (map bare_child) c.from_vec.ensures ∙ c.join.ensures.same_children
    ∙ ap (map bare_child) c.into_vec-children.ensures in
    let imported : map bare_import c.from_vec-2.result ≡ map bare_import c.args.rows.imported = ap (map bare_import) c.from_vec-2.ensures ∙ c.join.ensures.same_imports
    ∙ ap (map bare_import) c.into_vec-imported.ensures in
    record { schools = again.schools; children = children_again _ _ children again.children; applications = again.applications; imported = imports_again _ _ imported again.imported }

pub returns-in_err-join-clause-first : goal.returns-in_err-join-clause-first
returns-in_err-join-clause-first g c clean =
    let p = err_from_is_err_and c.from_residual-in_err-join.result c.from_residual-in_err-join.ensures.1 in
    rw (p.1, p.2) (λ structural. only_bad _ structural)

pub returns-in_err-join-clause-disk : goal.returns-in_err-join-clause-disk
returns-in_err-join-clause-disk g c =
    let p = err_from_is_err_and c.from_residual-in_err-join.result c.from_residual-in_err-join.ensures.1 in
    rw (p.1, p.2) (λ is. absurd (rows_never_disk _ is))
