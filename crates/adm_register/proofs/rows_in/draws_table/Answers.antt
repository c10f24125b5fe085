use Rattle.std.proofs.Common.{◌≡◌, ◌∙◌, ℕ, sym, subst, map, List}
use Rattle.std.specs.Ordering.{nat_cmp, eq_by_cmp}
use Rattle.std.specs.Cmp.{nat_cmp_total}
use Rattle.std.specs.FinMap.{nat_cmp-IsAntisymmetric}
use Rattle.std.specs.List.{IsDistinct}
use Rattle.std.proofs.lemmas.Map.Keys.{IsDistinct-from_sorted}
use Rattle.std.proofs.lemmas.Result.{err_from_is_err_and}
use Rattle.adm_types.specs.declared.draws.Draw.{Draw}
use Rattle.adm_types.specs.declared.draws.DrawRow.{DrawRow}
use Rattle.adm_types.specs.declared.draws.OfferRow.{OfferRow}
use Rattle.adm_types.specs.declared.draws.LotRow.{LotRow}
use Rattle.adm_draws.specs.Draws.{AreDrawRowsOf}
use Rattle.adm_register.specs.Groups.{HasRowsByKey}
use Rattle.adm_register.proofs.RowsAgain.{same_order}
use Rattle.adm_register.proofs.SameFault.{same_fault}
use Rattle.adm_register.proofs.rows_in.draws_table.Goals as goal

rows_of : {a b : List DrawRow} {d e : List OfferRow} {f g : List LotRow} {draws : List Draw} → a ≡ b → d ≡ e → f ≡ g → AreDrawRowsOf a d f draws → AreDrawRowsOf b e g draws
rows_of {b = b} {d = d} {e = e} {f = f} {draws = draws} heads offers lots rows =
    subst (λ x. AreDrawRowsOf b e x draws) lots (subst (λ x. AreDrawRowsOf b x f draws) offers (subst (λ x. AreDrawRowsOf x d f draws) heads rows))

abbrev number : Draw → ℕ
number = λ draw. draw.number

pub returns-in_err-table-clause-none : goal.returns-in_err-table-clause-none
returns-in_err-table-clause-none c =
    let p = err_from_is_err_and c.from_residual-in_err-table.result c.from_residual-in_err-table.ensures.1 in
    let rows = rw c.in-Some.is at c.in_ok-made.ensures.made in
    rw (p.1, p.2) (λ bad draws ordered same_rows.
    c.in_err-table.ensures.repeated (same_fault _ _ bad)
    (subst (λ r. IsDistinct (eq_by_cmp nat_cmp) (map number r)) (sym c.from_vec.ensures) (IsDistinct-from_sorted nat_cmp (map number c.in-Some.draws.items) rows.1.rising)))

pub returns-clause-made : goal.returns-clause-made
returns-clause-made c =
    let rows = rw c.in-Some.is at c.in_ok-made.ensures.made in
    let shown = c.in_ok-table.table in
    let table = subst (λ r. HasRowsByKey nat_cmp number r shown) c.from_vec.ensures c.in_ok-table.ensures.made in
    let same = same_order nat_cmp_total nat_cmp-IsAntisymmetric number c.in-Some.draws.items shown table rows.1.rising in
    (subst (AreDrawRowsOf c.args.rows.draws c.args.rows.offers c.args.rows.lots) (sym same) (rows_of c.into_vec.ensures c.into_vec-2.ensures c.into_vec-3.ensures rows.0), table.1, table.2)

pub returns-clause-only : goal.returns-clause-only
returns-clause-only c draws ordered same_rows =
    let rows = rw c.in-Some.is at c.in_ok-made.ensures.made in
    let only = rw c.in-Some.is at c.in_ok-made.ensures.only in
    let shown = c.in_ok-table.table in
    let table = subst (λ r. HasRowsByKey nat_cmp number r shown) c.from_vec.ensures c.in_ok-table.ensures.made in
    only draws (rows_of (sym c.into_vec.ensures) (sym c.into_vec-2.ensures) (sym c.into_vec-3.ensures) same_rows) ordered
    ∙ sym (same_order nat_cmp_total nat_cmp-IsAntisymmetric number c.in-Some.draws.items shown table rows.1.rising)
