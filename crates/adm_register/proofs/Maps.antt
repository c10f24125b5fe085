-- The orders of the keys of the register's maps, and what holds of each row of a map.
use Rattle.std.proofs.Common.{◌≡◌, ◌∙◌, sym, refl}
use Rattle.std.specs.declared.cmp.Ordering.{Ordering}
use Rattle.std.specs.declared.cmp.Ordering.TheVariants.{Less, Equal, Greater}
use Rattle.std.specs.Ordering.{ordering_then}
use Rattle.std.specs.Cmp.{IsTotalOrder, nat_cmp_total, on_total, then_total}
use Rattle.std.specs.Cmp.Lexicographic.{nat_list_cmp_total}
use Rattle.std.specs.FinMap.{FinMap, empty, get-empty, IsAntisymmetric, nat_cmp-IsAntisymmetric, slice_cmp-IsAntisymmetric}
use Rattle.std.proofs.lemmas.Option.{none-some}
use Rattle.adm_types.specs.declared.rows.LeftPair.{LeftPair}
use Rattle.adm_types.specs.Limits.{code_cmp}
use Rattle.adm_register.specs.State.{left_cmp}
use Rattle.adm_register.specs.WellFormed.{AllRows}

pub code_cmp-IsAntisymmetric : IsAntisymmetric code_cmp
code_cmp-IsAntisymmetric = slice_cmp-IsAntisymmetric nat_cmp-IsAntisymmetric

-- two that tie by one and then by the other tie by both
then_first : (r s : Ordering) → ordering_then r s ≡ Equal → r ≡ Equal
then_first Less s e = cc
then_first Equal s e = refl
then_first Greater s e = cc

then_second : (r s : Ordering) → ordering_then r s ≡ Equal → s ≡ Equal
then_second Less s e = cc
then_second Equal s e = e
then_second Greater s e = cc

pub left_cmp-total : IsTotalOrder left_cmp
left_cmp-total = then_total (on_total (λ (p : LeftPair). p.child) nat_cmp_total) (on_total (λ (p : LeftPair). p.school) nat_list_cmp_total)

pub left_cmp-IsAntisymmetric : IsAntisymmetric left_cmp
left_cmp-IsAntisymmetric x y e = λ i. record { child = nat_cmp-IsAntisymmetric x.child y.child (then_first _ _ e) i; school = code_cmp-IsAntisymmetric x.school y.school (then_second _ _ e) i }

pub AllRows-empty : {K V : Type 0} (R : K → K → Ordering) (P : K → V → Type 0) → AllRows P (empty {X = V} {R = R})
AllRows-empty R P key row there = absurd (none-some row (sym (get-empty R key) ∙ there))

pub AllRows-weaker : {K V : Type 0} {R : K → K → Ordering} (P Q : K → V → Type 0) (rows : FinMap R V) → ((key : K) (row : V) → P key row → Q key row) → AllRows P rows → AllRows Q rows
AllRows-weaker P Q rows weaker all key row there = weaker key row (all key row there)
