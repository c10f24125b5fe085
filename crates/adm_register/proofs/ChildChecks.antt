-- The test of a child decides that it fits.
use Rattle.std.proofs.Common.{◌≡◌, true, ℕ}
use Rattle.std.specs.Prelude.{nat_eq, ◌&&◌, ◌↔◌}
use Rattle.std.specs.Cmp.{unsigned_Decides}
use Rattle.std.specs.FinMap.{FinMap}
use Rattle.std.proofs.lemmas.Bool.{and_parts}
use Rattle.adm_types.specs.declared.rows.Child.{Child}
use Rattle.adm_types.specs.declared.seasons.Size.{Size}
use Rattle.adm_types.specs.declared.rows.School.{School}
use Rattle.adm_types.specs.Limits.{code_cmp}
use Rattle.adm_register.specs.WellFormed.{ChildFits}
use Rattle.adm_register.specs.RowTests.{fits_child, is_child}

pub child_decided : (size : Size) (schools : FinMap code_cmp School) (number : ℕ) (child : Child) → (fits_child size schools number child ≡ true) ↔ ChildFits size schools number child
child_decided size schools number child = (
  λ test.
      let own = and_parts (nat_eq child.no number) (is_child size schools child) test in
      let known = and_parts _ _ own.1 in
      let flags = and_parts _ _ known.0 in
      let in_range = and_parts _ _ flags.0 in
      let of_size = and_parts _ _ in_range.1 in
      let name = and_parts _ _ in_range.0 in
      let text = and_parts _ _ name.0 in
      record {
        own_number = (unsigned_Decides child.no number).0 own.0;
        number_form = text.0;
        text = text.1;
        name = name.1;
        in_range = of_size.0;
        of_size = of_size.1;
        flags = flags.1;
        known = known.1;
      },
  λ fits i.
      (unsigned_Decides child.no number).1 fits.own_number i
      && (fits.number_form i && fits.text i && fits.name i && (fits.in_range i && fits.of_size i) && fits.flags i && fits.known i),
)
