-- Guests of a school that are known by the numbers of children.
use Rattle.std.specs.Prelude.{◌≤◌}
use Rattle.adm_types.specs.Numbers.{highest_child}
use Rattle.adm_match.specs.declared.held.Guest.{Guest}

-- the guest is known by the number of a child
abbrev pub IsChild : Guest → Type 0
IsChild guest = (1 ≤ guest.child) × (guest.child ≤ highest_child)
