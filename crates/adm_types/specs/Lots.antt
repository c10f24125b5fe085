-- Lots that are equal at one school.
-- School Admissions Code 2021, 1.34 and 1.35: random allocation separates those whom no criterion does; that lots differ is this profile's.
use Rattle.std.specs.Prelude.{Bool, false, ◌&&◌, ◌||◌, nat_eq, List, [], ◌∷◌, bytes_eq}
use Rattle.std.specs.List.{list_any}
use Rattle.adm_types.specs.declared.draws.Lot.{Lot}

-- the lots are of one school, and equal
abbrev pub is_same_lot : Lot → Lot → Bool
is_same_lot x y = bytes_eq x.school y.school && nat_eq x.lot y.lot

-- two of the lots are
abbrev pub repeats_lot : List Lot → Bool
repeats_lot [] = false
repeats_lot (lot ∷ lots) = list_any (is_same_lot lot) lots || repeats_lot lots
