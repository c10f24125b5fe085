-- By lots that differ one of those that wait ranks first.
use Rattle.std.proofs.Common.{◌≡◌, ◌∙◌, ap, sym, refl, true, List, Option, None, Some}
use Rattle.std.specs.Prelude.{is_some}
use Rattle.adm_types.specs.declared.rows.School.{School}
use Rattle.adm_types.specs.declared.rows.Child.{Child}
use Rattle.adm_waiting.specs.declared.vacancies.RankedChild.{RankedChild}
use Rattle.adm_waiting.specs.Ranks.{best_of}
use Rattle.adm_waiting.specs.Waiting.{first_by_lot, OneIsFirst}
use Rattle.adm_waiting.proofs.Leaders.{first_is}
use Rattle.adm_waiting.proofs.Lots.{drawn, first_here, before_all, has_best}

pub one_is_first_law : OneIsFirst
one_is_first_law school children lots some many differ = by (best_of (drawn school children lots)) refl
  where
    by : (best : Option RankedChild) → best_of (drawn school children lots) ≡ best → is_some (first_by_lot school children lots) ≡ true
    by None none = absurd (has_best school children lots some many none)
    by (Some one) is = ap is_some (sym (first_here school children lots) ∙ first_is (drawn school children lots) one is (before_all school children lots one differ is))
