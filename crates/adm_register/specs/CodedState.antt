-- How the state of a register is stored: as the tuple of its fields.
use Rattle.std.specs.Prelude.{refl}
use Rattle.std.specs.Ordering.{nat_cmp}
use Rattle.std.specs.Coded.{Coded, code_by, coded×, coded_ℕ, coded_list}
use Rattle.std.specs.FinMap.{FinMap, code}
use Rattle.adm_types.specs.Seasons.{SeasonFacts}
use Rattle.adm_types.specs.Limits.{code_cmp}
use Rattle.adm_types.specs.declared.rows.School.{School}
use Rattle.adm_types.specs.declared.rows.Child.{Child}
use Rattle.adm_types.specs.declared.rows.Application.{Application}
use Rattle.adm_types.specs.declared.rows.Row.{Row as ImportRow}
use Rattle.adm_types.specs.declared.rows.PlaceRow.{PlaceRow}
use Rattle.adm_types.specs.declared.rows.LeftPair.{LeftPair}
use Rattle.adm_types.specs.declared.draws.Draw.{Draw}
use Rattle.adm_types.specs.contracts.seasons.Season.{the_row as season_row}
use Rattle.adm_types.specs.contracts.rows.School.{the_row as school_row}
use Rattle.adm_types.specs.contracts.rows.Child.{the_row as child_row}
use Rattle.adm_types.specs.contracts.rows.Application.{the_row as application_row}
use Rattle.adm_types.specs.contracts.rows.Row.{the_row as import_row}
use Rattle.adm_types.specs.contracts.rows.PlaceRow.{the_row as place_row}
use Rattle.adm_types.specs.contracts.rows.LeftPair.{the_row as left_row}
use Rattle.adm_types.specs.contracts.draws.Draw.{the_row as draw_row}
use Rattle.adm_register.specs.State.{State, left_cmp}

-- a state is stored as the tuple of its fields
abbrev pub coded_state : Coded State
coded_state =
    code_by (SeasonFacts × (FinMap code_cmp School × (FinMap nat_cmp Child × (FinMap nat_cmp Application × (FinMap nat_cmp PlaceRow × (FinMap left_cmp LeftPair × (FinMap nat_cmp Draw × FinMap nat_cmp ImportRow)))))))
    (coded× season_row.coded (coded× (code (coded_list coded_ℕ) school_row.coded)
    (coded× (code coded_ℕ child_row.coded) (coded× (code coded_ℕ application_row.coded) (coded× (code coded_ℕ place_row.coded) (coded× (code left_row.coded left_row.coded)
    (coded× (code coded_ℕ draw_row.coded) (code coded_ℕ import_row.coded))))))))
    (λ s. (s.season, (s.schools, (s.children, (s.applications, (s.places, (s.left, (s.draws, s.imported))))))))
    (λ p. record { season = p.0; schools = p.1.0; children = p.1.1.0; applications = p.1.1.1.0; places = p.1.1.1.1.0; left = p.1.1.1.1.1.0; draws = p.1.1.1.1.1.1.0; imported = p.1.1.1.1.1.1.1 })
    (λ _. refl)
