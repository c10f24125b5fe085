-- What the statements on the table `meta` do.
use Rattle.std.proofs.Common.{◌≡◌, ◌≤◌, ℕ, pos, List, [], ◌∷◌, Ok, refl, ap, arith}
use Rattle.sqlite_trees.specs.View.{doubt}
use Rattle.sqlite.specs.declared.types.Value.TheVariants.{Null, Int, Text}
use Rattle.sqlite.specs.Order.{Row}
use Rattle.sqlite.specs.Edit.{with_rowid}
use Rattle.sqlite.specs.Cast.{cast_row}
use Rattle.sqlite.specs.Rowids.TheVariants.{Chosen}
use Rattle.sqlite.specs.State.{State, HasCleanDisk, ExecutesInside}
use Rattle.adm_schema.specs.Rows.{columns_of}
use Rattle.adm_schema.proofs.Listed.{has_meta}
use Rattle.adm_schema.specs.Schema.{meta, register_schema}
use Rattle.adm_schema.specs.Texts.{insert_meta, meta_terms, update_meta}
use Rattle.adm_schema.proofs.Casts.{cast_null, cast_int}
use Rattle.adm_schema.proofs.Inserts.{inserted, adds}
use Rattle.adm_schema.proofs.Texts.{inserts_meta}
use Rattle.adm_schema.proofs.DrawCount.{sets_draws}
use Rattle.adm_types.specs.declared.draws.DrawRow.{DrawRow}
use Rattle.adm_store.specs.declared.rows.SeasonRow.{SeasonRow}
use Rattle.adm_store.specs.Changes.{written_season, written_count}
use Rattle.adm_rows.specs.Forms.{phase_code, version_code}
use Rattle.adm_schema.specs.declared.version.Version.TheVariants.{Second}
use Rattle.adm_store.specs.Writes.{Adds, Sets, Writes, write_of}
use Rattle.adm_store.proofs.LogLemmas.{add_keyed, set_one}

-- the parameters, and the row before it is cast
abbrev pub season_values : SeasonRow → Row
season_values it = Int (pos (version_code Second it.size)) ∷ Int (pos (phase_code it.phase)) ∷ Int (pos it.year) ∷ Text it.holidays ∷ []

abbrev source : SeasonRow → Row
source it = Int (pos 1) ∷ Null ∷ Int (pos (version_code Second it.size)) ∷ Int (pos (phase_code it.phase)) ∷ Int (pos it.year) ∷ Text it.holidays ∷ Int (pos 0) ∷ []

stored_season : (it : SeasonRow) (rows : List Row) → with_rowid Chosen rows (cast_row meta (source it)) ≡ source it
stored_season it rows = rw (cast_null, cast_int (pos 1), cast_int (pos (version_code Second it.size)), cast_int (pos (phase_code it.phase)), cast_int (pos it.year), cast_int (pos 0))

pub adds_season : (old new : State) (count : ℕ) (it : SeasonRow) → doubt old.is_clean ≤ doubt new.is_clean
    → (HasCleanDisk new → ExecutesInside 0 insert_meta (season_values it) old new (Ok count)) → Writes (write_of Adds meta written_season (it ∷ []) ∷ []) old new
adds_season old new count it later ran = add_keyed meta has_meta old new later refl (written_season it) refl (λ clean sees.
    let early : HasCleanDisk old = omega (arith, later, clean) in
    let h = ran clean in
    adds register_schema meta 0 refl refl refl (λ _ _. refl) old new (source it) (written_season it) (λ rows. ap (columns_of meta) (stored_season it rows))
    (inserted register_schema meta 0 refl refl refl (λ _ _. refl) meta_terms 7 insert_meta (season_values it) (source it) old new count inserts_meta.0 inserts_meta.1 refl (sees early h.1.was_open) h))

pub sets_count : (old new : State) (count : ℕ) (it : DrawRow) → doubt old.is_clean ≤ doubt new.is_clean
    → (HasCleanDisk new → ExecutesInside 0 update_meta (written_count it) old new (Ok count)) → Writes (write_of Sets meta written_count (it ∷ []) ∷ []) old new
sets_count old new count it later ran = set_one old new later (pos it.draw) (λ clean sees sound.
    let early : HasCleanDisk old = omega (arith, later, clean) in
    let h = ran clean in
    sets_draws old new it.draw count (sees early h.1.was_open) (sound early h.1.was_open) h)
