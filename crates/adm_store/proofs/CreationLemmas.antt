-- The file of a new register: it represents the register that has its season alone.
use Rattle.std.proofs.Common.{◌≡◌, ◌≤◌, true, inl, [], ◌∷◌, map, flat_map, refl, sym, ap, ◌∙◌, subst, arith, IsTrue}
use Rattle.std.specs.List.Sorted.{IsPermutation}
use Rattle.std.specs.Ordering.{nat_cmp}
use Rattle.std.specs.FinMap.{empty}
use Rattle.sqlite.specs.Table.{Table}
use Rattle.sqlite.specs.Held.{Held, state}
use Rattle.sqlite_trees.specs.declared.store.Store as store
use Rattle.sqlite_trees.specs.View.{doubt}
use Rattle.sqlite.specs.State.{State, HasCleanDisk, IsLive}
use Rattle.sqlite_catalog.specs.Listing.{IsSound}
use Rattle.sqlite_rules.specs.Lists.{Has}
use Rattle.adm_lists.proofs.Maps.{values-empty}
use Rattle.adm_types.specs.Seasons.{SeasonFacts}
use Rattle.adm_types.specs.Limits.{code_cmp}
use Rattle.adm_register.specs.State.{only_season, left_cmp}
use Rattle.adm_schema.specs.declared.version.Version.TheVariants.{Second}
use Rattle.adm_schema.specs.Rows.{columns_of, rows_of}
use Rattle.adm_schema.specs.Effects.{SeesNoRows}
use Rattle.adm_schema.specs.Schema.{meta, no_schema, register_schema}
use Rattle.adm_register.specs.Rows.{rows_in_order}
use Rattle.adm_register.specs.declared.register_rows.Rows.{Rows}
use Rattle.adm_register.proofs.OnlySeason.{only_season-WellFormed}
use Rattle.adm_draws.specs.Draws.{row_of, offer_rows_of, lot_rows_of}
use Rattle.adm_store.specs.declared.rows.SeasonRow.{SeasonRow}
use Rattle.adm_store.specs.Changes.{IsRowOf, written_season}
use Rattle.adm_rows.specs.Represents.{RepresentsIn, HasRows, written_in, written_tables}
use Rattle.adm_store.specs.Writes.{Adds, Leaves, Writes, write_of, after_writes, are_keyed}
use Rattle.adm_store.proofs.LogLemmas.{keyed_none}
use Rattle.adm_rows.proofs.RegisterRows.{each_table}
use Rattle.adm_rows.proofs.RowLemmas.{recursion_had}

-- the rows of a register that has only its season
abbrev season_alone : SeasonFacts → Rows
season_alone season = record { season = season; schools = []; children = []; applications = []; places = []; left = []; draws = []; offers = []; lots = []; imported = [] }

only_rows : (season : SeasonFacts) → rows_in_order (only_season season) ≡ season_alone season
only_rows season = λ k. record {
  season = season;
  schools = values-empty code_cmp _ k;
  children = values-empty nat_cmp _ k;
  applications = values-empty nat_cmp _ k;
  places = values-empty nat_cmp _ k;
  left = values-empty left_cmp _ k;
  draws = map row_of (values-empty nat_cmp _ k);
  offers = flat_map offer_rows_of (values-empty nat_cmp _ k);
  lots = flat_map lot_rows_of (values-empty nat_cmp _ k);
  imported = values-empty nat_cmp _ k;
}

pub represents_new : (made last : State) (season : SeasonFacts) (row : SeasonRow) → IsRowOf season row → SeesNoRows register_schema made
    → Leaves (write_of Adds meta written_season (row ∷ []) ∷ []) made last → RepresentsIn Second last.now.trees (only_season season)
represents_new made last season row it none wrote = record {
  sound = subst (λ s. IsSound s last.now.trees) (wrote.schema ∙ none.schema_is) wrote.sound;
  holds = record {
    rows = record { said = tt; sized = tt; each = λ t listed. subst (λ rows. HasRows t (written_in (written_tables Second rows) t) last.now.trees) (sym (only_rows season)) (table t listed) };
    formed = only_season-WellFormed season it.season_is;
  };
}
  where
    -- each table was empty, and the writes are the one row
    table : (t : Table) → Has register_schema.tables t → HasRows t (written_in (written_tables Second (season_alone season)) t) last.now.trees
    table t listed =
        let was : rows_of t made.now.trees ≡ [] = ap (map (columns_of t)) (recursion_had (λ (t : Table). made.now.trees t.tree ≡ []) register_schema.tables t none.empty listed) in
        let moved = subst (λ rows. IsTrue (are_keyed t rows)
        → IsPermutation (after_writes t (write_of Adds meta written_season (row ∷ []) ∷ []) rows) (rows_of t last.now.trees)) was (wrote.rows t listed) (keyed_none t) in
        subst (λ rows. IsPermutation rows (rows_of t last.now.trees)) (written t listed) moved
      where
        written : (t : Table) → Has register_schema.tables t → after_writes t (write_of Adds meta written_season (row ∷ []) ∷ []) [] ≡ written_in (written_tables Second (season_alone season)) t
        written = each_table Second (λ t. after_writes t (write_of Adds meta written_season (row ∷ []) ∷ []) [] ≡ written_in
            (written_tables Second (season_alone season)) t) (ap (λ cells. cells ∷ []) it.written, (refl, (refl, (refl, (refl, (refl, (refl, (refl, (refl, (refl, (refl, tt)))))))))))

-- what the transaction of a creation leaves represents the new register
pub created : {S : Type 0} (g : store.Ghosts S) (start begun : Held S) (made last : State) (season : SeasonFacts) (row : SeasonRow) → IsRowOf season row
    → begun ≡ record start { in_transaction = true } → start.schema ≡ no_schema → IsLive (state g start)
    → doubt (state g begun).is_clean ≤ doubt made.is_clean → doubt made.is_clean ≤ doubt last.is_clean
    → (HasCleanDisk made → (IsTrue (state g begun).is_open → SeesNoRows no_schema (state g begun)) → IsTrue made.is_open → SeesNoRows register_schema made)
    → Writes (write_of Adds meta written_season (row ∷ []) ∷ []) made last → HasCleanDisk last → RepresentsIn Second last.now.trees (only_season season)
created g start begun made last season row it is empty live clean1 clean2 makes writes clean =
    let early : HasCleanDisk made = omega (arith, clean2, clean) in
    let lively : IsLive (state g begun) = subst (λ h. IsLive (state g h)) (sym is) live in
    let sees : IsTrue (state g begun).is_open → SeesNoRows no_schema (state g begun) = λ o. record { schema_is = ap (λ (h : Held _). h.schema) is ∙ empty; sound = (lively o).0; empty = tt } in
    let none = makes early sees in
    let writing = writes clean (λ c o. (none o).schema_is) (λ c o. (none o).sound) in
    let wrote = writing.1 (writing.0 (inl (omega (arith)))) in
    represents_new made last season row it (none wrote.was_open) wrote
