-- The fixed texts that write and read the register's tables.
use Rattle.std.specs.Prelude.{ℕ, pos, false, List, [], ◌∷◌, ◌++◌, codes}
use Rattle.sqlite.specs.declared.types.Value.TheVariants.{Null, Int}
use Rattle.sqlite.specs.Collation.TheVariants.{Binary}
use Rattle.sqlite.specs.Term.{Term, lit, col}
use Rattle.sqlite_value.specs.declared.keys.Key.{Key}
use Rattle.adm_schema.specs.Columns.{insert_text, select_text, added_terms, given_terms, column_terms, shown_terms, one_row, eight_rows}
use Rattle.adm_schema.specs.Schema.{meta, school, child, application, place, left_list, draw, offer, lot, imported, present}

abbrev pub insert_meta : List ℕ
insert_meta = codes "INSERT INTO meta (one, version, phase, year, holidays, draws) VALUES (1, ?1, ?2, ?3, ?4, 0)"

-- the rowid, and then each column
abbrev pub meta_terms : List Term
meta_terms = lit (Int (pos 1)) ∷ lit Null ∷ col 0 0 ∷ col 0 1 ∷ col 0 2 ∷ col 0 3 ∷ lit (Int (pos 0)) ∷ []

abbrev pub update_meta : List ℕ
update_meta = codes "UPDATE meta SET draws = ?1"

-- the rowid before and after, and then each column, of which the last is given
abbrev pub meta_turned : List Term
meta_turned = col 1 0 ∷ col 1 0 ∷ lit Null ∷ col 1 2 ∷ col 1 3 ∷ col 1 4 ∷ col 1 5 ∷ col 0 0 ∷ []

abbrev pub insert_school : List ℕ
insert_school = insert_text school one_row

abbrev pub school_terms : List Term
school_terms = added_terms school.columns one_row

-- the query of the row of `meta`
abbrev pub select_meta : List ℕ
select_meta = select_text meta

abbrev pub meta_columns : List Term
meta_columns = shown_terms meta.columns

abbrev pub select_schools : List ℕ
select_schools = select_text school ++ codes " ORDER BY code"

abbrev pub school_columns : List Term
school_columns = column_terms school.columns

abbrev pub by_code : List (Term × Key)
by_code = (col 1 1, record { collation = Binary; descending = false }) ∷ []

abbrev pub select_children : List ℕ
select_children = select_text child ++ codes " ORDER BY child"

abbrev pub select_applications : List ℕ
select_applications = select_text application ++ codes " ORDER BY child"

abbrev pub select_places : List ℕ
select_places = select_text place ++ codes " ORDER BY child"

abbrev pub place_columns : List Term
place_columns = shown_terms place.columns

-- in the order of the children's numbers
abbrev pub by_child : List (Term × Key)
by_child = (col 1 0, record { collation = Binary; descending = false }) ∷ []

-- ---- the tables whose rows are only added

abbrev pub insert_left_list : List ℕ
insert_left_list = insert_text left_list one_row

abbrev pub left_list_terms : List Term
left_list_terms = added_terms left_list.columns one_row

abbrev pub select_left_list : List ℕ
select_left_list = select_text left_list

abbrev pub left_list_columns : List Term
left_list_columns = column_terms left_list.columns

abbrev pub insert_draw : List ℕ
insert_draw = insert_text draw one_row

abbrev pub draw_terms : List Term
draw_terms = given_terms draw.columns one_row

abbrev pub select_draws : List ℕ
select_draws = select_text draw

abbrev pub draw_columns : List Term
draw_columns = shown_terms draw.columns

abbrev pub select_offers : List ℕ
select_offers = select_text offer

abbrev pub offer_columns : List Term
offer_columns = column_terms offer.columns

abbrev pub select_lots : List ℕ
select_lots = select_text lot

abbrev pub lot_columns : List Term
lot_columns = column_terms lot.columns

abbrev pub insert_imported : List ℕ
insert_imported = insert_text imported one_row

-- eight imported rows
abbrev pub insert_imported_rows : List ℕ
insert_imported_rows = insert_text imported eight_rows

abbrev pub select_imported : List ℕ
select_imported = select_text imported

abbrev pub select_present : List ℕ
select_present = select_text present

abbrev pub present_column_terms : List Term
present_column_terms = column_terms present.columns

-- the file is of the second version
abbrev pub mark_version : List ℕ
mark_version = codes "UPDATE meta SET version = 2"

-- the rowid before and after, and then each column, of which the second is the number
abbrev pub meta_marked : List Term
meta_marked = col 1 0 ∷ col 1 0 ∷ lit Null ∷ lit (Int (pos 2)) ∷ col 1 3 ∷ col 1 4 ∷ col 1 5 ∷ col 1 6 ∷ []
