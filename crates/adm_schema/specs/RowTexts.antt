-- The fixed texts that write and delete one row of a table by its key, and those that only add one, or eight.
use Rattle.std.specs.Prelude.{ℕ, List, [], ◌∷◌, codes}
use Rattle.sqlite.specs.Collation.TheVariants.{Binary}
use Rattle.sqlite.specs.Term.{Term, op2, col}
use Rattle.sqlite_sql.specs.declared.ops.BinaryOp.TheVariants.{Compare}
use Rattle.sqlite_sql.specs.declared.ops.CompareOp.TheVariants.{Eq}
use Rattle.adm_schema.specs.Columns.{insert_text, put_text, delete_text, added_terms, given_terms, one_row, eight_rows}
use Rattle.adm_schema.specs.Schema.{school, child, application, place, offer, lot, present}

abbrev pub put_child : List ℕ
put_child = put_text child one_row

-- children that are new: one, and eight
abbrev pub insert_child : List ℕ
insert_child = insert_text child one_row

abbrev pub insert_children : List ℕ
insert_children = insert_text child eight_rows

abbrev pub put_application : List ℕ
put_application = put_text application one_row

-- applications that are new: one, and eight
abbrev pub insert_application : List ℕ
insert_application = insert_text application one_row

abbrev pub insert_applications : List ℕ
insert_applications = insert_text application eight_rows

abbrev pub put_place : List ℕ
put_place = put_text place one_row

abbrev pub place_terms : List Term
place_terms = given_terms place.columns one_row

-- eight places that are new
abbrev pub insert_places : List ℕ
insert_places = insert_text place eight_rows

abbrev pub delete_application : List ℕ
delete_application = delete_text application (codes "child")

abbrev pub delete_place : List ℕ
delete_place = delete_text place (codes "child")

-- the rowid is the parameter
abbrev pub has_key : List Term
has_key = op2 (Compare Eq Binary) (col 1 0) (col 0 0) ∷ []

-- ---- rows that are only added: their keys are indexes, and their rowids are no columns

abbrev pub insert_offer : List ℕ
insert_offer = insert_text offer one_row

abbrev pub offer_terms : List Term
offer_terms = added_terms offer.columns one_row

-- eight outcomes of draws
abbrev pub insert_offers : List ℕ
insert_offers = insert_text offer eight_rows

abbrev pub insert_lot : List ℕ
insert_lot = insert_text lot one_row

abbrev pub lot_terms : List Term
lot_terms = added_terms lot.columns one_row

-- eight lots
abbrev pub insert_lots : List ℕ
insert_lots = insert_text lot eight_rows

abbrev pub insert_present : List ℕ
insert_present = insert_text present one_row

abbrev pub present_terms : List Term
present_terms = added_terms present.columns one_row

-- ---- a row whose key is no integer is found by its key, and deleted or written by its rowid

abbrev pub find_present : List ℕ
find_present = codes "SELECT rowid FROM present WHERE child = ?1 AND imported = ?2"

-- its first two columns are the parameters
abbrev pub is_present : List Term
is_present = op2 (Compare Eq Binary) (col 1 1) (col 0 0) ∷ op2 (Compare Eq Binary) (col 1 2) (col 0 1) ∷ []

abbrev pub delete_present : List ℕ
delete_present = delete_text present (codes "rowid")

abbrev pub find_school : List ℕ
find_school = codes "SELECT rowid FROM school WHERE code = ?1"

-- its code is the parameter
abbrev pub has_code : List Term
has_code = op2 (Compare Eq Binary) (col 1 1) (col 0 0) ∷ []

abbrev pub delete_school : List ℕ
delete_school = delete_text school (codes "rowid")

-- all columns of a school: they are the parameters, and then the rowid
abbrev pub update_school : List ℕ
update_school = codes "UPDATE school SET code = ?1, name = ?2, pan = ?3, east = ?4, north = ?5, criteria = ?6 WHERE rowid = ?7"

-- the rowid before and after, and then each column
abbrev pub school_turned : List Term
school_turned = col 1 0 ∷ col 1 0 ∷ col 0 0 ∷ col 0 1 ∷ col 0 2 ∷ col 0 3 ∷ col 0 4 ∷ col 0 5 ∷ []

-- the rowid is the seventh parameter
abbrev pub has_seventh : List Term
has_seventh = op2 (Compare Eq Binary) (col 1 0) (col 0 6) ∷ []
