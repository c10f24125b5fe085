-- What each text that writes, adds or deletes rows of a table by their keys means under the register's schema.
use Rattle.std.proofs.Common.{◌≡◌, refl, ℕ, List, false}
use Rattle.std.specs.Prelude.{[], ◌∷◌, suc, length}
use Rattle.sqlite.specs.Term.{col}
use Rattle.sqlite.specs.Command.TheVariants.{Select, Insert, InsertOr, Update, Delete}
use Rattle.sqlite_schema.specs.declared.command.Conflict.TheVariants.{Replace}
use Rattle.sqlite.specs.Source.TheVariants.{Values}
use Rattle.sqlite.specs.Listing.{understood, reads_listing}
use Rattle.sqlite.proofs.Callers.{IsPlain, command_of}
use Rattle.sqlite_tied.specs.Compute.{everything}
use Rattle.adm_schema.specs.Columns.{child_columns, application_columns, given_terms, added_terms, one_row, eight_rows}
use Rattle.adm_schema.specs.Queries.{query_of, program_of}
use Rattle.adm_schema.specs.Schema.{place, offer, lot, register_schema}
use Rattle.adm_schema.specs.RowTexts as text

pub puts_child : (command_of (understood register_schema text.put_child) ≡ InsertOr 2 Replace (Values (given_terms child_columns one_row) (suc (length child_columns))) [])
    × IsPlain (understood register_schema text.put_child)
unfolding understood everything
puts_child = (refl, (refl, refl))

pub inserts_child : (command_of (understood register_schema text.insert_child) ≡ Insert 2 (Values (given_terms child_columns one_row) (suc (length child_columns))))
    × IsPlain (understood register_schema text.insert_child)
unfolding understood everything
inserts_child = (refl, (refl, refl))

pub inserts_children : (command_of (understood register_schema text.insert_children) ≡ Insert 2 (Values (given_terms child_columns eight_rows) (suc (length child_columns))))
    × IsPlain (understood register_schema text.insert_children)
unfolding understood everything
inserts_children = (refl, (refl, refl))

pub puts_application : (command_of (understood register_schema text.put_application) ≡ InsertOr 3 Replace
    (Values (given_terms application_columns one_row) (suc (length application_columns))) []) × IsPlain (understood register_schema text.put_application)
unfolding understood everything
puts_application = (refl, (refl, refl))

pub inserts_application : (command_of (understood register_schema text.insert_application) ≡ Insert 3 (Values (given_terms application_columns one_row) (suc (length application_columns))))
    × IsPlain (understood register_schema text.insert_application)
unfolding understood everything
inserts_application = (refl, (refl, refl))

pub inserts_applications : (command_of (understood register_schema text.insert_applications) ≡ Insert 3 (Values (given_terms application_columns eight_rows) (suc (length application_columns))))
    × IsPlain (understood register_schema text.insert_applications)
unfolding understood everything
inserts_applications = (refl, (refl, refl))

pub puts_place : (command_of (understood register_schema text.put_place) ≡ InsertOr 4 Replace (Values text.place_terms 6) []) × IsPlain (understood register_schema text.put_place)
unfolding understood everything
puts_place = (refl, (refl, refl))

pub inserts_places : (command_of (understood register_schema text.insert_places) ≡ Insert 4 (Values (given_terms place.columns eight_rows) 6))
    × IsPlain (understood register_schema text.insert_places)
unfolding understood everything
inserts_places = (refl, (refl, refl))

pub cuts_application : (command_of (understood register_schema text.delete_application) ≡ Delete 3 (program_of (query_of 4 text.has_key (col 1 0 ∷ []) [])))
    × IsPlain (understood register_schema text.delete_application)
unfolding understood everything
cuts_application = (refl, (refl, refl))

pub cuts_place : (command_of (understood register_schema text.delete_place) ≡ Delete 4 (program_of (query_of 5 text.has_key (col 1 0 ∷ []) [])))
    × IsPlain (understood register_schema text.delete_place)
unfolding understood everything
cuts_place = (refl, (refl, refl))

pub inserts_offer : (command_of (understood register_schema text.insert_offer) ≡ Insert 7 (Values text.offer_terms 5)) × IsPlain (understood register_schema text.insert_offer)
unfolding understood everything
inserts_offer = (refl, (refl, refl))

pub inserts_offers : (command_of (understood register_schema text.insert_offers) ≡ Insert 7 (Values (added_terms offer.columns eight_rows) 5))
    × IsPlain (understood register_schema text.insert_offers)
unfolding understood everything
inserts_offers = (refl, (refl, refl))

pub inserts_lot : (command_of (understood register_schema text.insert_lot) ≡ Insert 8 (Values text.lot_terms 5)) × IsPlain (understood register_schema text.insert_lot)
unfolding understood everything
inserts_lot = (refl, (refl, refl))

pub inserts_lots : (command_of (understood register_schema text.insert_lots) ≡ Insert 8 (Values (added_terms lot.columns eight_rows) 5))
    × IsPlain (understood register_schema text.insert_lots)
unfolding understood everything
inserts_lots = (refl, (refl, refl))

pub inserts_present : (command_of (understood register_schema text.insert_present) ≡ Insert 10 (Values text.present_terms 4)) × IsPlain (understood register_schema text.insert_present)
unfolding understood everything
inserts_present = (refl, (refl, refl))

pub finds_present : (names : List (List ℕ)) × (command_of (understood register_schema text.find_present) ≡ Select
    (program_of (query_of 15 text.is_present (col 1 0 ∷ []) [])) names) × IsPlain (understood register_schema text.find_present) × (reads_listing register_schema text.find_present ≡ false)
unfolding understood everything
finds_present = (_, refl, (refl, refl), refl)

pub cuts_present : (command_of (understood register_schema text.delete_present) ≡ Delete 10 (program_of (query_of 15 text.has_key (col 1 0 ∷ []) [])))
    × IsPlain (understood register_schema text.delete_present)
unfolding understood everything
cuts_present = (refl, (refl, refl))

pub finds_school : (names : List (List ℕ)) × (command_of (understood register_schema text.find_school) ≡ Select
    (program_of (query_of 1 text.has_code (col 1 0 ∷ []) [])) names) × IsPlain (understood register_schema text.find_school) × (reads_listing register_schema text.find_school ≡ false)
unfolding understood everything
finds_school = (_, refl, (refl, refl), refl)

pub updates_school : (command_of (understood register_schema text.update_school) ≡ Update 1 (program_of (query_of 1 text.has_seventh text.school_turned [])))
    × IsPlain (understood register_schema text.update_school)
unfolding understood everything
updates_school = (refl, (refl, refl))

pub cuts_school : (command_of (understood register_schema text.delete_school) ≡ Delete 1 (program_of (query_of 1 text.has_key (col 1 0 ∷ []) [])))
    × IsPlain (understood register_schema text.delete_school)
unfolding understood everything
cuts_school = (refl, (refl, refl))
