-- What each fixed text means: one that queries, under the schema of each version, and one that writes, under that which is written.
use Rattle.std.proofs.Common.{◌≡◌, refl, arith}
use Rattle.std.specs.Prelude.{[], suc, length}
use Rattle.sqlite.specs.Command.TheVariants.{Insert, Update}
use Rattle.sqlite.specs.Source.TheVariants.{Values}
use Rattle.sqlite.specs.Listing.{understood}
use Rattle.sqlite.proofs.Callers.{IsPlain, command_of}
use Rattle.sqlite_tied.specs.Compute.{everything}
use Rattle.adm_schema.specs.Columns.{child_columns, application_columns, imported_columns, given_terms, shown_terms, one_row, eight_rows}
use Rattle.adm_schema.specs.Queries.{Asks, query_of, program_of}
use Rattle.adm_schema.specs.declared.version.Version.{Version}
use Rattle.adm_schema.specs.Schema.{schema_of, register_schema}
use Rattle.adm_schema.proofs.Answered.{answered}
use Rattle.adm_schema.specs.Texts as text

pub inserts_meta : (command_of (understood register_schema text.insert_meta) ≡ Insert 0 (Values text.meta_terms 7)) × IsPlain (understood register_schema text.insert_meta)
unfolding understood everything
inserts_meta = (refl, (refl, refl))

pub updates_meta : (command_of (understood register_schema text.update_meta) ≡ Update 0 (program_of (query_of 0 [] text.meta_turned []))) × IsPlain (understood register_schema text.update_meta)
unfolding understood everything
updates_meta = (refl, (refl, refl))

pub inserts_school : (command_of (understood register_schema text.insert_school) ≡ Insert 1 (Values text.school_terms 7)) × IsPlain (understood register_schema text.insert_school)
unfolding understood everything
inserts_school = (refl, (refl, refl))

pub asks_meta : (v : Version) → Asks (schema_of v) text.select_meta 0 text.meta_columns []
unfolding understood everything
asks_meta v = record {
  names = _;
  command = refl;
  unlisted = refl;
  plain = (refl, refl);
  whole = (omega arith, refl);
  answered = λ db e. answered _ db e 0 text.meta_columns [] (λ h. absurd (let wrong = h.1 in cc));
}

pub asks_schools : (v : Version) → Asks (schema_of v) text.select_schools 1 text.school_columns text.by_code
unfolding understood everything
asks_schools v = record {
  names = _;
  command = refl;
  unlisted = refl;
  plain = (refl, refl);
  whole = (omega arith, refl);
  answered = λ db e. answered _ db e 1 text.school_columns text.by_code (λ h. absurd (let wrong = h.1 in cc));
}

pub asks_children : (v : Version) → Asks (schema_of v) text.select_children 3 (shown_terms child_columns) text.by_child
unfolding understood everything
asks_children v = record {
  names = _;
  command = refl;
  unlisted = refl;
  plain = (refl, refl);
  whole = (omega arith, refl);
  answered = λ db e. answered _ db e 3 (shown_terms child_columns) text.by_child (λ h. absurd (let wrong = h.1 in cc));
}

pub asks_applications : (v : Version) → Asks (schema_of v) text.select_applications 4 (shown_terms application_columns) text.by_child
unfolding understood everything
asks_applications v = record {
  names = _;
  command = refl;
  unlisted = refl;
  plain = (refl, refl);
  whole = (omega arith, refl);
  answered = λ db e. answered _ db e 4 (shown_terms application_columns) text.by_child (λ h. absurd (let wrong = h.1 in cc));
}

pub asks_places : (v : Version) → Asks (schema_of v) text.select_places 5 text.place_columns text.by_child
unfolding understood everything
asks_places v = record {
  names = _;
  command = refl;
  unlisted = refl;
  plain = (refl, refl);
  whole = (omega arith, refl);
  answered = λ db e. answered _ db e 5 text.place_columns text.by_child (λ h. absurd (let wrong = h.1 in cc));
}

pub inserts_left_list : (command_of (understood register_schema text.insert_left_list) ≡ Insert 5 (Values text.left_list_terms 3)) × IsPlain (understood register_schema text.insert_left_list)
unfolding understood everything
inserts_left_list = (refl, (refl, refl))

pub asks_left_list : (v : Version) → Asks (schema_of v) text.select_left_list 6 text.left_list_columns []
unfolding understood everything
asks_left_list v = record {
  names = _;
  command = refl;
  unlisted = refl;
  plain = (refl, refl);
  whole = (omega arith, refl);
  answered = λ db e. answered _ db e 6 text.left_list_columns [] (λ h. absurd (let wrong = h.1 in cc));
}

pub inserts_draw : (command_of (understood register_schema text.insert_draw) ≡ Insert 6 (Values text.draw_terms 5)) × IsPlain (understood register_schema text.insert_draw)
unfolding understood everything
inserts_draw = (refl, (refl, refl))

pub asks_draws : (v : Version) → Asks (schema_of v) text.select_draws 8 text.draw_columns []
unfolding understood everything
asks_draws v = record {
  names = _;
  command = refl;
  unlisted = refl;
  plain = (refl, refl);
  whole = (omega arith, refl);
  answered = λ db e. answered _ db e 8 text.draw_columns [] (λ h. absurd (let wrong = h.1 in cc));
}

pub asks_offers : (v : Version) → Asks (schema_of v) text.select_offers 9 text.offer_columns []
unfolding understood everything
asks_offers v = record {
  names = _;
  command = refl;
  unlisted = refl;
  plain = (refl, refl);
  whole = (omega arith, refl);
  answered = λ db e. answered _ db e 9 text.offer_columns [] (λ h. absurd (let wrong = h.1 in cc));
}

pub asks_lots : (v : Version) → Asks (schema_of v) text.select_lots 11 text.lot_columns []
unfolding understood everything
asks_lots v = record {
  names = _;
  command = refl;
  unlisted = refl;
  plain = (refl, refl);
  whole = (omega arith, refl);
  answered = λ db e. answered _ db e 11 text.lot_columns [] (λ h. absurd (let wrong = h.1 in cc));
}

pub inserts_imported : (command_of (understood register_schema text.insert_imported) ≡ Insert 9 (Values (given_terms imported_columns one_row) (suc (length imported_columns))))
    × IsPlain (understood register_schema text.insert_imported)
unfolding understood everything
inserts_imported = (refl, (refl, refl))

pub inserts_imported_rows : (command_of (understood register_schema text.insert_imported_rows) ≡ Insert 9 (Values (given_terms imported_columns eight_rows) (suc (length imported_columns))))
    × IsPlain (understood register_schema text.insert_imported_rows)
unfolding understood everything
inserts_imported_rows = (refl, (refl, refl))

pub asks_imported : (v : Version) → Asks (schema_of v) text.select_imported 14 (shown_terms imported_columns) []
unfolding understood everything
asks_imported v = record {
  names = _;
  command = refl;
  unlisted = refl;
  plain = (refl, refl);
  whole = (omega arith, refl);
  answered = λ db e. answered _ db e 14 (shown_terms imported_columns) [] (λ h. absurd (let wrong = h.1 in cc));
}

pub asks_present : Asks register_schema text.select_present 15 text.present_column_terms []
unfolding understood everything
asks_present = record {
  names = _;
  command = refl;
  unlisted = refl;
  plain = (refl, refl);
  whole = (omega arith, refl);
  answered = λ db e. answered _ db e 15 text.present_column_terms [] (λ h. absurd (let wrong = h.1 in cc));
}

pub marks_version : (command_of (understood register_schema text.mark_version) ≡ Update 0 (program_of (query_of 0 [] text.meta_marked []))) × IsPlain (understood register_schema text.mark_version)
unfolding understood everything
marks_version = (refl, (refl, refl))
