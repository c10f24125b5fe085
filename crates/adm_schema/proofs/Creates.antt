-- Each of the texts makes its table.
use Rattle.std.proofs.Common.{refl}
use Rattle.sqlite.specs.Listing.{understood}
use Rattle.sqlite_tied.specs.Compute.{everything}
use Rattle.adm_schema.specs.declared.version.Version.TheVariants.{First}
use Rattle.adm_schema.specs.Schema as s
use Rattle.adm_schema.specs.Creations.{IsCreation, create_meta, create_school, create_child, create_application, create_place, create_left_list, create_draw, create_offer, create_lot, create_imported, create_present}

pub creates_meta : IsCreation s.no_schema create_meta s.new_meta s.with_meta
unfolding understood everything
creates_meta = record { command = refl; text = refl; plain = (refl, refl); defines = refl; makes = refl; uncounted = refl }

pub creates_school : IsCreation s.with_meta create_school s.new_school s.with_school
unfolding understood everything
creates_school = record { command = refl; text = refl; plain = (refl, refl); defines = refl; makes = refl; uncounted = refl }

pub creates_child : IsCreation s.with_school create_child s.new_child s.with_child
unfolding understood everything
creates_child = record { command = refl; text = refl; plain = (refl, refl); defines = refl; makes = refl; uncounted = refl }

pub creates_application : IsCreation s.with_child create_application s.new_application s.with_application
unfolding understood everything
creates_application = record { command = refl; text = refl; plain = (refl, refl); defines = refl; makes = refl; uncounted = refl }

pub creates_place : IsCreation s.with_application create_place s.new_place s.with_place
unfolding understood everything
creates_place = record { command = refl; text = refl; plain = (refl, refl); defines = refl; makes = refl; uncounted = refl }

pub creates_left_list : IsCreation s.with_place create_left_list s.new_left_list s.with_left_list
unfolding understood everything
creates_left_list = record { command = refl; text = refl; plain = (refl, refl); defines = refl; makes = refl; uncounted = refl }

pub creates_draw : IsCreation s.with_left_list create_draw s.new_draw s.with_draw
unfolding understood everything
creates_draw = record { command = refl; text = refl; plain = (refl, refl); defines = refl; makes = refl; uncounted = refl }

pub creates_offer : IsCreation s.with_draw create_offer s.new_offer s.with_offer
unfolding understood everything
creates_offer = record { command = refl; text = refl; plain = (refl, refl); defines = refl; makes = refl; uncounted = refl }

pub creates_lot : IsCreation s.with_offer create_lot s.new_lot s.with_lot
unfolding understood everything
creates_lot = record { command = refl; text = refl; plain = (refl, refl); defines = refl; makes = refl; uncounted = refl }

pub creates_imported : IsCreation s.with_lot create_imported s.new_imported (s.schema_of First)
unfolding understood everything
creates_imported = record { command = refl; text = refl; plain = (refl, refl); defines = refl; makes = refl; uncounted = refl }

-- so it makes the tables of the second version of those of the first, in a new file and in an old one
pub creates_present : IsCreation (s.schema_of First) create_present s.new_present s.register_schema
unfolding understood everything
creates_present = record { command = refl; text = refl; plain = (refl, refl); defines = refl; makes = refl; uncounted = refl }
