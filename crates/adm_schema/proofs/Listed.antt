-- Each of the tables is one of the register's.
use Rattle.std.proofs.Common.{inl, inr, refl}
use Rattle.sqlite_rules.specs.Lists.{Has}
use Rattle.adm_schema.specs.Schema.{meta, school, child, application, place, left_list, draw, offer, lot, imported, present, schema_of, register_schema}
use Rattle.adm_schema.specs.declared.version.Version.{Version}

pub has_meta : Has register_schema.tables meta
has_meta = inl refl

pub has_school : Has register_schema.tables school
has_school = inr (inl refl)

pub has_child : Has register_schema.tables child
has_child = inr (inr (inl refl))

pub has_application : Has register_schema.tables application
has_application = inr (inr (inr (inl refl)))

pub has_place : Has register_schema.tables place
has_place = inr (inr (inr (inr (inl refl))))

pub has_left_list : Has register_schema.tables left_list
has_left_list = inr (inr (inr (inr (inr (inl refl)))))

pub has_draw : Has register_schema.tables draw
has_draw = inr (inr (inr (inr (inr (inr (inl refl))))))

pub has_offer : Has register_schema.tables offer
has_offer = inr (inr (inr (inr (inr (inr (inr (inl refl)))))))

pub has_lot : Has register_schema.tables lot
has_lot = inr (inr (inr (inr (inr (inr (inr (inr (inl refl))))))))

pub has_imported : Has register_schema.tables imported
has_imported = inr (inr (inr (inr (inr (inr (inr (inr (inr (inl refl)))))))))

pub has_present : Has register_schema.tables present
has_present = inr (inr (inr (inr (inr (inr (inr (inr (inr (inr (inl refl))))))))))

-- ---- in the schema of each version

module _ (v : Version) where
  pub meta_in : Has (schema_of v).tables meta
  meta_in = inl refl

  pub school_in : Has (schema_of v).tables school
  school_in = inr (inl refl)

  pub child_in : Has (schema_of v).tables child
  child_in = inr (inr (inl refl))

  pub application_in : Has (schema_of v).tables application
  application_in = inr (inr (inr (inl refl)))

  pub place_in : Has (schema_of v).tables place
  place_in = inr (inr (inr (inr (inl refl))))

  pub left_list_in : Has (schema_of v).tables left_list
  left_list_in = inr (inr (inr (inr (inr (inl refl)))))

  pub draw_in : Has (schema_of v).tables draw
  draw_in = inr (inr (inr (inr (inr (inr (inl refl))))))

  pub offer_in : Has (schema_of v).tables offer
  offer_in = inr (inr (inr (inr (inr (inr (inr (inl refl)))))))

  pub lot_in : Has (schema_of v).tables lot
  lot_in = inr (inr (inr (inr (inr (inr (inr (inr (inl refl))))))))

  pub imported_in : Has (schema_of v).tables imported
  imported_in = inr (inr (inr (inr (inr (inr (inr (inr (inr (inl refl)))))))))
