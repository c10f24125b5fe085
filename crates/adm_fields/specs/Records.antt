-- Records of the values of their fields.
use Rattle.std.specs.Prelude.{◌≡◌, ℕ, Bool, List, Option, None}
use Rattle.std.specs.Borrow.{Bor}
use Rattle.adm_types.specs.declared.rows.Application.{Application}
use Rattle.adm_types.specs.declared.rows.Child.{Child}
use Rattle.adm_types.specs.declared.rows.Row.{Row as ImportRow}

-- the values of the fields of a child that must be there, with this of its siblings' schools, and then others
abbrev pub HomeValues : Type 0 → Type 0 → Type 0
HomeValues Siblings Others = ℕ × (List ℕ × (ℕ × (ℕ × (Bool × (ℕ × (Siblings × Others))))))

-- those others
abbrev pub others : {Siblings Others : Type 0} → HomeValues Siblings Others → Others
others v = v.1.1.1.1.1.1.1

-- the values of the fields of a child that must be there, and then others
abbrev pub ChildValues : Type 0 → Type 0
ChildValues = HomeValues (List (List ℕ))

-- the values of the columns of a child, and then others: the schools of its siblings and those of its catchments are in one column
abbrev pub StoredValues : Type 0 → Type 0
StoredValues = HomeValues (List (List ℕ) × List (List ℕ))

-- the values of the fields of a child that may be omitted
abbrev pub OptionalValues : Type 0
OptionalValues = Option (List ℕ) × (List (List ℕ) × Unit {0})

-- the values of the fields of an application: the child, the day and the list
abbrev pub ApplicationValues : Type 0
ApplicationValues = ℕ × (ℕ × (List (List ℕ) × Unit {0}))

-- the values of an application without its child: the day and the list
abbrev pub ApplicationWishes : Type 0
ApplicationWishes = ℕ × (List (List ℕ) × Unit {0})

-- the values of the fields of an imported row: those of a child, and the day and the list of its application
abbrev pub ImportValues : Type 0
ImportValues = ChildValues (ℕ × (List (List ℕ) × OptionalValues))

-- the child with these values, and with these of fields that may be omitted
abbrev pub child_with : {Others : Type 0} → ChildValues Others → OptionalValues → Child
child_with v optional = record {
  no = v.0;
  name = v.1.0;
  home = record { east = v.1.1.0; north = v.1.1.1.0 };
  looked_after = v.1.1.1.1.0;
  flags = v.1.1.1.1.1.0;
  siblings = v.1.1.1.1.1.1.0;
  present = optional.0;
  catchments = optional.1.0;
}

-- the child with these values of its fields
abbrev pub child_of : ChildValues OptionalValues → Child
child_of v = child_with v (others v)

-- the application with these values of its fields
abbrev pub application_of : ApplicationValues → Application
application_of v = record { child = v.0; day = v.1.0; list = v.1.1.0 }

-- the imported row with these values of its fields
abbrev pub import_of : ImportValues → ImportRow
import_of v = record { child = child_with v (others v).1.1; day = (others v).0; preferences = (others v).1.0 }

-- the child with these values of its columns, and without a present school
abbrev pub stored_child : {Others : Type 0} → StoredValues Others → Child
stored_child v = record {
  no = v.0;
  name = v.1.0;
  home = record { east = v.1.1.0; north = v.1.1.1.0 };
  looked_after = v.1.1.1.1.0;
  flags = v.1.1.1.1.1.0;
  siblings = v.1.1.1.1.1.1.0.0;
  present = None;
  catchments = v.1.1.1.1.1.1.0.1;
}

-- the same of a row that has no other columns
abbrev pub home_of : StoredValues (Unit {0}) → Child
home_of v = stored_child v

-- the imported row with these values of its columns, and without a present school
abbrev pub bare_import_of : StoredValues ApplicationWishes → ImportRow
bare_import_of v = record { child = stored_child v; day = (others v).0; preferences = (others v).1.0 }

-- ---- and back

-- the values of a child's fields, and then others
abbrev pub values_and : {Others : Type 0} → Child → Others → ChildValues Others
values_and c others = (c.no, (c.name, (c.home.east, (c.home.north, (c.looked_after, (c.flags, (c.siblings, others)))))))

-- the values of a child's fields
abbrev pub child_values : Child → ChildValues OptionalValues
child_values c = values_and c (c.present, (c.catchments, tt))

-- the values of a child's columns, and then others
abbrev pub stored_and : {Others : Type 0} → Child → Others → StoredValues Others
stored_and c others = (c.no, (c.name, (c.home.east, (c.home.north, (c.looked_after, (c.flags, ((c.siblings, c.catchments), others)))))))

-- the values of a child's columns
abbrev pub home_values : Child → StoredValues (Unit {0})
home_values c = stored_and c tt

-- the values of an application's fields
abbrev pub application_values : Application → ApplicationValues
application_values a = (a.child, (a.day, (a.list, tt)))

-- the values of an imported row's columns
abbrev pub import_values : ImportRow → StoredValues ApplicationWishes
import_values r = stored_and r.child (r.day, (r.preferences, tt))

-- the references are to the fields of the child
abbrev pub refs_are : Child → Bor ℕ × (Bor (List ℕ) × (Bor ℕ × (Bor ℕ × (Bor Bool × (Bor ℕ × (Bor (List (List ℕ)) × (Bor (Option (List ℕ)) × (Bor (List (List ℕ)) × Unit {0})))))))) → Type 0
refs_are c r =
    (c.no ≡ r.0.now) × (c.name ≡ r.1.0.now) × (c.home.east ≡ r.1.1.0.now) × (c.home.north ≡ r.1.1.1.0.now) × (c.looked_after ≡ r.1.1.1.1.0.now) × (c.flags ≡ r.1.1.1.1.1.0.now)
    × (c.siblings ≡ r.1.1.1.1.1.1.0.now) × (c.present ≡ r.1.1.1.1.1.1.1.0.now) × (c.catchments ≡ r.1.1.1.1.1.1.1.1.0.now)
