-- The rows of a register are such as are read.
use Rattle.std.proofs.Common.{refl, ◌≡◌, ℕ, Bool, true, false, Option, Some, None, List, [], ◌∷◌, length, map, sym, ap, subst, subst₂, ◌∙◌}
use Rattle.std.specs.Prelude.{flat_map}
use Rattle.std.specs.List.{list_all, AllByRecursion}
use Rattle.std.proofs.lemmas.Bool.{and_parts}
use Rattle.std.proofs.lemmas.List.{nil_from_length}
use Rattle.std.proofs.lemmas.Simd.{map-map}
use Rattle.sqlite_rules.proofs.ListLemmas.{test_from, test_has, has_contained, contains_had}
use Rattle.adm_types.specs.Children.{bare_child, bare_import, present_row, present_of_child, present_of_import, presents_of}
use Rattle.adm_types.specs.declared.rows.Row.{Row as ImportRow}
use Rattle.adm_types.specs.declared.rows.PresentRow.{PresentRow}
use Rattle.std.specs.List.Sorted.{IsPermutation}
use Rattle.std.specs.FinMap.{values}
use Rattle.adm_lists.proofs.Each.{each_append}
use Rattle.adm_types.specs.Limits.{is_child_number, is_code_or_none}
use Rattle.adm_types.specs.Seasons.{SeasonFacts, lists_end}
use Rattle.adm_types.specs.declared.rows.Child.{Child}
use Rattle.adm_types.specs.declared.rows.School.{School}
use Rattle.adm_register.specs.State.{State as Register}
use Rattle.adm_register.specs.WellFormed.{WellFormed}
use Rattle.adm_schema.specs.declared.version.Version.{Version}
use Rattle.adm_schema.specs.declared.version.Version.TheVariants.{First, Second}
use Rattle.adm_schema.specs.Schema.{meta, school, child, application, place, left_list, draw, offer, lot, present, later_tables, schema_of, imported as imported_table}
use Rattle.adm_schema.proofs.Listed.{school_in, child_in, application_in, place_in, left_list_in, draw_in, offer_in, lot_in, imported_in, has_present}
use Rattle.sqlite.specs.Table.{Table}
use Rattle.sqlite_rules.specs.Lists.{Has}
use Rattle.sqlite.specs.Order.{Row}
use Rattle.sqlite.specs.Tree.{Trees}
use Rattle.std.proofs.lemmas.List.Sorted.{Contains-permutation, IsPermutation-refl, IsPermutation-sym, IsPermutation-map, IsPermutation-trans, length_permutation}
use Rattle.adm_draws.specs.Draws.{row_of}
use Rattle.adm_rows.specs.Forms.{season_row, school_row, child_row, application_row, place_row, left_row, imported_row}
use Rattle.adm_rows.specs.DrawForms.{draw_row, offer_row, lot_row, IsDrawRow, IsOfferRow, IsLotRow}
use Rattle.adm_rows.proofs.DrawRows.{draw_from, draw_back, offer_from, offer_back, lot_from, lot_back}
use Rattle.adm_rows.proofs.DrawFits.{draws_fit, offers_fit, lots_fit}
use Rattle.adm_rows.specs.Represents.{IsSizedIn, HasRows, HoldsRows, HoldsRegister, IsSaidIn, fits_first_version, written_in, written_tables}
use Rattle.adm_rows.specs.Present.{present_columns}
use Rattle.adm_rows.specs.Reads.{HoldsFirst, HoldsPresent, AreReadBack}
use Rattle.adm_register.specs.declared.register_rows.Rows.{Rows}
use Rattle.adm_register.specs.Rows.{AreRowsOf, rows_in_order}
use Rattle.adm_rows.specs.Faults.{IsSchool, IsReadAgain, IsChild, IsApplication, IsImportRow, IsImportReadAgain, IsPlaceRow, IsPresentRow, IsLeftRow, AreReadAgain, IsChildReadAgain}
use Rattle.adm_rows.proofs.RowLemmas.{values_back, values_shown, recursion_had}
use Rattle.adm_rows.proofs.PresentReads.{columns_moved, presents_moved, presents_read}
use Rattle.adm_rows.proofs.SchoolRows.{school_from, from_row, reads_again}
use Rattle.adm_rows.proofs.ChildRows.{child_from, child_back, child_again, application_from, application_back, imported_from, imported_back, import_again, place_from, place_back, left_from, left_back}
use Rattle.adm_rows.proofs.CodeLemmas.{codes_again}
use Rattle.adm_rows.proofs.RowsFit.{schools_fit, children_fit, applications_fit, imported_fit, places_fit, left_fit}

-- ---- the rows of a file, and the register that it holds

-- table by table
pub each_table : (v : Version) (P : Table → Type 0) → AllByRecursion P (schema_of v).tables → (t : Table) → Has (schema_of v).tables t → P t
each_table v P all t listed = recursion_had P (schema_of v).tables t all listed

-- the table that came later has the same rows
same_later : (v : Version) (db : Trees) (rows other : Rows) → IsPermutation rows.children other.children → IsPermutation rows.imported other.imported
    → AllByRecursion (λ t. HasRows t (written_in (written_tables v rows) t) db → HasRows t (written_in (written_tables v other) t) db) (later_tables v)
same_later First db rows other children imported = tt
same_later Second db rows other children imported =
    (λ h. IsPermutation-trans _ _ _ (IsPermutation-map present_columns _ _ (IsPermutation-sym _ _ (presents_moved rows.children other.children rows.imported other.imported children imported))) h, tt)

-- a test that all pass is passed in any order
all_moved : {X : Type 0} (p : X → Bool) (xs ys : List X) → IsPermutation xs ys → list_all p xs ≡ true → list_all p ys ≡ true
all_moved p xs ys same all = test_from p ys (λ y h. test_has p xs y all (has_contained xs y (Contains-permutation ys xs y (IsPermutation-sym _ _ same) (contains_had ys y h))))

pub none_in : {X : Type 0} (xs ys : List X) → IsPermutation xs ys → xs ≡ [] → ys ≡ []
none_in xs ys same none = nil_from_length ys (length_permutation xs ys same ∙ ap length none)

-- what a file of this version can say it can say in any order
same_said : (v : Version) (rows other : Rows) → IsPermutation rows.schools other.schools → IsPermutation rows.children other.children
    → IsPermutation rows.imported other.imported → IsSaidIn v rows → IsSaidIn v other
same_said First rows other schools children imported said =
    (all_moved fits_first_version rows.schools other.schools schools said.0, none_in _ _ (presents_moved rows.children other.children rows.imported other.imported children imported) said.1)
same_said Second rows other schools children imported said = tt

moved : {X : Type 0} (row_of : X → Row) (read values : List X) (rows : List Row) → IsPermutation read values → IsPermutation (map row_of read) rows → IsPermutation (map row_of values) rows
moved row_of read values rows same held = IsPermutation-trans _ _ _ (IsPermutation-map row_of _ _ (IsPermutation-sym _ _ same)) held

-- what is so of the tables that a file of either version has, and of those that came later, is so of all
pub with_later : (v : Version) (P : Table → Type 0) → AllByRecursion P (schema_of First).tables → AllByRecursion P (later_tables v) → AllByRecursion P (schema_of v).tables
with_later v P h later =
    (h.0, (h.1.0, (h.1.1.0, (h.1.1.1.0, (h.1.1.1.1.0, (h.1.1.1.1.1.0, (h.1.1.1.1.1.1.0, (h.1.1.1.1.1.1.1.0, (h.1.1.1.1.1.1.1.1.0, (h.1.1.1.1.1.1.1.1.1.0, later))))))))))

no_condition : {X : Type 0} (xs : List X) → AllByRecursion (λ _. Unit {0}) xs
no_condition [] = tt
no_condition (x ∷ xs) = (tt, no_condition xs)

-- ---- children and imported rows, whose own rows do not say their present schools

child_rows : (xs ys : List Child) → map bare_child xs ≡ map bare_child ys → map child_row xs ≡ map child_row ys
child_rows xs ys same = sym (map-map child_row bare_child xs) ∙ ap (map child_row) same ∙ map-map child_row bare_child ys

imported_rows : (xs ys : List ImportRow) → map bare_import xs ≡ map bare_import ys → map imported_row xs ≡ map imported_row ys
imported_rows xs ys same = sym (map-map imported_row bare_import xs) ∙ ap (map imported_row) same ∙ map-map imported_row bare_import ys

-- the same tables, where children and imported rows have their present schools
pub first_again : (v : Version) (db : Trees) (rows : Rows) (children : List Child) (imported : List ImportRow) → map bare_child children ≡ map bare_child rows.children
    → map bare_import imported ≡ map bare_import rows.imported
    → HoldsFirst v rows db
    → HoldsFirst v (record {
      season = rows.season;
      schools = rows.schools;
      children = children;
      applications = rows.applications;
      places = rows.places;
      left = rows.left;
      draws = rows.draws;
      offers = rows.offers;
      lots = rows.lots;
      imported = imported;
    }) db
first_again v db rows children imported same others h = (
  h.0,
  (
    h.1.0,
    (
      subst (λ xs. HasRows child xs db) (sym (child_rows children rows.children same)) h.1.1.0,
      (
        h.1.1.1.0,
        (
          h.1.1.1.1.0,
          (
            h.1.1.1.1.1.0,
            (
              h.1.1.1.1.1.1.0,
              (h.1.1.1.1.1.1.1.0, (h.1.1.1.1.1.1.1.1.0, (subst (λ xs. HasRows imported_table xs db) (sym (imported_rows imported rows.imported others)) h.1.1.1.1.1.1.1.1.1.0, tt))),
            ),
          ),
        ),
      ),
    ),
  ),
)

-- criteria that a file of the version cannot say are no register's
pub not_said : (v : Version) (db : Trees) (r : Register) (schools : List School) (said : Bool) → (v ≡ First → said ≡ list_all fits_first_version schools) → (v ≡ Second → said ≡ true) → said ≡ false
    → AllByRecursion IsReadAgain schools → HasRows school (map school_row schools) db → HoldsRegister v db r → ⊥
not_said First db r schools said first second false_ again read held =
    let same = values_back school_row school_from IsReadAgain IsSchool from_row reads_again _ _ _ again (schools_fit r held.formed) read (held.rows.each school (school_in First)) in
    let wrong : false ≡ true = sym false_ ∙ first refl ∙ all_moved fits_first_version _ _ (IsPermutation-sym _ _ same) held.rows.said.0 in
    cc
not_said Second db r schools said first second false_ again read held = let wrong : false ≡ true = sym false_ ∙ second refl in cc

-- the present schools of a register are rows of their table
pub presents_held : (v : Version) (db : Trees) (r : Register) → HoldsRegister v db r → HoldsPresent v (presents_of (values r.children) (values r.imported)) db
presents_held First db r held = held.rows.said.1
presents_held Second db r held = held.rows.each present has_present

pub presents_written : (v : Version) (db : Trees) (rows : Rows) (all : List PresentRow) → IsPermutation (presents_of rows.children rows.imported) all
    → HoldsPresent v all db → AllByRecursion (λ t. HasRows t (written_in (written_tables v rows) t) db) (later_tables v)
presents_written First db rows all same held = tt
presents_written Second db rows all same held = (IsPermutation-trans _ _ _ (IsPermutation-map present_columns _ _ same) held, tt)

pub presents_said : (v : Version) (db : Trees) (rows : Rows) (all : List PresentRow) → (v ≡ First → list_all fits_first_version rows.schools ≡ true)
    → IsPermutation (presents_of rows.children rows.imported) all → HoldsPresent v all db → IsSaidIn v rows
presents_said First db rows all plain same held = (plain refl, none_in _ _ (IsPermutation-sym _ _ same) held)
presents_said Second db rows all plain same held = tt

-- rows of present schools that are those of the register are the same rows
pub same_presents : (v : Version) (db : Trees) (xs ys : List PresentRow) → HoldsPresent v xs db → HoldsPresent v ys db → IsPermutation xs ys
same_presents First db xs ys one two = subst₂ IsPermutation (sym one) (sym two) (IsPermutation-refl [])
same_presents Second db xs ys one two = columns_moved xs ys (IsPermutation-trans _ _ _ one (IsPermutation-sym _ _ two))

-- the children that are read are those of the register, but for their present schools
pub bare_children : (v : Version) (db : Trees) (r : Register) (read : List Child) → AllByRecursion IsChildReadAgain read
    → HasRows child (map child_row read) db → HoldsRegister v db r → IsPermutation (map bare_child read) (map bare_child (values r.children))
bare_children v db r read again held file =
    values_shown child_row child_from bare_child IsChildReadAgain IsChild child_back child_again read
    (values r.children) _ again (children_fit r file.formed) held (file.rows.each child (child_in v))

pub bare_imports : (v : Version) (db : Trees) (r : Register) (read : List ImportRow) → AllByRecursion IsImportReadAgain read
    → HasRows imported_table (map imported_row read) db → HoldsRegister v db r → IsPermutation (map bare_import read) (map bare_import (values r.imported))
bare_imports v db r read again held file =
    values_shown imported_row imported_from bare_import IsImportReadAgain (IsImportRow (lists_end r.season)) imported_back (import_again (lists_end r.season)) read
    (values r.imported) _ again (imported_fit r (lists_end r.season) file.formed refl) held (file.rows.each imported_table (imported_in v))

-- what is read again depends on no present school
module _ {X Y : Type 0} (bare : X → Y) (P : Y → Type 0) where
  all_mapped : (xs : List X) → AllByRecursion (λ x. P (bare x)) xs → AllByRecursion P (map bare xs)
  all_mapped [] all = tt
  all_mapped (x ∷ xs) all = (all.0, all_mapped xs all.1)

  all_from : (xs : List X) → AllByRecursion P (map bare xs) → AllByRecursion (λ x. P (bare x)) xs
  all_from [] all = tt
  all_from (x ∷ xs) all = (all.0, all_from xs all.1)

  again_bare : (xs ys : List X) → map bare xs ≡ map bare ys → AllByRecursion (λ x. P (bare x)) ys → AllByRecursion (λ x. P (bare x)) xs
  again_bare xs ys same all = all_from xs (subst (AllByRecursion P) (sym same) (all_mapped ys all))

pub children_again : (xs ys : List Child) → map bare_child xs ≡ map bare_child ys → AllByRecursion IsChildReadAgain ys → AllByRecursion IsChildReadAgain xs
children_again = again_bare bare_child IsChildReadAgain

pub imports_again : (xs ys : List ImportRow) → map bare_import xs ≡ map bare_import ys → AllByRecursion IsImportReadAgain ys → AllByRecursion IsImportReadAgain xs
imports_again = again_bare bare_import IsImportReadAgain

-- what is so of each part is so of all of them
each_flat : {X Y : Type 0} (P : X → Type 0) (Q : Y → Type 0) (parts : X → List Y) → ((x : X) → P x → AllByRecursion Q (parts x)) → (xs : List X) → AllByRecursion P xs
    → AllByRecursion Q (flat_map parts xs)
each_flat P Q parts part [] all = tt
each_flat P Q parts part (x ∷ xs) all = each_append Q (parts x) (flat_map parts xs) (part x all.0) (each_flat P Q parts part xs all.1)

-- the present schools of a register have children's numbers and codes
pub presents_fit : (r : Register) → WellFormed r → AllByRecursion IsPresentRow (presents_of (values r.children) (values r.imported))
presents_fit r formed =
    each_append IsPresentRow (flat_map present_of_child (values r.children)) (flat_map present_of_import (values r.imported))
    (each_flat IsChild IsPresentRow present_of_child (λ c fits. one_fits c.no false c fits refl c.present refl) (values r.children) (children_fit r formed))
    (each_flat (IsImportRow (lists_end r.season)) IsPresentRow present_of_import (λ i fits. one_fits i.child.no true i.child fits.child refl i.child.present refl)
    (values r.imported) (imported_fit r (lists_end r.season) formed refl))
  where
    one_fits : (n : ℕ) (b : Bool) (c : Child) → IsChild c → n ≡ c.no → (o : Option (List ℕ)) → c.present ≡ o → AllByRecursion IsPresentRow (present_row n b o)
    one_fits n b c fits own None is = tt
    one_fits n b c fits own (Some code) is =
        let coded : is_code_or_none c.present ≡ true = (and_parts _ (is_code_or_none c.present) (and_parts _ _ (and_parts _ _ fits.in_range).0).0).1 in
        (record { number_form = subst (λ k. is_child_number k ≡ true) (sym own) fits.number_form; code_form = sym (ap is_code_or_none is) ∙ coded }, tt)

pub holds_register : (v : Version) (db : Trees) (r : Register) (rows : Rows) → HoldsRows v db rows → AreRowsOf rows r → WellFormed r → HoldsRegister v db r
holds_register v db r rows held are formed = record {
  rows = record {
    each = λ t listed. each_table v (λ t. HasRows t (written_in (written_tables v rows) t) db → HasRows t (written_in (written_tables v (rows_in_order r)) t) db) (
      λ h. subst₂ (λ season count. HasRows meta (season_row v season count ∷ []) db) are.season (sym (length_permutation _ _ are.draws.heads)) h,
      (
        λ h. moved school_row _ _ _ are.schools h,
        (
          λ h. moved child_row _ _ _ are.children h,
          (
            λ h. moved application_row _ _ _ are.applications h,
            (
              λ h. moved place_row _ _ _ are.places h,
              (
                λ h. moved left_row _ _ _ are.left h,
                (
                  λ h. moved draw_row _ _ _ are.draws.heads h,
                  (
                    λ h. moved offer_row _ _ _ are.draws.offers h,
                    (λ h. moved lot_row _ _ _ are.draws.lots h, (λ h. moved imported_row _ _ _ are.imported h, same_later v db rows (rows_in_order r) are.children are.imported)),
                  ),
                ),
              ),
            ),
          ),
        ),
      ),
    ) t listed (held.each t listed);
    said = same_said v rows (rows_in_order r) are.schools are.children are.imported held.said;
    sized = subst (λ (s : SeasonFacts). IsSizedIn v s.size) are.season held.sized;
  };
  formed = formed;
}

-- the present schools of rows that a file holds
rows_present : (v : Version) (db : Trees) (rows : Rows) → HoldsRows v db rows → HoldsPresent v (presents_of rows.children rows.imported) db
rows_present First db rows held = held.said.1
rows_present Second db rows held = held.each present has_present

-- the children and the imported rows that are read, with their present schools, are those of the register
same_people : (v : Version) (db : Trees) (r : Register) (rows : Rows) → HoldsRegister v db r → HoldsRows v db rows → AreReadBack rows
    → IsPermutation rows.children (values r.children) × IsPermutation rows.imported (values r.imported)
same_people v db r rows file held again =
    presents_read rows.children r.children (λ k c is. (file.formed.base.children_fit k c is).own_number) rows.imported r.imported (λ k i is. (file.formed.imported k i is).child.own_number)
    (bare_children v db r rows.children again.children (held.each child (child_in v)) file)
    (bare_imports v db r rows.imported again.imported (held.each imported_table (imported_in v)) file)
    (IsPermutation-map present_columns _ _ (same_presents v db _ _ (rows_present v db rows held) (presents_held v db r file)))

pub rows_held : (v : Version) (db : Trees) (r : Register) (rows : Rows) → HoldsRegister v db r → HoldsRows v db rows → AreReadBack rows → rows.season ≡ r.season → AreRowsOf rows r
rows_held v db r rows file held again season = let people = same_people v db r rows file held again in record {
  season = season;
  schools = values_back school_row school_from IsReadAgain IsSchool from_row reads_again _ _ _ again.schools (schools_fit r file.formed) (held.each school (school_in v))
      (file.rows.each school (school_in v));
  children = people.0;
  applications = values_back application_row application_from (λ x. AreReadAgain x.list) (IsApplication (lists_end r.season)) application_back
      (λ x fits. codes_again x.list fits.codes) _ _ _ again.applications (applications_fit r (lists_end r.season) file.formed refl)
      (held.each application (application_in v)) (file.rows.each application (application_in v));
  places = values_back place_row place_from (λ _. Unit {0}) IsPlaceRow (λ x _. place_back x) (λ _ _. tt) _ _ _ (no_condition rows.places) (places_fit r file.formed)
      (held.each place (place_in v)) (file.rows.each place (place_in v));
  left = values_back left_row left_from (λ _. Unit {0}) IsLeftRow (λ x _. left_back x) (λ _ _. tt) _ _ _ (no_condition rows.left) (left_fit r file.formed)
      (held.each left_list (left_list_in v)) (file.rows.each left_list (left_list_in v));
  draws = record {
    heads = values_back draw_row draw_from (λ _. Unit {0}) (IsDrawRow (lists_end r.season)) (λ x _. draw_back x) (λ _ _. tt) _ _ _ (no_condition rows.draws)
        (draws_fit r (lists_end r.season) file.formed refl) (held.each draw (draw_in v)) (file.rows.each draw (draw_in v));
    offers = values_back offer_row offer_from (λ _. Unit {0}) IsOfferRow (λ x _. offer_back x) (λ _ _. tt) _ _ _ (no_condition rows.offers) (offers_fit r file.formed)
        (held.each offer (offer_in v)) (file.rows.each offer (offer_in v));
    lots = values_back lot_row lot_from (λ _. Unit {0}) IsLotRow (λ x _. lot_back x) (λ _ _. tt) _ _ _ (no_condition rows.lots) (lots_fit r file.formed)
        (held.each lot (lot_in v)) (file.rows.each lot (lot_in v));
  };
  imported = people.1;
}
