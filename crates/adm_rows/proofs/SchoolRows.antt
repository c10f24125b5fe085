-- Which rows are those of no school.
use Rattle.std.proofs.Common.{◌≡◌, ◌∙◌, ℕ, ◌<◌, ◌^◌, true, List, [], length, Some, None, nat_le, sym, ap, arith}
use Rattle.std.specs.Prelude.{◌&&◌}
use Rattle.std.specs.List.{list_all}
use Rattle.std.specs.Option.{unwrap_or}
use Rattle.std.proofs.lemmas.Bool.{and_parts}
use Rattle.std.proofs.lemmas.Bool.Decides.{nat_tests}
use Rattle.std.proofs.lemmas.Str.{IsUtf8-from_is_utf8}
use Rattle.sqlite.specs.Order.{Row, column}
use Rattle.adm_types.specs.Limits.{is_from, is_on_map, is_school_in_range}
use Rattle.adm_types.specs.Criteria.{is_criterion}
use Rattle.adm_types.specs.declared.criteria.Criterion.{Criterion}
use Rattle.adm_types.specs.declared.rows.School.{School}
use Rattle.adm_rows.specs.Forms.{criteria_text, criteria_of, school_row}
use Rattle.adm_rows.specs.Faults.{IsSchool, IsReadAgain, HasSchoolColumns}
use Rattle.adm_rows.proofs.RowLemmas.{number_in, text_in}
use Rattle.adm_rows.proofs.CriteriaLemmas.{criteria_again, criteria_utf8}
use Rattle.adm_types.proofs.ReadBack.{code_utf8}

-- the four tests of a school's numbers
range_parts : (s : School) → is_school_in_range s ≡ true → (is_from 1 500 s.pan ≡ true) × (is_on_map s.at ≡ true) × (list_all is_criterion s.criteria ≡ true)
range_parts s h =
    let a = and_parts ((is_from 1 500 s.pan && is_on_map s.at) && nat_le (length s.criteria) 8) (list_all is_criterion s.criteria) h in
    let b = and_parts (is_from 1 500 s.pan && is_on_map s.at) (nat_le (length s.criteria) 8) a.0 in
    let c = and_parts (is_from 1 500 s.pan) (is_on_map s.at) b.0 in
    (c.0, c.1, a.1)

pan_fits : (n : ℕ) → is_from 1 500 n ≡ true → n < 2 ^ 32
pan_fits n h = grind (arith, nat_tests)

metres_fit : (n : ℕ) → nat_le n 1500000 ≡ true → n < 2 ^ 32
metres_fit n h = grind (arith, nat_tests)

in_range_criteria : (s : School) → IsSchool s → list_all is_criterion s.criteria ≡ true
in_range_criteria s fits = (range_parts s fits.in_range).2

pub has_school_columns : (row : Row) (s : School) → IsSchool s → row ≡ school_row s → HasSchoolColumns row s.code s.name (criteria_text s.criteria) s.pan s.at.east s.at.north
has_school_columns row s fits is =
    let parts = range_parts s fits.in_range in
    let map = and_parts (nat_le s.at.east 1500000) (nat_le s.at.north 1500000) parts.1 in
    record {
      row_is = is;
      code_text = code_utf8 s.code fits.code_form;
      name_text = IsUtf8-from_is_utf8 s.name fits.text;
      list_text = criteria_utf8 s.criteria parts.2;
      pan_fits = pan_fits s.pan parts.0;
      east_fits = metres_fit s.at.east map.0;
      north_fits = metres_fit s.at.north map.1;
    }

pub no_criteria_read : (text : List ℕ) (criteria : List Criterion) → list_all is_criterion criteria ≡ true → text ≡ criteria_text criteria → criteria_of text ≡ None → ⊥
no_criteria_read text criteria fit is read =
    let same : None ≡ Some criteria = sym read ∙ ap criteria_of is ∙ criteria_again criteria fit in
    cc

-- the criteria that are read have the text from which they were read
pub criteria_text_again : (text : List ℕ) (read shown criteria : List Criterion) → list_all is_criterion criteria ≡ true → text ≡ criteria_text criteria
    → criteria_of text ≡ Some read → shown ≡ read → text ≡ criteria_text shown
criteria_text_again text read shown criteria fit is there same =
    let once : Some read ≡ Some criteria = sym there ∙ ap criteria_of is ∙ criteria_again criteria fit in
    let equal : shown ≡ criteria = cc in
    is ∙ ap criteria_text (sym equal)

-- a school from its row
abbrev pub school_from : Row → School
school_from cells = record {
  code = text_in (column cells 0);
  name = text_in (column cells 1);
  pan = number_in (column cells 2);
  at = record { east = number_in (column cells 3); north = number_in (column cells 4) };
  criteria = unwrap_or (criteria_of (text_in (column cells 5))) [];
}

pub from_row : (s : School) → IsReadAgain s → school_from (school_row s) ≡ s
from_row s again = λ k. record { code = s.code; name = s.name; pan = s.pan; at = s.at; criteria = unwrap_or (again k) [] }

pub reads_again : (s : School) → IsSchool s → IsReadAgain s
reads_again s fits = criteria_again s.criteria (in_range_criteria s fits)
