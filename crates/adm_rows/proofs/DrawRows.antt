-- Draws, outcomes and lots from their rows.
use Rattle.std.proofs.Common.{◌≡◌, ℕ, Bool, true, false, List, Option, Some, None, refl, ◌⊎◌, inl, inr}
use Rattle.std.specs.Prelude.{nat_eq}
use Rattle.std.specs.Str.{IsUtf8}
use Rattle.sqlite.specs.declared.types.Value.{Value}
use Rattle.sqlite.specs.declared.types.Value.TheVariants.{Null, Text}
use Rattle.sqlite.specs.Order.{Row, column}
use Rattle.adm_types.specs.declared.draws.DrawRow.{DrawRow}
use Rattle.adm_types.specs.declared.draws.OfferRow.{OfferRow}
use Rattle.adm_types.specs.declared.draws.LotRow.{LotRow}
use Rattle.adm_rows.specs.Forms.{truth_code, school_value}
use Rattle.adm_rows.specs.DrawForms.{draw_row, offer_row, lot_row}
use Rattle.adm_types.specs.Limits.{is_code_or_none}
use Rattle.adm_types.proofs.ReadBack.{code_utf8}
use Rattle.adm_rows.proofs.RowLemmas.{number_in, text_in}

-- ---- a school that may be none

-- where a column is that of such a school, it is NULL or a text
pub readable : (value : Value) (school : Option (List ℕ)) → is_code_or_none school ≡ true → value ≡ school_value school → (value ≡ Null) ⊎ ((text : List ℕ) × (value ≡ Text text) × IsUtf8 text)
readable value None form is = inl is
readable value (Some code) form is = inr (code, is, code_utf8 code form)

-- the code of a school from its column
abbrev pub school_from : Value → Option (List ℕ)
school_from (Text code) = Some code
school_from other = None

pub school_back : (school : Option (List ℕ)) → school_from (school_value school) ≡ school
school_back None = refl
school_back (Some code) = refl

-- ---- draws

-- a draw from its row
abbrev pub draw_from : Row → DrawRow
draw_from cells = record { draw = number_in (column cells 0); round = number_in (column cells 1); school = school_from (column cells 2); day = number_in (column cells 3) }

pub draw_back : (r : DrawRow) → draw_from (draw_row r) ≡ r
draw_back r = λ k. record { draw = r.draw; round = r.round; school = school_back r.school k; day = r.day }

-- ---- outcomes

pub truth_back : (truth : Bool) → nat_eq (truth_code truth) 1 ≡ truth
truth_back true = refl
truth_back false = refl

-- an outcome from its row
abbrev pub offer_from : Row → OfferRow
offer_from cells = record {
  draw = number_in (column cells 0);
  outcome = record { child = number_in (column cells 1); school = school_from (column cells 2); fresh = nat_eq (number_in (column cells 3)) 1 };
}

pub offer_back : (r : OfferRow) → offer_from (offer_row r) ≡ r
offer_back r = λ k. record { draw = r.draw; outcome = record { child = r.outcome.child; school = school_back r.outcome.school k; fresh = truth_back r.outcome.fresh k } }

-- ---- lots

-- a lot from its row
abbrev pub lot_from : Row → LotRow
lot_from cells = record { draw = number_in (column cells 0); lot = record { school = text_in (column cells 1); child = number_in (column cells 2); lot = number_in (column cells 3) } }

pub lot_back : (r : LotRow) → lot_from (lot_row r) ≡ r
lot_back r = refl
