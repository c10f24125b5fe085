-- How draws, their outcomes and their lots are written in their tables, and which of them may be a register's.
use Rattle.std.specs.Prelude.{ℕ, pos, Bool, nat_lt, [], ◌∷◌, IsTrue}
use Rattle.adm_types.specs.Code.{is_code}
use Rattle.adm_types.specs.Limits.{is_from, is_child_number, is_code_or_none, first_day}
use Rattle.adm_types.specs.declared.draws.DrawRow.{DrawRow}
use Rattle.adm_types.specs.declared.draws.OfferRow.{OfferRow}
use Rattle.adm_types.specs.declared.draws.LotRow.{LotRow}
use Rattle.sqlite.specs.declared.types.Value.TheVariants.{Int, Text}
use Rattle.sqlite.specs.Order.{Row}
use Rattle.adm_rows.specs.Forms.{truth_code, school_value}

-- a row of `draw`: the draw's number, its round's number, the school or NULL, and the day
abbrev pub draw_row : DrawRow → Row
draw_row r = Int (pos r.draw) ∷ Int (pos r.round) ∷ school_value r.school ∷ Int (pos r.day) ∷ []

-- the draw, the child, the school that it was allotted, and whether that was not its place before
abbrev pub offer_row : OfferRow → Row
offer_row r = Int (pos r.draw) ∷ Int (pos r.outcome.child) ∷ school_value r.outcome.school ∷ Int (pos (truth_code r.outcome.fresh)) ∷ []

-- the draw, the school, the child, and its lot there
abbrev pub lot_row : LotRow → Row
lot_row r = Int (pos r.draw) ∷ Text r.lot.school ∷ Int (pos r.lot.child) ∷ Int (pos r.lot.lot) ∷ []

-- ---- which may be a register's, each by itself

-- the number of a draw or of a lot is less than 2^32
abbrev pub is_number : ℕ → Bool
is_number n = nat_lt n 4294967296

-- a draw with its number and a round's, a code or no school, and a day that is not after the last one
pub record IsDrawRow (last : ℕ) (row : DrawRow) : Type 0 where
  pub draw_form : IsTrue (is_number row.draw)
  pub round_form : IsTrue (is_number row.round)
  pub school_form : IsTrue (is_code_or_none row.school)
  pub day : IsTrue (is_from first_day last row.day)

-- an outcome with a draw's number, a child's number, and a code or no school
pub record IsOfferRow (row : OfferRow) : Type 0 where
  pub draw_form : IsTrue (is_number row.draw)
  pub child_form : IsTrue (is_child_number row.outcome.child)
  pub school_form : IsTrue (is_code_or_none row.outcome.school)

-- a lot with a draw's number, a code, a child's number, and a number
pub record IsLotRow (row : LotRow) : Type 0 where
  pub draw_form : IsTrue (is_number row.draw)
  pub school_form : IsTrue (is_code row.lot.school)
  pub child_form : IsTrue (is_child_number row.lot.child)
  pub lot_form : IsTrue (is_number row.lot.lot)
