-- What the statements do on the tables of draws, outcomes and lots.
use Rattle.std.proofs.Common.{◌≡◌, ◌≤◌, ℕ, pos, List, [], ◌∷◌, length, map, Option, Some, None, Ok, refl, arith}
use Rattle.std.specs.List.{flat_map}
use Rattle.sqlite.specs.declared.types.Value.TheVariants.{Null, Int, Text}
use Rattle.sqlite.specs.Cast.{cast_row}
use Rattle.sqlite.specs.Order.{Row}
use Rattle.sqlite.specs.Edit.{with_rowid}
use Rattle.sqlite.specs.Rowids.TheVariants.{Chosen}
use Rattle.sqlite.specs.Values.{bound_value}
use Rattle.sqlite.specs.Effect.{value_rows}
use Rattle.sqlite.specs.State.{State, HasCleanDisk, ExecutesInside}
use Rattle.sqlite_trees.specs.View.{doubt}
use Rattle.adm_types.specs.declared.draws.DrawRow.{DrawRow}
use Rattle.adm_types.specs.declared.draws.OfferRow.{OfferRow}
use Rattle.adm_types.specs.declared.draws.LotRow.{LotRow}
use Rattle.adm_schema.specs.Columns.{added_terms, eight_rows}
use Rattle.adm_schema.specs.Rows.{columns_of}
use Rattle.adm_schema.specs.Schema.{draw, offer, lot, register_schema}
use Rattle.adm_schema.specs.RowTexts as text
use Rattle.adm_schema.proofs.Listed.{has_draw, has_offer, has_lot}
use Rattle.adm_schema.proofs.Casts.{cast_null, cast_int}
use Rattle.adm_schema.proofs.Inserts.{inserted, adds, inserted_all, adds_all}
use Rattle.adm_schema.proofs.Eights.{given_lots, given_offers}
use Rattle.adm_schema.proofs.RowTexts.{inserts_offer, inserts_offers, inserts_lot, inserts_lots}
use Rattle.adm_schema.specs.Texts.{insert_draw, draw_terms}
use Rattle.adm_schema.proofs.Texts.{inserts_draw}
use Rattle.adm_rows.specs.Forms.{truth_code}
use Rattle.adm_rows.specs.Forms.{school_value}
use Rattle.adm_rows.specs.DrawForms.{draw_row, offer_row, lot_row}
use Rattle.adm_store.specs.Writes.{RunsText, Adds, Writes, write_of}
use Rattle.adm_store.proofs.LogLemmas.{add_one, add_many, add_keyed}

-- the code of a school that may be none, as a parameter
pub bound_school : (school : Option (List ℕ)) → bound_value (school_value school) ≡ school_value school
bound_school None = refl
bound_school (Some code) = refl

-- ---- draws

-- the key goes to the rowid's place
abbrev draw_source : DrawRow → Option (List ℕ) → Row
draw_source it school = Int (pos it.draw) ∷ Null ∷ Int (pos it.round) ∷ school_value school ∷ Int (pos it.day) ∷ []

abbrev draw_at : DrawRow → Option (List ℕ) → Row
draw_at it school = Int (pos it.draw) ∷ Int (pos it.round) ∷ school_value school ∷ Int (pos it.day) ∷ []

given_draw : (it : DrawRow) (school : Option (List ℕ)) → value_rows (draw_at it school) 5 1 draw_terms ≡ draw_source it school ∷ []
given_draw it None = refl
given_draw it (Some code) = refl

shown_draw : (it : DrawRow) (school : Option (List ℕ)) (rows : List Row) → columns_of draw (with_rowid Chosen rows (cast_row draw (draw_source it school))) ≡ draw_at it school
shown_draw it None rows = rw (cast_null, cast_int (pos it.draw), cast_int (pos it.round), cast_int (pos it.day))
shown_draw it (Some code) rows = rw (cast_null, cast_int (pos it.draw), cast_int (pos it.round), cast_int (pos it.day))

pub adds_draw : (old new : State) (count : ℕ) (it : DrawRow) → doubt old.is_clean ≤ doubt new.is_clean
    → (HasCleanDisk new → ExecutesInside 0 insert_draw (draw_row it) old new (Ok count)) → Writes (write_of Adds draw draw_row (it ∷ []) ∷ []) old new
adds_draw old new count it later ran = add_keyed draw has_draw old new later refl (draw_row it) refl (λ clean sees.
    let early : HasCleanDisk old = omega (arith, later, clean) in
    let h = ran clean in
    adds register_schema draw 6 refl refl refl (λ _ _. refl) old new (draw_source it it.school) (draw_row it) (shown_draw it it.school)
    (inserted register_schema draw 6 refl refl refl (λ _ _. refl) draw_terms 5 insert_draw (draw_row it)
    (draw_source it it.school) old new count inserts_draw.0 inserts_draw.1 (given_draw it it.school) (sees early h.1.was_open) h))

-- ---- outcomes

abbrev row_at : OfferRow → Option (List ℕ) → Row
row_at it school = Int (pos it.draw) ∷ Int (pos it.outcome.child) ∷ school_value school ∷ Int (pos (truth_code it.outcome.fresh)) ∷ []

given_at : (it : OfferRow) (school : Option (List ℕ)) → value_rows (row_at it school) 5 1 text.offer_terms ≡ (Null ∷ row_at it school) ∷ []
given_at it None = refl
given_at it (Some code) = refl

shown_at : (it : OfferRow) (school : Option (List ℕ)) (rows : List Row) → columns_of offer (with_rowid Chosen rows (cast_row offer (Null ∷ row_at it school))) ≡ row_at it school
shown_at it None rows = rw (cast_null, cast_int (pos it.draw), cast_int (pos it.outcome.child), cast_int (pos (truth_code it.outcome.fresh)))
shown_at it (Some code) rows = rw (cast_null, cast_int (pos it.draw), cast_int (pos it.outcome.child), cast_int (pos (truth_code it.outcome.fresh)))

pub adds_offer : (old new : State) (count : ℕ) (it : OfferRow) → doubt old.is_clean ≤ doubt new.is_clean
    → (HasCleanDisk new → ExecutesInside 0 text.insert_offer (offer_row it) old new (Ok count)) → Writes (write_of Adds offer offer_row (it ∷ []) ∷ []) old new
adds_offer old new count it later ran = add_one offer has_offer old new later refl (offer_row it) (λ clean sees.
    let early : HasCleanDisk old = omega (arith, later, clean) in
    let h = ran clean in
    adds register_schema offer 7 refl refl refl (λ _ _. refl) old new (Null ∷ offer_row it) (offer_row it) (shown_at it it.outcome.school)
    (inserted register_schema offer 7 refl refl refl (λ _ _. refl) text.offer_terms 5 text.insert_offer (offer_row it)
    (Null ∷ offer_row it) old new count inserts_offer.0 inserts_offer.1 (given_at it it.outcome.school) (sees early h.1.was_open) h))

-- eight of them
pub adds_offers : (old new : State) (rows : List OfferRow) → length rows ≡ 8 → doubt old.is_clean ≤ doubt new.is_clean → RunsText text.insert_offers (flat_map offer_row rows) old new
    → Writes (write_of Adds offer offer_row rows ∷ []) old new
adds_offers old new rows long later ran = add_many offer has_offer old new later refl (map offer_row rows) (λ clean sees.
    let early : HasCleanDisk old = omega (arith, later, clean) in
    let h = (ran clean).1 in
    adds_all register_schema offer 7 refl refl refl (λ _ _. refl) (λ it. Null ∷ offer_row it) offer_row rows old new (λ it. shown_at it it.outcome.school)
    (inserted_all register_schema offer 7 refl refl refl (λ _ _. refl) (added_terms offer.columns eight_rows) 5 text.insert_offers (flat_map offer_row rows)
    (map (λ it. Null ∷ offer_row it) rows) old new (ran clean).0 inserts_offers.0 inserts_offers.1
    (given_offers (λ (it : OfferRow). Int (pos it.draw)) (λ it. Int (pos it.outcome.child)) (λ it. school_value it.outcome.school) (λ it. Int (pos (truth_code it.outcome.fresh))) rows long)
    (sees early h.1.was_open) h))

-- ---- lots

shown_lot : (it : LotRow) (rows : List Row) → columns_of lot (with_rowid Chosen rows (cast_row lot (Null ∷ lot_row it))) ≡ lot_row it
shown_lot it rows = rw (cast_null, cast_int (pos it.draw), cast_int (pos it.lot.child), cast_int (pos it.lot.lot))

pub adds_lot : (old new : State) (count : ℕ) (it : LotRow) → doubt old.is_clean ≤ doubt new.is_clean
    → (HasCleanDisk new → ExecutesInside 0 text.insert_lot (lot_row it) old new (Ok count)) → Writes (write_of Adds lot lot_row (it ∷ []) ∷ []) old new
adds_lot old new count it later ran = add_one lot has_lot old new later refl (lot_row it) (λ clean sees.
    let early : HasCleanDisk old = omega (arith, later, clean) in
    let h = ran clean in
    adds register_schema lot 8 refl refl refl (λ _ _. refl) old new (Null ∷ lot_row it) (lot_row it) (shown_lot it)
    (inserted register_schema lot 8 refl refl refl (λ _ _. refl) text.lot_terms 5 text.insert_lot (lot_row it)
    (Null ∷ lot_row it) old new count inserts_lot.0 inserts_lot.1 refl (sees early h.1.was_open) h))

-- eight of them
pub adds_lots : (old new : State) (rows : List LotRow) → length rows ≡ 8 → doubt old.is_clean ≤ doubt new.is_clean → RunsText text.insert_lots (flat_map lot_row rows) old new
    → Writes (write_of Adds lot lot_row rows ∷ []) old new
adds_lots old new rows long later ran = add_many lot has_lot old new later refl (map lot_row rows) (λ clean sees.
    let early : HasCleanDisk old = omega (arith, later, clean) in
    let h = (ran clean).1 in
    adds_all register_schema lot 8 refl refl refl (λ _ _. refl) (λ it. Null ∷ lot_row it) lot_row rows old new shown_lot
    (inserted_all register_schema lot 8 refl refl refl (λ _ _. refl) (added_terms lot.columns eight_rows) 5 text.insert_lots (flat_map lot_row rows)
    (map (λ it. Null ∷ lot_row it) rows) old new (ran clean).0 inserts_lots.0 inserts_lots.1
    (given_lots (λ (it : LotRow). Int (pos it.draw)) (λ it. Text it.lot.school) (λ it. Int (pos it.lot.child)) (λ it. Int (pos it.lot.lot)) rows long)
    (sees early h.1.was_open) h))
