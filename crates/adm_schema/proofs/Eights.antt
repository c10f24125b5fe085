-- Eight rows as the parameters of a text, one row after another.
use Rattle.std.proofs.Common.{◌≡◌, ◌/◌, List, [], ◌∷◌, length, map, refl, sym, subst, arith}
use Rattle.std.specs.List.{flat_map}
use Rattle.sqlite.specs.declared.types.Value.{Value}
use Rattle.sqlite.specs.declared.types.Value.TheVariants.{Null}
use Rattle.sqlite.specs.Order.{Row}
use Rattle.sqlite.specs.Term.{Term}
use Rattle.sqlite.specs.Effect.{value_rows}
use Rattle.adm_schema.specs.Columns.{added_terms, given_terms, eight_rows}
use Rattle.adm_schema.specs.Schema.{place, offer, lot}

-- a list of eight
pub eight_of : {X : Type 0} (xs : List X) → length xs ≡ 8 → (a b c d e f g h : X) × (xs ≡ a ∷ b ∷ c ∷ d ∷ e ∷ f ∷ g ∷ h ∷ [])
eight_of (a ∷ b ∷ c ∷ d ∷ e ∷ f ∷ g ∷ h ∷ []) long = (a, b, c, d, e, f, g, h, refl)
eight_of [] long = absurd (cc)
eight_of (a ∷ []) long = absurd (cc)
eight_of (a ∷ b ∷ []) long = absurd (cc)
eight_of (a ∷ b ∷ c ∷ []) long = absurd (cc)
eight_of (a ∷ b ∷ c ∷ d ∷ []) long = absurd (cc)
eight_of (a ∷ b ∷ c ∷ d ∷ e ∷ []) long = absurd (cc)
eight_of (a ∷ b ∷ c ∷ d ∷ e ∷ f ∷ []) long = absurd (cc)
eight_of (a ∷ b ∷ c ∷ d ∷ e ∷ f ∷ g ∷ []) long = absurd (cc)
eight_of (a ∷ b ∷ c ∷ d ∷ e ∷ f ∷ g ∷ h ∷ i ∷ more) long = absurd (omega (arith, long))

abbrev lots : List Term
lots = added_terms lot.columns eight_rows

abbrev offers : List Term
offers = added_terms offer.columns eight_rows

abbrev places : List Term
places = given_terms place.columns eight_rows

-- rows of four values, whose rowids are no columns
module _ {X : Type 0} (one two three four : X → Value) where
  abbrev row_of_four : X → Row
  row_of_four x = one x ∷ two x ∷ three x ∷ four x ∷ []

  pub given_lots : (xs : List X) → length xs ≡ 8 → value_rows (flat_map row_of_four xs) 5 (length lots / 5) lots ≡ map (λ x. Null ∷ row_of_four x) xs
  given_lots xs long =
      let it = eight_of xs long in
      subst (λ ys. value_rows (flat_map row_of_four ys) 5 (length lots / 5) lots ≡ map (λ x. Null ∷ row_of_four x) ys) (sym it.8) refl

  pub given_offers : (xs : List X) → length xs ≡ 8 → value_rows (flat_map row_of_four xs) 5 (length offers / 5) offers ≡ map (λ x. Null ∷ row_of_four x) xs
  given_offers xs long =
      let it = eight_of xs long in
      subst (λ ys. value_rows (flat_map row_of_four ys) 5 (length offers / 5) offers ≡ map (λ x. Null ∷ row_of_four x) ys) (sym it.8) refl

-- rows of five values, of which the first is the rowid
module _ {X : Type 0} (one two three four five : X → Value) where
  abbrev row_of_five : X → Row
  row_of_five x = one x ∷ two x ∷ three x ∷ four x ∷ five x ∷ []

  pub given_places : (xs : List X) → length xs ≡ 8
      → value_rows (flat_map row_of_five xs) 6 (length places / 6) places ≡ map (λ x. one x ∷ Null ∷ two x ∷ three x ∷ four x ∷ five x ∷ []) xs
  given_places xs long =
      let it = eight_of xs long in
      subst (λ ys. value_rows (flat_map row_of_five ys) 6 (length places / 6) places ≡ map (λ x. one x ∷ Null ∷ two x ∷ three x ∷ four x ∷ five x ∷ []) ys) (sym it.8) refl
