-- Maps of rows at their own keys are determined by the list of their rows' data.
use Rattle.std.proofs.Common.{◌≡◌, ◌∙◌, ap, sym, subst, refl, map, Option, Some, None}
use Rattle.std.specs.Prelude.{option_map}
use Rattle.std.specs.declared.cmp.Ordering.{Ordering}
use Rattle.std.specs.Cmp.{IsTotalOrder}
use Rattle.std.specs.FinMap.{FinMap, get, values, IsAntisymmetric}
use Rattle.std.proofs.lemmas.List.Sorted.{IsPermutation-refl}
use Rattle.std.specs.List.Sorted.{IsPermutation}
use Rattle.serde_json.specs.Data.{Data}
use Rattle.adm_lists.proofs.Members.{In, in_map, from_map}
use Rattle.adm_lists.proofs.Maps.{in_values}
use Rattle.adm_register.specs.WellFormed.{AllRows}
use Rattle.adm_register.proofs.RoundKeys.{from_values}
use Rattle.adm_register.proofs.SameRows.{same_maps}
use Rattle.adm_view.specs.Writing.{list_data}
use Rattle.adm_view_laws.proofs.Values.{same_items}

-- what has the same values has the same value or none
pub agree : {V : Type 0} (o p : Option V) → ((v : V) → o ≡ Some v → p ≡ Some v) → ((v : V) → p ≡ Some v → o ≡ Some v) → o ≡ p
agree None None f g = refl
agree None (Some v) f g = g v refl
agree (Some v) p f g = sym (f v refl)

-- where no value is there, there is none
pub absent : {V : Type 0} (o : Option V) → ((v : V) → o ≡ Some v → ⊥) → o ≡ None
absent None never = refl
absent (Some v) never = absurd (never v refl)

module _ {K V : Type 0} {R : K → K → Ordering} (total : IsTotalOrder R) (same : IsAntisymmetric R) (key : V → K) where
  module _ (m n : FinMap R V) (own : AllRows (λ k v. key v ≡ k) m) (others : AllRows (λ k v. key v ≡ k) n) (f g : V → Data) where
    -- maps with the same data are the same where the data of a row tell it
    pub map_determined : ((x y : V) → get m (key x) ≡ Some x → get n (key y) ≡ Some y → f x ≡ g y → x ≡ y) → list_data f (values m) ≡ list_data g (values n) → m ≡ n
    map_determined each e =
        let is : values m ≡ values n = same_items f g (values m) (values n) (λ x y p q. each x y (from_values total same m key own x p) (from_values total same n key others y q)) e in
        same_maps total same key m n own others (subst (IsPermutation (values m)) is (IsPermutation-refl (values m)))

  -- where a row is an image of one map's, the other has a row there with that image
  image_there : {h : V → V} → ((v : V) → key (h v) ≡ key v) → (m n : FinMap R V) → AllRows (λ k v. key v ≡ k) m → AllRows (λ k v. key v ≡ k) n → map h (values m) ≡ map h (values n)
      → (k : K) (v : V) → get m k ≡ Some v → option_map h (get n k) ≡ Some (h v)
  image_there {h} keeps m n own others e k v there =
      let found = from_map h (values n) (h v) (subst (In (h v)) e (in_map h (values m) v (in_values total same m k v there))) in
      let at_key : key found.0 ≡ k = sym (keeps found.0) ∙ ap key found.2 ∙ keeps v ∙ own k v there in
      ap (option_map h) (subst (λ q. get n q ≡ Some found.0) at_key (from_values total same n key others found.0 found.1)) ∙ ap Some found.2

  -- maps whose rows have the same images have them at each key
  pub images_determined : (h : V → V) → ((v : V) → key (h v) ≡ key v) → (m n : FinMap R V) → AllRows (λ k v. key v ≡ k) m → AllRows (λ k v. key v ≡ k) n → map h (values m) ≡ map h (values n)
      → (k : K) → option_map h (get m k) ≡ option_map h (get n k)
  images_determined h keeps m n own others e k = by (get m k) (get n k) (image_there keeps m n own others e k) (image_there keeps n m others own (sym e) k)
    where
      by : (o p : Option V) → ((v : V) → o ≡ Some v → option_map h p ≡ Some (h v)) → ((v : V) → p ≡ Some v → option_map h o ≡ Some (h v)) → option_map h o ≡ option_map h p
      by None None f g = refl
      by None (Some v) f g = g v refl
      by (Some v) p f g = sym (f v refl)
