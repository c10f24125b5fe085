-- The sites of a round, by the schools of the places of plans.
use Rattle.std.proofs.Common.{◌≡◌, ◌∙◌, ap, sym, refl, ℕ, suc, ◌-◌, Bool, true, false, cond, length, List, [], ◌∷◌, map}
use Rattle.std.specs.Prelude.{◌&&◌, filter, count_by, nat_eq}
use Rattle.std.specs.Cmp.Lexicographic.{pointwise}
use Rattle.std.specs.Ordering.{nat_cmp}
use Rattle.std.specs.FinMap.{FinMap, values}
use Rattle.std.proofs.lemmas.List.Sums.{length-filter}
use Rattle.adm_types.specs.declared.rows.School.{School}
use Rattle.adm_types.specs.declared.rows.PlaceRow.{PlaceRow}
use Rattle.adm_round.specs.declared.applicants.Site.{Site}
use Rattle.adm_register.specs.State.{is_plan}
use Rattle.adm_commands.specs.Commands.Round.{plans_at}

module _ {X Y : Type 0} (p : Y → Bool) (f : X → Y) (q : X → Bool) where
  -- those that pass one test after those that pass another are those that pass both
  passing : (xs : List X) → length (filter p (map f (filter q xs))) ≡ length (filter (λ x. p (f x) && q x) xs)
  passing [] = refl
  passing (x ∷ xs) =
      let chosen = filter p (map f (filter q xs)) in
      let both = filter (λ x. p (f x) && q x) xs in
      elim (q x) as (λ b. length (filter p (map f (cond b (x ∷ filter q xs) (filter q xs)))) ≡ length (cond (p (f x) && b) (x ∷ both) both)) [
        | true ↦ elim (p (f x)) as (λ a. length (cond a (f x ∷ chosen) chosen) ≡ length (cond (a && true) (x ∷ both) both)) [ true ↦ ap suc (passing xs) | false ↦ passing xs ]
        | false ↦ elim (p (f x)) as (λ a. length chosen ≡ length (cond (a && false) (x ∷ both) both)) [ true ↦ passing xs | false ↦ passing xs ]
      ]

  counted : (xs : List X) → count_by p (map f (filter q xs)) ≡ count_by (λ x. p (f x) && q x) xs
  counted xs = sym (length-filter p (map f (filter q xs))) ∙ passing xs ∙ length-filter (λ x. p (f x) && q x) xs

-- the quotas by the schools of the places of plans
pub sites_by_plans : (places : FinMap nat_cmp PlaceRow) (schools : List School)
    → map (λ school. record {
      school = school;
      quota = school.pan - count_by (λ code. pointwise nat_eq code school.code)
          (map (λ row. row.place.school) (filter (λ row. is_plan row.place.state) (values places)));
    }) schools
    ≡ map {B = Site} (λ school. record { school = school; quota = school.pan - plans_at places school.code }) schools
sites_by_plans places schools =
    let same : (code : List ℕ) → count_by (λ other. pointwise nat_eq other code) (map (λ row. row.place.school) (filter (λ row. is_plan row.place.state) (values places))) ≡ plans_at places code =
    λ code. counted (λ other. pointwise nat_eq other code) (λ (row : PlaceRow). row.place.school) (λ row. is_plan row.place.state) (values places) in
    λ i. map (λ school. record { school = school; quota = school.pan - same school.code i }) schools
