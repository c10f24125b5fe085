-- Each row of a register fits the columns of its table.
use Rattle.std.proofs.Common.{refl, ◌≡◌, ◌<◌, ◌^◌, ℕ, arith, true, List, length, map, sym, subst}
use Rattle.std.specs.List.{AllByRecursion}
use Rattle.std.proofs.lemmas.Bool.{and_parts}
use Rattle.std.proofs.lemmas.List.{length-map}
use Rattle.std.specs.Cmp.{IsTotalOrder, nat_cmp_total, on_total, then_total}
use Rattle.std.specs.declared.cmp.Ordering.{Ordering}
use Rattle.std.specs.declared.cmp.Ordering.TheVariants.{Less, Equal, Greater}
use Rattle.std.specs.Ordering.{ordering_then}
use Rattle.std.specs.Cmp.Lexicographic.{nat_list_cmp_total}
use Rattle.std.specs.FinMap.{values, IsAntisymmetric, slice_cmp-IsAntisymmetric, nat_cmp-IsAntisymmetric}
use Rattle.adm_types.specs.Limits.{is_from, first_day, code_cmp}
use Rattle.adm_types.specs.Seasons.{lists_end}
use Rattle.adm_types.specs.declared.rows.Child.{Child}
use Rattle.adm_types.specs.declared.rows.Application.{Application}
use Rattle.adm_types.specs.declared.rows.LeftPair.{LeftPair}
use Rattle.adm_register.specs.State.{left_cmp, application_of, State as Register}
use Rattle.adm_register.specs.WellFormed.{WellFormed, ChildFits, ApplicationFits}
use Rattle.adm_schema.specs.declared.version.Version.{Version}
use Rattle.adm_schema.specs.Schema.{school, child, application, place, draw}
use Rattle.adm_schema.proofs.Listed.{draw_in}
use Rattle.sqlite.specs.Tree.{Trees}
use Rattle.std.proofs.lemmas.List.Sorted.{IsPermutation-sym, IsPermutation-trans, length_permutation}
use Rattle.adm_draws.specs.Draws.{row_of}
use Rattle.adm_types.specs.declared.draws.DrawRow.{DrawRow}
use Rattle.adm_register.specs.Draws.{no_draws}
use Rattle.adm_rows.specs.DrawForms.{draw_row}
use Rattle.adm_rows.proofs.KnownRows.{code_there, codes_there, number_there}
use Rattle.adm_rows.proofs.DrawNumbers.{few_draws}
use Rattle.adm_rows.specs.Represents.{HasRows, HoldsRegister}
use Rattle.adm_rows.specs.Faults.{IsSchool, IsChild, IsApplication, IsImportRow, IsPlaceRow, IsLeftRow}
use Rattle.adm_rows.proofs.ChildRows.{state_days}
use Rattle.adm_rows.proofs.MapRows.{each_value}

pub same_code : IsAntisymmetric code_cmp
same_code = slice_cmp-IsAntisymmetric nat_cmp-IsAntisymmetric

-- two pairs tie where they tie by the child, and by the code
both_tie : (r s : Ordering) → ordering_then r s ≡ Equal → (r ≡ Equal) × (s ≡ Equal)
both_tie Less s e = cc
both_tie Equal s e = (refl, e)
both_tie Greater s e = cc

pub left_total : IsTotalOrder left_cmp
left_total = then_total (on_total (λ (p : LeftPair). p.child) nat_cmp_total) (on_total (λ (p : LeftPair). p.school) nat_list_cmp_total)

pub left_same : IsAntisymmetric left_cmp
left_same x y e = λ i. record { child = nat_cmp-IsAntisymmetric x.child y.child (both_tie _ _ e).0 i; school = same_code x.school y.school (both_tie _ _ e).1 i }

-- the schools of a register are in their limits
pub schools_fit : (r : Register) → WellFormed r → AllByRecursion IsSchool (values r.schools)
schools_fit r formed = each_value nat_list_cmp_total same_code IsSchool r.schools (λ code s is. let fits = formed.base.schools_fit code s is in
    record { code_form = fits.code_form; text = fits.text; in_range = fits.in_range })

child_fits : (r : Register) → WellFormed r → (number : ℕ) (child : Child) → ChildFits r.season.size r.schools number child → IsChild child
child_fits r formed number child fits = record {
  number_form = fits.number_form;
  text = fits.text;
  in_range = fits.in_range;
  flags = fits.flags;
  codes = codes_there r.schools formed.base.schools_fit child.siblings (and_parts _ _ fits.known).0;
  catchments = codes_there r.schools formed.base.schools_fit child.catchments (and_parts _ _ fits.known).1;
}

pub children_fit : (r : Register) → WellFormed r → AllByRecursion IsChild (values r.children)
children_fit r formed = each_value nat_cmp_total nat_cmp-IsAntisymmetric IsChild r.children (λ number child is. child_fits r formed number child (formed.base.children_fit number child is))

application_fits : (r : Register) (last : ℕ) → WellFormed r → last ≡ lists_end r.season → (number : ℕ) (application : Application)
    → ApplicationFits (lists_end r.season) r.schools r.children number application → IsApplication last application
application_fits r last formed same number application fits = record {
  number_form = number_there r formed application.child fits.child;
  day = subst (λ d. is_from first_day d application.day ≡ true) (sym same) fits.day;
  codes = codes_there r.schools formed.base.schools_fit application.list fits.known;
}

pub applications_fit : (r : Register) (last : ℕ) → WellFormed r → last ≡ lists_end r.season → AllByRecursion (IsApplication last) (values r.applications)
applications_fit r last formed same =
    each_value nat_cmp_total nat_cmp-IsAntisymmetric (IsApplication last) r.applications
    (λ number application is. application_fits r last formed same number application (formed.base.applications_fit number application is))

pub imported_fit : (r : Register) (last : ℕ) → WellFormed r → last ≡ lists_end r.season → AllByRecursion (IsImportRow last) (values r.imported)
imported_fit r last formed same = each_value nat_cmp_total nat_cmp-IsAntisymmetric (IsImportRow last) r.imported (λ number row is. let fits = formed.imported number row is in record {
  child = child_fits r formed number row.child fits.child;
  application = application_fits r last formed same number (application_of row) fits.application;
})

pub places_fit : (r : Register) → WellFormed r → AllByRecursion IsPlaceRow (values r.places)
places_fit r formed = each_value nat_cmp_total nat_cmp-IsAntisymmetric IsPlaceRow r.places (λ number row is. let fits = formed.places.each number row is in record {
  number_form = number_there r formed row.child fits.child;
  code_form = code_there r.schools formed.base.schools_fit row.place.school fits.school;
  days = state_days row.place.state fits.state;
})

pub left_fit : (r : Register) → WellFormed r → AllByRecursion IsLeftRow (values r.left)
left_fit r formed = each_value left_total left_same IsLeftRow r.left (λ key pair is. let fits = formed.left key pair is in
    record { number_form = number_there r formed pair.child fits.child; code_form = code_there r.schools formed.base.schools_fit pair.school fits.school })

-- rows of draws that are those of the register are as many
pub as_many : (v : Version) (db : Trees) (r : Register) (draws : List DrawRow) → HasRows draw (map draw_row draws) db → HoldsRegister v db r → length draws ≡ length (values r.draws)
as_many v db r draws read held =
    let all = length_permutation _ _ (IsPermutation-trans _ _ _ (held.rows.each draw (draw_in v)) (IsPermutation-sym _ _ read)) in
    omega (arith, all, length-map draws draw_row, length-map (map row_of (values r.draws)) draw_row, length-map (values r.draws) row_of)

-- a count of 32 bits
pub few_enough : (r : Register) → WellFormed r → length (map row_of (values r.draws)) < 2 ^ 32
few_enough r formed = let few = few_draws r.season no_draws (values r.draws) (omega arith) formed.draws.in_order in omega (arith, few, length-map (values r.draws) row_of)
