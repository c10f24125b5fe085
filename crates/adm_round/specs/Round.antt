-- Who takes part in a round, which lots are drawn for it, and when all that fits together.
-- School Admissions Code 2021, section 1: a tie is broken by lot; rounds and tenants are this profile's.
use Rattle.std.specs.Prelude.{◌≡◌, ℕ, Bool, true, false, List, ◌++◌, map, filter, IfSome, All, bytes_eq}
use Rattle.std.specs.List.{flat_map, list_any, zip}
use Rattle.std.specs.List.Sorted.{IsStrictlySortedBy}
use Rattle.std.specs.Option.{option_to_list}
use Rattle.std.specs.Ordering.{nat_cmp}
use Rattle.std.specs.Cmp.Lexicographic.{slice_cmp}
use Rattle.adm_types.specs.Lots.{repeats_lot}
use Rattle.adm_types.specs.declared.draws.Lot.{Lot}
use Rattle.adm_types.specs.Limits.{is_listed, is_without_repeat, is_school_in_range, is_child_in_range}
use Rattle.adm_match.specs.Market.{Code}
use Rattle.adm_round.specs.declared.applicants.Applicant.{Applicant}
use Rattle.adm_round.specs.declared.applicants.Site.{Site}
use Rattle.adm_round.specs.declared.applicants.Pair.{Pair}

-- the code of a site's school, and the number of an applicant
abbrev pub code_of_site : Site → Code
code_of_site site = site.school.code

-- the number of an applicant's child
abbrev pub number_of : Applicant → ℕ
number_of applicant = applicant.child.no

-- whether the applicant wants the school
abbrev pub wants : Code → Applicant → Bool
wants code applicant = is_listed applicant.wanted code

-- the list of an applicant: what it wants, and then the school of which it is a tenant, if any
abbrev pub listed : Applicant → List Code
listed applicant = applicant.wanted ++ option_to_list applicant.own

-- the pair of a school and an applicant's child
abbrev pub pair_at : Code → Applicant → Pair
pair_at code applicant = record { school = code; child = number_of applicant }

-- a site's school with each applicant that wants it
abbrev pub pairs_at : List Applicant → Site → List Pair
pairs_at applicants site = map (pair_at (code_of_site site)) (filter (wants (code_of_site site)) applicants)

-- each site's school with each applicant that wants it: the pairs for which lots are drawn
abbrev pub pairs : List Site → List Applicant → List Pair
pairs sites applicants = flat_map (pairs_at applicants) sites

-- a pair with the number that is drawn for it
abbrev pub lot_of_draw : Pair × ℕ → Lot
lot_of_draw draw = record { school = draw.0.school; child = draw.0.child; lot = draw.1 }

-- the first number is the first pair's, and so on, as long as there are both
abbrev pub lots_of : List Pair → List ℕ → List Lot
lots_of pairs numbers = map lot_of_draw (zip pairs numbers)

-- the pair for which a lot was drawn
abbrev pub pair_of : Lot → Pair
pair_of lot = record { school = lot.school; child = lot.child }

-- a site has the code
abbrev pub is_site : List Site → Code → Bool
is_site sites code = list_any (λ site. bytes_eq (code_of_site site) code) sites

-- an applicant wants no school twice and not its own, and each school of its list is a site's
pub record IsListFit (sites : List Site) (applicant : Applicant) : Type 0 where
  pub once : is_without_repeat applicant.wanted ≡ true
  pub own_apart : IfSome applicant.own (λ own. wants own applicant ≡ false)
  pub known : All (λ code. is_site sites code ≡ true) (listed applicant)

-- What a round requires of its sites, applicants and lots. Codes and numbers rise, so that none is repeated; the lots
-- are those of the pairs, in order; and no two of them at one school are equal.
pub record IsPosed (sites : List Site) (applicants : List Applicant) (lots : List Lot) : Type 0 where
  pub codes_rise : IsStrictlySortedBy (slice_cmp nat_cmp) (map code_of_site sites)
  pub schools_fit : All (λ site. is_school_in_range site.school ≡ true) sites
  pub numbers_rise : IsStrictlySortedBy nat_cmp (map number_of applicants)
  pub children_fit : All (λ applicant. is_child_in_range applicant.child ≡ true) applicants
  pub lists_fit : All (IsListFit sites) applicants
  pub lots_drawn : map pair_of lots ≡ pairs sites applicants
  pub lots_differ : repeats_lot lots ≡ false
