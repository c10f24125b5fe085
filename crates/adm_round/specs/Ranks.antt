-- The problem of allocation that a round poses: who ranks where, by which lot (School Admissions Code 2021, section 1).
use Rattle.std.specs.Prelude.{ℕ, Option, option_map, unwrap_or, List, map, find, ◌==◌, ◌&&◌, bytes_eq}
use Rattle.std.specs.List.{filter_map}
use Rattle.adm_types.specs.declared.draws.Lot.{Lot}
use Rattle.adm_types.specs.declared.rows.Child.{Child}
use Rattle.adm_rank.specs.Ranking.{key_of}
use Rattle.adm_match.specs.declared.problem.Wish.{Wish}
use Rattle.adm_match.specs.declared.problem.Seats.{Seats}
use Rattle.adm_match.specs.Market as match
use Rattle.adm_match.specs.Market.{Code, Candidate, Market}
use Rattle.adm_round.specs.declared.applicants.Applicant.{Applicant}
use Rattle.adm_round.specs.declared.applicants.Site.{Site}
use Rattle.adm_round.specs.Round.{code_of_site, number_of, listed}

-- the site of a school
abbrev pub site_of : List Site → Code → Option Site
site_of sites code = find (λ site. bytes_eq (code_of_site site) code) sites

-- the lot that was drawn for the child at the school, or 0 where none was: at the school of which it is a tenant
abbrev pub lot_at : List Lot → Code → ℕ → ℕ
lot_at lots school child =
    unwrap_or (option_map (λ lot. lot.lot) (find (λ lot. bytes_eq lot.school school && lot.child == child) lots)) 0

-- Below, `site` gives the site of a school, and `lot` the lot of a child at a school.

-- a site's school, with the key by which the child ranks there
abbrev pub wish_at : (Code → ℕ → ℕ) → Child → Site → Wish
wish_at lot child site = record { school = code_of_site site; key = key_of site.school child (lot (code_of_site site) child.no) }

-- these schools, each with the child's key there
abbrev pub wishes_for : (Code → Option Site) → (Code → ℕ → ℕ) → Child → List Code → List Wish
wishes_for site lot child codes = filter_map (λ code. option_map (wish_at lot child) (site code)) codes

-- the applicant with the keys by which it ranks at the schools of its list
abbrev pub candidate_of : (Code → Option Site) → (Code → ℕ → ℕ) → Applicant → Candidate
candidate_of site lot applicant =
    record { child = number_of applicant; list = wishes_for site lot applicant.child (listed applicant); tenant = applicant.own }

-- the seats of a site: its school's code, and its quota
abbrev pub seats_of : Site → Seats
seats_of site = record { code = code_of_site site; quota = site.quota }

-- the problem of the round
abbrev pub market_of_round : List Site → List Applicant → List Lot → Market
market_of_round sites applicants lots =
    match.market_of (map (candidate_of (site_of sites) (lot_at lots)) applicants) (map seats_of sites)
