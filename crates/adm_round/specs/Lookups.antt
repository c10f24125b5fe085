-- What maps say of the sites, the lots and the wants of a round.
use Rattle.std.specs.Prelude.{◌≡◌, ℕ, Option, option_map, option_and_then, unwrap_or, List, [], find, slice_get, Vec}
use Rattle.std.specs.declared.alloc.Global.{Global}
use Rattle.std.specs.Ordering.{nat_cmp, ordering_then, is_eq}
use Rattle.std.specs.declared.cmp.Ordering.{Ordering}
use Rattle.std.specs.BTreeMap.{BTreeMap, get}
use Rattle.adm_types.specs.Limits.{code_cmp}
use Rattle.adm_types.specs.declared.draws.Lot.{Lot}
use Rattle.adm_match.specs.Market.{Code}
use Rattle.adm_round.specs.declared.applicants.Pair.{Pair}
use Rattle.adm_round.specs.declared.applicants.Site.{Site}
use Rattle.adm_round.specs.declared.round_index.RoundIndex.{RoundIndex}
use Rattle.adm_round.specs.Ranks.{site_of, lot_at}

-- the order of pairs: by the school, and then by the child
abbrev pub pair_cmp : Pair → Pair → Ordering
pair_cmp one other = ordering_then (code_cmp one.school other.school) (nat_cmp one.child other.child)

-- the value of the first row with the key
abbrev pub first_value : {K V : Type 0} → (K → K → Ordering) → List (K × V) → K → Option V
first_value cmp rows key = option_map (λ row. row.1) (find (λ row. is_eq (cmp row.0 key)) rows)

-- the map has for each key the value of the first row with it
abbrev pub HasFirst : {K V : Type 0} → (K → K → Ordering) → List (K × V) → BTreeMap K V → Type 0
HasFirst {K} cmp rows values = (key : K) → get cmp values key ≡ first_value cmp rows key

-- the site at the index that the directory has for the school
abbrev pub site_in : List Site → RoundIndex → Code → Option Site
site_in sites round_index code = option_and_then (slice_get sites) (get code_cmp round_index.indices code)

-- the lot that the directory has for the child at the school, or 0
abbrev pub lot_in : RoundIndex → Code → ℕ → ℕ
lot_in round_index school child = unwrap_or (get pair_cmp round_index.lots (record { school = school; child = child })) 0

-- the directory is that of these sites and lots
pub record IsRoundIndex (sites : List Site) (lots : List Lot) (round_index : RoundIndex) : Type 0 where
  pub sites_found : (code : Code) → site_in sites round_index code ≡ site_of sites code
  pub lots_found : (school : Code) (child : ℕ) → lot_in round_index school child ≡ lot_at lots school child

-- the children that the map has for the school
abbrev pub children_for : BTreeMap Code (Vec ℕ Global) → Code → List ℕ
children_for wanting code = unwrap_or (option_map (λ children. children.items) (get code_cmp wanting code)) []
