-- Whom a school tentatively holds, and how it considers one more proposal (Gale and Shapley 1962; tenants are this profile's).
use Rattle.std.specs.Prelude.{◌≡◌, ℕ, ◌+◌, ◌<◌, ◌≤◌, Bool, false, if◌then◌else◌, List, [], ◌∷◌, ◌++◌, length, Option, None, Some, All, ◌⊎◌, IsPermutation, not, ◌&&◌, option_map, count_by, slice_get, slice_set}
use Rattle.std.specs.Ordering.{nat_cmp, ordering_then}
use Rattle.std.specs.Option.{option_to_list}
use Rattle.std.specs.declared.cmp.Ordering.{Ordering}
use Rattle.adm_types.specs.Code.{has}
use Rattle.adm_rank.specs.declared.keys.RankKey.{RankKey}
use Rattle.adm_match.specs.declared.held.Guest.{Guest}
use Rattle.adm_match.specs.declared.problem.Seats.{Seats}
use Rattle.adm_match.specs.declared.progress.Progress.{Progress}
use Rattle.adm_match.specs.Market.{Code, Candidate, is_tenant, key_at}
use Rattle.adm_rank.specs.Ranking.{precedes}

-- The quota, the tenants, and the guests. The order of the guests says nothing.
pub record Holding : Type 0 where
  pub quota : ℕ
  pub tenants : List ℕ
  pub guests : List Guest

-- the holding with this quota, these tenants and these guests
abbrev pub holding_of : ℕ → List ℕ → List Guest → Holding
holding_of quota tenants guests = record { quota = quota; tenants = tenants; guests = guests }

-- the order of the heap: the class, the distance, the lot, and then the child
abbrev pub guest_cmp : Guest → Guest → Ordering
guest_cmp a b =
    ordering_then
    (ordering_then (nat_cmp a.key.class b.key.class) (ordering_then (nat_cmp a.key.distance b.key.distance) (nat_cmp a.key.lot b.key.lot)))
    (nat_cmp a.child b.child)

-- a child that proposes to a school, with its key there, and whether it is a tenant of the school
pub record Proposal : Type 0 where
  pub child : ℕ
  pub key : RankKey
  pub tenant : Bool

-- the tenants with one more child, if that child is a tenant
abbrev pub tenants_with : Holding → Proposal → List ℕ
tenants_with held proposal = if proposal.tenant then held.tenants ++ proposal.child ∷ [] else held.tenants

-- the guests with one more child, unless that child is a tenant
abbrev pub guests_with : Holding → Proposal → List Guest
guests_with held proposal = if proposal.tenant then held.guests else record { key = proposal.key; child = proposal.child } ∷ held.guests

-- the guest is one of these, the others remain, and none of them ranks after it
pub record RanksLast (guests : List Guest) (remaining : List Guest) (child : ℕ) : Type 0 where
  pub guest : Guest
  pub is_child : guest.child ≡ child
  pub others : IsPermutation guests (guest ∷ remaining)
  pub last : All (λ other. precedes guest.key other.key ≡ false) remaining

-- Nobody is rejected: there is room, or there are tenants alone.
pub record HoldsAll (old new : Holding) (proposal : Proposal) : Type 0 where
  pub guests : IsPermutation (guests_with old proposal) new.guests
  pub may_stay : (length (tenants_with old proposal) + length (guests_with old proposal) ≤ old.quota) ⊎ (guests_with old proposal ≡ [])

-- More than the quota are held, and the guest that ranks last is rejected.
pub record Rejects (old new : Holding) (proposal : Proposal) (out : ℕ) : Type 0 where
  pub over : old.quota < length (tenants_with old proposal) + length (guests_with old proposal)
  pub last : RanksLast (guests_with old proposal) new.guests out

-- the guests afterwards: all are held where nobody is rejected, and else all but the rejected child
abbrev pub GuestsAfter : Holding → Holding → Proposal → Option ℕ → Type 0
GuestsAfter old new proposal None = HoldsAll old new proposal
GuestsAfter old new proposal (Some out) = Rejects old new proposal out

-- What a school does when one more child proposes: it holds the child, and where that is one too many it rejects the
-- guest that ranks last (Gale and Shapley 1962).
pub record Considers (old new : Holding) (proposal : Proposal) (out : Option ℕ) : Type 0 where
  pub quota : new.quota ≡ old.quota
  pub tenants : new.tenants ≡ tenants_with old proposal
  pub guests : GuestsAfter old new proposal out

-- one school of several considers a proposal, and the others are as they were
abbrev pub ConsidersAt : List Holding → List Holding → ℕ → Proposal → Option ℕ → Type 0
ConsidersAt schools after at proposal out =
    (old : Holding) → slice_get schools at ≡ Some old → (new : Holding) × (after ≡ slice_set schools at new) × Considers old new proposal out

-- the entry of the entrant at an index, at a school that holds it and of which it is no tenant, or nothing
abbrev pub guest_entry : ℕ → Candidate → Progress → Code → List Guest
guest_entry k e r s =
    if has r.school s && not (is_tenant e s) then option_to_list (option_map (λ key. record { key = key; child = k }) (key_at e.list s)) else []

-- the guests of a school among the entrants from an index on
abbrev pub guests_from : ℕ → List Candidate → List Progress → Code → List Guest
guests_from k [] rows s = []
guests_from k (e ∷ es) [] s = []
guests_from k (e ∷ es) (r ∷ rows) s = guest_entry k e r s ++ guests_from (k + 1) es rows s

-- the guests of a school, by their indices among the entrants
abbrev pub guests_of : List Candidate → List Progress → Code → List Guest
guests_of = guests_from 0

-- the same guests, as often: every test passes as often on the one side as on the other
abbrev pub SameBag : List Guest → List Guest → Type 0
SameBag xs ys = (p : Guest → Bool) → count_by p xs ≡ count_by p ys

-- what a school holds before anybody comes
abbrev pub nobody_held : Seats → Holding
nobody_held seat = holding_of seat.quota [] []
