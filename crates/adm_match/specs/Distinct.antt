-- A problem whose entrants can be distinguished, and whose schools all have seats.
use Rattle.std.specs.Prelude.{◌≡◌, ◌≢◌, ℕ, ◌<◌, Some, true, false, List, slice_get, bytes_eq}
use Rattle.std.specs.List.{list_any}
use Rattle.adm_rank.specs.Ranking.{precedes}
use Rattle.adm_match.specs.declared.problem.Wish.{Wish}
use Rattle.adm_match.specs.Market.{Candidate, Market, is_tenant, key_at, some_pair, same_code}
use Rattle.adm_match.specs.Turns.{WellListed}

-- no child is at two indices
abbrev pub ChildrenOnce : List Candidate → Type 0
ChildrenOnce entrants = (i j : ℕ) (d e : Candidate) → slice_get entrants i ≡ Some d → slice_get entrants j ≡ Some e → i < j → d.child ≡ e.child → ⊥

-- where two entrants list a school of which neither is a tenant, the one ranks before the other there
abbrev pub KeysApart : List Candidate → Type 0
KeysApart entrants =
    (k l : ℕ) (d c : Candidate) (j i : ℕ) (w z : Wish)
    → k ≢ l → slice_get entrants k ≡ Some d → slice_get entrants l ≡ Some c → slice_get d.list j ≡ Some w → slice_get c.list i ≡ Some z
    → w.school ≡ z.school → is_tenant d w.school ≡ false → is_tenant c w.school ≡ false
    → precedes w.key z.key ≡ false → precedes z.key w.key ≡ true

-- no list names a school twice, no child is at two indices, each wish has its own key, and keys are apart
pub record Distinct (m : Market) : Type 0 where
  pub well : WellListed m
  pub children : ChildrenOnce m.entrants
  pub key_of : (k : ℕ) (e : Candidate) (j : ℕ) (w : Wish) → slice_get m.entrants k ≡ Some e → slice_get e.list j ≡ Some w → key_at e.list w.school ≡ Some w.key
  pub keys : KeysApart m.entrants

-- no code is repeated among the seats, and each school of a list has seats
pub record Seated (m : Market) : Type 0 where
  pub once : some_pair same_code m.seats ≡ false
  pub known : (k : ℕ) (e : Candidate) (j : ℕ) (w : Wish) → slice_get m.entrants k ≡ Some e → slice_get e.list j ≡ Some w → list_any (λ seat. bytes_eq seat.code w.school) m.seats ≡ true
