-- A school that holds children alone rejects a child.
use Rattle.std.proofs.Common.{◌≡◌, ℕ, ◌≤◌, ◌∷◌, Option, None, Some, Bool, cond, inl, inr, sym, ap, subst}
use Rattle.std.specs.Prelude.{All, IsSome, IfSome}
use Rattle.std.proofs.lemmas.Bool.{cases_Bool, false≢true}
use Rattle.std.proofs.lemmas.List.Elements.{All-cons, All-head, All-tail}
use Rattle.std.proofs.lemmas.List.Sorted.{All-permutation}
use Rattle.adm_rank.specs.declared.keys.RankKey.{RankKey}
use Rattle.adm_types.specs.Numbers.{highest_child}
use Rattle.adm_match.specs.Holding.{Holding, Proposal, guests_with, Considers}
use Rattle.adm_match_laws.specs.Children.{IsChild}

with_one : (old : Holding) (p : Proposal) → All IsChild old.guests → (1 ≤ p.child) × (p.child ≤ highest_child) → All IsChild (guests_with old p)
with_one old p h is = elim (cases_Bool p.tenant) [
  | inl tenant ↦ subst (λ b. All IsChild (cond b old.guests (record { key = p.key; child = p.child } ∷ old.guests))) (sym tenant) h
  | inr guest ↦
      subst (λ b. All IsChild (cond b old.guests (record { key = p.key; child = p.child } ∷ old.guests))) (sym guest)
      (All-cons IsChild (record { key = p.key; child = p.child }) old.guests is h)
]

pub still_children : (old new : Holding) (p : Proposal) (out : Option ℕ) → All IsChild old.guests → (1 ≤ p.child) × (p.child ≤ highest_child)
    → Considers old new p out → All IsChild new.guests
still_children old new p None h is c = All-permutation IsChild (guests_with old p) new.guests c.guests.guests (with_one old p h is)
still_children old new p (Some out) h is c =
    All-tail IsChild c.guests.last.guest new.guests
    (All-permutation IsChild (guests_with old p) (c.guests.last.guest ∷ new.guests) c.guests.last.others (with_one old p h is))

pub rejects_child : (old new : Holding) (p : Proposal) (out : ℕ) → All IsChild old.guests → (1 ≤ p.child) × (p.child ≤ highest_child)
    → Considers old new p (Some out) → (1 ≤ out) × (out ≤ highest_child)
rejects_child old new p out h is c =
    subst (λ (n : ℕ). (1 ≤ n) × (n ≤ highest_child)) c.guests.last.is_child
    (All-head IsChild c.guests.last.guest new.guests
    (All-permutation IsChild (guests_with old p) (c.guests.last.guest ∷ new.guests) c.guests.last.others (with_one old p h is)))

is_it : (o : Option ℕ) (n : ℕ) → IsSome o → IfSome o (λ child. child ≡ n) → o ≡ Some n
is_it None n some is = absurd (false≢true some)
is_it (Some child) n some is = ap Some is

-- the number that goes is that of the child that is rejected
pub considers_child : (inside old new : Holding) (number child : ℕ) (key : RankKey) (tenant : Bool) (out : Option ℕ) (gone : ℕ) (result : Option ℕ) → inside ≡ old
    → number ≡ child → out ≡ Some gone → All IsChild inside.guests → (1 ≤ number) × (number ≤ highest_child)
    → Considers inside new (record { child = number; key = key; tenant = tenant }) out → ((1 ≤ gone) × (gone ≤ highest_child) → IsSome result)
    → IfSome result (λ child. child ≡ gone) → Considers old new (record { child = child; key = key; tenant = tenant }) result
considers_child inside old new number child key tenant out gone result view same is h range c valid value =
    let rejects : Considers inside new (record { child = number; key = key; tenant = tenant }) (Some gone)
    = subst (λ (o : Option ℕ). Considers inside new (record { child = number; key = key; tenant = tenant }) o) is c in
    let it : result ≡ Some gone = is_it result gone (valid (rejects_child inside new (record { child = number; key = key; tenant = tenant }) gone h range rejects)) value in
    subst (λ (k : Holding). Considers k new (record { child = child; key = key; tenant = tenant }) result) view
    (subst (λ (n : ℕ). Considers inside new (record { child = n; key = key; tenant = tenant }) result) same
    (subst (λ (o : Option ℕ). Considers inside new (record { child = number; key = key; tenant = tenant }) o) (sym it) rejects))
