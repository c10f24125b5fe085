-- It considers by numbers, which are those of children.
use Rattle.std.proofs.Common.{ℕ, ◌≤◌, Option, sym, subst, arith}
use Rattle.adm_types.specs.Numbers.{highest_child}
use Rattle.adm_match.specs.Holding.{Considers}
use Rattle.adm_match_laws.proofs.HeldChildren.{still_children, rejects_child, considers_child}
use Rattle.adm_match_laws.proofs.kept.Kept.take.Goals as goal

pub invariant_of-self-in_default : goal.invariant_of-self-in_default
invariant_of-self-in_default c =
    let range = subst (λ (n : ℕ). (1 ≤ n) × (n ≤ highest_child)) (sym c.get.ensures.value) c.get.ensures.in_range in
    still_children c.self.inside.held c.consider.new.self (record { child = c.get.result; key = c.args.key; tenant = c.args.tenant }) c.in_ok-out.out c.self.invariant range
    c.in_ok-out.ensures.ok

pub invariant_of-self-2 : goal.invariant_of-self-2
invariant_of-self-2 c =
    let range = subst (λ (n : ℕ). (1 ≤ n) × (n ≤ highest_child)) (sym c.get.ensures.value) c.get.ensures.in_range in
    still_children c.self.inside.held c.consider.new.self (record { child = c.get.result; key = c.args.key; tenant = c.args.tenant }) c.in_ok-out.out c.self.invariant range
    c.in_ok-out.ensures.ok

pub overflow_cast-number : goal.overflow_cast-number
overflow_cast-number c =
    let range = subst (λ (n : ℕ). (1 ≤ n) × (n ≤ highest_child)) (sym c.get.ensures.value) c.get.ensures.in_range in
    let out = rejects_child c.self.inside.held c.consider.new.self (record { child = c.get.result; key = c.args.key; tenant = c.args.tenant }) c.in-Some.number c.self.invariant range
    (subst (λ (o : Option ℕ). Considers c.self.inside.held c.consider.new.self (record { child = c.get.result; key = c.args.key; tenant = c.args.tenant }) o) c.in-Some.is
    c.in_ok-out.ensures.ok) in
    omega (arith, out.1)

pub returns-clause-ok : goal.returns-clause-ok
returns-clause-ok c =
    let range = subst (λ (n : ℕ). (1 ≤ n) × (n ≤ highest_child)) (sym c.get.ensures.value) c.get.ensures.in_range in
    considers_child c.self.inside.held c.args.self.now c.consider.new.self c.get.result c.args.child c.args.key c.args.tenant c.in_ok-out.out c.in-Some.number c.new.result
    c.self.view_is c.get.ensures.value c.in-Some.is c.self.invariant range c.in_ok-out.ensures.ok c.new.ensures.valid.1 c.new.ensures.value
