-- The child comes, and where more than the quota are held the guest that ranks last goes.
use Rattle.std.proofs.Common.{◌∙◌, ◌<◌, ◌+◌, false, length, sym, ap, subst, arith}
use Rattle.std.specs.Prelude.{IsPermutation}
use Rattle.std.specs.BinaryHeap.{heap_items}
use Rattle.std.proofs.lemmas.List.Sorted.{IsPermutation-refl}
use Rattle.adm_match.specs.Holding.{holding_of, tenants_with, guests_with, Considers}
use Rattle.adm_match.proofs.Heap.{takes_over}
use Rattle.adm_match.proofs.held.HeldByIndex.consider.Goals as goal
use Rattle.adm_match.proofs.held.HeldByIndex.consider.Goals.{then-tenant+in_ok-push, else-tenant+in_ok-push-2}

pub returns-clause-ok : goal.returns-clause-ok
returns-clause-ok c =
    let in' = c.self.inside in
    let mid = c.if-tenant.self-inside in
    let old = holding_of in'.quota in'.tenants.items (heap_items in'.guests) in
    let over : mid.quota < length mid.tenants.items + length (heap_items mid.guests)
    = omega (arith, c.if-len-self.false, c.len.ensures, c.len-2.ensures, mid.tenants.ok.0, mid.guests.data.ok.0) in
    subst (λ k. Considers k (holding_of mid.quota mid.tenants.items (heap_items c.pop_last.new.guests))
    (record { child = c.args.child; key = c.args.key; tenant = c.args.tenant }) c.pop_last.result) c.self.view_is
    (elim c.if-tenant.branch [
      | then-tenant+in_ok-push w ↦
          takes_over old mid.quota mid.tenants.items (heap_items mid.guests) (heap_items c.pop_last.new.guests) c.args.child c.args.key c.args.tenant c.pop_last.result
          (ap (λ s. s.quota) w.self-inside-is)
          (ap (λ s. s.tenants.items) w.self-inside-is ∙ (w.in_ok-push.ensures.items
          ∙ ap (λ b. tenants_with old (record { child = c.args.child; key = c.args.key; tenant = b })) (sym w.if-tenant.true)))
          (subst (λ b. IsPermutation (guests_with old (record { child = c.args.child; key = c.args.key; tenant = b })) (heap_items mid.guests)) (sym w.if-tenant.true)
          (subst (λ gs. IsPermutation (heap_items in'.guests) gs) (sym (ap (λ s. heap_items s.guests) w.self-inside-is)) (IsPermutation-refl (heap_items in'.guests))))
          over c.pop_last.ensures.last c.pop_last.ensures.none
      | else-tenant+in_ok-push-2 w ↦
          takes_over old mid.quota mid.tenants.items (heap_items mid.guests) (heap_items c.pop_last.new.guests) c.args.child c.args.key c.args.tenant c.pop_last.result
          (ap (λ s. s.quota) w.self-inside-is)
          (ap (λ s. s.tenants.items) w.self-inside-is ∙ ap (λ b. tenants_with old (record { child = c.args.child; key = c.args.key; tenant = b })) (sym w.if-tenant.false))
          (subst (λ b. IsPermutation (guests_with old (record { child = c.args.child; key = c.args.key; tenant = b })) (heap_items mid.guests)) (sym w.if-tenant.false)
          (subst (λ gs. IsPermutation (guests_with old (record { child = c.args.child; key = c.args.key; tenant = false })) gs)
          (sym (ap (λ s. heap_items s.guests) w.self-inside-is)) w.in_ok-push-2.ensures.permutation))
          over c.pop_last.ensures.last c.pop_last.ensures.none
    ])
