use Rattle.std.proofs.Common.{◌∙◌, ap, sym, rules}
use Rattle.std.specs.Ordering.{on}
use Rattle.std.proofs.lemmas.Cmp.{on_total}
use Rattle.std.proofs.lemmas.List.Sorted.{answers_always}
use Rattle.adm_draws.specs.Draws.{rises}
use Rattle.adm_draws.proofs.Rising.{distinct_rows, not_distinct, same_order}
use Rattle.adm_draws.proofs.order.in_order.Goals as goal

pub returns-then-rises-clause-distinct : goal.returns-then-rises-clause-distinct
returns-then-rises-clause-distinct g c =
    let cmp = on g.V.Ordered.sort_key g.K.Ord.cmp in
    distinct_rows (on_total g.V.Ordered.sort_key g.met.K.Ord.total) c.args.rows.items c.sort_unstable_by_key.new.self.items c.sort_unstable_by_key.ensures.permutation
    (ap (rises cmp) (sym c.deref.ensures.value) ∙ sym c.rises.ensures ∙ c.if-rises.true)

pub returns-then-rises-clause-only : goal.returns-then-rises-clause-only
returns-then-rises-clause-only g c = λ list same up.
    let cmp = on g.V.Ordered.sort_key g.K.Ord.cmp in
    same_order (on_total g.V.Ordered.sort_key g.met.K.Ord.total) c.args.rows.items list c.sort_unstable_by_key.new.self.items same c.sort_unstable_by_key.ensures.permutation up
    (ap (rises cmp) (sym c.deref.ensures.value) ∙ sym c.rises.ensures ∙ c.if-rises.true)

pub returns-else-rises-clause-none : goal.returns-else-rises-clause-none
returns-else-rises-clause-none g c = λ list same up.
    let cmp = on g.V.Ordered.sort_key g.K.Ord.cmp in
    let total = on_total g.V.Ordered.sort_key g.met.K.Ord.total in
    not_distinct total c.args.rows.items c.sort_unstable_by_key.new.self.items c.sort_unstable_by_key.ensures.permutation
    (c.sort_unstable_by_key.ensures.sorted g.V.Ordered.sort_key (answers_always _ _ _ (λ f a r g h. search rules)))
    (ap (rises cmp) (sym c.deref.ensures.value) ∙ sym c.rises.ensures ∙ c.if-rises.false)
    (distinct_rows total c.args.rows.items list same up)

pub returns-else-rises-clause-repeated : goal.returns-else-rises-clause-repeated
returns-else-rises-clause-repeated g c = λ apart.
    let cmp = on g.V.Ordered.sort_key g.K.Ord.cmp in
    not_distinct (on_total g.V.Ordered.sort_key g.met.K.Ord.total) c.args.rows.items c.sort_unstable_by_key.new.self.items c.sort_unstable_by_key.ensures.permutation
    (c.sort_unstable_by_key.ensures.sorted g.V.Ordered.sort_key (answers_always _ _ _ (λ f a r g h. search rules)))
    (ap (rises cmp) (sym c.deref.ensures.value) ∙ sym c.rises.ensures ∙ c.if-rises.false) apart
