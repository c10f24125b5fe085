use Rattle.std.specs.Prelude.{◌⊎◌}
use Rattle.std.proofs.Common.{inl, inr, ◌≡◌, ◌∙◌, ap, sym, arith}
use Rattle.std.specs.declared.cmp.Ordering.{Ordering}
use Rattle.std.specs.declared.cmp.Ordering.TheVariants.{Less, Equal, Greater}
use Rattle.adm_table.proofs.PieceRuns.{rows-below, rows-above, rows-past}
use Rattle.adm_table.proofs.pieces.index_of.Goals as goal

not_greater : (r : Ordering) → (r ≡ Less) ⊎ (r ≡ Equal) → r ≡ Greater → ⊥
not_greater r is greater = elim is [ inl less ↦ cc | inr equal ↦ cc ]

pub loop-end-preserved-in-Greater : goal.loop-end-preserved-in-Greater
loop-end-preserved-in-Greater g c = record {
  ordered = omega arith;
  within = omega arith;
  apart = omega arith;
  below = c.loop-end.invariant.below;
  above = rows-above g.met.K.Ord.total _ c.args.pieces.now c.index-pieces-middle.result c.args.key.now (omega arith) c.index-pieces-middle.is c.requires
      (ap (λ p. g.K.Ord.cmp p.first c.args.key.now) c.index-pieces-middle.is ∙ sym c.in-Greater.ensures);
}

pub loop-end-preserved : goal.loop-end-preserved
loop-end-preserved g c = record {
  ordered = omega arith;
  within = omega arith;
  apart = omega arith;
  below = rows-below g.met.K.Ord.total _ c.args.pieces.now c.index-pieces-middle.result c.args.key.now (omega arith) c.index-pieces-middle.is c.requires
      (λ greater. not_greater c.cmp.result c.in-Less.is (c.cmp.ensures ∙ sym (ap (λ p. g.K.Ord.cmp p.first c.args.key.now) c.index-pieces-middle.is) ∙ greater));
  above = c.loop-end.invariant.above;
}

pub returns-clause-above : goal.returns-clause-above
returns-clause-above g c = rows-past g.K.Ord.cmp c.loop-end.index c.loop-end.end c.args.pieces.now c.args.key.now c.loop-end.invariant.ordered c.loop-end.invariant.within
    c.loop-end.invariant.apart (omega arith) c.loop-end.invariant.above
