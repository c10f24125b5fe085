-- The draws of a register stay, where a change puts no draw, or the next.
use Rattle.std.proofs.Common.{◌≡◌, ◌∙◌, ap, sym, true, [], ◌∷◌}
use Rattle.std.specs.Cmp.{nat_cmp_total}
use Rattle.std.specs.FinMap.{get, insert, values, nat_cmp-IsAntisymmetric}
use Rattle.adm_types.specs.declared.draws.Draw.{Draw}
use Rattle.adm_register.specs.declared.difference.Difference.{Difference}
use Rattle.adm_register.specs.State.{State}
use Rattle.adm_register.specs.Change.{after, put_all}
use Rattle.adm_register.specs.Draws.{no_draws, count_draws, are_in_order}
use Rattle.adm_commands.specs.History.{DrawsInOrder, DrawsStay}
use Rattle.adm_register.proofs.DrawLemmas.{own-put, values_put, new_draws, are_in_order-append}
use Rattle.adm_register.proofs.Puts.{all_stay}

-- where no draw is written
pub unchanged : (old new : State) (change : Difference) → change.draws ≡ [] → new ≡ after old change → DrawsInOrder old → DrawsInOrder new × DrawsStay old new
unchanged old new change none is ordered =
    let draws : new.draws ≡ old.draws = ap (λ s. s.draws) is ∙ ap (put_all (λ (d : Draw). d.number) old.draws) none in
    let season : new.season ≡ old.season = ap (λ s. s.season) is in (
      record {
        own = λ number draw there. ordered.own number draw (ap (λ ds. get ds number) (sym draws) ∙ there);
        in_order = (λ i. are_in_order (season i) no_draws (values (draws i))) ∙ ordered.in_order;
      },
      λ number draw there. ap (λ ds. get ds number) draws ∙ there,
    )

-- where the next is written
pub one_more : (old new : State) (change : Difference) (draw : Draw) → change.draws ≡ draw ∷ [] → new ≡ after old change → DrawsInOrder old
    → are_in_order old.season (count_draws no_draws (values old.draws)) (draw ∷ []) ≡ true → DrawsInOrder new × DrawsStay old new
one_more old new change draw one is ordered next =
    let draws : new.draws ≡ insert old.draws draw.number draw = ap (λ s. s.draws) is ∙ ap (put_all (λ (d : Draw). d.number) old.draws) one in
    let season : new.season ≡ old.season = ap (λ s. s.season) is in
    let listed = ap values draws ∙ values_put old.draws old.season (draw ∷ []) ordered.own ordered.in_order next in (
      record {
        own = λ number other there. own-put old.draws draw ordered.own number other (ap (λ ds. get ds number) (sym draws) ∙ there);
        in_order = (λ i. are_in_order (season i) no_draws (listed i)) ∙ are_in_order-append old.season no_draws (values old.draws) (draw ∷ []) ordered.in_order next;
      },
      λ number other there. ap (λ ds. get ds number) draws
          ∙ all_stay nat_cmp_total nat_cmp-IsAntisymmetric (λ (d : Draw). d.number) old.draws (draw ∷ [])
          (new_draws old.draws old.season (draw ∷ []) ordered.own ordered.in_order next) number other there,
    )
