use Rattle.std.proofs.Common.{◌≡◌, ◌∙◌, ap, sym, subst, arith, rules}
use Rattle.std.proofs.lemmas.Grind.{common_steps}
use Rattle.std.specs.List.{All}
use Rattle.std.specs.Ordering.{nat_cmp}
use Rattle.std.specs.BTreeSet.{insert_key}
use Rattle.std.proofs.lemmas.Map.Views.{All-insert_key}
use Rattle.adm_types.specs.Seasons.{IsDay}
use Rattle.std.specs.Prelude.{◌==◌}
use Rattle.std.specs.List.{list_any}
use Rattle.std.proofs.lemmas.List.{take_all}
use Rattle.adm_types.proofs.Rising.{IsRising-keys}
use Rattle.adm_types.proofs.seasons.rising.Goals as goal

pub returns-clause-rising : goal.returns-clause-rising
returns-clause-rising c = IsRising-keys c.args.days.now _ c.from_vec.result c.keys_of.ensures.ordered
    (λ day. c.loop-day.invariant.same day ∙ ap (list_any (λ other. other == day)) (take_all _ _ (omega arith))) (c.from_vec.ensures ∙ c.in_ok-keys_of.ensures.keys)

pub loop-day-preserved : goal.loop-day-preserved
loop-day-preserved c =
    let put : c.insert.new.self.keys ≡ insert_key nat_cmp c.loop-day.set.keys c.day-item.result = c.in_ok-insert.ensures.keys in
    record {
      same = λ day. grind (arith, common_steps, c.loop-day.invariant.same day);
      days = subst (All IsDay) (sym put) (All-insert_key nat_cmp _ IsDay c.loop-day.set.keys c.loop-day.invariant.days c.number-number.ensures.in_range);
      fewer = search rules;
    }
