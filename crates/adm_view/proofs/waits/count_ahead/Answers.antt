use Rattle.std.proofs.Common.{rules, of_calls, sym}
use Rattle.std.proofs.lemmas.Fn.{always_returns_same}
use Rattle.adm_waiting.proofs.Positions.{count_to}
use Rattle.adm_view.specs.declared.waits.Rank.{Rank}
use Rattle.adm_view.specs.Waits.{is_rank_ahead}
use Rattle.adm_view.proofs.Positions.{ahead_in_front}
use Rattle.adm_view.proofs.waits.count_ahead.Goals as goal

pub returns-clause-value : goal.returns-clause-value
returns-clause-value c =
    let point = c.partition_point.ensures.partitioned (λ (other : Rank). is_rank_ahead other c.args.one.now) (always_returns_same _ _ _ (λ a r f k. search (rules, of_calls)))
    (λ i j d l m h. ahead_in_front c.args.ranks.now c.args.one.now c.requires i j d l m h) in
    sym (count_to (λ (other : Rank). is_rank_ahead other c.args.one.now) c.args.ranks.now c.partition_point.result c.partition_point.ensures.bound point.0 point.1)
