use Rattle.std.proofs.Common.{rules, of_calls, sym}
use Rattle.std.proofs.lemmas.Fn.{always_returns_same}
use Rattle.adm_waiting.proofs.Positions.{count_to}
use Rattle.adm_view.specs.Left.{is_upto}
use Rattle.adm_view.proofs.Left.{upto_in_front}
use Rattle.adm_view.proofs.children.count_upto.Goals as goal

pub returns-clause-value : goal.returns-clause-value
returns-clause-value c =
    let point = c.partition_point.ensures.partitioned (is_upto c.args.child) (always_returns_same _ _ _ (λ a r f k. search (rules, of_calls)))
    (λ i j d l m h. upto_in_front c.args.child c.args.left.now c.requires i j d l m h) in
    sym (count_to (is_upto c.args.child) c.args.left.now c.partition_point.result c.partition_point.ensures.bound point.0 point.1)
