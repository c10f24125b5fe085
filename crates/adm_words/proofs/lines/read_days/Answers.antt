use Rattle.std.proofs.Common.{rules, ◌≤◌, ap, map, length}
use Rattle.std.proofs.lemmas.List.{drop_all}
use Rattle.adm_words.proofs.Days.{all_days}
use Rattle.adm_words.proofs.lines.read_days.Goals as goal

pub returns : goal.returns
returns c =
    let past : length c.args.texts.now ≤ c.loop-text.text-index = search rules in
    let left = ap (map (λ t. t.now)) (drop_all c.loop-text.text-index c.args.texts.now past) in
    rw c.from_vec.ensures (all_days _ _ c.loop-text.days.items left c.loop-text.invariant.0)
