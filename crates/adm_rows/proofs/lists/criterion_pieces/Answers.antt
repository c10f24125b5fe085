use Rattle.std.proofs.Common.{lit<, rules}
use Rattle.std.proofs.lemmas.Iterator.{YieldsList-from_map, items_from_collect}
use Rattle.std.proofs.lemmas.Iterator.Consumers.{YieldsList-at}
use Rattle.std.proofs.lemmas.Iterator.Splits.{YieldsList-from_str_split}
use Rattle.adm_types.specs.Criteria.{criterion_of}
use Rattle.adm_rows.proofs.lists.criterion_pieces.Goals as goal

pub returns : goal.returns
returns c =
    let parts = YieldsList-from_str_split {s = c.split.result} 59 c.args.text.now (lit< tt) c.split.ensures.text c.split.ensures.has_more c.split.ensures.pattern in
    items_from_collect _ c.collect.ensures.ran (YieldsList-from_map {s = c.map.result} _ criterion_of (YieldsList-at c.map.ensures.source parts) c.map.ensures.closure (λ x r q k. search rules))
