use Rattle.std.proofs.Common.{rules, get_or}
use Rattle.std.proofs.lemmas.List.{get_or_default}
use Rattle.std.proofs.lemmas.List.Sorted.{answers_always}
use Rattle.adm_match.proofs.DirectoryLemmas.{not_lost}
use Rattle.adm_match.proofs.directory.index_beside.Goals as goal

pub unreachable-requires : goal.unreachable-requires
unreachable-requires g c =
    not_lost g.met.K.Ord.total c.args.pairs.now c.requires.sorted c.args.key c.in-Err.field-0 c.requires.there.0 c.requires.there.1
    (c.in-Err.ensures.position (λ pair. pair.0) (answers_always _ _ _ (λ f a r f' called. search rules)))

pub returns : goal.returns
returns g c =
    let pairs = c.args.pairs.now in
    let at = c.in-Ok.at in
    let pair = get_or pairs at c.index-pairs-at.result in
    let ties = c.in-Ok.ensures.position (λ it. it.0) (answers_always _ _ _ (λ f a r f' called. search rules)) in
    (pair.0, (at, c.in-Ok.ensures.bound, get_or_default pairs at pair c.index-pairs-at.result c.in-Ok.ensures.bound), ties c.index-pairs-at.result)
