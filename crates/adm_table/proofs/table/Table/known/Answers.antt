use Rattle.std.proofs.Common.{rules}
use Rattle.std.proofs.lemmas.Fn.{filter_same}
use Rattle.adm_table.proofs.table.Table.known.Goals as goal

pub returns : goal.returns
returns g c = rw (c.from_vec.ensures, ← c.into_vec-keys.ensures) (filter_same _ _ _ (λ x b f' k. search rules) _ _ c.retain.ensures.filtered)
