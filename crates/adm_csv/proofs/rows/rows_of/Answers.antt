use Rattle.std.proofs.Common.{◌∙◌, sym}
use Rattle.adm_csv.proofs.HeaderLemmas.{from_header, below_header}
use Rattle.adm_csv.proofs.rows.rows_of.Goals as goal

pub returns-in-Ok-clause-reads : goal.returns-in-Ok-clause-reads
returns-in-Ok-clause-reads c =
    let header = c.in-Ok.ensures.ok in
    from_header (λ v. v.items) _ _ header.0 _ c.rows_from.result (sym c.source-records.ensures.records ∙ header.1) header.2 header.4 c.rows_from.ensures.reads

pub returns-in-Ok-clause-memory : goal.returns-in-Ok-clause-memory
returns-in-Ok-clause-memory c =
    let header = c.in-Ok.ensures.ok in
    below_header _ _ header.0 _ c.rows_from.result (sym c.source-records.ensures.records ∙ header.1) header.2 header.4 c.rows_from.ensures.memory
