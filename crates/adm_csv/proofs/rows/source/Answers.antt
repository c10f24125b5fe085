use Rattle.std.proofs.Common.{◌∙◌, inr}
use Rattle.adm_csv.proofs.rows.source.Goals as goal

pub returns-clause-plain : goal.returns-clause-plain
returns-clause-plain c =
    let fr = c.from_reader.ensures in
    let any = c.flexible.ensures in
    let all = c.has_headers.ensures in
    rw c.into_byte_records.ensures.rdr (
      rw (any, all) at fr.trim ∙ c.new.ensures.trim,
      inr (inr (rw (any, all) at fr.has_headers, fr.headers)),
      c.into_byte_records.ensures.left,
      rw (any, all) at fr.config ∙ c.new.ensures.config,
      _,
      fr.source,
    )
