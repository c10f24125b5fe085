use Rattle.std.proofs.Common.{◌∙◌, ◌++◌, [], ◌∷◌, pos, ap}
use Rattle.sqlite.specs.declared.types.Value.TheVariants.{Int, Text}
use Rattle.adm_rows.specs.Forms.{child_row, codes_text}
use Rattle.adm_store.specs.Changes.{wish_row}
use Rattle.adm_store.proofs.to_rows.ImportRowToRow.to_row.Goals as goal

pub returns : goal.returns
returns c =
    let row = c.args.self.now in
    c.in_ok-columns.ensures wish_row
    ∙ ap (λ text. child_row row.child ++ Int (pos row.day) ∷ Text text ∷ []) (c.from_string.ensures ∙ c.in_ok-preferences.ensures ∙ ap codes_text c.as_slice.ensures)
