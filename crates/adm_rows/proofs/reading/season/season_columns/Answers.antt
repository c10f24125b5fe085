use Rattle.std.proofs.Common.{rules, pos, ap, ◌≡◌, ◌∙◌}
use Rattle.sqlite.specs.declared.types.Value.TheVariants.{Int}
use Rattle.adm_rows.specs.Forms.{phase_code}
use Rattle.adm_rows.proofs.RowLemmas.{columns_are}
use Rattle.adm_rows.proofs.reading.season.season_columns.Goals as goal

pub returns-clause-ok : goal.returns-clause-ok
returns-clause-ok c =
    let one : c.in_ok-one.one ≡ 1 = search rules in
    let phase : c.in_ok-value_at.field-0 ≡ phase_code c.in-Some.phase = search rules in
    columns_are c.args.row.now _ (search rules) (
      c.in_ok-one.ensures.ok ∙ ap (λ n. Int (pos n)) one,
      (c.requires, (c.in_ok-value_at.ensures.ok ∙ ap (λ n. Int (pos n)) phase, (c.in_ok-year.ensures.ok, (c.in_ok-holidays.ensures.ok, (c.in_ok-draws.ensures.ok, tt))))),
    )
