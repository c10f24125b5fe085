use Rattle.std.proofs.Common.{◌≡◌, ◌∙◌, sym, true}
use Rattle.adm_types.specs.Limits.{is_name}
use Rattle.adm_register.proofs.checks.is_school.Goals as goal

pub returns-then-is_name : goal.returns-then-is_name
returns-then-is_name c =
    let code = c.as_str-code.ensures.tested in
    let text = c.as_str-text.ensures.text in
    let name : is_name c.args.school.now.name ≡ true = sym c.is_name.ensures ∙ c.if-is_name.true in
    rw (code, text, name) c.is_school_of_size.ensures
