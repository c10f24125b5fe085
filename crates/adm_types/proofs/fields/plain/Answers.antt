use Rattle.std.proofs.Common.{◌∙◌, sym, ap}
use Rattle.adm_types.specs.Fields.{has_plain_digits}
use Rattle.adm_types.proofs.PlainNumbers.{plain_read}
use Rattle.adm_types.proofs.fields.plain.Goals as goal

pub returns-then-has_plain_digits : goal.returns-then-has_plain_digits
returns-then-has_plain_digits c =
    let plain = sym (c.has_plain_digits.ensures ∙ ap has_plain_digits c.as_bytes.ensures.value) ∙ c.if-has_plain_digits.true in
    c.ok.ensures.value ∙ plain_read c.args.text.now c.parse.result c.parse.ensures.value.0 plain
