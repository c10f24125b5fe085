use Rattle.std.proofs.Common.{◌≡◌, ◌∙◌, sym, arith, false, true, Bool, not, refl, ap}
use Rattle.std.proofs.lemmas.Int.{ints}
use Rattle.std.specs.Str.{bytes_eq}
use Rattle.std.specs.Cmp.Lexicographic.{bytes_decides}
use Rattle.adm_types.proofs.DayTexts.{if_some_both, day_on_none, day_on_some}
use Rattle.adm_types.proofs.days.Day.written.Goals as goal

is_same : (b : Bool) → false ≡ not b → b ≡ true
is_same true e = refl
is_same false e = cc

pub returns-clause-found : goal.returns-clause-found
returns-clause-found c =
    let written = sym ((bytes_decides _ _).0 (is_same _ c.if-ne.ensures)) ∙ c.as_str.ensures.value ∙ c.date_text.ensures in
    if_some_both _ _ _ c.from_number.result c.from_number.ensures.value c.from_number.ensures.in_range (λ day number range.
    record { date = c.args.date; written = written; number = omega (arith, ints, number, c.from.ensures, c.to_unix_epoch_day.ensures.value); in_range = range })

is_other : (b : Bool) → true ≡ not b → b ≡ false
is_other true e = cc
is_other false e = refl

pub returns-then-ne-clause-reads : goal.returns-then-ne-clause-reads
returns-then-ne-clause-reads c =
    day_on_none c.args.text.now c.args.date (ap (λ t. bytes_eq t c.args.text.now) (sym (c.as_str.ensures.value ∙ c.date_text.ensures)) ∙ is_other _ c.if-ne.ensures)

pub returns-clause-reads : goal.returns-clause-reads
returns-clause-reads c =
    day_on_some c.args.text.now c.args.date _ _ (ap (λ t. bytes_eq t c.args.text.now) (sym (c.as_str.ensures.value ∙ c.date_text.ensures)) ∙ is_same _ c.if-ne.ensures)
    (omega (arith, ints, c.from.ensures, c.to_unix_epoch_day.ensures.value)) c.from_number.ensures.valid c.from_number.ensures.value
