use Rattle.std.proofs.Common.{◌≡◌, ◌∙◌, sym, pos, subst, arith, to_z, of_z, w64}
use Rattle.std.proofs.lemmas.Int.{ints}
use Rattle.adm_types.specs.Seasons.{IsDay}
use Rattle.adm_types.proofs.days.Day.text.Goals as goal

pub returns : goal.returns
returns c =
    let same : to_z w64 (of_z w64 c.from.result) ≡ pos c.args.self.now = let shown = c.self.view_is in omega (arith, ints, shown, c.from.ensures) in
    record {
      date = c.in-Ok.date;
      written = c.date_text.ensures;
      number = sym (c.in-Ok.ensures.value ∙ same);
      in_range = subst IsDay c.self.view_is c.self.invariant;
    }
