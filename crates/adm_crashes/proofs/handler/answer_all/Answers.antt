use Rattle.std.proofs.Common.{◌∙◌, ◌≡◌, ◌+◌, ap, sym, [], ◌∷◌, ◌++◌, vec_len, rules, length-append}
use Rattle.std.proofs.lemmas.List.{append_assoc}
use Rattle.adm_crashes.proofs.Runs.{Run-more}
use Rattle.adm_crashes.proofs.handler.answer_all.Goals as goal

pub loop-command-preserved : goal.loop-command-preserved
loop-command-preserved g c = record {
  split = append_assoc c.loop-command.yielded (c.in-Some.command ∷ []) c.next.new.self.rest.items
      ∙ ap (λ rest. c.loop-command.yielded ++ rest) (sym c.in-Some.ensures.steps.0) ∙ c.loop-command.invariant.split;
  count =
      (let one : vec_len c.push.new.self ≡ vec_len c.loop-command.answers + 1 = search rules in
      one ∙ ap (λ n. n + 1) c.loop-command.invariant.count ∙ sym (length-append c.loop-command.yielded (c.in-Some.command ∷ [])));
  room = search rules;
  run = rw (rw c.unwrap.ensures at c.push.ensures.items)
      (Run-more g.H.Handler.step _ _ _ c.loop-command.yielded _ c.in-Some.command c.handle.result c.loop-command.invariant.run c.handle.ensures);
}
