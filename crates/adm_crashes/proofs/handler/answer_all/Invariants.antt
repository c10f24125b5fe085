use Rattle.std.proofs.Common.{◌≡◌, ◌≤◌, ◌++◌, length, vec_len, vec_capacity}
use Rattle.adm_crashes.specs.Steps.{IsRun}
use Rattle.adm_crashes.proofs.handler.answer_all.Given as goal

abbrev pub invariant-loop-command : goal.invariant-loop-command
invariant-loop-command g l = record {
  split : l.yielded ++ l.command-iterator.rest.items ≡ l.fn.commands.items;
  count : vec_len l.answers ≡ length l.yielded;
  room : length l.fn.commands.items ≤ vec_capacity l.answers;
  run : IsRun g.H.Handler.step (g.H.Handler.view l.fn.handler) l.yielded l.answers.items (g.H.Handler.view l.handler);
}
