use Rattle.std.proofs.Common.{[], ◌∷◌, refl, rules, ◌++◌, ◌≡◌}
use Rattle.adm_desk.proofs.CutLemmas.{Cuts-byte}
use Rattle.adm_desk.proofs.AnswerLemmas.{Answered-nothing, Interrupted-nothing}
use Rattle.adm_desk.proofs.lines.take_byte.Goals as goal

pub returns-then-is_ok-clause-taken : goal.returns-then-is_ok-clause-taken
returns-then-is_ok-clause-taken g c =
    let items : c.push.new.self.items ≡ c.args.pending.now.items ++ c.args.byte ∷ [] = search rules in
    rw items record {
      lines = [];
      cut = Cuts-byte c.args.pending.now.items c.args.byte c.if-byte-eq10.false;
      answered = Answered-nothing g.H.LineHandler.runs _ _ _;
    }

pub returns-else-is_ok-clause-broken : goal.returns-else-is_ok-clause-broken
returns-else-is_ok-clause-broken g c = record {
  lines = [];
  more = c.args.pending.now.items ++ c.args.byte ∷ [];
  whole = refl;
  plain = λ _. tt;
  interrupted = Interrupted-nothing g.H.LineHandler.runs _ _;
}
