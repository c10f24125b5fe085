-- The register that is found after a run of `serve`.
use Rattle.std.proofs.Common.{◌⊎◌, inl, inr, refl, sym, subst, arith, ℕ, List, [], Ok}
use Rattle.std.proofs.Math.Logic.{∥∥₁_map}
use Rattle.sqlite_disk.specs.declared.Disk.{Ghosts}
use Rattle.sqlite_wal.proofs.LogLemmas.{SeenMayStay}
use Rattle.adm_types.specs.declared.commands.Command.{Command}
use Rattle.adm_register.specs.State.{State as Register}
use Rattle.adm_rows.specs.Represents.{OneRegister}
use Rattle.adm_words.specs.declared.actions.Action.TheVariants as action
use Rattle.adm_desk.specs.declared.answer.Answer.{Answer}
use Rattle.adm_program.specs.Arguments.{FollowsFrom}
use Rattle.adm_program.specs.Served.{Visits}
use Rattle.adm_program_laws.specs.Effects.{IsEffect}
use Rattle.adm_program_laws.specs.Exchanges.{Exchange, IsFoundServed, TookEffect}
use Rattle.adm_program_laws.specs.FoundAgain.{AnsweredIsFound, AreServed}
use Rattle.adm_program_laws.specs.SuccessiveRuns.{AnswersConnections, TakesNone}
use Rattle.adm_program_laws.proofs.AnsweredLemmas.{no_effect}
use Rattle.adm_program_laws.proofs.Keeping.{each_end}
use Rattle.adm_program_laws.proofs.Remaining.{same_register}
use Rattle.adm_program_laws.proofs.ServingLemmas.{no_exchange}

-- the exchanges of the run, and the commands of them that took effect
record ServedBy (port count : ℕ) (visits : Visits) (answered : List (Command × Answer)) : Type 0 where
  served : List Exchange
  are : AreServed port count visits served
  took : (done : List Command) → IsEffect answered done → TookEffect served done

served_by : (status port count : ℕ) (visits : Visits) (answered : List (Command × Answer)) → TakesNone status port visits answered ⊎ AnswersConnections count (visits.coming port) visits.new answered
    → ServedBy port count visits answered
served_by status port count visits answered (inl none) = record {
  served = [];
  are = record {
    few = omega arith;
    exchanged = elim none.untaken [ inl untaken ↦ inr (refl, untaken) | inr same ↦ inl (no_exchange (visits.coming port) visits.new same) ];
    each = tt;
  };
  took = λ done is. no_effect done (subst (λ (xs : List (Command × Answer)). IsEffect xs done) none.none is);
}
served_by status port count visits answered (inr it) = record { served = it.served; are = record { few = it.few; exchanged = inl it.exchanged; each = it.each }; took = it.effects }

module _ {D : Type 0} (g : Ghosts D) (seen : SeenMayStay g) (one : OneRegister) where
  pub answered_is_found_lem : AnsweredIsFound g
  answered_is_found_lem first before after run file port count file_of it is =
      let follows = subst (λ read. FollowsFrom g before read run.around run.end) is it.follows in
      let did = each_end {g = g} seen one before run (Ok (action.Serve file port count)) run.end.remains follows in
      let by = served_by run.end.status port count run.around.given.visits did.answered did.are in
      let holds = ∥∥₁_map (did.leaves first file_of after it.left) (λ w. (w.1, record { done = w.0; took = by.took w.0 w.2; reached = w.3 }, w.4)) in (
        by.served,
        by.are,
        record {
          holds = holds;
          finds = λ desk opened clean. ∥∥₁_map holds (λ w. subst (IsFoundServed first by.served) (sym (same_register {g = g} seen one after w.0 w.2 desk opened clean)) w.1);
        },
      )
