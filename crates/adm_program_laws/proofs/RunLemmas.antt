-- Runs of the program, one after another: the register that they leave.
use Rattle.std.proofs.Common.{◌∙◌, refl, sym, ap, subst, List, [], ◌∷◌, ◌++◌, append_assoc}
use Rattle.std.proofs.Math.Logic.{∥∥₁_elim, ∥∥₁_map}
use Rattle.std.proofs.lemmas.List.{append-nil}
use Rattle.sqlite_disk.specs.declared.Disk.{Ghosts}
use Rattle.sqlite_wal.specs.Recovery.{Image}
use Rattle.sqlite_wal.proofs.LogLemmas.{SeenMayStay}
use Rattle.sqlite.specs.Tree.{Trees}
use Rattle.adm_types.specs.declared.commands.Command.{Command}
use Rattle.adm_register.specs.State.{State as Register}
use Rattle.adm_commands.specs.History.{DrawsInOrder}
use Rattle.adm_commands.specs.Imports.{Reaches}
use Rattle.adm_command_laws.specs.History.{DrawsKept}
use Rattle.adm_command_laws.specs.Places.{PlacesHaveCause}
use Rattle.adm_crashes.proofs.RoundLemmas.{stay}
use Rattle.adm_crashes.specs.Rounds.{RoundsAreRecorded}
use Rattle.adm_rows.specs.Represents.{OneRegister, Represents}
use Rattle.adm_desk.specs.Files.{IsFileOf}
use Rattle.adm_desk.specs.declared.answer.Answer.{Answer}
use Rattle.adm_program_laws.specs.Effects.{AreEffects, IsEffect}
use Rattle.adm_program_laws.specs.SuccessiveRuns.{ProgramRun, AreAnswered, IsFoundAfterRuns, HoldsAfterRuns, RunInOrder, OneMoreRun, AllRuns, PlacesAfterRuns, OpensAfterRuns, NeverNoRegister}
use Rattle.adm_program_laws.proofs.Keeping.{each_end}
use Rattle.adm_program_laws.proofs.Remaining.{reaches_more, same_register, never_none}

-- the effects of one run more
effects_more : (runs : List (List (Command × Answer))) (answered : List (Command × Answer)) (done last : List Command) → AreEffects runs done → IsEffect answered last
    → AreEffects (runs ++ answered ∷ []) (done ++ last)
effects_more [] answered done last none is = (last, [], is, refl, ap (λ (xs : List Command). xs ++ last) none ∙ sym (append-nil last))
effects_more (first ∷ runs) answered done last it is =
    (it.0, it.1 ++ last, it.2, effects_more runs answered it.1 last it.3 is, ap (λ (xs : List Command). xs ++ last) it.4 ∙ append_assoc it.0 it.1 last)

-- the draws of a register that a file represents are in order
draws_in_order : (db : Trees) (r : Register) → Represents db r → DrawsInOrder r
draws_in_order db r is =
    let draws = is.stands.holds.formed.draws in
    record { own = λ number draw there. (draws.each number draw there).own_number; in_order = draws.in_order }

-- where `init` made the files, each place has a cause
pub places_after_runs : PlacesHaveCause → PlacesAfterRuns
places_after_runs law season runs image held = ∥∥₁_map held (λ w. (w.0, w.1, w.2, law season w.1.done w.0 w.1.reached))

module _ {D : Type 0} (g : Ghosts D) (seen : SeenMayStay g) (one : OneRegister) (kept : DrawsKept) (recorded : RoundsAreRecorded) where
  -- what commands that lead from a register leave of its rounds and draws
  found_after : (first found : Register) (runs : List (List (Command × Answer))) (done : List Command) → AreEffects runs done → Reaches first done found → DrawsInOrder first
      → IsFoundAfterRuns first runs found
  found_after first found runs done effects reached ordered = record {
    done = done;
    effects = effects;
    reached = reached;
    rounds = (recorded first found done ordered reached).0;
    draws = (stay kept done first found ordered reached).1;
    ordered = ordered;
  }

  -- files of a register are those after no run
  after_none : (first : Register) (image : Image) → IsFileOf first image → HoldsAfterRuns first [] image
  after_none first image file = ∥∥₁_map file (λ w. (first, found_after first first [] [] refl refl (draws_in_order w.0 first w.2), ∣ w ∣₁))

  pub one_more_run : OneMoreRun g
  one_more_run first runs before after run held it =
      let did = each_end {g = g} seen one before run run.read run.end.remains it.follows in (
        did.answered,
        did.are,
        ∥∥₁_elim held squash₁ (λ was. ∥∥₁_map (did.leaves was.0 was.2 after it.left) (λ now. (
          now.1,
          found_after first now.1 (runs ++ did.answered ∷ []) (was.1.done ++ now.0) (effects_more runs did.answered was.1.done now.0 was.1.effects now.2)
              (reaches_more was.1.done now.0 first was.0 now.1 was.1.reached now.3) was.1.ordered,
          now.4,
        ))),
      )

  more_runs : (first : Register) (earlier : List (List (Command × Answer))) (before after : Image) (runs : List (ProgramRun g)) → HoldsAfterRuns first earlier before → RunInOrder g before runs after
      → (answered : List (List (Command × Answer))) × AreAnswered runs answered × HoldsAfterRuns first (earlier ++ answered) after
  more_runs first earlier before after [] held same =
      let here = subst (λ (runs : List (List (Command × Answer))). HoldsAfterRuns first runs before) (sym (append-nil earlier)) held in
      ([], tt, subst (λ (image : Image). HoldsAfterRuns first (earlier ++ []) image) (sym same) here)
  more_runs first earlier before after (run ∷ runs) held it =
      let next = one_more_run first earlier before it.0 run held it.1 in
      let rest = more_runs first (earlier ++ next.0 ∷ []) it.0 after runs next.2 it.2 in (
        next.0 ∷ rest.0,
        (next.1, rest.1),
        subst (λ (runs : List (List (Command × Answer))). HoldsAfterRuns first runs after) (append_assoc earlier (next.0 ∷ []) rest.0) rest.2,
      )

  pub all_runs : AllRuns g
  all_runs first before after runs file it = more_runs first [] before after runs (after_none first before file) it

  pub opens_after_runs : OpensAfterRuns g
  opens_after_runs first runs image held desk opened clean =
      ∥∥₁_map held (λ was. subst (IsFoundAfterRuns first runs) (sym (same_register {g = g} seen one image was.0 was.2 desk opened clean)) was.1)

  pub never_no_register : NeverNoRegister g
  never_no_register first runs image held e closed it clean bad =
      ∥∥₁_elim held (λ x y. absurd x) (λ was. never_none {g = g} seen one image was.0 was.2 e closed it clean bad)
