-- What the commands of schools, children and applications show of what they change.
use Rattle.std.proofs.Common.{refl, ℕ, List}
use Rattle.std.specs.Cmp.{nat_cmp_total}
use Rattle.std.specs.Cmp.Lexicographic.{nat_list_cmp_total}
use Rattle.std.specs.FinMap.{nat_cmp-IsAntisymmetric}
use Rattle.adm_types.specs.declared.commands.Command.TheVariants.{AddSchool, RaisePan, AddChild, Amend, Apply}
use Rattle.adm_types.specs.declared.rows.Application.{Application}
use Rattle.adm_types.specs.declared.rows.Child.{Child}
use Rattle.adm_types.specs.declared.rows.School.{School}
use Rattle.adm_register.specs.Change.{after, change_of_child}
use Rattle.adm_commands.specs.Commands.AddSchool as add_school
use Rattle.adm_types.specs.declared.commands.Refusal.TheVariants as refusal
use Rattle.adm_commands.proofs.Passed.{passed}
use Rattle.adm_commands.specs.Commands.RaisePan as raise_pan
use Rattle.adm_commands.specs.Commands.AddChild as add_child
use Rattle.adm_commands.specs.Commands.Apply as apply
use Rattle.adm_commands.proofs.Accepted.{add_school-fit, add_child-fit, amend-fit, apply-fit}
use Rattle.adm_commands.proofs.PutAgain.{insert_again, not_again}
use Rattle.adm_commands.proofs.RaiseFit.{raise_pan-fit, raise_pan-again}
use Rattle.adm_commands.proofs.Shows.{Shows, shows_only, no_row}

pub add_school_shows : (school : School) → Shows (AddSchool school)
unfolding add_school.tests add_school.change_of
add_school_shows school = shows_only (AddSchool school) (λ old. add_school.change_of school) (record {
  done = λ old. (refl, refl);
  is = λ old change reply done. done;
  fits = λ old kept well accepted. add_school-fit old school kept well (no_row _ accepted);
  again = λ old well first passes. absurd (not_again nat_list_cmp_total old.schools school.code school
      (passed (add_school.tests (after old (add_school.change_of school)) school) (no_row _ passes) refusal.SchoolKnown));
  no_draw = λ old. refl;
  no_import = λ old. refl;
})

pub add_child_shows : (child : Child) → Shows (AddChild child)
unfolding add_child.tests
add_child_shows child = shows_only (AddChild child) (λ old. change_of_child child) (record {
  done = λ old. (refl, refl);
  is = λ old change reply done. done;
  fits = λ old kept well accepted. add_child-fit old child kept well (no_row _ accepted);
  again = λ old well first passes. absurd (not_again nat_cmp_total old.children child.no child
      (passed (add_child.tests (after old (change_of_child child)) child) (no_row _ passes) refusal.ChildKnown));
  no_draw = λ old. refl;
  no_import = λ old. refl;
})

pub amend_shows : (child : Child) → Shows (Amend child)
amend_shows child = shows_only (Amend child) (λ old. change_of_child child) (record {
  done = λ old. (refl, refl);
  is = λ old change reply done. done;
  fits = λ old kept well accepted. amend-fit old child kept well (no_row _ accepted);
  again = λ old well first passes. (λ i. record old { children = insert_again nat_cmp_total nat_cmp-IsAntisymmetric old.children child.no child i });
  no_draw = λ old. refl;
  no_import = λ old. refl;
})

pub apply_shows : (application : Application) → Shows (Apply application)
unfolding apply.tests apply.change_of
apply_shows application = shows_only (Apply application) (λ old. apply.change_of application) (record {
  done = λ old. (refl, refl);
  is = λ old change reply done. done;
  fits = λ old kept well accepted. apply-fit old application kept well (no_row _ accepted);
  again = λ old well first passes. absurd (not_again nat_cmp_total old.applications application.child application
      (passed (apply.tests (after old (apply.change_of application)) application) (no_row _ passes) refusal.AlreadyApplied));
  no_draw = λ old. refl;
  no_import = λ old. refl;
})

pub raise_pan_shows : (school : List ℕ) (pan : ℕ) → Shows (RaisePan school pan)
unfolding raise_pan.change_of
raise_pan_shows school pan = shows_only (RaisePan school pan) (λ old. raise_pan.change_of old school pan) (record {
  done = λ old. (refl, refl);
  is = λ old change reply done. done;
  fits = λ old kept well accepted. raise_pan-fit old school pan well (no_row _ accepted);
  again = λ old well first passes. raise_pan-again old school pan well (no_row _ first);
  no_draw = λ old. refl;
  no_import = λ old. refl;
})
