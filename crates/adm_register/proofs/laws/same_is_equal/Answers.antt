use Rattle.adm_register.proofs.SameLemmas.{same_school, same_child, same_application, same_place, same_left, same_draw, same_import}
use Rattle.adm_register.proofs.laws.same_is_equal.Goals as goal

pub returns : goal.returns
returns c = record {
  schools = same_school;
  children = same_child;
  applications = same_application;
  places = same_place;
  left = same_left;
  draws = same_draw;
  imported = same_import;
}
