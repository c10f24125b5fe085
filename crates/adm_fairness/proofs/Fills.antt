-- A fill offers its place to a child of position 1, and to no other.
use Rattle.std.proofs.Common.{◌≡◌, ◌∙◌, ap, sym, cond, true, ℕ, List, length, Some, None, inl, inr}
use Rattle.std.specs.Prelude.{nat_eq, ◌⊎◌}
use Rattle.std.specs.declared.cmp.Ordering.{Ordering}
use Rattle.std.specs.Ordering.{eq_by_cmp}
use Rattle.std.specs.Cmp.{nat_cmp_total, unsigned_Decides, IsTotalOrder}
use Rattle.std.specs.FinMap.{FinMap, get, insert, get-insert, IsAntisymmetric, nat_cmp-IsAntisymmetric}
use Rattle.std.proofs.lemmas.Bool.{cases_Bool, false≢true}
use Rattle.adm_lists.proofs.Orders.{same_key}
use Rattle.adm_types.specs.declared.rows.School.{School}
use Rattle.adm_types.specs.declared.rows.PlaceRow.{PlaceRow}
use Rattle.adm_types.specs.declared.rows.PlaceState.TheVariants.{Offered}
use Rattle.adm_types.specs.declared.commands.Command.TheVariants.{Fill}
use Rattle.adm_types.specs.declared.commands.Refusal.TheVariants as refusal
use Rattle.adm_match.specs.Market.{Code}
use Rattle.adm_waiting.specs.Waiting.{entry_of, first_by_lot}
use Rattle.adm_register.specs.State.{State}
use Rattle.adm_register.specs.Change.{after}
use Rattle.adm_register.specs.Waits.{is_waiting, waiting_at}
use Rattle.adm_register.proofs.WaitLemmas.{waiter_is}
use Rattle.adm_commands.specs.Commands.Fill as fill
use Rattle.adm_commands.specs.Tests.{first_failing}
use Rattle.adm_commands.specs.Steps.{Accepts}
use Rattle.adm_commands.proofs.Passed.{passed}
use Rattle.adm_commands.proofs.Shows.{no_row}
use Rattle.adm_commands.proofs.PutAgain.{get-insert_same}
use Rattle.adm_fairness.specs.Code.{FillTakesTheFirst}
use Rattle.adm_fairness.proofs.Waiters.{IsFirst, first_is, waiter_waits, standing_is, position_one}

-- ---- one row written

module _ {K V : Type 0} {R : K → K → Ordering} (total : IsTotalOrder R) (same : IsAntisymmetric R) where
  -- what another key has stays
  pub other_stays : (rows : FinMap R V) (key : K) (row : V) (q : K) → (q ≡ key → ⊥) → get (insert rows key row) q ≡ get rows q
  other_stays rows key row q apart = elim (cases_Bool (eq_by_cmp R q key)) [
    | inl tie ↦ absurd (apart (same_key same q key tie))
    | inr miss ↦ get-insert total rows key row q ∙ ap (λ b. cond b (Some row) (get rows q)) miss
  ]

-- two numbers are the same or not
pub same_or_other : (a b : ℕ) → (a ≡ b) ⊎ (a ≡ b → ⊥)
same_or_other a b = elim (cases_Bool (nat_eq a b)) [
  | inl same ↦ inl ((unsigned_Decides a b).0 same)
  | inr differs ↦ inr (λ e. false≢true (sym differs ∙ (unsigned_Decides a b).1 e))
]

-- ---- what a fill is

pub record IsFill (old new : State) (draw : ℕ) (code : Code) (day : ℕ) (numbers : List ℕ) : Type 0 where
  pub school : School
  pub there : get old.schools code ≡ Some school
  pub child : ℕ
  pub chosen : first_by_lot school (waiting_at old code) numbers ≡ Some child
  pub first : IsFirst school (waiting_at old code) child
  pub now : new ≡ after old (fill.change_of old draw code day numbers child)

lots_counted : (old : State) (draw : ℕ) (code : Code) (day : ℕ) (numbers : List ℕ) → first_failing (fill.tests old draw code day numbers) ≡ None → length numbers ≡ length (waiting_at old code)
unfolding fill.tests
lots_counted old draw code day numbers passes = (unsigned_Decides _ _).0 (passed (fill.tests old draw code day numbers) passes refusal.LotCount)

pub is_fill : (old new : State) (draw : ℕ) (code : Code) (day : ℕ) (numbers : List ℕ) → Accepts old (Fill draw code day numbers) new → IsFill old new draw code day numbers
is_fill old new draw code day numbers accepts =
    let effect = accepts.1.1 in
    let result = effect.1 in
    record {
      school = result.0;
      there = result.1;
      child = result.2;
      chosen = result.3;
      first = first_is result.0 (waiting_at old code) numbers result.2 (lots_counted old draw code day numbers (no_row _ accepts.1.0)) result.3;
      now = effect.2 ∙ ap (after old) result.4;
    }

module _ (old new : State) (draw : ℕ) (code : Code) (day : ℕ) (numbers : List ℕ) (it : IsFill old new draw code day numbers) where
  abbrev offer : PlaceRow
  offer = record { child = it.child; place = record { school = code; state = Offered day None } }

  pub filled_places : new.places ≡ insert old.places it.child offer
  unfolding fill.change_of
  filled_places = ap (λ (s : State). s.places) it.now

  pub filled_there : get new.places it.child ≡ Some offer
  filled_there = ap (λ ps. get ps it.child) filled_places ∙ get-insert_same nat_cmp_total old.places it.child offer

  pub filled_other : (other : ℕ) → (other ≡ it.child → ⊥) → get new.places other ≡ get old.places other
  filled_other other apart = ap (λ ps. get ps other) filled_places ∙ other_stays nat_cmp_total nat_cmp-IsAntisymmetric old.places it.child offer other apart

pub fill_takes_the_first_law : FillTakesTheFirst
fill_takes_the_first_law old new draw code day numbers well accepts =
    let it = is_fill old new draw code day numbers accepts in
    let first = it.first in
    let row = waiter_is old well code first.first first.among in
    let known : get old.children it.child ≡ Some first.first = ap (get old.children) (sym first.numbered) ∙ row.there in
    let waiting : is_waiting old it.child code ≡ true = ap (λ n. is_waiting old n code) (sym first.numbered) ∙ waiter_waits old well code first.first first.among in (
      it.child,
      record {
        standing = record { entry = entry_of it.school (waiting_at old code) first.first; many = length (waiting_at old code) };
        stood = standing_is old code it.school it.child first.first it.there known waiting;
        first = position_one old well code it.school it.child first;
        offered = filled_there old new draw code day numbers it;
        others = filled_other old new draw code day numbers it;
      },
    )
