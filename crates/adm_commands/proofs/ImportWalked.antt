-- What results from the first rows of an import, gone through with those that were new so far.
use Rattle.std.proofs.Common.{◌≡◌, ◌∙◌, ap, sym, subst, refl, Bool, true, false, ℕ, ◌+◌, List, [], ◌∷◌, ◌++◌, length, map, Option, Some, None, Ok, Err, arith}
use Rattle.std.specs.Prelude.{not, Result, OnOk, IfErr, if◌then◌else◌}
use Rattle.std.specs.Ordering.{nat_cmp}
use Rattle.std.specs.BTreeMap.{insert_entry}
use Rattle.std.specs.Map.{keys_of, values_of}
use Rattle.std.specs.Cmp.{nat_cmp_total}
use Rattle.std.specs.FinMap.{contains_key}
use Rattle.std.specs.List.Sorted.{IsPermutation}
use Rattle.std.proofs.lemmas.List.Sorted.{IsPermutation-refl, IsPermutation-push_more, length_permutation}
use Rattle.std.proofs.lemmas.Map.Entries.{length-values_of}
use Rattle.std.proofs.lemmas.Bool.{not-true}
use Rattle.adm_table.specs.TableRows.{row_at}
use Rattle.adm_table.proofs.OwnKeys.{none_of, new_entry, own_keys}
use Rattle.adm_table.proofs.Runs.{lookup-inserted}
use Rattle.adm_types.specs.declared.rows.Row.{Row as ImportRow}
use Rattle.adm_types.specs.declared.commands.Refusal.{Refusal}
use Rattle.adm_types.specs.declared.commands.Refusal.TheVariants.{RowDiffers}
use Rattle.adm_register.specs.State.{State, application_of}
use Rattle.adm_register.specs.Change.{after, change_of_child}
use Rattle.adm_commands.specs.Tests.{first_failing}
use Rattle.adm_commands.specs.Beside.{IsBeside}
use Rattle.adm_commands.specs.Commands.AddChild as add_child
use Rattle.adm_commands.specs.Commands.Apply as apply
use Rattle.adm_commands.specs.Commands.Import.{is_known, row_tests, refusal_of_row, with_row, refused_from, or_later, new_rows}
use Rattle.adm_commands.specs.WhyNot.{Explains}
use Rattle.adm_commands.specs.declared.not_done.NotDone.{NotDone}
use Rattle.adm_commands.specs.declared.not_done.NotDone.TheVariants.{Refused, Memory}
use Rattle.adm_commands.proofs.ImportSeen.{Seen, seen_none, known_seen, new_seen, refused_here, seen_all}
use Rattle.adm_commands.proofs.ImportBeside.{beside_none, one_beside, first_false}

-- a row's number
abbrev pub number_of : ImportRow → ℕ
number_of row = row.child.no

-- the register that the next row sees, and the new rows in their order
pub record IsWalked (old : State) (rows : List ImportRow) (added : List (ℕ × ImportRow)) (number : ℕ) (rest : List ImportRow) : Type 0 where
  pub seen : State
  pub new : List ImportRow
  pub so_far : Seen old rows seen number rest new
  pub beside : IsBeside old added seen
  pub permuted : IsPermutation new (values_of added)
  pub keyed : map number_of (values_of added) ≡ keys_of added

pub walked_none : (old : State) (rows : List ImportRow) → IsWalked old rows [] 1 rows
walked_none old rows = record { seen = old; new = []; so_far = seen_none old rows; beside = beside_none old; permuted = IsPermutation-refl []; keyed = refl }

module _ (old : State) (rows : List ImportRow) (added : List (ℕ × ImportRow)) (number : ℕ) (row : ImportRow) (rest : List ImportRow) (w : IsWalked old rows added number (row ∷ rest)) (passes : refusal_of_row w.seen row ≡ None) where
  -- a known row changes nothing
  pub walked_known : is_known w.seen row ≡ true → IsWalked old rows added (number + 1) rest
  walked_known known = record {
    seen = w.seen;
    new = w.new;
    so_far = known_seen old rows w.seen number row rest w.new w.so_far passes known;
    beside = w.beside;
    permuted = w.permuted;
    keyed = w.keyed;
  }

  -- any other is of a child that is not there
  new_child : is_known w.seen row ≡ false → contains_key w.seen.children row.child.no ≡ false
  unfolding refusal_of_row row_tests
  new_child unknown =
      let tested : first_failing (row_tests w.seen row) ≡ None = sym (ap (λ b. if b then None else first_failing (row_tests w.seen row)) unknown) ∙ passes in
      let of_child : List (Bool × Refusal) = add_child.tests w.seen row.child in
      let of_application : List (Bool × Refusal) = apply.tests (after w.seen (change_of_child row.child)) (application_of row) in
      not-true _ (first_passes (not (contains_key w.seen.children row.child.no)) RowDiffers (of_child ++ of_application) tested)
    where
      first_passes : (b : Bool) (reason : Refusal) (tests : List (Bool × Refusal)) → first_failing ((b, reason) ∷ tests) ≡ None → b ≡ true
      first_passes true reason tests none = refl
      first_passes false reason tests none = cc

  -- and joins the new rows
  pub walked_new : is_known w.seen row ≡ false → IsWalked old rows (insert_entry nat_cmp added row.child.no row) (number + 1) rest
  walked_new unknown =
      let new = new_child unknown in
      let absent : row_at nat_cmp added row.child.no ≡ None = none_of _ (first_false _ _ (sym (w.beside.children row.child.no) ∙ new)) in
      let more = insert_entry nat_cmp added row.child.no row in
      let joins : IsPermutation (row ∷ values_of added) (values_of more) = new_entry nat_cmp added row.child.no row absent in
      let joined = length_permutation (row ∷ values_of added) (values_of more) joins in
      let were = length-values_of added in
      let are = length-values_of more in
      let longer : length more ≡ length added + 1 = omega (arith, joined, were, are) in
      record {
        seen = with_row w.seen row;
        new = w.new ++ row ∷ [];
        so_far = new_seen old rows w.seen number row rest w.new w.so_far passes unknown;
        beside = one_beside old added w.seen w.beside row more (lookup-inserted nat_cmp_total added row.child.no row) new longer;
        permuted = IsPermutation-push_more w.new (values_of added) (values_of more) row w.permuted joins;
        keyed = own_keys nat_cmp number_of added row absent w.keyed;
      }

-- at the end none was refused, and the new rows are there
pub walked_all : (old : State) (rows : List ImportRow) (added : List (ℕ × ImportRow)) (number : ℕ) → IsWalked old rows added number []
    → (None ≡ refused_from old 1 rows) × IsPermutation (new_rows old rows) (values_of added)
walked_all old rows added number w =
    let all = seen_all old rows w.seen number w.new w.so_far in (all.0, subst (λ new. IsPermutation new (values_of added)) all.1 w.permuted)

-- so far no row was refused; or the first that is refused, or the end of memory, is what ended it
abbrev pub IsWalkedTo : Result (Unit {0}) NotDone → State → List ImportRow → List (ℕ × ImportRow) → ℕ → List ImportRow → Type 0
IsWalkedTo (Ok _) old rows added number rest = IsWalked old rows added number rest
IsWalkedTo (Err why) old rows added number rest = Explains (refused_from old 1 rows) why

module _ (old : State) (rows : List ImportRow) (added : List (ℕ × ImportRow)) (number : ℕ) (row : ImportRow) (rest : List ImportRow) (w : IsWalked old rows added number (row ∷ rest)) where
  -- a row that is not refused
  pub walked_on : (more : List (ℕ × ImportRow)) → refusal_of_row w.seen row ≡ None
      → more ≡ (if is_known w.seen row then added else insert_entry nat_cmp added row.child.no row) → IsWalked old rows more (number + 1) rest
  walked_on more passes joins = go (is_known w.seen row) refl joins
    where
      go : (known : Bool) → is_known w.seen row ≡ known → more ≡ (if known then added else insert_entry nat_cmp added row.child.no row) → IsWalked old rows more (number + 1) rest
      go true known same = subst (λ entries. IsWalked old rows entries (number + 1) rest) (sym same) (walked_known old rows added number row rest w passes known)
      go false unknown same = subst (λ entries. IsWalked old rows entries (number + 1) rest) (sym same) (walked_new old rows added number row rest w passes unknown)

  -- or the first that is
  pub walked_up : (why : NotDone) → Explains (or_later number (refusal_of_row w.seen row) None) why → Explains (refused_from old 1 rows) why
  walked_up Memory explains = tt
  walked_up (Refused refusal place) explains = go (refusal_of_row w.seen row) refl explains
    where
      go : (o : Option Refusal) → refusal_of_row w.seen row ≡ o → or_later number o None ≡ Some (record { refusal = refusal; row = place }) → refused_from old 1 rows ≡ Some (record { refusal = refusal; row = place })
      go None passes none = cc
      go (Some first) refused same = refused_here old rows w.seen number row rest w.new w.so_far first refused ∙ same

  -- so the row is taken
  pub walked_next : (more : List (ℕ × ImportRow)) (result : Result (Unit {0}) NotDone)
      → OnOk result ((seen : State) → IsBeside old added seen → refusal_of_row seen row ≡ None)
      → OnOk result ((seen : State) → IsBeside old added seen → more ≡ (if is_known seen row then added else insert_entry nat_cmp added row.child.no row))
      → IfErr result (λ why. (seen : State) → IsBeside old added seen → Explains (or_later number (refusal_of_row seen row) None) why)
      → IsWalkedTo result old rows more (number + 1) rest
  walked_next more (Ok _) passes joins refused = walked_on more (passes w.seen w.beside) (joins w.seen w.beside)
  walked_next more (Err why) passes joins refused = walked_up why (refused w.seen w.beside)
