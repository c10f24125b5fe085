-- What `init` finds and leaves where the files hold no register.
use Rattle.std.proofs.Common.{◌≡◌, ◌⊎◌, ◌∙◌, inl, inr, refl, sym, subst, ℕ, List, Result, Ok, Err}
use Rattle.std.proofs.Math.Logic.{∥∥₁_elim, ∥∥₁_map}
use Rattle.std.specs.Borrow.{Bor}
use Rattle.sqlite_disk.specs.declared.Disk.{Ghosts}
use Rattle.sqlite_disk.specs.declared.Files.{Files}
use Rattle.sqlite_wal.specs.Recovery.{Image}
use Rattle.sqlite_wal.proofs.LogLemmas.{SeenMayStay}
use Rattle.sqlite_trees.specs.Objects.{catalog_tree}
use Rattle.sqlite_store.specs.declared.store.FileStore.{FileStore}
use Rattle.sqlite_store.specs.FileStore.{recovers}
use Rattle.sqlite_store.specs.Laws.{settled_at, stays_at}
use Rattle.sqlite_catalog.proofs.ReadLemmas.{lists_once}
use Rattle.sqlite.specs.declared.error.Error.{Error}
use Rattle.sqlite.specs.declared.file.Leftover.TheVariants as leftover
use Rattle.sqlite.specs.Files.{AreFoundIn, HoldsDatabase, IsEmpty, IsNothing, file_state}
use Rattle.sqlite.specs.Held.{Held}
use Rattle.sqlite.specs.State.{HasCleanDisk}
use Rattle.sqlite.specs.Tree.{Trees}
use Rattle.sqlite.proofs.ListingLemmas.{empty_is_sound}
use Rattle.sqlite.specs.Schema.{Schema}
use Rattle.sqlite_catalog.specs.Listing.{IsSound}
use Rattle.adm_types.specs.Seasons.{SeasonFacts}
use Rattle.adm_types.specs.declared.seasons.Phase.{Phase}
use Rattle.adm_types.specs.declared.seasons.Size.{Size}
use Rattle.adm_register.specs.State.{only_season}
use Rattle.adm_schema.specs.Schema.{no_schema, schema_of}
use Rattle.adm_schema.specs.declared.version.Version.TheVariants.{First}
use Rattle.adm_store.specs.Migration.{IsMigrated}
use Rattle.adm_store.specs.declared.fault.CreateFault.{CreateFault}
use Rattle.adm_store.specs.declared.fault.CreateFault.TheVariants as create
use Rattle.adm_words.specs.declared.actions.Action.TheVariants as action
use Rattle.adm_desk.specs.Files.{IsFileOf}
use Rattle.adm_host.specs.Creation.{Creates, CreatesAs}
use Rattle.adm_host.specs.Exits.{of_create}
use Rattle.adm_host.specs.Found.{IsFound, LeavesAsFound}
use Rattle.adm_host.specs.declared.connecting.Remainder.{Remainder}
use Rattle.adm_host.specs.declared.connecting.Remainder.TheVariants as remainder
use Rattle.adm_host.specs.declared.ended.Remains.{Remains}
use Rattle.adm_host.specs.declared.ended.Remains.TheVariants.{Closed, Unopened}
use Rattle.adm_host.specs.declared.exit.Exit.{Exit}
use Rattle.adm_host.specs.declared.fault.Fault.{Fault}
use Rattle.adm_host.specs.declared.fault.Fault.TheVariants.{InUse}
use Rattle.adm_program.specs.Arguments.{ActsOrFails, FollowsFrom}
use Rattle.adm_program.specs.Given.{Around}
use Rattle.adm_program_laws.specs.Birth.{HoldsNone, HoldsSeason, InitLeaves, InitAgain}
use Rattle.adm_program_laws.specs.SuccessiveRuns.{MayClose, MayStay, MayRemain}
use Rattle.adm_program_laws.proofs.Nothing.{nothing_is_empty}
use Rattle.adm_program_laws.proofs.Remaining.{clean_before, has_tables, remains, taken_over}

-- a database without objects has no table, index or view
lists_none : (db : Trees) (schema : Schema) → IsEmpty db → IsSound schema db → schema ≡ no_schema
lists_none db schema empty sound = lists_once (db catalog_tree) schema no_schema sound.lists (empty_is_sound db empty.1).lists

-- what an open finds in files that hold none is an empty database
finds_empty : (image : Image) (db : Trees) → HoldsNone image → AreFoundIn image db → ((other : Trees) → HoldsDatabase image other → db ≡ other) → ∥ IsEmpty db ∥₁
finds_empty image db (inl nothing) reads holds = ∣ nothing_is_empty image db nothing reads ∣₁
finds_empty image db (inr held) reads holds = ∥∥₁_map held (λ w. subst IsEmpty (sym (holds w.0 w.1)) w.2)

-- files that hold an empty database hold no register
empty_none : (image : Image) (db : Trees) → HoldsDatabase image db → IsEmpty db → HoldsNone image
empty_none image db holds empty = inr ∣ (db, holds, empty) ∣₁

of_in_use : (cause : CreateFault) → of_create cause ≡ InUse → cause ≡ create.InUse
of_in_use create.InUse e = refl
of_in_use create.Disk e = cc
of_in_use create.Memory e = cc

module _ {D : Type 0} {g : Ghosts D} (seen : SeenMayStay g) where
  module _ (before : Image) (none : HoldsNone before) (found : Held (FileStore D g)) (is_found : IsFound before found) (clean : HasCleanDisk (file_state found)) where
    found_empty : ∥ IsEmpty (file_state found).committed.trees ∥₁
    found_empty = let it = is_found clean in finds_empty before (file_state found).committed.trees none it.1.reads it.1.holds

    -- what a crash could leave of them then is empty
    left_empty : (db : Trees) → recovers found.store db → ∥ IsEmpty db ∥₁
    left_empty db may =
        let it = is_found clean in
        ∥∥₁_map found_empty (λ empty. subst IsEmpty (sym (settled_at found.store seen db it.0 may)) empty)

    -- there is no table
    no_tables : ∥ found.schema ≡ no_schema ∥₁
    no_tables =
        let it = is_found clean in
        ∥∥₁_map found_empty (λ empty. it.3 ∙ lists_none (file_state found).committed.trees (file_state found).committed.schema empty it.2)

    -- and so no register of the first version
    not_migrated : (db : Trees) → IsMigrated (file_state found) db → ⊥
    not_migrated db it =
        let open_one = (is_found clean).0 in
        let was = it.was (file_state found).committed.trees (stays_at found.store seen open_one) in
        ∥∥₁_elim found_empty (λ x y. absurd x) (λ empty. has_tables First (lists_none (file_state found).committed.trees (schema_of First) empty was.sound))

  -- ---- what `init` leaves

  created_or_none : (before after : Image) (season : SeasonFacts) (e : Result Exit Fault) (closed : Result (Files D) (Error × FileStore D g)) → HoldsNone before → Creates before season e closed
      → MayClose closed after → ∥ IsFileOf (only_season season) after ⊎ HoldsNone after ∥₁
  created_or_none before after season e closed none it may =
      let last = it.creates.left in
      let ends = remains seen last closed it.creates.closes after may in
      let start = it.creates.clean ends.0 in
      ∥∥₁_elim ends.1 squash₁ (λ w. by w e it.creates.made start ends.0)
    where
      by : (w : (db : Trees) × recovers it.creates.left.store db × HoldsDatabase after db) (e : Result Exit Fault) → CreatesAs season it.found it.creates.left e → HasCleanDisk (file_state it.found)
          → HasCleanDisk (file_state it.creates.left) → ∥ IsFileOf (only_season season) after ⊎ HoldsNone after ∥₁
      by w (Ok x) made start clean = ∣ inl ∣ (w.0, w.2, record { version = _; stands = made.2 clean w.0 w.1 }) ∣₁ ∣₁
      by w (Err f) made start clean = elim (made.2 clean w.0 w.1) [
        | inl was ↦ ∥∥₁_map (left_empty before none it.found it.is_found start w.0 was) (λ empty. inr (empty_none after w.0 w.2 empty))
        | inr new ↦ ∣ inl ∣ (w.0, w.2, record { version = _; stands = new.1 }) ∣₁ ∣₁
      ]

  -- an open that failed leaves no register where there was none
  none_stays : (before after : Image) (remained : Remainder D g) → HoldsNone before → LeavesAsFound before remained → MayStay before remained after → ∥ HoldsNone after ∥₁
  none_stays before after (remainder.Untouched it) none found same = ∣ subst HoldsNone (sym same) none ∣₁
  none_stays before after (remainder.Files (leftover.Files now)) none found may = ∣ subst HoldsNone (sym (found.1.only after (found.2 may.0 after may.1))) none ∣₁
  none_stays before after (remainder.Files (leftover.Unopened now)) none found may = elim (found.2 may.0) [
    | inl made ↦ elim (made.1 after may.2) [
      | inl was ↦ ∣ subst HoldsNone (sym (found.1.only after was)) none ∣₁
      | inr under_way ↦ ∣ under_way ∣₁
    ]
    | inr other ↦ elim none [
      | inl nothing ↦ absurd (other.0 (subst IsNothing (sym found.1.holds) nothing))
      | inr held ↦ elim may.1 [
        | inl nothing ↦ absurd (other.0 (subst IsNothing (sym found.1.holds) nothing))
        | inr sized ↦ ∥∥₁_map held (λ w. empty_none after w.0 (taken_over before after now found may.0 sized may.2 w.0 w.1) w.2)
      ]
    ]
  ]
  none_stays before after (remainder.Files (leftover.Store store)) none found may =
      let it = found.2 may.0 may.1 may.2 in
      let here = subst (λ (image : Image). AreFoundIn image may.1) found.1.holds it.0 in
      let holds : (other : Trees) → HoldsDatabase before other → may.1 ≡ other =
      λ other is. it.1 other (subst (λ (image : Image). HoldsDatabase image other) (sym found.1.holds) is) in
      ∥∥₁_map (finds_empty before may.1 none here holds) (λ empty. empty_none after may.1 may.3 empty)
  none_stays before after (remainder.Connection c) none found may =
      let start = clean_before (file_state found.0) (file_state c) found.2.clean may.0 in
      elim (found.2.crash may.0 may.1 may.2) [
        | inl was ↦ ∥∥₁_map (left_empty before none found.0 found.1 start may.1 was) (λ empty. empty_none after may.1 may.3 empty)
        | inr migrated ↦ absurd (not_migrated before none found.0 found.1 start may.1 migrated)
      ]

  init_ends : (before after : Image) (file : Bor (List ℕ)) (phase : Phase) (year : ℕ) (days : List ℕ) (size : Size) (around : Around) (status : ℕ) (remained : Remains D g)
      → HoldsNone before → ActsOrFails g before (action.Init file phase year days size) around status remained → MayRemain before remained after
      → ∥ HoldsSeason phase year days size after ⊎ HoldsNone after ∥₁
  init_ends before after file phase year days size around status (Closed closed) none acts may =
      let did = acts.does in
      ∥∥₁_map (created_or_none before after did.2 acts.ended closed none did.7 may) (λ it. elim it [
        | inl is ↦ inl (record { season = did.2; of_phase = did.3; of_year = did.4; holidays = did.5; of_size = did.6; file = is })
        | inr still ↦ inr still
      ])
  init_ends before after file phase year days size around status (Unopened remained) none fails may =
      ∥∥₁_map (none_stays before after remained none fails.left may) (λ still. inr still)

  pub init_leaves_lem : InitLeaves g
  init_leaves_lem before after run file phase year days size none it is =
      let follows = subst (λ read. FollowsFrom g before read run.around run.end) is it.follows in
      init_ends before after file phase year days size run.around run.end.status run.end.remains none follows it.left

  pub init_again_lem : InitAgain g
  init_again_lem before after season e closed none it may = by e it.creates.made
    where
      start : HasCleanDisk (file_state it.found)
      start = it.creates.clean (remains seen it.creates.left closed it.creates.closes after may).0

      by : (e : Result Exit Fault) → CreatesAs season it.found it.creates.left e → e ≡ Err InUse → ⊥
      by (Ok x) made is = cc
      by (Err f) made is =
          let f_is : f ≡ InUse = cc in
          let used = (made.3 (of_in_use made.0 (sym made.1 ∙ f_is))).0 in
          ∥∥₁_elim (no_tables before none it.found it.is_found start) (λ x y. absurd x) (λ unused. used unused)
