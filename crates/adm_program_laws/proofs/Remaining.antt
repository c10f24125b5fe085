-- What a run leaves of two files that held a register, from what it did up to the close of its connection.
use Rattle.std.proofs.Common.{◌≡◌, ◌≢◌, ◌≤◌, ◌∙◌, ℕ, IsTrue, inl, inr, refl, ap, sym, subst, arith, Option, Some, None, List, [], ◌∷◌, ◌++◌, length, Result, Ok, Err}
use Rattle.std.proofs.Math.Logic.{∥∥₁_elim, ∥∥₁_map}
use Rattle.sqlite_disk.specs.declared.Disk.{Ghosts}
use Rattle.sqlite_disk.specs.declared.Files.{Files}
use Rattle.sqlite_wal.specs.PageSize.{IsPageSize}
use Rattle.sqlite_wal.specs.Recovery.{Image}
use Rattle.sqlite_wal.proofs.LogLemmas.{SeenMayStay}
use Rattle.sqlite_pool.specs.Stored.{stored_size, StandsAs}
use Rattle.sqlite_trees.specs.View.{doubt}
use Rattle.sqlite_store.specs.declared.store.FileStore.{FileStore}
use Rattle.sqlite_store.specs.FileStore.{recovers}
use Rattle.sqlite_store.specs.Unopened.{state_of}
use Rattle.sqlite_store.specs.declared.store.open.Unopened.{Unopened as NotOpened}
use Rattle.sqlite_store.specs.Laws.{settled_at, stays_at}
use Rattle.sqlite.specs.declared.error.Error.{Error}
use Rattle.sqlite.specs.declared.file.Leftover.TheVariants as leftover
use Rattle.sqlite.specs.Files.{HoldsDatabase, IsNothing, file_state}
use Rattle.sqlite.specs.Opening.{HoldsIn}
use Rattle.sqlite.specs.Held.{Held}
use Rattle.sqlite.specs.Start.{FindsIn}
use Rattle.sqlite.specs.State.{State, HasCleanDisk}
use Rattle.sqlite.specs.Tree.{Trees}
use Rattle.sqlite.proofs.FileLemmas.{is_something}
use Rattle.sqlite.proofs.Theorems.{opens_again}
use Rattle.adm_types.specs.Seasons.{SeasonFacts}
use Rattle.adm_types.specs.declared.commands.Command.{Command}
use Rattle.adm_register.specs.State.{only_season, State as Register}
use Rattle.adm_commands.specs.Imports.{Reaches}
use Rattle.adm_rows.specs.Faults.{IsNoRegister}
use Rattle.adm_rows.specs.Represents.{Represents, OneRegister}
use Rattle.adm_schema.specs.Schema.{no_schema, schema_of}
use Rattle.adm_schema.specs.declared.version.Version.{Version}
use Rattle.adm_schema.specs.declared.version.Version.TheVariants.{First, Second}
use Rattle.sqlite.specs.Effect.{Database, IsDatabase}
use Rattle.sqlite.specs.Schema.{Schema}
use Rattle.sqlite_catalog.proofs.ReadLemmas.{lists_once}
use Rattle.sqlite_trees.specs.Objects.{catalog_tree}
use Rattle.adm_desk.specs.Acknowledged.{KeepsAcknowledged, acknowledged, in_flight, FindsAgain}
use Rattle.adm_desk.specs.Files.{IsFileOf}
use Rattle.adm_desk.specs.DeskState.{DeskState, WasClean}
use Rattle.adm_desk.specs.declared.answer.Answer.{Answer}
use Rattle.adm_desk.proofs.CrashLemmas.{each_again, opens_one, is_not_none, still_represents}
use Rattle.adm_host.specs.Found.{Closes, LeavesAsFound}
use Rattle.adm_files.specs.Opened.{IsNotOpened, IsOpened}
use Rattle.adm_host.specs.Creation.{Creates, CreatesAs}
use Rattle.adm_host.specs.declared.connecting.Remainder.{Remainder}
use Rattle.adm_host.specs.declared.connecting.Remainder.TheVariants as remainder
use Rattle.adm_host.specs.declared.ended.Remains.{Remains}
use Rattle.adm_host.specs.declared.ended.Remains.TheVariants.{Closed, Unopened}
use Rattle.adm_host.specs.declared.exit.Exit.{Exit}
use Rattle.adm_host.specs.declared.exit.Exit.TheVariants as exit
use Rattle.adm_host.specs.declared.fault.Fault.{Fault}
use Rattle.adm_program_laws.specs.Effects.{IsEffect}
use Rattle.adm_program_laws.specs.SuccessiveRuns.{HavePagesOf, MayClose, MayStay, MayRemain}

-- commands after commands
pub reaches_more : (xs ys : List Command) (a b c : Register) → Reaches a xs b → Reaches b ys c → Reaches a (xs ++ ys) c
reaches_more [] ys a b c first more = subst (λ (r : Register). Reaches r ys c) first more
reaches_more (x ∷ xs) ys a b c first more = (first.0, first.1, reaches_more xs ys first.0 b c first.2 more)

-- the register that is found is there by the commands that were acknowledged, and after them the one in flight or none
pub effect : (old kept found : Register) (answered : List (Command × Answer)) → Reaches old (acknowledged answered) kept → FindsAgain kept (in_flight answered) found
    → (done : List Command) × IsEffect answered done × Reaches old done found
effect old kept found answered run finds = by_work (in_flight answered) refl finds
  where
    by_work : (work : Option Command) → in_flight answered ≡ work → FindsAgain kept work found → (done : List Command) × IsEffect answered done × Reaches old done found
    by_work None none same = (acknowledged answered, inl refl, subst (λ (r : Register). Reaches old (acknowledged answered) r) (sym same) run)
    by_work (Some command) some again = elim again [
      | inl same ↦ (acknowledged answered, inl refl, subst (λ (r : Register). Reaches old (acknowledged answered) r) (sym same) run)
      | inr step ↦ (acknowledged answered ++ command ∷ [], inr (command, some, refl), reaches_more (acknowledged answered) (command ∷ []) old kept found run (found, step, refl))
    ]

-- a version's schema has tables
pub has_tables : (v : Version) → schema_of v ≢ no_schema
has_tables First = λ same. (let none : length (schema_of First).tables ≡ 0 = ap (λ (s : Schema). length s.tables) same in cc)
has_tables Second = λ same. (let none : length (schema_of Second).tables ≡ 0 = ap (λ (s : Schema). length s.tables) same in cc)

-- so a file of a register has
has_table : (schema : Schema) (db : Database) → IsDatabase db → schema ≡ db.schema → (r : Register) → Represents db.trees r → schema ≢ no_schema
has_table schema db sound listed r is = λ none.
    let same : db.schema ≡ schema_of is.version = lists_once (db.trees catalog_tree) db.schema (schema_of is.version) sound.lists is.stands.sound.lists in
    has_tables is.version (sym same ∙ sym listed ∙ none)

-- where there was a table, `init` makes none
uncreated : {D : Type 0} {g : Ghosts D} (season : SeasonFacts) (found left : Held (FileStore D g)) (e : Result Exit Fault) → CreatesAs season found left e → found.schema ≢ no_schema
    → HasCleanDisk (file_state left) → (db : Trees) → recovers left.store db → recovers found.store db
uncreated season found left (Ok x) made used clean db may = absurd (used made.1)
uncreated season found left (Err f) made used clean db may = elim (made.2 clean db may) [ inl was ↦ was | inr new ↦ absurd (used new.0) ]

pub clean_before : (old new : State) → doubt old.is_clean ≤ doubt new.is_clean → HasCleanDisk new → HasCleanDisk old
clean_before old new falls clean = omega arith

-- what is in pages of this size stays, where the files after it are as a log that was taken over by that size leaves them
kept_by_size : (size : ℕ) (before after : Image) (db : Trees) → HavePagesOf size before → StandsAs size before after → HoldsDatabase before db → HoldsDatabase after db
kept_by_size size before after db sized stands held =
    let here = subst (λ (n : ℕ). IsPageSize (stored_size n) × HoldsIn n before db) (sized db held) (held.1, held.2) in
    let in_it = here.1 in (
      size,
      here.0,
      record { pages = in_it.pages; wanted = in_it.wanted; schema = in_it.schema; found = stands.1 in_it.pages in_it.found; ours = in_it.ours; reads = in_it.reads; sound = in_it.sound },
    )

module _ {D : Type 0} {g : Ghosts D} where
  -- an open that failed while it took over the log of a database leaves that database
  pub taken_over : (before after : Image) (now : NotOpened D g) → LeavesAsFound {g = g} before (remainder.Files (leftover.Unopened now)) → IsTrue (state_of now).is_clean
      → HavePagesOf (state_of now).page_size before → (state_of now).may_leave after → (db : Trees) → HoldsDatabase before db → HoldsDatabase after db
  taken_over before after now found clean sized may db held = elim (found.2 clean) [
    | inl made ↦ absurd (is_something before db held (subst IsNothing found.1.holds made.0))
    | inr kept ↦ elim (kept.4 after may).same [
      | inl was ↦ subst (λ (image : Image). HoldsDatabase image db) (sym (found.1.only after was)) held
      | inr stands ↦
          kept_by_size (state_of now).page_size before after db sized (subst (λ (image : Image). StandsAs (state_of now).page_size image after) found.1.holds stands) held
    ]
  ]

  -- Of files that held a register: after the run they hold the one to which these commands lead, which took effect.
  abbrev pub Leaves : Image → Remains D g → List (Command × Answer) → Type 0
  Leaves before remained answered =
      (old : Register) → IsFileOf old before → (after : Image) → MayRemain before remained after
      → ∥ ((done : List Command) × (found : Register) × IsEffect answered done × Reaches old done found × IsFileOf found after) ∥₁

module _ {D : Type 0} {g : Ghosts D} (seen : SeenMayStay g) where
  -- what remains of a connection after its close holds one of the databases that an open after a crash could find before it
  pub remains : (conn : Held (FileStore D g)) (closed : Result (Files D) (Error × FileStore D g)) → Closes conn closed → (after : Image) → MayClose closed after
      → HasCleanDisk (file_state conn) × ∥ ((db : Trees) × recovers conn.store db × HoldsDatabase after db) ∥₁
  remains conn (Ok files) closes after left =
      let copied = closes left.0 in
      (copied.was_clean, ∥∥₁_map (copied.left after left.1).both (λ holds. ((file_state conn).committed.trees, stays_at conn.store seen copied.was_open, holds)))
  remains conn (Err (error, store)) closes after left = (
    omega (arith, closes.quiet.clean, left.0),
    elim left.1 [
      | inl may ↦ ∥∥₁_map (opens_again store may.0 (closes.sound left.0) after may.1) (λ w. (w.0, closes.quiet.outcomes w.0 w.1, w.2))
      | inr it ↦ ∣ (it.0, closes.quiet.outcomes it.0 it.1, it.2) ∣₁
    ],
  )

  -- so files of the register, where each of those represents it
  pub still_file : (r : Register) (conn : Held (FileStore D g)) (closed : Result (Files D) (Error × FileStore D g)) → Closes conn closed → (after : Image) → MayClose closed after
      → (HasCleanDisk (file_state conn) → (db : Trees) → recovers conn.store db → ∥ Represents db r ∥₁) → IsFileOf r after
  still_file r conn closed closes after left each =
      let it = remains conn closed closes after left in
      ∥∥₁_elim it.1 squash₁ (λ w. ∥∥₁_map (each it.0 w.0 w.1) (λ is. (w.0, w.2, is)))

  -- `init` that is done
  pub creates_file : (before after : Image) (season : SeasonFacts) (closed : Result (Files D) (Error × FileStore D g)) → Creates before season (Ok exit.Done) closed → MayClose closed after
      → IsFileOf (only_season season) after
  creates_file before after season closed it left =
      let created = it.creates in
      still_file (only_season season) created.left closed created.closes after left (λ clean db may. ∣ record { version = _; stands = created.made.2 clean db may } ∣₁)

  module _ (one : OneRegister) (before : Image) (old : Register) (file : IsFileOf old before) where
    -- what an open finds represents the register of the files
    stands : (found : Held (FileStore D g)) → FindsIn before (file_state found) → ∥ Represents (file_state found).committed.trees old ∥₁
    stands found finds = ∥∥₁_map file (λ w. subst (λ (t : Trees). Represents t old) (sym (finds.holds w.0 w.1)) w.2)

    pub same_register : (desk : DeskState (Held (FileStore D g))) → IsOpened before desk → HasCleanDisk (file_state desk.conn) → desk.register ≡ old
    same_register desk it clean =
        let was = it.is_found (clean_before (file_state it.found) (file_state desk.conn) it.kept.clean clean) in
        opens_one {g = g} seen one old it.found was.0 (stands it.found was.1) desk.conn it.kept clean desk.register it.leaves

    pub never_none : (e : Result Exit Fault) (closed : Result (Files D) (Error × FileStore D g)) (it : IsNotOpened before e closed) → HasCleanDisk (file_state it.left) → IsNoRegister it.cause → ⊥
    never_none e closed it clean bad =
        let was = it.is_found (clean_before (file_state it.found) (file_state it.left) it.kept.clean clean) in
        is_not_none {g = g} seen one old it.found was.0 (stands it.found was.1) it.left it.kept clean (it.none bad)

    -- the register was not opened
    unopened_file : (e : Result Exit Fault) (closed : Result (Files D) (Error × FileStore D g)) → IsNotOpened before e closed → (after : Image) → MayClose closed after → IsFileOf old after
    unopened_file e closed it after left =
        still_file old it.left closed it.closes after left (λ clean.
        let was = it.is_found (clean_before (file_state it.found) (file_state it.left) it.kept.clean clean) in
        still_represents {g = g} seen one old it.found was.0 (stands it.found was.1) it.left it.kept clean it.left.store (λ db may. may))

  -- ---- what the run leaves

  -- no command took effect
  nothing : (before : Image) (remained : Remains D g) → ((old : Register) → IsFileOf old before → (after : Image) → MayRemain before remained after → IsFileOf old after)
      → Leaves {g = g} before remained []
  nothing before remained keeps old file after may = ∣ ([], old, inl refl, refl, keeps old file after may) ∣₁

  pub not_opened : OneRegister → (before : Image) (e : Result Exit Fault) (closed : Result (Files D) (Error × FileStore D g)) → IsNotOpened before e closed → Leaves {g = g} before (Closed closed) []
  not_opened one before e closed it = nothing before (Closed closed) (λ old file after may. unopened_file one before old file e closed it after may)

  -- the run failed before it began, so the files are as an open that fails leaves them
  stays_file : OneRegister → (before : Image) (remained : Remainder D g) → LeavesAsFound before remained → (old : Register) → IsFileOf old before → (after : Image) → MayStay before remained after
      → IsFileOf old after
  stays_file one before (remainder.Untouched it) found old file after same = subst (IsFileOf old) (sym same) file
  stays_file one before (remainder.Files (leftover.Files now)) found old file after may = subst (IsFileOf old) (sym (found.1.only after (found.2 may.0 after may.1))) file
  stays_file one before (remainder.Files (leftover.Unopened now)) found old file after may = elim may.1 [
    | inl nothing ↦ ∥∥₁_map file (λ w. absurd (is_something before w.0 w.1 nothing))
    | inr sized ↦ ∥∥₁_map file (λ w. (w.0, taken_over before after now found may.0 sized may.2 w.0 w.1, w.2))
  ]
  stays_file one before (remainder.Files (leftover.Store store)) found old file after may =
      ∥∥₁_map file (λ w.
      let holds = subst (λ (image : Image). HoldsDatabase image w.0) (sym found.1.holds) w.1 in
      let same = (found.2 may.0 may.1 may.2).1 w.0 holds in
      (may.1, may.3, subst (λ (t : Trees). Represents t old) (sym same) w.2))
  stays_file one before (remainder.Connection c) found old file after may =
      let was = found.1 (clean_before (file_state found.0) (file_state c) found.2.clean may.0) in
      let is = still_represents {g = g} seen one old found.0 was.0 (stands one before old file found.0 was.1) c found.2 may.0 c.store (λ db it. it) may.1 may.2 in
      ∥∥₁_map is (λ it. (may.1, may.3, it))

  pub not_begun : OneRegister → (before : Image) (remained : Remainder D g) → LeavesAsFound before remained → Leaves {g = g} before (Unopened remained) []
  not_begun one before remained found = nothing before (Unopened remained) (λ old file after may. stays_file one before remained found old file after may)

  -- a desk kept what it acknowledged
  pub desk_kept : OneRegister → (before : Image) (desk last : DeskState (Held (FileStore D g))) (answered : List (Command × Answer)) (closed : Result (Files D) (Error × FileStore D g))
      → IsOpened before desk → WasClean (file_state desk.conn) (file_state last.conn) → KeepsAcknowledged file_state desk last answered → Closes last.conn closed
      → Leaves {g = g} before (Closed closed) answered
  desk_kept one before desk last answered closed opened was kept closes old file after left =
      let it = remains last.conn closed closes after left in
      let same = same_register one before old file desk opened (was it.0) in
      let run = subst (λ (r : Register). Reaches r (acknowledged answered) last.register) same kept.run in
      ∥∥₁_map it.1 (λ w.
      let again = each_again last.register (in_flight answered) (file_state last.conn) kept.leaves it.0 w.0 w.1 in
      let more = effect old last.register again.0 answered run again.1 in
      (more.0, again.0, more.1, more.2, ∣ (w.0, w.2, record { version = _; stands = again.2 }) ∣₁))

  -- no register was created
  pub not_created : OneRegister → (before : Image) (season : SeasonFacts) (e : Result Exit Fault) (closed : Result (Files D) (Error × FileStore D g)) (it : Creates before season e closed)
      → Leaves {g = g} before (Closed closed) []
  not_created one before season e closed it = nothing before (Closed closed) (λ old file after left.
      still_file old it.creates.left closed it.creates.closes after left (λ clean db may.
      let was = it.is_found (it.creates.clean clean) in
      ∥∥₁_map (stands one before old file it.found was.1) (λ is.
      let used = has_table it.found.schema (file_state it.found).committed was.2 was.3 old is in
      let same = settled_at it.found.store seen db was.0 (uncreated season it.found it.creates.left e it.creates.made used clean db may) in
      subst (λ (t : Trees). Represents t old) (sym same) is)))
