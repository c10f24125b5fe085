-- What a query of one table answers.
use Rattle.std.proofs.Common.{◌≡◌, ℕ, ◌^◌, true, false, List, [], ◌∷◌, length, map, flat_map, nat_le, None, sym, ap, ◌∙◌, subst₂, ◌⊎◌, inl, inr, subst}
use Rattle.std.specs.Prelude.{is_some}
use Rattle.std.specs.List.Sorted.{IsPermutation}
use Rattle.std.proofs.lemmas.List.Sorted.{IsPermutation-map}
use Rattle.sqlite.specs.declared.types.Value.TheVariants.{Null}
use Rattle.sqlite.specs.Order.{Row}
use Rattle.sqlite.specs.Term.{Term, eval_all}
use Rattle.sqlite.specs.Query.{IsAnswer, Output, output}
use Rattle.sqlite.specs.Program.{overlay}
use Rattle.sqlite.specs.Effect.{Database, Answers}
use Rattle.sqlite_value.specs.declared.keys.Key.{Key}
use Rattle.std.proofs.lemmas.Simd.{map-map}
use Rattle.sqlite_trees.specs.declared.error.StoreError.{StoreError}
use Rattle.sqlite_trees.specs.declared.error.StoreError.TheVariants as stored
use Rattle.sqlite_resolve.specs.declared.error.CompileError.{CompileError}
use Rattle.sqlite.specs.declared.error.Error.{Error}
use Rattle.sqlite.specs.declared.error.Error.TheVariants.{SqlInputError}
use Rattle.sqlite.specs.Clock.{timed}
use Rattle.sqlite.specs.Schema.{Schema}
use Rattle.sqlite.specs.Command.TheVariants.{Select}
use Rattle.sqlite.specs.Listing.{understood, reads_listing, IsSourceOf}
use Rattle.sqlite.specs.Effect.{RefusesToRead, RefusesQuery}
use Rattle.sqlite.specs.State.{State, Fails, IsUnchanged, Shown, FailsToQuery, IsNotRun, IsTooLate, store_error}
use Rattle.sqlite.proofs.Callers.{IsPlain, command_of, reads_as}
use Rattle.adm_schema.specs.Queries.{query_of, program_of, Asks, IsWhole}
use Rattle.adm_schema.proofs.Lists.{map-flat}

-- the columns of every row, in some order
pub answers_all : (tree : ℕ) (project : List Term) (order : List (Term × Key)) (db : Database) (params : Row) (rows : List Row) → nat_le (2 ^ 31) tree ≡ false
    → Answers db (program_of (query_of tree [] project order)) params rows → IsPermutation (map (λ r. eval_all project (params ∷ r ∷ [])) (db.trees tree)) rows
answers_all tree project order db params rows low h =
    let q = query_of tree [] project order in
    let a : IsAnswer q (overlay db.trees []) params rows = h.answer Null in
    let there : overlay db.trees [] tree ≡ db.trees tree = rw low in
    let staged : a.staged ≡ flat_map (λ r. (params ∷ r ∷ []) ∷ []) (db.trees tree) = a.grouped ∙ ap (flat_map (λ r. (params ∷ r ∷ []) ∷ [])) there in
    let kept : map (λ (o : Output). o.1) a.kept ≡ map (λ r. eval_all project (params ∷ r ∷ [])) (db.trees tree) =
    ap (map (λ (o : Output). o.1)) (a.distinct ∙ ap (map (output q)) staged) ∙ map-map (λ (o : Output). o.1) (output q) _
    ∙ map-flat (λ env. eval_all project env) (λ r. params ∷ r ∷ []) (db.trees tree) in
    subst₂ IsPermutation kept (sym a.shown) (IsPermutation-map (λ (o : Output). o.1) a.kept a.ordered a.same)

pub no_store_error : (cause : StoreError) (why : CompileError) → store_error cause ≡ SqlInputError why → ⊥
no_store_error stored.OutOfMemory why e = absurd (cc)
no_store_error stored.Io why e = absurd (cc)
no_store_error stored.Corrupt why e = absurd (cc)
no_store_error stored.Full why e = absurd (cc)
no_store_error stored.Broken why e = absurd (cc)
no_store_error stored.Unstorable why e = absurd (cc)

-- a query of one table, whose text is fixed
module _ {schema : Schema} {sql : List ℕ} {tree : ℕ} {project : List Term} {order : List (Term × Key)} (asks : Asks schema sql tree project order) where
  pub shows_all : (old new : State) (rows : List Row) → nat_le (2 ^ 31) tree ≡ false → old.now.schema ≡ schema → Shown sql [] old new rows
      → IsPermutation (map (λ r. eval_all project ([] ∷ r ∷ [])) (old.now.trees tree)) rows
  shows_all old new rows low has h =
      answers_all tree project order old.now [] rows low (reads_as sql [] old new schema has (Select
      (program_of (query_of tree [] project order)) asks.names) asks.command asks.plain asks.unlisted rows h)

  pub shows_unchanged : (old new : State) (rows : List Row) → old.now.schema ≡ schema → Shown sql [] old new rows → IsUnchanged old new
  unfolding Shown
  shows_unchanged old new rows has h =
      let known = sym h.1.is ∙ ap (λ s. understood s sql) has in
      let bare = subst IsPlain (sym known) asks.plain in
      (rw bare.0 at h.2).3

  -- its text is not refused
  pub never_refused : (old new : State) (e : Error) (why : CompileError) → old.now.schema ≡ schema → e ≡ SqlInputError why → FailsToQuery sql [] old new e ⊎ IsTooLate sql [] old new e → ⊥
  unfolding FailsToQuery IsNotRun
  never_refused old new e why has text (inl (inl (inl h))) = elim h.0 [
    | inl none ↦ subst IsPlain (sym (ap (λ s. understood s sql) has) ∙ none.1) asks.plain
    | inr some ↦ elim some.2 [
      | inl many ↦ absurd (let wrong = sym many.1 ∙ text in cc)
      | inr (inl count) ↦ absurd (let wrong = sym count.1 ∙ text in cc)
      | inr (inr clock) ↦ absurd (let wrong = sym clock.1 ∙ text in cc)
    ]
  ]
  never_refused old new e why has text (inl (inl (inr h))) = no_store_error h.0 why (sym h.1 ∙ text)
  never_refused old new e why has text (inl (inr h)) =
      let known = sym h.1.is ∙ ap (λ s. understood s sql) has in
      let bare = subst IsPlain (sym known) asks.plain in
      let it = rw bare.0 at h.2 in
      let refused = subst (λ k. RefusesToRead old.step_limit k it.0 (timed [] h.0.formats h.1.now) e) (ap command_of known ∙ asks.command) it.2 in
      elim refused [
        | inl type ↦ absurd (let wrong = sym type.0 ∙ text in cc)
        | inr (inl sum) ↦ absurd (let wrong = sym sum.0 ∙ text in cc)
        | inr (inr limit) ↦ absurd (let wrong = sym limit.0 ∙ text in cc)
      ]
  never_refused old new e why has text (inr h) = absurd (let wrong = sym h.4 ∙ text in cc)

  -- without a limit on its steps it fails only for memory, or where the store gives the reason
  pub fails_alone : (old new : State) (e : Error) → old.now.schema ≡ schema → old.step_limit ≡ None → ((why : CompileError) → e ≡ SqlInputError why → ⊥)
      → FailsToQuery sql [] old new e ⊎ IsTooLate sql [] old new e → Fails old new ⊥ e
  unfolding FailsToQuery IsNotRun
  fails_alone old new e has unlimited other (inl (inl (inl h))) = elim h.0 [
    | inl none ↦ absurd (other none.0 none.2)
    | inr some ↦
        let known = sym some.1 ∙ ap (λ s. understood s sql) has in
        let whole = subst (IsWhole sql) (sym known) asks.whole in
        let bare = subst IsPlain (sym known) asks.plain in
        elim some.2 [
          | inl many ↦ absurd (many.0 whole.0)
          | inr (inl count) ↦ absurd (count.0 (sym (ap length whole.1)))
          | inr (inr clock) ↦ absurd (clock.0 bare.1)
        ]
  ]
  fails_alone old new e has unlimited other (inl (inl (inr h))) = h
  fails_alone old new e has unlimited other (inl (inr h)) =
      let known = sym h.1.is ∙ ap (λ s. understood s sql) has in
      let bare = subst IsPlain (sym known) asks.plain in
      let it = rw (bare.0, bare.1) at h.2 in
      let same : it.0 ≡ old.now = subst (λ b. IsSourceOf b old.now it.0) (ap (λ s. reads_listing s sql) has ∙ asks.unlisted) it.1 in
      let refused = subst (λ k. RefusesToRead old.step_limit k it.0 [] e) (ap command_of known ∙ asks.command) it.2 in
      let at : RefusesQuery None (record { schema = schema; trees = it.0.trees }) (program_of (query_of tree [] project order)) [] e =
      subst₂ (λ limit s. RefusesQuery limit (record { schema = s; trees = it.0.trees }) (program_of (query_of tree [] project order)) [] e) unlimited
      (ap (λ (d : Database). d.schema) same ∙ has) refused in
      absurd (asks.answered it.0.trees e at)
  fails_alone old new e has unlimited other (inr h) =
      let known = sym h.1.is ∙ ap (λ s. understood s sql) has in
      let bare = subst IsPlain (sym known) asks.plain in
      absurd (let wrong : false ≡ true = sym (ap is_some bare.0) ∙ h.2 in cc)
