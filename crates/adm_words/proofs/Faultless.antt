-- In arguments without an error, the first value of an argument passes its parser.
use Rattle.std.proofs.Common.{◌≡◌, ◌∙◌, ℕ, Bool, true, false, true≢false, cond, zero, suc, refl, sym, ap, subst, List, [], ◌∷◌, length, Option, Some, None, inl, inr, ◌⊎◌}
use Rattle.std.specs.Prelude.{if◌then◌else◌, ◌&&◌, is_some, find, fold, option_and_then, slice_get, drop, encode_utf8}
use Rattle.std.specs.Option.{option_map_or}
use Rattle.std.specs.Str.{bytes_eq, chars}
use Rattle.clap.specs.Lexer.{long_of, short_of}
use Rattle.clap.specs.Facts.{explicit_source, parser_of_value}
use Rattle.clap.specs.ValueTests.{accepts}
use Rattle.clap.specs.Kinds.{Kinds, or_else}
use Rattle.clap.specs.Simple.{Shape}
use Rattle.clap.specs.Walk as w
use Rattle.clap.specs.Walk.{Row, Rule, Text, Held, Outcome, Step, Waiting, Walk, Names, has_row, first_of}
use Rattle.clap.specs.Faults as f
use Rattle.clap.specs.Takes.{is_given}
use Rattle.clap.specs.declared.error.kind.ErrorKind.TheVariants as kind
use Rattle.clap.specs.declared.parser.matches.ValueSource.TheVariants.{DefaultValue}
use Rattle.adm_words.proofs.FoundRows.{branch, both_empty, row_in, head_passes, row_passes, Good, values_other, used_other}

-- a property of each of a list
abbrev pub Each : (Rule → Type 0) → List Rule → Type 0
Each P [] = Unit {0}
Each P (x ∷ xs) = P x × Each P xs

found_each : (P : Rule → Type 0) (p : Rule → Bool) (xs : List Rule) (b : Rule) → Each P xs → find p xs ≡ Some b → P b
found_each P p [] b each e = absurd (true≢false (sym (ap is_some e)))
found_each P p (x ∷ xs) b each e = go (p x) e (found_each P p xs b each.1)
  where
    unwrapped : Option Rule → Rule
    unwrapped None = x
    unwrapped (Some y) = y

    go : (t : Bool) → cond t (Some x) (find p xs) ≡ Some b → (find p xs ≡ Some b → P b) → P b
    go true e rest = subst P (ap unwrapped e) each.0
    go false e rest = rest e

-- it is this argument, or has another id
abbrev pub IsItOr : Rule → Rule → Type 0
IsItOr a b = (b ≡ a) ⊎ (bytes_eq b.id a.id ≡ false)

-- a use of the argument leaves a first value that passes
abbrev pub UsesWell : Bool → Rule → Type 0
UsesWell again a = (values : List Text) (rows : List Row) → f.use_fault again a values rows ≡ [] → Good a rows → Good a (w.used a values rows)

module _ (s : Shape) (a : Rule) (each : Each (IsItOr a) s.rules) (uses : UsesWell s.args_override_self a) where
  known : (p : Rule → Bool) (b : Rule) → find p s.rules ≡ Some b → IsItOr a b
  known p b e = found_each (IsItOr a) p s.rules b each e

  use_good : (b : Rule) → IsItOr a b → (values : List Text) (rows : List Row) → f.use_fault s.args_override_self b values rows ≡ [] → Good a rows → Good a (w.used b values rows)
  use_good b (inl e) values rows none good =
      subst (λ (x : Rule). f.use_fault s.args_override_self x values rows ≡ [] → Good a (w.used x values rows)) (sym e) (λ n. uses values rows n good) none
  use_good b (inr apart) values rows none good =
      ap (row_passes a) (used_other (w.action_of b) a.id b.id (w.reading_by b) (w.values_or_missing b values) rows apart) ∙ good

  settled_good : (pending : Option (Text × List Text)) (rows : List Row)
      → option_map_or (λ q. option_map_or (λ b. f.use_fault s.args_override_self b q.1 rows) (w.arg_by_id s.rules q.0) []) pending [] ≡ []
      → Good a rows → Good a (w.settled_rows s.rules pending rows)
  settled_good None rows none good = good
  settled_good (Some q) rows none good = go (w.arg_by_id s.rules q.0) (known (λ b. bytes_eq b.id q.0)) none
    where
      go : (o : Option Rule) → ((b : Rule) → o ≡ Some b → IsItOr a b) → option_map_or (λ b. f.use_fault s.args_override_self b q.1 rows) o [] ≡ []
          → Good a (w.used_by_id o q.1 rows)
      go None of n = good
      go (Some b) of n = use_good b (of b refl) q.1 rows n good

  settle_good : (h : Held) → f.settle_fault s.rules s.args_override_self h ≡ [] → Good a h.rows → Good a (w.settled s.rules h).rows
  settle_good h none good = settled_good h.pending h.rows none good

  react_good : (b : Rule) → IsItOr a b → (values : List Text) (h : Held) → f.react_fault s.rules s.args_override_self b values h ≡ []
      → Good a h.rows → Good a (w.reacted s.rules b values h).rows
  react_good b is values h none good =
      let parts = both_empty (f.settle_fault s.rules s.args_override_self h) _ none in
      use_good b is values (w.settled s.rules h).rows parts.1 (settle_good h parts.0 good)

  option_good : (b : Rule) → IsItOr a b → (v : Option Text) (h : Held) → f.option_fault s.rules s.args_override_self b v h ≡ []
      → Good a h.rows → Good a (w.option_met s.rules b v h).0.rows
  option_good b is None h none good = settle_good h none good
  option_good b is (Some v) h none good = react_good b is (v ∷ []) h none good

  flag_good : (b : Rule) → IsItOr a b → (v : Option Text) (h : Held)
      → (if is_some v then kind.TooManyValues ∷ [] else f.react_fault s.rules s.args_override_self b [] h) ≡ []
      → Good a h.rows → Good a (w.flag_met s.rules b v h).0.rows
  flag_good b is None h none good = react_good b is [] h none good
  flag_good b is (Some v) h none good = good

  long_good : (o : Option Rule) → ((b : Rule) → o ≡ Some b → IsItOr a b) → (v : Option Text) (h : Held)
      → f.long_fault s.rules s.args_override_self o v h ≡ [] → Good a h.rows → Good a (w.long_met s.rules o v h).0.rows
  long_good None of v h none good = good
  long_good (Some b) of v h none good =
      branch (λ (m : Held × Outcome). Good a m.0.rows) (w.takes_values b) _ _ (w.option_met s.rules b v h) (w.flag_met s.rules b v h)
      (λ n. option_good b (of b refl) v h n good) (λ n. flag_good b (of b refl) v h n good) none

  short_good : (o : Option Rule) → ((b : Rule) → o ≡ Some b → IsItOr a b) → (rest : Text) (h : Held) (fault : Held → Kinds) (met : Held → Held × Outcome)
      → ((now : Held) → fault now ≡ [] → Good a now.rows → Good a (met now).0.rows)
      → f.short_fault s.rules s.args_override_self o rest h fault ≡ [] → Good a h.rows → Good a (w.short_met s.rules o rest h met).0.rows
  short_good None of rest h fault met next none good = good
  short_good (Some b) of rest h fault met next none good =
      branch (λ (m : Held × Outcome). Good a m.0.rows) (w.takes_values b) _ _ (w.option_met s.rules b (w.attached_value rest) h) (met (w.reacted s.rules b [] h))
      (λ n. option_good b (of b refl) (w.attached_value rest) h n good)
      (λ n. let parts = both_empty (f.react_fault s.rules s.args_override_self b [] h) _ n in
      next (w.reacted s.rules b [] h) parts.1 (react_good b (of b refl) [] h parts.0 good))
      none

  bundle_good : (k : ℕ) (flags : Text) (skip : ℕ) (so_far : Outcome) (h : Held) → f.flags_fault s.rules s.args_override_self k flags skip h ≡ []
      → Good a h.rows → Good a (w.bundle_met s.rules k flags skip so_far h).0.rows
  unfolding f.flags_fault w.bundle_met
  bundle_good zero flags skip so_far h none good = good
  bundle_good (suc k) flags skip so_far h none good = go (slice_get (chars flags) 0) skip none (bundle_good k)
    where
      Next : Type 0
      Next = (flags : Text) (skip : ℕ) (so_far : Outcome) (h : Held) → f.flags_fault s.rules s.args_override_self k flags skip h ≡ [] → Good a h.rows
          → Good a (w.bundle_met s.rules k flags skip so_far h).0.rows

      go : (o : Option ℕ) (skip : ℕ) → f.bundle_step_fault s.rules s.args_override_self o flags skip h (f.flags_fault s.rules s.args_override_self k) ≡ [] → Next
          → Good a (w.bundle_step s.rules o flags skip so_far h (w.bundle_met s.rules k)).0.rows
      go None skip n next = good
      go (Some x) zero n next =
          let rest = drop (length (encode_utf8 x)) flags in
          short_good (w.arg_by_short s.rules x) (known _) rest h (f.flags_fault s.rules s.args_override_self k rest 0) (w.bundle_met s.rules k rest 0 w.done)
          (λ now m g. next rest 0 w.done now m g) n good
      go (Some x) (suc skip) n next = next (drop (length (encode_utf8 x)) flags) skip so_far h n good

  option_word_good : (o : Option Rule) (id word : Text) (h : Held) → Good a h.rows → Good a (w.option_word o id word h).0.rows
  option_word_good None id word h good = good
  option_word_good (Some b) id word h good = good

  plain_good : (waiting : Waiting) (word : Text) (h : Held) → Good a h.rows → Good a (w.plain_word s.rules waiting word h).0.rows
  plain_good (w.option id) word h good = option_word_good (w.arg_by_id s.rules id) id word h good
  plain_good w.idle word h good = good
  plain_good w.positional word h good = good

  after_good : (waiting : Waiting) (word : Text) (h : Held) (outcome : Outcome) → Good a h.rows → Good a (w.after_flag s.rules waiting word h outcome).0.rows
  after_good waiting word h w.done good = good
  after_good waiting word h (w.waits id) good = good
  after_good waiting word h w.plain good = plain_good waiting word h good
  after_good waiting word h w.refused good = plain_good waiting word h good

  flag_word_good : (long : Option (Text × Option Text)) (waiting : Waiting) (word : Text) (h : Held) → f.flag_word_fault s.rules s.args_override_self long word h ≡ []
      → Good a h.rows → Good a (w.long_or_other s.rules waiting word long h).0.rows
  flag_word_good (Some q) waiting word h none good =
      after_good waiting word (w.long_met s.rules (w.arg_by_long s.rules q.0) q.1 h).0 (w.long_met s.rules (w.arg_by_long s.rules q.0) q.1 h).1
      (long_good (w.arg_by_long s.rules q.0) (known _) q.1 h none good)
  flag_word_good None waiting word h none good = go (short_of word) none
    where
      go : (o : Option Text) → option_map_or (λ flags. f.bundle_fault s.rules s.args_override_self flags h) o [] ≡ [] → Good a (w.short_or_plain s.rules waiting word o h).0.rows
      go None n = plain_good waiting word h good
      go (Some flags) n =
          after_good waiting word (w.bundle s.rules flags h).0 (w.bundle s.rules flags h).1
          (bundle_good (length flags) flags h.skip w.plain (record h { skip = 0 }) n good)

  other_good : (o : Option Text) (waiting : Waiting) (position : ℕ) (word : Text) (h : Held) → f.other_fault s o word h ≡ []
      → Good a h.rows → Good a (w.subcommand_or_other s.rules o waiting position word h).0.rows
  other_good (Some name) waiting position word h none good = good
  other_good None waiting position word h none good =
      branch (λ (m : Held × Step). Good a m.0.rows) (bytes_eq word (45 ∷ 45 ∷ [])) [] _ (h, w.trailing position) (w.long_or_other s.rules waiting word (long_of word) h)
      (λ n. good) (λ n. flag_word_good (long_of word) waiting word h n good) none

  word_good : (names : Names) (is_trailing : Bool) (waiting : Waiting) (position : ℕ) (word : Text) (h : Held) → f.word_fault s names is_trailing waiting word h ≡ []
      → Good a h.rows → Good a (w.word_met s.rules names is_trailing waiting position word h).0.rows
  word_good names is_trailing waiting position word h none good =
      branch (λ (m : Held × Step). Good a m.0.rows) is_trailing [] _ (h, w.value) (w.subcommand_or_other s.rules (w.subcommand_met names waiting word) waiting position word h)
      (λ n. good) (λ n. other_good (w.subcommand_met names waiting word) waiting position word h n good) none

  positional_good : (b : Rule) (word : Text) (h : Held) → f.positional_fault s.rules s.args_override_self b h ≡ [] → Good a h.rows → Good a (w.positional_held s.rules b word h).rows
  positional_good b word h none good =
      branch (λ (now : Held). Good a now.rows) (w.is_pending b h.pending && w.takes_several b) [] _ h (w.settled s.rules h) (λ n. good) (λ n. settle_good h n good) none

  step_good : (word : Text) (at : Walk) (h : Held) (step : Step) → f.step_fault s at.position h step ≡ [] → Good a h.rows → Good a (w.after_step s.rules word at h step).held.rows
  step_good word at h (w.next waiting) none good = good
  step_good word at h (w.trailing position) none good = good
  step_good word at h (w.subcommand name) none good = good
  step_good word at h w.value none good = go (w.arg_by_index s.rules at.position) none
    where
      go : (o : Option Rule) → option_map_or (λ b. f.positional_fault s.rules s.args_override_self b h) o (f.stray_fault s) ≡ []
          → Good a (w.to_positional s.rules o word at h).held.rows
      go None n = good
      go (Some b) n = positional_good b word h n good

  turn_good : (names : Names) (at : Walk) (word : Text) → f.turn_fault s names at word ≡ [] → Good a at.held.rows → Good a (w.walked s.rules names at word).held.rows
  unfolding w.walked
  turn_good names at word none good = go at.stopped none
    where
      met : Held × Step
      met = w.word_met s.rules names at.is_trailing at.waiting at.position word at.held

      go : (o : Option (Text × List Text))
          → (if is_some o then [] else or_else (f.word_fault s names at.is_trailing at.waiting word at.held) (f.step_fault s at.position met.0 met.1)) ≡ []
          → Good a (w.walked_from s.rules names o at word).held.rows
      go (Some q) n = good
      go None n =
          let parts = both_empty (f.word_fault s names at.is_trailing at.waiting word at.held) _ n in
          step_good word at met.0 met.1 parts.1 (word_good names at.is_trailing at.waiting at.position word at.held parts.0 good)

  pub walk_good : (names : Names) (at : Walk) (arguments : List Text) → f.walk_fault s names at arguments ≡ [] → Good a at.held.rows
      → Good a (fold (w.walked s.rules names) at arguments).held.rows
  unfolding f.walk_fault
  walk_good names at [] none good = good
  walk_good names at (word ∷ rest) none good =
      let parts = both_empty (f.turn_fault s names at word) _ none in
      walk_good names (w.walked s.rules names at word) rest parts.1 (turn_good names at word parts.0 good)

-- ---- after the walk

-- an argument without a default, or with another id
plain_or_other : (a b : Rule) → a.defaults ≡ [] → IsItOr a b → (b.defaults ≡ []) ⊎ (bytes_eq b.id a.id ≡ false)
plain_or_other a b none (inl e) = inl (subst (λ (x : Rule). x.defaults ≡ []) (sym e) none)
plain_or_other a b none (inr apart) = inr apart

-- its default leaves the first value of this one
default_good : (a b : Rule) (rows : List Row) → (b.defaults ≡ []) ⊎ (bytes_eq b.id a.id ≡ false) → Good a rows → Good a (w.with_default rows b)
default_good a b rows other good = go (has_row b.id rows) b.defaults other
  where
    go : (t : Bool) (defaults : List Text) → (defaults ≡ []) ⊎ (bytes_eq b.id a.id ≡ false) → Good a (cond t rows (w.default_rows b.id (w.reading_by b) defaults rows))
    go true defaults o = good
    go false defaults (inl e) = subst (λ (d : List Text). Good a (w.default_rows b.id (w.reading_by b) d rows)) (sym e) good
    go false [] (inr apart) = good
    go false (v ∷ vs) (inr apart) = ap (row_passes a) (values_other a.id b.id (w.reading_by b) DefaultValue (v ∷ vs) rows apart) ∙ good

-- and so do the defaults of all arguments, where this one has none
defaults_good : (a : Rule) → a.defaults ≡ [] → (rules : List Rule) (rows : List Row) → Each (IsItOr a) rules → Good a rows → Good a (fold w.with_default rows rules)
defaults_good a none [] rows each good = good
defaults_good a none (b ∷ rest) rows each good = defaults_good a none rest (w.with_default rows b) each.1 (default_good a b rows (plain_or_other a b none each.0) good)

-- a level without an error leaves a first value that passes, and finds no argument missing
pub level_good : (s : Shape) (a : Rule) → Each (IsItOr a) s.rules → UsesWell s.args_override_self a → a.defaults ≡ []
    → (names : Names) (arguments : List Text) (has_subcommand : Bool) (below : Kinds)
    → f.level_fault s names w.nothing_held arguments has_subcommand below ≡ []
    → Good a (w.rows_after s.rules names arguments) × (f.check_fault s (w.rows_after s.rules names arguments) has_subcommand ≡ [])
level_good s a each uses no_defaults names arguments has_subcommand below none =
    let end = (w.walk s.rules names w.nothing_held arguments).held in
    let walk = both_empty (f.walk_fault s names (w.walk_from w.nothing_held) arguments) _ none in
    let inner = both_empty below _ walk.1 in
    let settle = both_empty (f.settle_fault s.rules s.args_override_self end) _ inner.1 in
    let defaults = both_empty (f.defaults_fault (w.settled s.rules end).rows s.rules) _ settle.1 in
    let good = settle_good s a each uses end settle.0 (walk_good s a each uses names (w.walk_from w.nothing_held) arguments walk.0 refl) in
    (defaults_good a no_defaults s.rules (w.settled s.rules end).rows each good, defaults.1)

-- the first value of a row
abbrev first_in : Option Row → Option Text
first_in o = option_and_then (λ (r : Row). slice_get r.values 0) o

-- it passes the argument's parser
abbrev Passes : Rule → Text → Type 0
Passes a v = accepts a.ignore_case (parser_of_value a.parser) v ≡ true

head_there : (a : Rule) (values : List Text) → head_passes a values ≡ true → (v : Text) × (slice_get values 0 ≡ Some v) × Passes a v
head_there a [] g = absurd (true≢false (sym g))
head_there a (v ∷ vs) g = (v, refl, g)

-- an argument that is given has a first value, which passes
pub given_first : (a : Rule) (rows : List Row) → Good a rows → is_given a.id rows ≡ true
    → (v : Text) × (first_of a.id rows ≡ Some v) × Passes a v
given_first a rows good given = go (row_in a.id rows) good given
  where
    go : (o : Option Row) → row_passes a o ≡ true → option_map_or (λ r. explicit_source r.source) o false ≡ true
        → (v : Text) × (first_in o ≡ Some v) × Passes a v
    go None g e = absurd (true≢false (sym e))
    go (Some r) g e = head_there a r.values g

-- an argument has no value, or a first one, which passes
pub none_or_first : (a : Rule) (rows : List Row) → Good a rows → (first_of a.id rows ≡ None) ⊎ ((v : Text) × (first_of a.id rows ≡ Some v) × Passes a v)
none_or_first a rows good = go (row_in a.id rows) good
  where
    go : (o : Option Row) → row_passes a o ≡ true → (first_in o ≡ None) ⊎ ((v : Text) × (first_in o ≡ Some v) × Passes a v)
    go None g = inl refl
    go (Some r) g = inr (head_there a r.values g)
