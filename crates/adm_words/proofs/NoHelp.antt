-- In arguments without an error, no subcommand `help` is met.
use Rattle.std.proofs.Common.{◌≡◌, ℕ, Bool, true, false, refl, List, [], ◌∷◌, Option, Some, None}
use Rattle.std.specs.Prelude.{if◌then◌else◌, ◌&&◌, not, codes, is_some, fold}
use Rattle.std.specs.Str.{bytes_eq}
use Rattle.clap.specs.Lexer.{long_of, short_of}
use Rattle.clap.specs.Kinds.{Kinds, or_else}
use Rattle.clap.specs.Simple.{Shape}
use Rattle.clap.specs.Walk as w
use Rattle.clap.specs.Walk.{Rule, Text, Held, Outcome, Step, Waiting, Walk, Names}
use Rattle.clap.specs.Faults as f
use Rattle.clap.specs.declared.error.kind.ErrorKind.{ErrorKind}
use Rattle.adm_words.proofs.FoundRows.{branch, both_empty, nonempty}

-- no subcommand was met, or one with another name
abbrev pub IsNoHelp : Option (Text × List Text) → Type 0
IsNoHelp None = Unit {0}
IsNoHelp (Some q) = bytes_eq q.0 (codes "help") ≡ false

abbrev StepNoHelp : Step → Type 0
StepNoHelp (w.subcommand name) = bytes_eq name (codes "help") ≡ false
StepNoHelp _ = Unit {0}

plain_step : (rules : List Rule) (waiting : Waiting) (word : Text) (h : Held) → StepNoHelp (w.plain_word rules waiting word h).1
plain_step rules (w.option id) word h = tt
plain_step rules w.idle word h = tt
plain_step rules w.positional word h = tt

after_step : (rules : List Rule) (waiting : Waiting) (word : Text) (h : Held) (outcome : Outcome) → StepNoHelp (w.after_flag rules waiting word h outcome).1
after_step rules waiting word h w.done = tt
after_step rules waiting word h (w.waits id) = tt
after_step rules waiting word h w.plain = plain_step rules waiting word h
after_step rules waiting word h w.refused = plain_step rules waiting word h

flag_step : (rules : List Rule) (waiting : Waiting) (word : Text) (long : Option (Text × Option Text)) (h : Held) → StepNoHelp (w.long_or_other rules waiting word long h).1
flag_step rules waiting word (Some q) h = after_step rules waiting word _ _
flag_step rules waiting word None h = go (short_of word)
  where
    go : (o : Option Text) → StepNoHelp (w.short_or_plain rules waiting word o h).1
    go None = plain_step rules waiting word h
    go (Some flags) = after_step rules waiting word _ _

unnamed : (b d : Bool) (k : ErrorKind) (ks : Kinds) → d ≡ false → (if b && not d then k ∷ ks else []) ≡ [] → b ≡ false
unnamed true true k ks off e = off
unnamed true false k ks off e = absurd (nonempty (k ∷ ks) refl e)
unnamed false d k ks off e = refl

module _ (s : Shape) (has_help : s.disable_help_subcommand ≡ false) where
  other_step : (o : Option Text) (waiting : Waiting) (position : ℕ) (word : Text) (h : Held) → f.other_fault s o word h ≡ []
      → StepNoHelp (w.subcommand_or_other s.rules o waiting position word h).1
  other_step (Some name) waiting position word h none = unnamed (bytes_eq name (codes "help")) s.disable_help_subcommand _ _ has_help none
  other_step None waiting position word h none =
      branch (λ (m : Held × Step). StepNoHelp m.1) (bytes_eq word (45 ∷ 45 ∷ [])) [] _ (h, w.trailing position) (w.long_or_other s.rules waiting word (long_of word) h)
      (λ n. tt) (λ n. flag_step s.rules waiting word (long_of word) h) none

  word_step : (names : Names) (is_trailing : Bool) (waiting : Waiting) (position : ℕ) (word : Text) (h : Held) → f.word_fault s names is_trailing waiting word h ≡ []
      → StepNoHelp (w.word_met s.rules names is_trailing waiting position word h).1
  word_step names is_trailing waiting position word h none =
      branch (λ (m : Held × Step). StepNoHelp m.1) is_trailing [] _ (h, w.value) (w.subcommand_or_other s.rules (w.subcommand_met names waiting word) waiting position word h)
      (λ n. tt) (λ n. other_step (w.subcommand_met names waiting word) waiting position word h n) none

  step_stop : (word : Text) (at : Walk) (h : Held) (step : Step) → StepNoHelp step → IsNoHelp at.stopped → IsNoHelp (w.after_step s.rules word at h step).stopped
  step_stop word at h (w.next waiting) apart before = before
  step_stop word at h (w.trailing position) apart before = before
  step_stop word at h (w.subcommand name) apart before = apart
  step_stop word at h w.value apart before = go (w.arg_by_index s.rules at.position)
    where
      go : (o : Option Rule) → IsNoHelp (w.to_positional s.rules o word at h).stopped
      go None = before
      go (Some b) = tt

  turn_stop : (names : Names) (at : Walk) (word : Text) → f.turn_fault s names at word ≡ [] → IsNoHelp at.stopped → IsNoHelp (w.walked s.rules names at word).stopped
  unfolding w.walked
  turn_stop names at word none before = go at.stopped none before
    where
      met : Held × Step
      met = w.word_met s.rules names at.is_trailing at.waiting at.position word at.held

      go : (o : Option (Text × List Text))
          → (if is_some o then [] else or_else (f.word_fault s names at.is_trailing at.waiting word at.held) (f.step_fault s at.position met.0 met.1)) ≡ []
          → IsNoHelp o → IsNoHelp (w.walked_from s.rules names o at word).stopped
      go (Some q) n apart = apart
      go None n apart =
          let parts = both_empty (f.word_fault s names at.is_trailing at.waiting word at.held) _ n in
          step_stop word at met.0 met.1 (word_step names at.is_trailing at.waiting at.position word at.held parts.0) before

  pub no_help_met : (names : Names) (at : Walk) (arguments : List Text) → f.walk_fault s names at arguments ≡ [] → IsNoHelp at.stopped
      → IsNoHelp (fold (w.walked s.rules names) at arguments).stopped
  unfolding f.walk_fault
  no_help_met names at [] none apart = apart
  no_help_met names at (word ∷ rest) none apart =
      let parts = both_empty (f.turn_fault s names at word) _ none in
      no_help_met names (w.walked s.rules names at word) rest parts.1 (turn_stop names at word parts.0 apart)
