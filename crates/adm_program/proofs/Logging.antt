-- What serving connections printed of them, from its turns.
use Rattle.std.proofs.Common.{◌≡◌, ◌∙◌, ℕ, zero, suc, List, [], ◌∷◌, ◌++◌, Result, Ok, Err, codes, inl, inr, refl, sym, ap, subst}
use Rattle.std.specs.Io.KnownBytes.{Appends}
use Rattle.std.specs.List.{flat_map, AllByRecursion}
use Rattle.std.proofs.KnownBytes.{Appends-trans}
use Rattle.std.proofs.lemmas.Grind.{flat_map-append}
use Rattle.std.proofs.lemmas.List.{append-nil}
use Rattle.adm_desk.proofs.Known.{Appends-nothing}
use Rattle.adm_http.specs.Connections.{Errors, Moment, PrintsExactly, ServesTurn, ServesEach, accept_lines, outcome_line}
use Rattle.adm_http.specs.declared.body_answer.BodyAnswer.{BodyAnswer}
use Rattle.adm_http.specs.declared.request_handler.ShowResult.{ShowResult}
use Rattle.adm_http.specs.declared.routes.Purpose.{Purpose}
use Rattle.adm_http.specs.declared.routes.Resource.{Resource}
use Rattle.adm_http.specs.declared.serve.ServeFault.{ServeFault}
use Rattle.adm_program.specs.Logged.{IsConnectionLine, PrintsConnections}

abbrev joined : List (List ℕ) → List ℕ
joined lines = flat_map (λ line. line) lines

-- a text of such lines
abbrev IsOfLines : List ℕ → Type 0
IsOfLines text = (lines : List (List ℕ)) × AllByRecursion IsConnectionLine lines × (text ≡ joined lines)

all_more : (xs ys : List (List ℕ)) → AllByRecursion IsConnectionLine xs → AllByRecursion IsConnectionLine ys → AllByRecursion IsConnectionLine (xs ++ ys)
all_more [] ys first more = more
all_more (x ∷ xs) ys first more = (first.0, all_more xs ys first.1 more)

both : (a b : List ℕ) → IsOfLines a → IsOfLines b → IsOfLines (a ++ b)
both a b one other = (
  one.0 ++ other.0,
  all_more one.0 other.0 one.1 other.1,
  ap (λ (text : List ℕ). text ++ b) one.2 ∙ ap (λ (text : List ℕ). joined one.0 ++ text) other.2 ∙ sym (flat_map-append (λ line. line) one.0 other.0),
)

of_line : (line : List ℕ) → IsConnectionLine line → IsOfLines line
of_line line is = (line ∷ [], (is, tt), sym (append-nil line))

of_accepts : (n : ℕ) → IsOfLines (accept_lines n)
of_accepts zero = ([], tt, refl)
of_accepts (suc n) = both (accept_lines n) (codes "fault: Accept\n") (of_accepts n) (of_line (codes "fault: Accept\n") (inl refl))

of_outcome : (result : Result ℕ ServeFault) → IsOfLines (outcome_line result)
of_outcome (Ok n) = ([], tt, refl)
of_outcome (Err fault) = of_line _ (inr (fault, refl))

prints : (old new : Errors) (text : List ℕ) → IsOfLines text → PrintsExactly old new text → PrintsConnections old new
prints old new text it printed = (it.0, it.1, subst (λ (t : List ℕ). PrintsExactly old new t) it.2 printed)

pub prints_nothing : (old : Errors) → PrintsConnections old old
prints_nothing old = ([], tt, λ alive. (alive, Appends-nothing old.printed))

prints_more : (old mid new : Errors) → PrintsConnections old mid → PrintsConnections mid new → PrintsConnections old new
prints_more old mid new first more = (
  first.0 ++ more.0,
  all_more first.0 more.0 first.1 more.1,
  λ alive.
      let late = more.2 alive in
      let early = first.2 late.0 in
      (early.0, subst (λ (t : List ℕ). Appends old.printed new.printed t) (sym (flat_map-append (λ line. line) first.0 more.0)) (Appends-trans old.printed mid.printed new.printed (joined first.0) (joined more.0) early.1 late.1)),
)

module _ {S : Type 0} (runs : Purpose → S → List ℕ → BodyAnswer → S → Type 0) (shows : S → Resource → ShowResult → Type 0) where
  turn : (old new : Moment S) → ServesTurn runs shows old new → PrintsConnections old.errors new.errors
  turn old new (inl none) = prints old.errors new.errors _ (of_accepts none.failed) none.printed
  turn old new (inr one) = prints old.errors new.errors _ (both _ _ (of_accepts one.failed) (of_outcome one.result)) one.printed

  pub each_turn : (n : ℕ) (old new : Moment S) → ServesEach runs shows n old new → PrintsConnections old.errors new.errors
  each_turn zero old new same = subst (λ (m : Moment S). PrintsConnections old.errors m.errors) (sym same) (prints_nothing old.errors)
  each_turn (suc n) old new it = prints_more old.errors it.0.errors new.errors (each_turn n old it.0 it.1) (turn it.0 new it.2)
