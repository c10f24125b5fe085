-- The steps of the relation between a request and its response.
use Rattle.std.proofs.Common.{◌≡◌, ℕ, ◌≤◌, ◌<◌, ◌==◌, List, [], ◌∷◌, length, take, true, false, nat_le, refl, subst, arith}
use Rattle.std.specs.List.{slice_range}
use Rattle.std.proofs.lemmas.Bool.Decides.{nat_tests}
use Rattle.std.proofs.lemmas.Grind.{common_steps}
use Rattle.adm_http.specs.Texts.{Response, response_bytes, bare}
use Rattle.adm_http.specs.Responses.{of_answer, Carries, AnswersRequest, Responds}
use Rattle.adm_http.specs.declared.heads.Verdict.TheVariants.{Run}
use Rattle.adm_http.specs.declared.routes.Purpose.{Purpose}
use Rattle.adm_http.specs.declared.routes.Resource.{Resource}
use Rattle.adm_http.specs.declared.body_answer.BodyAnswer.{BodyAnswer}
use Rattle.adm_http.specs.declared.request_handler.ShowResult.{ShowResult}

-- a range from the start is the front
pub front_is : (xs : List ℕ) (n : ℕ) → slice_range xs 0 n ≡ take n xs
front_is xs n = grind (arith, common_steps)

module _ {S : Type 0} (runs : Purpose → S → List ℕ → BodyAnswer → S → Type 0) (shows : S → Resource → ShowResult → Type 0) where
  pub responded : (old new : S) (input : List ℕ) (response : Response) → false ≡ (length input == 0)
      → AnswersRequest runs shows old input response new → Responds runs shows old input (response_bytes response) new
  responded old new [] response some a = absurd (cc some)
  responded old new (b ∷ input) response some a = (response, a, refl)

  -- the body is there, and was run
  pub ran : (purpose : Purpose) (old new : S) (rest body : List ℕ) (n : ℕ) (answer : BodyAnswer) → n ≤ length rest → body ≡ take n rest
      → runs purpose old body answer new → Carries runs shows old rest (Run purpose n) (of_answer answer) new
  ran purpose old new rest body n answer fits body_is ran_it =
      let e : nat_le n (length rest) ≡ true = grind (arith, nat_tests) in
      rw e (answer, subst (λ b. runs purpose old b answer new) body_is ran_it, refl)

  -- the body is not there
  pub was_short : (purpose : Purpose) (old : S) (rest : List ℕ) (n : ℕ) → length rest < n
      → Carries runs shows old rest (Run purpose n) (bare 400) old
  was_short purpose old rest n short =
      let e : nat_le n (length rest) ≡ false = grind (arith, nat_tests) in
      rw e (refl, refl)
