-- What a parsed head says of the bytes in which it was found.
use Rattle.std.proofs.Common.{◌≡◌, ℕ, ◌≤◌, List, length, take, drop, map, ap, ◌∙◌, subst, arith}
use Rattle.std.specs.List.{slice_range}
use Rattle.std.proofs.lemmas.List.{length-map, length-take}
use Rattle.httparse.specs.Grammar.{RequestHead, print_request, ReadsRequest}
use Rattle.httparse.specs.Spans.{IsRequestOf, IsRequestAt, header_bytes}
use Rattle.httparse.specs.declared.spans.HeaderSpan.{HeaderSpan}
use Rattle.httparse.specs.declared.spans.RequestSpans.{RequestSpans}
use Rattle.adm_http.specs.Heads.{HeadDecides, HeadField, window, verdict_of}
use Rattle.adm_http.specs.declared.heads.Verdict.{Verdict}

-- the fields of a head fit the room that they were read in
pub fields_fit : (w : List ℕ) (headers : List HeaderSpan) (r : RequestSpans) (h : RequestHead)
    → IsRequestAt w headers r h → length headers ≡ 64 → length h.fields ≤ 64
fields_fit w headers r h at room =
    let same = ap length at.fields in
    let counts = simp (length-map, length-take) at same in
    omega (arith, counts)

pub whole_head : (input w : List ℕ) (headers : List HeaderSpan) (r : RequestSpans) (method target : List ℕ) (v : Verdict)
    → w ≡ window input → IsRequestOf w headers r → length headers ≡ 64
    → method ≡ slice_range w r.method.start r.method.end → target ≡ slice_range w r.path.start r.path.end
    → v ≡ verdict_of method target (map (header_bytes w) (take r.headers headers)) → HeadDecides input r.len v
whole_head input w headers r method target v w_is of room method_is target_is v_is =
    let h = of.0 in
    let at = of.1 in
    let reads : ReadsRequest w h (drop (length (print_request h)) w) = subst (λ n. ReadsRequest w h (drop n w)) at.len at.reads in
    record {
      head = h;
      has = record { reads = subst (λ b. ReadsRequest b h (drop (length (print_request h)) b)) w_is reads; room = fields_fit w headers r h at room };
      len_is = at.len;
      verdict_is = v_is ∙ ap (λ m. verdict_of m target (map (header_bytes w) (take r.headers headers))) (method_is ∙ at.method)
          ∙ ap (λ t. verdict_of h.method t (map (header_bytes w) (take r.headers headers))) (target_is ∙ at.path)
          ∙ ap (λ (fields : List HeadField). verdict_of h.method h.target fields) at.fields;
    }

pub inside_window : (input w : List ℕ) (len : ℕ) → w ≡ window input → len ≤ length w → (len ≤ length input) × (len ≤ 8192)
inside_window input w len w_is fits =
    let same = ap length w_is in
    let taken = length-take 8192 input in
    (omega (arith, same, taken), omega (arith, same, taken))
