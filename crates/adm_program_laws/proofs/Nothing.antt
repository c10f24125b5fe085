-- Files that hold no database: what an open finds there.
use Rattle.std.proofs.Common.{true, false, [], ◌≡◌, ◌∙◌, ◌*◌, ◌-◌, ◌<◌, ℕ, List, length, take, slice_index, Option, Some, unwrap_or, inl, inr, refl, sym, ap, arith, get_or-take, zero-add, length-take}
use Rattle.std.proofs.Math.Logic.{∥∥₁_elim}
use Rattle.sqlite_pages.specs.PageMap.{PageMap}
use Rattle.sqlite_pool.specs.File.{header_in, IsSoundFile}
use Rattle.sqlite_pool.specs.Opening.{IsBlankFile}
use Rattle.sqlite_pool.specs.Stored.{stored_size, used_size, Adopts}
use Rattle.sqlite_pool.specs.StoredLaws.{trimmed_some}
use Rattle.sqlite_pool.proofs.ProbeLemmas.{first_byte}
use Rattle.sqlite_wal.specs.Format.{part}
use Rattle.sqlite_wal.specs.Recovery.{Image, pages_after}
use Rattle.sqlite_wal.proofs.AppendLemmas.{some_value, page_from_pages}
use Rattle.sqlite_wal.proofs.PartLemmas.{slice_index-part, part_within}
use Rattle.sqlite_wal.proofs.RecoveryLemmas.{replays_once}
use Rattle.sqlite.specs.Files.{AreFoundIn, IsEmpty, IsNothing}
use Rattle.sqlite.specs.Tree.{Trees}

module _ (size : ℕ) (image : Image) (pages : PageMap) (found : Adopts size image pages) (sound : IsSoundFile size pages) where
  -- a header has its first bytes
  has_bytes : (page : List ℕ) → header_in pages ≡ take 100 (take size page) → 1 < size
  has_bytes page head =
      let named = ap length (sym sound.header.0.magic) ∙ ap (λ (h : List ℕ). length (take 16 h)) head in
      let cut = length-take 16 (take 100 (take size page)) in
      let short = length-take 100 (take size page) in
      let whole = length-take size page in
      omega (arith, named, cut, short, whole)

  -- with no frame to replay, the first byte of the file is that of the header
  begins : found.found.frames ≡ 0 → (1 < length image.db) × (slice_index image.db 0 ≡ 83)
  begins none =
      let whole = stored_size size in
      let raw = found.found in
      let (page, is) = some_value (found.stored 1) found.whole.first in
      let alone : pages_after whole image.log image.db 0 1 ≡ Some page = ap (λ (p : PageMap). p 1) (ap (pages_after whole image.log image.db) (sym none) ∙ raw.gives) ∙ is in
      let start : (1 - 1) * whole ≡ 0 = omega arith in
      let front : part image.db 0 whole ≡ page = ap (λ (at : ℕ). part image.db at whole) (sym start) ∙ (page_from_pages whole image.log image.db 0 1 page alone).0 in
      let used : pages 1 ≡ Some (take size page) = ap (λ (p : PageMap). p 1) (sym found.shows) ∙ trimmed_some size _ 1 page is in
      let head : header_in pages ≡ take 100 (take size page) = ap (λ (o : Option (List ℕ)). take 100 (unwrap_or o [])) used in
      let some = has_bytes page head in
      let byte = ap (λ (b : List ℕ). slice_index b 0) head ∙ get_or-take 100 (take size page) 0 0 (omega arith) ∙ get_or-take size page 0 0 (omega (arith, some))
      ∙ ap (λ (b : List ℕ). slice_index b 0) (sym front) ∙ slice_index-part image.db 0 whole 0 (omega (arith, some)) ∙ ap (slice_index image.db) (zero-add 0) in
      let long = part_within image.db 0 whole (omega (arith, some)) (ap length front ∙ found.whole.sized 1 page is) in
      (omega (arith, some, long), sym byte ∙ sym (get_or-take 16 (header_in pages) 0 0 (omega arith)) ∙ ap (λ (b : List ℕ). slice_index b 0) sound.header.0.magic)

  -- so such a file is not one in which no database has been made yet
  not_unmade : (other : ℕ) → 0 < other → IsBlankFile other image → ⊥
  not_unmade other some (inl none) = omega (arith, found.found.present)
  not_unmade other some (inr blank) =
      let raw = found.found in
      let none : raw.frames ≡ 0 = elim blank.0 [
        | inl ignored ↦ replays_once (stored_size size) image.log raw.frames 0 raw.replays (inl (ignored.0, refl))
        | inr taken ↦ elim raw.replays [
          | inl ignored ↦ ignored.1
          | inr ours ↦ replays_once (stored_size size) image.log raw.frames 0 raw.replays (rw (sym ours.0.head.size ∙ taken.0.head.size) blank.0)
        ]
      ] in
      let magic = begins none in
      elim blank.1.0 [
        | inl short ↦ omega (arith, short, magic.0)
        | inr more ↦ elim more [ inl zero' ↦ omega (arith, zero'.1) | inr rest ↦ rest.1 (magic.1 ∙ sym (first_byte other some)) ]
      ]

-- what an open finds where there is no database is empty
pub nothing_is_empty : (image : Image) (db : Trees) → IsNothing image → AreFoundIn image db → IsEmpty db
nothing_is_empty image db nothing (inr it) = it.1
nothing_is_empty image db nothing (inl it) = absurd (∥∥₁_elim it.4 (λ x y. absurd x) (λ ours. elim nothing [
  | inl plain ↦ not_unmade it.0 image it.1 it.3 ours.file.sound (used_size 4096 false) (omega arith) plain
  | inr summed ↦ not_unmade it.0 image it.1 it.3 ours.file.sound (used_size 4096 true) (omega arith) summed
]))
