-- The texts of criteria are read back as what they were written from.
use Rattle.std.proofs.Common.{◌≡◌, true, List, [], ◌∷◌, Some}
use Rattle.std.specs.List.{AllByRecursion, list_all}
use Rattle.std.specs.Str.{IsUtf8}
use Rattle.std.proofs.lemmas.Bool.{and_parts}
use Rattle.std.proofs.lemmas.Str.{IsUtf8-from_ascii}
use Rattle.adm_types.specs.Criteria.{criterion_of, criterion_text, is_criterion}
use Rattle.adm_types.specs.declared.criteria.Criterion.{Criterion}
use Rattle.adm_rows.specs.Forms.{criteria_text, criteria_of}
use Rattle.adm_types.proofs.CriteriaLemmas.{criterion_reads}
use Rattle.adm_types.proofs.ReadBack.{Reads, items_again, ascii_joined}

each_criterion : (criteria : List Criterion) → list_all is_criterion criteria ≡ true → AllByRecursion (Reads criterion_of criterion_text) criteria
each_criterion [] all = tt
each_criterion (c ∷ criteria) all = (criterion_reads c (and_parts _ _ all).0, each_criterion criteria (and_parts _ _ all).1)

-- the text of criteria is read as those criteria
pub criteria_again : (criteria : List Criterion) → list_all is_criterion criteria ≡ true → criteria_of (criteria_text criteria) ≡ Some criteria
criteria_again criteria all = items_again criterion_of criterion_text criteria (each_criterion criteria all)

pub criteria_utf8 : (criteria : List Criterion) → list_all is_criterion criteria ≡ true → IsUtf8 (criteria_text criteria)
criteria_utf8 criteria all = IsUtf8-from_ascii (criteria_text criteria) (ascii_joined criterion_of criterion_text criteria (each_criterion criteria all))
