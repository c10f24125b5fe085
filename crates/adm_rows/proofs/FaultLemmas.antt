-- What a connection sees of a file that represents a register.
use Rattle.std.proofs.Common.{◌≡◌, ◌∙◌, length, refl, sym, ap, subst}
use Rattle.sqlite.specs.Tree.{Trees}
use Rattle.sqlite.specs.Effect.{Database, IsDatabase}
use Rattle.sqlite.specs.State.{State}
use Rattle.sqlite_trees.specs.Objects.{catalog_tree}
use Rattle.sqlite_catalog.specs.Listing.{IsSound, Lists}
use Rattle.sqlite_catalog.proofs.ReadLemmas.{lists_once}
use Rattle.sqlite.specs.Schema.{Schema}
use Rattle.adm_schema.specs.declared.version.Version.{Version}
use Rattle.adm_schema.specs.declared.version.Version.TheVariants.{First, Second}
use Rattle.adm_register.specs.State.{State as Register}
use Rattle.adm_schema.specs.Schema.{schema_of}
use Rattle.adm_rows.specs.Represents.{RepresentsIn, Represents, HoldsRegister}

-- what a connection at rest sees of a file that represents a register, in the version of its tables
pub represents_now : (s : State) (db : Trees) (r : Register) → Represents db r → db ≡ s.committed.trees → s.now ≡ s.committed → IsDatabase s.now
    → (v : Version) × (s.now.schema ≡ schema_of v) × HoldsRegister v s.now.trees r
represents_now s db r file is settled live =
    let v = file.version in
    let trees : s.now.trees ≡ db = ap (λ (d : Database). d.trees) settled ∙ sym is in
    let listed = subst (λ (t : Trees). Lists (t catalog_tree) (schema_of v)) (sym trees) file.stands.sound.lists in
    (v, lists_once (s.now.trees catalog_tree) s.now.schema (schema_of v) live.lists listed, subst (λ (t : Trees). HoldsRegister v t r) (sym trees) file.stands.holds)

-- and the other way round
pub stands_here : (v : Version) (s : State) (db : Trees) (r : Register) → HoldsRegister v s.now.trees r → s.now.schema ≡ schema_of v → db ≡ s.committed.trees
    → s.now ≡ s.committed → IsDatabase s.now → RepresentsIn v db r
stands_here v s db r holds has is settled live =
    let trees : s.now.trees ≡ db = ap (λ (d : Database). d.trees) settled ∙ sym is in
    record {
      sound = subst (λ (t : Trees). IsSound (schema_of v) t) trees (subst (λ (schema : Schema). IsSound schema s.now.trees) has live);
      holds = subst (λ (t : Trees). HoldsRegister v t r) trees holds;
    }

-- the two versions have other tables
pub apart : schema_of First ≡ schema_of Second → ⊥
apart e = let wrong : length (schema_of First).tables ≡ length (schema_of Second).tables = ap (λ (s : Schema). length s.tables) e in cc

-- a schema is that of one version
pub one_version : (v w : Version) → schema_of v ≡ schema_of w → v ≡ w
one_version First First e = refl
one_version Second Second e = refl
one_version First Second e = absurd (apart e)
one_version Second First e = absurd (apart (sym e))
