-- What the tables have, by name and by row: what the log leaves there.
use Rattle.std.proofs.Common.{◌≡◌, ◌∷◌, [], ℕ, List, Bool, true, false, cond, Option, Some, None, option_map, if◌then◌else◌, refl, sym, ◌∙◌, ap}
use Rattle.std.proofs.lemmas.Bool.{false≢true}
use Rattle.sx_values.specs.declared.value.Value.{Value}
use Rattle.sx_values.specs.declared.catalog.Declared.{Declared}
use Rattle.sx_values.specs.Catalogs.{declared_as}
use Rattle.sx_values.specs.Names.{same_name}
use Rattle.sx_values.proofs.KeyLaws.{same_name_tells}
use Rattle.sx_log.specs.declared.record.Rec.{Rec}
use Rattle.sx_log.specs.declared.record.Body.TheVariants.{Switch}
use Rattle.sx_log.specs.State.{state_at, after_body}
use Rattle.sx_heap.specs.declared.tables.NamedTable.{NamedTable}
use Rattle.sx_heap.specs.Relations.{Relation, row_at}
use Rattle.sx_heap.specs.NamedTables.{table_named}
use Rattle.sx_ops.specs.declared.spec.Spec.{Spec}
use Rattle.sx_ops.specs.declared.spec.Spec.TheVariants.{Join, Split, Part, Union}
use Rattle.sx_ops.specs.Checks.{IsShaped, spec_fault, part_fault}
use Rattle.sx_ops.specs.Operators.{sources_of}
use Rattle.sx_txn.specs.Managed.{AreTables}
use Rattle.sx_core.specs.Kept.{shapes_of}

-- a table of this name that has the declared schema, and at each key what the log leaves there
pub record MeetsNamed (log : List Rec) (declared : Declared) (tables : List NamedTable) (name : List ℕ) : Type 0 where
  pub relation : Relation
  pub found : table_named tables name ≡ Some relation
  pub schema : relation.schema ≡ declared.schema
  pub rows : (key : List Value) → row_at relation.rows key ≡ state_at log name key

declared_first : (c d : Declared) (b : Bool) (rest : Option Declared) → b ≡ true → cond b (Some c) rest ≡ Some d → c ≡ d
declared_first c d true rest is found = cc
declared_first c d false rest is found = absurd (false≢true is)

declared_rest : (c : Declared) (answer : Option Declared) (b : Bool) (rest : Option Declared) → b ≡ false → cond b (Some c) rest ≡ answer → rest ≡ answer
declared_rest c answer true rest is found = absurd (false≢true (sym is))
declared_rest c answer false rest is found = found

not_first : (c : Declared) (b : Bool) (rest : Option Declared) → cond b (Some c) rest ≡ None → b ≡ false
not_first c true rest is = cc
not_first c false rest is = refl

-- a declared name has its table
pub meets_named : (catalog : List Declared) (log : List Rec) (tables : List NamedTable) (name : List ℕ) (d : Declared)
    → AreTables log (shapes_of catalog) tables → declared_as catalog name ≡ Some d → MeetsNamed log d tables name
meets_named [] log tables name d meets is = absurd (cc)
meets_named (c ∷ catalog) log [] name d meets is = absurd meets
meets_named (c ∷ catalog) log (t ∷ tables) name d meets is = by (same_name c.name name) refl (λ other. meets_named catalog log tables name d meets.1 (declared_rest c (Some d) (same_name c.name name) (declared_as catalog name) other is))
  where
    by : (b : Bool) → same_name c.name name ≡ b → (same_name c.name name ≡ false → MeetsNamed log d tables name) → MeetsNamed log d (t ∷ tables) name
    by true named again =
        let one = declared_first c d (same_name c.name name) (declared_as catalog name) named is in
        let here : same_name t.name name ≡ true = ap (λ n. same_name n name) meets.0.name ∙ named in
        record {
          relation = t.table;
          found = rw here refl;
          schema = meets.0.schema ∙ ap (λ (x : Declared). x.schema) one;
          rows = λ key. meets.0.rows key ∙ ap (λ n. state_at log n key) (same_name_tells c.name name named);
        }
    by false other again =
        let rest = again other in
        let apart : same_name t.name name ≡ false = ap (λ n. same_name n name) meets.0.name ∙ other in
        record { relation = rest.relation; found = rw apart rest.found; schema = rest.schema; rows = rest.rows }

-- a name that isn't declared has none
pub meets_unnamed : (catalog : List Declared) (log : List Rec) (tables : List NamedTable) (name : List ℕ)
    → AreTables log (shapes_of catalog) tables → declared_as catalog name ≡ None → table_named tables name ≡ None
meets_unnamed [] log [] name meets is = refl
meets_unnamed [] log (t ∷ tables) name meets is = absurd meets
meets_unnamed (c ∷ catalog) log [] name meets is = absurd meets
meets_unnamed (c ∷ catalog) log (t ∷ tables) name meets is =
    let other = not_first c (same_name c.name name) (declared_as catalog name) is in
    let apart : same_name t.name name ≡ false = ap (λ n. same_name n name) meets.0.name ∙ other in
    rw apart (meets_unnamed catalog log tables name meets.1 (declared_rest c None (same_name c.name name) (declared_as catalog name) other is))

-- a table that is found has at each key what the log leaves there
pub found_meets : (catalog : List Declared) (log : List Rec) (tables : List NamedTable) (name : List ℕ) (source : Relation)
    → AreTables log (shapes_of catalog) tables → table_named tables name ≡ Some source → (key : List Value) → row_at source.rows key ≡ state_at log name key
found_meets catalog log tables name source meets is = by (declared_as catalog name) refl
  where
    by : (answer : Option Declared) → declared_as catalog name ≡ answer → (key : List Value) → row_at source.rows key ≡ state_at log name key
    by None none =
        let absent = meets_unnamed catalog log tables name meets none in
        absurd (missing (sym absent ∙ is))
      where
        missing : None ≡ Some source → ⊥
        missing h = cc
    by (Some d) declared =
        let named = meets_named catalog log tables name d meets declared in
        λ key. ap (λ (r : Relation). row_at r.rows key) (same named.relation (sym is ∙ named.found)) ∙ named.rows key
      where
        same : (other : Relation) → Some source ≡ Some other → source ≡ other
        same other h = cc

-- the one source of a transformation, with its table
pub record HasSource (catalog : List Declared) (log : List Rec) (tables : List NamedTable) (spec : Spec) : Type 0 where
  pub name : List ℕ
  pub one : sources_of spec ≡ name ∷ []
  pub declared : Declared
  pub is_declared : declared_as catalog name ≡ Some declared
  pub meets : MeetsNamed log declared tables name

-- a transformation that fits has its source among the tables
pub has_source : (catalog : List Declared) (log : List Rec) (tables : List NamedTable) (spec : Spec)
    → AreTables log (shapes_of catalog) tables → IsShaped spec → spec_fault catalog spec ≡ None → HasSource catalog log tables spec
has_source catalog log tables (Part table tests passing failing) meets shaped fits = by (declared_as catalog table) refl fits
  where
    by : (answer : Option Declared) → declared_as catalog table ≡ answer → part_fault catalog (if elim answer [ None ↦ false | Some t ↦ t.source ] then option_map (λ (t : Declared). t.schema) answer else None) table tests passing failing ≡ None → HasSource catalog log tables (Part table tests passing failing)
    by None none fault = absurd (cc)
    by (Some d) is fault = record { name = table; one = refl; declared = d; is_declared = is; meets = meets_named catalog log tables table d meets is }
has_source catalog log tables (Join left right on_left on_right into) meets shaped fits = absurd shaped
has_source catalog log tables (Split table dep_by dep rest dependent) meets shaped fits = absurd shaped
has_source catalog log tables (Union left right into) meets shaped fits = absurd shaped

pub state-switch : (log : List Rec) (txn : ℕ) (name : List ℕ) (key : List Value) → state_at (record { txn = txn; body = Switch } ∷ log) name key ≡ state_at log name key
unfolding after_body
state-switch log txn name key = refl
