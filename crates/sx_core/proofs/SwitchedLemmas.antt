-- The switch, from what the machine was to what it is: the tables of the image are those that the transformation gives, and the machine keeps what it kept.
use Rattle.std.proofs.Common.{◌≡◌, ◌≤◌, ◌+◌, ◌-◌, ◌++◌, ◌∷◌, [], ℕ, List, length, map, take, Option, Some, None, IfSome, IsSome, option_map, refl, sym, ◌∙◌, ap, subst, inl, inr, arith}
use Rattle.std.specs.Prelude.{nat_lt}
use Rattle.std.proofs.lemmas.Bool.Decides.{nat_tests}
use Rattle.std.proofs.lemmas.List.{length-map, map-append, take_all, append-nil}
use Rattle.sx_lists.specs.Places.{following}
use Rattle.sx_values.specs.declared.value.Value.{Value}
use Rattle.sx_values.specs.declared.catalog.Declared.{Declared}
use Rattle.sx_values.specs.Catalogs.{declared_as, schema_of}
use Rattle.sx_values.specs.Layouts.{Layout}
use Rattle.sx_log.specs.declared.record.Rec.{Rec}
use Rattle.sx_log.specs.declared.record.Body.TheVariants.{Switch as Switching}
use Rattle.sx_log.specs.State.{state_at, row_left, after_body}
use Rattle.sx_log.specs.Images.{FitsTables}
use Rattle.sx_heap.specs.declared.seen.Seen.{Seen}
use Rattle.sx_heap.specs.declared.tables.NamedTable.{NamedTable}
use Rattle.sx_heap.specs.Relations.{Relation, IsRelation, row_at}
use Rattle.sx_heap.specs.NamedTables.{AreNamedApart, table_named}
use Rattle.sx_locks.specs.Locks.{SameLocks}
use Rattle.sx_txn.specs.Managed.{Managed, Unchanged, SameBut, OwnMeets, schema_in, shape_of}
use Rattle.sx_txn.specs.Turns.{Notes}
use Rattle.sx_ops.specs.declared.spec.Spec.TheVariants.{Part}
use Rattle.sx_ops.specs.declared.spec.Test.{Test}
use Rattle.sx_ops.specs.Checks.{IsShaped, spec_fault}
use Rattle.sx_ops.specs.Operators.{sources_of, operator, split_rows, columns_in}
use Rattle.sx_ops.specs.Targets.{targets, part_targets}
use Rattle.sx_copy.specs.FreshTables.{bare_rows, fresh_tables}
use Rattle.sx_image.specs.declared.image.Kind.{Kind}
use Rattle.sx_image.specs.Images.{StandsFor, CanFollow, AreCopied, copy_behind_all}
use Rattle.sx_sync.specs.declared.Phase.{Phase}
use Rattle.sx_sync.specs.declared.Phase.TheVariants.{Scanning, Chasing, Draining, Done}
use Rattle.sx_journal.specs.declared.entry.Entry.{Entry}
use Rattle.sx_journal.specs.declared.entry.Event.TheVariants.{Switch}
use Rattle.sx_journal.specs.declared.entry.Reply.TheVariants as reply
use Rattle.sx_model.specs.Effects.{effect, Switches}
use Rattle.sx_model.specs.Openings.{Opening}
use Rattle.sx_model.specs.Leaves.{Started, started, phase}
use Rattle.sx_model.specs.Logs.{log_of, next_lsn}
use Rattle.sx_model.specs.Known.{adopted, new_tables, named_in, known}
use Rattle.sx_model.specs.NewRows.{rows_of, given, state_from, state_in}
use Rattle.sx_model.specs.Copies.{copy}
use Rattle.sx_model.specs.Switches.{attempt_reply, switch_reply, position, position_after}
use Rattle.sx_model.specs.Legal.{Legal, IsLegalEntry}
use Rattle.sx_model.proofs.CopyLaws.{redone_now}
use Rattle.sx_model.proofs.EntryLaws.{living_by, log-switched}
use Rattle.sx_model.proofs.FitLaws.{declared_fit}
use Rattle.sx_model.proofs.ImageLaws.{AllFit}
use Rattle.sx_model.proofs.NowLaws.{declared_kept, switched_state}
use Rattle.sx_model.proofs.RestLaws.{declared_first}
use Rattle.sx_model.proofs.RowListLaws.{rows_of_are, rows_unique}
use Rattle.sx_model.proofs.SpecLaws.{PartFits, part_fits}
use Rattle.sx_model.proofs.TestLaws.{by_cases}
use Rattle.sx_core.specs.Machines.{Machine}
use Rattle.sx_core.specs.Kept.{Fields, ManagerMeets, ScanMeets, IsKept, shapes_of, shown_in, shown_now, stored_in}
use Rattle.sx_core.specs.Asked.{HasPlace, IsScanned}
use Rattle.sx_core.specs.Sources.{source_table}
use Rattle.sx_core.specs.Stands.{Stands, StandsIn, StandsNow}
use Rattle.sx_core.specs.Switching.{AreFresh}
use Rattle.sx_core.proofs.FreshLemmas.{table_shape, stored_there, stored_behind, stored_fresh, part_shapes, part_apart, bare_are, following_ends, following_fit, following_redone}
use Rattle.sx_core.proofs.StoredLemmas.{row_of, stored-is}
use Rattle.sx_core.proofs.ManagerLemmas.{begun_by, living_same, ending_same, locks_same}
use Rattle.sx_core.proofs.ClientLemmas.{schema_shape, place_here}
use Rattle.sx_core.proofs.FetchLemmas.{own_entry}
use Rattle.sx_core.proofs.AttemptLemmas.{legal-switch, scanned_here, known_scanned, none_shown_yet, Aside}
use Rattle.sx_core.proofs.ReadyLemmas.{spec_there, under_holds, scanned_answer}
use Rattle.sx_core.proofs.TurnLemmas.{Holds, from_view, by_one, Took, took, opened, phase_by, started_told, same-stored, unchanged_meets, next_there}

-- ** the tail **

-- an attempt that is answered Switched has at most 256 records to read
tail_fits : (o : Opening) (past : List Entry) (s : Started) (lsn : ℕ) → IsScanned (phase past) → started past ≡ Some s → switch_reply o past ≡ reply.Switched lsn → length (log_of o past) ≤ position o past + 256
tail_fits o past s lsn scanned is answered =
    let asked = sym (scanned_answer o past scanned ∙ ap (attempt_reply o past) is) ∙ answered in
    by_cases (nat_lt 256 (length (log_of o past) - position o past)) (λ many. absurd (let e : reply.Unread (position o past) (length (log_of o past)) ≡ reply.Switched lsn = rw many at asked in cc))
    (λ few. let e : length (log_of o past) - position o past ≤ 256 = grind (arith, nat_tests) in omega arith)

stands_here : (o : Opening) (past : List Entry) (image : Kind) (s : Started) → IsScanned (phase past) → started past ≡ Some s → Stands o past image → StandsFor o.catalog s.spec (copy o past) (position o past) image
stands_here o past image s (inl at) is stands = subst (StandsNow o past image) is (subst (StandsIn o past image) at stands)
stands_here o past image s (inr at) is stands = subst (StandsNow o past image) is (subst (StandsIn o past image) at stands)

not_done : (at : Phase) → IsScanned at → at ≡ Done → ⊥
not_done at (inl is) done = (let e : Chasing ≡ Done = sym is ∙ done in cc)
not_done at (inr is) done = (let e : Draining ≡ Done = sym is ∙ done in cc)

not_scanning : (at : Phase) → IsScanned at → at ≡ Scanning → ⊥
not_scanning at (inl is) scanning = (let e : Chasing ≡ Scanning = sym is ∙ scanning in cc)
not_scanning at (inr is) scanning = (let e : Draining ≡ Scanning = sym is ∙ scanning in cc)

-- what an attempt that can switch has: its image stands, and its transformation is under way
pub record CanSwitch (o : Opening) (past : List Entry) (m : Managed) (image : Kind) (s : Started) (table : List ℕ) (tests : List Test) (passing failing : List ℕ) : Type 0 where
  pub loads : AllFit (schema_of o.catalog) o.loads
  pub legal : Legal o past
  pub meets : ManagerMeets o past m
  pub shapes : m.shapes ≡ map shape_of m.tables
  pub apart : AreNamedApart m.tables
  pub relation : IfSome (table_named m.tables table) IsRelation
  pub scanned : IsScanned (phase past)
  pub stands : Stands o past image
  pub few : length (log_of o past) ≤ position o past + 256
  pub this : started past ≡ Some s
  pub is : s.spec ≡ Part table tests passing failing
  pub shaped : IsShaped s.spec
  pub fits : PartFits o.catalog table passing failing
  pub behind : s.mark ≤ position o past
  pub read : position o past ≤ length (log_of o past)

follows_here : (o : Opening) (past : List Entry) (m : Managed) (image : Kind) (s : Started) (table : List ℕ) (tests : List Test) (passing failing : List ℕ) → CanSwitch o past m image s table tests passing failing → CanFollow (following (log_of o past) (position o past) 256) (length (log_of o past)) image
follows_here o past m image s table tests passing failing can = record {
  catalog = o.catalog;
  spec = s.spec;
  copy = copy o past;
  place = position o past;
  stands = stands_here o past image s can.scanned can.this can.stands;
  ends = following_ends (log_of o past) (position o past) can.read can.few;
  fit = following_fit (λ (r : Rec). FitsTables (schema_of o.catalog) r.body) (log_of o past) (position o past) can.read can.few (declared_fit o past can.loads can.legal (not_done (phase past) can.scanned));
}

-- ** the source **

from_none : (log : List Rec) (table : List ℕ) (key : List Value) → state_from None log table key ≡ state_at log table key
from_none [] table key = refl
from_none (r ∷ log) table key = ap (after_body (length log + 1) r.body table key) (from_none log table key)

-- before the switch the tables are the declared ones
schema_there : (o : Opening) (past : List Entry) (m : Managed) (name : List ℕ) → ManagerMeets o past m → IsScanned (phase past) → schema_in m.shapes name ≡ schema_of o.catalog name
schema_there o past m name meets scanned =
    ap (λ shapes. schema_in shapes name) (meets.shapes ∙ ap (λ shown. shapes_of (o.catalog ++ shown)) (none_shown_yet o past scanned) ∙ ap shapes_of (append-nil o.catalog)) ∙ schema_shape o.catalog name

table_schema : (o : Opening) (past : List Entry) (m : Managed) (name : List ℕ) → ManagerMeets o past m → m.shapes ≡ map shape_of m.tables → IsScanned (phase past) → option_map (λ (r : Relation). r.schema) (table_named m.tables name) ≡ schema_of o.catalog name
table_schema o past m name meets shapes scanned = sym (table_shape m.tables name) ∙ ap (λ l. schema_in l name) (sym shapes) ∙ schema_there o past m name meets scanned

record Found (found : Option Relation) (layout : Layout) : Type 0 where
  r : Relation
  is : found ≡ Some r
  schema : r.schema ≡ layout

found_with : (found : Option Relation) (layout : Layout) → option_map (λ (r : Relation). r.schema) found ≡ Some layout → Found found layout
found_with None layout is = absurd (cc)
found_with (Some r) layout is = record { r = r; is = refl; schema = cc }

none_found : (found : Option Relation) → option_map (λ (r : Relation). r.schema) found ≡ None → found ≡ None
none_found None is = refl
none_found (Some r) is = absurd (cc)

some_found : (found : Option Relation) (layout : Layout) → option_map (λ (r : Relation). r.schema) found ≡ Some layout → IsSome found
some_found None layout is = absurd (cc)
some_found (Some r) layout is = refl

declared_schema : (found : Option Declared) (layout : Layout) → option_map (λ (d : Declared). d.schema) found ≡ Some layout → IsSome found
declared_schema None layout is = absurd (cc)
declared_schema (Some d) layout is = refl

if_found : (found : Option Relation) (r : Relation) → found ≡ Some r → IfSome found IsRelation → IsRelation r
if_found found r is all = subst (λ f. IfSome f IsRelation) is all

-- the source's rows are those of the copy behind the tail
record SourceThere (o : Opening) (past : List Entry) (m : Managed) (table : List ℕ) (layout : Layout) : Type 0 where
  rows : List Seen
  relation : IsRelation (record { schema = layout; rows = rows })
  has : (key : List Value) → row_at rows key ≡ state_at (log_of o past) table key

source_there : (o : Opening) (past : List Entry) (m : Managed) (image : Kind) (s : Started) (table : List ℕ) (tests : List Test) (passing failing : List ℕ) → (can : CanSwitch o past m image s table tests passing failing) → SourceThere o past m table can.fits.layout
source_there o past m image s table tests passing failing can =
    let schema = table_schema o past m table can.meets can.shapes can.scanned ∙ can.fits.source in
    let at = found_with (table_named m.tables table) can.fits.layout schema in
    let there : IsSome (schema_in m.shapes table) = subst IsSome (sym (schema_there o past m table can.meets can.scanned ∙ can.fits.source)) refl in
    let declared = declared_schema (declared_as o.catalog table) can.fits.layout can.fits.source in
    record {
      rows = at.r.rows;
      relation = subst (λ schema. IsRelation (record { schema = schema; rows = at.r.rows })) at.schema (if_found (table_named m.tables table) at.r at.is can.relation);
      has = λ key.
          ap (λ found. row_of found key) (sym at.is) ∙ sym (stored-is m.tables table key) ∙ can.meets.rows table key there
          ∙ ap (λ first. state_from first (log_of o past) table key) (declared_first o past (log_of o past) table key declared) ∙ from_none (log_of o past) table key;
    }

-- the tables of the image behind the tail are those that the transformation gives
fresh_given : (o : Opening) (past : List Entry) (m : Managed) (image : Kind) (s : Started) (table : List ℕ) (tests : List Test) (passing failing : List ℕ) (tables : List NamedTable)
    → CanSwitch o past m image s table tests passing failing → AreFresh (log_of o past) (position o past) image tables → tables ≡ fresh_tables (targets o.catalog s.spec) (given o.catalog (log_of o past) s.spec)
fresh_given o past m image s table tests passing failing tables can fresh =
    let one : sources_of s.spec ≡ table ∷ [] = ap sources_of can.is in
    let there = source_there o past m image s table tests passing failing can in
    let declared = declared_schema (declared_as o.catalog table) can.fits.layout can.fits.source in
    let has : (key : List Value) → copy_behind_all s.spec (position o past) (following (log_of o past) (position o past) 256) (copy o past) 0 key ≡ row_at there.rows key =
    λ key. following_redone s.spec table (log_of o past) (position o past) (copy o past) key one can.read can.few
    ∙ redone_now o past s table key can.legal can.this one declared (not_scanning (phase past) can.scanned) can.behind can.read ∙ sym (there.has key) in
    let relation : IfSome (schema_of o.catalog table) (λ schema. IsRelation (record { schema = schema; rows = there.rows })) = subst (λ l. IfSome l (λ schema. IsRelation (record { schema = schema; rows = there.rows }))) (sym can.fits.source) there.relation in
    let copied : AreCopied o.catalog (sources_of s.spec) 0 (copy_behind_all s.spec (position o past) (following (log_of o past) (position o past) 256) (copy o past)) (there.rows ∷ []) =
    subst (λ names. AreCopied o.catalog names 0 (copy_behind_all s.spec (position o past) (following (log_of o past) (position o past) 256) (copy o past)) (there.rows ∷ [])) (sym one) ((relation, has), tt) in
    let same : bare_rows there.rows ≡ rows_of (log_of o past) table =
    rows_unique can.fits.layout (row_left (log_of o past) table) (bare_rows there.rows) (rows_of (log_of o past) table) (bare_are can.fits.layout (log_of o past) table there.rows there.relation there.has)
    (rows_of_are (schema_of o.catalog) can.fits.layout (log_of o past) table (declared_fit o past can.loads can.legal (not_done (phase past) can.scanned)) can.fits.source) in
    fresh o.catalog s.spec (copy o past) (there.rows ∷ []) (stands_here o past image s can.scanned can.this can.stands) copied
    ∙ ap (λ rows. fresh_tables (targets o.catalog s.spec) (operator o.catalog s.spec (rows ∷ []))) same
    ∙ ap (λ names. fresh_tables (targets o.catalog s.spec) (operator o.catalog s.spec (map (rows_of (log_of o past)) names))) (sym one)

-- the same of a horizontal split
fresh_part : (o : Opening) (past : List Entry) (m : Managed) (image : Kind) (s : Started) (table : List ℕ) (tests : List Test) (passing failing : List ℕ) (tables : List NamedTable)
    → CanSwitch o past m image s table tests passing failing → tables ≡ fresh_tables (targets o.catalog s.spec) (given o.catalog (log_of o past) s.spec)
    → tables ≡ fresh_tables (part_targets (schema_of o.catalog table) passing failing) (split_rows (columns_in (schema_of o.catalog table)) tests (rows_of (log_of o past) table ∷ []))
fresh_part o past m image s table tests passing failing tables can made = made ∙ ap (λ spec. fresh_tables (targets o.catalog spec) (given o.catalog (log_of o past) spec)) can.is

-- ** no two tables have one name **

undeclared : (o : Opening) (past : List Entry) (m : Managed) (name : List ℕ) → ManagerMeets o past m → m.shapes ≡ map shape_of m.tables → IsScanned (phase past) → declared_as o.catalog name ≡ None → table_named m.tables name ≡ None
undeclared o past m name meets shapes scanned none = none_found (table_named m.tables name) (table_schema o past m name meets shapes scanned ∙ ap (option_map (λ (d : Declared). d.schema)) none)

fresh_apart : (o : Opening) (past : List Entry) (m : Managed) (image : Kind) (s : Started) (table : List ℕ) (tests : List Test) (passing failing : List ℕ) (tables : List NamedTable)
    → CanSwitch o past m image s table tests passing failing → tables ≡ fresh_tables (targets o.catalog s.spec) (given o.catalog (log_of o past) s.spec) → AreNamedApart (m.tables ++ tables)
fresh_apart o past m image s table tests passing failing tables can made =
    subst (λ l. AreNamedApart (m.tables ++ l)) (sym (fresh_part o past m image s table tests passing failing tables can made))
    (part_apart m.tables (schema_of o.catalog table) tests passing failing (rows_of (log_of o past) table) can.apart
    (undeclared o past m passing can.meets can.shapes can.scanned can.fits.passing_new) (undeclared o past m failing can.meets can.shapes can.scanned can.fits.failing_new) can.fits.apart)

-- ** the manager behind the switch **

shown_done : (o : Opening) (past : List Entry) (e : Entry) (s : Started) → effect e.reply ≡ Switches → started past ≡ Some s → shown_now o (e ∷ past) ≡ map adopted (targets o.catalog s.spec)
shown_done o past e s told this =
    ap (λ at. map adopted (shown_in at (new_tables o.catalog (started (e ∷ past))))) (phase_by past e Switches told)
    ∙ ap (λ is. map adopted (new_tables o.catalog is)) (started_told past e Switches told ∙ this)

fresh_shapes : (o : Opening) (past : List Entry) (m : Managed) (image : Kind) (s : Started) (table : List ℕ) (tests : List Test) (passing failing : List ℕ) (tables : List NamedTable)
    → CanSwitch o past m image s table tests passing failing → tables ≡ fresh_tables (targets o.catalog s.spec) (given o.catalog (log_of o past) s.spec) → map shape_of tables ≡ shapes_of (map adopted (targets o.catalog s.spec))
fresh_shapes o past m image s table tests passing failing tables can made =
    ap (map shape_of) (fresh_part o past m image s table tests passing failing tables can made)
    ∙ part_shapes (schema_of o.catalog table) tests passing failing (rows_of (log_of o past) table)
    ∙ sym (ap (λ spec. shapes_of (map adopted (targets o.catalog spec))) can.is)

shapes_switched : (o : Opening) (past : List Entry) (m put n : Managed) (image : Kind) (s : Started) (table : List ℕ) (tests : List Test) (passing failing : List ℕ) (tables : List NamedTable) (e : Entry) (lsn : ℕ)
    → CanSwitch o past m image s table tests passing failing → tables ≡ fresh_tables (targets o.catalog s.spec) (given o.catalog (log_of o past) s.spec) → effect e.reply ≡ Switches → put.tables ≡ m.tables ++ tables → SameBut m put → Notes put n Switching lsn
    → n.shapes ≡ shapes_of (o.catalog ++ shown_now o (e ∷ past))
shapes_switched o past m put n image s table tests passing failing tables e lsn can made told is_put same notes =
    let own : map shape_of m.tables ≡ shapes_of o.catalog =
    sym can.shapes ∙ can.meets.shapes ∙ ap (λ shown. shapes_of (o.catalog ++ shown)) (none_shown_yet o past can.scanned) ∙ ap shapes_of (append-nil o.catalog) in
    notes.alive.shapes ∙ same.shapes ∙ ap (map shape_of) is_put ∙ map-append shape_of m.tables tables
    ∙ ap (λ l. l ++ map shape_of tables) own
    ∙ ap (λ l. shapes_of o.catalog ++ l) (fresh_shapes o past m image s table tests passing failing tables can made)
    ∙ sym (map-append (λ (d : Declared). record { name = d.name; schema = d.schema }) o.catalog (map adopted (targets o.catalog s.spec)))
    ∙ ap (λ shown. shapes_of (o.catalog ++ shown)) (sym (shown_done o past e s told can.this))

rows_switched : (o : Opening) (past : List Entry) (m put n : Managed) (image : Kind) (s : Started) (table : List ℕ) (tests : List Test) (passing failing : List ℕ) (tables : List NamedTable) (e : Entry) (lsn : ℕ)
    → CanSwitch o past m image s table tests passing failing → tables ≡ fresh_tables (targets o.catalog s.spec) (given o.catalog (log_of o past) s.spec) → Legal o (e ∷ past) → effect e.reply ≡ Switches → put.tables ≡ m.tables ++ tables → Notes put n Switching lsn
    → (name : List ℕ) (key : List Value) → stored_in n.tables name key ≡ state_in o (e ∷ past) (log_of o (e ∷ past)) name key
rows_switched o past m put n image s table tests passing failing tables e lsn can made legal told is_put notes name key =
    same-stored put.tables n.tables name key notes.rows ∙ ap (λ l. stored_in l name key) is_put ∙ by (declared_as o.catalog name) refl
  where
    by : (found : Option Declared) → declared_as o.catalog name ≡ found → stored_in (m.tables ++ tables) name key ≡ state_in o (e ∷ past) (log_of o (e ∷ past)) name key
    by None none =
        stored_behind m.tables tables name key (undeclared o past m name can.meets can.shapes can.scanned none)
        ∙ ap (λ l. stored_in l name key) made
        ∙ stored_fresh (targets o.catalog s.spec) (given o.catalog (log_of o past) s.spec) name key
        ∙ sym (switched_state o past e s name key can.loads legal told can.this (not_done (phase past) can.scanned) none)
    by (Some d) is =
        let schema : schema_of o.catalog name ≡ Some d.schema = ap (option_map (λ (d : Declared). d.schema)) is in
        let found = some_found (table_named m.tables name) d.schema (table_schema o past m name can.meets can.shapes can.scanned ∙ schema) in
        let there : IsSome (schema_in m.shapes name) = subst IsSome (sym (schema_there o past m name can.meets can.scanned ∙ schema)) refl in
        let declared : IsSome (declared_as o.catalog name) = subst IsSome (sym is) refl in
        stored_there m.tables tables name key found ∙ can.meets.rows name key there ∙ sym (declared_kept o past e name key told declared)

meets-switched : (o : Opening) (past : List Entry) (m put n : Managed) (image : Kind) (s : Started) (table : List ℕ) (tests : List Test) (passing failing : List ℕ) (tables : List NamedTable) (e : Entry) (lsn : ℕ)
    → CanSwitch o past m image s table tests passing failing → tables ≡ fresh_tables (targets o.catalog s.spec) (given o.catalog (log_of o past) s.spec) → Legal o (e ∷ past) → effect e.reply ≡ Switches → put.tables ≡ m.tables ++ tables → SameBut m put → Notes put n Switching lsn
    → ManagerMeets o (e ∷ past) n
meets-switched o past m put n image s table tests passing failing tables e lsn can made legal told is_put same notes = record {
  shapes = shapes_switched o past m put n image s table tests passing failing tables e lsn can made told is_put same notes;
  own = notes.alive.own ∙ same.own ∙ can.meets.own;
  log_is = notes.log ∙ ap (λ l. record { txn = 0; body = Switching } ∷ l) (same.log ∙ can.meets.log_is) ∙ sym (log-switched o past e told);
  rows = λ name key there. rows_switched o past m put n image s table tests passing failing tables e lsn can made legal told is_put notes name key;
  begun = notes.alive.begun ∙ same.begun ∙ can.meets.begun ∙ sym (begun_by past e Switches told);
  living = living_same o past m n e Switches can.meets (notes.alive.living ∙ same.living) told refl;
  ending = ending_same o past m n e Switches can.meets (notes.alive.living ∙ same.living) told refl;
  locks = locks_same o past m n e Switches can.meets (subst (λ l. SameLocks l n.locks) same.locks notes.locks) told (λ t table key. refl);
}

-- ** the turn **

pub effect-switched : (lsn : ℕ) → effect (reply.Switched lsn) ≡ Switches
unfolding effect
effect-switched lsn = refl

known_done : (o : Opening) (past : List Entry) → phase past ≡ Done → known o past ≡ o.catalog ++ map adopted (new_tables o.catalog (started past))
known_done o past done = ap (λ at. o.catalog ++ map adopted (named_in at (new_tables o.catalog (started past)))) done

switched-kept : (o : Opening) (past : List Entry) (f g : Fields) (e : Entry) → IsKept o past f → IsLegalEntry o past e → effect e.reply ≡ Switches → IsScanned (phase past) → ManagerMeets o (e ∷ past) g.managed → Aside f g → g.now ≡ Done → IsKept o (e ∷ past) g
switched-kept o past f g e kept entry told scanned meets aside now =
    let at : phase (e ∷ past) ≡ Done = phase_by past e Switches told in
    let is = started_told past e Switches told in
    record {
      opened = kept.opened;
      loads_fit = kept.loads_fit;
      legal = (kept.legal, entry);
      manager_meets = meets;
      clients_are = aside.clients ∙ kept.clients_are ∙ sym (living_by past e Switches told);
      room = aside.room;
      phase_is = now ∙ sym at;
      known_is = aside.known ∙ kept.known_is ∙ known_scanned o past scanned ∙ ap (λ s. o.catalog ++ map adopted (new_tables o.catalog s)) (sym is) ∙ sym (known_done o (e ∷ past) at);
      spec_is = aside.spec ∙ kept.spec_is ∙ ap (option_map (λ (s : Started). s.spec)) (sym is);
      position_is = aside.position ∙ kept.position_is ∙ sym (ap (λ f. position_after (length (log_of o (e ∷ past))) f (position o past)) told);
      scan_meets = subst (λ p. ScanMeets o (e ∷ past) g.cursor p (started (e ∷ past))) (sym at) (rests (started (e ∷ past)));
    }
  where
    rests : (s : Option Started) → ScanMeets o (e ∷ past) g.cursor Done s
    rests s = tt

-- what is known before the switch: the manager has made room, and lends its tables
pub record Attempted (catalog : List Declared) (loads : ℕ) (past : List Entry) (f : Fields) (m : Machine) (between : Managed) (image : Kind) (lent : List NamedTable) : Type 0 where
  pub holds : Holds catalog loads past f m
  pub place : HasPlace m
  pub scanned : IsScanned (phase m.past)
  pub stands : Stands m.opening m.past image
  pub answered : switch_reply m.opening m.past ≡ reply.Switched (next_lsn m.opening m.past)
  pub stays : Unchanged f.managed between
  pub meets : OwnMeets between
  pub lends : lent ≡ take between.own between.tables
  pub apart : AreNamedApart lent
  pub relation : IfSome (source_table f.spec lent) IsRelation

-- the manager has no other tables
pub own_alone : (catalog : List Declared) (loads : ℕ) (past : List Entry) (f : Fields) (m : Machine) (between : Managed) (image : Kind) (lent : List NamedTable) → Attempted catalog loads past f m between image lent → length between.tables ≡ between.own
own_alone catalog loads past f m between image lent a =
    let meets = unchanged_meets (opened catalog loads f.managed.log) past f.managed between a.holds.kept.manager_meets a.stays in
    let scanned = scanned_here catalog loads past f m a.holds a.scanned in
    let shapes : between.shapes ≡ shapes_of catalog = meets.shapes ∙ ap (λ shown. shapes_of (catalog ++ shown)) (none_shown_yet (opened catalog loads f.managed.log) past scanned) ∙ ap shapes_of (append-nil catalog) in
    sym (length-map between.tables shape_of) ∙ ap length (sym a.meets.shapes ∙ shapes) ∙ length-map catalog (λ (d : Declared). record { name = d.name; schema = d.schema }) ∙ sym meets.own

lent_all : (catalog : List Declared) (loads : ℕ) (past : List Entry) (f : Fields) (m : Machine) (between : Managed) (image : Kind) (lent : List NamedTable) → Attempted catalog loads past f m between image lent → lent ≡ between.tables
lent_all catalog loads past f m between image lent a =
    let alone = own_alone catalog loads past f m between image lent a in
    a.lends ∙ take_all between.own between.tables (omega arith)

-- so it can
record Able (catalog : List Declared) (loads : ℕ) (past : List Entry) (f : Fields) (between : Managed) (image : Kind) : Type 0 where
  s : Started
  table : List ℕ
  tests : List Test
  passing : List ℕ
  failing : List ℕ
  can : CanSwitch (opened catalog loads f.managed.log) past between image s table tests passing failing

able : (catalog : List Declared) (loads : ℕ) (past : List Entry) (f : Fields) (m : Machine) (between : Managed) (image : Kind) (lent : List NamedTable) → Attempted catalog loads past f m between image lent → Able catalog loads past f between image
able catalog loads past f m between image lent a =
    let u = under_holds catalog loads past f m a.holds a.scanned in
    let at = spec_there catalog loads past f m a.holds a.scanned in
    let scanned = scanned_here catalog loads past f m a.holds a.scanned in
    let all = lent_all catalog loads past f m between image lent a in
    let answered = from_view (λ (x : Machine). switch_reply x.opening x.past ≡ reply.Switched (next_lsn x.opening x.past)) (opened catalog loads f.managed.log) past m a.holds.view a.answered in
    let named : source_table f.spec lent ≡ table_named between.tables at.table = ap (λ spec. source_table spec lent) at.kept ∙ ap (λ l. table_named l at.table) all in
    let fault : spec_fault catalog (Part at.table at.tests at.passing at.failing) ≡ None = subst (λ spec. spec_fault catalog spec ≡ None) at.is u.fits in
    record {
      s = u.s;
      table = at.table;
      tests = at.tests;
      passing = at.passing;
      failing = at.failing;
      can = record {
        loads = a.holds.kept.loads_fit;
        legal = a.holds.kept.legal;
        meets = unchanged_meets (opened catalog loads f.managed.log) past f.managed between a.holds.kept.manager_meets a.stays;
        shapes = a.meets.shapes;
        apart = subst AreNamedApart all a.apart;
        relation = subst (λ found. IfSome found IsRelation) named a.relation;
        scanned = scanned;
        stands = from_view (λ (x : Machine). Stands x.opening x.past image) (opened catalog loads f.managed.log) past m a.holds.view a.stands;
        few = tail_fits (opened catalog loads f.managed.log) past u.s (next_lsn (opened catalog loads f.managed.log) past) scanned u.this answered;
        this = u.this;
        is = at.is;
        shaped = u.shaped;
        fits = part_fits catalog at.table at.passing at.failing at.tests fault;
        behind = u.behind;
        read = u.read;
      };
    }

-- the image can follow the log
pub can_follow : (catalog : List Declared) (loads : ℕ) (past : List Entry) (f : Fields) (m : Machine) (between : Managed) (image : Kind) (lent : List NamedTable) (log : List Rec) → Attempted catalog loads past f m between image lent → log ≡ between.log → CanFollow (following log f.position 256) (length log) image
can_follow catalog loads past f m between image lent log a is =
    let b = able catalog loads past f m between image lent a in
    let here = follows_here (opened catalog loads f.managed.log) past between image b.s b.table b.tests b.passing b.failing b.can in
    subst (λ l. CanFollow (following l f.position 256) (length l) image) (sym (is ∙ b.can.meets.log_is))
    (subst (λ p. CanFollow (following (log_of (opened catalog loads f.managed.log) past) p 256) (length (log_of (opened catalog loads f.managed.log) past)) image) (sym a.holds.kept.position_is) here)

fresh_here : (catalog : List Declared) (loads : ℕ) (past : List Entry) (f : Fields) (m : Machine) (between : Managed) (image : Kind) (lent tables : List NamedTable) (log : List Rec) → (a : Attempted catalog loads past f m between image lent) → log ≡ between.log → AreFresh log f.position image tables
    → tables ≡ fresh_tables (targets catalog (able catalog loads past f m between image lent a).s.spec) (given catalog (log_of (opened catalog loads f.managed.log) past) (able catalog loads past f m between image lent a).s.spec)
fresh_here catalog loads past f m between image lent tables log a is fresh =
    let b = able catalog loads past f m between image lent a in
    fresh_given (opened catalog loads f.managed.log) past between image b.s b.table b.tests b.passing b.failing tables b.can
    (subst (λ p. AreFresh (log_of (opened catalog loads f.managed.log) past) p image tables) a.holds.kept.position_is (subst (λ l. AreFresh l f.position image tables) (is ∙ b.can.meets.log_is) fresh))

-- the new tables' names are free
pub names_apart : (catalog : List Declared) (loads : ℕ) (past : List Entry) (f : Fields) (m : Machine) (between : Managed) (image : Kind) (lent tables : List NamedTable) (log : List Rec) → Attempted catalog loads past f m between image lent → log ≡ between.log → AreFresh log f.position image tables
    → AreNamedApart (between.tables ++ tables)
names_apart catalog loads past f m between image lent tables log a is fresh =
    let b = able catalog loads past f m between image lent a in
    fresh_apart (opened catalog loads f.managed.log) past between image b.s b.table b.tests b.passing b.failing tables b.can (fresh_here catalog loads past f m between image lent tables log a is fresh)

pub switched_took : (catalog : List Declared) (loads : ℕ) (past journal : List Entry) (f g : Fields) (m : Machine) (between put : Managed) (image : Kind) (lent tables : List NamedTable) (log : List Rec) (lsn : ℕ)
    → Attempted catalog loads past f m between image lent → log ≡ between.log → AreFresh log f.position image tables → put.tables ≡ between.tables ++ tables → SameBut between put → Notes put g.managed Switching lsn → Aside f g → g.now ≡ Done
    → journal ≡ own_entry Switch (reply.Switched lsn) ∷ past → Took catalog loads journal g m 0 Switch (reply.Switched lsn)
switched_took catalog loads past journal f g m between put image lent tables log lsn a is_log fresh is_put same notes aside now is =
    let b = able catalog loads past f m between image lent a in
    let made = fresh_here catalog loads past f m between image lent tables log a is_log fresh in
    let next = next_there (opened catalog loads f.managed.log) past between lsn b.can.meets (notes.place ∙ ap (λ l. length l + 1) same.log) in
    let answered : reply.Switched lsn ≡ switch_reply (opened catalog loads f.managed.log) past =
    ap reply.Switched next ∙ sym (from_view (λ (x : Machine). switch_reply x.opening x.past ≡ reply.Switched (next_lsn x.opening x.past)) (opened catalog loads f.managed.log) past m a.holds.view a.answered) in
    let entry = legal-switch (opened catalog loads f.managed.log) past (reply.Switched lsn) (place_here catalog loads past f m (reply.Switched lsn) a.holds a.place) answered in
    let meets = meets-switched (opened catalog loads f.managed.log) past between put g.managed image b.s b.table b.tests b.passing b.failing tables (own_entry Switch (reply.Switched lsn)) lsn b.can made (a.holds.kept.legal, entry) (effect-switched lsn) is_put same notes in
    let kept = switched-kept (opened catalog loads f.managed.log) past f g (own_entry Switch (reply.Switched lsn)) a.holds.kept entry (effect-switched lsn) b.can.scanned meets aside now in
    let grown : g.managed.log ≡ record { txn = 0; body = Switching } ∷ f.managed.log = notes.log ∙ ap (λ l. record { txn = 0; body = Switching } ∷ l) (same.log ∙ a.stays.log) in
    took catalog loads past journal f g m 0 Switch (reply.Switched lsn) a.holds (by_one (record { txn = 0; body = Switching }) grown) is (subst (λ j. IsKept (opened catalog loads f.managed.log) j g) (sym is) kept)
