-- At rest, where no transaction lives, the committed writes leave the rows that the whole log leaves.
use Rattle.std.proofs.Common.{◌≡◌, ◌+◌, ℕ, true, false, List, [], ◌∷◌, length, map, Option, Some, None, is_some, IsSome, option_map, refl, sym, ap, ◌∙◌, subst}
use Rattle.std.specs.List.{AllByRecursion}
use Rattle.std.proofs.lemmas.Bool.{false≢true}
use Rattle.sx_values.specs.declared.value.Value.{Value}
use Rattle.sx_values.specs.declared.catalog.Declared.{Declared}
use Rattle.sx_values.specs.Catalogs.{declared_as, schema_of}
use Rattle.sx_values.specs.Layouts.{Layout}
use Rattle.sx_log.specs.declared.record.Rec.{Rec}
use Rattle.sx_log.specs.declared.record.Load.{Load}
use Rattle.sx_log.specs.Images.{FitsTables}
use Rattle.sx_log.specs.State.{Stored, after_body, state_at, row_left}
use Rattle.sx_log.specs.Undoing.{Rows}
use Rattle.sx_log.specs.Committed.{is_write, commits, is_committed, committed}
use Rattle.sx_ops.specs.declared.spec.Target.{Target}
use Rattle.sx_ops.specs.Checks.{IsShaped, spec_fault}
use Rattle.sx_ops.specs.Operators.{sources_of, operator}
use Rattle.sx_ops.specs.Targets.{targets}
use Rattle.sx_sync.specs.declared.Phase.TheVariants.{Done}
use Rattle.sx_journal.specs.declared.entry.Entry.{Entry}
use Rattle.sx_model.specs.Openings.{Opening, opening, load_record}
use Rattle.sx_model.specs.LoadRecords.{IsLoaded, IsOpened}
use Rattle.sx_model.specs.Leaves.{living, Started, started, phase}
use Rattle.sx_model.specs.Known.{known}
use Rattle.sx_model.specs.NewRows.{rows_of, given, row_among, given_row, visible_in, Firsts, state_from, row_from, first_in}
use Rattle.sx_model.specs.Logs.{log_of, row_now}
use Rattle.sx_model.specs.Switches.{position}
use Rattle.sx_model.specs.Undone.{has_undone}
use Rattle.sx_model.specs.Legal.{Legal}
use Rattle.sx_model.specs.Tables.{AreListed, AreNewTables, committed_row, AreCommittedNewTables}
use Rattle.sx_model.proofs.AllLaws.{all_reverse, all_filter, all_each}
use Rattle.sx_model.proofs.RollbackLaws.{Stands}
use Rattle.sx_model.proofs.EndingLaws.{stands_at_rest}
use Rattle.sx_model.proofs.ImageLaws.{AllFit}
use Rattle.sx_model.proofs.FitLaws.{images_fit}
use Rattle.sx_model.proofs.KnownLaws.{known_declared}
use Rattle.sx_model.proofs.LegalLaws.{Progress, before, under_way, legal_progress}
use Rattle.sx_model.proofs.RowListLaws.{rows_of_are, rows_unique}
use Rattle.sx_model.proofs.SoundJournals.{legal_sound}
use Rattle.sx_model.proofs.SpecLaws.{sources_declared, targets_new}

-- the record of each loaded row is a Write of transaction 0
each_loaded : (catalog : List Declared) (loads : List Load) → AllByRecursion IsLoaded (map (load_record catalog) loads)
unfolding is_write
each_loaded catalog [] = tt
each_loaded catalog (load ∷ loads) = (record { nobody = refl; write = refl }, each_loaded catalog loads)

-- what loaded rows open has their records alone
pub opening_opened : (catalog : List Declared) (loads : List Load) → IsOpened (opening catalog loads)
opening_opened catalog loads = all_reverse IsLoaded (map (load_record catalog) loads) (each_loaded catalog loads)

-- a committed transaction has undone nothing
pub committed_undid_nothing : (o : Opening) (past : List Entry) (txn : ℕ) → IsOpened o → AllFit (schema_of o.catalog) o.loads → Legal o past → commits (log_of o past) txn ≡ true → has_undone (log_of o past) txn ≡ false
committed_undid_nothing o past txn opened fit l c = (legal_sound o past opened fit l).honest txn c

-- a declared table had nothing before the log
pub declared_first : (o : Opening) (past : List Entry) (log : List Rec) (table : List ℕ) (key : List Value) → IsSome (declared_as o.catalog table) → first_in o past log table key ≡ None
declared_first o past log table key declared = by (declared_as o.catalog table) declared
  where
    by : (found : Option Declared) → IsSome found → ◌≡◌ {A = Option Stored} (elim found [ Some d ↦ None | None ↦ visible_in (phase past) (given_row o.catalog log (started past) table key) ]) None
    by (Some d) some = refl
    by None some = absurd (false≢true some)

-- where no transaction lives, the committed writes leave the rows that the log leaves, of declared tables and of new ones
pub row_from-committed : (o : Opening) (past : List Entry) → IsOpened o → AllFit (schema_of o.catalog) o.loads → Legal o past → living past ≡ [] → (table : List ℕ) (key : List Value) → row_from (first_in o past (log_of o past)) (committed (log_of o past)) table key ≡ row_now o past table key
row_from-committed o past opened fit l rest table key =
    stands_at_rest (first_in o past (log_of o past)) (log_of o past) table key (subst (λ lives. Stands (first_in o past (log_of o past)) lives (log_of o past) table key) rest ((legal_sound o past opened fit l).keys table key))

-- the same of what the log alone leaves
pub left_from : (f : Firsts) (log : List Rec) (table : List ℕ) (key : List Value) → f table key ≡ None → row_from f log table key ≡ row_left log table key
left_from f log table key none = ap (option_map (λ (s : Stored). s.0)) (ap (λ first. state_from first log table key) none ∙ from_none log)
  where
    from_none : (items : List Rec) → state_from None items table key ≡ state_at items table key
    from_none [] = refl
    from_none (r ∷ items) = ap (after_body (length items + 1) r.body table key) (from_none items)

pub row_left-committed : (o : Opening) (past : List Entry) (table : List ℕ) (key : List Value) → IsOpened o → AllFit (schema_of o.catalog) o.loads → Legal o past → living past ≡ [] → IsSome (declared_as o.catalog table) → row_left (committed (log_of o past)) table key ≡ row_left (log_of o past) table key
row_left-committed o past table key opened fit l rest declared =
    let none = declared_first o past (log_of o past) table key declared in
    sym (left_from (first_in o past (log_of o past)) (committed (log_of o past)) table key none) ∙ row_from-committed o past opened fit l rest table key ∙ left_from (first_in o past (log_of o past)) (log_of o past) table key none

-- where two logs leave one table the same rows, so do its lists
same_list : (schema : List ℕ → Option Layout) (log other : List Rec) (table : List ℕ) (layout : Layout) → AllFit schema log → AllFit schema other → schema table ≡ Some layout → ((key : List Value) → row_left other table key ≡ row_left log table key) → rows_of other table ≡ rows_of log table
same_list schema log other table layout fit fits is same =
    let a = rows_of_are schema layout log table fit is in
    let b = rows_of_are schema layout other table fits is in
    rows_unique layout (row_left log table) (rows_of other table) (rows_of log table) (record { admitted = b.admitted; in_order = b.in_order; same = λ key. b.same key ∙ same key }) a

same_lists : (o : Opening) (past : List Entry) (log other : List Rec) (tables : List (List ℕ)) → AllFit (schema_of (known o past)) log → AllFit (schema_of (known o past)) other → AllByRecursion (λ name. IsSome (declared_as o.catalog name)) tables
    → ((table : List ℕ) (key : List Value) → IsSome (declared_as o.catalog table) → row_left other table key ≡ row_left log table key) → map (rows_of other) tables ≡ map (rows_of log) tables
same_lists o past log other [] fit fits declared same = refl
same_lists o past log other (table ∷ tables) fit fits declared same =
    let first = by (declared_as o.catalog table) refl declared.0 in
    let rest = same_lists o past log other tables fit fits declared.1 same in
    λ i. first i ∷ rest i
  where
    by : (found : Option Declared) → declared_as o.catalog table ≡ found → IsSome found → rows_of other table ≡ rows_of log table
    by None is some = absurd (false≢true some)
    by (Some d) is some =
        let schema : schema_of o.catalog table ≡ Some d.schema = ap (option_map (λ (t : Declared). t.schema)) is in
        same_list (schema_of (known o past)) log other table d.schema fit fits (known_declared o past table d.schema schema) (λ key. same table key (ap is_some is ∙ some))

-- so the committed writes alone make a transformation give the same
committed_given : (o : Opening) (past : List Entry) (s : Started) → IsOpened o → AllFit (schema_of o.catalog) o.loads → Legal o past → living past ≡ [] → IsShaped s.spec → spec_fault o.catalog s.spec ≡ None → given o.catalog (committed (log_of o past)) s.spec ≡ given o.catalog (log_of o past) s.spec
committed_given o past s opened loads l rest shaped fits =
    let fit = images_fit o past loads l in
    let some = all_filter (λ (r : Rec). FitsTables (schema_of (known o past)) r.body) (is_committed (log_of o past)) (log_of o past) fit in
    ap (operator o.catalog s.spec) (same_lists o past (log_of o past) (committed (log_of o past)) (sources_of s.spec) fit some (sources_declared o.catalog s.spec shaped fits) (λ table key declared. row_left-committed o past table key opened loads l rest declared))

-- a new table behind the switch
pub new_first : (o : Opening) (past : List Entry) (log : List Rec) (s : Started) (table : List ℕ) (key : List Value) → phase past ≡ Done → started past ≡ Some s → declared_as o.catalog table ≡ None → first_in o past log table key ≡ given_row o.catalog log (Some s) table key
new_first o past log s table key done is none =
    (rw (first_in, none) refl) ∙ ap (λ at. visible_in at (given_row o.catalog log (started past) table key)) done ∙ ap (λ t. given_row o.catalog log t table key) is

committed_now : (o : Opening) (past : List Entry) (s : Started) (table : List ℕ) (key : List Value) → IsOpened o → AllFit (schema_of o.catalog) o.loads → Legal o past → living past ≡ [] → IsShaped s.spec → spec_fault o.catalog s.spec ≡ None
    → phase past ≡ Done → started past ≡ Some s → declared_as o.catalog table ≡ None → committed_row o past s table key ≡ row_now o past table key
committed_now o past s table key opened loads l rest shaped fits done is none =
    ap (λ first. option_map (λ (t : Stored). t.0) (state_from first (committed (log_of o past)) table key))
    (ap (λ lists. option_map (λ row. (row, 0)) (row_among (targets o.catalog s.spec) lists table key)) (committed_given o past s opened loads l rest shaped fits) ∙ sym (new_first o past (log_of o past) s table key done is none))
    ∙ row_from-committed o past opened loads l rest table key

listed_same : (there other : Rows) (tables : List Target) (lists : List (List (List Value))) → AllByRecursion (λ (t : Target). (key : List Value) → there t.name key ≡ other t.name key) tables → AreListed tables there lists → AreListed tables other lists
listed_same there other [] [] same are = tt
listed_same there other [] (rows ∷ lists) same are = absurd are
listed_same there other (t ∷ tables) [] same are = absurd are
listed_same there other (t ∷ tables) (rows ∷ lists) same are =
    (record { admitted = are.0.admitted; in_order = are.0.in_order; same = λ key. are.0.same key ∙ same.0 key }, listed_same there other tables lists same.1 are.1)

-- at rest the new tables are the committed ones
pub new_tables_committed : (o : Opening) (past : List Entry) (s : Started) (tables : List (List (List Value))) → IsOpened o → AllFit (schema_of o.catalog) o.loads → Legal o past → living past ≡ [] → phase past ≡ Done → started past ≡ Some s → AreNewTables o past s tables → AreCommittedNewTables o past s tables
new_tables_committed o past s tables opened loads l rest done is are = by (legal_progress o past l)
  where
    one : (a b : Started) → Some a ≡ Some b → a ≡ b
    one a b e = cc

    by : Progress o.catalog (phase past) (started past) (position o past) (length (log_of o past)) → AreCommittedNewTables o past s tables
    by (before idle none) = absurd (cc)
    by (under_way u) =
        let this = one u.s s (sym u.this ∙ is) in
        let shaped = subst (λ (t : Started). IsShaped t.spec) this u.shaped in
        let fits = subst (λ (t : Started). spec_fault o.catalog t.spec ≡ None) this u.fits in
        listed_same (row_now o past) (committed_row o past s) (targets o.catalog s.spec) tables
        (all_each (λ (t : Target). declared_as o.catalog t.name ≡ None) (λ (t : Target). (key : List Value) → row_now o past t.name key ≡ committed_row o past s t.name key)
        (λ t none key. sym (committed_now o past s t.name key opened loads l rest shaped fits done is none)) (targets o.catalog s.spec) (targets_new o.catalog s.spec shaped fits)) are
