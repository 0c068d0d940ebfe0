-- The machine before its first event: its tables are filled with the loaded rows, one by one, up to the first faulty one.
use Rattle.std.proofs.Common.{◌≡◌, ◌≤◌, ◌<◌, ◌+◌, ◌-◌, ◌∷◌, ◌++◌, ◌⊎◌, [], ℕ, zero, suc, List, Bool, true, false, ◌||◌, length, map, take, reverse, get_or, Option, Some, None, option_map, Result, Ok, Err, is_some, IsSome, IsSomeAnd, inl, inr, refl, sym, ◌∙◌, ap, subst, arith, if◌then◌else◌}
use Rattle.std.specs.Result.{IsErrAnd}
use Rattle.std.specs.List.{AllByRecursion, IsDistinct, list_any}
use Rattle.std.proofs.lemmas.List.{append_assoc, append-nil, length-map, reverse-append, map-append}
use Rattle.std.proofs.lemmas.List.Folds.{list_any-append}
use Rattle.std.proofs.lemmas.Bool.{false≢true}
use Rattle.sx_lists.specs.Answers.{or_later}
use Rattle.sx_values.specs.declared.value.Value.{Value}
use Rattle.sx_values.specs.declared.catalog.Declared.{Declared}
use Rattle.sx_values.specs.declared.schema.BadRow.{BadRow as BadRowFault}
use Rattle.sx_values.specs.Layouts.{Layout, key_of, row_fault}
use Rattle.sx_values.specs.Names.{same_name}
use Rattle.sx_values.specs.Catalogs.{declared_as, schema_of, table_names}
use Rattle.sx_log.specs.declared.record.Rec.{Rec}
use Rattle.sx_log.specs.declared.record.Load.{Load}
use Rattle.sx_log.specs.declared.record.Body.TheVariants.{Write}
use Rattle.sx_log.specs.Images.{FitsImages, FitsTables}
use Rattle.sx_log.specs.State.{Stored, state_at, after_body, is_place, oldest}
use Rattle.sx_heap.specs.declared.tables.NamedTable.{NamedTable}
use Rattle.sx_heap.specs.Relations.{Relation, row_at}
use Rattle.sx_heap.specs.NamedTables.{AreNamedApart, table_named}
use Rattle.sx_locks.specs.Locks.{mode_held}
use Rattle.sx_txn.specs.Managed.{Managed, AreTables, shape_of, schema_in, is_live}
use Rattle.sx_sync.specs.declared.Phase.TheVariants.{Idle}
use Rattle.sx_journal.specs.declared.entry.Entry.{Entry}
use Rattle.sx_model.specs.Openings.{opening, load_record, key_in, key_under}
use Rattle.sx_model.proofs.AllLaws.{all_reverse}
use Rattle.sx_model.specs.Loads.{is_repeated}
use Rattle.sx_core.specs.declared.make.MakeFault.{MakeFault}
use Rattle.sx_core.specs.declared.make.MakeFault.TheVariants.{Memory, TooManyRows, BadRow}
use Rattle.sx_core.specs.declared.make.Base.{Base}
use Rattle.sx_core.specs.Loading.{empty_table, PutsLoad, crowded, repeated_at, put_fault, load_fault, first_load_fault, make_fault, AreLoaded, Loads, Made}
use Rattle.sx_core.specs.Machines.{Machine}
use Rattle.sx_core.specs.Kept.{Fields, IsKept, shapes_of, stored_in}
use Rattle.sx_values.specs.Names.{same_name}
use Rattle.sx_model.specs.LoadRecords.{IsOpened}
use Rattle.sx_model.specs.NewRows.{state_from, state_in, first_in}
use Rattle.sx_model.proofs.TestLaws.{by_cases}
use Rattle.sx_model.proofs.FitLaws.{first_none}
use Rattle.sx_model.proofs.NowLaws.{from_none}
use Rattle.sx_model.proofs.RestLaws.{opening_opened}
use Rattle.sx_core.proofs.StoredLemmas.{row_of, stored-is}
use Rattle.sx_core.proofs.ViewLemmas.{shapes-long}
use Rattle.sx_core.proofs.LivingLemmas.{alive_numbers}
use Rattle.sx_core.proofs.TableLemmas.{meets_named, meets_unnamed, found_meets}
use Rattle.sx_core.proofs.WriteLemmas.{tables_meet-write}

name_at : (P : List ℕ → Type 0) (declared : List Declared) (i : ℕ) (d : Declared) → AllByRecursion P (table_names declared) → i < length declared → d ≡ get_or declared i d → P d.name
name_at P [] i d all within is = absurd (omega arith)
name_at P (c ∷ declared) zero d all within is = subst (λ (t : Declared). P t.name) (sym is) all.0
name_at P (c ∷ declared) (suc i) d all within is = name_at P declared i d all.1 (omega arith) is

-- the name of the next declared table is free
pub empty_free : (declared : List Declared) (i : ℕ) (d : Declared) → IsDistinct same_name (table_names declared) → i < length declared → d ≡ get_or declared i d
    → table_named (map empty_table (take i declared)) d.name ≡ None
unfolding IsDistinct
empty_free [] i d apart within is = absurd (omega arith)
empty_free (c ∷ declared) zero d apart within is = refl
empty_free (c ∷ declared) (suc i) d apart within is =
    let other : same_name c.name d.name ≡ false = name_at (λ n. same_name c.name n ≡ false) declared i d apart.0 (omega arith) is in
    rw other (empty_free declared i d apart.1 (omega arith) is)

-- empty tables meet the empty log
empty_meet : (catalog : List Declared) → AreTables [] (shapes_of catalog) (map empty_table catalog)
empty_meet [] = tt
empty_meet (d ∷ catalog) = (record { name = refl; schema = refl; rows = λ key. refl }, empty_meet catalog)

-- whether one of these loads is of this key of this table
abbrev has_load : List Declared → List Load → List ℕ → List Value → Bool
has_load catalog loads table key = list_any (λ (other : Load). is_place other.table (key_in catalog other.table other.row) table key) loads

-- the first of these loads are in the log and in the tables, none of them faulty, and the others are left
pub record IsLoading (catalog : List Declared) (loads done left : List Load) (log : List Rec) (tables : List NamedTable) : Type 0 where
  pub whole : loads ≡ done ++ left
  pub logged : log ≡ reverse (map (load_record catalog) done)
  pub counts : length log ≡ length done
  pub nobody : AllByRecursion (λ (r : Rec). r.txn ≡ 0) log
  pub meet : AreTables log (shapes_of catalog) tables
  pub there : (table : List ℕ) (key : List Value) → is_some (state_at log table key) ≡ has_load catalog done table key
  pub faultless : first_load_fault catalog [] loads ≡ first_load_fault catalog done left

pub loading_starts : (catalog : List Declared) (loads left : List Load) (log : List Rec) (tables : List NamedTable)
    → left ≡ loads → log ≡ [] → tables ≡ map empty_table catalog → IsLoading catalog loads [] left log tables
loading_starts catalog loads left log tables is none empty =
    let first : IsLoading catalog loads [] loads [] (map empty_table catalog) = record {
      whole = refl;
      logged = refl;
      counts = refl;
      nobody = tt;
      meet = empty_meet catalog;
      there = λ table key. refl;
      faultless = refl;
    } in
    rw (is, none, empty) first

-- the fault of a load by its table is its fault by the loads before it
fault_is : (catalog : List Declared) (loads done left : List Load) (log : List Rec) (tables : List NamedTable) (place : ℕ) (load : Load) → IsLoading catalog loads done left log tables
    → put_fault (table_named tables load.table) place load ≡ load_fault catalog done place load (schema_of catalog load.table)
fault_is catalog loads done left log tables place load loading = by (declared_as catalog load.table) refl
  where
    by : (answer : Option Declared) → declared_as catalog load.table ≡ answer → put_fault (table_named tables load.table) place load ≡ load_fault catalog done place load (schema_of catalog load.table)
    by None none =
        let absent = meets_unnamed catalog log tables load.table loading.meet none in
        let undeclared : schema_of catalog load.table ≡ None = ap (option_map (λ (t : Declared). t.schema)) none in
        ap (λ t. put_fault t place load) absent ∙ sym (ap (load_fault catalog done place load) undeclared)
    by (Some d) is =
        let named = meets_named catalog log tables load.table d loading.meet is in
        let declared : schema_of catalog load.table ≡ Some d.schema = ap (option_map (λ (t : Declared). t.schema)) is in
        let key_is : key_in catalog load.table load.row ≡ key_of d.schema load.row = rw declared refl in
        let repeated : is_some (row_at named.relation.rows (key_of d.schema load.row)) ≡ list_any (λ other. is_repeated catalog other load) done =
        ap is_some (named.rows (key_of d.schema load.row)) ∙ loading.there load.table (key_of d.schema load.row) ∙ ap (has_load catalog done load.table) (sym key_is) in
        ap (λ t. put_fault t place load) named.found
        ∙ ap (λ s. or_later (option_map (BadRow place) (row_fault s load.row)) (repeated_at place (is_some (row_at named.relation.rows (key_of s load.row))))) named.schema
        ∙ ap (λ b. or_later (option_map (BadRow place) (row_fault d.schema load.row)) (repeated_at place b)) repeated
        ∙ sym (ap (load_fault catalog done place load) declared)

-- the fault of the next load is the first
loading_fails : (catalog : List Declared) (loads done left : List Load) (log : List Rec) (tables : List NamedTable) (load : Load) (more : List Load) (fault : MakeFault)
    → IsLoading catalog loads done left log tables → left ≡ load ∷ more → (fault ≡ Memory) ⊎ (put_fault (table_named tables load.table) (length log + 1) load ≡ Some fault)
    → (fault ≡ Memory) ⊎ (first_load_fault catalog [] loads ≡ Some fault)
loading_fails catalog loads done left log tables load more fault loading is (inl memory) = inl memory
loading_fails catalog loads done left log tables load more fault loading is (inr faulty) =
    let here : load_fault catalog done (length done + 1) load (schema_of catalog load.table) ≡ Some fault =
    ap (λ n. load_fault catalog done (n + 1) load (schema_of catalog load.table)) (sym loading.counts) ∙ sym (fault_is catalog loads done left log tables (length log + 1) load loading) ∙ faulty in
    inr (loading.faultless ∙ ap (first_load_fault catalog done) is ∙ ap (λ f. or_later f (first_load_fault catalog (done ++ load ∷ []) more)) here)

-- and then what the loading answers
pub loading_failed : (catalog : List Declared) (loads done left : List Load) (log : List Rec) (tables : List NamedTable) (load : Load) (more : List Load) (fault : MakeFault) (result : Result Base MakeFault)
    → IsLoading catalog loads done left log tables → left ≡ load ∷ more → (fault ≡ Memory) ⊎ (put_fault (table_named tables load.table) (length log + 1) load ≡ Some fault)
    → IsErrAnd result (λ f. f ≡ fault) → Loads catalog loads result
loading_failed catalog loads done left log tables load more fault (Ok base) loading is faulty same = absurd same
loading_failed catalog loads done left log tables load more fault (Err told) loading is faulty same =
    subst (λ (f : MakeFault). (f ≡ Memory) ⊎ (first_load_fault catalog [] loads ≡ Some f)) (sym same) (loading_fails catalog loads done left log tables load more fault loading is faulty)

or_is : (a b : Bool) → (a || b) ≡ (b || (a || false))
or_is true true = refl
or_is true false = refl
or_is false true = refl
or_is false false = refl

there_cond : (b : Bool) (s : Stored) (rest : Option Stored) → is_some (if b then Some s else rest) ≡ (b || is_some rest)
there_cond true s rest = refl
there_cond false s rest = refl

-- what is there behind one more load
there_more : (catalog : List Declared) (log : List Rec) (load : Load) (table : List ℕ) (key : List Value)
    → is_some (state_at (load_record catalog load ∷ log) table key) ≡ (is_place load.table (key_in catalog load.table load.row) table key || is_some (state_at log table key))
unfolding after_body
there_more catalog log load table key = there_cond (is_place load.table (key_in catalog load.table load.row) table key) (load.row, length log + 1) (state_at log table key)

-- a load that was put in
put_longer : (catalog : List Declared) (loads done left : List Load) (log longer : List Rec) (tables changed : List NamedTable) (load : Load) (table : Relation) → IsLoading catalog loads done left log tables
    → AreNamedApart tables → table_named tables load.table ≡ Some table → PutsLoad log longer tables changed load table
    → (longer ≡ load_record catalog load ∷ log) × AreTables (load_record catalog load ∷ log) (shapes_of catalog) changed
put_longer catalog loads done left log longer tables changed load table loading apart found puts = by (declared_as catalog load.table) refl
  where
    no : None ≡ Some table → ⊥
    no e = cc

    one : (r s : Relation) → Some r ≡ Some s → r ≡ s
    one r s e = cc

    by : (answer : Option Declared) → declared_as catalog load.table ≡ answer → (longer ≡ load_record catalog load ∷ log) × AreTables (load_record catalog load ∷ log) (shapes_of catalog) changed
    by None none = absurd (no (sym (meets_unnamed catalog log tables load.table loading.meet none) ∙ found))
    by (Some d) is =
        let named = meets_named catalog log tables load.table d loading.meet is in
        let same = one table named.relation (sym found ∙ named.found) in
        let declared : schema_of catalog load.table ≡ Some d.schema = ap (option_map (λ (t : Declared). t.schema)) is in
        let key_is : key_of table.schema load.row ≡ key_in catalog load.table load.row = ap (λ (r : Relation). key_of r.schema load.row) same ∙ ap (λ s. key_of s load.row) named.schema ∙ sym (rw declared refl) in (
          puts.logged ∙ ap (λ key. record { txn = 0; body = Write load.table key None (Some load.row) } ∷ log) key_is,
          subst (λ key. AreTables (record { txn = 0; body = Write load.table key None (Some load.row) } ∷ log) (shapes_of catalog) changed) key_is
              (rw puts.put.others (tables_meet-write catalog log tables 0 load.table (key_of table.schema load.row) None (Some load.row) table puts.put.after apart found puts.put.sets loading.meet)),
        )

-- such a load has no fault
put_good : (table : Relation) (place : ℕ) (load : Load) → row_fault table.schema load.row ≡ None → row_at table.rows (key_of table.schema load.row) ≡ None → put_fault (Some table) place load ≡ None
put_good table place load admitted absent = rw (admitted, absent) refl

-- and the loading goes on
goes_on : (catalog : List Declared) (loads done left : List Load) (log longer : List Rec) (tables changed : List NamedTable) (load : Load) (more : List Load) (table : Relation)
    → IsLoading catalog loads done left log tables → left ≡ load ∷ more → AreNamedApart tables → table_named tables load.table ≡ Some table → PutsLoad log longer tables changed load table
    → IsLoading catalog loads (done ++ load ∷ []) more longer changed
goes_on catalog loads done left log longer tables changed load more table loading is apart found puts =
    let put = put_longer catalog loads done left log longer tables changed load table loading apart found puts in
    let good : load_fault catalog done (length done + 1) load (schema_of catalog load.table) ≡ None =
    sym (fault_is catalog loads done left log tables (length done + 1) load loading) ∙ ap (λ t. put_fault t (length done + 1) load) found ∙ put_good table (length done + 1) load puts.admitted puts.absent in
    let next : IsLoading catalog loads (done ++ load ∷ []) more (load_record catalog load ∷ log) changed = record {
      whole = loading.whole ∙ ap (λ l. done ++ l) is ∙ sym (append_assoc done (load ∷ []) more);
      logged =
          ap (λ l. load_record catalog load ∷ l) loading.logged
          ∙ sym (ap reverse (map-append (load_record catalog) done (load ∷ [])) ∙ reverse-append (map (load_record catalog) done) (load_record catalog load ∷ []));
      counts = (let e = loading.counts in let n = length-snoc done in omega arith);
      nobody = (refl, loading.nobody);
      meet = put.1;
      there = λ name key.
          there_more catalog log load name key
          ∙ ap (λ b. is_place load.table (key_in catalog load.table load.row) name key || b) (loading.there name key)
          ∙ or_is (is_place load.table (key_in catalog load.table load.row) name key) (has_load catalog done name key)
          ∙ sym (list_any-append (λ (other : Load). is_place other.table (key_in catalog other.table other.row) name key) done (load ∷ []));
      faultless = loading.faultless ∙ ap (first_load_fault catalog done) is ∙ ap (λ f. or_later f (first_load_fault catalog (done ++ load ∷ []) more)) good;
    } in
    rw put.0 next
  where
    length-snoc : (xs : List Load) → length (xs ++ load ∷ []) ≡ length xs + 1
    length-snoc [] = omega arith
    length-snoc (x ∷ xs) = let e = length-snoc xs in omega arith

pub loading_goes_on : (catalog : List Declared) (loads done left : List Load) (log longer : List Rec) (tables changed : List NamedTable) (load : Load) (more : List Load)
    → IsLoading catalog loads done left log tables → left ≡ load ∷ more → AreNamedApart tables
    → IsSomeAnd (table_named tables load.table) (PutsLoad log longer tables changed load) → IsLoading catalog loads (done ++ load ∷ []) more longer changed
loading_goes_on catalog loads done left log longer tables changed load more loading is apart puts = by (table_named tables load.table) refl puts
  where
    by : (found : Option Relation) → table_named tables load.table ≡ found → IsSomeAnd found (PutsLoad log longer tables changed load) → IsLoading catalog loads (done ++ load ∷ []) more longer changed
    by None none puts = absurd puts
    by (Some table) found puts = goes_on catalog loads done left log longer tables changed load more table loading is apart found puts

-- when no load is left
pub loading_over : (catalog : List Declared) (loads done left : List Load) (base : Base) → IsLoading catalog loads done left base.log.newest base.tables → left ≡ [] → AreLoaded catalog loads base
loading_over catalog loads done left base loading over =
    let all : loads ≡ done = loading.whole ∙ ap (λ l. done ++ l) over ∙ append-nil done in
    record {
      faultless = loading.faultless ∙ ap (first_load_fault catalog done) over;
      logged = loading.logged ∙ ap (λ l. reverse (map (load_record catalog) l)) (sym all);
      nobody = loading.nobody;
      meet = loading.meet;
    }

-- ** the loaded rows fit their tables **

later_none : (a b : Option MakeFault) → or_later a b ≡ None → (a ≡ None) × (b ≡ None)
later_none None b e = (refl, e)
later_none (Some fault) b e = absurd (cc)

admitted : (place : ℕ) (fault : Option BadRowFault) → option_map (BadRow place) fault ≡ None → fault ≡ None
admitted place None e = refl
admitted place (Some fault) e = absurd (cc)

load_fits : (catalog : List Declared) (earlier : List Load) (place : ℕ) (load : Load) (layout : Option Layout) → load_fault catalog earlier place load layout ≡ None → IsSomeAnd layout (λ l. FitsImages l (key_under layout load.row) None (Some load.row))
load_fits catalog earlier place load None e = absurd (cc)
load_fits catalog earlier place load (Some l) e =
    let good = later_none (option_map (BadRow place) (row_fault l load.row)) (repeated_at place (list_any (λ other. is_repeated catalog other load) earlier)) e in
    (tt, (admitted place (row_fault l load.row) good.0, refl))

all_load_fit : (catalog : List Declared) (earlier loads : List Load) → first_load_fault catalog earlier loads ≡ None → AllByRecursion (λ (r : Rec). FitsTables (schema_of catalog) r.body) (map (load_record catalog) loads)
unfolding FitsTables
all_load_fit catalog earlier [] e = tt
all_load_fit catalog earlier (load ∷ loads) e =
    let good = later_none (load_fault catalog earlier (length earlier + 1) load (schema_of catalog load.table)) (first_load_fault catalog (earlier ++ load ∷ []) loads) e in
    (load_fits catalog earlier (length earlier + 1) load (schema_of catalog load.table) good.0, all_load_fit catalog (earlier ++ load ∷ []) loads good.1)

-- ** the machine **

-- tables that meet a log have the declared names and schemas
are_shapes : (catalog : List Declared) (log : List Rec) (tables : List NamedTable) → AreTables log (shapes_of catalog) tables → map shape_of tables ≡ shapes_of catalog
are_shapes [] log [] meet = refl
are_shapes [] log (t ∷ tables) meet = absurd meet
are_shapes (d ∷ catalog) log [] meet = absurd meet
are_shapes (d ∷ catalog) log (t ∷ tables) meet =
    let rest = are_shapes catalog log tables meet.1 in
    λ i. record { name = meet.0.name i; schema = meet.0.schema i } ∷ rest i

pub managed_tables : (catalog : List Declared) (loads : List Load) (base : Base) → AreLoaded catalog loads base → AreTables base.log.newest (map shape_of base.tables) base.tables
managed_tables catalog loads base are = subst (λ shapes. AreTables base.log.newest shapes base.tables) (sym (are_shapes catalog base.log.newest base.tables are.meet)) are.meet

all_oldest : (log : List Rec) (n : ℕ) → n ≡ length log → oldest n log ≡ log
all_oldest log n is = let none : length log - n ≡ 0 = omega arith in rw none refl

-- what a new manager has
pub record IsNew (managed : Managed) (base : Base) : Type 0 where
  pub shapes : managed.shapes ≡ map shape_of base.tables
  pub own : managed.own ≡ length base.tables
  pub log : managed.log ≡ base.log.newest
  pub locks : managed.locks ≡ []
  pub living : managed.living ≡ []
  pub begun : managed.begun ≡ 0

-- a table of a new manager has what the log leaves
new_rows : (catalog : List Declared) (loads : List Rec) (tables : List NamedTable) (name : List ℕ) (key : List Value) → AreTables loads (shapes_of catalog) tables → IsSome (schema_in (map shape_of tables) name)
    → stored_in tables name key ≡ state_in (record { catalog = catalog; loads = loads }) [] loads name key
new_rows catalog loads tables name key meet there = by (table_named tables name) refl (unfound tables name there)
  where
    unfound : (ts : List NamedTable) (n : List ℕ) → IsSome (schema_in (map shape_of ts) n) → IsSome (table_named ts n)
    unfound [] n some = absurd (cc)
    unfound (t ∷ ts) n some = by_cases (same_name t.name n) (λ is. rw is refl) (λ away. rw away (unfound ts n (rw away at some)))

    first : first_in (record { catalog = catalog; loads = loads }) [] loads name key ≡ None
    first = first_none (record { catalog = catalog; loads = loads }) [] loads name key (λ done. cc)

    by : (found : Option Relation) → table_named tables name ≡ found → IsSome found → stored_in tables name key ≡ state_in (record { catalog = catalog; loads = loads }) [] loads name key
    by None is some = absurd (cc)
    by (Some table) is some =
        stored-is tables name key ∙ ap (λ f. row_of f key) is ∙ found_meets catalog loads tables name table meet is key
        ∙ sym (ap (λ f. state_from f loads name key) first ∙ from_none loads name key)

-- what the machine keeps before its first event
pub made_kept : (catalog : List Declared) (rows : List Load) (base : Base) (loads : ℕ) (past : List Entry) (f : Fields)
    → AreLoaded catalog rows base → IsNew f.managed base → f.managed.tables ≡ base.tables → loads ≡ length base.log.newest → past ≡ [] → f.clients ≡ [] → f.known ≡ catalog → f.now ≡ Idle → f.spec ≡ None → f.position ≡ 0
    → (loads ≤ length f.managed.log) × IsKept (record { catalog = catalog; loads = oldest loads f.managed.log }) past f
made_kept catalog rows base loads past f are new are_tables counts none nobody known idle unstarted start =
    let counted : loads ≡ length f.managed.log = counts ∙ ap length (sym new.log) in
    let all = all_oldest f.managed.log loads counted in
    let fit = all_reverse (λ (r : Rec). FitsTables (schema_of catalog) r.body) (map (load_record catalog) rows) (all_load_fit catalog [] rows are.faultless) in
    let shapes : f.managed.shapes ≡ shapes_of catalog = new.shapes ∙ are_shapes catalog base.log.newest base.tables are.meet in
    let opened : IsOpened (record { catalog = catalog; loads = oldest loads f.managed.log }) = subst (λ l. IsOpened (record { catalog = catalog; loads = l })) (sym (all ∙ new.log ∙ are.logged)) (opening_opened catalog rows) in
    let kept : IsKept (record { catalog = catalog; loads = oldest loads f.managed.log }) [] f = record {
      opened = opened;
      loads_fit = subst (AllByRecursion (λ (r : Rec). FitsTables (schema_of catalog) r.body)) (sym (all ∙ new.log ∙ are.logged)) fit;
      legal = tt;
      manager_meets = record {
        shapes = shapes ∙ ap shapes_of (sym (append-nil catalog));
        own = new.own ∙ sym (length-map base.tables shape_of) ∙ ap length (are_shapes catalog base.log.newest base.tables are.meet) ∙ shapes-long catalog;
        log_is = sym all;
        rows = λ name key there.
            ap (λ ts. stored_in ts name key) are_tables
            ∙ new_rows catalog base.log.newest base.tables name key are.meet (subst (λ l. IsSome (schema_in l name)) new.shapes there)
            ∙ ap (λ l. state_in (record { catalog = catalog; loads = l }) [] l name key) (sym (all ∙ new.log));
        begun = new.begun;
        living = ap alive_numbers new.living;
        ending = λ txn lives. absurd (false≢true (sym (ap (λ l. is_live l txn) new.living) ∙ lives));
        locks = λ txn table key. ap (λ l. mode_held l txn table key) new.locks;
      };
      clients_are = nobody;
      room = (let e = ap length nobody in omega arith);
      phase_is = idle;
      known_is = known ∙ sym (append-nil catalog);
      spec_is = unstarted;
      position_is = start;
      scan_meets = tt;
    } in
    (omega arith, rw none kept)

-- and what it is seen as
pub made_seen : (catalog : List Declared) (rows : List Load) (base : Base) (loads : ℕ) (past : List Entry) (managed : Managed)
    → crowded catalog rows ≡ None → AreLoaded catalog rows base → IsNew managed base → loads ≡ length base.log.newest → past ≡ []
    → (make_fault catalog rows ≡ None) × (◌≡◌ {A = Machine} (record { opening = record { catalog = catalog; loads = oldest loads managed.log }; past = past }) (record { opening = opening catalog rows; past = [] }))
made_seen catalog rows base loads past managed uncrowded are new counts none =
    let counted : loads ≡ length managed.log = counts ∙ ap length (sym new.log) in
    let all : oldest loads managed.log ≡ reverse (map (load_record catalog) rows) = all_oldest managed.log loads counted ∙ new.log ∙ are.logged in (
      ap (λ name. or_later (option_map TooManyRows name) (first_load_fault catalog [] rows)) uncrowded ∙ are.faultless,
      λ i. record { opening = record { catalog = catalog; loads = all i }; past = none i },
    )

-- a table with too many rows is the fault
pub crowded_fails : (catalog : List Declared) (rows : List Load) (name told : List ℕ) → crowded catalog rows ≡ Some name → told ≡ name → Made catalog rows (Err (TooManyRows told))
crowded_fails catalog rows name told is same =
    inr (ap (λ found. or_later (option_map TooManyRows found) (first_load_fault catalog [] rows)) is ∙ ap (λ n. Some (TooManyRows n)) (sym same))

-- and else the first faulty load's is
pub loading_fault : (catalog : List Declared) (rows : List Load) (fault : MakeFault) → crowded catalog rows ≡ None → (fault ≡ Memory) ⊎ (first_load_fault catalog [] rows ≡ Some fault) → Made catalog rows (Err fault)
loading_fault catalog rows fault uncrowded (inl memory) = inl memory
loading_fault catalog rows fault uncrowded (inr faulty) = inr (ap (λ name. or_later (option_map TooManyRows name) (first_load_fault catalog [] rows)) uncrowded ∙ faulty)

pub nothing_left : {X : Type 0} (l : List X) → length l ≡ 0 → l ≡ []
nothing_left [] none = refl
nothing_left (x ∷ l) none = absurd (omega arith)
