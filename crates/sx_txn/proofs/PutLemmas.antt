-- Changes of rows with their records: over plain variables.
use Rattle.std.proofs.Common.{◌≡◌, ◌≤◌, ◌+◌, ◌∷◌, ◌++◌, [], ℕ, zero, suc, List, length, map, take, true, Option, Some, None, IsSome, IsSomeAnd, Result, Ok, Err, IfOk, arith, refl, sym, ◌∙◌, ap, subst}
use Rattle.std.specs.Prelude.{option_map}
use Rattle.std.specs.List.{AllByRecursion, IsDistinct}
use Rattle.std.specs.declared.alloc.AllocError.{AllocError}
use Rattle.sx_lists.specs.Places.{Growing, numbered}
use Rattle.sx_values.specs.declared.value.Value.{Value}
use Rattle.sx_values.specs.Names.{same_name}
use Rattle.sx_values.specs.Layouts.{Layout}
use Rattle.sx_log.specs.declared.record.Rec.{Rec}
use Rattle.sx_log.specs.declared.record.Body.TheVariants.{Write, Undo}
use Rattle.sx_log.specs.State.{stored}
use Rattle.sx_log.specs.Undoing.{Rows, writes_left, undo_record, undo_last, undo_at, undo_of as undo_of_body}
use Rattle.sx_locks.specs.Locks.{Locks, IsLeastOther, LockedSo}
use Rattle.sx_locks.specs.declared.mode.Mode.TheVariants.{Exclusive}
use Rattle.sx_heap.specs.declared.tables.NamedTable.{NamedTable}
use Rattle.sx_heap.specs.Relations.{Relation}
use Rattle.sx_heap.specs.NamedTables.{AreNamedApart, names_of_tables, table_named, SetsRowIn}
use Rattle.sx_txn.specs.declared.lives.Live.{Live}
use Rattle.sx_txn.specs.declared.patch.Patch.{Patch}
use Rattle.sx_txn.specs.declared.answers.Change.{Change}
use Rattle.sx_txn.specs.declared.answers.Change.TheVariants.{Insert, Replace, Delete}
use Rattle.sx_txn.specs.Managed.{Shape, Managed, AreOwn, is_live, schema_in, shape_of, row_in, row_now}
use Rattle.sx_txn.specs.Homes.{Homed}
use Rattle.sx_txn.specs.Turns.{CanChange, CanUndo, FitsSchema, PutsBack, key_of_change, image_of, Writes, Undoes}
use Rattle.sx_log.specs.Images.{FitsImage}
use Rattle.sx_txn.specs.Writes.{first_of, rest_of}
use Rattle.sx_txn.specs.Lives.{Kept, kept_all, alive_all, writes_of, with_write, with_undo}
use Rattle.sx_txn.specs.Kept.{managed, AreNumbered, KeepsWrites, IsManaged}
use Rattle.sx_txn.specs.Patches.{AreApart, IsThere, HasRow, CanPatch, TakesPatch, Patched, IsKeyOf, IsBack, write_of, undo_of}
use Rattle.sx_txn.proofs.ManagedLemmas.{AreBelow-map, length-map_kept, same-write, same-undo, keep-write, keep-undo, writes_kept, live-begun, alive-write, alive-undo}
use Rattle.sx_txn.proofs.TableLemmas.{PutsImage, puts-write, puts-undo, tables-put, shapes-with, schema-named}
use Rattle.sx_txn.proofs.EventLemmas.{from_view, same_locks-refl}

-- items that were lent as a whole, back in their place
pub seated : (n : ℕ) (living more : List Live) → length living ≡ n → kept_all (take n (living ++ more)) ≡ kept_all living
seated zero [] more is = none more
  where
    none : (more : List Live) → kept_all (take 0 more) ≡ []
    none [] = refl
    none (x ∷ more) = refl
seated zero (x ∷ living) more is = absurd (omega arith)
seated (suc n) [] more is = absurd (omega arith)
seated (suc n) (x ∷ living) more is = let e : length living ≡ n = omega arith in ap (λ (rest : List Kept). record { txn = x.txn; ending = x.ending; writes = x.writes.newest } ∷ rest) (seated n living more e)

-- ** what is there **

names-shapes : (tables : List NamedTable) → map (λ (s : Shape). s.name) (map shape_of tables) ≡ names_of_tables tables
names-shapes [] = refl
names-shapes (t ∷ tables) = ap (λ names. t.name ∷ names) (names-shapes tables)

apart-shapes : (tables : List NamedTable) → AreNamedApart tables → AreApart (map shape_of tables)
apart-shapes tables apart = subst (IsDistinct same_name) (sym (names-shapes tables)) apart

apart-tables : (tables : List NamedTable) → AreApart (map shape_of tables) → AreNamedApart tables
apart-tables tables apart = subst (IsDistinct same_name) (names-shapes tables) apart

-- the schema of a table that is found
pub schema-found : (tables : List NamedTable) (name : List ℕ) (table : Relation) → table_named tables name ≡ Some table → schema_in (map shape_of tables) name ≡ Some table.schema
schema-found tables name table is = schema-named tables name ∙ ap (option_map (λ (t : Relation). t.schema)) is

no_schema : (tables : List NamedTable) (name : List ℕ) → table_named tables name ≡ None → schema_in (map shape_of tables) name ≡ None
no_schema tables name is = schema-named tables name ∙ ap (option_map (λ (t : Relation). t.schema)) is

inside : {X : Type 0} (x y : X) → Some x ≡ Some y → x ≡ y
inside x y e = cc

-- a schema's table is there
pub table_there : (tables : Homed) (log : Growing Rec) (locks : Locks) (kept : List Kept) (begun : ℕ) (m : Managed) (name : List ℕ) → managed tables log locks kept begun ≡ m
    → IsSome (schema_in m.shapes name) → IsSome (table_named tables.all name)
table_there tables log locks kept begun m name view there = by (table_named tables.all name) refl
  where
    known : IsSome (schema_in (map shape_of tables.all) name)
    known = from_view (λ (x : Managed). IsSome (schema_in x.shapes name)) tables log locks kept begun m view there

    by : (o : Option Relation) → table_named tables.all name ≡ o → IsSome o
    by None is = subst IsSome (no_schema tables.all name is) known
    by (Some t) is = refl

-- what the table has at a key is there
pub found_there : (tables : Homed) (log : Growing Rec) (locks : Locks) (kept : List Kept) (begun : ℕ) (m : Managed) (name : List ℕ) (key : List Value) (row : Option (List Value)) → managed tables log locks kept begun ≡ m
    → AreNamedApart tables.all → IsSomeAnd (table_named tables.all name) (HasRow key row) → IsThere m name key row
found_there tables log locks kept begun m name key row view apart has = subst (λ (x : Managed). IsThere x name key row) view (by (table_named tables.all name) refl has)
  where
    by : (o : Option Relation) → table_named tables.all name ≡ o → IsSomeAnd o (HasRow key row) → IsThere (managed tables log locks kept begun) name key row
    by None none here = absurd here
    by (Some t) found here = record {
      apart = apart-shapes tables.all apart;
      was = rw found here.was;
      fits = λ layout there. subst (λ (l : Layout). FitsImage l key row) (inside t.schema layout (sym (schema-found tables.all name t found) ∙ there)) here.fits;
    }

pub all_there : (r : Result (Option (List Value)) AllocError) (P Q : Option (List Value) → Type 0) → ((row : Option (List Value)) → P row → Q row) → IfOk r P → IfOk r Q
all_there (Ok row) P Q gives holds = gives row holds
all_there (Err e) P Q gives holds = holds

-- a change that the rows and the schemas allow, the table allows
pub takes_patch : (tables : Homed) (log : Growing Rec) (locks : Locks) (kept : List Kept) (begun : ℕ) (m : Managed) (p : Patch) → managed tables log locks kept begun ≡ m
    → CanPatch m p → IsSomeAnd (table_named tables.all p.table) (TakesPatch p)
takes_patch tables log locks kept begun m p view can = by (table_named tables.all p.table) refl
  where
    known : CanPatch (managed tables log locks kept begun) p
    known = from_view (λ (x : Managed). CanPatch x p) tables log locks kept begun m view can

    nothing : None ≡ Some known.layout → ⊥
    nothing e = cc

    by : (o : Option Relation) → table_named tables.all p.table ≡ o → IsSomeAnd o (TakesPatch p)
    by None none = absurd (nothing (sym (no_schema tables.all p.table none) ∙ known.there))
    by (Some t) found = record {
      was = sym (ap (λ (o : Option Relation). elim o [ None ↦ None | Some table ↦ row_in p.key table ]) found) ∙ known.was;
      fits = subst (λ (l : Layout). FitsImage l p.key p.after) (inside known.layout t.schema (sym known.there ∙ schema-found tables.all p.table t found)) known.fits;
    }

-- the schema of the table that is found admits the change
pub fits_found : (tables : Homed) (log : Growing Rec) (locks : Locks) (kept : List Kept) (begun : ℕ) (m : Managed) (name : List ℕ) (change : Change) (t : Relation) → managed tables log locks kept begun ≡ m
    → CanChange m.shapes name change → Some t ≡ table_named tables.all name → FitsSchema t.schema change
fits_found tables log locks kept begun m name change t view can found =
    let known = from_view (λ (x : Managed). CanChange x.shapes name change) tables log locks kept begun m view can in
    subst (λ (l : Layout). FitsSchema l change) (inside known.layout t.schema (sym known.there ∙ schema-found tables.all name t (sym found))) known.fits

pub not_found : (tables : Homed) (log : Growing Rec) (locks : Locks) (kept : List Kept) (begun : ℕ) (m : Managed) (name : List ℕ) (change : Change) → managed tables log locks kept begun ≡ m
    → CanChange m.shapes name change → None ≡ table_named tables.all name → ⊥
not_found tables log locks kept begun m name change view can found =
    let known = from_view (λ (x : Managed). CanChange x.shapes name change) tables log locks kept begun m view can in
    nothing known.layout (sym (no_schema tables.all name (sym found)) ∙ known.there)
  where
    nothing : (l : Layout) → None ≡ Some l → ⊥
    nothing l e = cc

pub key_is : (tables : Homed) (log : Growing Rec) (locks : Locks) (kept : List Kept) (begun : ℕ) (m : Managed) (name : List ℕ) (change : Change) (t : Relation) (key : List Value) → managed tables log locks kept begun ≡ m
    → Some t ≡ table_named tables.all name → key_of_change t.schema change ≡ key → IsKeyOf m.shapes name change key
key_is tables log locks kept begun m name change t key view found is layout there =
    let known = from_view (λ (x : Managed). schema_in x.shapes name ≡ Some layout) tables log locks kept begun m view there in
    ap (λ (l : Layout). key_of_change l change) (inside layout t.schema (sym known ∙ schema-found tables.all name t (sym found))) ∙ is

-- ** changes **

record IsPut (tables now : List NamedTable) (p : Patch) (lsn : ℕ) : Type 0 where
  old : Relation
  named : table_named tables p.table ≡ Some old
  put : SetsRowIn tables now p.table old p.key (stored lsn p.after)

put_of : (tables now : List NamedTable) (p : Patch) (lsn : ℕ) → Patched tables now p lsn → IsPut tables now p lsn
put_of tables now p lsn patched = by (table_named tables p.table) refl patched
  where
    by : (o : Option Relation) → table_named tables p.table ≡ o → IsSomeAnd o (λ (before : Relation). SetsRowIn tables now p.table before p.key (stored lsn p.after)) → IsPut tables now p lsn
    by None is put = absurd put
    by (Some t) is put = record { old = t; named = is; put = put }

pub shapes-patched : (tables now : List NamedTable) (p : Patch) (lsn : ℕ) → Patched tables now p lsn → map shape_of now ≡ map shape_of tables
shapes-patched tables now p lsn patched =
    let put = put_of tables now p lsn patched in
    ap (map shape_of) put.put.others ∙ shapes-with tables p.table put.old put.put.after put.named put.put.sets.same_schema

-- a record of a live transaction with a change of a row
managed-put : (tables now : Homed) (log longer : Growing Rec) (kept after : List Kept) (begun txn : ℕ) (p : Patch) (r : Rec) (f : Kept → Kept) → IsManaged tables log kept begun
    → is_live (alive_all kept) txn ≡ true → AreApart (map shape_of tables.all) → now.own ≡ tables.own → Patched tables.all now.all p (length log.newest + 1) → PutsImage r log.newest p.table p.key p.after → r.txn ≡ txn
    → ((k : Kept) → (f k).txn ≡ k.txn) → AllByRecursion (KeepsWrites (r ∷ log.newest)) (map f kept)
    → longer.newest ≡ r ∷ log.newest → length kept ≤ longer.spare → after ≡ map f kept → IsManaged now longer after begun
managed-put tables now log longer kept after begun txn p r f is live apart own patched puts mine same keep newest room lives =
    let put = put_of tables.all now.all p (length log.newest + 1) patched in
    let more : List Rec = r ∷ log.newest in
    let long = length-map_kept f kept in
    let less = live-begun txn (begun + 1) kept is.numbers.falling live in
    let few : begun ≤ suc (length log.newest) + length (map f kept) = omega (arith, is.numbers.few) in
    let first : r.txn ≤ begun = omega arith in
    let numbers : AreNumbered more (map f kept) begun = record { falling = AreBelow-map f same (begun + 1) kept is.numbers.falling; records = (first, is.numbers.records); few = few } in
    let rows = tables-put tables.own r log.newest tables.all p.table p.key p.after put.old put.put.after (apart-tables tables.all apart) put.named put.put.sets puts is.rows in
    let rows_now : AreOwn tables.own more (map shape_of now.all) now.all = subst (λ (ts : List NamedTable). AreOwn tables.own more (map shape_of ts) ts) (sym put.put.others) rows in
    let room_now : length (map f kept) ≤ longer.spare = omega arith in
    subst (λ (k : List Kept). IsManaged now longer k begun) (sym lives) (
    record {
      rows = subst (λ (l : List Rec). AreOwn now.own l (map shape_of now.all) now.all) (sym newest) (subst (λ (n : ℕ). AreOwn n more (map shape_of now.all) now.all) (sym own) rows_now);
      room = room_now;
      numbers = subst (λ (l : List Rec). AreNumbered l (map f kept) begun) (sym newest) numbers;
      writes = subst (λ (l : List Rec). AllByRecursion (KeepsWrites l) (map f kept)) (sym newest) keep;
    }
    )

pub managed-written : (tables now : Homed) (log longer : Growing Rec) (locks : Locks) (kept after : List Kept) (begun txn : ℕ) (m : Managed) (p : Patch) → managed tables log locks kept begun ≡ m
    → IsManaged tables log kept begun → is_live m.living txn ≡ true → CanPatch m p → now.own ≡ tables.own → Patched tables.all now.all p (length log.newest + 1)
    → longer.newest ≡ write_of txn p ∷ log.newest → length kept ≤ longer.spare → after ≡ map (with_write txn (length log.newest + 1)) kept → IsManaged now longer after begun
managed-written tables now log longer locks kept after begun txn m p view is live can own patched newest room lives =
    let known = from_view (λ (x : Managed). CanPatch x p) tables log locks kept begun m view can in
    let lives_now = from_view (λ (x : Managed). is_live x.living txn ≡ true) tables log locks kept begun m view live in
    managed-put tables now log longer kept after begun txn p (write_of txn p) (with_write txn (length log.newest + 1)) is lives_now known.apart own patched
    (puts-write log.newest txn p.table p.key p.before p.after) refl (same-write txn (length log.newest + 1))
    (keep-write txn p.table p.key p.before p.after log.newest kept is.writes) newest room lives

pub written : (tables now : Homed) (log longer : Growing Rec) (locks after_locks : Locks) (kept after : List Kept) (begun txn lsn : ℕ) (m : Managed) (p : Patch) → managed tables log locks kept begun ≡ m
    → CanPatch m p → IsLeastOther m.locks txn p.table p.key Exclusive None → now.own ≡ tables.own → Patched tables.all now.all p lsn → LockedSo locks after_locks txn p.table p.key Exclusive
    → longer.newest ≡ write_of txn p ∷ log.newest → lsn ≡ length log.newest + 1 → after ≡ map (with_write txn (length log.newest + 1)) kept
    → Writes m (managed now longer after_locks after begun) txn p.table p.key p.after lsn
written tables now log longer locks after_locks kept after begun txn lsn m p view can free own patched locked newest place lives =
    let known = from_view (λ (x : Managed). CanPatch x p) tables log locks kept begun m view can in
    let free_now = from_view (λ (x : Managed). IsLeastOther x.locks txn p.table p.key Exclusive None) tables log locks kept begun m view free in
    subst (λ (x : Managed). Writes x (managed now longer after_locks after begun) txn p.table p.key p.after lsn) view (
    record {
      locks = record {
        free = free_now;
        locked = locked;
        alive = record {
          shapes = shapes-patched tables.all now.all p lsn patched;
          own = own;
          living = ap alive_all lives ∙ alive-write txn (length log.newest + 1) kept;
          begun = refl;
        };
      };
      place = place;
      log = newest ∙ ap (λ (before : Option (List Value)). record { txn = txn; body = Write p.table p.key before p.after } ∷ log.newest) (sym known.was);
      sets = patched;
    }
    )

first_rest : (lsns : List ℕ) (lsn : ℕ) → first_of lsns ≡ Some lsn → lsns ≡ lsn ∷ rest_of lsns
first_rest [] lsn is = absurd (cc)
first_rest (first ∷ lsns) lsn is = ap (λ (n : ℕ). n ∷ lsns) (inside first lsn is)

pub managed-undone : (tables now : Homed) (log longer : Growing Rec) (locks : Locks) (kept after : List Kept) (begun txn undoes : ℕ) (m : Managed) (p : Patch) → managed tables log locks kept begun ≡ m
    → IsManaged tables log kept begun → is_live m.living txn ≡ true → first_of (writes_left txn m.log) ≡ Some undoes → CanPatch m p → now.own ≡ tables.own → Patched tables.all now.all p (length log.newest + 1)
    → longer.newest ≡ undo_of txn undoes p ∷ log.newest → length kept ≤ longer.spare → after ≡ map (with_undo txn) kept → IsManaged now longer after begun
managed-undone tables now log longer locks kept after begun txn undoes m p view is live last can own patched newest room lives =
    let known = from_view (λ (x : Managed). CanPatch x p) tables log locks kept begun m view can in
    let lives_now = from_view (λ (x : Managed). is_live x.living txn ≡ true) tables log locks kept begun m view live in
    let last_now = from_view (λ (x : Managed). first_of (writes_left txn x.log) ≡ Some undoes) tables log locks kept begun m view last in
    managed-put tables now log longer kept after begun txn p (undo_of txn undoes p) (with_undo txn) is lives_now known.apart own patched
    (puts-undo log.newest txn undoes p.table p.key p.before p.after) refl (same-undo txn)
    (keep-undo txn undoes (rest_of (writes_left txn log.newest)) p.table p.key p.before p.after log.newest kept (first_rest (writes_left txn log.newest) undoes last_now) is.writes) newest room lives

pub undone : (tables now : Homed) (log longer : Growing Rec) (locks : Locks) (kept after : List Kept) (begun txn undoes lsn : ℕ) (m : Managed) (p : Patch) → managed tables log locks kept begun ≡ m
    → IsBack m txn undoes p → now.own ≡ tables.own → Patched tables.all now.all p lsn → longer.newest ≡ undo_of txn undoes p ∷ log.newest → lsn ≡ length log.newest + 1 → after ≡ map (with_undo txn) kept
    → Undoes m (managed now longer locks after begun) txn lsn
unfolding PutsBack
undone tables now log longer locks kept after begun txn undoes lsn m p view back own patched newest place lives =
    let known = from_view (λ (x : Managed). IsBack x txn undoes p) tables log locks kept begun m view back in
    subst (λ (x : Managed). Undoes x (managed now longer locks after begun) txn lsn) view (
    record {
      place = place;
      back = undo_of txn undoes p;
      made = known.made;
      sets = patched;
      log = newest;
      locks = same_locks-refl locks;
      living = ap alive_all lives ∙ alive-undo txn kept;
      shapes = shapes-patched tables.all now.all p lsn patched;
      own = own;
      begun = refl;
    }
    )

-- ** the write that is undone **

-- the last write that is kept is the last one that is left
pub last_is : (tables : Homed) (log : Growing Rec) (locks : Locks) (kept : List Kept) (begun txn : ℕ) (m : Managed) → managed tables log locks kept begun ≡ m
    → IsManaged tables log kept begun → is_live m.living txn ≡ true → first_of (writes_of kept txn) ≡ first_of (writes_left txn m.log)
last_is tables log locks kept begun txn m view is live =
    let lives_now = from_view (λ (x : Managed). is_live x.living txn ≡ true) tables log locks kept begun m view live in
    ap first_of (writes_kept txn log.newest kept lives_now is.writes) ∙ ap (λ (x : Managed). first_of (writes_left txn x.log)) view

-- the record that undoes it
pub undo_made : (there : Rows) (log : List Rec) (txn undoes other : ℕ) (name : List ℕ) (key : List Value) (before after now : Option (List Value)) → first_of (writes_left txn log) ≡ Some undoes
    → numbered log undoes ≡ Some (record { txn = other; body = Write name key before after }) → there name key ≡ now
    → undo_record there log txn ≡ Some (record { txn = txn; body = Undo undoes name key now before })
unfolding undo_of_body
undo_made there log txn undoes other name key before after now last is was =
    ap (undo_last there log txn) (first_rest (writes_left txn log) undoes last) ∙ ap (undo_at there txn undoes) is
    ∙ ap (λ (row : Option (List Value)). Some (record { txn = txn; body = Undo undoes name key row before })) was

same_before : (txn other : ℕ) (name one_name : List ℕ) (key one_key : List Value) (before after one_before one_after : Option (List Value))
    → ◌≡◌ {A = Rec} (record { txn = txn; body = Write name key before after }) (record { txn = other; body = Write one_name one_key one_before one_after })
    → (name ≡ one_name) × (key ≡ one_key) × (before ≡ one_before)
same_before txn other name one_name key one_key before after one_before one_after is =
    let b : Write name key before after ≡ Write one_name one_key one_before one_after = ap (λ (r : Rec). r.body) is in
    (cc, cc, cc)

-- the table of the write that is undone is there
pub back_there : (m : Managed) (txn undoes other : ℕ) (name : List ℕ) (key : List Value) (before after : Option (List Value)) → CanUndo m.log m.shapes txn undoes
    → Some (record { txn = other; body = Write name key before after }) ≡ numbered m.log undoes → IsSome (schema_in m.shapes name)
back_there m txn undoes other name key before after can found =
    let same = same_before other txn name can.table key can.key before after can.before can.after (inside (record { txn = other; body = Write name key before after }) (record { txn = txn; body = Write can.table can.key can.before can.after }) (found ∙ can.is)) in
    let there : schema_in m.shapes name ≡ Some can.layout = ap (schema_in m.shapes) same.0 ∙ can.there in
    subst IsSome (sym there) refl

-- the change that undoes it
pub back_is : (m : Managed) (txn undoes other : ℕ) (name : List ℕ) (key : List Value) (before after now : Option (List Value)) → CanUndo m.log m.shapes txn undoes → first_of (writes_left txn m.log) ≡ Some undoes
    → Some (record { txn = other; body = Write name key before after }) ≡ numbered m.log undoes → IsThere m name key now → IsBack m txn undoes (record { table = name; key = key; before = now; after = before })
back_is m txn undoes other name key before after now can last found there =
    let same = same_before other txn name can.table key can.key before after can.before can.after (inside (record { txn = other; body = Write name key before after }) (record { txn = txn; body = Write can.table can.key can.before can.after }) (found ∙ can.is)) in
    let schema : schema_in m.shapes name ≡ Some can.layout = ap (schema_in m.shapes) same.0 ∙ can.there in
    let fits : FitsImage can.layout key before = subst (λ (k : List Value). FitsImage can.layout k before) (sym same.1) (subst (FitsImage can.layout can.key) (sym same.2) can.fits) in
    record {
      can = record { apart = there.apart; was = there.was; layout = can.layout; there = schema; held = there.fits can.layout schema; fits = fits };
      made = undo_made (row_now m.tables) m.log txn undoes other name key before after now last (sym found) there.was;
    }

-- the image of a change that fits has the key of the change
pub can_patch : (m : Managed) (name : List ℕ) (key : List Value) (change : Change) (before : Option (List Value)) → CanChange m.shapes name change → IsKeyOf m.shapes name change key → IsThere m name key before
    → CanPatch m (record { table = name; key = key; before = before; after = image_of change })
can_patch m name key change before can is there =
    record { apart = there.apart; was = there.was; layout = can.layout; there = can.there; held = there.fits can.layout can.there; fits = fits change can.fits (is can.layout can.there) }
  where
    fits : (c : Change) → FitsSchema can.layout c → key_of_change can.layout c ≡ key → FitsImage can.layout key (image_of c)
    fits (Insert row) admitted keyed = (admitted, sym keyed)
    fits (Replace row) admitted keyed = (admitted, sym keyed)
    fits (Delete k) admitted keyed = tt

-- the write that is undone is in the log
pub no_record : (log : List Rec) (shapes : List Shape) (txn undoes : ℕ) → CanUndo log shapes txn undoes → None ≡ numbered log undoes → ⊥
no_record log shapes txn undoes can none = missed (none ∙ can.is)
  where
    missed : ◌≡◌ {A = Option Rec} None (Some (record { txn = txn; body = Write can.table can.key can.before can.after })) → ⊥
    missed e = cc

-- and is a write
pub no_other : (log : List Rec) (shapes : List Shape) (txn undoes : ℕ) (r : Rec) → CanUndo log shapes txn undoes → Some r ≡ numbered log undoes
    → ((name : List ℕ) (key : List Value) (before after : Option (List Value)) → r.body ≡ Write name key before after → ⊥) → ⊥
no_other log shapes txn undoes r can found other =
    other can.table can.key can.before can.after (ap (λ (x : Rec). x.body) (inside r (record { txn = txn; body = Write can.table can.key can.before can.after }) (found ∙ can.is)))
