-- What each call of a manager leaves: over plain variables.
use Rattle.std.proofs.Common.{◌≡◌, ◌<◌, ◌≤◌, ◌+◌, ◌++◌, ◌∷◌, [], ℕ, zero, suc, List, length, map, take, true, arith, refl, sym, ◌∙◌, ap, subst}
use Rattle.std.specs.List.{AllByRecursion}
use Rattle.sx_lists.specs.Places.{Growing}
use Rattle.sx_log.specs.declared.record.Rec.{Rec}
use Rattle.sx_log.specs.declared.record.Body.{Body}
use Rattle.sx_log.specs.declared.record.Body.TheVariants.{Write, Undo, Commit, Abort, Mark, Check, Switch}
use Rattle.sx_log.specs.State.{after_body}
use Rattle.sx_locks.specs.Locks.{Locks, SameLocks, Freed}
use Rattle.sx_heap.specs.declared.tables.NamedTable.{NamedTable}
use Rattle.sx_txn.specs.Managed.{Shape, Managed, OwnMeets, Unchanged, SameTables, AreOwn, is_live, shape_of}
use Rattle.sx_txn.specs.Homes.{Homed}
use Rattle.sx_txn.specs.Turns.{Begins, Ends, Notes, IsNote}
use Rattle.sx_txn.specs.Lives.{Kept, alive_all, fresh, kept_without}
use Rattle.sx_txn.specs.Kept.{managed, AreNumbered, KeepsWrites, IsManaged, IsEnd}
use Rattle.sx_txn.proofs.LogLemmas.{left_none}
use Rattle.sx_txn.proofs.ManagedLemmas.{AreBelow-more, AreBelow-without, length-without, alive-without, keep-others, keep-without, apart-zero, apart-without, live-begun}
use Rattle.sx_txn.proofs.TableLemmas.{LeavesSame, tables-same, own_before}

pub same_locks-refl : (locks : Locks) → SameLocks locks locks
same_locks-refl locks txn table key = refl

-- ** the same **

pub same_shapes : (old new : List NamedTable) → SameTables old new → map shape_of new ≡ map shape_of old
same_shapes [] [] same = refl
same_shapes (t ∷ old) (u ∷ new) same = λ i. record { name = same.0.name i; schema = same.0.schema i } ∷ same_shapes old new same.1 i
same_shapes [] (u ∷ new) same = absurd same
same_shapes (t ∷ old) [] same = absurd same

same_rows : (n : ℕ) (log : List Rec) (shapes : List Shape) (old new : List NamedTable) → SameTables old new → AreOwn n log shapes old → AreOwn n log shapes new
same_rows zero log shapes old new same meet = tt
same_rows (suc n) log [] [] [] same meet = tt
same_rows (suc n) log (s ∷ shapes) (t ∷ old) (u ∷ new) same meet =
    (record { name = same.0.name ∙ meet.0.name; schema = same.0.schema ∙ meet.0.schema; rows = λ q. same.0.rows q ∙ meet.0.rows q }, same_rows n log shapes old new same.1 meet.1)
same_rows (suc n) log shapes [] (u ∷ new) same meet = absurd same
same_rows (suc n) log shapes (t ∷ old) [] same meet = absurd same
same_rows (suc n) log [] (t ∷ old) (u ∷ new) same meet = absurd meet
same_rows (suc n) log (s ∷ shapes) [] [] same meet = absurd meet

pub tables_stay : (tables : List NamedTable) → SameTables tables tables
tables_stay [] = tt
tables_stay (t ∷ tables) = (record { name = refl; schema = refl; rows = λ key. refl }, tables_stay tables)

-- more room, and tables with the same rows
pub managed-same : (tables now : Homed) (log longer : Growing Rec) (kept after : List Kept) (begun : ℕ) → IsManaged tables log kept begun
    → tables.own ≡ now.own → SameTables tables.all now.all → longer.newest ≡ log.newest → log.spare ≤ longer.spare → after ≡ kept → IsManaged now longer after begun
managed-same tables now log longer kept after begun is own same newest room lives =
    let shapes = same_shapes tables.all now.all same in
    let rows = subst (λ (ss : List Shape). AreOwn tables.own log.newest ss now.all) (sym shapes) (same_rows tables.own log.newest (map shape_of tables.all) tables.all now.all same is.rows) in
    subst (λ (k : List Kept). IsManaged now longer k begun) (sym lives) (
    record {
      rows = subst (λ (l : List Rec). AreOwn now.own l (map shape_of now.all) now.all) (sym newest) (subst (λ (n : ℕ). AreOwn n log.newest (map shape_of now.all) now.all) own rows);
      room = omega (arith, is.room);
      numbers = subst (λ (l : List Rec). AreNumbered l kept begun) (sym newest) is.numbers;
      writes = subst (λ (l : List Rec). AllByRecursion (KeepsWrites l) kept) (sym newest) is.writes;
    }
    )

pub unchanged : (tables now : Homed) (log longer : Growing Rec) (locks after_locks : Locks) (kept after : List Kept) (begun : ℕ) (m : Managed) → managed tables log locks kept begun ≡ m
    → tables.own ≡ now.own → SameTables tables.all now.all → longer.newest ≡ log.newest → SameLocks locks after_locks → after ≡ kept → Unchanged m (managed now longer after_locks after begun)
unchanged tables now log longer locks after_locks kept after begun m view own same newest held lives =
    subst (λ (x : Managed). Unchanged x (managed now longer after_locks after begun)) view (
    record {
      alive = record { shapes = same_shapes tables.all now.all same; own = sym own; living = ap alive_all lives; begun = refl };
      rows = same;
      log = newest;
      locks = held;
    }
    )

-- ** a begin **

pub managed-begun : (tables : Homed) (log longer : Growing Rec) (kept after : List Kept) (begun txn : ℕ) → IsManaged tables log kept begun
    → longer.newest ≡ log.newest → length kept + 1 ≤ longer.spare → txn ≡ begun + 1 → after ≡ fresh txn ∷ kept → IsManaged tables longer after txn
managed-begun tables log longer kept after begun txn is newest room next lives =
    let less : begun < txn = omega arith in
    let first : KeepsWrites log.newest (fresh txn) = sym (left_none begun txn log.newest less is.numbers.records) in
    let falling = AreBelow-more (begun + 1) txn kept (omega arith) is.numbers.falling in
    let few : txn ≤ length log.newest + suc (length kept) = omega (arith, is.numbers.few) in
    let numbers : AreNumbered log.newest (fresh txn ∷ kept) txn = record { falling = (omega arith, omega arith, falling); records = more begun txn (omega arith) log.newest is.numbers.records; few = few } in
    subst (λ (k : List Kept). IsManaged tables longer k txn) (sym lives) (
    record {
      rows = subst (λ (l : List Rec). AreOwn tables.own l (map shape_of tables.all) tables.all) (sym newest) is.rows;
      room = omega arith;
      numbers = subst (λ (l : List Rec). AreNumbered l (fresh txn ∷ kept) txn) (sym newest) numbers;
      writes = subst (λ (l : List Rec). AllByRecursion (KeepsWrites l) (fresh txn ∷ kept)) (sym newest) (first, is.writes);
    }
    )
  where
    more : (begun txn : ℕ) → begun ≤ txn → (log : List Rec) → AllByRecursion (λ (r : Rec). r.txn ≤ begun) log → AllByRecursion (λ (r : Rec). r.txn ≤ txn) log
    more begun txn le [] each = tt
    more begun txn le (r ∷ log) each = (omega (arith, each.0), more begun txn le log each.1)

pub begins : (tables : Homed) (log longer : Growing Rec) (locks : Locks) (kept after : List Kept) (begun txn : ℕ) (m : Managed) → managed tables log locks kept begun ≡ m
    → longer.newest ≡ log.newest → txn ≡ begun + 1 → after ≡ fresh txn ∷ kept → Begins m (managed tables longer locks after txn) txn
begins tables log longer locks kept after begun txn m view newest next lives =
    subst (λ (x : Managed). Begins x (managed tables longer locks after txn) txn) view (
    record { number = next; begun = refl; living = ap alive_all lives; shapes = refl; own = refl; rows = tables_stay tables.all; log = newest; locks = same_locks-refl locks }
    )

-- ** records without a row **

note-quiet : (log : List Rec) (txn : ℕ) (body : Body) → IsNote body → LeavesSame log (record { txn = txn; body = body } ∷ log)
unfolding after_body
note-quiet log txn Mark is table q = refl
note-quiet log txn (Check group dep) is table q = refl
note-quiet log txn Switch is table q = refl
note-quiet log txn (Write name key before after) is table q = absurd is
note-quiet log txn (Undo undoes name key before after) is table q = absurd is
note-quiet log txn Commit is table q = absurd is
note-quiet log txn Abort is table q = absurd is

end-quiet : (log : List Rec) (txn : ℕ) (body : Body) → IsEnd body → LeavesSame log (record { txn = txn; body = body } ∷ log)
unfolding after_body
end-quiet log txn Commit is table q = refl
end-quiet log txn Abort is table q = refl
end-quiet log txn Mark is table q = absurd is
end-quiet log txn (Check group dep) is table q = absurd is
end-quiet log txn Switch is table q = absurd is
end-quiet log txn (Write name key before after) is table q = absurd is
end-quiet log txn (Undo undoes name key before after) is table q = absurd is

pub managed-noted : (tables : Homed) (log longer : Growing Rec) (kept : List Kept) (begun : ℕ) (body : Body) → IsManaged tables log kept begun
    → IsNote body → longer.newest ≡ record { txn = 0; body = body } ∷ log.newest → length kept < log.spare → longer.spare + 1 ≡ log.spare → IsManaged tables longer kept begun
managed-noted tables log longer kept begun body is note newest room less =
    let r : Rec = record { txn = 0; body = body } in
    let more : List Rec = r ∷ log.newest in
    let few : begun ≤ suc (length log.newest) + length kept = omega (arith, is.numbers.few) in
    let numbers : AreNumbered more kept begun = record { falling = is.numbers.falling; records = (omega arith, is.numbers.records); few = few } in
    record {
      rows = subst (λ (l : List Rec). AreOwn tables.own l (map shape_of tables.all) tables.all) (sym newest) (tables-same tables.own log.newest more (map shape_of tables.all) tables.all (note-quiet log.newest 0 body note) is.rows);
      room = omega arith;
      numbers = subst (λ (l : List Rec). AreNumbered l kept begun) (sym newest) numbers;
      writes = subst (λ (l : List Rec). AllByRecursion (KeepsWrites l) kept) (sym newest) (keep-others r log.newest kept (apart-zero (begun + 1) kept is.numbers.falling) is.writes);
    }

pub notes : (tables : Homed) (log longer : Growing Rec) (locks : Locks) (kept : List Kept) (begun : ℕ) (m : Managed) (body : Body) (lsn : ℕ) → managed tables log locks kept begun ≡ m
    → longer.newest ≡ record { txn = 0; body = body } ∷ log.newest → longer.spare + 1 ≡ log.spare → lsn ≡ length longer.newest → Notes m (managed tables longer locks kept begun) body lsn
notes tables log longer locks kept begun m body lsn view newest less place =
    let long = ap length newest in
    subst (λ (x : Managed). Notes x (managed tables longer locks kept begun) body lsn) view (
    record { place = omega arith; log = newest; spare = less; locks = same_locks-refl locks; rows = tables_stay tables.all; alive = record { shapes = refl; own = refl; living = refl; begun = refl } }
    )

-- ** ends **

-- a live transaction has room for its end
pub has_room : (tables : Homed) (log : Growing Rec) (kept : List Kept) (begun txn : ℕ) → IsManaged tables log kept begun → is_live (alive_all kept) txn ≡ true → 0 < log.spare
has_room tables log kept begun txn is live = let one = length-without txn (begun + 1) kept is.numbers.falling live in omega (arith, is.room)

pub managed-ended : (tables : Homed) (log longer : Growing Rec) (kept after : List Kept) (begun txn : ℕ) (body : Body) → IsManaged tables log kept begun
    → is_live (alive_all kept) txn ≡ true → IsEnd body → longer.newest ≡ record { txn = txn; body = body } ∷ log.newest → longer.spare + 1 ≡ log.spare → after ≡ kept_without txn kept
    → IsManaged tables longer after begun
managed-ended tables log longer kept after begun txn body is live end newest less lives =
    let r : Rec = record { txn = txn; body = body } in
    let more : List Rec = r ∷ log.newest in
    let rest : List Kept = kept_without txn kept in
    let one = length-without txn (begun + 1) kept is.numbers.falling live in
    let mine = live-begun txn (begun + 1) kept is.numbers.falling live in
    let few : begun ≤ suc (length log.newest) + length rest = omega (arith, is.numbers.few) in
    let numbers : AreNumbered more rest begun = record { falling = AreBelow-without (begun + 1) txn kept is.numbers.falling; records = (omega arith, is.numbers.records); few = few } in
    subst (λ (k : List Kept). IsManaged tables longer k begun) (sym lives) (
    record {
      rows = subst (λ (l : List Rec). AreOwn tables.own l (map shape_of tables.all) tables.all) (sym newest) (tables-same tables.own log.newest more (map shape_of tables.all) tables.all (end-quiet log.newest txn body end) is.rows);
      room = omega (arith, is.room);
      numbers = subst (λ (l : List Rec). AreNumbered l rest begun) (sym newest) numbers;
      writes = subst (λ (l : List Rec). AllByRecursion (KeepsWrites l) rest) (sym newest) (keep-others r log.newest rest (apart-without txn kept) (keep-without txn log.newest kept is.writes));
    }
    )

pub ends : (tables : Homed) (log longer : Growing Rec) (locks after_locks : Locks) (kept after : List Kept) (begun txn : ℕ) (m : Managed) (body : Body) (lsn : ℕ) → managed tables log locks kept begun ≡ m
    → longer.newest ≡ record { txn = txn; body = body } ∷ log.newest → lsn ≡ length longer.newest → Freed locks after_locks txn → after ≡ kept_without txn kept
    → Ends m (managed tables longer after_locks after begun) txn body lsn
ends tables log longer locks after_locks kept after begun txn m body lsn view newest place freed lives =
    let long = ap length newest in
    subst (λ (x : Managed). Ends x (managed tables longer after_locks after begun) txn body lsn) view (
    record { place = omega arith; log = newest; locks = freed; living = ap alive_all lives ∙ alive-without txn kept; shapes = refl; own = refl; rows = tables_stay tables.all; begun = refl }
    )

-- a fact about what a contract sees is one about the fields
pub from_view : (P : Managed → Type 0) (tables : Homed) (log : Growing Rec) (locks : Locks) (kept : List Kept) (begun : ℕ) (m : Managed) → managed tables log locks kept begun ≡ m → P m → P (managed tables log locks kept begun)
from_view P tables log locks kept begun m view fact = subst P (sym view) fact

pub length-alive : (kept : List Kept) → length (alive_all kept) ≡ length kept
length-alive [] = refl
length-alive (k ∷ kept) = ap suc (length-alive kept)

-- a live transaction was begun
pub lives_begun : (tables : Homed) (log : Growing Rec) (kept : List Kept) (begun txn : ℕ) → IsManaged tables log kept begun → is_live (alive_all kept) txn ≡ true → txn ≤ begun
lives_begun tables log kept begun txn is live = let less = live-begun txn (begun + 1) kept is.numbers.falling live in omega arith

-- other new tables behind the declared ones
pub managed-exchanged : (tables now : Homed) (log : Growing Rec) (kept : List Kept) (begun : ℕ) (fresh : List NamedTable) → IsManaged tables log kept begun → tables.own ≤ length tables.all
    → now.own ≡ tables.own → now.all ≡ take tables.own tables.all ++ fresh → IsManaged now log kept begun
managed-exchanged tables now log kept begun fresh is few own all =
    let rows = own_before tables.own log.newest tables.all fresh few is.rows in
    let rows_now : AreOwn tables.own log.newest (map shape_of now.all) now.all = subst (λ (ts : List NamedTable). AreOwn tables.own log.newest (map shape_of ts) ts) (sym all) rows in
    record { rows = subst (λ (n : ℕ). AreOwn n log.newest (map shape_of now.all) now.all) (sym own) rows_now; room = is.room; numbers = is.numbers; writes = is.writes }

-- tables without a transaction
pub nobody_managed : (tables : Homed) (log : Growing Rec) (kept : List Kept) → kept ≡ [] → AllByRecursion (λ (r : Rec). r.txn ≡ 0) log.newest → AreOwn tables.own log.newest (map shape_of tables.all) tables.all → IsManaged tables log kept 0
nobody_managed tables log kept none nobody rows =
    subst (λ (k : List Kept). IsManaged tables log k 0) (sym none) (
    record {
      rows = rows;
      room = omega arith;
      numbers = record { falling = tt; records = low log.newest nobody; few = omega arith };
      writes = tt;
    }
    )
  where
    low : (log : List Rec) → AllByRecursion (λ (r : Rec). r.txn ≡ 0) log → AllByRecursion (λ (r : Rec). r.txn ≤ 0) log
    low [] each = tt
    low (r ∷ log) each = (let zero_txn = each.0 in omega (arith, zero_txn), low log each.1)

-- the declared tables have what the log leaves
pub own_meets : (tables : Homed) (log : Growing Rec) (locks : Locks) (kept : List Kept) (begun : ℕ) (m : Managed) → managed tables log locks kept begun ≡ m → IsManaged tables log kept begun → OwnMeets m
own_meets tables log locks kept begun m view is = subst OwnMeets view (record { rows = is.rows; shapes = refl })
