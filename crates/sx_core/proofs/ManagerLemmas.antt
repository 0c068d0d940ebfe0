-- A manager still meets the journal behind each entry: over plain variables.
use Rattle.std.proofs.Common.{◌≡◌, ◌≤◌, ◌+◌, ◌==◌, ◌&&◌, ◌||◌, ◌++◌, ℕ, Bool, true, false, List, [], ◌∷◌, length, Option, Some, None, option_map, IfSome, IsSome, is_some, unwrap_or, refl, sym, ap, ◌∙◌, subst, arith, if◌then◌else◌}
use Rattle.std.specs.Option.{option_to_list}
use Rattle.std.proofs.lemmas.Bool.Decides.{nat_tests}
use Rattle.std.specs.List.{AllByRecursion}
use Rattle.sx_values.specs.declared.value.Value.{Value}
use Rattle.sx_values.specs.Names.{same_name}
use Rattle.sx_values.specs.Values.{values_eq}
use Rattle.sx_values.proofs.KeyLaws.{same_name_tells}
use Rattle.sx_heap.proofs.RowLemmas.{same_key_tells}
use Rattle.sx_log.specs.declared.record.Body.{Body}
use Rattle.sx_log.specs.declared.record.Rec.{Rec}
use Rattle.sx_log.specs.declared.record.Body.TheVariants.{Write, Undo, Commit, Abort, Mark, Check, Switch}
use Rattle.sx_log.specs.State.{Stored, stored, is_place, after_body}
use Rattle.sx_log.specs.Images.{FitsTables}
use Rattle.sx_values.specs.Catalogs.{schema_of}
use Rattle.sx_heap.specs.declared.tables.NamedTable.{NamedTable}
use Rattle.sx_log.specs.Undoing.{Rows, writes_left, undo_of, undo_at, undo_last, undo_record}
use Rattle.sx_locks.specs.declared.mode.Mode.{Mode}
use Rattle.sx_locks.specs.declared.mode.Mode.TheVariants.{Shared, Exclusive}
use Rattle.sx_locks.specs.Modes.{stronger}
use Rattle.sx_locks.specs.Locks.{mode_held, SameLocks, LockedSo}
use Rattle.sx_txn.specs.Managed.{Managed, Shape, SameTables, Unchanged, is_live, is_ending as ends_in, with_ending, schema_in, row_now as has_now}
use Rattle.sx_txn.specs.Turns.{Begins as ManagerBegins, Reads as ManagerReads, Writes as ManagerWrites, Ends, Undoes as ManagerUndoes, Notes, SetsRowAt, PutsBack, CanUndo, CanUndoLast}
use Rattle.sx_txn.specs.Writes.{first_of}
use Rattle.sx_journal.specs.declared.entry.Entry.{Entry}
use Rattle.sx_model.specs.Effects.{Effect, Nothing, Reads, Begins, Writes, Undoes, Commits, Aborts, Starts, Sees, Fetches, Conflicts, effect}
use Rattle.sx_model.specs.Openings.{Opening}
use Rattle.sx_sync.specs.declared.Phase.TheVariants.{Done}
use Rattle.sx_model.specs.LoadRecords.{IsOpened}
use Rattle.sx_model.specs.Known.{known}
use Rattle.sx_model.specs.NewRows.{row_in, state_in}
use Rattle.sx_model.specs.Leaves.{phase, living, living_after, without, txn_of, begun, begun_after}
use Rattle.sx_model.specs.Logs.{log_of, row_now, event_record, effect_record}
use Rattle.sx_model.specs.Held.{is_txn, is_for_key, lock_of, lock_after, undoes, is_ending}
use Rattle.sx_model.specs.Legal.{Legal}
use Rattle.sx_model.proofs.TestLaws.{by_cases}
use Rattle.sx_model.proofs.EntryLaws.{log_after, log_by, log-started, living_by}
use Rattle.sx_model.proofs.NowLaws.{state_same, state_next}
use Rattle.sx_model.proofs.LivingLaws.{legal_living}
use Rattle.sx_core.specs.Kept.{ManagerMeets, shapes_of, shown_now, stored_in}
use Rattle.sx_core.proofs.TurnLemmas.{same-stored}
use Rattle.sx_core.proofs.StoredLemmas.{stored-row, stored-set}
use Rattle.sx_core.proofs.LivingLemmas.{numbers, alive_numbers, among, but, live_among, ended_same, among_begun, numbers-without, ends-without, live_without, numbers-with_ending, ends-with_ending, ends-this, ends_live}
use Rattle.sx_core.proofs.LockLemmas.{lock_by, lock-same, ending_begun}

-- ** what an entry leaves **

pub begun_by : (past : List Entry) (e : Entry) (f : Effect) → effect e.reply ≡ f → begun (e ∷ past) ≡ begun_after f (begun past)
begun_by past e f told = ap (λ g. begun_after g (begun past)) told

ends_after : List Entry → Entry → Effect → ℕ → Bool
ends_after past e f t = (is_txn t (txn_of past e.actor) && undoes f) || is_ending past t

ends_by : (past : List Entry) (e : Entry) (f : Effect) (t : ℕ) → effect e.reply ≡ f → is_ending (e ∷ past) t ≡ ends_after past e f t
unfolding ends_after
ends_by past e f t told = ap (λ g. (is_txn t (txn_of past e.actor) && undoes g) || is_ending past t) told

-- an entry that undoes nothing
ends-same : (past : List Entry) (e : Entry) (f : Effect) (t : ℕ) → effect e.reply ≡ f → undoes f ≡ false → is_ending (e ∷ past) t ≡ is_ending past t
unfolding ends_after
ends-same past e f t told quiet =
    ends_by past e f t told ∙ ap (λ u. (is_txn t (txn_of past e.actor) && u) || is_ending past t) quiet ∙ neither (is_txn t (txn_of past e.actor))
  where
    neither : (b : Bool) → ((b && false) || is_ending past t) ≡ is_ending past t
    neither true = refl
    neither false = refl

-- the client's transaction
txn_here : (past : List Entry) (e : Entry) (txn : ℕ) → txn_of past e.actor ≡ Some txn → unwrap_or (txn_of past e.actor) 0 ≡ txn
txn_here past e txn inside = ap (λ t. unwrap_or t 0) inside

-- ** the fields that most entries leave **

pub living_same : (o : Opening) (past : List Entry) (m n : Managed) (e : Entry) (f : Effect) → ManagerMeets o past m → n.living ≡ m.living → effect e.reply ≡ f → living_after e.actor f (living past) ≡ living past
    → alive_numbers n.living ≡ numbers (living (e ∷ past))
living_same o past m n e f meets same told stays = ap alive_numbers same ∙ meets.living ∙ sym (ap numbers (living_by past e f told ∙ stays))

pub ending_same : (o : Opening) (past : List Entry) (m n : Managed) (e : Entry) (f : Effect) → ManagerMeets o past m → n.living ≡ m.living → effect e.reply ≡ f → undoes f ≡ false
    → (t : ℕ) → is_live n.living t ≡ true → ends_in n.living t ≡ is_ending (e ∷ past) t
ending_same o past m n e f meets same told quiet t lives =
    ap (λ l. ends_in l t) same ∙ meets.ending t (sym (ap (λ l. is_live l t) same) ∙ lives) ∙ sym (ends-same past e f t told quiet)

pub locks_same : (o : Opening) (past : List Entry) (m n : Managed) (e : Entry) (f : Effect) → ManagerMeets o past m → SameLocks m.locks n.locks → effect e.reply ≡ f
    → ((t : ℕ) (table : List ℕ) (key : List Value) → lock_after (known o past) e.event f table key (lock_of o past t table key) ≡ lock_of o past t table key)
    → (t : ℕ) (table : List ℕ) (key : List Value) → mode_held n.locks t table key ≡ lock_of o (e ∷ past) t table key
locks_same o past m n e f meets same told stays t table key =
    same t table key ∙ meets.locks t table key ∙ sym (lock-same o past e f t table key told (stays t table key))

-- ** what the tables have **

-- an entry that shows no new tables, in a legal journal whose loaded rows fit
pub record IsSteady (o : Opening) (past : List Entry) (e : Entry) : Type 0 where
  pub opened : IsOpened o
  pub loads : AllByRecursion (λ (r : Rec). FitsTables (schema_of o.catalog) r.body) o.loads
  pub legal : Legal o (e ∷ past)
  pub shown : shown_now o (e ∷ past) ≡ shown_now o past
  pub timely : phase (e ∷ past) ≡ Done → phase past ≡ Done

-- tables of these names and schemas have what the entries leave
abbrev HaveRows : Opening → List Entry → List Shape → List NamedTable → Type 0
HaveRows o past shapes tables = (name : List ℕ) (key : List Value) → IsSome (schema_in shapes name) → stored_in tables name key ≡ state_in o past (log_of o past) name key

shapes_steady : (o : Opening) (past : List Entry) (m n : Managed) (e : Entry) → IsSteady o past e → ManagerMeets o past m → n.shapes ≡ m.shapes → n.shapes ≡ shapes_of (o.catalog ++ shown_now o (e ∷ past))
shapes_steady o past m n e steady meets same = same ∙ meets.shapes ∙ ap (λ shown. shapes_of (o.catalog ++ shown)) (sym steady.shown)

-- the same rows, where no record comes
rows_same : (o : Opening) (past : List Entry) (m n : Managed) (e : Entry) → IsSteady o past e → ManagerMeets o past m → n.shapes ≡ m.shapes → SameTables m.tables n.tables → log_of o (e ∷ past) ≡ log_of o past → HaveRows o (e ∷ past) n.shapes n.tables
rows_same o past m n e steady meets shapes same quiet name key there =
    same-stored m.tables n.tables name key same ∙ meets.rows name key (subst (λ l. IsSome (schema_in l name)) shapes there)
    ∙ sym (state_same o past e name key steady.opened steady.loads steady.legal steady.timely quiet)

-- or one that no row changes by
rows_noted : (o : Opening) (past : List Entry) (m n : Managed) (e : Entry) (r : Rec) → IsSteady o past e → ManagerMeets o past m → n.shapes ≡ m.shapes → SameTables m.tables n.tables → log_of o (e ∷ past) ≡ r ∷ log_of o past
    → ((name : List ℕ) (key : List Value) (earlier : Option Stored) → after_body (length (log_of o past) + 1) r.body name key earlier ≡ earlier) → HaveRows o (e ∷ past) n.shapes n.tables
rows_noted o past m n e r steady meets shapes same grown silent name key there =
    same-stored m.tables n.tables name key same ∙ meets.rows name key (subst (λ l. IsSome (schema_in l name)) shapes there)
    ∙ sym (state_next o past e r name key steady.opened steady.loads steady.legal steady.timely grown ∙ silent name key (state_in o past (log_of o past) name key))

-- or one that sets a row
rows_set : (o : Opening) (past : List Entry) (m n : Managed) (e : Entry) (r : Rec) (table : List ℕ) (key : List Value) (image : Option (List Value)) → IsSteady o past e → ManagerMeets o past m → n.shapes ≡ m.shapes
    → SetsRowAt m.tables n.tables table key (stored (length (log_of o past) + 1) image) → log_of o (e ∷ past) ≡ r ∷ log_of o past
    → ((name : List ℕ) (at : List Value) (earlier : Option Stored) → after_body (length (log_of o past) + 1) r.body name at earlier ≡ (if is_place table key name at then stored (length (log_of o past) + 1) image else earlier)) → HaveRows o (e ∷ past) n.shapes n.tables
rows_set o past m n e r table key image steady meets shapes sets grown tells name at there =
    stored-set m.tables n.tables table key (stored (length (log_of o past) + 1) image) name at sets
    ∙ ap (λ was. if is_place table key name at then stored (length (log_of o past) + 1) image else was) (meets.rows name at (subst (λ l. IsSome (schema_in l name)) shapes there))
    ∙ sym (state_next o past e r name at steady.opened steady.loads steady.legal steady.timely grown ∙ tells name at (state_in o past (log_of o past) name at))

-- what a table that is there has at a key
pub row-there : (o : Opening) (past : List Entry) (m : Managed) (name : List ℕ) (key : List Value) → ManagerMeets o past m → IsSome (schema_in m.shapes name) → has_now m.tables name key ≡ row_now o past name key
row-there o past m name key meets there = stored-row m.tables name key ∙ ap (option_map (λ (s : Stored). s.0)) (meets.rows name key there)

-- an undo looks only at a table that is there
undo_same : (there left : Rows) (log : List Rec) (shapes : List Shape) (txn : ℕ) (writes : List ℕ) → IfSome (first_of writes) (CanUndo log shapes txn)
    → ((name : List ℕ) (key : List Value) → IsSome (schema_in shapes name) → there name key ≡ left name key) → undo_last there log txn writes ≡ undo_last left log txn writes
unfolding undo_of
undo_same there left log shapes txn [] can same = refl
undo_same there left log shapes txn (lsn ∷ writes) can same =
    ap (undo_at there txn lsn) can.is
    ∙ ap (λ row. Some (record { txn = txn; body = Undo lsn can.table can.key row can.before })) (same can.table can.key (ap is_some can.there))
    ∙ sym (ap (undo_at left txn lsn) can.is)

-- so it makes the record that the journal says
pub undo-made : (o : Opening) (past : List Entry) (m : Managed) (txn : ℕ) (back : Rec) → ManagerMeets o past m → CanUndoLast m txn → undo_record (has_now m.tables) m.log txn ≡ Some back
    → undo_record (row_in o past (log_of o past)) (log_of o past) txn ≡ Some back
undo-made o past m txn back meets can made =
    ap (λ l. undo_record (row_in o past (log_of o past)) l txn) (sym meets.log_is)
    ∙ sym (undo_same (has_now m.tables) (row_in o past (log_of o past)) m.log m.shapes txn (writes_left txn m.log) can (λ name key there. row-there o past m name key meets there))
    ∙ made

-- ** an entry that leaves the manager **

-- an effect of an entry that leaves the log, the transactions and the locks
pub record IsQuiet (o : Opening) (past : List Entry) (e : Entry) (f : Effect) : Type 0 where
  pub told : effect e.reply ≡ f
  pub log : log_after o past e f ≡ log_of o past
  pub begins : begun_after f (begun past) ≡ begun past
  pub lives : living_after e.actor f (living past) ≡ living past
  pub no_undo : undoes f ≡ false
  pub locks : (t : ℕ) (table : List ℕ) (key : List Value) → lock_after (known o past) e.event f table key (lock_of o past t table key) ≡ lock_of o past t table key

pub meets-quiet : (o : Opening) (past : List Entry) (m n : Managed) (e : Entry) (f : Effect) → IsSteady o past e → ManagerMeets o past m → Unchanged m n → IsQuiet o past e f → ManagerMeets o (e ∷ past) n
meets-quiet o past m n e f steady meets same quiet = record {
  shapes = shapes_steady o past m n e steady meets same.alive.shapes;
  own = same.alive.own ∙ meets.own;
  log_is = same.log ∙ meets.log_is ∙ sym (log_by o past e f quiet.told ∙ quiet.log);
  rows = rows_same o past m n e steady meets same.alive.shapes same.rows (log_by o past e f quiet.told ∙ quiet.log);
  begun = same.alive.begun ∙ meets.begun ∙ sym (begun_by past e f quiet.told ∙ quiet.begins);
  living = living_same o past m n e f meets same.alive.living quiet.told quiet.lives;
  ending = ending_same o past m n e f meets same.alive.living quiet.told quiet.no_undo;
  locks = locks_same o past m n e f meets same.locks quiet.told quiet.locks;
}

pub quiet-nothing : (o : Opening) (past : List Entry) (e : Entry) → effect e.reply ≡ Nothing → IsQuiet o past e Nothing
quiet-nothing o past e told = record { told = told; log = refl; begins = refl; lives = refl; no_undo = refl; locks = λ t table key. refl }

pub quiet-sees : (o : Opening) (past : List Entry) (e : Entry) (lsns : List ℕ) (last : Bool) → effect e.reply ≡ Sees lsns last → IsQuiet o past e (Sees lsns last)
quiet-sees o past e lsns last told = record { told = told; log = refl; begins = refl; lives = refl; no_undo = refl; locks = λ t table key. refl }

pub quiet-fetches : (o : Opening) (past : List Entry) (e : Entry) (place : ℕ) → effect e.reply ≡ Fetches place → IsQuiet o past e (Fetches place)
quiet-fetches o past e place told = record { told = told; log = refl; begins = refl; lives = refl; no_undo = refl; locks = λ t table key. refl }

pub quiet-conflicts : (o : Opening) (past : List Entry) (e : Entry) → effect e.reply ≡ Conflicts → IsQuiet o past e Conflicts
quiet-conflicts o past e told = record { told = told; log = refl; begins = refl; lives = refl; no_undo = refl; locks = λ t table key. refl }

-- ** the start's record **

mark_silent : (lsn : ℕ) (name : List ℕ) (key : List Value) (earlier : Option Stored) → after_body lsn Mark name key earlier ≡ earlier
unfolding after_body
mark_silent lsn name key earlier = refl

pub meets-started : (o : Opening) (past : List Entry) (m n : Managed) (e : Entry) (lsn mark : ℕ) → IsSteady o past e → ManagerMeets o past m → Notes m n Mark lsn → effect e.reply ≡ Starts mark → ManagerMeets o (e ∷ past) n
meets-started o past m n e lsn mark steady meets notes told = record {
  shapes = shapes_steady o past m n e steady meets notes.alive.shapes;
  own = notes.alive.own ∙ meets.own;
  log_is = notes.log ∙ ap (λ l. record { txn = 0; body = Mark } ∷ l) meets.log_is ∙ sym (log-started o past e mark told);
  rows = rows_noted o past m n e (record { txn = 0; body = Mark }) steady meets notes.alive.shapes notes.rows (log-started o past e mark told) (mark_silent (length (log_of o past) + 1));
  begun = notes.alive.begun ∙ meets.begun ∙ sym (begun_by past e (Starts mark) told);
  living = living_same o past m n e (Starts mark) meets notes.alive.living told refl;
  ending = ending_same o past m n e (Starts mark) meets notes.alive.living told refl;
  locks = locks_same o past m n e (Starts mark) meets notes.locks told (λ t table key. refl);
}

-- ** a transaction begins **

-- nothing is known of a number that wasn't begun
fresh_ends : (o : Opening) (past : List Entry) (m : Managed) (t : ℕ) → Legal o past → ManagerMeets o past m → begun past + 1 ≤ t → (ends_in m.living t ≡ false) × (is_ending past t ≡ false)
fresh_ends o past m t legal meets fresh = (
  by_cases (is_live m.living t)
      (λ lives.
      let named : among (numbers (living past)) t ≡ true = sym (live_among m.living t ∙ ap (λ ns. among ns t) meets.living) ∙ lives in
      let h = among_begun (begun past) (living past) t (legal_living o past legal).each named in
      absurd (omega arith))
      (λ dead. ends_live m.living t dead),
  by_cases (is_ending past t) (λ ends. let h = ending_begun o past t legal ends in absurd (omega arith)) (λ never. never),
)

pub meets-begun : (o : Opening) (past : List Entry) (m n : Managed) (e : Entry) (txn : ℕ) → IsSteady o past e → ManagerMeets o past m → ManagerBegins m n txn → effect e.reply ≡ Begins txn → txn_of past e.actor ≡ None
    → ManagerMeets o (e ∷ past) n
meets-begun o past m n e txn steady meets begins told outside = record {
  shapes = shapes_steady o past m n e steady meets begins.shapes;
  own = begins.own ∙ meets.own;
  log_is = begins.log ∙ meets.log_is ∙ sym (log_by o past e (Begins txn) told);
  rows = rows_same o past m n e steady meets begins.shapes begins.rows (log_by o past e (Begins txn) told);
  begun = begins.begun ∙ begins.number ∙ ap (λ k. k + 1) meets.begun ∙ sym (begun_by past e (Begins txn) told);
  living = ap alive_numbers begins.living ∙ ap (λ l. txn ∷ l) meets.living ∙ sym (ap numbers (living_by past e (Begins txn) told));
  ending = λ t lives. ap (λ l. ends_in l t) begins.living ∙ (by_cases (txn == t) (λ same. new t same) (λ other. old t other (ap (λ l. is_live l t) (sym begins.living) ∙ lives)) ∙ sym (ends-same past e (Begins txn) t told refl));
  locks = locks_same o past m n e (Begins txn) meets begins.locks told (λ t table key. refl);
}
  where
    new : (t : ℕ) → (txn == t) ≡ true → ends_in (record { txn = txn; ending = false } ∷ m.living) t ≡ is_ending past t
    new t same =
        let number = begins.number ∙ ap (λ k. k + 1) meets.begun in
        let e : txn ≡ t = grind (arith, nat_tests) in
        let fresh = fresh_ends o past m t steady.legal.0 meets (omega arith) in
        rw (same, fresh.0, fresh.1) refl

    old : (t : ℕ) → (txn == t) ≡ false → is_live (record { txn = txn; ending = false } ∷ m.living) t ≡ true → ends_in (record { txn = txn; ending = false } ∷ m.living) t ≡ is_ending past t
    old t other lives = rw other (meets.ending t (rw other at lives))

-- ** a transaction reads or writes a key **

same_number : (a b : ℕ) → (a == b) ≡ (b == a)
same_number a b = by_cases (b == a) (λ t. let e : (a == b) ≡ true = grind (arith, nat_tests) in e ∙ sym t) (λ f. let e : (a == b) ≡ false = grind (arith, nat_tests) in e ∙ sym f)

got_same : (a b : Bool) (x y held : Option Mode) → ((a && b) ≡ true → x ≡ y) → (if a && b then x else held) ≡ (if a then (if b then y else held) else held)
got_same true true x y held same = same refl
got_same true false x y held same = refl
got_same false b x y held same = refl

first_true : (a b : Bool) → (a && b) ≡ true → a ≡ true
first_true true b e = refl
first_true false b e = absurd (cc)

second_true : (a b : Bool) → (a && b) ≡ true → b ≡ true
second_true true b e = e
second_true false b e = absurd (cc)

-- where the transaction and the place are these, the lock is this one
same_lock : (o : Opening) (past : List Entry) (m : Managed) (txn t : ℕ) (table other : List ℕ) (key at : List Value) → ManagerMeets o past m
    → ((txn == t) && is_place table key other at) ≡ true → mode_held m.locks txn table key ≡ lock_of o past t other at
same_lock o past m txn t table other key at meets here =
    let number = first_true (txn == t) (is_place table key other at) here in
    let place = second_true (txn == t) (is_place table key other at) here in
    let txn_is : txn ≡ t = grind (arith, nat_tests) in
    let table_is = same_name_tells table other (first_true (same_name table other) (values_eq key at) place) in
    let key_is = same_key_tells key at (second_true (same_name table other) (values_eq key at) place) in
    meets.locks txn table key ∙ ap (λ x. lock_of o past x table key) txn_is ∙ ap (λ x. lock_of o past t x key) table_is ∙ ap (lock_of o past t other) key_is

-- what a lock on a key does, as the journal says it
abbrev locked_model : Opening → List Entry → ℕ → ℕ → List ℕ → List Value → Option Mode → List ℕ → List Value → Option Mode
locked_model o past txn t table key image other at =
    if t == txn then (if is_place table key other at then image else lock_of o past t other at) else lock_of o past t other at

locks_locked : (o : Opening) (past : List Entry) (m n : Managed) (txn : ℕ) (table : List ℕ) (key : List Value) (mode : Mode) (t : ℕ) (other : List ℕ) (at : List Value) → ManagerMeets o past m → LockedSo m.locks n.locks txn table key mode
    → mode_held n.locks t other at ≡ locked_model o past txn t table key (Some (stronger (lock_of o past t other at) mode)) other at
locks_locked o past m n txn table key mode t other at meets locked =
    locked t other at
    ∙ got_same (txn == t) (is_place table key other at) (Some (stronger (mode_held m.locks txn table key) mode)) (Some (stronger (lock_of o past t other at) mode)) (mode_held m.locks t other at)
    (λ here. ap (λ held. Some (stronger held mode)) (same_lock o past m txn t table other key at meets here))
    ∙ ap (λ held. if txn == t then (if is_place table key other at then Some (stronger (lock_of o past t other at) mode) else held) else held) (meets.locks t other at)
    ∙ ap (λ b. if b then (if is_place table key other at then Some (stronger (lock_of o past t other at) mode) else lock_of o past t other at) else lock_of o past t other at) (same_number txn t)

strongest : (held : Option Mode) → stronger held Exclusive ≡ Exclusive
strongest None = refl
strongest (Some Shared) = refl
strongest (Some Exclusive) = refl

-- the lock that a read takes
locks-read : (o : Opening) (past : List Entry) (m n : Managed) (e : Entry) (txn : ℕ) (table : List ℕ) (key : List Value) → ManagerMeets o past m → LockedSo m.locks n.locks txn table key Shared
    → effect e.reply ≡ Reads → txn_of past e.actor ≡ Some txn → ((other : List ℕ) (at : List Value) → is_for_key (known o past) e.event other at ≡ is_place table key other at)
    → (t : ℕ) (other : List ℕ) (at : List Value) → mode_held n.locks t other at ≡ lock_of o (e ∷ past) t other at
locks-read o past m n e txn table key meets locked told inside asks t other at =
    locks_locked o past m n txn table key Shared t other at meets locked
    ∙ sym (lock_by o past e Reads t other at told
    ∙ ap (λ here. if is_txn t here then lock_after (known o past) e.event Reads other at (lock_of o past t other at) else lock_of o past t other at) inside
    ∙ ap (λ b. if t == txn then (if b then Some (stronger (lock_of o past t other at) Shared) else lock_of o past t other at) else lock_of o past t other at) (asks other at))

-- and the one that a write takes
locks-written : (o : Opening) (past : List Entry) (m n : Managed) (e : Entry) (txn : ℕ) (table : List ℕ) (key : List Value) → ManagerMeets o past m → LockedSo m.locks n.locks txn table key Exclusive
    → effect e.reply ≡ Writes → txn_of past e.actor ≡ Some txn → ((other : List ℕ) (at : List Value) → is_for_key (known o past) e.event other at ≡ is_place table key other at)
    → (t : ℕ) (other : List ℕ) (at : List Value) → mode_held n.locks t other at ≡ lock_of o (e ∷ past) t other at
locks-written o past m n e txn table key meets locked told inside asks t other at =
    locks_locked o past m n txn table key Exclusive t other at meets locked
    ∙ ap (λ mode. locked_model o past txn t table key (Some mode) other at) (strongest (lock_of o past t other at))
    ∙ sym (lock_by o past e Writes t other at told
    ∙ ap (λ here. if is_txn t here then lock_after (known o past) e.event Writes other at (lock_of o past t other at) else lock_of o past t other at) inside
    ∙ ap (λ b. if t == txn then (if b then Some Exclusive else lock_of o past t other at) else lock_of o past t other at) (asks other at))

pub meets-read : (o : Opening) (past : List Entry) (m n : Managed) (e : Entry) (txn : ℕ) (table : List ℕ) (key : List Value) (row : Option (List Value)) → IsSteady o past e → ManagerMeets o past m → ManagerReads m n txn table key row
    → effect e.reply ≡ Reads → txn_of past e.actor ≡ Some txn → ((other : List ℕ) (at : List Value) → is_for_key (known o past) e.event other at ≡ is_place table key other at)
    → ManagerMeets o (e ∷ past) n
meets-read o past m n e txn table key row steady meets reads told inside asks = record {
  shapes = shapes_steady o past m n e steady meets reads.locks.alive.shapes;
  own = reads.locks.alive.own ∙ meets.own;
  log_is = reads.log ∙ meets.log_is ∙ sym (log_by o past e Reads told);
  rows = rows_same o past m n e steady meets reads.locks.alive.shapes reads.rows (log_by o past e Reads told);
  begun = reads.locks.alive.begun ∙ meets.begun ∙ sym (begun_by past e Reads told);
  living = living_same o past m n e Reads meets reads.locks.alive.living told refl;
  ending = ending_same o past m n e Reads meets reads.locks.alive.living told refl;
  locks = locks-read o past m n e txn table key meets reads.locks.locked told inside asks;
}

-- the record of a write, by the journal
abbrev pub written : Opening → List Entry → ℕ → List ℕ → List Value → Option (List Value) → Rec
written o past txn table key image = record { txn = txn; body = Write table key (row_now o past table key) image }

-- the log behind a write
log-write : (o : Opening) (past : List Entry) (e : Entry) (txn : ℕ) (table : List ℕ) (key : List Value) (image : Option (List Value)) → effect e.reply ≡ Writes → txn_of past e.actor ≡ Some txn
    → event_record (known o past) (row_in o past (log_of o past)) txn e.event ≡ Some (written o past txn table key image) → log_of o (e ∷ past) ≡ written o past txn table key image ∷ log_of o past
log-write o past e txn table key image told inside made =
    log_by o past e Writes told
    ∙ ap (λ t. option_to_list (event_record (known o past) (row_in o past (log_of o past)) t e.event) ++ log_of o past) (txn_here past e txn inside)
    ∙ ap (λ r. option_to_list r ++ log_of o past) made

write_tells : (lsn : ℕ) (table : List ℕ) (key : List Value) (before image : Option (List Value)) (name : List ℕ) (at : List Value) (earlier : Option Stored) → after_body lsn (Write table key before image) name at earlier ≡ (if is_place table key name at then stored lsn image else earlier)
unfolding after_body
write_tells lsn table key before image name at earlier = refl

-- the place of a manager's next record
next_place : (o : Opening) (past : List Entry) (m : Managed) (lsn : ℕ) → ManagerMeets o past m → lsn ≡ length m.log + 1 → lsn ≡ length (log_of o past) + 1
next_place o past m lsn meets is = is ∙ ap (λ l. length l + 1) meets.log_is

pub meets-written : (o : Opening) (past : List Entry) (m n : Managed) (e : Entry) (txn : ℕ) (table : List ℕ) (key : List Value) (image : Option (List Value)) (lsn : ℕ) → IsSteady o past e → ManagerMeets o past m → ManagerWrites m n txn table key image lsn
    → has_now m.tables table key ≡ row_now o past table key → effect e.reply ≡ Writes → txn_of past e.actor ≡ Some txn → ((other : List ℕ) (at : List Value) → is_for_key (known o past) e.event other at ≡ is_place table key other at)
    → event_record (known o past) (row_in o past (log_of o past)) txn e.event ≡ Some (written o past txn table key image)
    → ManagerMeets o (e ∷ past) n
meets-written o past m n e txn table key image lsn steady meets writes was told inside asks made =
    let grown = log-write o past e txn table key image told inside made in
    let sets = subst (λ k. SetsRowAt m.tables n.tables table key (stored k image)) (next_place o past m lsn meets writes.place) writes.sets in
    record {
      shapes = shapes_steady o past m n e steady meets writes.locks.alive.shapes;
      own = writes.locks.alive.own ∙ meets.own;
      log_is = writes.log ∙ ap (λ row. record { txn = txn; body = Write table key row image } ∷ m.log) was ∙ ap (λ l. written o past txn table key image ∷ l) meets.log_is ∙ sym grown;
      rows = rows_set o past m n e (written o past txn table key image) table key image steady meets writes.locks.alive.shapes sets grown (write_tells (length (log_of o past) + 1) table key (row_now o past table key) image);
      begun = writes.locks.alive.begun ∙ meets.begun ∙ sym (begun_by past e Writes told);
      living = living_same o past m n e Writes meets writes.locks.alive.living told refl;
      ending = ending_same o past m n e Writes meets writes.locks.alive.living told refl;
      locks = locks-written o past m n e txn table key meets writes.locks.locked told inside asks;
    }

-- ** a transaction ends **

-- an effect that ends the client's transaction by a record
pub record IsEnding (o : Opening) (past : List Entry) (e : Entry) (f : Effect) (txn : ℕ) (body : Body) : Type 0 where
  pub told : effect e.reply ≡ f
  pub inside : txn_of past e.actor ≡ Some txn
  pub leaves : living_after e.actor f (living past) ≡ without e.actor (living past)
  pub begins : begun_after f (begun past) ≡ begun past
  pub frees : (t : ℕ) (table : List ℕ) (key : List Value) → lock_after (known o past) e.event f table key (lock_of o past t table key) ≡ None
  pub no_undo : undoes f ≡ false
  pub made : effect_record (known o past) (row_in o past (log_of o past)) (log_of o past) txn e.event f ≡ Some (record { txn = txn; body = body })
  pub silent : (lsn : ℕ) (name : List ℕ) (key : List Value) (earlier : Option Stored) → after_body lsn body name key earlier ≡ earlier

commit_silent : (lsn : ℕ) (name : List ℕ) (key : List Value) (earlier : Option Stored) → after_body lsn Commit name key earlier ≡ earlier
unfolding after_body
commit_silent lsn name key earlier = refl

abort_silent : (lsn : ℕ) (name : List ℕ) (key : List Value) (earlier : Option Stored) → after_body lsn Abort name key earlier ≡ earlier
unfolding after_body
abort_silent lsn name key earlier = refl

pub commit_ends : (o : Opening) (past : List Entry) (e : Entry) (txn : ℕ) → effect e.reply ≡ Commits → txn_of past e.actor ≡ Some txn → IsEnding o past e Commits txn Commit
commit_ends o past e txn told inside = record { told = told; inside = inside; leaves = refl; begins = refl; frees = λ t table key. refl; no_undo = refl; made = refl; silent = commit_silent }

pub abort_ends : (o : Opening) (past : List Entry) (e : Entry) (txn : ℕ) → effect e.reply ≡ Aborts → txn_of past e.actor ≡ Some txn → IsEnding o past e Aborts txn Abort
abort_ends o past e txn told inside = record { told = told; inside = inside; leaves = refl; begins = refl; frees = λ t table key. refl; no_undo = refl; made = refl; silent = abort_silent }

-- who lives then
ended-numbers : (o : Opening) (past : List Entry) (m n : Managed) (e : Entry) (f : Effect) (txn lsn : ℕ) (body : Body) → Legal o past → ManagerMeets o past m → Ends m n txn body lsn → IsEnding o past e f txn body
    → alive_numbers n.living ≡ numbers (living (e ∷ past))
ended-numbers o past m n e f txn lsn body legal meets ends is =
    let differ = legal_living o past legal in
    ap alive_numbers ends.living ∙ numbers-without txn m.living ∙ ap (but txn) meets.living
    ∙ sym (ap numbers (living_by past e f is.told ∙ is.leaves) ∙ ended_same (living past) e.actor txn differ.clients differ.txns is.inside)

ended-ending : (o : Opening) (past : List Entry) (m n : Managed) (e : Entry) (f : Effect) (txn lsn : ℕ) (body : Body) → ManagerMeets o past m → Ends m n txn body lsn → IsEnding o past e f txn body
    → (t : ℕ) → is_live n.living t ≡ true → ends_in n.living t ≡ is_ending (e ∷ past) t
ended-ending o past m n e f txn lsn body meets ends is t lives =
    let was = live_without m.living txn t (sym (ap (λ l. is_live l t) ends.living) ∙ lives) in
    ap (λ l. ends_in l t) ends.living ∙ ends-without m.living txn t was.0 ∙ meets.ending t was.1 ∙ sym (ends-same past e f t is.told is.no_undo)

ended-locks : (o : Opening) (past : List Entry) (m n : Managed) (e : Entry) (f : Effect) (txn lsn : ℕ) (body : Body) → ManagerMeets o past m → Ends m n txn body lsn → IsEnding o past e f txn body
    → (t : ℕ) (table : List ℕ) (key : List Value) → mode_held n.locks t table key ≡ lock_of o (e ∷ past) t table key
ended-locks o past m n e f txn lsn body meets ends is t table key =
    ends.locks t table key
    ∙ ap (λ held. if txn == t then None else held) (meets.locks t table key)
    ∙ ap (λ b. if b then None else lock_of o past t table key) (same_number txn t)
    ∙ sym (lock_by o past e f t table key is.told
    ∙ ap (λ here. if is_txn t here then lock_after (known o past) e.event f table key (lock_of o past t table key) else lock_of o past t table key) is.inside
    ∙ ap (λ held. if t == txn then held else lock_of o past t table key) (is.frees t table key))

log-ended : (o : Opening) (past : List Entry) (e : Entry) (f : Effect) (txn : ℕ) (body : Body) → IsEnding o past e f txn body → log_of o (e ∷ past) ≡ record { txn = txn; body = body } ∷ log_of o past
log-ended o past e f txn body is =
    log_by o past e f is.told
    ∙ ap (λ t. option_to_list (effect_record (known o past) (row_in o past (log_of o past)) (log_of o past) t e.event f) ++ log_of o past) (txn_here past e txn is.inside)
    ∙ ap (λ r. option_to_list r ++ log_of o past) is.made

pub meets-ended : (o : Opening) (past : List Entry) (m n : Managed) (e : Entry) (f : Effect) (txn lsn : ℕ) (body : Body) → IsSteady o past e → ManagerMeets o past m → Ends m n txn body lsn → IsEnding o past e f txn body → ManagerMeets o (e ∷ past) n
meets-ended o past m n e f txn lsn body steady meets ends is = record {
  shapes = shapes_steady o past m n e steady meets ends.shapes;
  own = ends.own ∙ meets.own;
  log_is = ends.log ∙ ap (λ l. record { txn = txn; body = body } ∷ l) meets.log_is ∙ sym (log-ended o past e f txn body is);
  rows = rows_noted o past m n e (record { txn = txn; body = body }) steady meets ends.shapes ends.rows (log-ended o past e f txn body is) (is.silent (length (log_of o past) + 1));
  begun = ends.begun ∙ meets.begun ∙ sym (begun_by past e f is.told ∙ is.begins);
  living = ended-numbers o past m n e f txn lsn body steady.legal.0 meets ends is;
  ending = ended-ending o past m n e f txn lsn body meets ends is;
  locks = ended-locks o past m n e f txn lsn body meets ends is;
}

-- ** a transaction undoes a write **

undone-ending : (o : Opening) (past : List Entry) (m n : Managed) (e : Entry) (txn lsn : ℕ) → ManagerMeets o past m → ManagerUndoes m n txn lsn → effect e.reply ≡ Undoes → txn_of past e.actor ≡ Some txn
    → (t : ℕ) → is_live n.living t ≡ true → ends_in n.living t ≡ is_ending (e ∷ past) t
unfolding ends_after
undone-ending o past m n e txn lsn meets undoes told inside t lives =
    let was : is_live m.living t ≡ true =
    live_among m.living t ∙ ap (λ ns. among ns t) (sym (numbers-with_ending txn m.living)) ∙ sym (live_among (with_ending txn m.living) t) ∙ sym (ap (λ l. is_live l t) undoes.living) ∙ lives in
    ap (λ l. ends_in l t) undoes.living
    ∙ by_cases (txn == t)
    (λ same. ends-this m.living txn t same was ∙ sym (shown ∙ ap (λ b. (b && true) || is_ending past t) (same_number t txn ∙ same)))
    (λ other. ends-with_ending m.living txn t other ∙ meets.ending t was ∙ sym (shown ∙ ap (λ b. (b && true) || is_ending past t) (same_number t txn ∙ other)))
  where
    shown : is_ending (e ∷ past) t ≡ (((t == txn) && true) || is_ending past t)
    shown = ends_by past e Undoes t told ∙ ap (λ here. (is_txn t here && true) || is_ending past t) inside

-- the record of an undo, as a change of a row
record IsBack (old new : List NamedTable) (lsn : ℕ) (body : Body) : Type 0 where
  table : List ℕ
  key : List Value
  image : Option (List Value)
  sets : SetsRowAt old new table key (stored lsn image)
  tells : (at_lsn : ℕ) (name : List ℕ) (at : List Value) (earlier : Option Stored) → after_body at_lsn body name at earlier ≡ (if is_place table key name at then stored at_lsn image else earlier)

puts_back : (old new : List NamedTable) (lsn : ℕ) (body : Body) → PutsBack old new lsn body → IsBack old new lsn body
unfolding PutsBack after_body
puts_back old new lsn (Undo undoes table key before after) puts = record { table = table; key = key; image = after; sets = puts; tells = λ at_lsn name at earlier. refl }
puts_back old new lsn (Write table key before after) puts = absurd puts
puts_back old new lsn Commit puts = absurd puts
puts_back old new lsn Abort puts = absurd puts
puts_back old new lsn Mark puts = absurd puts
puts_back old new lsn (Check group dep) puts = absurd puts
puts_back old new lsn Switch puts = absurd puts

pub meets-undone : (o : Opening) (past : List Entry) (m n : Managed) (e : Entry) (txn lsn : ℕ) → IsSteady o past e → ManagerMeets o past m → CanUndoLast m txn → ManagerUndoes m n txn lsn → effect e.reply ≡ Undoes → txn_of past e.actor ≡ Some txn → ManagerMeets o (e ∷ past) n
meets-undone o past m n e txn lsn steady meets can undoes told inside =
    let made = undo-made o past m txn undoes.back meets can undoes.made in
    let grown : log_of o (e ∷ past) ≡ undoes.back ∷ log_of o past =
    log_by o past e Undoes told
    ∙ ap (λ t. option_to_list (undo_record (row_in o past (log_of o past)) (log_of o past) t) ++ log_of o past) (txn_here past e txn inside)
    ∙ ap (λ r. option_to_list r ++ log_of o past) made in
    let back = puts_back m.tables n.tables (length (log_of o past) + 1) undoes.back.body (subst (λ k. PutsBack m.tables n.tables k undoes.back.body) (next_place o past m lsn meets undoes.place) undoes.sets) in
    record {
      shapes = shapes_steady o past m n e steady meets undoes.shapes;
      own = undoes.own ∙ meets.own;
      log_is = undoes.log ∙ ap (λ l. undoes.back ∷ l) meets.log_is ∙ sym grown;
      rows = rows_set o past m n e undoes.back back.table back.key back.image steady meets undoes.shapes back.sets grown (back.tells (length (log_of o past) + 1));
      begun = undoes.begun ∙ meets.begun ∙ sym (begun_by past e Undoes told);
      living = ap alive_numbers undoes.living ∙ numbers-with_ending txn m.living ∙ meets.living ∙ sym (ap numbers (living_by past e Undoes told));
      ending = undone-ending o past m n e txn lsn meets undoes told inside;
      locks = locks_same o past m n e Undoes meets undoes.locks told (λ t table key. refl);
    }
