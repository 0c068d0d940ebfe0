-- In a legal journal the live transactions, the log and the locks are sound: each entry keeps them so.
use Rattle.std.proofs.Common.{◌≡◌, ◌≤◌, ◌+◌, ◌++◌, ◌==◌, ◌&&◌, ◌||◌, ◌⊎◌, inl, inr, length, option_map, IsSomeAnd, if◌then◌else◌, ℕ, Bool, true, false, not, List, [], ◌∷◌, map, Option, Some, None, refl, sym, ap, ◌∙◌, subst, arith, eq-eqb}
use Rattle.std.specs.Prelude.{filter}
use Rattle.std.specs.List.{AllByRecursion}
use Rattle.std.specs.Option.{option_to_list}
use Rattle.std.proofs.lemmas.Bool.Decides.{nat_tests}
use Rattle.sx_lists.specs.Places.{numbered}
use Rattle.sx_values.specs.declared.value.Value.{Value}
use Rattle.sx_values.specs.declared.catalog.Declared.{Declared}
use Rattle.sx_log.specs.declared.record.Rec.{Rec}
use Rattle.sx_log.specs.declared.record.Body.{Body}
use Rattle.sx_log.specs.declared.record.Body.TheVariants.{Write, Undo, Commit, Abort, Mark, Check, Switch}
use Rattle.sx_log.specs.Undoing.{Rows, writes_left, undo_of, undo_at}
use Rattle.sx_log.specs.State.{Stored, is_place}
use Rattle.sx_log.specs.Images.{FitsImages, FitsTables}
use Rattle.sx_values.specs.Names.{same_name, has_name}
use Rattle.sx_values.specs.Values.{values_eq}
use Rattle.sx_values.specs.Layouts.{Layout}
use Rattle.sx_values.specs.Catalogs.{declared_as, schema_of}
use Rattle.sx_values.proofs.KeyLaws.{same_name_tells}
use Rattle.sx_ops.specs.Operators.{sources_of}
use Rattle.sx_ops.specs.Targets.{targets}
use Rattle.sx_sync.specs.declared.Phase.TheVariants.{Done}
use Rattle.std.proofs.lemmas.Bool.{false≢true}
use Rattle.sx_log.specs.Committed.{is_write, is_commit, is_committed, committed}
use Rattle.sx_locks.specs.declared.mode.Mode.{Mode}
use Rattle.sx_locks.specs.declared.mode.Mode.TheVariants.{Exclusive}
use Rattle.sx_locks.specs.Modes.{is_against}
use Rattle.sx_journal.specs.declared.entry.Entry.{Entry}
use Rattle.sx_journal.specs.declared.entry.Event.{Event}
use Rattle.sx_model.specs.Effects.{Effect, Nothing, Reads, Begins as begins_one, Writes, Undoes, Commits, Aborts, Starts, Sees, Fetches, Conflicts, Switches, effect}
use Rattle.sx_model.specs.Openings.{Opening}
use Rattle.sx_model.specs.LoadRecords.{IsLoaded, IsOpened}
use Rattle.sx_model.specs.Leaves.{Living, living, living_after, without, txn_among, txn_of, begun, begun_after, Started, started, phase}
use Rattle.sx_model.specs.Logs.{log_of, next_lsn, write_record, entry_record}
use Rattle.sx_model.specs.Scans.{is_about}
use Rattle.sx_model.specs.Switches.{is_on}
use Rattle.sx_model.specs.Known.{known}
use Rattle.sx_model.specs.NewRows.{Firsts, given, row_among, given_row, visible_in, state_from, row_from, row_in, first_in}
use Rattle.sx_model.specs.Held.{is_for_key, lock_after, is_txn, lock_of, undoes as undoes_one, is_ending, holder}
use Rattle.sx_sync.specs.Ready.{least}
use Rattle.sx_model.specs.Undone.{is_undo, has_undone}
use Rattle.sx_model.specs.Clients.{AreLiving}
use Rattle.sx_model.specs.Legal.{Legal}
use Rattle.sx_model.proofs.AllLaws.{all_each}
use Rattle.sx_model.proofs.TestLaws.{by_cases, and_first, chosen, passed, and_false_second, turned}
use Rattle.sx_model.proofs.Outcomes.{Begun, Written, Committed, Undone, Aborted, Outcome, rests, begins, reads, writes, commits as commits_now, undoes, aborts, starts, sees, fetches, conflicts, switches, outcome}
use Rattle.sx_model.proofs.EntryLaws.{living_by, log-quiet, log-read, log-begun, log-conflict, log-written, log-committed, log-undone, log-aborted, log-started, log-switched, log-saw, log-fetched}
use Rattle.sx_model.proofs.LivingLaws.{txn_begun, legal_living}
use Rattle.sx_model.proofs.LeftLaws.{is_silent, IsWriteOf, AreWritesOf, writes_are, touches, rolled_back, is_of}
use Rattle.sx_model.proofs.RowLaws.{row_elsewhere, filter_elsewhere}
use Rattle.sx_model.proofs.ImageLaws.{AllFit}
use Rattle.sx_model.proofs.FitLaws.{Stays, done_stays, is_done, first_none, fresh_fit}
use Rattle.sx_model.proofs.ListedLaws.{given_kept}
use Rattle.sx_model.proofs.SourceLaws.{lock_shows, open_elsewhere, none_on_sources}
use Rattle.sx_model.proofs.RollbackLaws.{Lives, Stands, clear, held, last_touches}
use Rattle.sx_model.proofs.EndingLaws.{loaded_stands, committed_stands, aborted_stands, nobody_lives}
use Rattle.sx_model.proofs.LivesLaws.{client_ends, client_begins}
use Rattle.sx_model.proofs.SoundLaws.{Sound, unknown, idle_sound, noted_sound, written_sound, undone_sound, ended_sound, begun_sound}

-- what a journal leaves is sound
abbrev pub IsSound : Opening → List Entry → Type 0
IsSound o past = Sound (first_in o past (log_of o past)) (living past) (begun past) (log_of o past) (is_ending past) (lock_of o past)

-- the same behind an entry, with what the keys had before the log when it came
abbrev StepSound : Opening → List Entry → Entry → Type 0
StepSound o past e = Sound (first_in o past (log_of o past)) (living (e ∷ past)) (begun (e ∷ past)) (log_of o (e ∷ past)) (is_ending (e ∷ past)) (lock_of o (e ∷ past))

-- who lives, how many have begun and the log, by what they are
moved : (f : Firsts) (living other : List Living) (begun more : ℕ) (log after : List Rec) (ending : ℕ → Bool) (lock : ℕ → List ℕ → List Value → Option Mode) → living ≡ other → begun ≡ more → log ≡ after → Sound f other more after ending lock → Sound f living begun log ending lock
moved f living other begun more log after ending lock d e g s =
    subst (λ l. Sound f l begun log ending lock) (sym d) (subst (λ n. Sound f other n log ending lock) (sym e) (subst (λ g. Sound f other more g ending lock) (sym g) s))

-- how many have begun, behind an entry with this effect
begun_by : (past : List Entry) (e : Entry) (f : Effect) → effect e.reply ≡ f → begun (e ∷ past) ≡ begun_after f (begun past)
begun_by past e f told = ap (λ g. begun_after g (begun past)) told

-- whether a transaction is ending, behind an entry with this effect
ending_by : (past : List Entry) (e : Entry) (f : Effect) (txn : ℕ) → effect e.reply ≡ f → is_ending (e ∷ past) txn ≡ ((is_txn txn (txn_of past e.actor) && undoes_one f) || is_ending past txn)
ending_by past e f txn told = ap (λ g. (is_txn txn (txn_of past e.actor) && undoes_one g) || is_ending past txn) told

-- it is as before where the answer undoes nothing
ending_kept : (past : List Entry) (e : Entry) (f : Effect) → effect e.reply ≡ f → undoes_one f ≡ false → (txn : ℕ) → is_ending (e ∷ past) txn ≡ is_ending past txn
ending_kept past e f told none txn = ending_by past e f txn told ∙ ap (λ b. b || is_ending past txn) (and_false_second (is_txn txn (txn_of past e.actor)) (undoes_one f) none)

-- a lock behind an entry of the transaction with this effect, and behind an entry of another
lock_own : (o : Opening) (past : List Entry) (e : Entry) (f : Effect) (txn : ℕ) (table : List ℕ) (key : List Value) → effect e.reply ≡ f → is_txn txn (txn_of past e.actor) ≡ true → lock_of o (e ∷ past) txn table key ≡ lock_after (known o past) e.event f table key (lock_of o past txn table key)
lock_own o past e f txn table key told own =
    chosen (is_txn txn (txn_of past e.actor)) (lock_after (known o past) e.event (effect e.reply) table key (lock_of o past txn table key)) (lock_of o past txn table key) own
    ∙ ap (λ g. lock_after (known o past) e.event g table key (lock_of o past txn table key)) told

-- a lock of another transaction is as before
lock_other : (o : Opening) (past : List Entry) (e : Entry) (txn : ℕ) (table : List ℕ) (key : List Value) → is_txn txn (txn_of past e.actor) ≡ false → lock_of o (e ∷ past) txn table key ≡ lock_of o past txn table key
lock_other o past e txn table key other =
    passed (is_txn txn (txn_of past e.actor)) (lock_after (known o past) e.event (effect e.reply) table key (lock_of o past txn table key)) (lock_of o past txn table key) other

-- an effect that takes no exclusive lock away
abbrev Keeps : Effect → Type 0
Keeps f = (catalog : List Declared) (asked : Event) (table : List ℕ) (key : List Value) → lock_after catalog asked f table key (Some Exclusive) ≡ Some Exclusive

-- a lock that is exclusive either way is exclusive
either_way : (b : Bool) → (if b then Some Exclusive else Some Exclusive) ≡ Some Exclusive
either_way true = refl
either_way false = refl

-- with such an effect exclusive locks stay
lock_kept : (o : Opening) (past : List Entry) (e : Entry) (f : Effect) → effect e.reply ≡ f → Keeps f → (txn : ℕ) (table : List ℕ) (key : List Value) → lock_of o past txn table key ≡ Some Exclusive → lock_of o (e ∷ past) txn table key ≡ Some Exclusive
lock_kept o past e f told keeps txn table key l = by_cases (is_txn txn (txn_of past e.actor))
    (λ own. lock_own o past e f txn table key told own ∙ (ap (lock_after (known o past) e.event f table key) l ∙ keeps (known o past) e.event table key))
    (λ other. lock_other o past e txn table key other ∙ l)

-- an entry that makes no record
idle : (o : Opening) (past : List Entry) (e : Entry) (f : Effect) → effect e.reply ≡ f → living_after e.actor f (living past) ≡ living past → begun_after f (begun past) ≡ begun past → undoes_one f ≡ false → Keeps f → log_of o (e ∷ past) ≡ log_of o past → IsSound o past → StepSound o past e
idle o past e f told lives more none keeps log s =
    moved (first_in o past (log_of o past)) (living (e ∷ past)) (living past) (begun (e ∷ past)) (begun past) (log_of o (e ∷ past)) (log_of o past) (is_ending (e ∷ past)) (lock_of o (e ∷ past)) (living_by past e f told ∙ lives) (begun_by past e f told ∙ more) log
    (idle_sound (first_in o past (log_of o past)) (living past) (begun past) (log_of o past) (is_ending past) (is_ending (e ∷ past)) (lock_of o past) (lock_of o (e ∷ past)) (ending_kept past e f told none) (lock_kept o past e f told keeps) s)

-- an entry that notes something
noted : (o : Opening) (past : List Entry) (e : Entry) (f : Effect) (x : Rec) → effect e.reply ≡ f → living_after e.actor f (living past) ≡ living past → begun_after f (begun past) ≡ begun past → undoes_one f ≡ false → Keeps f → log_of o (e ∷ past) ≡ x ∷ log_of o past → x.txn ≡ 0 → is_silent x.body ≡ true → is_commit x.body ≡ false → is_write x.body ≡ false → IsSound o past → StepSound o past e
noted o past e f x told lives more none keeps log nobody quiet uncommitting unwriting s =
    moved (first_in o past (log_of o past)) (living (e ∷ past)) (living past) (begun (e ∷ past)) (begun past) (log_of o (e ∷ past)) (x ∷ log_of o past) (is_ending (e ∷ past)) (lock_of o (e ∷ past)) (living_by past e f told ∙ lives) (begun_by past e f told ∙ more) log
    (noted_sound (first_in o past (log_of o past)) (living past) (begun past) (log_of o past) x (is_ending past) (is_ending (e ∷ past)) (lock_of o past) (lock_of o (e ∷ past)) (subst (λ n. n ≤ begun past) (sym nobody) (omega arith)) quiet uncommitting unwriting (ending_kept past e f told none) (lock_kept o past e f told keeps) s)

-- the least of a list is None only of none
none_least : (p : ℕ → Bool) (xs : List Living) (client txn : ℕ) → least (map (λ (l : Living). l.txn) (filter (λ (l : Living). p l.txn) xs)) ≡ None → txn_among xs client ≡ Some txn → p txn ≡ false
none_least p [] client txn none e = absurd (cc)
none_least p (x ∷ xs) client txn none e = by_cases (p x.txn)
    (λ t. absurd (let found = rw t at none in cc))
    (λ f. by_cases (x.client == client)
    (λ here. let same : Some x.txn ≡ Some txn = rw here at e in subst (λ n. p n ≡ false) (let is : x.txn ≡ txn = cc in is) f)
    (λ away. none_least p xs client txn (rw f at none) (rw away at e)))

-- another transaction with the exclusive lock stands against a write
against : (txn other : ℕ) → (other == txn) ≡ false → (not (txn == other) && is_against (Some Exclusive) Exclusive) ≡ true
against txn other differs = rw (turned other txn differs) refl

-- where no lock stands against a write, no other live transaction has the exclusive one
free_of : (o : Opening) (past : List Entry) (txn : ℕ) (table : List ℕ) (key : List Value) → holder o past txn table key Exclusive ≡ None → (other : ℕ) → Lives (living past) other → (other == txn) ≡ false → lock_of o past other table key ≡ Some Exclusive → ⊥
free_of o past txn table key none other l differs lock =
    let clear = none_least (λ n. not (txn == n) && is_against (lock_of o past n table key) Exclusive) (living past) l.client other none l.is in
    let stands = ap (λ m. not (txn == other) && is_against m Exclusive) lock ∙ against txn other differs in
    absurd (cc)

-- the transaction of a live client
here : (xs : List Living) (client txn : ℕ) → txn_among xs client ≡ Some txn → Lives xs txn
here xs client txn e = record { client = client; is = e }

-- an entry is of the transaction that its client is in
own_txn : (txn : ℕ) (is : Option ℕ) → is ≡ Some txn → is_txn txn is ≡ true
own_txn txn is e = ap (is_txn txn) e ∙ eq-eqb txn txn refl

-- and of no other
other_txn : (txn other : ℕ) (is : Option ℕ) → is ≡ Some txn → (other == txn) ≡ false → is_txn other is ≡ false
other_txn txn other is e differs = ap (is_txn other) e ∙ differs

-- an entry that writes
written : (o : Opening) (past : List Entry) (e : Entry) → AreLiving (begun past) (living past) → Written o past e → IsSound o past → StepSound o past e
written o past e a w s =
    let number = txn_begun (begun past) (living past) e.actor w.txn a.each w.inside in
    moved (first_in o past (log_of o past)) (living (e ∷ past)) (living past) (begun (e ∷ past)) (begun past) (log_of o (e ∷ past)) (write_record (row_in o past (log_of o past)) w.txn w.table w.key w.after ∷ log_of o past) (is_ending (e ∷ past)) (lock_of o (e ∷ past)) (living_by past e Writes w.told) (begun_by past e Writes w.told) (log-written o past e w)
    (written_sound (first_in o past (log_of o past)) (living past) (begun past) (log_of o past) w.txn w.table w.key w.after (is_ending past) (is_ending (e ∷ past)) (lock_of o past) (lock_of o (e ∷ past)) (here (living past) e.actor w.txn w.inside) number.from_one number.to_begun
    (ending_kept past e Writes w.told refl)
    (λ table key there. lock_own o past e Writes w.txn table key w.told (own_txn w.txn (txn_of past e.actor) w.inside) ∙ chosen (is_for_key (known o past) e.event table key) (Some Exclusive) (lock_of o past w.txn table key) (w.asks table key ∙ there))
    (lock_kept o past e Writes w.told (λ catalog asked table key. either_way (is_for_key catalog asked table key)))
    (free_of o past w.txn w.table w.key w.free) s)

-- the record of an Undo of a write that is there
pub undone_log : (there : Rows) (log : List Rec) (txn lsn : ℕ) (w : IsWriteOf log txn lsn) → option_to_list (undo_at there txn lsn (numbered log lsn)) ++ log ≡ record { txn = txn; body = Undo lsn w.table w.key (there w.table w.key) w.before } ∷ log
unfolding undo_of
undone_log there log txn lsn w = ap (λ r. option_to_list (undo_at there txn lsn r) ++ log) w.is

-- two numbers may be compared in either order
either_order : (a b : ℕ) → (a == b) ≡ (b == a)
either_order a b = by_cases (b == a) (λ same. grind (arith, nat_tests)) (λ other. turned b a other ∙ sym other)

-- behind an Undo its transaction is ending
undo_ends : (past : List Entry) (e : Entry) (txn : ℕ) → effect e.reply ≡ Undoes → txn_of past e.actor ≡ Some txn → (other : ℕ) → is_ending (e ∷ past) other ≡ ((txn == other) || is_ending past other)
undo_ends past e txn told inside other =
    ending_by past e Undoes other told
    ∙ (ap (λ is. (is_txn other is && true) || is_ending past other) inside
    ∙ ap (λ b. b || is_ending past other) (and_true (other == txn) ∙ either_order other txn))
  where
    and_true : (b : Bool) → (b && true) ≡ b
    and_true true = refl
    and_true false = refl

-- an entry that undoes
undone : (o : Opening) (past : List Entry) (e : Entry) → AreLiving (begun past) (living past) → Undone o past e → IsSound o past → StepSound o past e
undone o past e a u s =
    let number = txn_begun (begun past) (living past) e.actor u.txn a.each u.inside in
    let w = (subst (AreWritesOf (log_of o past) u.txn) u.left (writes_are u.txn (log_of o past))).0 in
    let x : Rec = record { txn = u.txn; body = Undo u.lsn w.table w.key (row_in o past (log_of o past) w.table w.key) w.before } in
    moved (first_in o past (log_of o past)) (living (e ∷ past)) (living past) (begun (e ∷ past)) (begun past) (log_of o (e ∷ past)) (x ∷ log_of o past) (is_ending (e ∷ past)) (lock_of o (e ∷ past)) (living_by past e Undoes u.told) (begun_by past e Undoes u.told) (log-undone o past e u ∙ undone_log (row_in o past (log_of o past)) (log_of o past) u.txn u.lsn w)
    (undone_sound (first_in o past (log_of o past)) (living past) (begun past) (log_of o past) u.txn u.lsn w.table w.key (row_in o past (log_of o past) w.table w.key) w.before (is_ending past) (is_ending (e ∷ past)) (lock_of o past) (lock_of o (e ∷ past)) (here (living past) e.actor u.txn u.inside) number.to_begun
    (record { rest = u.rest; left = u.left; after = w.after; is = w.is })
    (undo_ends past e u.txn u.told u.inside)
    (lock_kept o past e Undoes u.told (λ catalog asked table key. refl)) s)

-- an entry that commits
committed_one : (o : Opening) (past : List Entry) (e : Entry) → AreLiving (begun past) (living past) → Committed o past e → IsSound o past → StepSound o past e
unfolding is_silent
committed_one o past e a c s =
    let number = txn_begun (begun past) (living past) e.actor c.txn a.each c.inside in
    let ends = client_ends e.actor (living past) c.txn a.txns c.inside in
    let honest : has_undone (log_of o past) c.txn ≡ false = sym (s.endings c.txn) ∙ c.going_on in
    moved (first_in o past (log_of o past)) (living (e ∷ past)) (without e.actor (living past)) (begun (e ∷ past)) (begun past) (log_of o (e ∷ past)) (record { txn = c.txn; body = Commit } ∷ log_of o past) (is_ending (e ∷ past)) (lock_of o (e ∷ past)) (living_by past e Commits c.told) (begun_by past e Commits c.told) (log-committed o past e c)
    (ended_sound (first_in o past (log_of o past)) (living past) (without e.actor (living past)) (begun past) (log_of o past) c.txn Commit (is_ending past) (is_ending (e ∷ past)) (lock_of o past) (lock_of o (e ∷ past)) ends number.to_begun refl (λ commit. honest)
    (ending_kept past e Commits c.told refl)
    (λ other table key differs l. lock_other o past e other table key (other_txn c.txn other (txn_of past e.actor) c.inside differs) ∙ l)
    (λ table key. committed_stands (first_in o past (log_of o past)) (living past) (without e.actor (living past)) (log_of o past) c.txn table key (here (living past) e.actor c.txn c.inside) ends honest (s.keys table key)) s)

-- an entry that aborts
aborted : (o : Opening) (past : List Entry) (e : Entry) → AreLiving (begun past) (living past) → Aborted o past e → IsSound o past → StepSound o past e
unfolding is_silent is_commit
aborted o past e a b s =
    let number = txn_begun (begun past) (living past) e.actor b.txn a.each b.inside in
    let ends = client_ends e.actor (living past) b.txn a.txns b.inside in
    moved (first_in o past (log_of o past)) (living (e ∷ past)) (without e.actor (living past)) (begun (e ∷ past)) (begun past) (log_of o (e ∷ past)) (record { txn = b.txn; body = Abort } ∷ log_of o past) (is_ending (e ∷ past)) (lock_of o (e ∷ past)) (living_by past e Aborts b.told) (begun_by past e Aborts b.told) (log-aborted o past e b)
    (ended_sound (first_in o past (log_of o past)) (living past) (without e.actor (living past)) (begun past) (log_of o past) b.txn Abort (is_ending past) (is_ending (e ∷ past)) (lock_of o past) (lock_of o (e ∷ past)) ends number.to_begun refl (λ commit. absurd (cc))
    (ending_kept past e Aborts b.told refl)
    (λ other table key differs l. lock_other o past e other table key (other_txn b.txn other (txn_of past e.actor) b.inside differs) ∙ l)
    (λ table key. aborted_stands (first_in o past (log_of o past)) (living past) (without e.actor (living past)) (log_of o past) b.txn table key ends b.left (s.keys table key)) s)

-- an entry that begins
started_one : (o : Opening) (past : List Entry) (e : Entry) → Begun o past e → IsSound o past → StepSound o past e
started_one o past e b s =
    let txn = begun past + 1 in
    let f = begins_one txn in
    let next = record { client = e.actor; txn = txn } ∷ living past in
    moved (first_in o past (log_of o past)) (living (e ∷ past)) next (begun (e ∷ past)) txn (log_of o (e ∷ past)) (log_of o past) (is_ending (e ∷ past)) (lock_of o (e ∷ past)) (living_by past e f b.told) (begun_by past e f b.told) (log-begun o past e txn b.told)
    (begun_sound (first_in o past (log_of o past)) (living past) next (begun past) (log_of o past) (is_ending past) (is_ending (e ∷ past)) (lock_of o past) (lock_of o (e ∷ past))
    (client_begins e.actor (living past) txn (log_of o past) b.outside (unknown (log_of o past) (begun past) txn s.numbers (omega arith)))
    (ending_kept past e f b.told refl)
    (lock_kept o past e f b.told (λ catalog asked table key. refl)) s)

-- behind each legal entry what the journal leaves is sound
step_sound : (o : Opening) (past : List Entry) (e : Entry) → AreLiving (begun past) (living past) → IsSound o past → Outcome o past e → StepSound o past e
unfolding is_silent is_commit is_write
step_sound o past e a s (rests told) = idle o past e Nothing told refl refl refl (λ catalog asked table key. refl) (log-quiet o past e told) s
step_sound o past e a s (begins b) = started_one o past e b s
step_sound o past e a s (reads r) = idle o past e Reads r.told refl refl refl (λ catalog asked table key. either_way (is_for_key catalog asked table key)) (log-read o past e r.told) s
step_sound o past e a s (writes w) = written o past e a w s
step_sound o past e a s (commits_now c) = committed_one o past e a c s
step_sound o past e a s (undoes u) = undone o past e a u s
step_sound o past e a s (aborts b) = aborted o past e a b s
step_sound o past e a s (starts t) = noted o past e (Starts (next_lsn o past)) (record { txn = 0; body = Mark }) t.told refl refl refl (λ catalog asked table key. refl) (log-started o past e (next_lsn o past) t.told) refl refl refl refl s
step_sound o past e a s (sees t) = idle o past e (Sees t.lsns t.last) t.told refl refl refl (λ catalog asked table key. refl) (log-saw o past e t.lsns t.last t.told) s
step_sound o past e a s (fetches t) = idle o past e (Fetches t.place) t.told refl refl refl (λ catalog asked table key. refl) (log-fetched o past e t.place t.told) s
step_sound o past e a s (conflicts t told) = idle o past e Conflicts told refl refl refl (λ catalog asked table key. refl) (log-conflict o past e told) s
step_sound o past e a s (switches w) = noted o past e Switches (record { txn = 0; body = Switch }) w.told refl refl refl (λ catalog asked table key. refl) (log-switched o past e w.told) refl refl refl refl s

-- a Write is no Undo
write_undo : (body : Body) → is_write body ≡ true → is_undo body ≡ false
unfolding is_write is_undo
write_undo (Write table key before after) w = refl
write_undo (Undo lsn table key before after) w = absurd (cc)
write_undo Commit w = absurd (cc)
write_undo Abort w = absurd (cc)
write_undo Mark w = absurd (cc)
write_undo (Check group dep) w = absurd (cc)
write_undo Switch w = absurd (cc)

-- loaded rows are no Undo records
loaded_undone : (loads : List Rec) (txn : ℕ) → AllByRecursion IsLoaded loads → has_undone loads txn ≡ false
loaded_undone [] txn all = refl
loaded_undone (r ∷ loads) txn all = rw (write_undo r.body all.0.write, loaded_undone loads txn all.1) refl

-- the record of a loaded row is of transaction 0
loaded_number : (r : Rec) → IsLoaded r → r.txn ≤ 0
loaded_number r l = let e = l.nobody in omega arith

-- before the first entry there are the loaded rows
loaded_sound : (o : Opening) → IsOpened o → IsSound o []
loaded_sound o opened = record {
  numbers = all_each IsLoaded (λ (r : Rec). r.txn ≤ 0) loaded_number o.loads opened;
  unended = λ txn l. absurd (nobody_lives txn l);
  endings = λ txn. sym (loaded_undone o.loads txn opened);
  honest = λ txn c. loaded_undone o.loads txn opened;
  locked = λ txn l. absurd (nobody_lives txn l);
  keys = λ table key. loaded_stands (first_in o [] o.loads) o.loads table key opened;
}

-- ** what keys had before the log stays, but at the switch **

-- a key stands as it did, if what it had before the log is the same
stands_by : (f g : Firsts) (living : List Living) (log : List Rec) (table : List ℕ) (key : List Value) → f table key ≡ g table key → Stands f living log table key → Stands g living log table key
stands_by f g living log table key same (clear none row) = clear none (rows log ∙ row ∙ sym (rows (committed log)))
  where
    rows : (any : List Rec) → row_from g any table key ≡ row_from f any table key
    rows any = ap (λ first. option_map (λ (s : Stored). s.0) (state_from first any table key)) (sym same)
stands_by f g living log table key same (held h) = held (record {
  txn = h.txn;
  lives = h.lives;
  last = h.last;
  back = ap (rolled_back log (writes_left h.txn log) table key) (rows log) ∙ h.back ∙ sym (rows (committed log));
  alone = h.alone;
})
  where
    rows : (any : List Rec) → row_from g any table key ≡ row_from f any table key
    rows any = ap (λ first. option_map (λ (s : Stored). s.0) (state_from first any table key)) (sym same)

sound_by : (f g : Firsts) (living : List Living) (begun : ℕ) (log : List Rec) (ending : ℕ → Bool) (lock : ℕ → List ℕ → List Value → Option Mode) → ((table : List ℕ) (key : List Value) → Stands f living log table key → Stands g living log table key) → Sound f living begun log ending lock → Sound g living begun log ending lock
sound_by f g living begun log ending lock each s = record {
  numbers = s.numbers;
  unended = s.unended;
  endings = s.endings;
  honest = s.honest;
  locked = s.locked;
  keys = λ table key. each table key (s.keys table key);
}

-- a record that no transaction writes on a source
pub note_elsewhere : (tables : List (List ℕ)) (body : Body) → is_silent body ≡ true → is_on tables body ≡ false
unfolding is_silent is_on
note_elsewhere tables (Write table key before after) quiet = absurd (cc)
note_elsewhere tables (Undo lsn table key before after) quiet = absurd (cc)
note_elsewhere tables Commit quiet = refl
note_elsewhere tables Abort quiet = refl
note_elsewhere tables Mark quiet = refl
note_elsewhere tables (Check group dep) quiet = refl
note_elsewhere tables Switch quiet = refl

-- behind the switch each record is on no source
abbrev Elsewhere : List Entry → List Rec → Type 0
Elsewhere past log = (s : Started) → started past ≡ Some s → AllByRecursion (λ (r : Rec). is_on (sources_of s.spec) r.body ≡ false) log

-- so the first rows stay
pub kept_first : (o : Opening) (past : List Entry) (e : Entry) (log more : List Rec) → phase past ≡ Done → Stays past e → Elsewhere past more → (table : List ℕ) (key : List Value) → first_in o past log table key ≡ first_in o (e ∷ past) (more ++ log) table key
kept_first o past e log more done stays elsewhere table key = by (declared_as o.catalog table)
  where
    same_given : (s : Started) (items : List Rec) → AllByRecursion (λ (r : Rec). is_on (sources_of s.spec) r.body ≡ false) items → given o.catalog (items ++ log) s.spec ≡ given o.catalog log s.spec
    same_given s [] all = refl
    same_given s (r ∷ items) all = given_kept o.catalog r (items ++ log) s.spec all.0 ∙ same_given s items all.1

    same_row : (s : Option Started) → ((t : Started) → s ≡ Some t → AllByRecursion (λ (r : Rec). is_on (sources_of t.spec) r.body ≡ false) more) → given_row o.catalog log s table key ≡ given_row o.catalog (more ++ log) s table key
    same_row None all = refl
    same_row (Some s) all = ap (λ lists. option_map (λ row. (row, 0)) (row_among (targets o.catalog s.spec) lists table key)) (sym (same_given s more (all s refl)))

    by : (found : Option Declared) → ◌≡◌ {A = Option Stored} (elim found [ Some d ↦ None | None ↦ visible_in (phase past) (given_row o.catalog log (started past) table key) ]) (elim found [ Some d ↦ None | None ↦ visible_in (phase (e ∷ past)) (given_row o.catalog (more ++ log) (started (e ∷ past)) table key) ])
    by (Some d) = refl
    by None =
        ap (visible_in (phase past)) (same_row (started past) elsewhere ∙ ap (λ s. given_row o.catalog (more ++ log) s table key) (sym stays.is))
        ∙ ap (λ at. visible_in at (given_row o.catalog (more ++ log) (started (e ∷ past)) table key)) (done ∙ sym stays.at)

-- the write that an undo of a live transaction undoes is on no source
undo_elsewhere : (o : Opening) (past : List Entry) (e : Entry) (u : Undone o past e) (s : Started) → Legal o past → IsSound o past → phase past ≡ Done → started past ≡ Some s → (w : IsWriteOf (log_of o past) u.txn u.lsn) → has_name (sources_of s.spec) w.table ≡ false
undo_elsewhere o past e u s legal sound done is w = by_cases (has_name (sources_of s.spec) w.table)
    (λ among.
    let left : touches (log_of o past) (writes_left u.txn (log_of o past)) w.table w.key ≡ true = last_touches (log_of o past) u.txn u.lsn w.table w.key w.before (record { rest = u.rest; left = u.left; after = w.after; is = w.is }) in
    let lock = sound.locked u.txn (here (living past) e.actor u.txn u.inside) w.table w.key left in
    let shows = lock_shows o past (sources_of s.spec) e.actor u.txn w.table w.key Exclusive legal u.inside among lock in
    absurd (false≢true (sym (none_on_sources o past s e.actor u.txn legal done is u.inside) ∙ shows)))
    (λ away. away)

-- what each entry behind the switch adds to the log
pub added : (o : Opening) (past : List Entry) (e : Entry) → Legal o past → IsSound o past → phase past ≡ Done → Outcome o past e → Elsewhere past (option_to_list (entry_record o past (log_of o past) e))
unfolding is_silent is_on undo_of
added o past e legal sound done (rests told) s is = rw told tt
added o past e legal sound done (begins b) s is = rw b.told tt
added o past e legal sound done (reads r) s is = rw r.told tt
added o past e legal sound done (writes w) s is = rw (w.told, w.inside, w.made) (open_elsewhere past e.actor w.table s done is w.opened, tt)
added o past e legal sound done (commits_now c) s is = rw c.told (refl, tt)
added o past e legal sound done (undoes u) s is =
    let w = (subst (AreWritesOf (log_of o past) u.txn) u.left (writes_are u.txn (log_of o past))).0 in
    rw (u.told, u.inside, u.left, w.is) (undo_elsewhere o past e u s legal sound done is w, tt)
added o past e legal sound done (aborts a) s is = rw a.told (refl, tt)
added o past e legal sound done (starts t) s is = absurd (let idle = t.idle in cc)
added o past e legal sound done (sees t) s is = rw t.told tt
added o past e legal sound done (fetches t) s is = rw t.told tt
added o past e legal sound done (conflicts t told) s is = rw told tt
added o past e legal sound done (switches w) s is = rw w.told (refl, tt)

-- ** the switch gives rows to keys that no record is about **

untouched_left : (log : List Rec) (all : List Rec) (lsns : List ℕ) (table : List ℕ) (key : List Value) → AllByRecursion (λ (r : Rec). is_about r.body table key ≡ false) log → touches log lsns table key ≡ false
untouched_left log all [] table key none = refl
untouched_left log all (lsn ∷ lsns) table key none = by (numbered log lsn) refl (untouched_left log all lsns table key none)
  where
    about : (n : ℕ) (items : List Rec) (r : Rec) → AllByRecursion (λ (x : Rec). is_about x.body table key ≡ false) items → numbered items n ≡ Some r → is_about r.body table key ≡ false
    about n [] r each found = absurd (cc)
    about n (x ∷ items) r each found = by_cases (n == length items + 1)
        (λ t. let same : x ≡ r = (let e : Some x ≡ Some r = rw t at found in cc) in subst (λ (y : Rec). is_about y.body table key ≡ false) same each.0)
        (λ f. about n items r each.1 (rw f at found))

    by : (at : Option Rec) → numbered log lsn ≡ at → touches log lsns table key ≡ false → (is_of at table key || touches log lsns table key) ≡ false
    by None is rest = rest
    by (Some r) is rest = rw (about lsn log r none is) rest

untouched_row : (f : Firsts) (p : Rec → Bool) (log : List Rec) (table : List ℕ) (key : List Value) → AllByRecursion (λ (r : Rec). is_about r.body table key ≡ false) log → row_from f (filter p log) table key ≡ option_map (λ (s : Stored). s.0) (f table key)
untouched_row f p [] table key none = refl
untouched_row f p (r ∷ log) table key none = filter_elsewhere f p r log table key none.0 ∙ untouched_row f p log table key none.1

all_row : (f : Firsts) (log : List Rec) (table : List ℕ) (key : List Value) → AllByRecursion (λ (r : Rec). is_about r.body table key ≡ false) log → row_from f log table key ≡ option_map (λ (s : Stored). s.0) (f table key)
all_row f [] table key none = refl
all_row f (r ∷ log) table key none = row_elsewhere f r log table key none.0 ∙ all_row f log table key none.1

untouched_stands : (g : Firsts) (living : List Living) (log : List Rec) (table : List ℕ) (key : List Value) → AllByRecursion (λ (r : Rec). is_about r.body table key ≡ false) log → Stands g living log table key
untouched_stands g living log table key none = clear (λ txn lives. untouched_left log log (writes_left txn log) table key none) (all_row g log table key none ∙ sym (untouched_row g (is_committed log) log table key none))

unknown_place : (catalog : List Declared) (written : List ℕ) (at : List Value) (table : List ℕ) (key : List Value) (before after : Option (List Value)) → declared_as catalog table ≡ None → (layout : Option Layout) → schema_of catalog written ≡ layout → IsSomeAnd layout (λ l. FitsImages l at before after) → is_place written at table key ≡ false
unknown_place catalog written at table key before after none None is fits = absurd fits
unknown_place catalog written at table key before after none (Some l) is fits = by_cases (is_place written at table key)
    (λ here.
    let same : written ≡ table = same_name_tells written table (and_first (same_name written table) (values_eq at key) here) in
    let gone : schema_of catalog written ≡ None = ap (schema_of catalog) same ∙ ap (option_map (λ (t : Declared). t.schema)) none in
    absurd (let both : Some l ≡ None = sym is ∙ gone in cc))
    (λ away. away)

-- a record that fits the declared tables is about none of the others
pub fits_elsewhere : (catalog : List Declared) (body : Body) (table : List ℕ) (key : List Value) → declared_as catalog table ≡ None → FitsTables (schema_of catalog) body → is_about body table key ≡ false
unfolding FitsTables is_about
fits_elsewhere catalog (Write written at before after) table key none fits = unknown_place catalog written at table key before after none (schema_of catalog written) refl fits
fits_elsewhere catalog (Undo lsn written at before after) table key none fits = unknown_place catalog written at table key before after none (schema_of catalog written) refl fits
fits_elsewhere catalog Commit table key none fits = refl
fits_elsewhere catalog Abort table key none fits = refl
fits_elsewhere catalog Mark table key none fits = refl
fits_elsewhere catalog (Check group dep) table key none fits = refl
fits_elsewhere catalog Switch table key none fits = refl

-- ** and so each entry keeps a journal sound **

pub stays_none : (o : Opening) (past : List Entry) (e : Entry) → (phase past ≡ Done → ⊥) → (phase (e ∷ past) ≡ Done → ⊥) → (table : List ℕ) (key : List Value) → first_in o past (log_of o past) table key ≡ first_in o (e ∷ past) (log_of o (e ∷ past)) table key
stays_none o past e early still table key = first_none o past (log_of o past) table key early ∙ sym (first_none o (e ∷ past) (log_of o (e ∷ past)) table key still)

sound_after : (o : Opening) (past : List Entry) (e : Entry) → AllFit (schema_of o.catalog) o.loads → Legal o (e ∷ past) → IsSound o past → IsSound o (e ∷ past)
sound_after o past e loads legal s = by (is_done (phase past)) (is_done (phase (e ∷ past)))
  where
    now : Outcome o past e
    now = outcome o past e legal

    step : StepSound o past e
    step = step_sound o past e (legal_living o past legal.0) s now

    turn : ((table : List ℕ) (key : List Value) → Stands (first_in o past (log_of o past)) (living (e ∷ past)) (log_of o (e ∷ past)) table key → Stands (first_in o (e ∷ past) (log_of o (e ∷ past))) (living (e ∷ past)) (log_of o (e ∷ past)) table key) → IsSound o (e ∷ past)
    turn each = sound_by (first_in o past (log_of o past)) (first_in o (e ∷ past) (log_of o (e ∷ past))) (living (e ∷ past)) (begun (e ∷ past)) (log_of o (e ∷ past)) (is_ending (e ∷ past)) (lock_of o (e ∷ past)) each step

    same : ((table : List ℕ) (key : List Value) → first_in o past (log_of o past) table key ≡ first_in o (e ∷ past) (log_of o (e ∷ past)) table key) → IsSound o (e ∷ past)
    same equal = turn (λ table key. stands_by (first_in o past (log_of o past)) (first_in o (e ∷ past) (log_of o (e ∷ past))) (living (e ∷ past)) (log_of o (e ∷ past)) table key (equal table key))

    -- at the switch
    switched : (phase past ≡ Done → ⊥) → (table : List ℕ) (key : List Value) → Stands (first_in o past (log_of o past)) (living (e ∷ past)) (log_of o (e ∷ past)) table key → Stands (first_in o (e ∷ past) (log_of o (e ∷ past))) (living (e ∷ past)) (log_of o (e ∷ past)) table key
    switched before_it table key stands = at (declared_as o.catalog table) refl
      where
        at : (found : Option Declared) → declared_as o.catalog table ≡ found → Stands (first_in o (e ∷ past) (log_of o (e ∷ past))) (living (e ∷ past)) (log_of o (e ∷ past)) table key
        at (Some d) is = stands_by (first_in o past (log_of o past)) (first_in o (e ∷ past) (log_of o (e ∷ past))) (living (e ∷ past)) (log_of o (e ∷ past)) table key (rw (first_in, is) refl) stands
        at None is =
            untouched_stands (first_in o (e ∷ past) (log_of o (e ∷ past))) (living (e ∷ past)) (log_of o (e ∷ past)) table key
            (all_each (λ (r : Rec). FitsTables (schema_of o.catalog) r.body) (λ (r : Rec). is_about r.body table key ≡ false) (λ r fits. fits_elsewhere o.catalog r.body table key is fits) (log_of o (e ∷ past)) (fresh_fit o past e loads legal before_it))

    by : (phase past ≡ Done) ⊎ (phase past ≡ Done → ⊥) → (phase (e ∷ past) ≡ Done) ⊎ (phase (e ∷ past) ≡ Done → ⊥) → IsSound o (e ∷ past)
    by (inl done) after = same (λ table key. kept_first o past e (log_of o past) (option_to_list (entry_record o past (log_of o past) e)) done (done_stays o past e done now) (added o past e legal.0 s done now) table key)
    by (inr early) (inl done) = turn (switched early)
    by (inr early) (inr still) = same (stays_none o past e early still)

-- what a legal journal leaves is sound
pub legal_sound : (o : Opening) (past : List Entry) → IsOpened o → AllFit (schema_of o.catalog) o.loads → Legal o past → IsSound o past
legal_sound o [] opened loads l = loaded_sound o opened
legal_sound o (e ∷ past) opened loads l = sound_after o past e loads l (legal_sound o past opened loads l.0)
