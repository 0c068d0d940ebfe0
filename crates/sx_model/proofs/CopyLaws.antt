-- Convergence over journals: once the scan has ended, the copy is what the records behind the Mark, up to the position, make of the state of some place; and from the scan's end on it is the state at the position.
use Rattle.std.proofs.Common.{◌≡◌, ◌≤◌, ◌<◌, ◌+◌, ◌-◌, ◌==◌, ◌&&◌, ◌||◌, ◌++◌, ◌⊎◌, inl, inr, ◌∷◌, [], ℕ, zero, suc, min, nat_lt, List, length, take, drop, Bool, true, false, Option, Some, None, IsSome, refl, sym, ap, ◌∙◌, subst, arith, if◌then◌else◌}
use Rattle.std.specs.Prelude.{slice_get}
use Rattle.std.specs.Option.{option_to_list}
use Rattle.std.specs.List.{AllByRecursion}
use Rattle.std.proofs.lemmas.Bool.{false≢true, eqb-true, cases_lt}
use Rattle.std.proofs.lemmas.Bool.Decides.{nat_tests}
use Rattle.std.proofs.lemmas.List.{take-append-drop, append-nil, append_assoc}
use Rattle.std.proofs.lemmas.List.Folds.{list_any-append}
use Rattle.std.proofs.Math.Nat.{min-le_right}
use Rattle.sx_lists.specs.Places.{numbered}
use Rattle.sx_values.specs.declared.value.Value.{Value}
use Rattle.sx_values.specs.Names.{same_name}
use Rattle.sx_values.specs.Values.{values_eq}
use Rattle.sx_values.specs.Catalogs.{declared_as}
use Rattle.sx_values.proofs.KeyLaws.{same_name_tells}
use Rattle.sx_log.specs.declared.record.Rec.{Rec}
use Rattle.sx_log.specs.declared.record.Body.{Body}
use Rattle.sx_log.specs.declared.record.Body.TheVariants.{Write, Undo, Commit, Abort, Mark, Switch}
use Rattle.sx_log.specs.State.{Stored, stored, is_place, after_body, state_at, state_at_place, oldest, row_left}
use Rattle.sx_log.specs.Undoing.{Rows}
use Rattle.sx_log.specs.Copies.{after_reading, copied, redone}
use Rattle.sx_ops.specs.declared.spec.Spec.{Spec}
use Rattle.sx_ops.specs.declared.spec.Spec.TheVariants.{Join, Split, Part, Union}
use Rattle.sx_ops.specs.Checks.{IsShaped}
use Rattle.sx_ops.specs.Operators.{sources_of}
use Rattle.sx_sync.specs.declared.Strategy.TheVariants.{Blocking}
use Rattle.sx_sync.specs.declared.Phase.{Phase}
use Rattle.sx_sync.specs.declared.Phase.TheVariants.{Scanning, Chasing, Draining, Done}
use Rattle.sx_journal.specs.declared.entry.Entry.{Entry}
use Rattle.sx_journal.specs.declared.entry.Reply.{Reply}
use Rattle.sx_journal.specs.declared.entry.Reply.TheVariants as reply
use Rattle.sx_model.specs.Effects.{Effect, Nothing, Reads, Begins, Writes, Undoes, Commits, Aborts, Starts, Sees, Fetches, Checks, Conflicts, Violates, Switches, Cancels, effect}
use Rattle.sx_model.specs.Openings.{Opening}
use Rattle.sx_model.specs.Leaves.{Started, started, started_by, begun, drains, phase, phase_after}
use Rattle.sx_model.specs.Logs.{log_of, next_lsn}
use Rattle.sx_model.specs.NewRows.{row_in, first_in}
use Rattle.sx_model.specs.Befores.{before_of, KeepsSince}
use Rattle.sx_model.specs.Scans.{seen, seen_after, has_lsn, is_about, reading, Covers, IsRowNow, side_table, mark_of}
use Rattle.sx_model.specs.Switches.{position, position_after}
use Rattle.sx_model.specs.Copies.{with_reading, reading_of, behind_readings, copied_by, copied_on_side, copy, scan_end_after, scan_end}
use Rattle.sx_model.specs.Legal.{Legal}
use Rattle.sx_model.proofs.TestLaws.{by_cases, chosen, passed, and_first, and_second}
use Rattle.sx_model.proofs.AllLaws.{all_append}
use Rattle.sx_model.proofs.LsnLaws.{record_of, numbered-here, numbered-earlier, numbered_within, values_eq_tells}
use Rattle.sx_model.proofs.StateLaws.{image_of, after_elsewhere, after_there}
use Rattle.sx_model.proofs.LeftLaws.{is_silent, AreWritesOf, writes_are}
use Rattle.sx_model.proofs.RollbackLaws.{silent_elsewhere}
use Rattle.sx_model.proofs.RestLaws.{declared_first, left_from}
use Rattle.sx_model.proofs.Outcomes.{Seeing, Fetching, Outcome, rests, begins, reads, writes, commits, undoes, aborts, starts, sees, fetches, conflicts, switches, outcome}
use Rattle.sx_model.proofs.EntryLaws.{log-quiet, log-read, log-begun, log-conflict, log-written, log-committed, log-undone, log-aborted, log-started, log-switched, log-saw, log-fetched, log_never_shrinks}
use Rattle.sx_model.proofs.LegalLaws.{Progress, before, under_way, UnderWay, legal_progress}
use Rattle.sx_model.proofs.FitLaws.{phase_by, started_is}
use Rattle.sx_model.proofs.SoundJournals.{undone_log}
use Rattle.sx_model.proofs.ScanLaws.{oldest_all}
use Rattle.sx_model.proofs.ConvergenceLaws.{converges}

-- ** what records found **

-- the row that a declared table has is the one that the log leaves
declared_row : (o : Opening) (past : List Entry) (table : List ℕ) (key : List Value) → IsSome (declared_as o.catalog table) → row_in o past (log_of o past) table key ≡ row_left (log_of o past) table key
declared_row o past table key declared = left_from (first_in o past (log_of o past)) (log_of o past) table key (declared_first o past (log_of o past) table key declared)

-- the place of a record
about_place : (written : List ℕ) (at : List Value) (table : List ℕ) (key : List Value) (there : Rows) → is_place written at table key ≡ true → there written at ≡ there table key
about_place written at table key there here =
    ap (λ n. there n at) (same_name_tells written table (and_first (same_name written table) (values_eq at key) here)) ∙ ap (there table) (values_eq_tells at key (and_second (same_name written table) (values_eq at key) here))

found_there : (written : List ℕ) (at : List Value) (after : Option (List Value)) (table : List ℕ) (key : List Value) (there : Rows) → is_about (Write written at (there written at) after) table key ≡ true → before_of (Write written at (there written at) after) ≡ there table key
unfolding is_about
found_there written at after table key there here = about_place written at table key there here

found_back : (lsn : ℕ) (written : List ℕ) (at : List Value) (after : Option (List Value)) (table : List ℕ) (key : List Value) (there : Rows) → is_about (Undo lsn written at (there written at) after) table key ≡ true → before_of (Undo lsn written at (there written at) after) ≡ there table key
unfolding is_about
found_back lsn written at after table key there here = about_place written at table key there here

-- a record that is about nothing
quiet_found : (body : Body) (table : List ℕ) (key : List Value) (row : Option (List Value)) → is_silent body ≡ true → is_about body table key ≡ true → before_of body ≡ row
quiet_found body table key row quiet here = absurd (false≢true (sym (silent_elsewhere body table key quiet) ∙ here))

-- each record of an entry on a declared table has, as its image before, the row that was there
pub keeps_since : (o : Opening) (past : List Entry) (table : List ℕ) (key : List Value) → Legal o past → IsSome (declared_as o.catalog table) → KeepsSince (length o.loads) (log_of o past) table key
unfolding is_silent
keeps_since o [] table key legal declared = loaded o.loads (omega arith)
  where
    loaded : (log : List Rec) → length log ≤ length o.loads → KeepsSince (length o.loads) log table key
    loaded [] within = tt
    loaded (r ∷ log) within = (loaded log (omega arith), λ behind. absurd (omega arith))
keeps_since o (e ∷ past) table key legal declared = by (keeps_since o past table key legal.0 declared) (outcome o past e legal)
  where
    by : KeepsSince (length o.loads) (log_of o past) table key → Outcome o past e → KeepsSince (length o.loads) (log_of o (e ∷ past)) table key
    by keeps (rests told) = rw (log-quiet o past e told) keeps
    by keeps (begins b) = rw (log-begun o past e (begun past + 1) b.told) keeps
    by keeps (reads r) = rw (log-read o past e r.told) keeps
    by keeps (writes w) = rw (log-written o past e w) (keeps, λ behind here. found_there w.table w.key w.after table key (row_in o past (log_of o past)) here ∙ declared_row o past table key declared)
    by keeps (commits c) = rw (log-committed o past e c) (keeps, λ behind here. quiet_found Commit table key _ refl here)
    by keeps (undoes u) =
        let w = (subst (AreWritesOf (log_of o past) u.txn) u.left (writes_are u.txn (log_of o past))).0 in
        rw (log-undone o past e u ∙ undone_log (row_in o past (log_of o past)) (log_of o past) u.txn u.lsn w) (keeps, λ behind here. found_back u.lsn w.table w.key w.before table key (row_in o past (log_of o past)) here ∙ declared_row o past table key declared)
    by keeps (aborts a) = rw (log-aborted o past e a) (keeps, λ behind here. quiet_found Abort table key _ refl here)
    by keeps (starts t) = rw (log-started o past e (next_lsn o past) t.told) (keeps, λ behind here. quiet_found Mark table key _ refl here)
    by keeps (sees t) = rw (log-saw o past e t.lsns t.last t.told) keeps
    by keeps (fetches t) = rw (log-fetched o past e t.place t.told) keeps
    by keeps (conflicts t told) = rw (log-conflict o past e told) keeps
    by keeps (switches w) = rw (log-switched o past e w.told) (keeps, λ behind here. quiet_found Switch table key _ refl here)

-- from a later place on, and of an older log
keeps_later : (place later : ℕ) (log : List Rec) (table : List ℕ) (key : List Value) → place ≤ later → KeepsSince place log table key → KeepsSince later log table key
keeps_later place later [] table key more keeps = tt
keeps_later place later (r ∷ log) table key more keeps = (keeps_later place later log table key more keeps.0, λ behind here. keeps.1 (omega arith) here)

keeps_drop : (place n : ℕ) (log : List Rec) (table : List ℕ) (key : List Value) → KeepsSince place log table key → KeepsSince place (drop n log) table key
keeps_drop place zero log table key keeps = keeps
keeps_drop place (suc n) [] table key keeps = tt
keeps_drop place (suc n) (r ∷ log) table key keeps = keeps_drop place n log table key keeps.0

-- ** the oldest records of a log **

oldest_longer : (n : ℕ) (more log : List Rec) → n ≤ length log → oldest n (more ++ log) ≡ oldest n log
oldest_longer n [] log within = refl
oldest_longer n (r ∷ more) log within =
    let rest = oldest_longer n more log within in
    let long = longer more in
    let one : length (r ∷ more ++ log) - n ≡ suc (length (more ++ log) - n) = omega arith in
    ap (λ k. drop k (r ∷ more ++ log)) one ∙ rest
  where
    longer : (items : List Rec) → length log ≤ length (items ++ log)
    longer [] = omega arith
    longer (x ∷ items) = let h = longer items in omega arith

oldest_length : (n : ℕ) (log : List Rec) → n ≤ length log → length (oldest n log) ≡ n
oldest_length n log within = dropped (length log - n) log ∙ (omega arith)
  where
    dropped : (k : ℕ) (items : List Rec) → length (drop k items) ≡ length items - k
    dropped zero items = omega arith
    dropped (suc k) [] = omega arith
    dropped (suc k) (x ∷ items) = dropped k items ∙ (omega arith)

-- ** redoing in parts **

-- records up to a place that is redone from change nothing
redone_still : (log : List Rec) (place : ℕ) (table : List ℕ) (key : List Value) (known : Option Stored) → length log ≤ place → redone log place table key known ≡ known
redone_still [] place table key known within = refl
redone_still (r ∷ log) place table key known within = passed (nat_lt place (length log + 1)) (copied table (length log + 1) r.body key (redone log place table key known)) known (grind (arith, nat_tests))

redone_step : (r : Rec) (log : List Rec) (place : ℕ) (table : List ℕ) (key : List Value) (known : Option Stored) → place ≤ length log → redone (r ∷ log) place table key known ≡ copied table (length log + 1) r.body key (redone log place table key known)
redone_step r log place table key known behind = chosen (nat_lt place (length log + 1)) (copied table (length log + 1) r.body key (redone log place table key known)) known (grind (arith, nat_tests))

-- first up to a middle place, and then on
redone_parts : (newer log : List Rec) (place : ℕ) (table : List ℕ) (key : List Value) (known : Option Stored) → place ≤ length log → redone (newer ++ log) (length log) table key (redone log place table key known) ≡ redone (newer ++ log) place table key known
redone_parts [] log place table key known within = redone_still log (length log) table key (redone log place table key known) (omega arith)
redone_parts (r ∷ newer) log place table key known within =
    let h = longer newer in
    redone_step r (newer ++ log) (length log) table key (redone log place table key known) h
    ∙ ap (copied table (length (newer ++ log) + 1) r.body key) (redone_parts newer log place table key known within)
    ∙ sym (redone_step r (newer ++ log) place table key known (omega arith))
  where
    longer : (items : List Rec) → length log ≤ length (items ++ log)
    longer [] = omega arith
    longer (x ∷ items) = let g = longer items in omega arith

-- an older part of a log, and what is newer
record Parted (log : List Rec) (some more : ℕ) : Type 0 where
  newer : List Rec
  is : oldest more log ≡ newer ++ oldest some log

parted : (log : List Rec) (some more : ℕ) → some ≤ more → more ≤ length log → Parted log some more
parted log some more less within =
    let sum : (more - some) + (length log - more) ≡ length log - some = omega arith in
    record {
      newer = take (more - some) (oldest more log);
      is = sym (take-append-drop (more - some) (oldest more log)) ∙ ap (λ rest. take (more - some) (oldest more log) ++ rest) (drop-drop-sum (more - some) (length log - more) log ∙ ap (λ k. drop k log) sum);
    }
  where
    drop-drop-sum : (a b : ℕ) (items : List Rec) → drop a (drop b items) ≡ drop (a + b) items
    drop-drop-sum a zero items = let e : a ≡ a + zero = omega arith in ap (λ k. drop k items) e
    drop-drop-sum a (suc b) [] = nothing a ∙ sym (nothing (a + suc b))
      where
        nothing : (k : ℕ) → ◌≡◌ {A = List Rec} (drop k []) []
        nothing zero = refl
        nothing (suc k) = refl
    drop-drop-sum a (suc b) (x ∷ items) = let e : suc (a + b) ≡ a + suc b = omega arith in drop-drop-sum a b items ∙ ap (λ k. drop k (x ∷ items)) e

-- ** what a scan has read **

-- the record of an LSN left a row
record IsImage (log : List Rec) (lsn : ℕ) : Type 0 where
  rec : Rec
  is : numbered log lsn ≡ Some rec
  row : List Value
  image : image_of rec.body ≡ Some row

image_later : (log : List Rec) (item : Option Rec) (lsn : ℕ) → IsImage log lsn → IsImage (option_to_list item ++ log) lsn
image_later log None lsn i = i
image_later log (Some r) lsn i = record { rec = i.rec; is = numbered-earlier r log lsn (numbered_within log lsn i.rec i.is) ∙ i.is; row = i.row; image = i.image }

images_later : (log : List Rec) (item : Option Rec) (lsns : List ℕ) → AllByRecursion (IsImage log) lsns → AllByRecursion (IsImage (option_to_list item ++ log)) lsns
images_later log item [] all = tt
images_later log item (lsn ∷ lsns) all = (image_later log item lsn all.0, images_later log item lsns all.1)

-- a row that a table has now
image_now : (log : List Rec) (table : List ℕ) (lsn : ℕ) → IsRowNow log table lsn → IsImage log lsn
image_now log table lsn n = (let r = record_of log table n.key n.row lsn n.now in record { rec = r.rec; is = r.has_number; row = n.row; image = r.image })

images_now : (log : List Rec) (table lsns : List ℕ) → AllByRecursion (IsRowNow log table) lsns → AllByRecursion (IsImage log) lsns
images_now log table [] all = tt
images_now log table (lsn ∷ lsns) all = (image_now log table lsn all.0, images_now log table lsns all.1)

-- an LSN among such has one
listed_image : (log : List Rec) (lsns : List ℕ) (lsn : ℕ) → AllByRecursion (IsImage log) lsns → has_lsn lsns lsn ≡ true → IsImage log lsn
listed_image log [] lsn all has = absurd (cc)
listed_image log (n ∷ lsns) lsn all has = by_cases (lsn == n)
    (λ t. subst (IsImage log) (sym (eqb-true lsn n t)) all.0)
    (λ f. listed_image log lsns lsn all.1 (rw f at has))

-- no LSN behind the log is among them
none_newer : (log : List Rec) (lsns : List ℕ) (lsn : ℕ) → AllByRecursion (IsImage log) lsns → length log < lsn → has_lsn lsns lsn ≡ false
none_newer log lsns lsn all newer = by_cases (has_lsn lsns lsn)
    (λ t. absurd (let i = listed_image log lsns lsn all t in let w = numbered_within log lsn i.rec i.is in omega arith))
    (λ f. f)

-- so a new record leaves what was read
reading_kept : (log : List Rec) (item : Option Rec) (lsns table : List ℕ) (key : List Value) → AllByRecursion (IsImage log) lsns → reading (option_to_list item ++ log) lsns table key ≡ reading log lsns table key
reading_kept log None lsns table key all = refl
reading_kept log (Some r) lsns table key all =
    let away = none_newer log lsns (length log + 1) all (omega arith) in
    passed (has_lsn lsns (length log + 1) && is_about r.body table key) (after_body (length log + 1) r.body table key None) (reading log lsns table key) (rw away refl)

-- nothing was read before the first turn
nothing_read : (log : List Rec) (table : List ℕ) (key : List Value) → reading log [] table key ≡ None
nothing_read [] table key = refl
nothing_read (r ∷ log) table key = nothing_read log table key

-- what was read has an LSN within the log
record ReadWithin (log : List Rec) (read : Option Stored) : Type 0 where
  within : (s : Stored) → read ≡ Some s → s.1 ≤ length log

stored_lsn : (lsn : ℕ) (image : Option (List Value)) (s : Stored) → stored lsn image ≡ Some s → s.1 ≡ lsn
stored_lsn lsn None s e = absurd (cc)
stored_lsn lsn (Some row) s e = (let same : ◌≡◌ {A = Stored} (row, lsn) s = cc in sym (ap (λ (t : Stored). t.1) same))

read_within : (log : List Rec) (lsns table : List ℕ) (key : List Value) (s : Stored) → reading log lsns table key ≡ Some s → s.1 ≤ length log
read_within [] lsns table key s e = absurd (cc)
read_within (r ∷ log) lsns table key s e = by_cases (has_lsn lsns (length log + 1) && is_about r.body table key)
    (λ t.
    let here : after_body (length log + 1) r.body table key None ≡ Some s = sym (chosen (has_lsn lsns (length log + 1) && is_about r.body table key) (after_body (length log + 1) r.body table key None) (reading log lsns table key) t) ∙ e in
    let own = stored_lsn (length log + 1) (image_of r.body) s (sym (after_there (length log + 1) r.body table key None (and_second (has_lsn lsns (length log + 1)) (is_about r.body table key) t)) ∙ here) in
    omega arith)
    (λ f.
    let rest = read_within log lsns table key s (sym (passed (has_lsn lsns (length log + 1) && is_about r.body table key) (after_body (length log + 1) r.body table key None) (reading log lsns table key) f) ∙ e) in
    omega arith)

-- an LSN is among these and one more where it is among these, or is that one
has_more : (lsns : List ℕ) (n lsn : ℕ) → has_lsn (lsns ++ n ∷ []) lsn ≡ (has_lsn lsns lsn || (lsn == n))
has_more lsns n lsn = list_any-append (λ m. lsn == m) lsns (n ∷ []) ∙ ap (λ b. has_lsn lsns lsn || b) (or_none (lsn == n))
  where
    or_none : (b : Bool) → (b || false) ≡ b
    or_none true = refl
    or_none false = refl

-- a newer reading is taken, an older one isn't
newer_taken : (read : Stored) (known : Option Stored) → ((s : Stored) → known ≡ Some s → s.1 < read.1) → after_reading read known ≡ Some read
newer_taken read None older = refl
newer_taken read (Some s) older = (let less = older s refl in chosen (nat_lt s.1 read.1) (Some read) (Some s) (grind (arith, nat_tests)))

older_left : (read s : Stored) → read.1 ≤ s.1 → after_reading read (Some s) ≡ Some s
older_left read s less = passed (nat_lt s.1 read.1) (Some read) (Some s) (grind (arith, nat_tests))

-- a reading of a record that isn't about the key tells nothing
pub foreign_reading : (r : Rec) (lsn : ℕ) (table : List ℕ) (key : List Value) → is_about r.body table key ≡ false → reading_of (Some r) lsn table key ≡ None
foreign_reading r lsn table key away = after_elsewhere lsn r.body table key None away

pub own_reading : (r : Rec) (lsn : ℕ) (table : List ℕ) (key : List Value) → is_about r.body table key ≡ true → reading_of (Some r) lsn table key ≡ stored lsn (image_of r.body)
own_reading r lsn table key here = after_there lsn r.body table key None here

-- an LSN behind the log is none of its records'
unlisted : (log : List Rec) (lsns : List ℕ) (n : ℕ) (table : List ℕ) (key : List Value) → length log < n → reading log (lsns ++ n ∷ []) table key ≡ reading log lsns table key
unlisted [] lsns n table key newer = refl
unlisted (r ∷ log) lsns n table key newer =
    let rest = unlisted log lsns n table key (omega arith) in
    let other : (length log + 1 == n) ≡ false = grind (arith, nat_tests) in
    ap (λ b. if b && is_about r.body table key then after_body (length log + 1) r.body table key None else reading log (lsns ++ n ∷ []) table key) (has_more lsns n (length log + 1) ∙ ap (λ b. has_lsn lsns (length log + 1) || b) other ∙ or_none (has_lsn lsns (length log + 1)))
    ∙ ap (λ x. if has_lsn lsns (length log + 1) && is_about r.body table key then after_body (length log + 1) r.body table key None else x) rest
  where
    or_none : (b : Bool) → (b || false) ≡ b
    or_none true = refl
    or_none false = refl

-- a record that is read, and one that isn't
read_it : (r : Rec) (log : List Rec) (lsns table : List ℕ) (key : List Value) → has_lsn lsns (length log + 1) ≡ true → is_about r.body table key ≡ true → reading (r ∷ log) lsns table key ≡ stored (length log + 1) (image_of r.body)
read_it r log lsns table key has here =
    chosen (has_lsn lsns (length log + 1) && is_about r.body table key) (after_body (length log + 1) r.body table key None) (reading log lsns table key) (rw (has, here) refl) ∙ after_there (length log + 1) r.body table key None here

skip_it : (r : Rec) (log : List Rec) (lsns table : List ℕ) (key : List Value) → (has_lsn lsns (length log + 1) && is_about r.body table key) ≡ false → reading (r ∷ log) lsns table key ≡ reading log lsns table key
skip_it r log lsns table key away = passed (has_lsn lsns (length log + 1) && is_about r.body table key) (after_body (length log + 1) r.body table key None) (reading log lsns table key) away

-- the image of the record at an LSN
image_at : (log : List Rec) (n : ℕ) (r : Rec) (i : IsImage log n) → numbered log n ≡ Some r → image_of r.body ≡ Some i.row
image_at log n r i is = subst (λ (x : Rec). image_of x.body ≡ Some i.row) (one i.rec r (sym i.is ∙ is)) i.image
  where
    one : (a b : Rec) → Some a ≡ Some b → a ≡ b
    one a b e = cc

-- the newest record is read
newest_read : (r : Rec) (log : List Rec) (lsns : List ℕ) (n : ℕ) (table : List ℕ) (key : List Value) → n ≡ length log + 1 → IsImage (r ∷ log) n → reading (r ∷ log) (lsns ++ n ∷ []) table key ≡ with_reading (reading_of (numbered (r ∷ log) n) n table key) (reading (r ∷ log) lsns table key)
newest_read r log lsns n table key same i = by_cases (is_about r.body table key) here away
  where
    found : numbered (r ∷ log) n ≡ Some r
    found = numbered-here r log n same

    itself : has_lsn (lsns ++ n ∷ []) (length log + 1) ≡ true
    itself = has_more lsns n (length log + 1) ∙ or_last (has_lsn lsns (length log + 1)) (length log + 1 == n) (grind (arith, nat_tests))
      where
        or_last : (a b : Bool) → b ≡ true → (a || b) ≡ true
        or_last true b e = refl
        or_last false b e = e

    and_away : (a b : Bool) → b ≡ false → (a && b) ≡ false
    and_away true b e = e
    and_away false b e = refl

    away : is_about r.body table key ≡ false → reading (r ∷ log) (lsns ++ n ∷ []) table key ≡ with_reading (reading_of (numbered (r ∷ log) n) n table key) (reading (r ∷ log) lsns table key)
    away a =
        skip_it r log (lsns ++ n ∷ []) table key (and_away (has_lsn (lsns ++ n ∷ []) (length log + 1)) (is_about r.body table key) a) ∙ unlisted log lsns n table key (omega (arith, same))
        ∙ sym (ap (λ x. with_reading (reading_of x n table key) (reading (r ∷ log) lsns table key)) found ∙ ap (λ x. with_reading x (reading (r ∷ log) lsns table key)) (foreign_reading r n table key a)
        ∙ skip_it r log lsns table key (and_away (has_lsn lsns (length log + 1)) (is_about r.body table key) a))

    here : is_about r.body table key ≡ true → reading (r ∷ log) (lsns ++ n ∷ []) table key ≡ with_reading (reading_of (numbered (r ∷ log) n) n table key) (reading (r ∷ log) lsns table key)
    here a =
        let image : image_of r.body ≡ Some i.row = image_at (r ∷ log) n r i found in
        read_it r log (lsns ++ n ∷ []) table key itself a ∙ ap (stored (length log + 1)) image ∙ ap (λ l. Some (i.row, l)) (sym same)
        ∙ sym (ap (λ x. with_reading (reading_of x n table key) (reading (r ∷ log) lsns table key)) found
        ∙ ap (λ x. with_reading x (reading (r ∷ log) lsns table key)) (own_reading r n table key a ∙ ap (stored n) image)
        ∙ by_cases (has_lsn lsns (length log + 1))
        (λ had. ap (after_reading (i.row, n)) (read_it r log lsns table key had a ∙ ap (stored (length log + 1)) image) ∙ older_left (i.row, n) (i.row, length log + 1) (omega (arith, same)) ∙ ap (λ l. Some (i.row, l)) (sym same))
        (λ lacks. ap (after_reading (i.row, n)) (skip_it r log lsns table key (rw lacks refl)) ∙ newer_taken (i.row, n) (reading log lsns table key) (λ s e. let w = read_within log lsns table key s e in omega (arith, same))))

-- an older record is read where no newer one is
older_read : (r : Rec) (log : List Rec) (lsns : List ℕ) (n : ℕ) (table : List ℕ) (key : List Value) → n ≤ length log → IsImage log n → (has_lsn lsns (length log + 1) ≡ true → IsImage (r ∷ log) (length log + 1))
    → reading log (lsns ++ n ∷ []) table key ≡ with_reading (reading_of (numbered log n) n table key) (reading log lsns table key) → reading (r ∷ log) (lsns ++ n ∷ []) table key ≡ with_reading (reading_of (numbered (r ∷ log) n) n table key) (reading (r ∷ log) lsns table key)
older_read r log lsns n table key within i images rest = by_cases (has_lsn lsns (length log + 1) && is_about r.body table key) here away
  where
    found : numbered (r ∷ log) n ≡ numbered log n
    found = numbered-earlier r log n within

    same : has_lsn (lsns ++ n ∷ []) (length log + 1) ≡ has_lsn lsns (length log + 1)
    same = has_more lsns n (length log + 1) ∙ ap (λ b. has_lsn lsns (length log + 1) || b) (let other : (length log + 1 == n) ≡ false = grind (arith, nat_tests) in other) ∙ or_none (has_lsn lsns (length log + 1))
      where
        or_none : (b : Bool) → (b || false) ≡ b
        or_none true = refl
        or_none false = refl

    away : (has_lsn lsns (length log + 1) && is_about r.body table key) ≡ false → reading (r ∷ log) (lsns ++ n ∷ []) table key ≡ with_reading (reading_of (numbered (r ∷ log) n) n table key) (reading (r ∷ log) lsns table key)
    away a =
        skip_it r log (lsns ++ n ∷ []) table key (ap (λ b. b && is_about r.body table key) same ∙ a) ∙ rest
        ∙ sym (ap (λ x. with_reading (reading_of x n table key) (reading (r ∷ log) lsns table key)) found ∙ ap (with_reading (reading_of (numbered log n) n table key)) (skip_it r log lsns table key a))

    here : (has_lsn lsns (length log + 1) && is_about r.body table key) ≡ true → reading (r ∷ log) (lsns ++ n ∷ []) table key ≡ with_reading (reading_of (numbered (r ∷ log) n) n table key) (reading (r ∷ log) lsns table key)
    here a =
        let has = and_first (has_lsn lsns (length log + 1)) (is_about r.body table key) a in
        let about = and_second (has_lsn lsns (length log + 1)) (is_about r.body table key) a in
        let m = images has in
        let image : image_of r.body ≡ Some m.row = image_at (r ∷ log) (length log + 1) r m (numbered-here r log (length log + 1) refl) in
        let known : reading (r ∷ log) lsns table key ≡ Some (m.row, length log + 1) = read_it r log lsns table key has about ∙ ap (stored (length log + 1)) image in
        read_it r log (lsns ++ n ∷ []) table key (same ∙ has) about ∙ ap (stored (length log + 1)) image
        ∙ sym (ap (λ x. with_reading (reading_of x n table key) (reading (r ∷ log) lsns table key)) (found ∙ i.is) ∙ ap (with_reading (reading_of (Some i.rec) n table key)) known
        ∙ by_cases (is_about i.rec.body table key)
        (λ b. ap (λ x. with_reading x (Some (m.row, length log + 1))) (own_reading i.rec n table key b ∙ ap (stored n) i.image) ∙ older_left (i.row, n) (m.row, length log + 1) (omega arith))
        (λ b. ap (λ x. with_reading x (Some (m.row, length log + 1))) (foreign_reading i.rec n table key b)))

-- one more LSN
read_one : (log : List Rec) (lsns : List ℕ) (n : ℕ) (table : List ℕ) (key : List Value) → ((l : ℕ) → l ≤ length log → has_lsn lsns l ≡ true → IsImage log l) → IsImage log n → reading log (lsns ++ n ∷ []) table key ≡ with_reading (reading_of (numbered log n) n table key) (reading log lsns table key)
read_one [] lsns n table key images i = absurd (let e = i.is in cc)
read_one (r ∷ log) lsns n table key images i = by_cases (length log + 1 == n)
    (λ t. newest_read r log lsns n table key (let e = eqb-true (length log + 1) n t in omega arith) i)
    (λ f.
    let within : n ≤ length log = (let w = numbered_within (r ∷ log) n i.rec i.is in grind (arith, nat_tests)) in
    let old = older_image r log n within i in
    older_read r log lsns n table key within old (λ has. images (length log + 1) (omega arith) has) (read_one log lsns n table key (λ l w has. older_image r log l w (images l (omega arith) has)) old))
  where
    older_image : (x : Rec) (items : List Rec) (l : ℕ) → l ≤ length items → IsImage (x ∷ items) l → IsImage items l
    older_image x items l w j = record { rec = j.rec; is = sym (numbered-earlier x items l w) ∙ j.is; row = j.row; image = j.image }

-- and several, in turn
read_more : (log : List Rec) (lsns more table : List ℕ) (key : List Value) → AllByRecursion (IsImage log) lsns → AllByRecursion (IsImage log) more → reading log (lsns ++ more) table key ≡ behind_readings log more table key (reading log lsns table key)
read_more log lsns [] table key all images = ap (λ l. reading log l table key) (append-nil lsns)
read_more log lsns (n ∷ more) table key all images =
    ap (λ l. reading log l table key) (sym (append_assoc lsns (n ∷ []) more))
    ∙ read_more log (lsns ++ n ∷ []) more table key (all_append (IsImage log) lsns (n ∷ []) all (images.0, tt)) images.1
    ∙ ap (behind_readings log more table key) (read_one log lsns n table key (λ l w has. listed_image log lsns l all has) images.0)

-- ** what the entries make of the copy **

-- an answer with another effect leaves the copy
pub copied_start : (log : List Rec) (from : ℕ) (answer : Reply) (side mark : ℕ) (table : List ℕ) (key : List Value) (known : Option Stored) → effect answer ≡ Starts mark → copied_by log from answer side table key known ≡ None
unfolding effect copied_by
copied_start log from (reply.Started lsn) side mark table key known e = refl
copied_start log from other side mark table key known e = absurd (cc)

-- the effects that do so
abbrev pub Leaves : Effect → Type 0
Leaves Nothing = Unit {0}
Leaves Reads = Unit {0}
Leaves (Begins txn) = Unit {0}
Leaves Writes = Unit {0}
Leaves Undoes = Unit {0}
Leaves Commits = Unit {0}
Leaves Aborts = Unit {0}
Leaves (Starts mark) = ⊥
Leaves (Sees lsns last) = ⊥
Leaves (Fetches place) = ⊥
Leaves Checks = Unit {0}
Leaves Conflicts = Unit {0}
Leaves Violates = ⊥
Leaves Switches = Unit {0}
Leaves Cancels = Unit {0}

copied_left : (log : List Rec) (from : ℕ) (answer : Reply) (side : ℕ) (table : List ℕ) (key : List Value) (known : Option Stored) → Leaves (effect answer) → copied_by log from answer side table key known ≡ known
unfolding effect copied_by
copied_left log from (reply.Started lsn) side table key known e = absurd e
copied_left log from (reply.Scanned turn lsns last) side table key known e = absurd e
copied_left log from (reply.Fetched first to) side table key known e = absurd e
copied_left log from (reply.Violated first second) side table key known e = absurd e
copied_left log from other side table key known e = refl

ended_left : (end : ℕ) (answer : Reply) (earlier : ℕ) → Leaves (effect answer) → scan_end_after end answer earlier ≡ earlier
unfolding effect scan_end_after
ended_left end (reply.Scanned turn lsns last) earlier e = absurd e
ended_left end other earlier e = refl

fetched_end : (end from to earlier : ℕ) → scan_end_after end (reply.Fetched from to) earlier ≡ earlier
unfolding scan_end_after
fetched_end end from to earlier = refl

min-or : (a b : ℕ) → (min a b ≡ a) ⊎ (min a b ≡ b)
min-or a b = elim (cases_lt a b) [ inl less ↦ inl (omega arith) | inr more ↦ inr (omega arith) ]

-- ** the copy over a journal **

-- what is known of the copy of a source, by how far the scan has come: while it scans, it is what was read; from then on what the records between the Mark and the position make of the state at some place
record IsRead (o : Opening) (past : List Entry) (table : List ℕ) (key : List Value) : Type 0 where
  same : copy o past 0 key ≡ reading (log_of o past) (seen past) table key
  images : AllByRecursion (IsImage (log_of o past)) (seen past)

pub record IsCaught (o : Opening) (past : List Entry) (mark : ℕ) (table : List ℕ) (key : List Value) : Type 0 where
  pub place : ℕ
  pub from_mark : mark ≤ place
  pub until_end : place ≤ scan_end o past
  pub end_within : scan_end o past ≤ length (log_of o past)
  pub caught : copy o past 0 key ≡ redone (oldest (position o past) (log_of o past)) mark table key (state_at_place (log_of o past) place table key)

data IsKnown (o : Opening) (past : List Entry) (s : Started) (table : List ℕ) (key : List Value) : Type 0 where
  reads_on : phase past ≡ Scanning → IsRead o past table key → IsKnown o past s table key
  reads_done : (phase past ≡ Scanning → ⊥) → IsCaught o past s.mark table key → IsKnown o past s table key

-- a transformation of this source alone
pub record IsOf (s : Started) (table : List ℕ) : Type 0 where
  pub one : sources_of s.spec ≡ table ∷ []

-- the side of a table is the first
pub side_first : (o : Opening) (past : List Entry) (e : Entry) (s : Started) (table : List ℕ) (key : List Value) → started (e ∷ past) ≡ Some s → IsOf s table → copy o (e ∷ past) 0 key ≡ copied_by (log_of o (e ∷ past)) (position o past) e.reply 0 table key (copy o past 0 key)
side_first o past e s table key is of =
    ap (λ t. copied_on_side (log_of o (e ∷ past)) (position o past) e.reply 0 (side_table t 0) key (copy o past 0 key)) is
    ∙ ap (λ tables. copied_on_side (log_of o (e ∷ past)) (position o past) e.reply 0 (slice_get tables 0) key (copy o past 0 key)) of.one

-- an entry that leaves the copy
pub left_copy : (o : Opening) (past : List Entry) (e : Entry) (s : Started) (table : List ℕ) (key : List Value) (f : Effect) → effect e.reply ≡ f → Leaves f → started (e ∷ past) ≡ Some s → IsOf s table → copy o (e ∷ past) 0 key ≡ copy o past 0 key
left_copy o past e s table key f told leaves is of = side_first o past e s table key is of ∙ copied_left (log_of o (e ∷ past)) (position o past) e.reply 0 table key (copy o past 0 key) (subst Leaves (sym told) leaves)

-- a record more leaves a place of the log
place_kept : (item : Option Rec) (log : List Rec) (n : ℕ) → n ≤ length log → oldest n (option_to_list item ++ log) ≡ oldest n log
place_kept item log n within = oldest_longer n (option_to_list item) log within

-- what is known stays behind an entry that leaves the copy, the position and what was seen
known_left : (o : Opening) (past : List Entry) (e : Entry) (s : Started) (table : List ℕ) (key : List Value) (item : Option Rec) → log_of o (e ∷ past) ≡ option_to_list item ++ log_of o past → copy o (e ∷ past) 0 key ≡ copy o past 0 key → seen (e ∷ past) ≡ seen past → position o (e ∷ past) ≡ position o past
    → scan_end o (e ∷ past) ≡ scan_end o past → position o past ≤ length (log_of o past) → (phase past ≡ Scanning → phase (e ∷ past) ≡ Scanning) → ((phase past ≡ Scanning → ⊥) → phase (e ∷ past) ≡ Scanning → ⊥) → IsKnown o past s table key → IsKnown o (e ∷ past) s table key
known_left o past e s table key item log same saw at ended within scans done (reads_on scanning r) =
    reads_on (scans scanning) (record {
      same = same ∙ r.same ∙ sym (reading_kept (log_of o past) item (seen past) table key r.images) ∙ ap (λ l. reading l (seen past) table key) (sym log) ∙ ap (λ lsns. reading (log_of o (e ∷ past)) lsns table key) (sym saw);
      images = subst (λ l. AllByRecursion (IsImage l) (seen (e ∷ past))) (sym log) (subst (λ lsns. AllByRecursion (IsImage (option_to_list item ++ log_of o past)) lsns) (sym saw) (images_later (log_of o past) item (seen past) r.images));
    })
known_left o past e s table key item log same saw at ended within scans done (reads_done scanned c) =
    let more = log_never_shrinks o past e in
    reads_done (done scanned) (record {
      place = c.place;
      from_mark = c.from_mark;
      until_end = (let h = c.until_end in omega arith);
      end_within = (let h = c.end_within in omega arith);
      caught = same ∙ c.caught
          ∙ sym (ap (λ l. redone (oldest (position o (e ∷ past)) l) s.mark table key (state_at_place l c.place table key)) log
          ∙ ap (λ p. redone (oldest p (option_to_list item ++ log_of o past)) s.mark table key (state_at_place (option_to_list item ++ log_of o past) c.place table key)) at
          ∙ ap (λ l. redone l s.mark table key (state_at_place (option_to_list item ++ log_of o past) c.place table key)) (place_kept item (log_of o past) (position o past) within)
          ∙ ap (λ l. redone (oldest (position o past) (log_of o past)) s.mark table key (state_at l table key)) (place_kept item (log_of o past) c.place (let h = c.until_end in let g = c.end_within in omega arith)));
    })

seen_by : (past : List Entry) (e : Entry) (f : Effect) → effect e.reply ≡ f → seen (e ∷ past) ≡ seen_after f (seen past)
seen_by past e f told = ap (λ g. seen_after g (seen past)) told

pub position_by : (o : Opening) (past : List Entry) (e : Entry) (f : Effect) → effect e.reply ≡ f → position o (e ∷ past) ≡ position_after (length (log_of o (e ∷ past))) f (position o past)
position_by o past e f told = ap (λ g. position_after (length (log_of o (e ∷ past))) g (position o past)) told

end_by : (o : Opening) (past : List Entry) (e : Entry) (f : Effect) → effect e.reply ≡ f → Leaves f → scan_end o (e ∷ past) ≡ scan_end o past
end_by o past e f told leaves = ended_left (length (log_of o (e ∷ past))) e.reply (scan_end o past) (subst Leaves (sym told) leaves)

-- a start begins anew
known_start : (o : Opening) (past : List Entry) (e : Entry) (s : Started) (table : List ℕ) (key : List Value) (mark : ℕ) → effect e.reply ≡ Starts mark → started (e ∷ past) ≡ Some s → IsOf s table → IsKnown o (e ∷ past) s table key
known_start o past e s table key mark told is of =
    let none = seen_by past e (Starts mark) told in
    reads_on (phase_by past e (Starts mark) told) (record {
      same = side_first o past e s table key is of ∙ copied_start (log_of o (e ∷ past)) (position o past) e.reply 0 mark table key (copy o past 0 key) told ∙ sym (ap (λ lsns. reading (log_of o (e ∷ past)) lsns table key) none ∙ nothing_read (log_of o (e ∷ past)) table key);
      images = subst (λ lsns. AllByRecursion (IsImage (log_of o (e ∷ past))) lsns) (sym none) tt;
    })

-- a turn reads more
turn_of : (o : Opening) (past : List Entry) (e : Entry) (s : Started) (table : List ℕ) (key : List Value) (t : Seeing o past e) → started past ≡ Some s → IsOf s table → t.side ≡ 0
turn_of o past e s table key t is of = first t.side (sym (ap (λ tables. slice_get tables t.side) of.one) ∙ (sym (ap (λ x. side_table x t.side) is) ∙ t.turn.of_side))
  where
    first : (n : ℕ) → slice_get (table ∷ []) n ≡ Some t.turn.table → n ≡ 0
    first zero e = refl
    first (suc n) e = absurd (none n e)
      where
        none : (m : ℕ) → ◌≡◌ {A = Option (List ℕ)} (slice_get [] m) (Some t.turn.table) → ⊥
        none zero h = cc
        none (suc m) h = cc

table_of : (o : Opening) (past : List Entry) (e : Entry) (s : Started) (table : List ℕ) (key : List Value) (t : Seeing o past e) → started past ≡ Some s → IsOf s table → t.turn.table ≡ table
table_of o past e s table key t is of =
    let side = turn_of o past e s table key t is of in
    let found : Some table ≡ Some t.turn.table = sym (ap (λ tables. slice_get tables 0) of.one) ∙ (sym (ap (λ x. side_table x 0) is) ∙ (ap (side_table (started past)) (sym side) ∙ t.turn.of_side)) in
    sym (one table t.turn.table found)
  where
    one : (a b : List ℕ) → Some a ≡ Some b → a ≡ b
    one a b h = cc

-- what the copy is behind a turn
turn_read : (o : Opening) (past : List Entry) (e : Entry) (s : Started) (table : List ℕ) (key : List Value) (t : Seeing o past e) → started past ≡ Some s → started (e ∷ past) ≡ Some s → IsOf s table → IsRead o past table key → IsRead o (e ∷ past) table key
unfolding copied_by
turn_read o past e s table key t is now of r =
    let log = log_of o past in
    let same_log = log-saw o past e t.lsns t.last t.told in
    let saw = seen_by past e (Sees t.lsns t.last) t.told in
    let side = turn_of o past e s table key t is of in
    let rows = images_now log t.turn.table t.lsns t.turn.present in
    record {
      same = side_first o past e s table key now of
          ∙ ap (λ answer. copied_by (log_of o (e ∷ past)) (position o past) answer 0 table key (copy o past 0 key)) t.shows
          ∙ chosen (t.side == 0) (behind_readings (log_of o (e ∷ past)) t.lsns table key (copy o past 0 key)) (copy o past 0 key) (grind (arith, nat_tests, side))
          ∙ ap (λ l. behind_readings l t.lsns table key (copy o past 0 key)) same_log
          ∙ ap (behind_readings log t.lsns table key) r.same
          ∙ sym (read_more log (seen past) t.lsns table key r.images rows)
          ∙ ap (λ l. reading l (seen past ++ t.lsns) table key) (sym same_log)
          ∙ ap (λ lsns. reading (log_of o (e ∷ past)) lsns table key) (sym saw);
      images = subst (λ l. AllByRecursion (IsImage l) (seen (e ∷ past))) (sym same_log) (subst (λ lsns. AllByRecursion (IsImage log) lsns) (sym saw) (all_append (IsImage log) (seen past) t.lsns r.images rows));
    }

-- and where it ends the scan
turn_ends : (o : Opening) (past : List Entry) (e : Entry) (s : Started) (table : List ℕ) (key : List Value) (t : Seeing o past e) → t.last ≡ true → started past ≡ Some s → IsOf s table → position o past ≡ s.mark → IsRead o (e ∷ past) table key → IsCaught o (e ∷ past) s.mark table key
unfolding scan_end_after
turn_ends o past e s table key t last is of at r =
    let log = log_of o past in
    let same_log = log-saw o past e t.lsns t.last t.told in
    let saw = seen_by past e (Sees t.lsns t.last) t.told in
    let named = table_of o past e s table key t is of in
    let covers : Covers log (mark_of (started past)) (seen past ++ t.lsns) table = subst (λ n. Covers log (mark_of (started past)) (seen past ++ t.lsns) n) named (t.turn.covered last) in
    let c = covers key in
    let mark : mark_of (started past) ≡ s.mark = ap mark_of is in
    let ended : scan_end o (e ∷ past) ≡ length (log_of o (e ∷ past)) = ap (λ answer. scan_end_after (length (log_of o (e ∷ past))) answer (scan_end o past)) t.shows ∙ ap (λ b. if b then length (log_of o (e ∷ past)) else scan_end o past) last in
    let long : length (log_of o (e ∷ past)) ≡ length log = ap length same_log in
    let place_now : position o (e ∷ past) ≡ s.mark = position_by o past e (Sees t.lsns t.last) t.told ∙ at in
    record {
      place = c.place;
      from_mark = (let h = c.from_mark in omega arith);
      until_end = (let h = c.until_now in omega arith);
      end_within = omega arith;
      caught = r.same ∙ ap (λ lsns. reading (log_of o (e ∷ past)) lsns table key) saw ∙ ap (λ l. reading l (seen past ++ t.lsns) table key) same_log ∙ c.same
          ∙ ap (λ l. state_at_place l c.place table key) (sym same_log)
          ∙ sym (redone_still (oldest (position o (e ∷ past)) (log_of o (e ∷ past))) s.mark table key (state_at_place (log_of o (e ∷ past)) c.place table key) (short (log_of o (e ∷ past)) (position o (e ∷ past)) place_now));
    }
  where
    dropped : (k : ℕ) (items : List Rec) → length (drop k items) ≡ length items - k
    dropped zero items = omega arith
    dropped (suc k) [] = omega arith
    dropped (suc k) (x ∷ items) = dropped k items ∙ (omega arith)

    short : (items : List Rec) (n : ℕ) → n ≡ s.mark → length (oldest n items) ≤ s.mark
    short items n same = (let d = dropped (length items - n) items in omega arith)

known_turn : (o : Opening) (past : List Entry) (e : Entry) (s : Started) (table : List ℕ) (key : List Value) (t : Seeing o past e) → started past ≡ Some s → started (e ∷ past) ≡ Some s → IsOf s table → position o past ≡ s.mark → IsKnown o past s table key → IsKnown o (e ∷ past) s table key
known_turn o past e s table key t is now of at (reads_done scanned c) = absurd (scanned t.turn.scanning)
known_turn o past e s table key t is now of at (reads_on scanning r) = by_cases t.last
    (λ last. reads_done (λ more. ended last (phase_by past e (Sees t.lsns t.last) t.told) more) (turn_ends o past e s table key t last is of at (turn_read o past e s table key t is now of r)))
    (λ more. reads_on (phase_by past e (Sees t.lsns t.last) t.told ∙ ap (λ b. if b then Chasing else phase past) more ∙ scanning) (turn_read o past e s table key t is now of r))
  where
    ended : t.last ≡ true → phase (e ∷ past) ≡ (if t.last then Chasing else phase past) → phase (e ∷ past) ≡ Scanning → ⊥
    ended last is_now more = (let chasing : phase (e ∷ past) ≡ Chasing = is_now ∙ ap (λ b. if b then Chasing else phase past) last in cc)

-- records that are handed out are redone
known_fetch : (o : Opening) (past : List Entry) (e : Entry) (s : Started) (table : List ℕ) (key : List Value) (t : Fetching o past e) → started (e ∷ past) ≡ Some s → IsOf s table → s.mark ≤ position o past → position o past ≤ length (log_of o past) → IsKnown o past s table key → IsKnown o (e ∷ past) s table key
unfolding copied_by effect
known_fetch o past e s table key t now of behind read (reads_on scanning r) = absurd (not_scanning (phase past) t.scanned scanning)
  where
    not_scanning : (at : Phase) → (at ≡ Chasing) ⊎ (at ≡ Draining) → at ≡ Scanning → ⊥
    not_scanning at (inl x) y = cc
    not_scanning at (inr x) y = cc
known_fetch o past e s table key t now of behind read (reads_done scanned c) =
    let log = log_of o past in
    let pos = position o past in
    let same_log = log-fetched o past e t.place t.told in
    let to = position_by o past e (Fetches t.place) t.told in
    let up_to = t.up_to in
    let reaches : pos ≤ t.place = (let l = min-or (pos + t.size) (length log) in elim l [ inl x ↦ omega arith | inr x ↦ omega arith ]) in
    let within : t.place ≤ length log = (let l = min-le_right (pos + t.size) (length log) in omega arith) in
    let p = parted log pos t.place reaches within in
    let long = oldest_length pos log read in
    reads_done (λ more. scanned (sym (phase_by past e (Fetches t.place) t.told) ∙ more)) (record {
      place = c.place;
      from_mark = c.from_mark;
      until_end = (let h = c.until_end in let same_end = end_same in omega arith);
      end_within = (let h = c.end_within in let same_end = end_same in let g : length (log_of o (e ∷ past)) ≡ length log = ap length same_log in omega arith);
      caught = side_first o past e s table key now of
          ∙ ap (λ answer. copied_by (log_of o (e ∷ past)) pos answer 0 table key (copy o past 0 key)) (t.answered ∙ ap (reply.Fetched pos) (sym up_to))
          ∙ ap (λ l. redone (oldest t.place l) pos table key (copy o past 0 key)) same_log
          ∙ ap (redone (oldest t.place log) pos table key) c.caught
          ∙ ap (λ l. redone l pos table key (redone (oldest pos log) s.mark table key (state_at_place log c.place table key))) p.is
          ∙ ap (λ n. redone (p.newer ++ oldest pos log) n table key (redone (oldest pos log) s.mark table key (state_at_place log c.place table key))) (sym long)
          ∙ redone_parts p.newer (oldest pos log) s.mark table key (state_at_place log c.place table key) (omega arith)
          ∙ ap (λ l. redone l s.mark table key (state_at_place log c.place table key)) (sym p.is)
          ∙ sym (ap (λ l. redone (oldest (position o (e ∷ past)) l) s.mark table key (state_at_place l c.place table key)) same_log ∙ ap (λ n. redone (oldest n log) s.mark table key (state_at_place log c.place table key)) to);
    })
  where
    end_same : scan_end o (e ∷ past) ≡ scan_end o past
    end_same = ap (λ answer. scan_end_after (length (log_of o (e ∷ past))) answer (scan_end o past)) t.answered ∙ unended
      where
        unended : scan_end_after (length (log_of o (e ∷ past))) (reply.Fetched (position o past) (min (position o past + t.size) (length (log_of o past)))) (scan_end o past) ≡ scan_end o past
        unended = fetched_end (length (log_of o (e ∷ past))) (position o past) (min (position o past + t.size) (length (log_of o past))) (scan_end o past)

marks : (a b : Started) → Some a ≡ Some b → a.mark ≡ b.mark
marks a b e = (let same : a ≡ b = cc in ap (λ (s : Started). s.mark) same)

unstarted : {is now : Option Started} {s : Started} → is ≡ None → now ≡ is → now ≡ Some s → ⊥
unstarted none same here = cc

not_scanned : (at : Phase) → (at ≡ Chasing) ⊎ (at ≡ Draining) → at ≡ Scanning → ⊥
not_scanned at (inl x) y = cc
not_scanned at (inr x) y = cc

drained : (drain : Bool) {at now : Phase} → now ≡ (if drain then Draining else at) → (at ≡ Scanning → ⊥) → now ≡ Scanning → ⊥
drained true is undone more = cc
drained false is undone more = undone (sym is ∙ more)

-- an entry with an effect that leaves the copy, and whose record, if it makes one, is this
still : (o : Opening) (past : List Entry) (e : Entry) (s : Started) (table : List ℕ) (key : List Value) (f : Effect) → Leaves f → effect e.reply ≡ f → started (e ∷ past) ≡ Some s → IsOf s table → (started past ≡ Some s → IsKnown o past s table key)
    → UnderWay o.catalog (phase past) (started past) (position o past) (length (log_of o past)) ⊎ (started past ≡ None) → (item : Option Rec) → log_of o (e ∷ past) ≡ option_to_list item ++ log_of o past
    → started_by e.event f (started past) ≡ started past → phase_after (started past) f (phase past) ≡ phase past → seen_after f (seen past) ≡ seen past → position_after (length (log_of o (e ∷ past))) f (position o past) ≡ position o past → IsKnown o (e ∷ past) s table key
still o past e s table key f leaves told now of earlier far item log this at saw place = by far
  where
    is : started past ≡ Some s
    is = sym (started_is past e f told ∙ this) ∙ now

    phase_is : phase (e ∷ past) ≡ phase past
    phase_is = phase_by past e f told ∙ at

    step : position o past ≤ length (log_of o past) → IsKnown o (e ∷ past) s table key
    step within =
        known_left o past e s table key item log (left_copy o past e s table key f told leaves now of) (seen_by past e f told ∙ saw) (position_by o past e f told ∙ place) (end_by o past e f told leaves) within
        (λ scanning. phase_is ∙ scanning) (λ undone more. undone (sym phase_is ∙ more)) (earlier is)

    by : UnderWay o.catalog (phase past) (started past) (position o past) (length (log_of o past)) ⊎ (started past ≡ None) → IsKnown o (e ∷ past) s table key
    by (inl u) = step u.read
    by (inr none) = absurd (let gone : None ≡ Some s = sym none ∙ is in cc)

-- what an entry leaves of all that
known_step : (o : Opening) (past : List Entry) (e : Entry) (s : Started) (table : List ℕ) (key : List Value) → Legal o (e ∷ past) → started (e ∷ past) ≡ Some s → IsOf s table → (started past ≡ Some s → IsKnown o past s table key) → UnderWay o.catalog (phase past) (started past) (position o past) (length (log_of o past)) ⊎ (started past ≡ None) → Outcome o past e → IsKnown o (e ∷ past) s table key
known_step o past e s table key legal now of earlier far (starts t) = known_start o past e s table key (next_lsn o past) t.told now of
known_step o past e s table key legal now of earlier far (rests told) = still o past e s table key Nothing tt told now of earlier far None (log-quiet o past e told) refl refl refl refl
known_step o past e s table key legal now of earlier far (begins b) = still o past e s table key (Begins (begun past + 1)) tt b.told now of earlier far None (log-begun o past e (begun past + 1) b.told) refl refl refl refl
known_step o past e s table key legal now of earlier far (reads r) = still o past e s table key Reads tt r.told now of earlier far None (log-read o past e r.told) refl refl refl refl
known_step o past e s table key legal now of earlier far (writes w) = still o past e s table key Writes tt w.told now of earlier far (Some _) (log-written o past e w) refl refl refl refl
known_step o past e s table key legal now of earlier far (commits c) = still o past e s table key Commits tt c.told now of earlier far (Some _) (log-committed o past e c) refl refl refl refl
known_step o past e s table key legal now of earlier far (undoes u) =
    let w = (subst (AreWritesOf (log_of o past) u.txn) u.left (writes_are u.txn (log_of o past))).0 in
    still o past e s table key Undoes tt u.told now of earlier far (Some _) (log-undone o past e u ∙ undone_log (row_in o past (log_of o past)) (log_of o past) u.txn u.lsn w) refl refl refl refl
known_step o past e s table key legal now of earlier far (aborts a) = still o past e s table key Aborts tt a.told now of earlier far (Some _) (log-aborted o past e a) refl refl refl refl
known_step o past e s table key legal now of earlier (inr none) (sees t) = absurd (unstarted none (started_is past e (Sees t.lsns t.last) t.told) now)
known_step o past e s table key legal now of earlier (inl u) (sees t) =
    let is : started past ≡ Some s = sym (started_is past e (Sees t.lsns t.last) t.told) ∙ now in
    let same = marks u.s s (sym u.this ∙ is) in
    known_turn o past e s table key t is now of (u.scans t.turn.scanning ∙ same) (earlier is)
known_step o past e s table key legal now of earlier (inr none) (fetches t) = absurd (unstarted none (started_is past e (Fetches t.place) t.told) now)
known_step o past e s table key legal now of earlier (inl u) (fetches t) =
    let is : started past ≡ Some s = sym (started_is past e (Fetches t.place) t.told) ∙ now in
    let same = marks u.s s (sym u.this ∙ is) in
    known_fetch o past e s table key t now of (let h = u.behind in omega arith) u.read (earlier is)
known_step o past e s table key legal now of earlier (inr none) (conflicts a told) = absurd (unstarted none (started_is past e Conflicts told) now)
known_step o past e s table key legal now of earlier (inl u) (conflicts a told) =
    let is : started past ≡ Some s = sym (started_is past e Conflicts told) ∙ now in
    known_left o past e s table key None (log-conflict o past e told) (left_copy o past e s table key Conflicts told tt now of) (seen_by past e Conflicts told) (position_by o past e Conflicts told) (end_by o past e Conflicts told tt) u.read
    (λ scanning. absurd (not_scanned (phase past) a.scanned scanning)) (λ undone more. drained (drains (started past)) (phase_by past e Conflicts told) undone more) (earlier is)
known_step o past e s table key legal now of earlier (inr none) (switches w) = absurd (unstarted none (started_is past e Switches w.told) now)
known_step o past e s table key legal now of earlier (inl u) (switches w) =
    let is : started past ≡ Some s = sym (started_is past e Switches w.told) ∙ now in
    known_left o past e s table key (Some _) (log-switched o past e w.told) (left_copy o past e s table key Switches w.told tt now of) (seen_by past e Switches w.told) (position_by o past e Switches w.told) (end_by o past e Switches w.told tt) u.read
    (λ scanning. absurd (not_scanned (phase past) w.attempt.scanned scanning)) (λ undone more. let at : phase (e ∷ past) ≡ Done = phase_by past e Switches w.told in cc) (earlier is)

-- in a legal journal
known_all : (o : Opening) (past : List Entry) (s : Started) (table : List ℕ) (key : List Value) → Legal o past → started past ≡ Some s → IsOf s table → IsKnown o past s table key
known_all o [] s table key legal is of = absurd (cc)
known_all o (e ∷ past) s table key legal is of = known_step o past e s table key legal is of (λ same. known_all o past s table key legal.0 same of) (far (legal_progress o past legal.0)) (outcome o past e legal)
  where
    far : Progress o.catalog (phase past) (started past) (position o past) (length (log_of o past)) → UnderWay o.catalog (phase past) (started past) (position o past) (length (log_of o past)) ⊎ (started past ≡ None)
    far (before idle none) = inr none
    far (under_way u) = inl u

-- the source of a horizontal split
pub one_source : (spec : Spec) → IsShaped spec → (table : List ℕ) × (sources_of spec ≡ table ∷ [])
one_source (Part table tests passing failing) shaped = (table, refl)
one_source (Join left right on_left on_right into) shaped = absurd shaped
one_source (Split table by dep rest dependent) shaped = absurd shaped
one_source (Union left right into) shaped = absurd shaped

-- once the scan has ended
pub caught_up : (o : Opening) (past : List Entry) (s : Started) (table : List ℕ) (key : List Value) → Legal o past → started past ≡ Some s → sources_of s.spec ≡ table ∷ [] → (phase past ≡ Scanning → ⊥) → IsCaught o past s.mark table key
caught_up o past s table key legal is one scanned = by (known_all o past s table key legal is (record { one = one }))
  where
    by : IsKnown o past s table key → IsCaught o past s.mark table key
    by (reads_on scanning r) = absurd (scanned scanning)
    by (reads_done done c) = c

-- the state of a place, and the records behind it up to another one, give the state there
pub caught_state : (log : List Rec) (mark place to : ℕ) (table : List ℕ) (key : List Value) → mark ≤ place → place ≤ to → to ≤ length log → KeepsSince mark log table key → redone (oldest to log) mark table key (state_at_place log place table key) ≡ state_at_place log to table key
caught_state log mark place to table key from until within keeps =
    let p = parted log place to until within in
    let long = oldest_length place log (omega arith) in
    let kept : KeepsSince mark (p.newer ++ oldest place log) table key = subst (λ l. KeepsSince mark l table key) p.is (keeps_drop mark (length log - to) log table key keeps) in
    ap (λ l. redone l mark table key (state_at_place log place table key)) p.is ∙ converges p.newer (oldest place log) mark table key (omega arith) kept ∙ ap (λ l. state_at l table key) (sym p.is)

-- the Mark stands behind the loaded rows
marked_behind : (o : Opening) (past : List Entry) (s : Started) → Legal o past → started past ≡ Some s → length o.loads ≤ s.mark
marked_behind o [] s legal is = absurd (cc)
marked_behind o (e ∷ past) s legal is = by (effect e.reply) refl (outcome o past e legal) (λ same. marked_behind o past s legal.0 same)
  where
    long : length o.loads ≤ length (log_of o past)
    long = loads_first past
      where
        loads_first : (some : List Entry) → length o.loads ≤ length (log_of o some)
        loads_first [] = omega arith
        loads_first (x ∷ some) = (let rest = loads_first some in let more = log_never_shrinks o some x in omega arith)

    kept : (f : Effect) → effect e.reply ≡ f → started_by e.event f (started past) ≡ started past → (started past ≡ Some s → length o.loads ≤ s.mark) → length o.loads ≤ s.mark
    kept f told same earlier = earlier (sym (started_is past e f told ∙ same) ∙ is)

    by : (f : Effect) → effect e.reply ≡ f → Outcome o past e → (started past ≡ Some s → length o.loads ≤ s.mark) → length o.loads ≤ s.mark
    by f told (starts t) earlier =
        let this : Some (record { spec = t.spec; strategy = Blocking; mark = next_lsn o past }) ≡ Some s = sym (started_is past e (Starts (next_lsn o past)) t.told ∙ ap (λ asked. started_by asked (Starts (next_lsn o past)) (started past)) t.asked) ∙ is in
        let mark = marks (record { spec = t.spec; strategy = Blocking; mark = next_lsn o past }) s this in
        let l = long in
        omega arith
    by f told (rests t) earlier = kept Nothing t refl earlier
    by f told (begins b) earlier = kept (Begins (begun past + 1)) b.told refl earlier
    by f told (reads r) earlier = kept Reads r.told refl earlier
    by f told (writes w) earlier = kept Writes w.told refl earlier
    by f told (commits c) earlier = kept Commits c.told refl earlier
    by f told (undoes u) earlier = kept Undoes u.told refl earlier
    by f told (aborts a) earlier = kept Aborts a.told refl earlier
    by f told (sees t) earlier = kept (Sees t.lsns t.last) t.told refl earlier
    by f told (fetches t) earlier = kept (Fetches t.place) t.told refl earlier
    by f told (conflicts a t) earlier = kept Conflicts t refl earlier
    by f told (switches w) earlier = kept Switches w.told refl earlier

-- convergence: once the scan has ended and the position has come to where it ended, the copy is the state of the source at the position
pub converged : (o : Opening) (past : List Entry) (s : Started) (table : List ℕ) (key : List Value) → Legal o past → started past ≡ Some s → sources_of s.spec ≡ table ∷ [] → IsSome (declared_as o.catalog table) → (phase past ≡ Scanning → ⊥) → scan_end o past ≤ position o past → position o past ≤ length (log_of o past)
    → copy o past 0 key ≡ state_at_place (log_of o past) (position o past) table key
converged o past s table key legal is one declared scanned read within =
    let c = caught_up o past s table key legal is one scanned in
    let keeps = keeps_later (length o.loads) s.mark (log_of o past) table key (marked_behind o past s legal is) (keeps_since o past table key legal declared) in
    c.caught ∙ caught_state (log_of o past) s.mark c.place (position o past) table key c.from_mark (let h = c.until_end in omega arith) within keeps

-- and so it is once the records behind the position are redone
pub redone_now : (o : Opening) (past : List Entry) (s : Started) (table : List ℕ) (key : List Value) → Legal o past → started past ≡ Some s → sources_of s.spec ≡ table ∷ [] → IsSome (declared_as o.catalog table) → (phase past ≡ Scanning → ⊥) → s.mark ≤ position o past → position o past ≤ length (log_of o past)
    → redone (log_of o past) (position o past) table key (copy o past 0 key) ≡ state_at (log_of o past) table key
redone_now o past s table key legal is one declared scanned behind within =
    let log = log_of o past in
    let c = caught_up o past s table key legal is one scanned in
    let p = parted log (position o past) (length log) within (omega arith) in
    let long = oldest_length (position o past) log within in
    let whole : oldest (length log) log ≡ log = oldest_all log in
    let parts : log ≡ p.newer ++ oldest (position o past) log = sym whole ∙ p.is in
    let keeps = keeps_later (length o.loads) s.mark log table key (marked_behind o past s legal is) (keeps_since o past table key legal declared) in
    ap (redone log (position o past) table key) c.caught
    ∙ ap (λ l. redone l (position o past) table key (redone (oldest (position o past) log) s.mark table key (state_at_place log c.place table key))) parts
    ∙ ap (λ n. redone (p.newer ++ oldest (position o past) log) n table key (redone (oldest (position o past) log) s.mark table key (state_at_place log c.place table key))) (sym long)
    ∙ redone_parts p.newer (oldest (position o past) log) s.mark table key (state_at_place log c.place table key) (omega arith)
    ∙ ap (λ l. redone l s.mark table key (state_at_place log c.place table key)) (sym parts ∙ sym whole)
    ∙ caught_state log s.mark c.place (length log) table key c.from_mark (let h = c.until_end in let g = c.end_within in omega arith) (omega arith) keeps
    ∙ ap (λ l. state_at l table key) whole
