-- In a legal journal each image of a record is a row that its table admits, of the record's key.
use Rattle.std.proofs.Common.{◌≡◌, ◌++◌, ◌+◌, ◌∷◌, [], ℕ, length, List, Bool, true, false, cond, Option, Some, None, IsSomeAnd, option_map, refl, subst}
use Rattle.std.specs.Bool.{◌==◌}
use Rattle.std.specs.Option.{option_to_list}
use Rattle.std.specs.Cmp.{Equal-is}
use Rattle.std.specs.List.{AllByRecursion}
use Rattle.std.proofs.lemmas.Bool.{and_parts}
use Rattle.sx_values.specs.declared.value.Value.{Value}
use Rattle.sx_values.specs.Names.{same_name}
use Rattle.sx_values.specs.Values.{values_cmp, values_eq}
use Rattle.sx_values.specs.Layouts.{Layout}
use Rattle.sx_values.proofs.KeyLaws.{same_name_tells, values_tie}
use Rattle.sx_log.specs.declared.record.Rec.{Rec}
use Rattle.sx_log.specs.declared.record.Body.{Body}
use Rattle.sx_log.specs.declared.record.Body.TheVariants.{Write, Undo, Commit, Abort, Mark, Check, Switch}
use Rattle.sx_log.specs.Images.{FitsImage, FitsImages, FitsTables}
use Rattle.sx_lists.specs.Places.{numbered}
use Rattle.sx_journal.specs.declared.entry.Entry.{Entry}
use Rattle.sx_model.specs.Openings.{Opening}
use Rattle.sx_model.specs.Leaves.{begun}
use Rattle.sx_model.specs.Logs.{log_of, next_lsn}
use Rattle.sx_model.specs.NewRows.{Firsts, state_from, row_from, first_in}
use Rattle.sx_model.proofs.Outcomes.{Written, Outcome, rests, begins, reads, writes, commits, undoes, aborts, starts, sees, fetches, conflicts, switches}
use Rattle.sx_model.proofs.EntryLaws.{log-quiet, log-read, log-begun, log-conflict, log-written, log-committed, log-undone, log-aborted, log-started, log-switched, log-saw, log-fetched}
use Rattle.sx_log.specs.Undoing.{undo_at, undo_of}
use Rattle.sx_log.specs.State.{Stored, after_body, stored, is_place}

-- each record of a log fits
abbrev pub AllFit : (List ℕ → Option Layout) → List Rec → Type 0
AllFit schema log = AllByRecursion (λ (r : Rec). FitsTables schema r.body) log

-- what the state has for a key, if anything, fits its table
abbrev pub StateFits : (List ℕ → Option Layout) → List ℕ → List Value → Option Stored → Type 0
StateFits schema table key None = Unit {0}
StateFits schema table key (Some s) = IsSomeAnd (schema table) (λ layout. FitsImage layout key (Some s.0))

image_state : (schema : List ℕ → Option Layout) (table : List ℕ) (key : List Value) (lsn : ℕ) (after : Option (List Value)) → IsSomeAnd (schema table) (λ layout. FitsImage layout key after) → StateFits schema table key (stored lsn after)
image_state schema table key lsn None fits = tt
image_state schema table key lsn (Some row) fits = fits

later_image : (layout : Option Layout) (key : List Value) (before after : Option (List Value)) → IsSomeAnd layout (λ l. FitsImages l key before after) → IsSomeAnd layout (λ l. FitsImage l key after)
later_image None key before after fits = fits
later_image (Some l) key before after fits = fits.1

same_place : (written : List ℕ) (at : List Value) (table : List ℕ) (key : List Value) → is_place written at table key ≡ true → (written ≡ table) × (at ≡ key)
same_place written at table key e =
    let parts = and_parts (same_name written table) (values_eq at key) e in
    (same_name_tells written table parts.0, values_tie at key ((Equal-is (values_cmp at key)).0 parts.1))

changed_state : (schema : List ℕ → Option Layout) (written : List ℕ) (at : List Value) (before after : Option (List Value)) (lsn : ℕ) (table : List ℕ) (key : List Value) (earlier : Option Stored) → IsSomeAnd (schema written) (λ layout. FitsImages layout at before after)
    → StateFits schema table key earlier → StateFits schema table key (cond (is_place written at table key) (stored lsn after) earlier)
changed_state schema written at before after lsn table key earlier fits rest = by (is_place written at table key) refl
  where
    by : (b : Bool) → is_place written at table key ≡ b → StateFits schema table key (cond b (stored lsn after) earlier)
    by false e = rest
    by true e =
        let same = same_place written at table key e in
        let here = later_image (schema written) at before after fits in
        image_state schema table key lsn after (subst (λ k. IsSomeAnd (schema table) (λ layout. FitsImage layout k after)) same.1 (subst (λ n. IsSomeAnd (schema n) (λ layout. FitsImage layout at after)) same.0 here))

record_state : (schema : List ℕ → Option Layout) (body : Body) (lsn : ℕ) (table : List ℕ) (key : List Value) (earlier : Option Stored) → FitsTables schema body → StateFits schema table key earlier → StateFits schema table key (after_body lsn body table key earlier)
unfolding FitsTables after_body
record_state schema (Write written at before after) lsn table key earlier fits rest = changed_state schema written at before after lsn table key earlier fits rest
record_state schema (Undo lsn_of written at before after) lsn table key earlier fits rest = changed_state schema written at before after lsn table key earlier fits rest
record_state schema Commit lsn table key earlier fits rest = rest
record_state schema Abort lsn table key earlier fits rest = rest
record_state schema Mark lsn table key earlier fits rest = rest
record_state schema (Check group dep) lsn table key earlier fits rest = rest
record_state schema Switch lsn table key earlier fits rest = rest

-- what keys had before the log fits their tables
abbrev pub FirstsFit : (List ℕ → Option Layout) → Firsts → Type 0
FirstsFit schema f = (table : List ℕ) (key : List Value) → StateFits schema table key (f table key)

-- and so does what a log of records that fit leaves
state_fits : (schema : List ℕ → Option Layout) (first : Option Stored) (log : List Rec) (table : List ℕ) (key : List Value) → StateFits schema table key first → AllFit schema log → StateFits schema table key (state_from first log table key)
state_fits schema first [] table key fits all = fits
state_fits schema first (r ∷ past) table key fits all = record_state schema r.body _ table key (state_from first past table key) all.0 (state_fits schema first past table key fits all.1)

left_of : (schema : List ℕ → Option Layout) (table : List ℕ) (key : List Value) (known : Option Stored) (layout : Layout) → schema table ≡ Some layout → StateFits schema table key known → FitsImage layout key (option_map (λ (s : Stored). s.0) known)
left_of schema table key None layout is fits = tt
left_of schema table key (Some s) layout is fits = subst (λ o. IsSomeAnd o (λ l. FitsImage l key (Some s.0))) is fits

-- the row that it leaves at a key fits
pub row_fits : (schema : List ℕ → Option Layout) (f : Firsts) (log : List Rec) (table : List ℕ) (key : List Value) (layout : Layout) → FirstsFit schema f → AllFit schema log → schema table ≡ Some layout → FitsImage layout key (row_from f log table key)
row_fits schema f log table key layout firsts all is = left_of schema table key (state_from (f table key) log table key) layout is (state_fits schema (f table key) log table key (firsts table key) all)

-- ** over a journal **

-- the record at a place fits
pub numbered_fits : (schema : List ℕ → Option Layout) (log : List Rec) (lsn : ℕ) (r : Rec) → AllFit schema log → numbered log lsn ≡ Some r → FitsTables schema r.body
numbered_fits schema [] lsn r all is = absurd (cc)
numbered_fits schema (x ∷ past) lsn r all is = by (lsn == length past + 1) is (λ rest. numbered_fits schema past lsn r all.1 rest)
  where
    by : (b : Bool) → cond b (Some x) (numbered past lsn) ≡ Some r → (numbered past lsn ≡ Some r → FitsTables schema r.body) → FitsTables schema r.body
    by true here again = let same : x ≡ r = cc in subst (λ (y : Rec). FitsTables schema y.body) same all.0
    by false here again = again here

-- what undoes a write fits, as the write does
back_fits : (schema : List ℕ → Option Layout) (f : Firsts) (log : List Rec) (table : List ℕ) (key : List Value) (before after : Option (List Value)) (layout : Option Layout) → FirstsFit schema f → schema table ≡ layout → AllFit schema log → IsSomeAnd layout (λ l. FitsImages l key before after)
    → IsSomeAnd layout (λ l. FitsImages l key (row_from f log table key) before)
back_fits schema f log table key before after None firsts is all fits = fits
back_fits schema f log table key before after (Some l) firsts is all fits = (row_fits schema f log table key l firsts all is, fits.0)

undo_fits : (schema : List ℕ → Option Layout) (f : Firsts) (log : List Rec) (txn lsn : ℕ) (at : Option Rec) → FirstsFit schema f → AllFit schema log → ((r : Rec) → at ≡ Some r → FitsTables schema r.body) → AllFit schema (option_to_list (undo_at (row_from f log) txn lsn at) ++ log)
unfolding FitsTables undo_of
undo_fits schema f log txn lsn None firsts all each = all
undo_fits schema f log txn lsn (Some r) firsts all each = by r.body refl (each r refl)
  where
    by : (body : Body) → r.body ≡ body → FitsTables schema r.body → AllFit schema (option_to_list (undo_of (row_from f log) txn lsn r.body) ++ log)
    by (Write table key before after) is fits = rw is (back_fits schema f log table key before after (schema table) firsts refl all (subst (FitsTables schema) is fits), all)
    by (Undo lsn_of table key before after) is fits = rw is all
    by Commit is fits = rw is all
    by Abort is fits = rw is all
    by Mark is fits = rw is all
    by (Check group dep) is fits = rw is all
    by Switch is fits = rw is all

write_fits : (schema : List ℕ → Option Layout) (f : Firsts) (log : List Rec) (table : List ℕ) (key : List Value) (after : Option (List Value)) (layout : Option Layout) → FirstsFit schema f → schema table ≡ layout → AllFit schema log → IsSomeAnd layout (λ l. FitsImage l key after)
    → IsSomeAnd layout (λ l. FitsImages l key (row_from f log table key) after)
write_fits schema f log table key after None firsts is all fits = fits
write_fits schema f log table key after (Some l) firsts is all fits = (row_fits schema f log table key l firsts all is, fits)

-- each legal entry leaves a log of records that fit, where what it writes and what its keys had before the log do
pub fits_after : (o : Opening) (past : List Entry) (e : Entry) (schema : List ℕ → Option Layout) → AllFit schema (log_of o past) → FirstsFit schema (first_in o past (log_of o past)) → ((w : Written o past e) → IsSomeAnd (schema w.table) (λ l. FitsImage l w.key w.after)) → Outcome o past e → AllFit schema (log_of o (e ∷ past))
unfolding FitsTables
fits_after o past e schema all firsts fits (rests told) = rw (log-quiet o past e told) all
fits_after o past e schema all firsts fits (begins b) = rw (log-begun o past e (begun past + 1) b.told) all
fits_after o past e schema all firsts fits (reads r) = rw (log-read o past e r.told) all
fits_after o past e schema all firsts fits (writes w) = rw (log-written o past e w) (write_fits schema (first_in o past (log_of o past)) (log_of o past) w.table w.key w.after (schema w.table) firsts refl all (fits w), all)
fits_after o past e schema all firsts fits (commits c) = rw (log-committed o past e c) (tt, all)
fits_after o past e schema all firsts fits (undoes u) =
    rw (log-undone o past e u) (undo_fits schema (first_in o past (log_of o past)) (log_of o past) u.txn u.lsn (numbered (log_of o past) u.lsn) firsts all (λ r is. numbered_fits schema (log_of o past) u.lsn r all is))
fits_after o past e schema all firsts fits (aborts a) = rw (log-aborted o past e a) (tt, all)
fits_after o past e schema all firsts fits (starts t) = rw (log-started o past e (next_lsn o past) t.told) (tt, all)
fits_after o past e schema all firsts fits (sees t) = rw (log-saw o past e t.lsns t.last t.told) all
fits_after o past e schema all firsts fits (fetches t) = rw (log-fetched o past e t.place t.told) all
fits_after o past e schema all firsts fits (conflicts t told) = rw (log-conflict o past e told) all
fits_after o past e schema all firsts fits (switches w) = rw (log-switched o past e w.told) (tt, all)
