-- What keys have behind an entry: a record makes of it what it says, and the switch gives the new tables their rows.
use Rattle.std.proofs.Common.{◌≡◌, ◌+◌, ◌⊎◌, inl, inr, length, option_map, ℕ, true, false, List, [], ◌∷◌, Option, Some, None, IsSome, refl, sym, ap, ◌∙◌}
use Rattle.std.specs.List.{AllByRecursion}
use Rattle.std.specs.Option.{option_to_list}
use Rattle.sx_values.specs.declared.value.Value.{Value}
use Rattle.sx_values.specs.declared.catalog.Declared.{Declared}
use Rattle.sx_values.specs.Catalogs.{declared_as, schema_of}
use Rattle.sx_log.specs.declared.record.Rec.{Rec}
use Rattle.sx_log.specs.declared.record.Body.{Body}
use Rattle.sx_log.specs.declared.record.Body.TheVariants.{Switch}
use Rattle.sx_log.specs.State.{Stored, after_body, state_at}
use Rattle.sx_log.specs.Images.{FitsTables}
use Rattle.sx_ops.specs.Operators.{sources_of}
use Rattle.sx_ops.specs.Targets.{targets}
use Rattle.sx_sync.specs.declared.Phase.TheVariants.{Done}
use Rattle.sx_journal.specs.declared.entry.Entry.{Entry}
use Rattle.sx_model.specs.Effects.{Switches, effect}
use Rattle.sx_model.specs.Openings.{Opening}
use Rattle.sx_model.specs.LoadRecords.{IsOpened}
use Rattle.sx_model.specs.Leaves.{Started, started, phase}
use Rattle.sx_model.specs.Logs.{log_of, entry_record}
use Rattle.sx_model.specs.Scans.{is_about}
use Rattle.sx_model.specs.NewRows.{given, row_among, given_row, state_from, first_in, state_in}
use Rattle.sx_model.specs.Legal.{Legal}
use Rattle.sx_model.proofs.AllLaws.{all_each}
use Rattle.sx_model.proofs.Outcomes.{Outcome, outcome}
use Rattle.sx_model.proofs.EntryLaws.{log-switched}
use Rattle.sx_model.proofs.StateLaws.{after_elsewhere}
use Rattle.sx_model.proofs.ImageLaws.{AllFit}
use Rattle.sx_model.proofs.FitLaws.{phase_by, started_is, done_stays, is_done, fresh_fit}
use Rattle.sx_model.proofs.ListedLaws.{given_kept}
use Rattle.sx_model.proofs.LeftLaws.{is_silent}
use Rattle.sx_model.proofs.RestLaws.{declared_first, new_first}
use Rattle.sx_model.proofs.SoundJournals.{kept_first, added, stays_none, fits_elsewhere, note_elsewhere, legal_sound}

-- ** what a key has behind an entry **

-- behind each entry but the switch keys had the same before the log
pub firsts_keep : (o : Opening) (past : List Entry) (e : Entry) (table : List ℕ) (key : List Value) → IsOpened o → AllFit (schema_of o.catalog) o.loads → Legal o (e ∷ past) → (phase (e ∷ past) ≡ Done → phase past ≡ Done)
    → first_in o (e ∷ past) (log_of o (e ∷ past)) table key ≡ first_in o past (log_of o past) table key
firsts_keep o past e table key opened loads legal unless = sym (by (is_done (phase past)))
  where
    now : Outcome o past e
    now = outcome o past e legal

    by : (phase past ≡ Done) ⊎ (phase past ≡ Done → ⊥) → first_in o past (log_of o past) table key ≡ first_in o (e ∷ past) (log_of o (e ∷ past)) table key
    by (inl done) = kept_first o past e (log_of o past) (option_to_list (entry_record o past (log_of o past) e)) done (done_stays o past e done now) (added o past e legal.0 (legal_sound o past opened loads legal.0) done now) table key
    by (inr early) = stays_none o past e early (λ done. early (unless done)) table key

-- so a record makes of what a key has what it says
pub state_next : (o : Opening) (past : List Entry) (e : Entry) (r : Rec) (table : List ℕ) (key : List Value) → IsOpened o → AllFit (schema_of o.catalog) o.loads → Legal o (e ∷ past) → (phase (e ∷ past) ≡ Done → phase past ≡ Done)
    → log_of o (e ∷ past) ≡ r ∷ log_of o past → state_in o (e ∷ past) (log_of o (e ∷ past)) table key ≡ after_body (length (log_of o past) + 1) r.body table key (state_in o past (log_of o past) table key)
state_next o past e r table key opened loads legal unless grown =
    ap (λ first. state_from first (log_of o (e ∷ past)) table key) (firsts_keep o past e table key opened loads legal unless)
    ∙ ap (λ log. state_from (first_in o past (log_of o past) table key) log table key) grown

-- and without a record it stays
pub state_same : (o : Opening) (past : List Entry) (e : Entry) (table : List ℕ) (key : List Value) → IsOpened o → AllFit (schema_of o.catalog) o.loads → Legal o (e ∷ past) → (phase (e ∷ past) ≡ Done → phase past ≡ Done)
    → log_of o (e ∷ past) ≡ log_of o past → state_in o (e ∷ past) (log_of o (e ∷ past)) table key ≡ state_in o past (log_of o past) table key
state_same o past e table key opened loads legal unless same =
    ap (λ first. state_from first (log_of o (e ∷ past)) table key) (firsts_keep o past e table key opened loads legal unless)
    ∙ ap (λ log. state_from (first_in o past (log_of o past) table key) log table key) same

-- ** what the switch gives **

-- a declared table keeps what it has
pub declared_kept : (o : Opening) (past : List Entry) (e : Entry) (table : List ℕ) (key : List Value) → effect e.reply ≡ Switches → IsSome (declared_as o.catalog table)
    → state_in o (e ∷ past) (log_of o (e ∷ past)) table key ≡ state_in o past (log_of o past) table key
unfolding after_body
declared_kept o past e table key told there = by (declared_as o.catalog table) refl there
  where
    by : (found : Option Declared) → declared_as o.catalog table ≡ found → IsSome found → state_in o (e ∷ past) (log_of o (e ∷ past)) table key ≡ state_in o past (log_of o past) table key
    by None is some = absurd (cc)
    by (Some d) is some =
        ap (λ first. state_from first (log_of o (e ∷ past)) table key) (declared_first o (e ∷ past) (log_of o (e ∷ past)) table key there)
        ∙ ap (λ log. state_from None log table key) (log-switched o past e told)
        ∙ sym (ap (λ first. state_from first (log_of o past) table key) (declared_first o past (log_of o past) table key there))

silent : is_silent Switch ≡ true
unfolding is_silent
silent = refl

-- a new table has what the transformation gives on the rows of the sources
pub switched_state : (o : Opening) (past : List Entry) (e : Entry) (s : Started) (table : List ℕ) (key : List Value) → AllFit (schema_of o.catalog) o.loads → Legal o (e ∷ past) → effect e.reply ≡ Switches → started past ≡ Some s → (phase past ≡ Done → ⊥) → declared_as o.catalog table ≡ None
    → state_in o (e ∷ past) (log_of o (e ∷ past)) table key ≡ given_row o.catalog (log_of o past) (Some s) table key
switched_state o past e s table key loads legal told is early none =
    ap (λ first. state_from first (log_of o (e ∷ past)) table key) (new_first o (e ∷ past) (log_of o (e ∷ past)) s table key (phase_by past e Switches told) (started_is past e Switches told ∙ is) none)
    ∙ untouched_state (given_row o.catalog (log_of o (e ∷ past)) (Some s) table key) (log_of o (e ∷ past))
    (all_each (λ (r : Rec). FitsTables (schema_of o.catalog) r.body) (λ (r : Rec). is_about r.body table key ≡ false) (λ r fits. fits_elsewhere o.catalog r.body table key none fits) (log_of o (e ∷ past)) (fresh_fit o past e loads legal early))
    ∙ ap (λ lists. option_map (λ row. (row, 0)) (row_among (targets o.catalog s.spec) lists table key))
    (ap (λ log. given o.catalog log s.spec) (log-switched o past e told) ∙ given_kept o.catalog (record { txn = 0; body = Switch }) (log_of o past) s.spec (note_elsewhere (sources_of s.spec) Switch silent))
  where
    elsewhere : (n : ℕ) (body : Body) (earlier : Option Stored) → is_about body table key ≡ false → after_body n body table key earlier ≡ earlier
    elsewhere n body earlier away = after_elsewhere n body table key earlier away

    untouched_state : (first : Option Stored) (log : List Rec) → AllByRecursion (λ (r : Rec). is_about r.body table key ≡ false) log → state_from first log table key ≡ first
    untouched_state first [] all = refl
    untouched_state first (r ∷ log) all = elsewhere (length log + 1) r.body (state_from first log table key) all.0 ∙ untouched_state first log all.1

-- from nothing the log alone makes the state
pub from_none : (log : List Rec) (table : List ℕ) (key : List Value) → state_from None log table key ≡ state_at log table key
from_none [] table key = refl
from_none (r ∷ log) table key = ap (after_body (length log + 1) r.body table key) (from_none log table key)

-- a declared table has what the log leaves
pub declared_state : (o : Opening) (past : List Entry) (table : List ℕ) (key : List Value) → IsSome (declared_as o.catalog table) → state_in o past (log_of o past) table key ≡ state_at (log_of o past) table key
declared_state o past table key there = ap (λ first. state_from first (log_of o past) table key) (declared_first o past (log_of o past) table key there) ∙ from_none (log_of o past) table key
