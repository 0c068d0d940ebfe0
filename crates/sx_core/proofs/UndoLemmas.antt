-- An undo finds its write, and what the write found can be put back.
use Rattle.std.proofs.Common.{◌≡◌, ◌∷◌, [], ℕ, List, map, Option, Some, None, IfSome, IsSomeAnd, ◌++◌, ◌⊎◌, inl, inr, sym, ap, ◌∙◌, subst}
use Rattle.sx_lists.specs.Places.{numbered}
use Rattle.sx_values.specs.declared.value.Value.{Value}
use Rattle.sx_values.specs.Layouts.{Layout}
use Rattle.sx_values.specs.Catalogs.{schema_of}
use Rattle.sx_log.specs.declared.record.Rec.{Rec}
use Rattle.sx_log.specs.declared.record.Body.TheVariants.{Write}
use Rattle.sx_log.specs.Images.{FitsImages, FitsTables}
use Rattle.sx_log.specs.Undoing.{writes_left}
use Rattle.sx_txn.specs.Managed.{Managed, Shape, schema_in}
use Rattle.sx_txn.specs.Turns.{CanUndo, CanUndoLast}
use Rattle.sx_txn.specs.Writes.{first_of}
use Rattle.sx_journal.specs.declared.entry.Entry.{Entry}
use Rattle.sx_sync.specs.declared.Phase.TheVariants.{Done}
use Rattle.sx_model.specs.Openings.{Opening}
use Rattle.sx_model.specs.Leaves.{phase, started}
use Rattle.sx_model.specs.Logs.{log_of}
use Rattle.sx_model.specs.Legal.{Legal}
use Rattle.sx_model.specs.Known.{adopted, new_tables, named_in, known}
use Rattle.sx_model.proofs.ImageLaws.{AllFit, numbered_fits}
use Rattle.sx_model.proofs.FitLaws.{is_done, declared_fit, images_fit}
use Rattle.sx_model.proofs.LeftLaws.{IsWriteOf, AreWritesOf, writes_are}
use Rattle.sx_core.specs.Kept.{ManagerMeets, shown_in, shown_now}
use Rattle.sx_core.proofs.ClientLemmas.{none_shown, schema_shape}

-- the image before, of a table that is there
before_fits : (log : List Rec) (shapes : List Shape) (txn lsn : ℕ) (table : List ℕ) (key : List Value) (before after : Option (List Value)) (layout : Option Layout) → numbered log lsn ≡ Some (record { txn = txn; body = Write table key before after })
    → schema_in shapes table ≡ layout → IsSomeAnd layout (λ l. FitsImages l key before after) → CanUndo log shapes txn lsn
before_fits log shapes txn lsn table key before after None is there fits = absurd fits
before_fits log shapes txn lsn table key before after (Some l) is there fits =
    record { table = table; key = key; before = before; after = after; is = is; layout = l; there = there; fits = fits.0 }

-- a write of a log whose records fit
write_undone : (schema : List ℕ → Option Layout) (log : List Rec) (shapes : List Shape) (txn lsn : ℕ) → AllFit schema log → ((table : List ℕ) → schema_in shapes table ≡ schema table) → IsWriteOf log txn lsn → CanUndo log shapes txn lsn
unfolding FitsTables
write_undone schema log shapes txn lsn all same w =
    before_fits log shapes txn lsn w.table w.key w.before w.after (schema w.table) w.is (same w.table)
    (numbered_fits schema log lsn (record { txn = txn; body = Write w.table w.key w.before w.after }) all w.is)

-- the first of several writes
first_undone : (schema : List ℕ → Option Layout) (log : List Rec) (shapes : List Shape) (txn : ℕ) (left : List ℕ) → AllFit schema log → ((table : List ℕ) → schema_in shapes table ≡ schema table) → AreWritesOf log txn left → IfSome (first_of left) (CanUndo log shapes txn)
first_undone schema log shapes txn [] all same are = tt
first_undone schema log shapes txn (lsn ∷ left) all same are = write_undone schema log shapes txn lsn all same are.0

-- a table on which there is a record is one of the manager's
recorded : (o : Opening) (past : List Entry) → AllFit (schema_of o.catalog) o.loads → Legal o past → AllFit (schema_of (o.catalog ++ shown_now o past)) (log_of o past)
recorded o past loads legal = by (is_done (phase past))
  where
    by : (phase past ≡ Done) ⊎ (phase past ≡ Done → ⊥) → AllFit (schema_of (o.catalog ++ shown_now o past)) (log_of o past)
    by (inl done) =
        let same : known o past ≡ o.catalog ++ shown_now o past = ap (λ at. o.catalog ++ map adopted (named_in at (new_tables o.catalog (started past)))) done ∙ sym (ap (λ at. o.catalog ++ map adopted (shown_in at (new_tables o.catalog (started past)))) done) in
        subst (λ l. AllFit (schema_of l) (log_of o past)) same (images_fit o past loads legal)
    by (inr early) = subst (λ l. AllFit (schema_of l) (log_of o past)) (sym (none_shown o past early)) (declared_fit o past loads legal early)

-- what the manager asks of an undo
pub can_undo : (o : Opening) (past : List Entry) (m : Managed) (txn : ℕ) → AllFit (schema_of o.catalog) o.loads → Legal o past → ManagerMeets o past m → CanUndoLast m txn
can_undo o past m txn loads legal meets =
    let all = subst (AllFit (schema_of (o.catalog ++ shown_now o past))) (sym meets.log_is) (recorded o past loads legal) in
    first_undone (schema_of (o.catalog ++ shown_now o past)) m.log m.shapes txn (writes_left txn m.log) all
    (λ table. ap (λ shapes. schema_in shapes table) meets.shapes ∙ schema_shape (o.catalog ++ shown_now o past) table) (writes_are txn m.log)
