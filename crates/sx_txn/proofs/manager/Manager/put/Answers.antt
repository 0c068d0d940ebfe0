use Rattle.std.proofs.Common.{◌≡◌, ◌≤◌, ◌+◌, ◌∷◌, ◌∙◌, length, arith, ap, map, refl, sym, ℕ, subst, List, Some, None}
use Rattle.sx_txn.specs.declared.lives.Live.{Live}
use Rattle.sx_log.specs.declared.record.Rec.{Rec}
use Rattle.sx_txn.specs.Lives.{kept_all, with_write}
use Rattle.sx_locks.specs.declared.mode.Mode.TheVariants.{Exclusive}
use Rattle.sx_locks.specs.Locks.{AnswersAsk, IsLeastOther}
use Rattle.sx_txn.specs.Managed.{Managed}
use Rattle.sx_txn.specs.Patches.{Patched, PutsWhere}
use Rattle.sx_txn.proofs.ManagedLemmas.{length-kept}
use Rattle.sx_txn.proofs.PatchLemmas.{on_err}
use Rattle.sx_txn.proofs.EventLemmas.{managed-same, unchanged, tables_stay, same_locks-refl}
use Rattle.sx_txn.proofs.PutLemmas.{takes_patch, managed-written, written, seated}
use Rattle.sx_txn.proofs.manager.Manager.put.Goals as goal

pub put_locked-requires-clause-takes : goal.put_locked-requires-clause-takes
put_locked-requires-clause-takes c =
    let i = c.self.inside in
    takes_patch i.tables i.log i.locks (kept_all i.living.items) i.begun c.args.self.now c.args.patch c.self.view_is c.requires.can

pub returns-in_err-make_room-clause-err : goal.returns-in_err-make_room-clause-err
returns-in_err-make_room-clause-err c =
    let i = c.self.inside in
    let long : length c.make_room.new.living ≡ i.living.len = omega arith in
    let lives = seated i.living.len c.make_room.new.living _ long ∙ c.make_room.ensures.same ∙ ap kept_all c.deref_mut.ensures.value in
    on_err c.from_residual-in_err-make_room.result _
    (unchanged i.tables i.tables i.log c.make_room.new.log i.locks i.locks (kept_all i.living.items) _ i.begun c.args.self.now c.self.view_is refl (tables_stay i.tables.all) c.make_room.ensures.records (same_locks-refl i.locks) lives)

pub invariant_of-self-in_err-by : goal.invariant_of-self-in_err-by
invariant_of-self-in_err-by c =
    let i = c.self.inside in
    let long : length c.make_room.new.living ≡ i.living.len = omega arith in
    let lives = seated i.living.len c.make_room.new.living _ long ∙ c.make_room.ensures.same ∙ ap kept_all c.deref_mut.ensures.value in
    managed-same i.tables c.put_locked.new.tables i.log c.make_room.new.log (kept_all i.living.items) _ i.begun c.self.invariant (sym c.put_locked.ensures.own) c.in_err-by.ensures.same_rows c.make_room.ensures.records c.make_room.ensures.no_less lives

pub returns-in_err-by-clause-err : goal.returns-in_err-by-clause-err
returns-in_err-by-clause-err c =
    let i = c.self.inside in
    let long : length c.make_room.new.living ≡ i.living.len = omega arith in
    let lives = seated i.living.len c.make_room.new.living _ long ∙ c.make_room.ensures.same ∙ ap kept_all c.deref_mut.ensures.value in
    on_err c.from_residual-in_err-by.result _
    (unchanged i.tables c.put_locked.new.tables i.log c.make_room.new.log i.locks c.put_locked.new.locks (kept_all i.living.items) _ i.begun c.args.self.now c.self.view_is (sym c.put_locked.ensures.own) c.in_err-by.ensures.same_rows c.make_room.ensures.records c.in_err-by.ensures.same_locks lives)

pub invariant_of-self-in-Granted : goal.invariant_of-self-in-Granted
invariant_of-self-in-Granted c =
    let i = c.self.inside in
    let kept = kept_all i.living.items in
    let long : length c.make_room.new.living ≡ i.living.len = omega arith in
    let longer : length c.note_write.new.living ≡ i.living.len = omega arith in
    let room : length kept ≤ c.append.new.self.spare = omega (arith, c.in_ok-make_room.ensures.room, length-kept i.living.items) in
    let room_lives = seated i.living.len c.make_room.new.living _ long ∙ c.make_room.ensures.same ∙ ap kept_all c.deref_mut.ensures.value in
    let lsn = c.next_lsn-lsn.ensures ∙ ap (λ (l : List Rec). length l + 1) c.make_room.ensures.records in
    let lives = seated i.living.len c.note_write.new.living _ longer ∙ c.note_write.ensures ∙ ap (λ (l : List Live). map (with_write c.args.txn c.next_lsn-lsn.result) (kept_all l)) c.deref_mut-in-Granted.ensures.value
    ∙ ap (map (with_write c.args.txn c.next_lsn-lsn.result)) room_lives ∙ ap (λ (n : ℕ). map (with_write c.args.txn n) kept) lsn in
    let newest = c.append.ensures.item ∙ ap (λ (l : List Rec). c.into_write.result ∷ l) c.make_room.ensures.records ∙ ap (λ (r : Rec). r ∷ i.log.newest) c.into_write.ensures in
    let puts = subst (PutsWhere i.tables.all c.put_locked.new.tables.all c.args.patch c.next_lsn-lsn.result) c.in-Granted.is c.in_ok-by.ensures.rows in
    let patched = subst (λ (n : ℕ). Patched i.tables.all c.put_locked.new.tables.all c.args.patch n) lsn puts in
    managed-written i.tables c.put_locked.new.tables i.log c.append.new.self i.locks kept _ i.begun c.args.txn c.args.self.now c.args.patch c.self.view_is c.self.invariant c.requires.live c.requires.can c.put_locked.ensures.own
    patched newest room lives

pub returns-in-Granted-clause-ok : goal.returns-in-Granted-clause-ok
returns-in-Granted-clause-ok c =
    let i = c.self.inside in
    let kept = kept_all i.living.items in
    let long : length c.make_room.new.living ≡ i.living.len = omega arith in
    let longer : length c.note_write.new.living ≡ i.living.len = omega arith in
    let room_lives = seated i.living.len c.make_room.new.living _ long ∙ c.make_room.ensures.same ∙ ap kept_all c.deref_mut.ensures.value in
    let lsn = c.next_lsn-lsn.ensures ∙ ap (λ (l : List Rec). length l + 1) c.make_room.ensures.records in
    let lives = seated i.living.len c.note_write.new.living _ longer ∙ c.note_write.ensures ∙ ap (λ (l : List Live). map (with_write c.args.txn c.next_lsn-lsn.result) (kept_all l)) c.deref_mut-in-Granted.ensures.value
    ∙ ap (map (with_write c.args.txn c.next_lsn-lsn.result)) room_lives ∙ ap (λ (n : ℕ). map (with_write c.args.txn n) kept) lsn in
    let newest = c.append.ensures.item ∙ ap (λ (l : List Rec). c.into_write.result ∷ l) c.make_room.ensures.records ∙ ap (λ (r : Rec). r ∷ i.log.newest) c.into_write.ensures in
    let puts = subst (PutsWhere i.tables.all c.put_locked.new.tables.all c.args.patch c.next_lsn-lsn.result) c.in-Granted.is c.in_ok-by.ensures.rows in
    let asked = subst (AnswersAsk i.locks c.put_locked.new.locks c.args.txn c.args.patch.table c.args.patch.key Exclusive) c.in-Granted.is c.in_ok-by.ensures.asked in
    let free = subst (λ (m : Managed). IsLeastOther m.locks c.args.txn c.args.patch.table c.args.patch.key Exclusive None) c.self.view_is asked.free in
    written i.tables c.put_locked.new.tables i.log c.append.new.self i.locks c.put_locked.new.locks kept _ i.begun c.args.txn c.next_lsn-lsn.result c.args.self.now c.args.patch c.self.view_is c.requires.can free c.put_locked.ensures.own
    puts asked.locked newest lsn lives

pub invariant_of-self-in-Held : goal.invariant_of-self-in-Held
invariant_of-self-in-Held c =
    let i = c.self.inside in
    let long : length c.make_room.new.living ≡ i.living.len = omega arith in
    let lives = seated i.living.len c.make_room.new.living _ long ∙ c.make_room.ensures.same ∙ ap kept_all c.deref_mut.ensures.value in
    let puts = subst (PutsWhere i.tables.all c.put_locked.new.tables.all c.args.patch c.next_lsn-lsn.result) c.in-Held.is c.in_ok-by.ensures.rows in
    managed-same i.tables c.put_locked.new.tables i.log c.make_room.new.log (kept_all i.living.items) _ i.begun c.self.invariant (sym c.put_locked.ensures.own) puts c.make_room.ensures.records c.make_room.ensures.no_less lives

pub returns-in-Held-clause-ok : goal.returns-in-Held-clause-ok
returns-in-Held-clause-ok c =
    let i = c.self.inside in
    let long : length c.make_room.new.living ≡ i.living.len = omega arith in
    let lives = seated i.living.len c.make_room.new.living _ long ∙ c.make_room.ensures.same ∙ ap kept_all c.deref_mut.ensures.value in
    let puts = subst (PutsWhere i.tables.all c.put_locked.new.tables.all c.args.patch c.next_lsn-lsn.result) c.in-Held.is c.in_ok-by.ensures.rows in
    let asked = subst (AnswersAsk i.locks c.put_locked.new.locks c.args.txn c.args.patch.table c.args.patch.key Exclusive) c.in-Held.is c.in_ok-by.ensures.asked in
    record {
      least = subst (λ (m : Managed). IsLeastOther m.locks c.args.txn c.args.patch.table c.args.patch.key Exclusive (Some c.in-Held.by)) c.self.view_is asked.least;
      same = unchanged i.tables c.put_locked.new.tables i.log c.make_room.new.log i.locks c.put_locked.new.locks (kept_all i.living.items) _ i.begun c.args.self.now c.self.view_is (sym c.put_locked.ensures.own) puts c.make_room.ensures.records asked.same lives;
    }
