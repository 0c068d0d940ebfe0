use Rattle.std.proofs.Common.{◌≡◌, ◌≤◌, ◌+◌, ◌∷◌, ◌∙◌, length, arith, ap, map, ℕ, subst, List}
use Rattle.sx_txn.specs.declared.lives.Live.{Live}
use Rattle.sx_log.specs.declared.record.Rec.{Rec}
use Rattle.sx_txn.specs.Lives.{kept_all, with_undo}
use Rattle.sx_txn.specs.Patches.{Patched}
use Rattle.sx_txn.proofs.ManagedLemmas.{length-kept}
use Rattle.sx_txn.proofs.PutLemmas.{takes_patch, managed-undone, undone, seated}
use Rattle.sx_txn.proofs.manager.Manager.put_back.Goals as goal

pub put_image-requires-clause-takes : goal.put_image-requires-clause-takes
put_image-requires-clause-takes c =
    let i = c.self.inside in
    takes_patch i.tables i.log i.locks (kept_all i.living.items) i.begun c.args.self.now c.args.patch c.self.view_is c.requires.back.can

pub invariant_of-self-2 : goal.invariant_of-self-2
invariant_of-self-2 c =
    let i = c.self.inside in
    let kept = kept_all i.living.items in
    let long : length c.undo_write.new.living ≡ i.living.len = omega arith in
    let room : length kept ≤ c.append.new.self.spare = omega (arith, c.in_ok-reserve.ensures.room, length-kept i.living.items) in
    let lives = seated i.living.len c.undo_write.new.living _ long ∙ c.undo_write.ensures ∙ ap (λ (l : List Live). map (with_undo c.args.txn) (kept_all l)) c.deref_mut.ensures.value in
    let lsn = c.next_lsn-lsn.ensures ∙ ap (λ (l : List Rec). length l + 1) c.reserve.ensures.items in
    let newest = c.append.ensures.item ∙ ap (λ (l : List Rec). c.into_undo.result ∷ l) c.reserve.ensures.items ∙ ap (λ (r : Rec). r ∷ i.log.newest) c.into_undo.ensures in
    let patched = subst (λ (n : ℕ). Patched i.tables.all c.put_image.new.tables.all c.args.patch n) lsn c.in_ok-put_image.ensures.ok in
    managed-undone i.tables c.put_image.new.tables i.log c.append.new.self i.locks kept _ i.begun c.args.txn c.args.undoes c.args.self.now c.args.patch c.self.view_is c.self.invariant c.requires.live c.requires.last c.requires.back.can c.put_image.ensures.own
    patched newest room lives

pub returns-clause-ok : goal.returns-clause-ok
returns-clause-ok c =
    let i = c.self.inside in
    let kept = kept_all i.living.items in
    let long : length c.undo_write.new.living ≡ i.living.len = omega arith in
    let lives = seated i.living.len c.undo_write.new.living _ long ∙ c.undo_write.ensures ∙ ap (λ (l : List Live). map (with_undo c.args.txn) (kept_all l)) c.deref_mut.ensures.value in
    let lsn = c.next_lsn-lsn.ensures ∙ ap (λ (l : List Rec). length l + 1) c.reserve.ensures.items in
    let newest = c.append.ensures.item ∙ ap (λ (l : List Rec). c.into_undo.result ∷ l) c.reserve.ensures.items ∙ ap (λ (r : Rec). r ∷ i.log.newest) c.into_undo.ensures in
    let patched = subst (λ (n : ℕ). Patched i.tables.all c.put_image.new.tables.all c.args.patch n) lsn c.in_ok-put_image.ensures.ok in
    undone i.tables c.put_image.new.tables i.log c.append.new.self i.locks kept _ i.begun c.args.txn c.args.undoes c.next_lsn-lsn.result c.args.self.now c.args.patch c.self.view_is c.requires.back c.put_image.ensures.own
    c.in_ok-put_image.ensures.ok newest lsn lives
