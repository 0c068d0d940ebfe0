use Rattle.std.proofs.Common.{◌==◌, ◌≤◌, ◌∙◌, sym, ap, subst}
use Rattle.std.specs.List.{list_any}
use Rattle.sx_txn.specs.declared.lives.Live.{Live}
use Rattle.sx_txn.specs.Managed.{Managed, is_live}
use Rattle.sx_txn.specs.Lives.{kept_all}
use Rattle.sx_txn.proofs.EventLemmas.{lives_begun}
use Rattle.sx_txn.proofs.LiveLemmas.{is_live-any}
use Rattle.sx_txn.proofs.manager.Manager.live.Goals as goal

pub returns-clause-live : goal.returns-clause-live
returns-clause-live c = c.is_live.ensures ∙ ap (list_any (λ (l : Live). l.txn == c.args.txn)) c.deref.ensures.value ∙ sym (is_live-any c.self.inside.living.items c.args.txn) ∙ ap (λ (m : Managed). is_live m.living c.args.txn) c.self.view_is

pub returns-clause-begun : goal.returns-clause-begun
returns-clause-begun c = λ live.
    let i = c.self.inside in
    let here = is_live-any i.living.items c.args.txn ∙ sym (ap (list_any (λ (l : Live). l.txn == c.args.txn)) c.deref.ensures.value) ∙ sym c.is_live.ensures ∙ live in
    subst (λ (m : Managed). c.args.txn ≤ m.begun) c.self.view_is (lives_begun i.tables i.log (kept_all i.living.items) i.begun c.args.txn c.self.invariant here)
