use Rattle.std.proofs.Common.{◌==◌, ◌&&◌, ◌∙◌, sym, ap}
use Rattle.std.specs.List.{list_any}
use Rattle.sx_txn.specs.declared.lives.Live.{Live}
use Rattle.sx_txn.specs.Managed.{Managed, is_ending}
use Rattle.sx_txn.proofs.LiveLemmas.{is_ending-any}
use Rattle.sx_txn.proofs.manager.Manager.ending.Goals as goal

pub returns : goal.returns
returns c = c.is_ending.ensures ∙ ap (list_any (λ (l : Live). l.txn == c.args.txn && l.ending)) c.deref.ensures.value ∙ sym (is_ending-any c.self.inside.living.items c.args.txn) ∙ ap (λ (m : Managed). is_ending m.living c.args.txn) c.self.view_is
