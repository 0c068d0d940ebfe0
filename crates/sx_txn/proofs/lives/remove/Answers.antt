use Rattle.std.proofs.Common.{◌==◌, not, ap, rules}
use Rattle.std.proofs.lemmas.Fn.{filter_same}
use Rattle.sx_txn.specs.Lives.{kept_all}
use Rattle.sx_txn.specs.declared.lives.Live.{Live}
use Rattle.sx_txn.proofs.LiveLemmas.{kept_without-filter}
use Rattle.sx_txn.proofs.lives.remove.Goals as goal

pub returns : goal.returns
returns c = rw (kept_without-filter c.args.living.now.items c.args.txn) (ap kept_all (filter_same _ (λ (live : Live). not (live.txn == c.args.txn)) _ (λ x b f k. search rules) _ _ c.retain.ensures.filtered))
