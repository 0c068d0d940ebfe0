use Rattle.std.proofs.Common.{sym, ◌∙◌}
use Rattle.sx_lists.proofs.NumberedLemmas.{numbered-at}
use Rattle.sx_lists.proofs.reserved.Reserved.at.Goals as goal

pub returns : goal.returns
returns g c =
    rw (← c.self.view_is) (c.item_at.ensures ∙ rw c.deref.ensures.value (sym (numbered-at c.self.inside.items.items c.args.place)))
