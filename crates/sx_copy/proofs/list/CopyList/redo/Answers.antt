use Rattle.std.proofs.Common.{subst, ◌∙◌}
use Rattle.std.specs.Option.{option_copied}
use Rattle.sx_ops.specs.Operators.{sources_of}
use Rattle.sx_copy.specs.CopyLists.{copy_at, SetsKey}
use Rattle.sx_copy.specs.Changes.{stepped}
use Rattle.sx_copy.proofs.CopyLemmas.{redo_sides}
use Rattle.sx_copy.proofs.list.CopyList.redo.Goals as goal

pub returns-clause-ok : goal.returns-clause-ok
returns-clause-ok c =
    let key = c.args.change.now.key.now in
    let first = c.in_ok-on_first.on_first in
    let sets = subst (λ rows. SetsKey 0 key (stepped first (copy_at rows 0 key)) rows c.take.new.rows.items) (c.reserve.ensures.items ∙ c.self.view_is) c.take.ensures.sets in
    redo_sides c.args.change.now c.args.self.now c.take.new.rows.items c.take-2.new.rows.items c.sources_of.result.0.now (option_copied c.sources_of.result.1) (sources_of c.args.spec.now) first c.in_ok-on_second.on_second c.sources_of.ensures c.in_ok-on_first.ensures.stepped c.in_ok-on_second.ensures.stepped sets c.take-2.ensures.sets
