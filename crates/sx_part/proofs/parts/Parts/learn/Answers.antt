use Rattle.std.proofs.Common.{true, sym, ◌∙◌}
use Rattle.sx_part.proofs.PartLemmas.{unread, takes_key}
use Rattle.sx_part.proofs.parts.Parts.learn.Goals as goal

pub returns-then-not-take-clause-sets : goal.returns-then-not-take-clause-sets
returns-then-not-take-clause-sets g c =
    unread c.args.self.now c.args.seen.now (sym (c.if-not-take.ensures ∙ takes_key c.args.self.now c.args.seen.now.key c.stamps-stamps.result c.args.seen.now.lsn true c.stamps-stamps.ensures.stamps))
