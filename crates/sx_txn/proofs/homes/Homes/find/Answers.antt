use Rattle.std.proofs.Common.{sym, ap, ◌∙◌, Option}
use Rattle.sx_lists.specs.Answers.{or_later}
use Rattle.sx_heap.specs.Relations.{Relation}
use Rattle.sx_heap.specs.NamedTables.{table_named}
use Rattle.sx_txn.specs.Homes.{Homed}
use Rattle.sx_txn.proofs.HomeLemmas.{named_both}
use Rattle.sx_txn.proofs.homes.Homes.find.Goals as goal

pub returns-in-Some-clause-found : goal.returns-in-Some-clause-found
returns-in-Some-clause-found c =
    let i = c.self.inside in
    ap (λ (o : Option Relation). or_later o (table_named i.fresh c.args.name.now)) c.in-Some.ensures.found ∙ sym (named_both i.own i.fresh c.args.name.now) ∙ ap (λ (h : Homed). table_named h.all c.args.name.now) c.self.view_is

pub returns-in-None-clause-found : goal.returns-in-None-clause-found
returns-in-None-clause-found c =
    let i = c.self.inside in
    c.find-in-None.ensures.found ∙ ap (λ (o : Option Relation). or_later o (table_named i.fresh c.args.name.now)) c.in-None.ensures.found ∙ sym (named_both i.own i.fresh c.args.name.now) ∙ ap (λ (h : Homed). table_named h.all c.args.name.now) c.self.view_is
