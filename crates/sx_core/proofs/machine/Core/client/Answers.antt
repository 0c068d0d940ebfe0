use Rattle.std.proofs.Common.{◌∙◌, sym}
use Rattle.std.proofs.lemmas.Bool.{false≢true}
use Rattle.sx_core.proofs.ReplyLemmas.{uncommitted-outside, uncommitted-ending, commits_inside}
use Rattle.sx_core.proofs.machine.Core.client.Goals as goal

pub returns-in-None-clause-commits : goal.returns-in-None-clause-commits
returns-in-None-clause-commits g c =
    let m = c.args.self.now in
    λ done. absurd (false≢true (sym (uncommitted-outside m.opening m.past c.args.actor c.args.request (sym c.txn_of.ensures ∙ c.in-None.is)) ∙ done))

pub returns-then-is_ending-clause-commits : goal.returns-then-is_ending-clause-commits
returns-then-is_ending-clause-commits g c =
    let m = c.args.self.now in
    let inside = sym c.txn_of.ensures ∙ c.in-Some.is in
    λ done. absurd (false≢true (sym (uncommitted-ending m.opening m.past c.args.actor c.in-Some.txn c.args.request inside (sym c.is_ending.ensures ∙ c.if-is_ending.true)) ∙ done))

pub returns-else-is_ending-clause-commits : goal.returns-else-is_ending-clause-commits
returns-else-is_ending-clause-commits g c =
    let m = c.args.self.now in
    let inside = sym c.txn_of.ensures ∙ c.in-Some.is in
    λ done. c.inside.ensures.commits (commits_inside m.opening m.past c.args.actor c.in-Some.txn c.args.request inside (sym c.is_ending.ensures ∙ c.if-is_ending.false) done)
