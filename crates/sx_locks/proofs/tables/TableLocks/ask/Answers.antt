use Rattle.std.proofs.Common.{◌≡◌, ◌∙◌, rules, Some, sym, ap, subst}
use Rattle.std.specs.BTreeMap.{is_at}
use Rattle.std.specs.Ordering.{nat_cmp}
use Rattle.std.specs.Cmp.Lexicographic.{slice_cmp}
use Rattle.std.proofs.lemmas.Result.{IfOk-weaker, on_err_weaker}
use Rattle.std.proofs.lemmas.Map.Steps.{set_value_same}
use Rattle.sx_locks.specs.Taking.{TakesAt, Takes}
use Rattle.sx_locks.proofs.TakeLemmas.{takes_table, takes_first}
use Rattle.sx_locks.proofs.tables.TableLocks.ask.Goals as goal

pub returns-in-Some-clause-ok : goal.returns-in-Some-clause-ok
returns-in-Some-clause-ok c =
    let was = c.self.inside.tables.entries in
    let before = c.in-Some.keys.now in
    let now = c.ask.new.self in
    let after = (c.get_mut.follows.lender now).entries in
    let there = c.in-Some.ensures.value in
    let same = λ (e : now ≡ before). (c.get_mut.follows.holds now).0 ∙ set_value_same (is_at (slice_cmp nat_cmp c.args.table.now)) was now (sym there ∙ ap Some (sym e)) in
    rw (← c.self.view_is) (IfOk-weaker c.ask.result (TakesAt before now c.args.txn c.args.key.now c.args.mode) (Takes was after c.args.txn c.args.table.now c.args.key.now c.args.mode)
    (takes_table was after c.args.txn c.args.table.now c.args.key.now c.args.mode before now there ((c.get_mut.follows.holds now).3 (search rules)).0 same) c.ask.ensures.ok)

pub returns-in-Some-clause-err : goal.returns-in-Some-clause-err
returns-in-Some-clause-err c =
    let now = c.ask.new.self in
    rw (← c.self.view_is) (on_err_weaker c.ask.result (λ same. (c.get_mut.follows.holds now).0 ∙ set_value_same (is_at (slice_cmp nat_cmp c.args.table.now)) c.self.inside.tables.entries now (sym c.in-Some.ensures.value ∙ ap Some (sym same))) c.ask.ensures.err)

pub returns-in_ok-insert-in-None-clause-ok : goal.returns-in_ok-insert-in-None-clause-ok
returns-in_ok-insert-in-None-clause-ok c =
    let now = c.ask-in-None.new.self in
    let updates = rw (c.in_ok-name-in-None.ensures, c.get_mut.follows.holds-at-none) at c.in_ok-insert-in-None.ensures.updates.0 in
    let takes = subst (λ keys. TakesAt keys now c.args.txn c.args.key.now c.args.mode c.in_ok-taken-in-None.taken) c.new-keys.ensures c.in_ok-taken-in-None.ensures.ok in
    rw (← c.self.view_is) (takes_first c.self.inside.tables.entries c.insert.new.self.entries c.args.txn c.args.table.now c.args.key.now c.args.mode now c.in-None.ensures.value updates c.in_ok-taken-in-None.taken takes)
