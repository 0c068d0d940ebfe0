use Rattle.std.proofs.Common.{rules, ◌≡◌, ◌∙◌, Some, sym, ap}
use Rattle.std.proofs.lemmas.Result.{IfOk-weaker, on_err_weaker}
use Rattle.std.specs.BTreeMap.Entry.{map_with_value, entry_value}
use Rattle.std.specs.Cmp.Lexicographic.{lists_total}
use Rattle.sx_values.specs.ValueLaws.{value_cmp_total}
use Rattle.sx_locks.specs.Taking.{TakesAmong, TakesAt}
use Rattle.sx_locks.proofs.LockLemmas.{insert_entry-same}
use Rattle.sx_locks.proofs.TakeLemmas.{takes_key, takes_new}
use Rattle.sx_locks.proofs.keys.KeyLocks.ask.Goals as goal
use Rattle.sx_locks.proofs.keys.KeyLocks.ask.Goals.{in-Vacant, in-Occupied}

pub returns-clause-ok : goal.returns-clause-ok
returns-clause-ok c =
    let was = c.self.inside.keys.entries in
    rw (← c.self.view_is) (elim c.match-branch-3.branch [
      | in-Vacant w ↦
          let now = w.one.result in
          let after = map_with_value c.in_ok-entry.field-0 now in
          let is : c.match-branch-3.self-inside.keys ≡ after = search rules in
          let found = sym (rw (w.in-Vacant.is, c.in_ok-copy.ensures) at c.in_ok-entry.ensures.found) in
          let updates = rw c.in_ok-copy.ensures at (c.in_ok-entry.ensures.update.0 now).0 in
          rw (w.result-is, is) (takes_new was after.entries c.args.txn c.args.key.now c.args.mode now found updates w.one.ensures)
      | in-Occupied w ↦
          let before = w.into_mut.result.now in
          let now = w.ask.new.self in
          let after = map_with_value c.in_ok-entry.field-0 now in
          let is : c.match-branch-3.self-inside.keys ≡ after = search rules in
          let there = sym c.in_ok-entry.ensures.value ∙ ap entry_value w.in-Occupied.is ∙ w.into_mut.ensures.value in
          let found = rw c.in_ok-copy.ensures at (sym w.into_mut.ensures.value ∙ sym (ap entry_value w.in-Occupied.is) ∙ c.in_ok-entry.ensures.value) in
          let updates = rw c.in_ok-copy.ensures at (c.in_ok-entry.ensures.update.0 now).0 in
          let same = λ (e : now ≡ before). c.in_ok-entry.ensures.update.1 now ∙ insert_entry-same (lists_total value_cmp_total) was c.in_ok-copy.field-0 now c.in_ok-entry.ensures.ordered (there ∙ ap Some (sym e)) in
          rw (w.result-is, is) (IfOk-weaker w.ask.result (TakesAmong before now c.args.txn c.args.mode) (TakesAt was after.entries c.args.txn c.args.key.now c.args.mode) (takes_key was after.entries c.args.txn c.args.key.now c.args.mode before now found updates same) w.ask.ensures.ok)
    ])

pub returns-clause-err : goal.returns-clause-err
returns-clause-err c =
    let was = c.self.inside.keys.entries in
    rw (← c.self.view_is) (elim c.match-branch-3.branch [
      | in-Vacant w ↦ rw w.result-is tt
      | in-Occupied w ↦
          let now = w.ask.new.self in
          let is : c.match-branch-3.self-inside.keys ≡ map_with_value c.in_ok-entry.field-0 now = search rules in
          let found = sym c.in_ok-entry.ensures.value ∙ ap entry_value w.in-Occupied.is ∙ w.into_mut.ensures.value in
          rw (w.result-is, is) (on_err_weaker w.ask.result (λ same. c.in_ok-entry.ensures.update.1 now ∙ insert_entry-same (lists_total value_cmp_total) was c.in_ok-copy.field-0 now c.in_ok-entry.ensures.ordered (found ∙ ap Some (sym same))) w.ask.ensures.err)
    ])
