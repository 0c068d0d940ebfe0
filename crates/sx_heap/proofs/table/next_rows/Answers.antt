use Rattle.std.proofs.Common.{sym, ap, ◌∙◌, ◌∷◌, [], ◌+◌, length, length-append, arith}
use Rattle.sx_heap.specs.Entries.{rows_of}
use Rattle.sx_heap.proofs.EntryLemmas.{rows_of-take_next}
use Rattle.sx_heap.proofs.TurnLemmas.{drop_next, take_ended, drop_ended}
use Rattle.sx_heap.proofs.table.next_rows.Goals as goal

pub returns-in-None-clause-seen : goal.returns-in-None-clause-seen
returns-in-None-clause-seen g c =
    c.loop-turn.invariant.handed_out ∙ ap rows_of (take_ended c.loop-turn._turn c.args.n c.args.ahead.now (sym c.loop-turn.invariant.left ∙ c.in-None.ensures.steps.0) (omega arith))

pub returns-in-None-clause-left : goal.returns-in-None-clause-left
returns-in-None-clause-left g c =
    c.in-None.ensures.steps.1 ∙ sym (drop_ended c.loop-turn._turn c.args.n c.args.ahead.now (sym c.loop-turn.invariant.left ∙ c.in-None.ensures.steps.0) (omega arith))

pub loop-turn-preserved : goal.loop-turn-preserved
loop-turn-preserved g c =
    let left = sym c.loop-turn.invariant.left ∙ c.in-Some.ensures.steps in
    record {
      handed_out = rows_of-take_next c.loop-turn._turn c.args.ahead.now (c.in-Some.key.now, c.in-Some.stamped.now) c.next.new.self c.loop-turn.seen c.push.new.self c.in_ok-seen_at-in-Some.field-0 left c.loop-turn.invariant.handed_out c.in_ok-seen_at-in-Some.ensures.seen c.in_ok-push-in-Some.ensures.ok;
      left = sym (drop_next c.loop-turn._turn c.args.ahead.now (c.in-Some.key.now, c.in-Some.stamped.now) c.next.new.self left);
      counted = omega (arith, c.seen_at.ensures.counted, c.loop-turn.invariant.counted);
      as_many = ap length c.in_ok-push-in-Some.ensures.ok ∙ length-append c.loop-turn.seen (c.in_ok-seen_at-in-Some.field-0 ∷ []) ∙ ap (λ n. n + 1) c.loop-turn.invariant.as_many;
    }
