use Rattle.std.proofs.Common.{◌∙◌, get_or, arith}
use Rattle.std.proofs.lemmas.List.{length-set}
use Rattle.sx_script.specs.Plans.{plan_of}
use Rattle.shiftrun.specs.Lines.{clients_of}
use Rattle.shiftrun.proofs.CountLaws.{client_here, client_at, few_before, made_next, counts_next}
use Rattle.shiftrun.proofs.lines.own_lines.Goals as goal

pub overflow_sub-place : goal.overflow_sub-place
overflow_sub-place c =
    let items = c.as_slice-client-items.result.now in
    let is = c.as_slice-client-items.ensures ∙ c.in_ok-clients.ensures in
    (client_at (plan_of c.args.script.now) items c.loop-client.client-index c.lines-lines.ensures.runs.clients is c.loop-client-test.true).from_one

pub bounds-counts-place : goal.bounds-counts-place
bounds-counts-place c =
    let items = c.as_slice-client-items.result.now in
    let is = c.as_slice-client-items.ensures ∙ c.in_ok-clients.ensures in
    let one = client_at (plan_of c.args.script.now) items c.loop-client.client-index c.lines-lines.ensures.runs.clients is c.loop-client-test.true in
    omega (arith, one.from_one, one.to_eight)

pub overflow_add-counts : goal.overflow_add-counts
overflow_add-counts c =
    let items = c.as_slice-client-items.result.now in
    let k = c.loop-client.client-index in
    let is = c.as_slice-client-items.ensures ∙ c.in_ok-clients.ensures in
    let one = client_at (plan_of c.args.script.now) items k c.lines-lines.ensures.runs.clients is c.loop-client-test.true in
    let few = few_before (plan_of c.args.script.now) items k c.lines-lines.ensures.runs.few is c.loop-client-test.true in
    omega (arith, few, c.loop-client.invariant.count (get_or items k 0) one.from_one one.to_eight)

pub bounds-counts-place-in-loop-client : goal.bounds-counts-place-in-loop-client
bounds-counts-place-in-loop-client c =
    let items = c.as_slice-client-items.result.now in
    let is = c.as_slice-client-items.ensures ∙ c.in_ok-clients.ensures in
    let one = client_at (plan_of c.args.script.now) items c.loop-client.client-index c.lines-lines.ensures.runs.clients is c.loop-client-test.true in
    omega (arith, one.from_one, one.to_eight)

pub loop-client-preserved : goal.loop-client-preserved
loop-client-preserved c =
    let plan = plan_of c.args.script.now in
    let items = c.as_slice-client-items.result.now in
    let k = c.loop-client.client-index in
    let client = get_or items k 0 in
    let is = c.as_slice-client-items.ensures ∙ c.in_ok-clients.ensures in
    let here = client_here plan items k is c.loop-client-test.true in
    let one = client_at plan items k c.lines-lines.ensures.runs.clients is c.loop-client-test.true in
    record {
      made = made_next (clients_of plan) k client _ c.loop-client.lines.items c.push.new.self.items here (c.loop-client.invariant.count client one.from_one one.to_eight) c.loop-client.invariant.made c.in_ok-push.ensures.items;
      eight = length-set c.loop-client.counts _ _ ∙ c.loop-client.invariant.eight;
      count = counts_next (clients_of plan) c.loop-client.counts k client here one c.loop-client.invariant.eight c.loop-client.invariant.count;
    }
