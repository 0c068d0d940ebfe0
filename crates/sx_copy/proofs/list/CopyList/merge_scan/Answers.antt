use Rattle.std.proofs.Common.{◌≡◌, ◌+◌, ◌++◌, ◌∷◌, [], ◌≤◌, arith, length, take, subst, sym, ◌∙◌}
use Rattle.std.proofs.lemmas.Grind.{common_steps}
use Rattle.sx_copy.specs.CopyLists.{Merges}
use Rattle.sx_copy.proofs.CopyLemmas.{merges_none, merges_next, refused_so}
use Rattle.sx_copy.proofs.list.CopyList.merge_scan.Goals as goal

pub loop-reading-init : goal.loop-reading-init
loop-reading-init c = merges_none c.args.side c.args.self.now

pub returns-in_err-learn-clause-err : goal.returns-in_err-learn-clause-err
returns-in_err-learn-clause-err c =
    let items = c.as_slice-reading-items.result.now in
    let within : c.loop-reading.reading-index ≤ length items = grind (arith, common_steps, c.loop-reading-test.true) in
    refused_so c.from_residual.result (record {
      place = c.loop-reading.reading-index;
      within = subst (λ l. c.loop-reading.reading-index ≤ length l) c.as_slice-reading-items.ensures within;
      merges = rw (c.in_err-learn.ensures.err) (subst (λ l. Merges c.args.side (take c.loop-reading.reading-index l) c.args.self.now c.loop-reading.self) c.as_slice-reading-items.ensures c.loop-reading.invariant);
    })

pub loop-reading-preserved : goal.loop-reading-preserved
loop-reading-preserved c =
    let items = c.as_slice-reading-items.result.now in
    let one_more : take (c.loop-reading.reading-index + 1) items ≡ take c.loop-reading.reading-index items ++ c.reading-item.result ∷ [] = grind (arith, common_steps, c.reading-item.is, c.loop-reading-test.true) in
    subst (λ l. Merges c.args.side l c.args.self.now c.learn.new.self) (sym one_more) (merges_next c.args.side (take c.loop-reading.reading-index items) c.reading-item.result c.args.self.now c.loop-reading.self c.learn.new.self c.loop-reading.invariant c.in_ok-learn.ensures.ok)

pub returns-clause-ok : goal.returns-clause-ok
returns-clause-ok c =
    let items = c.as_slice-reading-items.result.now in
    let all : take c.loop-reading.reading-index items ≡ items = grind (arith, common_steps, c.loop-reading-test.false) in
    subst (λ l. Merges c.args.side l c.args.self.now c.loop-reading.self) (all ∙ c.as_slice-reading-items.ensures) c.loop-reading.invariant
