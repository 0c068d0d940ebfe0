use Rattle.std.proofs.Common.{◌≡◌, ◌∙◌, sym, subst, arith}
use Rattle.sx_journal.specs.declared.entry.Event.TheVariants.{Client}
use Rattle.sx_journal.specs.declared.entry.Request.TheVariants.{Undo}
use Rattle.sx_script.specs.Plans.{plan_of}
use Rattle.shiftrun.specs.Runs.{HasRolledBack}
use Rattle.shiftrun.proofs.StandLaws.{shorter_rest}
use Rattle.shiftrun.proofs.PaceLaws.{client_keeps, keeps_further}
use Rattle.shiftrun.proofs.LineLaws.{turn_fails}
use Rattle.shiftrun.proofs.RollLaws.{HasRolled, roll_first, roll_on, roll_full, rolled_back}
use Rattle.shiftrun.proofs.finish.roll_all_back.Goals as goal

pub loop-client-init : goal.loop-client-init
loop-client-init c = record { rolled = roll_first (plan_of c.args.script.now) c.args.core.now c.requires.lines; keeps = λ image held. held }

pub loop-core-smaller : goal.loop-core-smaller
loop-core-smaller c =
    let taken = c.in_ok-request_of.ensures in
    shorter_rest c.loop-core.core c.request_of.new.core c.loop-client.client (Client Undo) taken.reply c.loop-core.invariant.rolled.lines.runs.legal taken.turn

pub loop-core-preserved : goal.loop-core-preserved
loop-core-preserved c =
    let taken = c.in_ok-request_of.ensures in
    let old = c.loop-core.core in
    let new = c.request_of.new.core in
    let client = c.loop-client.client in
    let one = c.loop-client.auto.client in
    record {
      rolled = roll_on (plan_of c.args.script.now) client old new taken.reply one c.loop-core.invariant.rolled (sym c.lives.ensures ∙ c.loop-core-test.true) taken.turn;
      keeps = keeps_further c.args.core.now old new c.loop-core.invariant.keeps (client_keeps old new client Undo taken.reply one taken.turn);
    }

pub returns-in_err-request_of-clause-rolled : goal.returns-in_err-request_of-clause-rolled
returns-in_err-request_of-clause-rolled c =
    let plan = plan_of c.args.script.now in
    let client = c.loop-client.client in
    let old = c.loop-core.core in
    let new = c.request_of.new.core in
    let full = roll_full plan client old c.loop-core.invariant.rolled (sym c.lives.ensures ∙ c.loop-core-test.true) in
    turn_fails (λ _. HasRolledBack plan new) plan old new c.from_residual.result client (Client Undo) c.in_err-request_of.field-0.0 c.from_residual.ensures.1 full c.in_err-request_of.ensures

pub returns-clause-rolled : goal.returns-clause-rolled
returns-clause-rolled c =
    let plan = plan_of c.args.script.now in
    let all : c.loop-client.client ≡ 9 = omega (arith, c.loop-client.auto.client-end (omega arith)) in
    rolled_back plan c.loop-client.core (subst (λ n. HasRolled plan n c.loop-client.core) all c.loop-client.invariant.rolled)
