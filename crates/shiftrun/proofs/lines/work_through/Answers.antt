use Rattle.std.proofs.Common.{◌≡◌, ◌≤◌, ◌<◌, ◌∙◌, length, sym, ap, arith}
use Rattle.sx_journal.specs.declared.entry.Event.TheVariants.{Client}
use Rattle.sx_journal.specs.Courses.{Progress, index_of}
use Rattle.shiftrun.specs.Lines.{IsPassed}
use Rattle.shiftrun.proofs.HoldLaws.{turned_legal}
use Rattle.shiftrun.proofs.PaceLaws.{client_rests, rests_further, client_keeps, keeps_further}
use Rattle.shiftrun.proofs.LineLaws.{due_next, has_next, goes_further, noted_due, noted_goes, stops, turn_fails}
use Rattle.shiftrun.proofs.StandLaws.{shorter_rest}
use Rattle.shiftrun.proofs.lines.work_through.Goals as goal

pub loop-alloc-smaller : goal.loop-alloc-smaller
loop-alloc-smaller c =
    let old = c.loop-alloc.core in
    let new = c.ask.new.core in
    let client = c.args.line.now.client in
    let asked = Client c.in-Some.request in
    let noted = c.in_ok-ask-in-Some.ensures in
    shorter_rest old new client asked noted.reply (turned_legal old new client asked noted.reply noted.turn).0 noted.turn

pub loop-alloc-preserved : goal.loop-alloc-preserved
loop-alloc-preserved c =
    let old = c.loop-alloc.core in
    let new = c.ask.new.core in
    let before = c.loop-alloc.course in
    let after = c.ask.new.course in
    let line = c.args.line.now in
    let request = c.in-Some.request in
    let noted = c.in_ok-ask-in-Some.ensures in
    let here : index_of before.standing ≤ line.index = omega (arith, c.index.ensures, c.loop-alloc-test.true) in
    let next = sym c.in_ok-request.ensures ∙ c.in-Some.is in
    let first = c.args.core.now in
    record {
      commands = ap (λ (p : Progress). p.commands) noted.course ∙ c.loop-alloc.invariant.commands;
      ahead = λ plan ahead. noted_due plan old new before after line request c.requires.from_one (c.loop-alloc.invariant.ahead plan ahead) here next noted;
      goes_on = λ plan ahead. goes_further plan line.client first.past old.past new.past (c.loop-alloc.invariant.goes_on plan ahead) (noted_goes plan old new before after line.client request noted);
      rests = λ plan. rests_further plan first.past old.past new.past (c.loop-alloc.invariant.rests plan) (client_rests plan old new line.client request noted.reply c.requires.from_one noted.turn);
      keeps = keeps_further first old new c.loop-alloc.invariant.keeps (client_keeps old new line.client request noted.reply c.requires.from_one noted.turn);
    }

pub returns-in_err-ask-in-Some-clause-passed : goal.returns-in_err-ask-in-Some-clause-passed
returns-in_err-ask-in-Some-clause-passed c plan ahead =
    let old = c.loop-alloc.core in
    let new = c.ask.new.core in
    let before = c.loop-alloc.course in
    let line = c.args.line.now in
    let request = c.in-Some.request in
    let here : index_of before.standing ≤ line.index = omega (arith, c.index.ensures, c.loop-alloc-test.true) in
    let next = sym c.in_ok-request.ensures ∙ c.in-Some.is in
    let still = c.loop-alloc.invariant.ahead plan ahead in
    turn_fails (λ _. IsPassed plan c.args.core.now.past new c.ask.new.course line) plan old new c.from_residual-in_err-ask-in-Some.result line.client (Client request) c.in_err-ask-in-Some.field-0.0 c.from_residual-in_err-ask-in-Some.ensures.1
    (stops plan old line.client (Client request) still.due.runs (due_next plan old before line request still here next)) c.in_err-ask-in-Some.ensures

pub unreachable-requires : goal.unreachable-requires
unreachable-requires c =
    let before = c.loop-alloc.course in
    let same : length before.commands ≡ length c.args.course.now.commands = ap length c.loop-alloc.invariant.commands in
    let within : index_of before.standing < length before.commands = omega (arith, c.index.ensures, c.loop-alloc-test.true, c.requires.within) in
    has_next before.commands before.standing within (sym c.in_ok-request.ensures ∙ c.in-None.is)

pub returns-clause-passed : goal.returns-clause-passed
returns-clause-passed c plan ahead =
    let still = c.loop-alloc.invariant.ahead plan ahead in
    record {
      runs = still.due.runs;
      is_course = still.due.is_course;
      passed = omega (arith, c.index.ensures, c.loop-alloc-test.false);
      goes_on = c.loop-alloc.invariant.goes_on plan ahead;
    }
