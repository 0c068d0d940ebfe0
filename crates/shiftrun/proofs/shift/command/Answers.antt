use Rattle.std.proofs.Common.{map, string_bytes, refl, subst}
use Rattle.shiftrun.specs.Endings.{Outside, StepEnds}
use Rattle.shiftrun.proofs.EndLaws.{words_end, past_read, long_end, step_end}
use Rattle.shiftrun.proofs.shift.command.Goals as goal

pub returns-then-not-is_step : goal.returns-then-not-is_step
returns-then-not-is_step g c =
    let before : Outside = record { left = g.S.Source.left c.args.source.now; unread = g.S.Source.faults c.args.source.now; written = g.K.Sink.written c.args.sink.now; unwritten = g.K.Sink.faults c.args.sink.now } in
    let after : Outside = record { left = g.S.Source.left c.args.source.now; unread = g.S.Source.faults c.args.source.now; written = g.K.Sink.written c.put.new.sink; unwritten = g.K.Sink.faults c.put.new.sink } in
    words_end (map string_bytes c.args.words.now) before after c.args.kept.now c.put.result (λ step. (let told = c.if-not-is_step.ensures.1 step in cc)) refl c.requires c.put.ensures

pub returns-in-Ok : goal.returns-in-Ok
returns-in-Ok g c =
    let before : Outside = record { left = g.S.Source.left c.args.source.now; unread = g.S.Source.faults c.args.source.now; written = g.K.Sink.written c.args.sink.now; unwritten = g.K.Sink.faults c.args.sink.now } in
    let after : Outside = record { left = g.S.Source.left c.read_all.new.source; unread = g.S.Source.faults c.read_all.new.source; written = g.K.Sink.written c.step.new.sink; unwritten = g.K.Sink.faults c.step.new.sink } in
    let ends = subst (λ bytes. StepEnds bytes before.written after.written before.unwritten after.unwritten c.step.new.kept c.step.result) c.as_slice.ensures c.step.ensures in
    step_end (map string_bytes c.args.words.now) before after c.in-Ok.bytes c.step.new.kept c.step.result (c.if-not-is_step.ensures.0 refl) c.in-Ok.ensures.answer ends

pub returns-in-Err-TooLong : goal.returns-in-Err-TooLong
returns-in-Err-TooLong g c =
    let before : Outside = record { left = g.S.Source.left c.args.source.now; unread = g.S.Source.faults c.args.source.now; written = g.K.Sink.written c.args.sink.now; unwritten = g.K.Sink.faults c.args.sink.now } in
    let after : Outside = record { left = g.S.Source.left c.read_all.new.source; unread = g.S.Source.faults c.read_all.new.source; written = g.K.Sink.written c.put-in-Err-TooLong.new.sink; unwritten = g.K.Sink.faults c.put-in-Err-TooLong.new.sink } in
    let past = past_read before.left after.left before.unread after.unread 1048576 c.in-Err-TooLong.field-0 c.in-Err-TooLong.field-0-is c.in-Err-TooLong.ensures.answer in
    long_end (map string_bytes c.args.words.now) before after c.args.kept.now c.put-in-Err-TooLong.result (c.if-not-is_step.ensures.0 refl) past c.requires c.put-in-Err-TooLong.ensures
