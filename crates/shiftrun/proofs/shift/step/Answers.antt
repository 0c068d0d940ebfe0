use Rattle.sx_script.specs.Reading.{script_read}
use Rattle.shiftrun.proofs.EndLaws.{bad_read, refused_end}
use Rattle.shiftrun.proofs.shift.step.Goals as goal

pub returns-in-Err-Bad : goal.returns-in-Err-Bad
returns-in-Err-Bad g c =
    let none = bad_read c.in-Err-Bad.field-0 c.in-Err-Bad.field-0-0 c.in-Err-Bad.field-0-1 (script_read c.args.bytes.now) c.in-Err-Bad.field-0-is c.in-Err-Bad.ensures in
    refused_end c.args.bytes.now (g.K.Sink.written c.args.sink.now) (g.K.Sink.written c.put.new.sink) (g.K.Sink.faults c.args.sink.now) (g.K.Sink.faults c.put.new.sink) c.args.kept.now c.put.result none c.requires c.put.ensures
