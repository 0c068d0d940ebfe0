use Rattle.shiftrun.proofs.EndLaws.{run_ends}
use Rattle.shiftrun.proofs.shift.run_read.Goals as goal

pub returns-in-Ok : goal.returns-in-Ok
returns-in-Ok g c =
    let done = c.in-Ok.run' in
    λ bytes read. run_ends done.is_full bytes c.args.script.now done.core done.text (g.K.Sink.written c.args.sink.now) (g.K.Sink.written c.put_run.new.sink) (g.K.Sink.faults c.args.sink.now) (g.K.Sink.faults c.put_run.new.sink) c.put_run.new.kept c.put_run.result read c.in-Ok.ensures c.put_run.ensures
