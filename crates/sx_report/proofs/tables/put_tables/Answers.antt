use Rattle.sx_report.proofs.TableLaws.{put_next, relations_from}
use Rattle.sx_report.proofs.tables.put_tables.Goals as goal

pub loop-index-preserved : goal.loop-index-preserved
loop-index-preserved c = record {
  text = put_next c.args.tables.now c.loop-index.index c.loop-index.out.items c.put_table_at.new.out.items _ c.in_ok-put_table_at.ensures.text c.loop-index.invariant.text;
  relations = λ later. c.loop-index.invariant.relations (relations_from c.args.tables.now c.loop-index.index c.in_ok-put_table_at.ensures.relations later);
}
