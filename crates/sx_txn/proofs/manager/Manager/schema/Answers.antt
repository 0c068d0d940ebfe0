use Rattle.std.proofs.Common.{Some, sym, ap, ◌∙◌, option_map}
use Rattle.sx_values.specs.Layouts.{Layout}
use Rattle.sx_heap.specs.Relations.{Relation}
use Rattle.sx_txn.specs.Managed.{Managed, schema_in}
use Rattle.sx_txn.proofs.TableLemmas.{schema-named}
use Rattle.sx_txn.proofs.manager.Manager.schema.Goals as goal

pub returns-in-Some : goal.returns-in-Some
returns-in-Some c =
    ap (λ (l : Layout). Some l) c.schema.ensures.schema
    ∙ ap (option_map (λ (t : Relation). t.schema)) c.in-Some.ensures.found
    ∙ sym (schema-named c.self.inside.tables.all c.args.table.now)
    ∙ ap (λ (m : Managed). schema_in m.shapes c.args.table.now) c.self.view_is

pub returns-in-None : goal.returns-in-None
returns-in-None c =
    ap (option_map (λ (t : Relation). t.schema)) c.in-None.ensures.found
    ∙ sym (schema-named c.self.inside.tables.all c.args.table.now)
    ∙ ap (λ (m : Managed). schema_in m.shapes c.args.table.now) c.self.view_is
