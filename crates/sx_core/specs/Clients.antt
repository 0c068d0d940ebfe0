-- Live transactions with their clients.
use Rattle.sx_model.specs.Leaves.{Living}
use Rattle.sx_core.specs.declared.clients.Client.{Client}

abbrev pub living_of : Client → Living
living_of c = record { client = c.client; txn = c.txn }
