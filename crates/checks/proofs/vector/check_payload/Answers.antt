-- `vector::check_payload` meets its contract: row 13, then row 17. Assumes nothing.
use Rattle.rules.specs.Read.{payload_rows}
use Rattle.checks.proofs.Refusals.{both-are}
use Rattle.checks.proofs.vector.check_payload.Goals as goal

pub returns : goal.returns
unfolding payload_rows
returns c = both-are c.and.result c.check_list-listed.result c.check_sums-summed.result c.and.ensures c.check_list-listed.ensures c.check_sums-summed.ensures
