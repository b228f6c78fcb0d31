use Rattle.vb_journal.proofs.Sizes.{length_payload}
use Rattle.vb_journal.proofs.laws.payload_lengths.Goals as goal

pub returns : goal.returns
returns c = length_payload
