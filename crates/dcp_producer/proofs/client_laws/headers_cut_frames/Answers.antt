use Rattle.dcp_producer.proofs.Headers.{pieces_are}
use Rattle.dcp_producer.proofs.client_laws.headers_cut_frames.Goals as goal

pub returns : goal.returns
returns c = pieces_are
