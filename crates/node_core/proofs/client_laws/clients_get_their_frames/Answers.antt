use Rattle.node_core.proofs.ClientLaws.{frames_in_numbers, get_frames}
use Rattle.node_core.proofs.client_laws.clients_get_their_frames.Goals as goal

pub returns : goal.returns
returns c = record { frames = get_frames; rows = frames_in_numbers }
