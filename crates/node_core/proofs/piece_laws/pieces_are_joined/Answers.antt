use Rattle.node_core.proofs.Pieces.{joins_pieces, waits_for_frames}
use Rattle.node_core.proofs.piece_laws.pieces_are_joined.Goals as goal

pub returns : goal.returns
returns c = record { peers = joins_pieces; dials = waits_for_frames }
