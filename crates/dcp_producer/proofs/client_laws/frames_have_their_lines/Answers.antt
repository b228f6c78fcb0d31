use Rattle.dcp_producer.proofs.Pairs.{any_pairs, spelled_pairs}
use Rattle.dcp_producer.proofs.client_laws.frames_have_their_lines.Goals as goal

pub returns-clause-any : goal.returns-clause-any
returns-clause-any c = any_pairs

pub returns-clause-spelled : goal.returns-clause-spelled
returns-clause-spelled c = spelled_pairs
