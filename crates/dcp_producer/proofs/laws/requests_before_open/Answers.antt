use Rattle.std.proofs.Common.{inl}
use Rattle.dcp_producer.proofs.Early.{early_frames, early_messages}
use Rattle.dcp_producer.proofs.Requests.{einval_first}
use Rattle.dcp_producer.proofs.laws.requests_before_open.Goals as goal

pub returns-clause-frames : goal.returns-clause-frames
returns-clause-frames c = early_frames

pub returns-clause-messages : goal.returns-clause-messages
returns-clause-messages c f m s fresh = early_messages f s fresh m

pub returns-clause-streams : goal.returns-clause-streams
returns-clause-streams c f ask s states fresh = einval_first f ask s states (inl fresh)
