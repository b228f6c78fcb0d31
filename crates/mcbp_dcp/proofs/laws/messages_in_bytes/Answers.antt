use Rattle.mcbp_dcp.proofs.MessageBytes.{opening, control, request, stream_end, marker, mutation, deletion, opened, controlled, granted, sent_back, refused, reserved, times, typed}
use Rattle.mcbp_dcp.proofs.laws.messages_in_bytes.Goals as goal

pub returns-clause-opening : goal.returns-clause-opening
returns-clause-opening c = opening

pub returns-clause-control : goal.returns-clause-control
returns-clause-control c = control

pub returns-clause-request : goal.returns-clause-request
returns-clause-request c = request

pub returns-clause-stream_end : goal.returns-clause-stream_end
returns-clause-stream_end c = stream_end

pub returns-clause-marker : goal.returns-clause-marker
returns-clause-marker c = marker

pub returns-clause-mutation : goal.returns-clause-mutation
returns-clause-mutation c = mutation

pub returns-clause-deletion : goal.returns-clause-deletion
returns-clause-deletion c = deletion

pub returns-clause-opened : goal.returns-clause-opened
returns-clause-opened c = opened

pub returns-clause-controlled : goal.returns-clause-controlled
returns-clause-controlled c = controlled

pub returns-clause-granted : goal.returns-clause-granted
returns-clause-granted c = granted

pub returns-clause-sent_back : goal.returns-clause-sent_back
returns-clause-sent_back c = sent_back

pub returns-clause-refused : goal.returns-clause-refused
returns-clause-refused c = refused

pub returns-clause-reserved : goal.returns-clause-reserved
returns-clause-reserved c = reserved

pub returns-clause-times : goal.returns-clause-times
returns-clause-times c = times

pub returns-clause-typed : goal.returns-clause-typed
returns-clause-typed c = typed
