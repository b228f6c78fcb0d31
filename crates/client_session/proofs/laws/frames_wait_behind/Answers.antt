use Rattle.client_session.proofs.Chunks.{kept_behind, between, passed_between}
use Rattle.client_session.proofs.Turns.{waiting_holds}
use Rattle.client_session.proofs.laws.frames_wait_behind.Goals as goal

pub returns-clause-kept : goal.returns-clause-kept
returns-clause-kept c = kept_behind

pub returns-clause-later : goal.returns-clause-later
returns-clause-later c = λ clock after r piece s live w. between clock after r piece s live (waiting_holds s w)

pub returns-clause-passed : goal.returns-clause-passed
returns-clause-passed c = passed_between
