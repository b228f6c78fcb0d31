use Rattle.transcript_law.proofs.Words.{two_followed, one_set}
use Rattle.transcript_law.proofs.Laws.{scripts_are_lawful}
use Rattle.transcript_law.proofs.rows.Fitted.{one_fits, followed_fits}
use Rattle.transcript_law.proofs.lawful.groups_are_lawful.Goals as goal

pub returns : goal.returns
returns c = record { all = scripts_are_lawful; one = scripts_are_lawful one_set one_fits; followed = scripts_are_lawful two_followed followed_fits }
