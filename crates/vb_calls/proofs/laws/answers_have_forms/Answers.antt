use Rattle.vb_calls.proofs.Tellings.{answered_so}
use Rattle.vb_calls.proofs.laws.answers_have_forms.Goals as goal

pub returns : goal.returns
returns c = answered_so
