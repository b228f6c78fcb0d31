use Rattle.transcript_law.proofs.Words.{refl}
use Rattle.transcript_law.proofs.effects.judged_calls.Goals as goal

pub returns : goal.returns
returns c = record {
  vb_active = refl;
  vb_replica = refl;
  promote = refl;
  follow = refl;
  dead = refl;
  save = refl;
  closed = refl;
  refused = refl;
  take = refl;
  done = refl;
  seal = refl;
  stat = refl;
  armed = refl;
  disarmed = refl;
}
