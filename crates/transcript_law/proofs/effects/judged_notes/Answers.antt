use Rattle.transcript_law.proofs.Words.{refl}
use Rattle.transcript_law.proofs.effects.judged_notes.Goals as goal

pub returns : goal.returns
returns c = record {
  vb_active = refl;
  vb_replica = refl;
  promote = refl;
  follow = refl;
  dead = refl;
  refused = refl;
  closed = refl;
  made = refl;
  made_closed = refl;
  unmade = refl;
}
