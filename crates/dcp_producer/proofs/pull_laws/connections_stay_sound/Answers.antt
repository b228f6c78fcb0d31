use Rattle.dcp_producer.proofs.Giving.{sound_yields}
use Rattle.dcp_producer.proofs.Sound.{sound_new, sound_answers, sound_pulls, sound_ended}
use Rattle.dcp_producer.proofs.pull_laws.connections_stay_sound.Goals as goal

pub returns-clause-fresh : goal.returns-clause-fresh
returns-clause-fresh c = sound_new

pub returns-clause-answers : goal.returns-clause-answers
returns-clause-answers c = sound_answers

pub returns-clause-pulls : goal.returns-clause-pulls
returns-clause-pulls c = sound_pulls

pub returns-clause-roles : goal.returns-clause-roles
returns-clause-roles c = λ v ids end. sound_ended v ids end

pub returns-clause-yields : goal.returns-clause-yields
returns-clause-yields c = sound_yields
