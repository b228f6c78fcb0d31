use Rattle.ckpt_list.proofs.Exactly.{seals_alone, resets_alone}
use Rattle.ckpt_list.proofs.laws.seals_and_resets_are_plain.Goals as goal

pub returns-clause-seals : goal.returns-clause-seals
returns-clause-seals c = seals_alone

pub returns-clause-resets : goal.returns-clause-resets
returns-clause-resets c = resets_alone
