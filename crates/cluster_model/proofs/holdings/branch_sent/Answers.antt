use Rattle.cluster_model.proofs.holdings.branch_sent.Goals as goal
use Rattle.cluster_model.proofs.Held.{sends, journal_sends}

pub returns-clause-held : goal.returns-clause-held
returns-clause-held c = λ w items top k from end s i x. sends top w s k items from end i x

pub returns-clause-journal : goal.returns-clause-journal
returns-clause-journal c = λ w top k place s i l. journal_sends top w s k place i l
