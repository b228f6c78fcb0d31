use Rattle.disk_journals.proofs.journals.DiskJournals.note_and_reply.Goals as goal

pub returns-in-Err-clause-err : goal.returns-in-Err-clause-err
returns-in-Err-clause-err g c = c.in-Err.ensures.err c.args.reply
