use Rattle.transcript_law.proofs.rows.ClientStreamStories as rows
use Rattle.transcript_law.proofs.client_streams.judged_client_stories.Goals as goal

pub returns : goal.returns
returns c = record {
  story = rows.story;
  without = rows.without;
  again = rows.again;
}
