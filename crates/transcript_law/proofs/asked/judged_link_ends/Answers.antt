use Rattle.transcript_law.proofs.Words.{refl}
use Rattle.transcript_law.proofs.rows.{Followers.{right}, TellingRows.{link_never, may_not, not_first}}
use Rattle.vb_events.specs.declared.event.Event.TheVariants as event
use Rattle.script_text.specs.declared.verb.LinkVerb.TheVariants as link_verb
use Rattle.script_text.specs.declared.verb.VbVerb.TheVariants as vb_verb
use Rattle.transcript_law.proofs.asked.judged_link_ends.Goals as goal
use Rattle.transcript_law.specs.{AskedRows.{item_of, adopts_by, acks_at, asks_of, counts_of, down_one, finishes, gets_by, here, marks_of, ranges_at}, TellingRows.{batch_at, changes_here, stops_at}}

pub returns : goal.returns
returns c = record {
  right = right;
  up_other = λ ask. link_never 1 (link_verb.Up 9) (asks_of 2 ask) (λ dial. refl) (λ dial m. refl);
  up_counts = link_never 1 (link_verb.Up 9) (counts_of 2) (λ dial. refl) (λ dial m. refl);
  up_mark = link_never 1 (link_verb.Up 9) (marks_of 1) (λ dial. refl) (λ dial m. refl);
  up_range = link_never 1 (link_verb.Up 9) (ranges_at 1 0) (λ dial. refl) (λ dial m. refl);
  up_batch = link_never 1 (link_verb.Up 9) (batch_at 0 0) (λ dial. refl) (λ dial m. refl);
  up_stop = link_never 1 (link_verb.Up 9) (stops_at 0) (λ dial. refl) (λ dial m. refl);
  pump_other = link_never 1 (link_verb.Pump 9) (marks_of 2) (λ dial. refl) (λ dial m. refl);
  pump_finish = link_never 1 (link_verb.Pump 9) (finishes 2) (λ dial. refl) (λ dial m. refl);
  up_item = link_never 1 (link_verb.Up 9) (item_of 1) (λ dial. refl) (λ dial m. refl);
  up_got = link_never 1 (link_verb.Up 9) (gets_by 1 1 0) (λ dial. refl) (λ dial m. refl);
  pump_item = link_never 1 (link_verb.Pump 9) (item_of 2) (λ dial. refl) (λ dial m. refl);
  pump_range = link_never 1 (link_verb.Pump 9) (ranges_at 1 0) (λ dial. refl) (λ dial m. refl);
  down_item = not_first down_one (item_of 1) refl;
  adopt_other_vb = not_first down_one (adopts_by 1 1) refl;
  adopt_elsewhere = not_first down_one (adopts_by 0 0) refl;
  roll_other_vb = not_first down_one (event.Rolled 1 1 0 0) refl;
  pump_ask = λ ask. link_never 1 (link_verb.Pump 9) (asks_of 1 ask) (λ dial. refl) (λ dial m. refl);
  pump_got = link_never 1 (link_verb.Pump 9) (gets_by 1 1 0) (λ dial. refl) (λ dial m. refl);
  pump_change = link_never 1 (link_verb.Pump 9) changes_here (λ dial. refl) (λ dial m. refl);
  down_mark = not_first down_one (marks_of 1) refl;
  down_ask = λ ask. not_first down_one (asks_of 1 ask) refl;
  down_counts = not_first down_one (counts_of 1) refl;
  down_change = not_first down_one changes_here refl;
  down_other = not_first down_one (gets_by 2 1 0) refl;
  down_other_vb = not_first down_one (gets_by 1 1 1) refl;
  down_elsewhere = not_first down_one (gets_by 1 0 0) refl;
  range_other_vb = not_first down_one (ranges_at 1 1) refl;
  range_elsewhere = not_first down_one (ranges_at 0 0) refl;
  ack_other_vb = not_first down_one (acks_at 1 1) refl;
  ack_elsewhere = not_first down_one (acks_at 0 0) refl;
  down_stop = not_first down_one (stops_at 0) refl;
  done_other = may_not (here vb_verb.Done) (acks_at 0 1) (λ r. refl) (λ r m. refl);
  done_elsewhere = may_not (here vb_verb.Done) (acks_at 1 0) (λ r. refl) (λ r m. refl);
}
