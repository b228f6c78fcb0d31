use Rattle.std.proofs.Common.{refl}
use Rattle.script_text.specs.declared.verb.Verb.TheVariants as verb
use Rattle.script_text.specs.declared.verb.VbVerb.TheVariants as vb_verb
use Rattle.transcript_law.proofs.rows.TellingRows.{may_not}
use Rattle.transcript_law.proofs.tellings.judged_own_lines.Goals as goal
use Rattle.transcript_law.specs.AskedRows.{shown_at}
use Rattle.transcript_law.specs.TellingRows.{batch_at, branches_at, changes_here, log_at, replies, stat_at, stops_at, turns_at}

pub returns : goal.returns
returns c = record {
  save_role = may_not (verb.AtVb 0 0 vb_verb.Save) (turns_at 0 0) (λ r. refl) (λ r m. refl);
  save_branch = may_not (verb.AtVb 0 0 vb_verb.Save) (branches_at 0 0) (λ r. refl) (λ r m. refl);
  save_change = may_not (verb.AtVb 0 0 vb_verb.Save) changes_here (λ r. refl) (λ r m. refl);
  save_reply = may_not (verb.AtVb 0 0 vb_verb.Save) replies (λ r. refl) (λ r m. refl);
  save_elsewhere = may_not (verb.AtVb 0 0 vb_verb.Save) (stops_at 1) (λ r. refl) (λ r m. refl);
  follow_elsewhere = may_not (verb.AtVb 0 0 vb_verb.Follow) (turns_at 1 0) (λ r. refl) (λ r m. refl);
  follow_other = may_not (verb.AtVb 0 0 vb_verb.Follow) (turns_at 0 1) (λ r. refl) (λ r m. refl);
  dead_elsewhere = may_not (verb.AtVb 0 0 vb_verb.Dead) (turns_at 1 0) (λ r. refl) (λ r m. refl);
  dead_other = may_not (verb.AtVb 0 0 vb_verb.Dead) (turns_at 0 1) (λ r. refl) (λ r m. refl);
  promote_elsewhere = λ uuid. may_not (verb.AtVb 0 0 (vb_verb.Promote uuid)) (branches_at 1 0) (λ r. refl) (λ r m. refl);
  promote_other = λ uuid. may_not (verb.AtVb 0 0 (vb_verb.Promote uuid)) (branches_at 0 1) (λ r. refl) (λ r m. refl);
  make_elsewhere = λ uuid. may_not (verb.AtVb 0 0 (vb_verb.MakeActive uuid)) (branches_at 1 0) (λ r. refl) (λ r m. refl);
  make_other = may_not (verb.AtVb 0 0 vb_verb.MakeReplica) (turns_at 0 1) (λ r. refl) (λ r m. refl);
  make_reply = λ uuid. may_not (verb.AtVb 0 0 (vb_verb.MakeActive uuid)) replies (λ r. refl) (λ r m. refl);
  chain_role = λ others. may_not (verb.AtVb 0 0 (vb_verb.Chain others)) (turns_at 0 0) (λ r. refl) (λ r m. refl);
  tick_role = may_not (verb.AtVb 0 0 vb_verb.Tick) (turns_at 0 0) (λ r. refl) (λ r m. refl);
  seal_change = may_not (verb.AtVb 0 0 vb_verb.Seal) changes_here (λ r. refl) (λ r m. refl);
  trim_change = may_not (verb.AtVb 0 0 vb_verb.Trim) changes_here (λ r. refl) (λ r m. refl);
  trim_stat = may_not (verb.AtVb 0 0 vb_verb.Trim) (stat_at 0 0) (λ r. refl) (λ r m. refl);
  take_other = may_not (verb.AtVb 0 0 vb_verb.Take) (batch_at 0 1) (λ r. refl) (λ r m. refl);
  take_change = may_not (verb.AtVb 0 0 vb_verb.Take) changes_here (λ r. refl) (λ r m. refl);
  done_role = may_not (verb.AtVb 0 0 vb_verb.Done) (turns_at 0 0) (λ r. refl) (λ r m. refl);
  stat_other = may_not (verb.AtVb 0 0 vb_verb.Stat) (stat_at 0 1) (λ r. refl) (λ r m. refl);
  stat_elsewhere = may_not (verb.AtVb 0 0 vb_verb.Stat) (stat_at 1 0) (λ r. refl) (λ r m. refl);
  log_other = may_not (verb.AtVb 0 0 vb_verb.Log) (log_at 0 1) (λ r. refl) (λ r m. refl);
  log_elsewhere = may_not (verb.AtVb 0 0 vb_verb.Log) (log_at 1 0) (λ r. refl) (λ r m. refl);
  show_other = may_not (verb.AtVb 0 0 vb_verb.Show) (shown_at 0 1) (λ r. refl) (λ r m. refl);
  show_elsewhere = may_not (verb.AtVb 0 0 vb_verb.Show) (shown_at 1 0) (λ r. refl) (λ r m. refl);
  show_change = may_not (verb.AtVb 0 0 vb_verb.Show) changes_here (λ r. refl) (λ r m. refl);
  show_log = may_not (verb.AtVb 0 0 vb_verb.Show) (log_at 0 0) (λ r. refl) (λ r m. refl);
}
