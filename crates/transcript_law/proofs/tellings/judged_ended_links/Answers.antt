use Rattle.transcript_law.proofs.Words.{[], refl}
use Rattle.script_text.specs.declared.verb.Verb.TheVariants as verb
use Rattle.script_text.specs.declared.verb.VbVerb.TheVariants as vb_verb
use Rattle.script_text.specs.declared.verb.NodeVerb.TheVariants as node_verb
use Rattle.script_text.specs.declared.verb.LinkVerb.TheVariants as link_verb
use Rattle.vb_events.specs.declared.event.EndReason.TheVariants as reason
use Rattle.vb_events.specs.declared.event.Event.TheVariants as event
use Rattle.transcript_law.proofs.rows.TellingRows.{crashed, link_never, may_never, may_not, not_behind_stop, not_first}
use Rattle.transcript_law.proofs.tellings.judged_ended_links.Goals as goal
use Rattle.transcript_law.specs.{AskedRows.{down_one}, ClientRows.{closes}, TellingRows.{ends_at, ends_for, makes_at, stops_at, turns_at}}

pub returns : goal.returns
returns c = record {
  crash_source = crashed.0;
  crash_follower = crashed.1;
  crash_elsewhere = λ out. not_first (verb.AtNode 2 (node_verb.Crash out)) (ends_at 1) refl;
  crash_other = λ out. not_first (verb.AtNode 1 (node_verb.Crash out)) (ends_at 2) refl;
  crash_reason = λ out. may_not (verb.AtNode 1 (node_verb.Crash out)) (ends_for 1 reason.Protocol) (λ r. refl) (λ r m. refl);
  crash_client = λ out. may_never (verb.AtNode 1 (node_verb.Crash out)) (closes 0 1) (λ r. refl) (λ r m. refl);
  promote_other = λ uuid. not_first (verb.AtVb 1 1 (vb_verb.Promote uuid)) (ends_at 1) refl;
  promote_source = λ uuid. not_first (verb.AtVb 0 0 (vb_verb.Promote uuid)) (ends_at 1) refl;
  promote_reason = λ uuid. may_not (verb.AtVb 1 0 (vb_verb.Promote uuid)) (ends_for 1 reason.Protocol) (λ r. refl) (λ r m. refl);
  follow_other = not_first (verb.AtVb 1 1 vb_verb.Follow) (ends_at 1) refl;
  follow_source = not_first (verb.AtVb 0 0 vb_verb.Follow) (ends_at 1) refl;
  follow_reason = may_not (verb.AtVb 1 0 vb_verb.Follow) (ends_for 1 reason.Protocol) (λ r. refl) (λ r m. refl);
  dead_other = not_first (verb.AtVb 1 1 vb_verb.Dead) (ends_at 1) refl;
  dead_source = not_first (verb.AtVb 0 0 vb_verb.Dead) (ends_at 1) refl;
  dead_reason = may_not (verb.AtVb 1 0 vb_verb.Dead) (ends_for 1 reason.Protocol) (λ r. refl) (λ r m. refl);
  save_early = not_first (verb.AtVb 1 0 vb_verb.Save) (ends_at 1) refl;
  save_client = not_first (verb.AtVb 1 0 vb_verb.Save) (closes 1 1) refl;
  make_early = not_first (verb.AtVb 1 0 vb_verb.MakeReplica) (ends_at 1) refl;
  stop_elsewhere = not_behind_stop (verb.AtVb 2 0 vb_verb.Save) 2 (ends_at 1) refl;
  stop_reason = not_behind_stop (verb.AtVb 1 0 vb_verb.Save) 1 (ends_for 1 reason.Protocol) refl;
  stop_client = not_behind_stop (verb.AtVb 1 0 vb_verb.Save) 1 (closes 0 1) refl;
  stop_fails = not_behind_stop (verb.AtVb 1 0 vb_verb.Save) 1 (event.CallFailed 1) refl;
  stop_again = not_behind_stop (verb.AtVb 1 0 vb_verb.Save) 1 (stops_at 1) refl;
  stop_role = not_behind_stop (verb.AtVb 1 0 vb_verb.Follow) 1 (turns_at 1 0) refl;
  stop_change = not_behind_stop (verb.AtNode 1 (node_verb.Start [])) 1 (makes_at 1) refl;
  down_other = not_first down_one (ends_at 2) refl;
  down_cut = not_first down_one (ends_at 1) refl;
  down_stopped = not_behind_stop down_one 1 (ends_at 2) refl;
  cut_reason = link_never 1 link_verb.Cut (ends_for 1 reason.Protocol) (λ dial. refl) (λ dial m. refl);
  up_ends = link_never 1 (link_verb.Up 9) (ends_at 1) (λ dial. refl) (λ dial m. refl);
  pump_ends = link_never 1 (link_verb.Pump 9) (ends_at 1) (λ dial. refl) (λ dial m. refl);
}
