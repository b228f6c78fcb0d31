use Rattle.std.proofs.Common.{refl}
use Rattle.script_text.specs.declared.verb.Verb.TheVariants as verb
use Rattle.script_text.specs.declared.verb.NodeVerb.TheVariants as node_verb
use Rattle.script_text.specs.declared.verb.LinkVerb.TheVariants as link_verb
use Rattle.script_text.specs.declared.verb.ClientVerb.TheVariants as client_verb
use Rattle.transcript_law.proofs.rows.TellingRows.{link_never, may_never, may_not}
use Rattle.transcript_law.proofs.tellings.judged_other_lines.Goals as goal
use Rattle.transcript_law.specs.ClientRows.{closes}
use Rattle.transcript_law.specs.TellingRows.{branches_at, changes_here, ends_at, replies, stops_at, turns_at}

pub returns : goal.returns
returns c = record {
  node = may_not (verb.Node 0) (turns_at 0 0) (λ r. refl) (λ r m. refl);
  link = λ buffer takeover. may_never (verb.Link 1 0 1 0 buffer takeover) (ends_at 1) (λ r. refl) (λ r m. refl);
  clock = λ nanos. may_not (verb.AtNode 0 (node_verb.Clock nanos)) changes_here (λ r. refl) (λ r m. refl);
  clock_closes = λ nanos. may_never (verb.AtNode 0 (node_verb.Clock nanos)) (closes 0 1) (λ r. refl) (λ r m. refl);
  stop = λ k out. may_not (verb.AtNode 0 (node_verb.Stop k out)) (stops_at 0) (λ r. refl) (λ r m. refl);
  fail = λ k. may_not (verb.AtNode 0 (node_verb.Fail k)) (stops_at 0) (λ r. refl) (λ r m. refl);
  crash = λ out. may_not (verb.AtNode 0 (node_verb.Crash out)) (turns_at 0 0) (λ r. refl) (λ r m. refl);
  crash_stop = λ out. may_not (verb.AtNode 0 (node_verb.Crash out)) (stops_at 0) (λ r. refl) (λ r m. refl);
  start_elsewhere = λ uuids. may_not (verb.AtNode 0 (node_verb.Start uuids)) (branches_at 1 0) (λ r. refl) (λ r m. refl);
  start_role = λ uuids. may_not (verb.AtNode 0 (node_verb.Start uuids)) (turns_at 0 0) (λ r. refl) (λ r m. refl);
  opens = may_not (verb.AtClient 0 1 client_verb.Open) replies (λ r. refl) (λ r m. refl);
  hang = may_not (verb.AtClient 0 1 client_verb.Hang) replies (λ r. refl) (λ r m. refl);
  bytes = λ bytes. may_not (verb.AtClient 0 1 (client_verb.Bytes bytes)) (turns_at 0 0) (λ r. refl) (λ r m. refl);
  drop_end = link_never 1 link_verb.Drop (ends_at 1) (λ dial. refl) (λ dial m. refl);
  drop_role = link_never 1 link_verb.Drop (turns_at 0 0) (λ dial. refl) (λ dial m. refl);
  cut_other = link_never 1 link_verb.Cut (ends_at 2) (λ dial. refl) (λ dial m. refl);
  cut_role = link_never 1 link_verb.Cut (turns_at 0 0) (λ dial. refl) (λ dial m. refl);
}
