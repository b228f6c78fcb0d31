use Rattle.transcript_law.proofs.Words.{refl, Cause}
use Rattle.transcript_law.proofs.rows.BoundRows.{refused_for, refused_for_one}
use Rattle.transcript_law.specs.BoundRows.{zero_down}
use Rattle.script_text.specs.declared.verb.Verb.TheVariants as verb
use Rattle.script_text.specs.declared.verb.VbVerb.TheVariants as vb_verb
use Rattle.script_text.specs.declared.verb.NodeVerb.TheVariants as node_verb
use Rattle.script_text.specs.declared.verb.ClientVerb.TheVariants as client_verb
use Rattle.transcript_law.proofs.verbs.Handing.{hands_plain}
use Rattle.transcript_law.proofs.bound.judged_down_lines.Goals as goal

pub returns : goal.returns
returns c = record {
  made = refused_for zero_down (verb.Node 0) (λ n c. refl) Cause.NodeExists tt refl refl;
  vb_active = λ v uuid. refused_for zero_down (verb.AtVb 0 v (vb_verb.MakeActive uuid)) (λ n c. refl) Cause.NodeDown tt refl refl;
  vb_replica = λ v. refused_for zero_down (verb.AtVb 0 v vb_verb.MakeReplica) (λ n c. refl) Cause.NodeDown tt refl refl;
  chain = λ v others. refused_for zero_down (verb.AtVb 0 v (vb_verb.Chain others)) (λ n c. refl) Cause.NodeDown tt refl refl;
  client = λ k. refused_for zero_down (verb.AtClient 0 k client_verb.Open) (λ n c. refl) Cause.NodeDown tt refl refl;
  bytes = λ k sent. refused_for zero_down (verb.AtClient 0 k (client_verb.Bytes sent)) (λ n c. refl) Cause.NodeDown tt refl refl;
  hang = λ k. refused_for zero_down (verb.AtClient 0 k client_verb.Hang) (λ n c. refl) Cause.NodeDown tt refl refl;
  clock = λ nanos. refused_for zero_down (verb.AtNode 0 (node_verb.Clock nanos)) (λ n c. refl) Cause.NodeDown tt refl refl;
  promote = λ v uuid. refused_for zero_down (verb.AtVb 0 v (vb_verb.Promote uuid)) (λ n c. refl) Cause.NodeDown tt refl refl;
  follow = λ v. refused_for zero_down (verb.AtVb 0 v vb_verb.Follow) (λ n c. refl) Cause.NodeDown tt refl refl;
  dead = λ v. refused_for zero_down (verb.AtVb 0 v vb_verb.Dead) (λ n c. refl) Cause.NodeDown tt refl refl;
  seal = λ v. refused_for zero_down (verb.AtVb 0 v vb_verb.Seal) (λ n c. refl) Cause.NodeDown tt refl refl;
  trim = λ v. refused_for zero_down (verb.AtVb 0 v vb_verb.Trim) (λ n c. refl) Cause.NodeDown tt refl refl;
  take = λ v. refused_for zero_down (verb.AtVb 0 v vb_verb.Take) (λ n c. refl) Cause.NodeDown tt refl refl;
  save = λ v. refused_for zero_down (verb.AtVb 0 v vb_verb.Save) (λ n c. refl) Cause.NodeDown tt refl refl;
  done = λ v. refused_for zero_down (verb.AtVb 0 v vb_verb.Done) (λ n c. refl) Cause.NodeDown tt refl refl;
  tick = λ v. refused_for zero_down (verb.AtVb 0 v vb_verb.Tick) (λ n c. refl) Cause.NodeDown tt refl refl;
  stat = λ v. refused_for zero_down (verb.AtVb 0 v vb_verb.Stat) (λ n c. refl) Cause.NodeDown tt refl refl;
  log = λ v. refused_for zero_down (verb.AtVb 0 v vb_verb.Log) (λ n c. refl) Cause.NodeDown tt refl refl;
  show = λ v. refused_for zero_down (verb.AtVb 0 v vb_verb.Show) (λ n c. refl) Cause.NodeDown tt refl refl;
  crash = λ out. refused_for zero_down (verb.AtNode 0 (node_verb.Crash out)) (λ n c. refl) Cause.NodeDown tt refl refl;
  producer = λ l v buffer takeover. refused_for_one zero_down (verb.Link l 0 1 v buffer takeover) (λ n c. refl) Cause.NodeDown Cause.UnknownNode tt tt refl refl refl;
  consumer = λ l v buffer takeover. refused_for_one zero_down (verb.Link l 1 0 v buffer takeover) (λ n c. refl) Cause.NodeDown Cause.UnknownNode tt tt refl refl refl;
  start = λ uuids. refused_for_one zero_down (verb.AtNode 1 (node_verb.Start uuids)) (λ n c. refl) Cause.NodeUp Cause.UnknownNode tt tt refl refl refl;
  stops = λ call out. ((tt, tt, refl, refl, (λ w no standing. refl), hands_plain _ _ _ _ refl refl, tt, tt, λ n k opens. cc, tt, tt, (tt, tt)), tt);
  fails = λ call. ((tt, tt, refl, refl, (λ w no standing. refl), hands_plain _ _ _ _ refl refl, tt, tt, λ n k opens. cc, tt, tt, (tt, tt)), tt);
  other = ((tt, tt, refl, refl, (λ w no standing. refl), hands_plain _ _ _ _ refl refl, tt, tt, λ n k opens. cc, tt, tt, (tt, tt)), tt);
  other_link = ((tt, (refl, λ l. refl), refl, refl, (λ w no standing. refl), hands_plain _ _ _ _ refl refl, tt, tt, λ n k opens. cc, tt, tt, (tt, tt)), tt);
  other_crash = λ out. ((tt, (λ c. refl), refl, refl, (λ w no standing. refl), hands_plain _ _ _ _ refl refl, tt, tt, λ n k opens. cc, tt, tt, ((λ l. refl), tt)), tt);
}
