use Rattle.transcript_law.proofs.rows.KindRows.{fires_at, fires_nothing}
use Rattle.script_text.specs.declared.verb.Verb.TheVariants as verb
use Rattle.script_text.specs.declared.verb.VbVerb.TheVariants as vb_verb
use Rattle.script_text.specs.declared.verb.NodeVerb.TheVariants as node_verb
use Rattle.script_text.specs.declared.verb.LinkVerb.TheVariants as link_verb
use Rattle.script_text.specs.declared.verb.ClientVerb.TheVariants as client_verb
use Rattle.transcript_law.proofs.kinds.judged_firing_lines.Goals as goal

pub returns : goal.returns
returns c = record {
  made = fires_nothing (verb.Node 0) (λ chronicle lines said x. x);
  chain = λ v others. fires_nothing (verb.AtVb 0 v (vb_verb.Chain others)) (λ chronicle lines said x. x);
  client = λ k. fires_nothing (verb.AtClient 0 k client_verb.Open) (λ chronicle lines said x. x);
  bytes = λ k sent. fires_nothing (verb.AtClient 0 k (client_verb.Bytes sent)) (λ chronicle lines said x. x);
  hang = λ k. fires_nothing (verb.AtClient 0 k client_verb.Hang) (λ chronicle lines said x. x);
  clock = λ nanos. fires_nothing (verb.AtNode 0 (node_verb.Clock nanos)) (λ chronicle lines said x. x);
  link = λ l v buffer takeover. fires_nothing (verb.Link l 0 1 v buffer takeover) (λ chronicle lines said x. x);
  up = λ wanted. fires_nothing (verb.AtLink 1 (link_verb.Up wanted)) (λ chronicle lines said x. x);
  pump = λ wanted. fires_nothing (verb.AtLink 1 (link_verb.Pump wanted)) (λ chronicle lines said x. x);
  cut = fires_nothing (verb.AtLink 1 link_verb.Cut) (λ chronicle lines said x. x);
  seal = λ v. fires_nothing (verb.AtVb 0 v vb_verb.Seal) (λ chronicle lines said x. x);
  trim = λ v. fires_nothing (verb.AtVb 0 v vb_verb.Trim) (λ chronicle lines said x. x);
  drop = fires_nothing (verb.AtLink 1 link_verb.Drop) (λ chronicle lines said x. x);
  take = λ v. fires_nothing (verb.AtVb 0 v vb_verb.Take) (λ chronicle lines said x. x);
  done = λ v. fires_nothing (verb.AtVb 0 v vb_verb.Done) (λ chronicle lines said x. x);
  tick = λ v. fires_nothing (verb.AtVb 0 v vb_verb.Tick) (λ chronicle lines said x. x);
  stat = λ v. fires_nothing (verb.AtVb 0 v vb_verb.Stat) (λ chronicle lines said x. x);
  log = λ v. fires_nothing (verb.AtVb 0 v vb_verb.Log) (λ chronicle lines said x. x);
  show = λ v. fires_nothing (verb.AtVb 0 v vb_verb.Show) (λ chronicle lines said x. x);
  stop = λ call out. fires_nothing (verb.AtNode 0 (node_verb.Stop call out)) (λ chronicle lines said x. x);
  fail = λ call. fires_nothing (verb.AtNode 0 (node_verb.Fail call)) (λ chronicle lines said x. x);
  crash = λ out. fires_nothing (verb.AtNode 0 (node_verb.Crash out)) (λ chronicle lines said x. x);
  vb_active = λ v uuid. fires_at 0 (verb.AtVb 0 v (vb_verb.MakeActive uuid)) (λ chronicle lines said x. x);
  vb_replica = λ v. fires_at 0 (verb.AtVb 0 v vb_verb.MakeReplica) (λ chronicle lines said x. x);
  promote = λ v uuid. fires_at 0 (verb.AtVb 0 v (vb_verb.Promote uuid)) (λ chronicle lines said x. x);
  follow = λ v. fires_at 0 (verb.AtVb 0 v vb_verb.Follow) (λ chronicle lines said x. x);
  dead = λ v. fires_at 0 (verb.AtVb 0 v vb_verb.Dead) (λ chronicle lines said x. x);
  save = λ v. fires_at 0 (verb.AtVb 0 v vb_verb.Save) (λ chronicle lines said x. x);
  start = λ uuids. fires_at 0 (verb.AtNode 0 (node_verb.Start uuids)) (λ chronicle lines said x. x);
}
