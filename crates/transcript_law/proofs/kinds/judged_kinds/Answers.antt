use Rattle.transcript_law.proofs.Words.{refl, empty_chronicle}
use Rattle.transcript_law.proofs.rows.KindRows.{counts_frames, counts_nothing, counts_one}
use Rattle.transcript_law.specs.BoundRows.{one_dialed, zero_down}
use Rattle.script_text.specs.declared.verb.Verb.TheVariants as verb
use Rattle.script_text.specs.declared.verb.VbVerb.TheVariants as vb_verb
use Rattle.script_text.specs.declared.verb.NodeVerb.TheVariants as node_verb
use Rattle.script_text.specs.declared.verb.LinkVerb.TheVariants as link_verb
use Rattle.script_text.specs.declared.verb.ClientVerb.TheVariants as client_verb
use Rattle.transcript_law.proofs.kinds.judged_kinds.Goals as goal

pub returns : goal.returns
returns c = record {
  made = counts_nothing empty_chronicle (verb.Node 0) refl (λ n lines x. x) (λ n why lines x. x);
  vb_active = λ v uuid. counts_nothing empty_chronicle (verb.AtVb 0 v (vb_verb.MakeActive uuid)) refl (λ n lines x. x) (λ n why lines x. x);
  vb_replica = λ v. counts_nothing empty_chronicle (verb.AtVb 0 v vb_verb.MakeReplica) refl (λ n lines x. x) (λ n why lines x. x);
  chain = λ v others. counts_nothing empty_chronicle (verb.AtVb 0 v (vb_verb.Chain others)) refl (λ n lines x. x) (λ n why lines x. x);
  client = λ k. counts_nothing empty_chronicle (verb.AtClient 0 k client_verb.Open) refl (λ n lines x. x) (λ n why lines x. x);
  bytes = λ k sent. counts_nothing empty_chronicle (verb.AtClient 0 k (client_verb.Bytes sent)) refl (λ n lines x. x) (λ n why lines x. x);
  hang = λ k. counts_nothing empty_chronicle (verb.AtClient 0 k client_verb.Hang) refl (λ n lines x. x) (λ n why lines x. x);
  clock = λ nanos. counts_nothing empty_chronicle (verb.AtNode 0 (node_verb.Clock nanos)) refl (λ n lines x. x) (λ n why lines x. x);
  link = λ l v buffer takeover. counts_nothing empty_chronicle (verb.Link l 0 1 v buffer takeover) refl (λ n lines x. x) (λ n why lines x. x);
  cut = counts_nothing one_dialed (verb.AtLink 1 link_verb.Cut) refl (λ n lines x. x) (λ n why lines x. x);
  promote = λ v uuid. counts_nothing empty_chronicle (verb.AtVb 0 v (vb_verb.Promote uuid)) refl (λ n lines x. x) (λ n why lines x. x);
  follow = λ v. counts_nothing empty_chronicle (verb.AtVb 0 v vb_verb.Follow) refl (λ n lines x. x) (λ n why lines x. x);
  dead = λ v. counts_nothing empty_chronicle (verb.AtVb 0 v vb_verb.Dead) refl (λ n lines x. x) (λ n why lines x. x);
  save = λ v. counts_nothing empty_chronicle (verb.AtVb 0 v vb_verb.Save) refl (λ n lines x. x.0) (λ n why lines x. x.0);
  tick = λ v. counts_nothing empty_chronicle (verb.AtVb 0 v vb_verb.Tick) refl (λ n lines x. x) (λ n why lines x. x);
  stat = λ v. counts_nothing empty_chronicle (verb.AtVb 0 v vb_verb.Stat) refl (λ n lines x. x) (λ n why lines x. x);
  log = λ v. counts_nothing empty_chronicle (verb.AtVb 0 v vb_verb.Log) refl (λ n lines x. x) (λ n why lines x. x);
  show = λ v. counts_nothing empty_chronicle (verb.AtVb 0 v vb_verb.Show) refl (λ n lines x. x) (λ n why lines x. x);
  stop = λ call out. counts_nothing empty_chronicle (verb.AtNode 0 (node_verb.Stop call out)) refl (λ n lines x. x) (λ n why lines x. x);
  fail = λ call. counts_nothing empty_chronicle (verb.AtNode 0 (node_verb.Fail call)) refl (λ n lines x. x) (λ n why lines x. x);
  crash = λ out. counts_nothing empty_chronicle (verb.AtNode 0 (node_verb.Crash out)) refl (λ n lines x. x) (λ n why lines x. x);
  start = λ uuids. counts_nothing zero_down (verb.AtNode 0 (node_verb.Start uuids)) refl (λ n lines x. x) (λ n why lines x. x);
  up = λ wanted. counts_one one_dialed (verb.AtLink 1 (link_verb.Up wanted)) refl (λ lines x. x) (λ n why lines x. x);
  down = λ wanted. counts_one one_dialed (verb.AtLink 1 (link_verb.Down wanted)) refl (λ lines x. x.0) (λ n why lines x. x.0);
  seal = λ v. counts_one empty_chronicle (verb.AtVb 0 v vb_verb.Seal) refl (λ lines x. x) (λ n why lines x. x);
  trim = λ v. counts_one empty_chronicle (verb.AtVb 0 v vb_verb.Trim) refl (λ lines x. x) (λ n why lines x. x);
  drop = counts_one one_dialed (verb.AtLink 1 link_verb.Drop) refl (λ lines x. x) (λ n why lines x. x);
  take = λ v. counts_one empty_chronicle (verb.AtVb 0 v vb_verb.Take) refl (λ lines x. x) (λ n why lines x. x);
  done = λ v. counts_one empty_chronicle (verb.AtVb 0 v vb_verb.Done) refl (λ lines x. x) (λ n why lines x. x);
  pump = λ wanted. counts_frames one_dialed (verb.AtLink 1 (link_verb.Pump wanted)) refl (λ lines x. x) (λ n lines x. x);
}
