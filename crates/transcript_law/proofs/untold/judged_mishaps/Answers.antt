use Rattle.script_text.specs.declared.verb.Verb.TheVariants as verb
use Rattle.script_text.specs.declared.verb.VbVerb.TheVariants as vb_verb
use Rattle.script_text.specs.declared.verb.NodeVerb.TheVariants as node_verb
use Rattle.transcript_law.proofs.rows.RefusalRows.{its_cause, no_rollback}
use Rattle.transcript_law.proofs.untold.judged_mishaps.Goals as goal

pub returns : goal.returns
returns c = record {
  vb_active = λ v uuid. its_cause (verb.AtVb 0 v (vb_verb.MakeActive uuid)) (λ chronicle lines said x. x);
  vb_replica = λ v. its_cause (verb.AtVb 0 v vb_verb.MakeReplica) (λ chronicle lines said x. x);
  promote = λ v uuid. its_cause (verb.AtVb 0 v (vb_verb.Promote uuid)) (λ chronicle lines said x. x);
  follow = λ v. its_cause (verb.AtVb 0 v vb_verb.Follow) (λ chronicle lines said x. x);
  dead = λ v. its_cause (verb.AtVb 0 v vb_verb.Dead) (λ chronicle lines said x. x);
  save = λ v. its_cause (verb.AtVb 0 v vb_verb.Save) (λ chronicle lines said x. x);
  start = λ uuids. its_cause (verb.AtNode 0 (node_verb.Start uuids)) (λ chronicle lines said x. x);
  vb_active_back = λ v uuid. no_rollback (verb.AtVb 0 v (vb_verb.MakeActive uuid)) (λ chronicle lines said x. x);
  vb_replica_back = λ v. no_rollback (verb.AtVb 0 v vb_verb.MakeReplica) (λ chronicle lines said x. x);
  promote_back = λ v uuid. no_rollback (verb.AtVb 0 v (vb_verb.Promote uuid)) (λ chronicle lines said x. x);
  follow_back = λ v. no_rollback (verb.AtVb 0 v vb_verb.Follow) (λ chronicle lines said x. x);
  dead_back = λ v. no_rollback (verb.AtVb 0 v vb_verb.Dead) (λ chronicle lines said x. x);
  save_back = λ v. no_rollback (verb.AtVb 0 v vb_verb.Save) (λ chronicle lines said x. x);
  start_back = λ uuids. no_rollback (verb.AtNode 0 (node_verb.Start uuids)) (λ chronicle lines said x. x);
}
