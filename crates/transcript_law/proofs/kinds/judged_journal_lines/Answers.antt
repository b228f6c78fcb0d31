use Rattle.transcript_law.proofs.rows.KindRows.{meets_journal}
use Rattle.script_text.specs.declared.verb.Verb.TheVariants as verb
use Rattle.script_text.specs.declared.verb.VbVerb.TheVariants as vb_verb
use Rattle.transcript_law.proofs.kinds.judged_journal_lines.Goals as goal

pub returns : goal.returns
returns c = record {
  vb_active = λ uuid. meets_journal (verb.AtVb 0 0 (vb_verb.MakeActive uuid)) (λ closed f lines said l. l.0.1);
  vb_replica = meets_journal (verb.AtVb 0 0 vb_verb.MakeReplica) (λ closed f lines said l. l.0.1);
  promote = λ uuid. meets_journal (verb.AtVb 0 0 (vb_verb.Promote uuid)) (λ closed f lines said l. l.0.1);
  follow = meets_journal (verb.AtVb 0 0 vb_verb.Follow) (λ closed f lines said l. l.0.1);
  dead = meets_journal (verb.AtVb 0 0 vb_verb.Dead) (λ closed f lines said l. l.0.1);
  save = meets_journal (verb.AtVb 0 0 vb_verb.Save) (λ closed f lines said l. l.0.1.0);
}
