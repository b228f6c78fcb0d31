use Rattle.std.specs.Prelude.{◌∷◌}
use Rattle.transcript_law.proofs.Words.{[], refl, arith, after_dead, Role}
use Rattle.transcript_law.proofs.rows.{AskedRows.{no_replica, not_dead, not_dead_failed, not_failed, not_following, not_made, not_promoted, not_promoted_failed, not_dead_closed, right_made, right_replica}, ClosedRows.{stands}, Groups.{Never, whole}, Silent.{shut_heard}}
use Rattle.transcript_law.proofs.asked.judged_turns.Goals as goal
use Rattle.transcript_law.specs.AskedRows.{fails_here, in_role, made_at}
use Rattle.transcript_law.specs.Contrary.{promoted_groups, promotes_dead, risen_lines}
use Rattle.transcript_law.specs.TellingRows.{ends_at}
use Rattle.transcript_law.specs.Transcripts.{active_vb_lines}
use Rattle.vb_events.specs.declared.event.Answer.TheVariants as answer
use Rattle.transcript_law.proofs.lines.Rises.{made_here}

pub returns : goal.returns
returns c = record {
  made = right_made;
  made_other_id = not_made (active_vb_lines 0 6) refl;
  made_no_role = not_made (made_at 0 0 5 ∷ []) refl;
  made_no_branch = not_made (in_role 0 0 Role.Active ∷ []) refl;
  made_none = not_made [] refl;
  made_other_vb = not_made (made_at 0 0 5 ∷ in_role 0 1 Role.Active ∷ []) refl;
  made_elsewhere = not_made (made_at 1 0 5 ∷ in_role 0 0 Role.Active ∷ []) refl;
  made_other_role = not_made (made_at 0 0 5 ∷ in_role 0 0 Role.Replica ∷ []) refl;
  made_apart = not_made (made_at 0 0 5 ∷ ends_at 1 ∷ in_role 0 0 Role.Active ∷ []) refl;
  made_round = not_made (in_role 0 0 Role.Active ∷ made_at 0 0 5 ∷ []) refl;
  made_twice = not_made (made_at 0 0 5 ∷ in_role 0 0 Role.Active ∷ in_role 0 0 Role.Active ∷ []) refl;
  made_failed = not_failed [] refl;
  promoted = whole after_dead promotes_dead (promoted_groups 1 risen_lines answer.Ok) refl
      (((record { new = (λ e. omega arith, tt); newest = refl; last = refl; leaves = refl }, (record { another = λ e. cc; anew = λ e. made_here _ _ _ 7 refl refl refl; pending = λ e. cc }, tt)), (refl, tt), refl), tt) (shut_heard after_dead promotes_dead (promoted_groups 1 risen_lines answer.Ok) (λ n c. refl) refl) (Never (λ l. refl));
  promoted_no_branch = not_promoted (in_role 0 0 Role.Active ∷ []) refl;
  promoted_other_id = not_promoted (made_at 0 0 6 ∷ in_role 0 0 Role.Active ∷ []) refl;
  promoted_round = not_promoted (in_role 0 0 Role.Active ∷ made_at 0 0 7 ∷ []) refl;
  promoted_failed = not_promoted_failed (fails_here ∷ []) refl;
  dead_untold = not_dead_failed (fails_here ∷ []) refl;
  dead_closed = not_dead_closed [] refl;
  promoted_no_role = not_promoted (made_at 0 0 7 ∷ []) refl;
  replica = right_replica;
  replica_none = no_replica [] refl;
  replica_dead = no_replica (in_role 0 0 Role.Dead ∷ []) refl;
  replica_branch = no_replica (made_at 0 0 5 ∷ in_role 0 0 Role.Replica ∷ []) refl;
  dead = stands;
  dead_none = not_dead [] refl;
  dead_replica = not_dead (in_role 0 0 Role.Replica ∷ []) refl;
  dead_failed = not_dead_failed [] refl;
  follow_none = not_following [] refl;
  follow_dead = not_following (in_role 0 0 Role.Dead ∷ []) refl;
  follow_twice = not_following (in_role 0 0 Role.Replica ∷ in_role 0 0 Role.Replica ∷ []) refl;
}
