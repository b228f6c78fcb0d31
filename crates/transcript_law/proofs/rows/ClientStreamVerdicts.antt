-- what the vBucket says to a client's request, judged by hand
use Rattle.std.proofs.Common.{List, [], arith, ap, ℕ, ◌∷◌, ◌≡◌}
use Rattle.std.specs.Prelude.{Some}
use Rattle.vb_types.specs.declared.role.LogEntry.{LogEntry}
use Rattle.vb_types.specs.declared.role.Role.TheVariants as role
use Rattle.vb_types.specs.declared.stream.AskAnswer.TheVariants as ask_answer
use Rattle.vb_types.specs.declared.stream.Verdict.TheVariants.{Continue, Roll}
use Rattle.transcript_law.specs.ClientAskRows.{LawfulAsked, asked, asked_by, none, past_both, requesting, that_sent}
use Rattle.transcript_law.specs.ClientStreamRows.{all_changes, turned}
use Rattle.transcript_law.specs.Followers.{log_of}

-- the newest branch of a log
newest : List LogEntry → ℕ
newest [] = 0
newest (e ∷ log) = e.uuid

pub other_log : LawfulAsked (that_sent none (requesting 0 all_changes)) (asked_by 2 (log_of 6) all_changes ask_answer.Go) → ⊥
unfolding newest
other_log l = let same : log_of 5 ≡ log_of 6 = l.0.answered.own_log in let e : ◌≡◌ {A = ℕ} 5 6 = ap newest same in omega (arith, e)

pub other_high : LawfulAsked (that_sent none (requesting 0 all_changes)) (asked_by 3 (log_of 5) all_changes ask_answer.Go) → ⊥
other_high l = let e : ◌≡◌ {A = ℕ} 3 2 = l.0.answered.own_high in omega (arith, e)

pub rolls : LawfulAsked (that_sent none (requesting 0 all_changes)) (asked all_changes (ask_answer.Roll 0)) → ⊥
rolls l = let e : Continue ≡ Roll 0 = l.0.answered.verdict.0 in cc

pub goes_on : LawfulAsked (that_sent none (requesting 0 past_both)) (asked past_both ask_answer.Go) → ⊥
goes_on l = let e : Roll 0 ≡ Continue = l.0.answered.verdict.0 in cc

pub rolls_less : LawfulAsked (that_sent none (requesting 0 past_both)) (asked past_both (ask_answer.Roll 1)) → ⊥
rolls_less l = let e : Roll 0 ≡ Roll 1 = l.0.answered.verdict.0 in let n : ◌≡◌ {A = ℕ} 0 1 = cc in omega (arith, n)

-- one that is not active grants nothing
pub no_active : Some (Some role.Dead) ≡ Some (Some role.Active) → ⊥
no_active e = let one : Some role.Dead ≡ Some role.Active = cc in let z : role.Dead ≡ role.Active = cc in cc

pub dead : LawfulAsked (that_sent none (requesting 0 all_changes)) (turned role.Dead ∷ asked all_changes ask_answer.Go) → ⊥
dead l = no_active l.1.0.answered.active

pub dead_rolls : LawfulAsked (that_sent none (requesting 0 past_both)) (turned role.Dead ∷ asked past_both (ask_answer.Roll 0)) → ⊥
dead_rolls l = no_active l.1.0.answered.active
