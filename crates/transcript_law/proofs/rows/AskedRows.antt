-- lines that do not tell what was asked for, judged by hand
use Rattle.std.specs.Prelude.{◌≡◌, ◌∷◌, ◌++◌, ◌==◌, ◌&&◌, ◌||◌}
use Rattle.transcript_law.proofs.Words.{ℕ, Bool, true, false, List, [], refl, sym, ◌∙◌, subst, arith, ⊎_elim, Option, Answer, Cause, Event, Role, Verb, VbVerb, Chronicle, nothing}
use Rattle.transcript_law.proofs.rows.{AskedTests.{is_log, is_one_turn, is_show, is_stat}, Groups.{Never, whole}, Silent.{shut_heard}, Transcripts.{as_made, shown}}
use Rattle.transcript_law.specs.Asked.{AreAmong, IsLogLine, IsShowLine, IsStatLine, RisesOn, TellsAsAsked, TellsOnce, TurnsTo, turns_in}
use Rattle.transcript_law.specs.AskedRows.{NotDone, NotFailed, NotRefused, here, in_role, logged_here, one_active, shown_at}
use Rattle.transcript_law.specs.BoundRows.{LawfulHere}
use Rattle.transcript_law.specs.Chronicles.{empty_chronicle}
use Rattle.transcript_law.specs.Crashes.{groups_from_number, numbered}
use Rattle.transcript_law.specs.Standing.{IsStanding}
use Rattle.transcript_law.specs.TellingRows.{stat_at}
use Rattle.transcript_law.specs.Transcripts.{active_vb_lines}
use Rattle.transcript_law.proofs.lines.Rises.{made_here}

-- ---- what is told passes the tests

-- lines that are told of a line here
asked_of : (chronicle : Chronicle) (line : Verb) (lines : List Event) (said : Answer) → LawfulHere chronicle line (lines, said) → TellsAsAsked line lines said
asked_of chronicle line lines said l = l.0.6

never : {A : Type 0} {a : Bool} → a ≡ false → a ≡ true → A
never fails holds = let z : false ≡ true = sym fails ∙ holds in cc

module _ (lines : List Event) where
  pub not_shown : is_show 0 0 lines Answer.Ok ≡ false → NotDone (here VbVerb.Show) lines
  not_shown fails chronicle l = never fails (by (asked_of chronicle (here VbVerb.Show) lines Answer.Ok l))
    where
      by : IsShowLine 0 0 lines → is_show 0 0 lines Answer.Ok ≡ true
      by (said, uuid, at, ss, se, docs, preps, image, is, all) = subst (λ ls. is_show 0 0 ls Answer.Ok ≡ true) (sym is) all

  pub not_stat : is_stat 0 0 lines Answer.Ok ≡ false → NotDone (here VbVerb.Stat) lines
  not_stat fails chronicle l = never fails (by (asked_of chronicle (here VbVerb.Stat) lines Answer.Ok l))
    where
      by : IsStatLine 0 0 lines → is_stat 0 0 lines Answer.Ok ≡ true
      by (windows, items, cursors, saved, high, is) = subst (λ ls. is_stat 0 0 ls Answer.Ok ≡ true) (sym is) refl

  pub not_log : is_log 0 0 lines Answer.Ok ≡ false → NotDone (here VbVerb.Log) lines
  not_log fails chronicle l = never fails (by (asked_of chronicle (here VbVerb.Log) lines Answer.Ok l))
    where
      by : IsLogLine 0 0 lines → is_log 0 0 lines Answer.Ok ≡ true
      by (log, is) = subst (λ ls. is_log 0 0 ls Answer.Ok ≡ true) (sym is) refl

some_is_not_none : (line : Event) (lines : List Event) → line ∷ lines ≡ [] → ⊥
some_is_not_none line lines e = cc

pub show_silent : (first : Event) (lines : List Event) → NotRefused (here VbVerb.Show) (first ∷ lines)
show_silent first lines chronicle why l = some_is_not_none first lines (asked_of chronicle (here VbVerb.Show) (first ∷ lines) (Answer.No why) l)

pub stat_silent : (first : Event) (lines : List Event) → NotRefused (here VbVerb.Stat) (first ∷ lines)
stat_silent first lines chronicle why l = some_is_not_none first lines (asked_of chronicle (here VbVerb.Stat) (first ∷ lines) (Answer.No why) l)

pub log_silent : (first : Event) (lines : List Event) → NotRefused (here VbVerb.Log) (first ∷ lines)
log_silent first lines chronicle why l = some_is_not_none first lines (asked_of chronicle (here VbVerb.Log) (first ∷ lines) (Answer.No why) l)

-- a vBucket that changes its role and is not refused where it stood tells of it
module _ (Own : List Event → Type 0) (lines : List Event) where
  done_once : TellsOnce Own lines Answer.Ok → Own lines
  done_once t = ⊎_elim (λ r. let z : Answer.Ok ≡ Answer.No r.0 = r.1 in cc) (λ o. o) t

  closed_once : TellsOnce Own lines (Answer.No Cause.Closed) → Own lines
  closed_once t = ⊎_elim (λ r. let same : Cause.Closed ≡ r.0 = cause_of Cause.Closed r.0 r.1 in absurd (subst IsStanding (sym same) r.2)) (λ o. o) t
    where
      cause_of : (a b : Cause) → Answer.No a ≡ Answer.No b → a ≡ b
      cause_of a b e = cc

  failed_once : TellsOnce Own lines (Answer.No Cause.Disk) → Own lines
  failed_once t = ⊎_elim (λ r. let same : Cause.Disk ≡ r.0 = cause_of Cause.Disk r.0 r.1 in absurd (subst IsStanding (sym same) r.2)) (λ o. o) t
    where
      cause_of : (a b : Cause) → Answer.No a ≡ Answer.No b → a ≡ b
      cause_of a b e = cc

-- the two lines of a new branch and its role
abbrev is_pair : ℕ → List Event → Bool
is_pair uuid (Event.Branch m u id parent fork high ∷ Event.Role k y Role.Active ∷ []) = m == 0 && (u == 0 && (id == uuid && (k == 0 && y == 0)))
is_pair uuid other = false

-- they stand first, or together
abbrev starts_pair : List Event → Bool
starts_pair (Event.Branch m u id parent fork high ∷ Event.Role k y Role.Active ∷ lines) = true
starts_pair other = false

abbrev have_pair : List Event → Bool
have_pair [] = false
have_pair (line ∷ lines) = starts_pair (line ∷ lines) || have_pair lines

or_later : (a b : Bool) → b ≡ true → (a || b) ≡ true
or_later true b e = refl
or_later false b e = e

pair_stands : (uuid : ℕ) (parent : Option ℕ) (fork high : ℕ) (front behind : List Event) → have_pair (front ++ Event.Branch 0 0 uuid parent fork high ∷ Event.Role 0 0 Role.Active ∷ behind) ≡ true
pair_stands uuid parent fork high [] behind = refl
pair_stands uuid parent fork high (line ∷ front) behind = or_later (starts_pair (line ∷ (front ++ Event.Branch 0 0 uuid parent fork high ∷ Event.Role 0 0 Role.Active ∷ behind))) _ (pair_stands uuid parent fork high front behind)

pub not_risen : (uuid : ℕ) (lines : List Event) → (uuid == uuid) ≡ true → (is_pair uuid (turns_in lines) && have_pair lines) ≡ false → RisesOn 0 0 uuid lines → ⊥
not_risen uuid lines same fails r = never fails (λ i. (subst (λ ls. is_pair uuid ls ≡ true) (sym r.alone) (λ j. same j && true) i && subst (λ ls. have_pair ls ≡ true) (sym r.together) (pair_stands uuid r.parent r.fork r.high r.front r.behind) i))

pub not_turned : (role : Role) (lines : List Event) → is_one_turn 0 0 role (Event.Role 0 0 role ∷ []) ≡ true → is_one_turn 0 0 role (turns_in lines) ≡ false → TurnsTo 0 0 role lines → ⊥
not_turned role lines same fails t = never fails (subst (λ ls. is_one_turn 0 0 role ls ≡ true) (sym t) same)

module _ (lines : List Event) where
  pub not_made : (is_pair 5 (turns_in lines) && have_pair lines) ≡ false → NotDone (here (VbVerb.MakeActive 5)) lines
  not_made fails chronicle l = not_risen 5 lines refl fails (done_once (RisesOn 0 0 5) lines (asked_of chronicle (here (VbVerb.MakeActive 5)) lines Answer.Ok l))

  pub not_failed : (is_pair 5 (turns_in lines) && have_pair lines) ≡ false → NotFailed (here (VbVerb.MakeActive 5)) lines
  not_failed fails chronicle l = not_risen 5 lines refl fails (failed_once (RisesOn 0 0 5) lines (asked_of chronicle (here (VbVerb.MakeActive 5)) lines (Answer.No Cause.Disk) l))

  pub not_promoted : (is_pair 7 (turns_in lines) && have_pair lines) ≡ false → NotDone (here (VbVerb.Promote 7)) lines
  not_promoted fails chronicle l = not_risen 7 lines refl fails (done_once (RisesOn 0 0 7) lines (asked_of chronicle (here (VbVerb.Promote 7)) lines Answer.Ok l))

  pub not_promoted_failed : (is_pair 7 (turns_in lines) && have_pair lines) ≡ false → NotFailed (here (VbVerb.Promote 7)) lines
  not_promoted_failed fails chronicle l = not_risen 7 lines refl fails (failed_once (RisesOn 0 0 7) lines (asked_of chronicle (here (VbVerb.Promote 7)) lines (Answer.No Cause.Disk) l))

  pub not_dead_closed : is_one_turn 0 0 Role.Dead (turns_in lines) ≡ false → (chronicle : Chronicle) → LawfulHere chronicle (here VbVerb.Dead) (lines, Answer.No Cause.Closed) → ⊥
  not_dead_closed fails chronicle l = not_turned Role.Dead lines refl fails (closed_once (TurnsTo 0 0 Role.Dead) lines (asked_of chronicle (here VbVerb.Dead) lines (Answer.No Cause.Closed) l))

  pub no_replica : is_one_turn 0 0 Role.Replica (turns_in lines) ≡ false → NotDone (here VbVerb.MakeReplica) lines
  no_replica fails chronicle l = not_turned Role.Replica lines refl fails (done_once (TurnsTo 0 0 Role.Replica) lines (asked_of chronicle (here VbVerb.MakeReplica) lines Answer.Ok l))

  pub not_following : is_one_turn 0 0 Role.Replica (turns_in lines) ≡ false → NotDone (here VbVerb.Follow) lines
  not_following fails chronicle l = not_turned Role.Replica lines refl fails (done_once (TurnsTo 0 0 Role.Replica) lines (asked_of chronicle (here VbVerb.Follow) lines Answer.Ok l))

  pub not_dead : is_one_turn 0 0 Role.Dead (turns_in lines) ≡ false → NotDone (here VbVerb.Dead) lines
  not_dead fails chronicle l = not_turned Role.Dead lines refl fails (done_once (TurnsTo 0 0 Role.Dead) lines (asked_of chronicle (here VbVerb.Dead) lines Answer.Ok l))

  pub not_dead_failed : is_one_turn 0 0 Role.Dead (turns_in lines) ≡ false → NotFailed (here VbVerb.Dead) lines
  not_dead_failed fails chronicle l = not_turned Role.Dead lines refl fails (failed_once (TurnsTo 0 0 Role.Dead) lines (asked_of chronicle (here VbVerb.Dead) lines (Answer.No Cause.Disk) l))

-- ---- what is lawful

pub right_show : LawfulHere one_active (here VbVerb.Show) (shown_at 0 0 ∷ [], Answer.Ok)
right_show = whole one_active (numbered 1 (here VbVerb.Show ∷ [])) (groups_from_number 1 ((shown_at 0 0 ∷ [], Answer.Ok) ∷ [])) refl
    (((shown _ _ _ refl refl refl refl nothing refl refl as_made (λ _. refl) (λ _. refl), tt), tt, refl), tt) (shut_heard one_active (numbered 1 (here VbVerb.Show ∷ [])) (groups_from_number 1 ((shown_at 0 0 ∷ [], Answer.Ok) ∷ [])) (λ n c. refl) refl) (Never (λ l. refl))

pub right_stat : LawfulHere one_active (here VbVerb.Stat) (stat_at 0 0 ∷ [], Answer.Ok)
right_stat = whole one_active (numbered 1 (here VbVerb.Stat ∷ [])) (groups_from_number 1 ((stat_at 0 0 ∷ [], Answer.Ok) ∷ [])) refl
    (((record { saved_as_known = refl; high_held = refl; flusher = omega arith; filled = omega arith }, tt), tt, refl), tt) (shut_heard one_active (numbered 1 (here VbVerb.Stat ∷ [])) (groups_from_number 1 ((stat_at 0 0 ∷ [], Answer.Ok) ∷ [])) (λ n c. refl) refl) (Never (λ l. refl))

pub right_log : LawfulHere one_active (here VbVerb.Log) (logged_here ∷ [], Answer.Ok)
right_log = whole one_active (numbered 1 (here VbVerb.Log ∷ [])) (groups_from_number 1 ((logged_here ∷ [], Answer.Ok) ∷ [])) refl (((refl, tt), tt, refl), tt) (shut_heard one_active (numbered 1 (here VbVerb.Log ∷ [])) (groups_from_number 1 ((logged_here ∷ [], Answer.Ok) ∷ [])) (λ n c. refl) refl) (Never (λ l. refl))

pub right_made : LawfulHere empty_chronicle (here (VbVerb.MakeActive 5)) (active_vb_lines 0 5, Answer.Ok)
right_made = whole empty_chronicle (numbered 1 (here (VbVerb.MakeActive 5) ∷ [])) (groups_from_number 1 ((active_vb_lines 0 5, Answer.Ok) ∷ [])) refl
    (((record { new = tt; newest = refl; last = refl; leaves = refl }, (record { another = λ e. cc; anew = λ e. made_here _ _ _ 5 refl refl refl; pending = λ e. cc }, tt)), (refl, tt), refl), tt) (shut_heard empty_chronicle (numbered 1 (here (VbVerb.MakeActive 5) ∷ [])) (groups_from_number 1 ((active_vb_lines 0 5, Answer.Ok) ∷ [])) (λ n c. refl) refl) (Never (λ l. refl))

pub right_replica : LawfulHere empty_chronicle (here VbVerb.MakeReplica) (in_role 0 0 Role.Replica ∷ [], Answer.Ok)
right_replica = whole empty_chronicle (numbered 1 (here VbVerb.MakeReplica ∷ [])) (groups_from_number 1 ((in_role 0 0 Role.Replica ∷ [], Answer.Ok) ∷ [])) refl
    (((record { another = λ e. cc; anew = λ e. cc; pending = λ e. cc }, tt), (refl, tt), refl), tt) (shut_heard empty_chronicle (numbered 1 (here VbVerb.MakeReplica ∷ [])) (groups_from_number 1 ((in_role 0 0 Role.Replica ∷ [], Answer.Ok) ∷ [])) (λ n c. refl) refl) (Never (λ l. refl))

-- ---- the ids of a start

two_named : (id : ℕ) (ids : List ℕ) → (id ≡ 7 → ⊥) → (id ≡ 8 → ⊥) → AreAmong (id ∷ ids) (7 ∷ 8 ∷ []) → ⊥
two_named id ids fails nor a = ⊎_elim (λ h. fails h.0) (λ l. ⊎_elim (λ h. nor h.0) (λ x. x) l) a

pub ids_other : AreAmong (9 ∷ []) (7 ∷ 8 ∷ []) → ⊥
ids_other a = two_named 9 [] (λ e. omega arith) (λ e. omega arith) a

pub ids_order : AreAmong (8 ∷ 7 ∷ []) (7 ∷ 8 ∷ []) → ⊥
ids_order a = ⊎_elim (λ h. let e : ◌≡◌ {A = ℕ} 8 7 = h.0 in omega arith) (λ l. ⊎_elim (λ h. h.1) (λ x. x) l) a

pub ids_twice : AreAmong (7 ∷ 7 ∷ []) (7 ∷ 8 ∷ []) → ⊥
ids_twice a = ⊎_elim (λ h. ⊎_elim (λ k. let e : ◌≡◌ {A = ℕ} 7 8 = k.0 in omega arith) (λ x. x) h.1) (λ l. ⊎_elim (λ h. let e : ◌≡◌ {A = ℕ} 7 8 = h.0 in omega arith) (λ x. x) l) a
