-- durable writes of which it is told that nobody knows what became of them, judged by hand
use Rattle.std.proofs.Common.{List, [], ap, arith, inl, inr, false, true, refl, subst, sym, ℕ, ⊎_elim, ◌++◌, ◌∙◌, ◌∷◌, ◌≡◌, ◌⊎◌, ◌<◌}
use Rattle.std.specs.Prelude.{◌-◌, ◌^◌, Bool, Option, Some, None}
unfoldable use Rattle.mcbp_dcp.specs.Messages.{read_of}
unfoldable use Rattle.mcbp_dcp.specs.Rows.{frame_row}
unfoldable use Rattle.mcbp_dcp.specs.Shapes.{shape_fault}
unfoldable use Rattle.mcbp_frame.specs.Cutting.{frames_in}
unfoldable use Rattle.mcbp_frame.specs.Frames.{first_frame, frame_of}
unfoldable use Rattle.mcbp_frame.specs.Spelling.{spelling}
unfoldable use Rattle.mcbp_kv.specs.Framing.{requirement_of}
unfoldable use Rattle.mcbp_kv.specs.Requests.{request_of}
use Rattle.client_session.specs.declared.session.Settings.{Settings}
use Rattle.mcbp_frame.specs.declared.frame.Frame.{Frame}
use Rattle.mcbp_kv.specs.Answers.{IsBare, bare_answer}
use Rattle.mcbp_kv.specs.Replies.{reply_frame}
use Rattle.mcbp_kv.specs.declared.durable.Durability.{Durability}
use Rattle.mcbp_kv.specs.declared.opcodes.TheConstants.{DELETE, SET}
use Rattle.vb_events.specs.declared.event.Answer.TheVariants as answer
use Rattle.vb_types.specs.Images.{Picture, image_of}
use Rattle.vb_types.specs.Statuses.{status_code}
use Rattle.vb_types.specs.declared.change.Act.TheVariants as act
use Rattle.vb_types.specs.declared.change.Change.{Change}
use Rattle.vb_types.specs.declared.change.Level.{Level}
use Rattle.vb_types.specs.declared.change.Level.TheVariants.{Majority, MajorityPersistActive}
use Rattle.vb_types.specs.declared.doc.Doc.{Doc}
use Rattle.vb_types.specs.declared.role.Role.{Role}
use Rattle.vb_types.specs.declared.role.Role.TheVariants as role
use Rattle.vb_types.specs.declared.status.Status.{Status}
use Rattle.vb_types.specs.declared.status.Status.TheVariants as status
use Rattle.vb_types.specs.declared.write.Op.TheVariants as op
use Rattle.vb_types.specs.declared.write.Write.{Write}
use Rattle.transcript_law.specs.AnswerRows.{LawfulAwaited, LawfulFar, LawfulTo, answers, awaiting, durably, durably_removes, makes, prepared_line, says}
use Rattle.transcript_law.specs.UnsureRows.{LawfulAnew, LawfulGone, LawfulGoneBy, LawfulLate, LawfulTold, LawfulToldBy, aborted, durably_within, gave_up, had_committed, half_a_minute, prepared_when, unknown_set}
use Rattle.transcript_law.specs.ClientAskRows.{serving, ticks, unopened}
use Rattle.transcript_law.specs.ClientRows.{noop}
use Rattle.transcript_law.specs.ClientStreamRows.{pending, turned}
use Rattle.transcript_law.specs.ClientStreams.{ClientsKnown, blank_client}
use Rattle.transcript_law.specs.Crashes.{ok}
use Rattle.transcript_law.specs.LawfulAnswers.{HavePassed, IsCommitted, IsUnsure, IsWhyRefused, LacksMajority, LostOf, PreparesIn}
use Rattle.transcript_law.specs.Lawfulness.{LawfulChange}
use Rattle.transcript_law.specs.LinesTold.{LastLine, OwnChange, alone}
use Rattle.transcript_law.specs.Transcripts.{first_doc}
use Rattle.transcript_law.proofs.rows.AnswerCommits.{nine_set}
use Rattle.transcript_law.proofs.rows.AnswerRefusals.{status_byte, unfit_is}
use Rattle.transcript_law.proofs.rows.Answering.{asked_so, bare_bytes, bare_so, byte_at, first_number, response_of, stored_bytes}
use Rattle.transcript_law.proofs.rows.ClientStreamVerdicts.{no_active}
use Rattle.transcript_law.proofs.rows.NextRows.{none_pending, none_stored, resolving_next}
use Rattle.transcript_law.proofs.rows.Silent.{here_answered}
use Rattle.transcript_law.proofs.rows.WaitingKeys.{nine_waits, waits as pend}
use Rattle.transcript_law.proofs.verbs.Handing.{hands_plain}

-- ---- where nobody knows

-- what is so of the changes that were told with the prepare is so of those that are known as such
same_told : (line : OwnChange) (told : List OwnChange) → ◌≡◌ {A = Option (List OwnChange)} (Some (line ∷ [])) (Some told) → line ∷ [] ≡ told
same_told line told e = cc

lost_so : {line : OwnChange} {role : Option (Option Role)} {made : List OwnChange} {wish : Durability} → LostOf 0 0 role made nine_set wish (line ∷ []) → (told : List OwnChange) → ◌≡◌ {A = Option (List OwnChange)} (Some (line ∷ [])) (Some told) → LostOf 0 0 role made nine_set wish told
lost_so {line} {role} {made} {wish} lost told e = subst (LostOf 0 0 role made nine_set wish) (same_told line told e) lost

-- so many milliseconds are asked for
abbrev within : ℕ → Durability
within millis = record { level = Majority; timeout = millis }

-- the set of the key 9 was prepared then
abbrev prepared_then : (since : ℕ) → PreparesIn 0 0 2 (9 ∷ []) Majority (first_doc 2 (6 ∷ [])) false (prepared_when since ∷ [])
prepared_then since = record { first = prepared_when since; among = inl refl; node = refl; vb = refl; seq = refl; key = refl; act = refl }

-- its vBucket is dead
pub gone : {made : List OwnChange} (told : List OwnChange) → ◌≡◌ {A = Option (List OwnChange)} (Some (prepared_line ∷ [])) (Some told) → LostOf 0 0 (Some (Some role.Dead)) made nine_set (within 30000) told
gone = lost_so (record { prepared = 2; cas = 2; rev = 1; names = prepared_then 0; lost = inl no_active })

not_replica : Some (Some role.Replica) ≡ Some (Some role.Active) → ⊥
not_replica e = let one : Some role.Replica ≡ Some role.Active = cc in let z : role.Replica ≡ role.Active = cc in cc

-- or follows
followed : (told : List OwnChange) → ◌≡◌ {A = Option (List OwnChange)} (Some (prepared_line ∷ [])) (Some told) → LostOf 0 0 (Some (Some role.Replica)) [] nine_set (within 30000) told
followed = lost_so (record { prepared = 2; cas = 2; rev = 1; names = prepared_then 0; lost = inl not_replica })

-- or gave it up
given : (millis since clock : ℕ) → HavePassed millis since clock → (told : List OwnChange) → ◌≡◌ {A = Option (List OwnChange)} (Some (prepared_when since ∷ [])) (Some told) → LostOf 0 0 (Some (Some role.Active)) (gave_up 2 9 clock ∷ []) nine_set (within millis) told
given millis since clock late =
    lost_so (record { prepared = 2; cas = 2; rev = 1; names = prepared_then since; lost = inr (record { one = gave_up 2 9 clock; told_before = inl refl; node = refl; vb = refl; key = refl; aborts = refl; late = late }) })

-- ---- what an answer is by which nobody knows

-- a refusal of this status has another number
abbrev Other : ℕ → ℕ → Status → Type 0
Other code opaque st = (known : Status) × (st ≡ known) × (byte_at 7 (spelling (response_of code 0 (status_code known) opaque 0 [] [])) ≡ 163 → ⊥)

only_unsure : {bytes : List ℕ} {g f : Frame} {a c d e n v : ℕ} {Why First : Status → Type 0} {Over Left : Type 0} {served : Option (List OwnChange)} {role : Option (Option Role)} {made : List OwnChange} {settings : Settings} {write : Write} {wish : Durability}
    → (Over × IsBare g a 134 c) ⊎ (Left × (((st : Status) × IsBare g d (status_code st) e × Why st × First st) ⊎ IsCommitted n v served made settings write wish f g ⊎ IsUnsure n v served role made write wish f g)) → bytes ≡ spelling g → byte_at 7 bytes ≡ 163
    → ((st : Status) → Why st → Other d e st) → IsUnsure n v served role made write wish f g
unfolding spelling
only_unsure {bytes} fits s is why = ⊎_elim
    (λ full. let n : byte_at 7 bytes ≡ 134 = ap (byte_at 7) (bare_bytes full.1 s) in absurd (omega (arith, n, is)))
    (λ left. ⊎_elim
    (λ r. let k = why r.0 r.2 in absurd (k.2 (sym (status_byte k.0 r.1 s k.1) ∙ is)))
    (λ told. ⊎_elim (λ c. let n : byte_at 7 bytes ≡ 0 = ap (byte_at 7) (stored_bytes c.told s) in absurd (omega (arith, n, is))) (λ u. u) told) left.1)
    fits

-- a further reason of a durable write is none
why_besides : (held : List Change) (st : Status) → LacksMajority [] held st → Other SET 9 st
unfolding spelling
why_besides held st b = ⊎_elim (λ full. (status.Etmpfail, full.said, λ z. let n : ◌≡◌ {A = ℕ} 134 163 = z in omega (arith, n))) (λ no. let z : true ≡ false = no.0 in cc) b

-- nor is that a prepare waits at its key
why_waits : {risen : ℕ} → risen < 2 → (st : Status) → IsWhyRefused (LacksMajority [] pending) (Some (Some role.Active)) risen (image_of pending) nine_set st → Other SET 9 st
unfolding spelling
why_waits {risen} above st w = ⊎_elim (λ e. (status.SyncWriteInProgress, e, λ z. let n : ◌≡◌ {A = ℕ} 162 163 = z in omega (arith, n))) (λ b. why_besides pending st b) (w.locked refl (pend, nine_waits, above))

-- or was left there
why_left : (st : Status) → IsWhyRefused (LacksMajority [] pending) (Some (Some role.Active)) 2 (image_of pending) nine_set st → Other SET 9 st
unfolding spelling
why_left st w = ⊎_elim (λ e. (status.SyncWriteReCommitInProgress, e, λ z. let n : ◌≡◌ {A = ℕ} 164 163 = z in omega (arith, n))) (λ b. why_besides pending st b) (w.left refl (pend, nine_waits, omega arith))

-- a set of the key 7
abbrev seven_set : Write
seven_set = record { op = op.Set; key = 7 ∷ []; cas = 0; value = 8 ∷ []; flags = 0; expiry = 0; datatype = 0 }

-- where none waits and no document stands a set is not refused for its key
why_free : {risen : ℕ} (st : Status) → IsWhyRefused (LacksMajority [] []) (Some (Some role.Active)) risen (image_of []) seven_set st → Other SET 9 st
why_free st w = ⊎_elim (λ d. let z : None ≡ Some st = d in cc) (λ b. why_besides [] st b) (unfit_is w refl (none_pending (7 ∷ [])) (none_stored (7 ∷ [])))

-- a vBucket that is dead refuses each
why_gone : (code : ℕ) {Besides : Status → Type 0} {risen : ℕ} {image : Picture} {write : Write} (st : Status) → IsWhyRefused Besides (Some (Some role.Dead)) risen image write st → Other code 9 st
unfolding spelling
why_gone code st w = (status.NotMyVbucket, w.away no_active, λ z. let n : ◌≡◌ {A = ℕ} 7 163 = z in omega (arith, n))

-- no prepare was told
none_told : {role : Option (Option Role)} {made : List OwnChange} {write : Write} {wish : Durability} → LostOf 0 0 role made write wish [] → ⊥
none_told k = k.names.among

-- none was given up, by a vBucket that is active
none_gave : {write : Write} {wish : Durability} {told : List OwnChange} → LostOf 0 0 (Some (Some role.Active)) [] write wish told → ⊥
none_gave k = ⊎_elim (λ off. off refl) (λ a. a.told_before) k.lost

-- the prepare is the one that was told
first_is : {n v number : ℕ} {name : List ℕ} {level : Level} {doc : Doc} {deleted : Bool} {line : OwnChange} → (k : PreparesIn n v number name level doc deleted (line ∷ [])) → k.first ≡ line
first_is k = ⊎_elim (λ e. e) (λ none. absurd none) k.among

same_parts : (level : Level) (doc written : Doc) (a b : Bool) → act.Prepare Majority doc a ≡ act.Prepare level written b → (Majority ≡ level) × (doc ≡ written) × (a ≡ b)
same_parts level doc written a b e = (cc, cc, cc)

named_at : {n v number : ℕ} {name : List ℕ} {level : Level} {doc : Doc} {deleted : Bool} {line : OwnChange} → PreparesIn n v number name level doc deleted (line ∷ []) → (line.node ≡ n) × (line.vb ≡ v) × (line.change.key ≡ name)
named_at k = let e = sym (first_is k) in (ap (λ (o : OwnChange). o.node) e ∙ k.node, ap (λ (o : OwnChange). o.vb) e ∙ k.vb, ap (λ (o : OwnChange). o.change.key) e ∙ k.key)

named_so : {n v number : ℕ} {name : List ℕ} {level : Level} {doc : Doc} {deleted : Bool} → PreparesIn n v number name level doc deleted (prepared_line ∷ []) → (Majority ≡ level) × (first_doc 2 (6 ∷ []) ≡ doc) × (false ≡ deleted)
named_so {level = level} {doc = doc} {deleted = deleted} k = same_parts level (first_doc 2 (6 ∷ [])) doc false deleted (ap (λ (o : OwnChange). o.change.act) (sym (first_is k)) ∙ k.act)

-- this change gave up what that line prepared
record Gave (line own : OwnChange) (write : Write) (wish : Durability) : Type 0 where
  node : own.node ≡ 0
  vb : own.vb ≡ 0
  key : own.change.key ≡ write.key
  aborts : own.change.act ≡ act.Abort line.change.seq
  late : HavePassed wish.timeout line.clock own.clock

gave_so : {line own : OwnChange} {write : Write} {wish : Durability} → LostOf 0 0 (Some (Some role.Active)) (own ∷ []) write wish (line ∷ []) → Gave line own write wish
gave_so {line} {own} {write} {wish} k = ⊎_elim
    (λ off. absurd (off refl))
    (λ a.
    let one : a.one ≡ own = ⊎_elim (λ e. e) (λ none. absurd none) a.told_before in
    let first : k.names.first ≡ line = first_is k.names in
    let number : k.prepared ≡ line.change.seq = sym k.names.seq ∙ ap (λ (o : OwnChange). o.change.seq) first in
    record {
      node = ap (λ (o : OwnChange). o.node) (sym one) ∙ a.node;
      vb = ap (λ (o : OwnChange). o.vb) (sym one) ∙ a.vb;
      key = ap (λ (o : OwnChange). o.change.key) (sym one) ∙ a.key;
      aborts = ap (λ (o : OwnChange). o.change.act) (sym one) ∙ a.aborts ∙ ap (λ q. act.Abort q) number;
      late = subst (λ (o : OwnChange). HavePassed wish.timeout line.clock o.clock) one (subst (λ (o : OwnChange). HavePassed wish.timeout o.clock a.one.clock) first a.late);
    })
    k.lost

abort_number : (a b : ℕ) → act.Abort a ≡ act.Abort b → a ≡ b
abort_number a b e = cc

-- ---- transcripts

pub dead : LawfulAwaited pending (durably 1 9 6) (turned role.Dead ∷ unknown_set ∷ [])
unfolding spelling frames_in first_frame frame_of read_of frame_row shape_fault request_of requirement_of
dead = (record { another = λ e. cc; anew = λ e. cc; pending = λ e. cc }, (λ z. inl (record { question = _; next = refl; answer = reply_frame (bare_answer SET status.SyncWriteAmbiguous 9); spelled = refl; response = refl; opcode = refl; opaque = refl; calm = inr (inl ((_, _, refl, inr refl), tt)); fits = inr (first_number, inr (inr (record { said = bare_so SET 9 status.SyncWriteAmbiguous; own = gone }))) }), tt))

pub follows : LawfulAwaited pending (durably 1 9 6) (turned role.Replica ∷ unknown_set ∷ [])
unfolding spelling frames_in first_frame frame_of read_of frame_row shape_fault request_of requirement_of
follows = (record { another = λ e. cc; anew = λ e. cc; pending = λ e. cc }, (λ z. inl (record { question = _; next = refl; answer = reply_frame (bare_answer SET status.SyncWriteAmbiguous 9); spelled = refl; response = refl; opcode = refl; opaque = refl; calm = inr (inl ((_, _, refl, inr refl), tt)); fits = inr (first_number, inr (inr (record { said = bare_so SET 9 status.SyncWriteAmbiguous; own = followed }))) }), tt))

pub given_up : LawfulTold (gave_up 2 9 half_a_minute ∷ []) (durably 1 9 6) (unknown_set ∷ [])
unfolding spelling frames_in first_frame frame_of read_of frame_row shape_fault request_of requirement_of
given_up = (λ z. inl (record { question = _; next = refl; answer = reply_frame (bare_answer SET status.SyncWriteAmbiguous 9); spelled = refl; response = refl; opcode = refl; opaque = refl; calm = inr (inl ((_, _, refl, inr refl), (refl, tt))); fits = inr (first_number, inr (inr (record { said = bare_so SET 9 status.SyncWriteAmbiguous; own = given 30000 0 half_a_minute (inl (omega arith)) }))) }), tt)

pub timed : LawfulTold (gave_up 2 9 7000000 ∷ []) (durably_within 7 9 6) (unknown_set ∷ [])
unfolding spelling frames_in first_frame frame_of read_of frame_row shape_fault request_of requirement_of
timed = (λ z. inl (record { question = _; next = refl; answer = reply_frame (bare_answer SET status.SyncWriteAmbiguous 9); spelled = refl; response = refl; opcode = refl; opaque = refl; calm = inr (inl ((_, _, refl, inr refl), (refl, tt))); fits = inr (first_number, inr (inr (record { said = bare_so SET 9 status.SyncWriteAmbiguous; own = given 7 0 7000000 (inl (omega arith)) }))) }), tt)

pub last : LawfulToldBy (prepared_when (2 ^ 64 - 2)) (gave_up 2 9 (2 ^ 64 - 1) ∷ []) (durably 1 9 6) (unknown_set ∷ [])
unfolding spelling frames_in first_frame frame_of read_of frame_row shape_fault request_of requirement_of
last = (λ z. inl (record { question = _; next = refl; answer = reply_frame (bare_answer SET status.SyncWriteAmbiguous 9); spelled = refl; response = refl; opcode = refl; opaque = refl; calm = inr (inl ((_, _, refl, inr refl), (refl, tt))); fits = inr (first_number, inr (inr (record { said = bare_so SET 9 status.SyncWriteAmbiguous; own = given 30000 (2 ^ 64 - 2) (2 ^ 64 - 1) (inr (omega arith)) }))) }), tt)

pub waits : LawfulAwaited pending (durably 1 9 6) (unknown_set ∷ []) → ⊥
unfolding spelling frames_in first_frame frame_of read_of frame_row shape_fault request_of requirement_of
waits l = let (g, s, fits) = asked_so (l.0 refl) refl refl refl in let u = only_unsure fits s refl (why_waits (omega arith)) in none_gave (u.own (prepared_line ∷ []) refl)

pub anew : LawfulAnew (durably 1 9 6) (unknown_set ∷ []) → ⊥
unfolding spelling frames_in first_frame frame_of read_of frame_row shape_fault request_of requirement_of
anew l = let (g, s, fits) = asked_so (l.0 refl) refl refl refl in let u = only_unsure fits s refl why_left in none_gave (u.own (prepared_line ∷ []) refl)

pub early : LawfulTold (gave_up 2 9 29999999999 ∷ []) (durably 1 9 6) (unknown_set ∷ []) → ⊥
unfolding spelling frames_in first_frame frame_of read_of frame_row shape_fault request_of requirement_of
early l = let (g, s, fits) = asked_so (l.0 refl) refl refl refl in let u = only_unsure fits s refl (why_waits (omega arith)) in let late : HavePassed 30000 0 29999999999 = (gave_so (u.own (prepared_line ∷ []) refl)).late in ⊎_elim (λ a. omega (arith, a)) (λ a. omega (arith, a)) late

pub timed_early : LawfulTold (gave_up 2 9 6999999 ∷ []) (durably_within 7 9 6) (unknown_set ∷ []) → ⊥
unfolding spelling frames_in first_frame frame_of read_of frame_row shape_fault request_of requirement_of
timed_early l = let (g, s, fits) = asked_so (l.0 refl) refl refl refl in let u = only_unsure fits s refl (why_waits (omega arith)) in let late : HavePassed 7 0 6999999 = (gave_so (u.own (prepared_line ∷ []) refl)).late in ⊎_elim (λ a. omega (arith, a)) (λ a. omega (arith, a)) late

pub since : LawfulToldBy (prepared_when 1) (gave_up 2 9 half_a_minute ∷ []) (durably 1 9 6) (unknown_set ∷ []) → ⊥
unfolding spelling frames_in first_frame frame_of read_of frame_row shape_fault request_of requirement_of
since l = let (g, s, fits) = asked_so (l.0 refl) refl refl refl in let u = only_unsure fits s refl (why_waits (omega arith)) in let late : HavePassed 30000 1 30000000000 = (gave_so (u.own (prepared_when 1 ∷ []) refl)).late in ⊎_elim (λ a. omega (arith, a)) (λ a. omega (arith, a)) late

pub before_last : LawfulToldBy (prepared_when (2 ^ 64 - 3)) (gave_up 2 9 (2 ^ 64 - 2) ∷ []) (durably 1 9 6) (unknown_set ∷ []) → ⊥
unfolding spelling frames_in first_frame frame_of read_of frame_row shape_fault request_of requirement_of
before_last l = let (g, s, fits) = asked_so (l.0 refl) refl refl refl in let u = only_unsure fits s refl (why_waits (omega arith)) in let late : HavePassed 30000 (2 ^ 64 - 3) (2 ^ 64 - 2) = (gave_so (u.own (prepared_when (2 ^ 64 - 3) ∷ []) refl)).late in ⊎_elim (λ a. omega (arith, a)) (λ a. omega (arith, a)) late

pub other_prepare : LawfulTold (gave_up 1 9 half_a_minute ∷ []) (durably 1 9 6) (unknown_set ∷ []) → ⊥
unfolding spelling frames_in first_frame frame_of read_of frame_row shape_fault request_of requirement_of
other_prepare l = let (g, s, fits) = asked_so (l.0 refl) refl refl refl in let u = only_unsure fits s refl (why_waits (omega arith)) in let e = abort_number 1 2 (gave_so (u.own (prepared_line ∷ []) refl)).aborts in omega (arith, e)

pub other_key : LawfulTold (gave_up 2 7 half_a_minute ∷ []) (durably 1 9 6) (unknown_set ∷ []) → ⊥
unfolding spelling frames_in first_frame frame_of read_of frame_row shape_fault request_of requirement_of
other_key l = let (g, s, fits) = asked_so (l.0 refl) refl refl refl in let u = only_unsure fits s refl (why_waits (omega arith)) in let e : ◌≡◌ {A = ℕ} 7 9 = ap (byte_at 0) (gave_so (u.own (prepared_line ∷ []) refl)).key in omega (arith, e)

pub other_vb : LawfulTold (record (gave_up 2 9 half_a_minute) { vb = 1 } ∷ []) (durably 1 9 6) (unknown_set ∷ []) → ⊥
unfolding spelling frames_in first_frame frame_of read_of frame_row shape_fault request_of requirement_of
other_vb l = let (g, s, fits) = asked_so (l.0 refl) refl refl refl in let u = only_unsure fits s refl (why_waits (omega arith)) in let e : ◌≡◌ {A = ℕ} 1 0 = (gave_so (u.own (prepared_line ∷ []) refl)).vb in omega (arith, e)

pub other_node : LawfulTold (record (gave_up 2 9 half_a_minute) { node = 1 } ∷ []) (durably 1 9 6) (unknown_set ∷ []) → ⊥
unfolding spelling frames_in first_frame frame_of read_of frame_row shape_fault request_of requirement_of
other_node l = let (g, s, fits) = asked_so (l.0 refl) refl refl refl in let u = only_unsure fits s refl (why_waits (omega arith)) in let e : ◌≡◌ {A = ℕ} 1 0 = (gave_so (u.own (prepared_line ∷ []) refl)).node in omega (arith, e)

pub had_commit : LawfulTold (had_committed ∷ []) (durably 1 9 6) (unknown_set ∷ []) → ⊥
unfolding spelling frames_in first_frame frame_of read_of frame_row shape_fault request_of requirement_of
had_commit l = let (g, s, fits) = asked_so (l.0 refl) refl refl refl in let u = only_unsure fits s refl (why_waits (omega arith)) in let e : had_committed.change.act ≡ act.Abort 2 = (gave_so (u.own (prepared_line ∷ []) refl)).aborts in cc

pub unprepared : LawfulTo [] (durably 1 7 8) (unknown_set ∷ []) → ⊥
unfolding spelling frames_in first_frame frame_of read_of frame_row shape_fault request_of requirement_of
unprepared l = let (g, s, fits) = asked_so (l.0 refl) refl refl refl in let u = only_unsure fits s refl why_free in none_told (u.own [] refl)

pub gone_unprepared : LawfulFar 0 (durably 1 7 8) (unknown_set ∷ []) → ⊥
unfolding spelling frames_in first_frame frame_of read_of frame_row shape_fault request_of requirement_of
gone_unprepared l = let (g, s, fits) = asked_so (l.0 refl) refl refl refl in let u = only_unsure fits s refl (why_gone SET) in none_told (u.own [] refl)

pub gone_before : LawfulGone 0 (noop 9 ++ durably 1 9 6) (answers 9 ∷ unknown_set ∷ []) → ⊥
unfolding spelling frames_in first_frame frame_of read_of frame_row shape_fault request_of requirement_of
gone_before l = let (g, s, fits) = asked_so (l.1.0 refl) refl refl refl in let u = only_unsure fits s refl (why_gone SET) in none_told (u.own [] refl)

pub gone_value : LawfulGone 0 (durably 1 9 7) (unknown_set ∷ []) → ⊥
unfolding spelling frames_in first_frame frame_of read_of frame_row shape_fault request_of requirement_of
gone_value l = let (g, s, fits) = asked_so (l.0 refl) refl refl refl in let u = only_unsure fits s refl (why_gone SET) in let e : ◌≡◌ {A = ℕ} 6 7 = ap (λ (d : Doc). byte_at 0 d.value) (named_so (u.own (prepared_line ∷ []) refl).names).1 in omega (arith, e)

pub gone_key : LawfulGone 0 (durably 1 7 6) (unknown_set ∷ []) → ⊥
unfolding spelling frames_in first_frame frame_of read_of frame_row shape_fault request_of requirement_of
gone_key l = let (g, s, fits) = asked_so (l.0 refl) refl refl refl in let u = only_unsure fits s refl (why_gone SET) in let e : ◌≡◌ {A = ℕ} 9 7 = ap (byte_at 0) (named_at (u.own (prepared_line ∷ []) refl).names).2 in omega (arith, e)

pub gone_level : LawfulGone 0 (durably 2 9 6) (unknown_set ∷ []) → ⊥
unfolding spelling frames_in first_frame frame_of read_of frame_row shape_fault request_of requirement_of
gone_level l = let (g, s, fits) = asked_so (l.0 refl) refl refl refl in let u = only_unsure fits s refl (why_gone SET) in let e : Majority ≡ MajorityPersistActive = (named_so (u.own (prepared_line ∷ []) refl).names).0 in cc

pub gone_removal : LawfulGone 0 (durably_removes 1 9) (says DELETE status.SyncWriteAmbiguous ∷ []) → ⊥
unfolding spelling frames_in first_frame frame_of read_of frame_row shape_fault request_of requirement_of
gone_removal l = let (g, s, fits) = asked_so (l.0 refl) refl refl refl in let u = only_unsure fits s refl (why_gone DELETE) in let e : false ≡ true = (named_so (u.own (prepared_line ∷ []) refl).names).2 in cc

pub gone_vb : LawfulGoneBy (record prepared_line { vb = 1 }) (unknown_set ∷ []) → ⊥
unfolding spelling frames_in first_frame frame_of read_of frame_row shape_fault request_of requirement_of
gone_vb l = let (g, s, fits) = asked_so (l.0 refl) refl refl refl in let u = only_unsure fits s refl (why_gone SET) in let e : ◌≡◌ {A = ℕ} 1 0 = (named_at (u.own (record prepared_line { vb = 1 } ∷ []) refl).names).1 in omega (arith, e)

pub gone_node : LawfulGoneBy (record prepared_line { node = 1 }) (unknown_set ∷ []) → ⊥
unfolding spelling frames_in first_frame frame_of read_of frame_row shape_fault request_of requirement_of
gone_node l = let (g, s, fits) = asked_so (l.0 refl) refl refl refl in let u = only_unsure fits s refl (why_gone SET) in let e : ◌≡◌ {A = ℕ} 1 0 = (named_at (u.own (record prepared_line { node = 1 } ∷ []) refl).names).0 in omega (arith, e)

-- ---- a whole group of a `tick`

makes_abort : (l : Option LastLine) (clients : ClientsKnown) → LawfulChange (record (serving pending blank_client) { last = l; clients_at = clients; ticks = Some (0, 0); clock_at = λ n. half_a_minute; counts_at = λ n v. record (alone 0) { times = (2, 0) ∷ [] } }) 0 0 5 aborted
makes_abort l clients = record {
  active = refl;
  writer = record { made_or_took = refl; on_branch = refl };
  above_branch = omega arith;
  above_forks = (λ e. omega arith, tt);
  made = resolving_next pending aborted pend refl nine_waits refl refl refl refl;
  asked = λ level doc deleted e. cc;
  fulfils = λ number doc deleted e. cc;
  backed = λ number doc deleted e. cc;
  aborts = λ number e. let q : 2 ≡ number = cc in record { asked = refl; before = 0; made = inl (sym q, refl); up = inl (omega arith) };
}

pub ticked : LawfulLate (durably 1 9 6) ticks (ok (makes aborted ∷ unknown_set ∷ []))
unfolding spelling frames_in first_frame frame_of read_of frame_row shape_fault request_of requirement_of
ticked = (((makes_abort _ _, ((refl, λ z. inl (record { question = _; next = refl; answer = reply_frame (bare_answer SET status.SyncWriteAmbiguous 9); spelled = refl; response = refl; opcode = refl; opaque = refl; calm = inr (inl ((_, _, refl, inr refl), (refl, tt))); fits = inr (first_number, inr (inr (record { said = bare_so SET 9 status.SyncWriteAmbiguous; own = given 30000 0 half_a_minute (inl (omega arith)) }))) })), tt)), tt, refl, refl, λ w no standing. cc, hands_plain _ _ _ _ refl refl, tt, tt, here_answered (record (awaiting (serving pending (unopened (durably 1 9 6)))) { clock_at = λ n. half_a_minute; counts_at = λ n v. record (alone 0) { times = (2, 0) ∷ [] } }) ticks (makes aborted ∷ unknown_set ∷ []) answer.Ok (λ n c e. rw e refl) refl refl, (λ own. cc, tt), tt, (tt, tt)), tt)
