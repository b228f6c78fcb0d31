-- what a client is told of a set, in transcripts that are judged by hand
use Rattle.std.specs.Prelude.{◌+◌, ◌≡◌, ◌∷◌, ◌++◌}
use Rattle.std.specs.FinMap.{get}
use Rattle.std.proofs.Math.Seq.{drop-append_seam}
use Rattle.transcript_law.proofs.Words.{ℕ, true, List, [], refl, sym, ap, ◌∙◌, subst, inl, inr, arith, append-nil, drop, length, Some, None, Branch, Change, Chronicle, Event, Group, IsKey, IsValue, ScriptLine, first_doc, grow, image_of, next_change, one_change}
unfoldable use Rattle.mcbp_dcp.specs.Messages.{read_of}
unfoldable use Rattle.mcbp_dcp.specs.Rows.{frame_row}
use Rattle.mcbp_frame.proofs.Cases.{length-spelling}
use Rattle.mcbp_frame.specs.Spelling.{spelling}
use Rattle.mcbp_frame.specs.declared.frame.Frame.{Frame}
use Rattle.mcbp_kv.specs.Answers.{IsStored, stored_answer}
use Rattle.mcbp_kv.specs.Replies.{reply_frame}
use Rattle.mcbp_kv.specs.declared.opcodes.TheConstants.{SET}
use Rattle.client_session.specs.Serving.{no_settings}
use Rattle.vb_calls.specs.Writes.{act_of, doc_refusal, written_doc}
use Rattle.vb_events.specs.declared.event.Answer.TheVariants as answer
use Rattle.vb_events.specs.declared.event.Event.TheVariants as event
use Rattle.vb_types.specs.declared.write.Op.TheVariants as op
use Rattle.transcript_law.proofs.rows.{Fitted.{sets_ask}, NextRows.{nine_none, none_stored}, Silent.{Silent, group_silent, sends_none, silent_answered, twice_silent}}
unfoldable use Rattle.transcript_law.proofs.rows.Silent.{AreHeard}
use Rattle.transcript_law.specs.ClientStreams.{ClientKnown, ClientsKnown, blank_client, clients_frame, with_client, with_sent_bytes}
use Rattle.transcript_law.specs.LawfulAnswers.{FitsFrame, FitsRequest, IsMade, IsTimely, LawfulReply}
use Rattle.transcript_law.specs.Chronicles.{after_group, at_line}
use Rattle.transcript_law.specs.Questions.{Question, durables_by, first_question, past_answer, past_question, past_question_if, question_end, question_of, settings_by}
use Rattle.transcript_law.specs.StreamsTold.{Asking, blank_asking, no_setup}
use Rattle.transcript_law.specs.Transcripts.{group_done, set_frame, set_line, set_write}
use Rattle.transcript_law.specs.LawfulMessages.{moment_of}
use Rattle.transcript_law.specs.LawfulAnswers.{serving}

-- ---- the question

-- such a frame came, and nothing before it
abbrev pub sent_set : List ℕ → List ℕ → ℕ → Asking
sent_set key value m = record blank_asking { bytes = spelling (set_frame key value); answered = m }

-- and so many were answered before, behind which nothing is asked
abbrev pub blank_after : ℕ → Asking
blank_after m = record blank_asking { answered = m }

abbrev pub asks_set : List ℕ → List ℕ → Question
asks_set key value = record { before = []; frame = set_frame key value }

module _ (key value : List ℕ) (k : IsKey key) (v : IsValue value) where
  set_next : (m : ℕ) → question_of (sent_set key value m) ≡ Some (asks_set key value)
  set_next m = ap (first_question no_setup) (sets_ask key value k v).0

  -- once it is answered nothing is asked
  past_set : (m : ℕ) → past_question (asks_set key value) (sent_set key value m) ≡ blank_after (m + 1)
  unfolding read_of frame_row
  past_set m = λ i. record { answered = m + 1; bytes = none i; setup = no_setup; settings = ap (λ r. settings_by r no_settings) (sets_ask key value k v).1 i; durables = ap (λ r. durables_by r 0) (sets_ask key value k v).1 i }
    where
      bytes : List ℕ
      bytes = spelling (set_frame key value)

      long : question_end (asks_set key value) ≡ length bytes
      long = omega (arith, length-spelling (set_frame key value))

      none : drop (question_end (asks_set key value)) bytes ≡ []
      none = ap (λ n. drop n bytes) long ∙ ap (drop (length bytes)) (sym (append-nil bytes)) ∙ drop-append_seam bytes []

  pub set_past : {m : ℕ} (known : ClientKnown) → known.asking ≡ sent_set key value m → (past_answer known).asking ≡ blank_after (m + 1)
  set_past {m} known sent = ap (λ (a : Asking). past_question_if (question_of a) a) sent ∙ ap (λ o. past_question_if o (sent_set key value m)) (set_next m) ∙ past_set m

  -- ---- its answer

  module _ (r : Chronicle) (behind : List Event) {m : ℕ} (sent : (r.clients_at 0 1).asking ≡ sent_set key value m) where
    -- it was made
    pub set_made : (cas : ℕ) → IsMade 0 0 (r.held 0 0) r.made no_settings (set_write key value) (set_frame key value) (reply_frame (stored_answer SET 9 cas [])) → LawfulReply r 0 1 (r.clients_at 0 1).asking (spelling (reply_frame (stored_answer SET 9 cas []))) behind
    set_made cas made =
        let g : Frame = reply_frame (stored_answer SET 9 cas []) in
        inl (record {
          question = asks_set key value;
          next = ap question_of sent ∙ set_next m;
          answer = g;
          spelled = refl;
          response = refl;
          opcode = refl;
          opaque = refl;
          fits = subst (λ (a : Asking). FitsFrame (serving r 0 1 (r.clients_at 0 1).asking) r 0 (moment_of (r.clients_at 0 1) a (asks_set key value)) a.settings (set_frame key value) g) (sym sent) (subst (FitsRequest (serving r 0 1 (r.clients_at 0 1).asking) r 0 0 no_settings (set_frame key value) g) (sym (sets_ask key value k v).1) (inr made));
          calm = subst (λ (a : Asking). IsTimely r a.settings (set_frame key value) g) (sym sent) (inl (set_write key value, (sets_ask key value k v).1, refl));
        })

  -- ---- behind its line

  module _ (tree : List Branch) (clients : ClientsKnown) (bytes : List ℕ) (told : (clients 0 1).told ≡ None) {m : ℕ} (blank : (clients 0 1).asking ≡ blank_after m) where
    abbrev sent_now : ClientKnown
    sent_now = with_sent_bytes (spelling (set_frame key value)) (clients 0 1)

    abbrev pub SentNow : (ClientsKnown → Type 0) → Type 0
    SentNow P = P (clients_frame tree (with_client clients 0 1 sent_now) 0 1 bytes (clients 0 1).told)

    pub set_sent : sent_now.asking ≡ sent_set key value m
    set_sent = ap (λ (a : Asking). record a { bytes = a.bytes ++ spelling (set_frame key value) }) blank

    pub set_silent : Silent clients → SentNow Silent
    set_silent silent = subst (λ (t : _). Silent (clients_frame tree (with_client clients 0 1 sent_now) 0 1 bytes t)) (sym told) (twice_silent clients 0 1 sent_now (past_answer sent_now) silent (ap (λ (a : Asking). a.bytes) (set_past sent_now set_sent)))

    pub set_blank : SentNow (λ later. (later 0 1).asking ≡ blank_after (m + 1))
    set_blank = subst (λ (t : _). (clients_frame tree (with_client clients 0 1 sent_now) 0 1 bytes t 0 1).asking ≡ blank_after (m + 1)) (sym told) (set_past sent_now set_sent)

-- ---- a set that was made on a branch

-- the answer tells its CAS
stored_so : (cas : ℕ) → IsStored (reply_frame (stored_answer SET 9 cas [])) SET 9 cas []
stored_so cas = record { header = record { magic = refl; opcode = refl; key = refl; datatype = refl; status = refl; opaque = refl; framing = refl }; cas = refl; extras = refl; value = refl }

-- the change is its own, of what its vBucket held before
told_of : {m : ℕ} (r : Chronicle) (key value : List ℕ) (k : IsKey key) (v : IsValue value) (behind : List Event) (b cas : ℕ) (change : Change) (before : List Change) → (r.clients_at 0 1).asking ≡ sent_set key value m
    → r.made ≡ record { node = 0; vb = 0; branch = b; change = change; clock = r.clock_at 0 } ∷ [] → r.held 0 0 ≡ before ++ change ∷ [] → change.key ≡ key → change.act ≡ act_of op.Set (written_doc (set_write key value) cas 1) → doc_refusal op.Set 0 (get (image_of before).docs key) ≡ None
    → LawfulReply r 0 1 (r.clients_at 0 1).asking (spelling (reply_frame (stored_answer SET 9 cas []))) behind
told_of r key value k v behind b cas change before sent made held same act free =
    set_made key value k v r behind sent cas (record { branch = b; change = change; clock = r.clock_at 0; older = []; last = made; alone = tt; key = same; cas = cas; rev = 1; act = act; before = before; behind = held; fits = free; told = stored_so cas })

-- the key 7 is set by a first change, and the key 9 behind that
seven_key : IsKey (7 ∷ [])
seven_key = (omega arith, omega arith)

nine_key : IsKey (9 ∷ [])
nine_key = (omega arith, omega arith)

one_value : (b : ℕ) → IsValue (b ∷ [])
one_value b = omega arith

pub first_told : {m : ℕ} (r : Chronicle) (behind : List Event) (b : ℕ) → (r.clients_at 0 1).asking ≡ sent_set (7 ∷ []) (8 ∷ []) m → r.made ≡ record { node = 0; vb = 0; branch = b; change = one_change; clock = r.clock_at 0 } ∷ [] → r.held 0 0 ≡ one_change ∷ []
    → LawfulReply r 0 1 (r.clients_at 0 1).asking (spelling (reply_frame (stored_answer SET 9 1 []))) behind
first_told r behind b sent made held = told_of r (7 ∷ []) (8 ∷ []) seven_key (one_value 8) behind b 1 one_change [] sent made held refl refl (ap (doc_refusal op.Set 0) (none_stored (7 ∷ [])))

pub next_told : {m : ℕ} (r : Chronicle) (behind : List Event) (b : ℕ) → (r.clients_at 0 1).asking ≡ sent_set (9 ∷ []) (6 ∷ []) m → r.made ≡ record { node = 0; vb = 0; branch = b; change = next_change; clock = r.clock_at 0 } ∷ [] → r.held 0 0 ≡ one_change ∷ next_change ∷ []
    → LawfulReply r 0 1 (r.clients_at 0 1).asking (spelling (reply_frame (stored_answer SET 9 2 []))) behind
next_told r behind b sent made held = told_of r (9 ∷ []) (6 ∷ []) nine_key (one_value 6) behind b 2 next_change (one_change ∷ []) sent made held refl refl (ap (doc_refusal op.Set 0) (nine_none (first_doc 1 (8 ∷ []))))

-- what is asked behind the first of them, and with the second
pub seven_past : (past_answer (with_sent_bytes (spelling (set_frame (7 ∷ []) (8 ∷ []))) blank_client)).asking ≡ blank_after 1
seven_past = set_past (7 ∷ []) (8 ∷ []) seven_key (one_value 8) (with_sent_bytes (spelling (set_frame (7 ∷ []) (8 ∷ []))) blank_client) refl

pub nine_sent : {m : ℕ} (known : ClientKnown) → known.asking ≡ blank_after m → (with_sent_bytes (spelling (set_frame (9 ∷ []) (6 ∷ []))) known).asking ≡ sent_set (9 ∷ []) (6 ∷ []) m
nine_sent known blank = ap (λ (a : Asking). record a { bytes = a.bytes ++ spelling (set_frame (9 ∷ []) (6 ∷ [])) }) blank

-- ---- transcripts with sets

-- a line by which nothing is sent, and the groups behind it
pub heard_then : (r : Chronicle) (line : ScriptLine) (lines : List ScriptLine) (group : Group) (groups : List Group) → sends_none line.verb ≡ true → Silent r.clients_at
    → (let next : Chronicle = after_group (at_line r line.line) line.verb group.events group.answer in (Silent next.clients_at → AreHeard next lines groups) → AreHeard r (line ∷ lines) (group ∷ groups))
unfolding AreHeard
heard_then r line lines group groups e silent more =
    let next : Silent (after_group (at_line r line.line) line.verb group.events group.answer).clients_at = group_silent (at_line r line.line) line.verb group.events group.answer e silent in
    (silent_answered (after_group (at_line r line.line) line.verb group.events group.answer) next, more next)

module _ (r : Chronicle) (number count : ℕ) (key value bytes : List ℕ) (lines : List ScriptLine) (groups : List Group) (k : IsKey key) (v : IsValue value) (told : (r.clients_at 0 1).told ≡ None) {m : ℕ} (blank : (r.clients_at 0 1).asking ≡ blank_after m) (silent : Silent r.clients_at) where
  -- a set that was made
  module _ (b : ℕ) (change : Change) where
    abbrev made_lines : List Event
    made_lines = event.Changed 0 0 b change ∷ event.Reply 0 1 bytes ∷ []

    abbrev behind_made : Chronicle
    behind_made = after_group (at_line r number) (set_line number key value).verb made_lines answer.Ok

    pub made_then : (Silent behind_made.clients_at → (behind_made.clients_at 0 1).asking ≡ blank_after (m + 1) → AreHeard behind_made lines groups) → AreHeard r (set_line number key value ∷ lines) (group_done count made_lines ∷ groups)
    unfolding AreHeard
    made_then more =
        let next : Silent behind_made.clients_at = set_silent key value k v (grow r.tree b change) r.clients_at bytes told blank silent in
        (silent_answered behind_made next, more next (set_blank key value k v (grow r.tree b change) r.clients_at bytes told blank))

-- the key 7
pub seven_then : {m : ℕ} (r : Chronicle) (number count b : ℕ) (bytes : List ℕ) (change : Change) (lines : List ScriptLine) (groups : List Group) (told : (r.clients_at 0 1).told ≡ None) (blank : (r.clients_at 0 1).asking ≡ blank_after m) → Silent r.clients_at
    → (let next : Chronicle = after_group (at_line r number) (set_line number (7 ∷ []) (8 ∷ [])).verb (event.Changed 0 0 b change ∷ event.Reply 0 1 bytes ∷ []) answer.Ok in (Silent next.clients_at → (next.clients_at 0 1).asking ≡ blank_after (m + 1) → AreHeard next lines groups)
    → AreHeard r (set_line number (7 ∷ []) (8 ∷ []) ∷ lines) (group_done count (event.Changed 0 0 b change ∷ event.Reply 0 1 bytes ∷ []) ∷ groups))
seven_then r number count b bytes change lines groups told blank silent more = made_then r number count (7 ∷ []) (8 ∷ []) bytes lines groups seven_key (one_value 8) told blank silent b change more

-- the key 9
pub nine_then : {m : ℕ} (r : Chronicle) (number count b : ℕ) (bytes : List ℕ) (change : Change) (lines : List ScriptLine) (groups : List Group) (told : (r.clients_at 0 1).told ≡ None) (blank : (r.clients_at 0 1).asking ≡ blank_after m) → Silent r.clients_at
    → (let next : Chronicle = after_group (at_line r number) (set_line number (9 ∷ []) (6 ∷ [])).verb (event.Changed 0 0 b change ∷ event.Reply 0 1 bytes ∷ []) answer.Ok in (Silent next.clients_at → (next.clients_at 0 1).asking ≡ blank_after (m + 1) → AreHeard next lines groups)
    → AreHeard r (set_line number (9 ∷ []) (6 ∷ []) ∷ lines) (group_done count (event.Changed 0 0 b change ∷ event.Reply 0 1 bytes ∷ []) ∷ groups))
nine_then r number count b bytes change lines groups told blank silent more = made_then r number count (9 ∷ []) (6 ∷ []) bytes lines groups nine_key (one_value 6) told blank silent b change more
