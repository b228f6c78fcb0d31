-- what a consumer acknowledges by bytes behind a delivery
use Rattle.std.specs.Prelude.{◌≡◌, ◌+◌, ◌<◌, ◌≤◌, ◌∷◌, ◌++◌, ◌==◌, ◌&&◌, ◌||◌, ◌-◌, ◌^◌, min, if◌then◌else◌}
use Rattle.transcript_law.proofs.Words.{ℕ, Bool, true, false, List, [], fold, length, refl, ap, sym, ◌∙◌, subst, arith, inr, ⊎_elim, append_assoc, Role, is_some, not, Option, Some, None, Ok, Result, All-push, Frame, RESPONSE, spelling, Readable, DcpMsg, dcp_frame, EndReason, Event, Member, Plain, PlainConsumer}
use Rattle.transcript_law.proofs.Words.{PlainLink, PlainWorld, Granted, Chronicle, Cluster, after_lines, link_number, consumer_node, producer_node, row_at, row_put, DialResult, with_consumer, frame_taken, frames_taken, call_made, job_stepped, after_job, after_job_fold, States, Job, Ended, Prog, Call, Done, VbReply, VbAnswer, over_why, with_links}
use Rattle.transcript_law.proofs.Words.{eqb-false, with_handshake}
use Rattle.std.proofs.lemmas.Bool.{false_from_ne_true}
use Rattle.mcbp_dcp.specs.Messages.{read_of}
use Rattle.mcbp_dcp.specs.declared.message.DcpFault.{DcpFault}
use Rattle.mcbp_dcp.specs.declared.message.DcpMsg.TheVariants as msg
use Rattle.transcript_law.specs.Chronicles.{after_calls, after_noted, calls_of_append}
use Rattle.vb_events.specs.declared.event.Answer.TheVariants as line_answer
use Rattle.transcript_law.proofs.invariant.Agreement.{AgreesIn, Busy, EndsStand, LinkAgrees, UpIs, Wants, answers_in, heir_answers, idle, vb_of}
use Rattle.transcript_law.proofs.{invariant.Carried.{talk_same, told_of_same}, invariant.Carrying.{Relinked}, invariant.LinkRows.{put_is_found, put_twice}, invariant.OneLink.{carries_link, mine}, lines.Calm.{AnyAsk, state_always}, links.Acknowledging.{not_before}, links.Upgoing.{acks_left, heir_left, upward_acked}}
use Rattle.transcript_law.proofs.{links.Downing.{Asker, Going, Line, OwnedAt, Phase, Reached, RolledAt, Stage, busy_at, end_of, found_now, lifted_at, link_now, now, so_far}, links.Firsts.{first_count}, links.Frames.{readable, spelled_more}, links.Onward.{Kept}, links.Taken.{as_step, over_taken}}
use Rattle.dcp_consumer.specs.Counting.{bytes_acknowledged, counted_bytes, counted_len, is_stream_opcode}
use Rattle.takeover.specs.declared.take_over.TakeStep.{TakeStep}
use Rattle.dcp_consumer.specs.Machine.{frame_step, is_noop, is_streaming, message_step, passive_step, response_step, stepped as after_step, unstated_step}
use Rattle.dcp_consumer.proofs.States.{state_case}
use Rattle.dcp_consumer.proofs.Noops.{read_is, uncounted}
use Rattle.dcp_consumer.specs.declared.handshake.ConsumerStep.{ConsumerStep}
use Rattle.dcp_consumer.specs.declared.handshake.Handshake.{Handshake as Waiting}
use Rattle.dcp_consumer.specs.declared.passive_stream.Passive.{Passive}
use Rattle.dcp_consumer.specs.PassiveStreams.{passive_read}
use Rattle.node_core.proofs.Dues.{due_always}
use Rattle.node_core.specs.Dials.{bytes_counted, due_requested, message_result, passive_made, step_made, taken_as}
use Rattle.vb_calls.proofs.JobConduct.{after_job_always, always_lift}
use Rattle.vb_calls.specs.{Jobs.{AlwaysJob, Call as AsksCall, Request}, Programs.{Always, AnyCall, AnyReply}, Shelves.{Shelves}}
use Rattle.dcp_consumer.specs.declared.handshake.ConsumerStep.TheVariants as step
use Rattle.dcp_consumer.specs.declared.handshake.Handshake.TheVariants as waiting
use Rattle.dcp_consumer.specs.declared.passive_stream.Passive.TheVariants as passive
use Rattle.vb_calls.specs.declared.calls.VbAnswer.TheVariants as answer

-- ---- while a consumer waits for answers, it was sent nothing that counts

-- its stream is neither granted nor over
abbrev is_asking : Waiting → Bool
is_asking waiting.Streaming = false
is_asking (waiting.Over why) = false
is_asking other = true

abbrev Asks : DialResult → Bool
Asks s = is_asking s.dial.consumer.handshake

-- so many bytes count of what it was sent, and none while it waits
abbrev pub Counts : ℕ → DialResult → Type 0
Counts n s = Asks s ≡ true → n ≡ 0

abbrev Past : DialResult → Type 0
Past s = Asks s ≡ false

past_counts : (n : ℕ) (s : DialResult) → Past s → Counts n s
past_counts n s past asks = let no : true ≡ false = sym asks ∙ past in cc

-- what holds of all answers of a job
all_answers : {A : Type 0} (P : A → Type 0) → ((a : A) → P a) → (job : Job A) → AlwaysJob AnyReply AnyCall AnyAsk P job
all_answers P all (Ended a) = all a
all_answers P all (AsksCall v made next) = (tt, λ reply any. all_answers P all (next reply))
all_answers P all (Request v ask next) = (tt, λ got. all_answers P all (next got))

-- a stream that was granted stays so, or is over
due_past : (s : DialResult) → Past s → Always AnyCall Past (due_requested s)
due_past s past = due_always Past s (λ seq saved. past) past AnyCall tt

passive_past : (p : Passive) (s : DialResult) → Past s → Always AnyCall Past (passive_made p s)
unfolding call_made
passive_past (passive.Call made) s past = (tt, λ reply any. due_past (message_result s reply) (by reply))
  where
    taken : (reply : VbReply) (a : VbAnswer) → Past (taken_as reply s a)
    taken reply (answer.Range ss se) = past
    taken reply answer.Done = past
    taken reply other = refl

    by : (reply : Option VbReply) → Past (message_result s reply)
    by None = refl
    by (Some reply) = taken reply reply.answer
passive_past other s past = past

-- a program of which more is known
weaker : {A : Type 0} (P Q : A → Type 0) → ((a : A) → P a → Q a) → (prog : Prog A) → Always AnyCall P prog → Always AnyCall Q prog
weaker P Q so (Done a) always = so a always
weaker P Q so (Call v made next) always = (always.0, λ reply any. weaker P Q so (next reply) (always.1 reply any))

-- a NOOP counts nothing
noop_read : (read : Option (Result DcpMsg DcpFault)) → is_noop read ≡ true → read ≡ Some (Ok msg.Noop)
noop_read (Some (Ok msg.Noop)) e = refl
noop_read other e = cc

one_len : (f : Frame) → counted_bytes (f ∷ []) ≡ counted_len f
unfolding counted_bytes
one_len f = omega arith

noop_counts : (f : Frame) → is_noop (read_of f) ≡ true → counted_len f ≡ 0
noop_counts f e = sym (one_len f) ∙ uncounted f (read_is f (noop_read (read_of f) e))

-- what a step makes of the dial
abbrev stepped : DialResult → ConsumerStep → Job DialResult
stepped s x = step_made x (with_consumer s (after_step x s.dial.consumer))

module _ (f : Frame) (s : DialResult) (n : ℕ) (before : Counts n s) where
  abbrev c : PlainConsumer
  c = s.dial.consumer

  abbrev Goes : Job DialResult → Type 0
  Goes job = AlwaysJob AnyReply AnyCall AnyAsk (Counts (n + counted_len f)) job

  -- one frame that tells no state which is in order
  module _ (same : frame_step c f ≡ unstated_step c f) where
    step_at : (h : Waiting) → c.handshake ≡ h → unstated_step c f ≡ (if is_some (over_why h) then step.Dropped else if f.magic == RESPONSE then response_step c.dialed.buffer h c.asked f else message_step h f)
    unfolding unstated_step
    step_at h e = ap (λ h. if is_some (over_why h) then step.Dropped else if f.magic == RESPONSE then response_step c.dialed.buffer h c.asked f else message_step h f) e

    goes_by : (x : ConsumerStep) → unstated_step c f ≡ x → Goes (stepped s x) → Goes (frame_taken f s)
    goes_by x e goes = subst Goes (sym (as_step f s x (same ∙ e))) goes

    passes : (p : Passive) → Past s → Goes (stepped s (step.Passive p))
    passes (passive.Call made) past =
        let s' : DialResult = with_consumer s (with_handshake c c.handshake) in
        always_lift AnyReply AnyCall AnyAsk (Counts (n + counted_len f)) (passive_made (passive.Call made) s') (weaker Past (Counts (n + counted_len f)) (past_counts (n + counted_len f)) (passive_made (passive.Call made) s') (passive_past (passive.Call made) s' past))
    passes other past = λ asks. cc

    -- an answer counts nothing
    none_counts : f.magic == RESPONSE ≡ true → counted_len f ≡ 0
    none_counts e = ap (λ b. if not b && is_stream_opcode f.opcode then length (spelling f) else 0) e

    -- a message
    message_at : (h : Waiting) → c.handshake ≡ h → over_why h ≡ None → f.magic == RESPONSE ≡ false → unstated_step c f ≡ message_step h f
    message_at h e still is =
        step_at h e
        ∙ ap (λ o. if is_some o then step.Dropped else if f.magic == RESPONSE then response_step c.dialed.buffer h c.asked f else message_step h f) still
        ∙ ap (λ b. if b then response_step c.dialed.buffer h c.asked f else message_step h f) is

    -- a NOOP leaves what was waited for as it was
    noop_goes : (h : Waiting) → c.handshake ≡ h → over_why h ≡ None → f.magic == RESPONSE ≡ false → is_noop (read_of f) ≡ true → Goes (frame_taken f s)
    noop_goes h e still is noop = goes_by (step.Noop f.opaque) (message_at h e still is ∙ ap (λ b. if b then step.Noop f.opaque else passive_step h (read_of f)) noop)
        (λ asks. let none_before : n ≡ 0 = before asks in let none_now : counted_len f ≡ 0 = noop_counts f noop in omega (arith, none_before, none_now))

    asking_goes : (h : Waiting) → c.handshake ≡ h → is_asking h ≡ true → passive_step h (read_of f) ≡ step.Passive passive.Protocol → over_why h ≡ None → Goes (frame_taken f s)
    asking_goes h e asks none still = by (f.magic == RESPONSE) refl
      where
        by : (b : Bool) → (f.magic == RESPONSE) ≡ b → Goes (frame_taken f s)
        by true is =
            let none_before : n ≡ 0 = before (ap is_asking e ∙ asks) in let none_now : counted_len f ≡ 0 = none_counts is in
            all_answers (Counts (n + counted_len f)) (λ t asks. omega (arith, none_before, none_now)) (frame_taken f s)
        by false is = told (is_noop (read_of f)) refl
          where
            told : (b : Bool) → is_noop (read_of f) ≡ b → Goes (frame_taken f s)
            told true noop = noop_goes h e still is noop
            told false noop = goes_by (step.Passive passive.Protocol) (message_at h e still is ∙ ap (λ b. if b then step.Noop f.opaque else passive_step h (read_of f)) noop ∙ none) (λ asks. cc)

    streaming_goes : c.handshake ≡ waiting.Streaming → Goes (frame_taken f s)
    streaming_goes e = by (f.magic == RESPONSE) refl
      where
        by : (b : Bool) → (f.magic == RESPONSE) ≡ b → Goes (frame_taken f s)
        by true is = goes_by step.Dropped (step_at waiting.Streaming e ∙ ap (λ b. if b then response_step c.dialed.buffer waiting.Streaming c.asked f else message_step waiting.Streaming f) is)
            (past_counts (n + counted_len f) (with_consumer s (with_handshake c c.handshake)) (ap is_asking e))
        by false is = told (is_noop (read_of f)) refl
          where
            told : (b : Bool) → is_noop (read_of f) ≡ b → Goes (frame_taken f s)
            told true noop = noop_goes waiting.Streaming e refl is noop
            told false noop = goes_by (step.Passive (passive_read (read_of f))) (message_at waiting.Streaming e refl is ∙ ap (λ b. if b then step.Noop f.opaque else passive_step waiting.Streaming (read_of f)) noop)
                (passes (passive_read (read_of f)) (ap is_asking e))

    unstated_counts : Goes (frame_taken f s)
    unstated_counts = by c.handshake refl
      where
        by : (h : Waiting) → c.handshake ≡ h → Goes (frame_taken f s)
        by waiting.Streaming e = streaming_goes e
        by (waiting.Over why) e = subst Goes (sym (over_taken f s why (ap over_why e))) (past_counts (n + counted_len f) s (ap is_asking e))
        by other e = asking_goes other e refl refl refl

  -- a state comes on a stream that was granted alone
  state_counts : (take : TakeStep) → c.handshake ≡ waiting.Streaming → frame_step c f ≡ step.State take f.opaque → Goes (frame_taken f s)
  state_counts take goes e =
      let k : ℕ = n + counted_len f in
      let t : ConsumerStep = step.State take f.opaque in
      subst Goes (sym (as_step f s t e))
      (state_always (Counts k) (λ s new counts. counts) (λ s uuid changes counts. counts) (λ s opaque counts. counts) (λ s counts asks. cc) (λ s counts asks. cc) take f.opaque (with_consumer s (after_step t c))
      (past_counts k (with_consumer s (after_step t c)) (ap is_asking goes)))

  -- one frame
  pub frame_counts : Goes (frame_taken f s)
  frame_counts = ⊎_elim (λ x. state_counts x.0 x.1.0.1 x.2) (λ x. unstated_counts x.1) (state_case c f)

-- frames
all_counts : (frames : List Frame) (n : ℕ) (x : Kept × DialResult) → Counts n x.1 → Counts (fold (λ m f. m + counted_len f) n frames) (fold (job_stepped frame_taken) x frames).1
all_counts [] n x counts = counts
all_counts (f ∷ frames) n x counts = all_counts frames (n + counted_len f) (job_stepped frame_taken x f) (after_job_always AnyCall AnyAsk (Counts (n + counted_len f)) (frame_taken f x.1) x.0.0 x.0.1 (frame_counts f x.1 n counts))

pub taken_counts : (frames : List Frame) (s : DialResult) (states : States) (shelves : Shelves) → Counts (counted_bytes frames) (after_job (frames_taken frames s) states shelves).1
unfolding frames_taken counted_bytes
taken_counts frames s states shelves =
    subst (λ (x : Kept × DialResult). Counts (counted_bytes frames) x.1) (sym (after_job_fold frame_taken frames (Ended s) states shelves)) (all_counts frames 0 ((states, shelves), s) (λ asks. refl))

-- ---- the acknowledgement

-- a link whose consumer acknowledged so many bytes, with these on their way to the producer
module _ (link : PlainLink) (n : ℕ) (up : List ℕ) (wrote : up ≡ link.up ++ bytes_acknowledged n link.consumer) (granted : is_streaming link.consumer.handshake ≡ true) where
  abbrev after_ack : PlainLink
  after_ack = record link { up = up }

  abbrev number : ℕ
  number = min n (2 ^ 32 - 1)

  few : number < 2 ^ 32
  few = omega arith

  abbrev frame : Frame
  frame = dcp_frame (DcpMsg.BufferAcknowledgement number) link.consumer.asked 0

  module _ {fv : Wants} {kn leader : Member} {pv : Option Plain} {g : Option Granted} {stated : Option Role} {point : Option ℕ} {asked said : List Frame} where
    opaque_low : EndsStand fv kn pv leader g stated point link.server link.consumer asked said → link.consumer.asked < 2 ^ 32
    opaque_low (EndsStand.IsAsking ask none x) = x.consumer.small
    opaque_low (EndsStand.IsRefusedYet none x) = x.consumer.small
    opaque_low (EndsStand.IsStreaming x said) = x.consumer.small
    opaque_low (EndsStand.IsHeir x said) = x.small

    stands_acked : EndsStand fv kn pv leader g stated point link.server link.consumer asked said → EndsStand fv kn pv leader g stated point link.server link.consumer (asked ++ frame ∷ []) said
    stands_acked (EndsStand.IsAsking ask none x) = let a : x.seen ≤ x.answered = x.not_more in let b : x.answered ≤ first_count link.consumer.dialed = x.some_left in absurd (not_before link.consumer granted x.seen (omega arith) x.consumer)
    stands_acked (EndsStand.IsRefusedYet none x) = absurd (not_before link.consumer granted x.seen x.not_more x.consumer)
    stands_acked (EndsStand.IsStreaming x told) = EndsStand.IsStreaming (acks_left x (asked ++ frame ∷ []) (upward_acked x.granted_is.wrote link.consumer.asked link.consumer.dialed.vb (answers_in link.consumer.asked x.serving.handing) asked x.serving.acks frame (inr (number, refl, few)))) told
    stands_acked (EndsStand.IsHeir x told) = EndsStand.IsHeir (heir_left x (asked ++ frame ∷ []) (upward_acked x.granted_is.wrote link.consumer.asked link.consumer.dialed.vb (heir_answers link.consumer.asked x.answered) asked x.acks frame (inr (number, refl, few)))) told

  ack_readable : link.consumer.asked < 2 ^ 32 → Readable frame
  ack_readable small = readable (DcpMsg.BufferAcknowledgement number) link.consumer.asked 0 tt few small (omega arith) (omega arith)

  ups_acked : (busy asked : List Frame) → Readable frame → UpIs link busy asked → UpIs after_ack busy (asked ++ frame ∷ [])
  ups_acked busy asked good x = record {
    behind = x.behind ++ frame ∷ [];
    joined = ap (λ fs. fs ++ frame ∷ []) x.joined ∙ append_assoc busy x.behind (frame ∷ []);
    bytes = ap (λ b. link.up_heard ++ b) wrote ∙ spelled_more link.up_heard link.up x.behind frame x.bytes;
    readable = All-push Readable asked frame x.readable good;
  }

  link_acked : (w w' : PlainWorld) (r : Chronicle) (c : Cluster) (asking taking : List Frame) → ((m v : ℕ) → vb_of w' m v ≡ vb_of w m v) → LinkAgrees w r c link asking taking → LinkAgrees w' r c after_ack asking taking
  link_acked w w' r c asking taking vbs x = let t = x.talk in record {
    follower = x.follower;
    follower_is = vbs (consumer_node link) link.consumer.dialed.vb ∙ x.follower_is;
    follows = x.follows;
    acks = x.acks;
    dial = x.dial;
    talk = talk_same refl (vbs (producer_node link) link.consumer.dialed.vb) refl refl refl refl (record {
      asked = t.asked ++ frame ∷ [];
      said = t.said;
      stands = stands_acked t.stands;
      ups = ups_acked asking t.asked (ack_readable (opaque_low t.stands)) t.ups;
      downs = record { behind = t.downs.behind; joined = t.downs.joined; bytes = t.downs.bytes; readable = t.downs.readable };
    });
  }

  -- no line tells of it, and all agrees as before
  pub acked_agrees : (busy : Busy) (w w' : PlainWorld) (r : Chronicle) (c : Cluster) → AgreesIn busy w r c → row_at link_number (link_number link) w.links ≡ Some link → Relinked w w' (row_put link_number (link_number link) after_ack w.links) → AgreesIn busy w' r c
  acked_agrees busy w w' r c a found became =
      let l : ℕ = link_number link in
      carries_link busy busy w w' r r c l link after_ack a found (record { dialed = refl; desk = refl }) became (λ v id has. has) (told_of_same l r) (λ k ne. refl)
      (link_acked w w' r c (busy l).0 (busy l).1 became.vbs (mine busy w r r c c l link a found))

-- ---- in a line `down`, behind its frames

module _ (line : Line) (frames : List Frame) (states : Kept) (at : Asker) (events : List Event) where
  open line use {w, r, link, found}
  open line.link.consumer.dialed use {link as l}

  abbrev n : ℕ
  n = counted_bytes frames

  -- the consumer's end with one more acknowledgement written
  abbrev wrote : List ℕ
  wrote = bytes_acknowledged n (end_of line at None)

  abbrev at' : Asker
  at' = record { out = at.out ++ wrote; waiting = at.waiting; asked = at.asked; acked = at.acked; taking = at.taking }

  joined : (link_now line at').up ≡ (link_now line at).up ++ wrote
  joined = sym (append_assoc link.up at.out wrote)

  -- the link is open, and has its stream
  module _ (granted : is_streaming at.waiting ≡ true) where
    going_counted : Going line [] states at events → Going line [] states at' events
    going_counted g = record {
      lawful = g.lawful;
      quiet = g.quiet;
      onward = g.onward;
      takes = g.takes;
      tells = g.tells;
      cluster = g.cluster;
      agrees = acked_agrees (link_now line at) n (link_now line at').up joined granted (busy_at line []) (now line states at) (now line states at') (after_lines r events) g.cluster g.agrees (found_now line states at)
          (record { powers = λ m. refl; vbs = λ m v. refl; shelves = λ m v. refl; uuids = refl; linked = sym (put_twice l w.links (link_now line at) (link_now line at') refl) });
    }

    rolled_counted : RolledAt line None states at events → RolledAt line None states at' events
    rolled_counted x =
        let there : PlainWorld = with_links (lifted_at line states) (row_put link_number l (link_now line at) w.links) in
        let there' : PlainWorld = with_links (lifted_at line states) (row_put link_number l (link_now line at') w.links) in
        let told : Chronicle = after_calls calls_of_append link.consumer.dialed.node (after_lines r events) in
        let (still, is_rolled, agrees, noted, rolls) = x.came in
        record {
          lawful = x.lawful;
          quiet = x.quiet;
          what = x.what;
          rolls = x.rolls;
          dials = x.dials;
          none_taken = x.none_taken;
          untold = x.untold;
          took = x.took;
          uncut = x.uncut;
          beside = x.beside;
          ending = x.ending;
          level = x.level;
          came = (
            still,
            is_rolled,
            (
              agrees.0,
              acked_agrees (link_now line at) n (link_now line at').up joined granted idle there there' told agrees.0 agrees.1 (put_is_found l w.links link (link_now line at) found refl)
                  (record { powers = λ m. refl; vbs = λ m v. refl; shelves = λ m v. refl; uuids = refl; linked = sym (put_twice l w.links (link_now line at) (link_now line at') refl) }),
            ),
            noted,
            rolls,
          );
        }

    owned_counted : OwnedAt line [] None states at events → OwnedAt line [] None states at' events
    owned_counted x =
        let there : PlainWorld = with_links (lifted_at line states) (row_put link_number l (link_now line at) w.links) in
        let there' : PlainWorld = with_links (lifted_at line states) (row_put link_number l (link_now line at') w.links) in
        let (still, owns, noted, c, agrees) = x.came in
        record {
          lawful = x.lawful;
          quiet = x.quiet;
          heir = x.heir;
          pended = x.pended;
          takes_over = x.takes_over;
          uncut = x.uncut;
          beside = x.beside;
          ending = x.ending;
          none_back = x.none_back;
          dials = x.dials;
          acked = x.acked;
          came = (
            still,
            owns,
            noted,
            c,
            acked_agrees (link_now line at) n (link_now line at').up joined granted (busy_at line []) there there' (after_noted (after_lines r events) link.consumer.dialed.node link.consumer.dialed.vb Role.Active line_answer.Ok) c agrees (put_is_found l w.links link (link_now line at) found refl)
                (record { powers = λ m. refl; vbs = λ m v. refl; shelves = λ m v. refl; uuids = refl; linked = sym (put_twice l w.links (link_now line at) (link_now line at') refl) }),
          );
        }

    stage_counted : (phase : Phase) → Stage line phase [] states at None events → Stage line phase [] states at' None events
    stage_counted Phase.Moving g = (going_counted g.0, g.1)
    stage_counted Phase.Rolled (none, x) = (none, rolled_counted x)
    stage_counted Phase.Owned x = owned_counted x

-- a consumer that is not over waits, or has its stream
has_stream : (h : Waiting) → is_asking h ≡ false → over_why h ≡ None → is_streaming h ≡ true
has_stream waiting.Streaming past still = refl
has_stream (waiting.Over why) past still = cc
has_stream other past still = cc

no_why : (o : Option EndReason) → is_some o ≡ false → o ≡ None
no_why None e = refl
no_why (Some why) e = cc

parts_of : (a b c : Bool) → (a || b || c) ≡ false → (a ≡ false) × (c ≡ false)
parts_of true b c e = cc
parts_of false true c e = cc
parts_of false false c e = (refl, e)

-- what is acknowledged behind the frames
pub bytes_reached : (line : Line) (frames : List Frame) (came : Kept × DialResult) (x : Reached line [] came) → Counts (counted_bytes frames) came.1 → Reached line [] (came.0, bytes_counted frames came.1)
unfolding bytes_counted
bytes_reached line frames came x counts = subst (λ (y : Kept × DialResult). Reached line [] (y.0, bytes_counted frames y.1)) (sym x.same) (by x.over x.stage (subst (λ (y : Kept × DialResult). Counts (counted_bytes frames) y.1) x.same counts))
  where
    n : ℕ
    n = counted_bytes frames

    by : (over : Option EndReason) → Stage line x.phase [] x.states x.at over x.events → Counts n (so_far line x.at over x.events) → Reached line [] (x.states, bytes_counted frames (so_far line x.at over x.events))
    by (Some why) stage counts = record { states = x.states; at = x.at; over = Some why; events = x.events; same = refl; phase = x.phase; stage = stage }
    by None stage counts = whether (is_some (over_why x.at.waiting) || line.link.consumer.dialed.buffer == 0 || n == 0) refl
      where
        s : DialResult
        s = so_far line x.at None x.events

        whether : (b : Bool) → (is_some (over_why x.at.waiting) || line.link.consumer.dialed.buffer == 0 || n == 0) ≡ b → Reached line [] (x.states, if b then s else record s { out = s.out ++ bytes_acknowledged n s.dial.consumer })
        whether true e = record { states = x.states; at = x.at; over = None; events = x.events; same = refl; phase = x.phase; stage = stage }
        whether false e =
            let (still, some) = parts_of (is_some (over_why x.at.waiting)) (line.link.consumer.dialed.buffer == 0) (n == 0) e in
            let past : is_asking x.at.waiting ≡ false = false_from_ne_true (is_asking x.at.waiting) (λ asks. eqb-false n 0 some (counts asks)) in
            let granted : is_streaming x.at.waiting ≡ true = has_stream x.at.waiting past (no_why (over_why x.at.waiting) still) in
            record { states = x.states; at = at' line frames x.states x.at x.events; over = None; events = x.events; same = refl; phase = x.phase; stage = stage_counted line frames x.states x.at x.events granted x.phase stage }
