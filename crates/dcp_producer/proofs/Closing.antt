-- streams that are closed, and logs that are answered
use Rattle.std.proofs.Common.{◌≡◌, ◌≢◌, ◌+◌, ◌<◌, ◌≤◌, ℕ, suc, Bool, true, false, List, [], ◌∷◌, ◌++◌, length, refl, sym, ap, ◌∙◌, subst, arith, Option, Some, None}
use Rattle.std.proofs.lemmas.Bool.{false_from_ne_true, eqb-true, false≢true}
use Rattle.std.proofs.lemmas.Bool.Decides.{nat_tests}
use Rattle.std.proofs.lemmas.List.{append-nil, length-append}
use Rattle.std.proofs.lemmas.List.Elements.{All-head, All-tail, All-nil, All-cons}
use Rattle.std.proofs.Math.Seq.{take-append-add, drop-append-add}
use Rattle.std.specs.Prelude.{if◌then◌else◌, nat_lt, not, take, drop, ◌==◌}
use Rattle.std.specs.List.{All, position_or_len}
use Rattle.mcbp_frame.specs.declared.frame.Frame.{Frame}
use Rattle.mcbp_frame.specs.Spelling.{spelling}
use Rattle.mcbp_dcp.specs.declared.message.DcpMsg.TheVariants as msg
use Rattle.mcbp_dcp.specs.DcpFrames.{dcp_frame}
use Rattle.mcbp_dcp.specs.MessageRows.{answer_head, log_answer_bytes, some_log}
use Rattle.flow_control.specs.Rings.{IsRing, closed}
use Rattle.flow_control.specs.Laws.{ahead, behind, others, AreApart, Closes}
use Rattle.flow_control.proofs.Closing.{closes}
use Rattle.vb_types.specs.declared.role.LogEntry.{LogEntry}
use Rattle.vb_types.specs.declared.status.Status.TheVariants as status
use Rattle.vb_calls.specs.declared.calls.VbCall.TheVariants as call
use Rattle.vb_calls.specs.declared.calls.VbReply.{VbReply}
use Rattle.vb_calls.specs.Programs.{Prog, Done, Call, Made, Told}
use Rattle.dcp_producer.specs.declared.desk.Handshake.{Handshake}
use Rattle.dcp_producer.specs.declared.desk.Handshake.TheVariants as handshake
use Rattle.dcp_producer.specs.Producers.{PlainStream, PlainProducer, Rising, Served, is_open, ring_of, stream_at, without_id, without_place, without_stream}
use Rattle.dcp_producer.specs.Serving.{status_frame, status_sent, closed_sent, stream_closed, once_open, log_answered, log_given, log_sent, message_answered}
use Rattle.dcp_producer.specs.Handshaking.{Gets}
use Rattle.dcp_producer.specs.Having.{AreOfOthers, IsOpened, IsSound, IsStreamOf, NoneOf}
use Rattle.dcp_producer.specs.Closing.{Leaves, Closed, ClosesIt, Logs, LogsAs, OneLog, LogsBytes}
use Rattle.dcp_producer.specs.Producers.{IsKept}
use Rattle.dcp_producer.proofs.Kept.{ids_of, kept_less}
use Rattle.dcp_producer.proofs.Finding.{none_at, found_at}
use Rattle.dcp_producer.proofs.Weighing.{same_gets}

-- ---- the stream that is closed is the one that stands there

abbrev Differs : ℕ → PlainStream → Type 0
Differs id stream = stream.id ≢ id

by_id : ℕ → PlainStream → Bool
by_id id stream = stream.id == id

-- those before one that stands behind them have other numbers
pub others_before : (front : List PlainStream) (stream : PlainStream) (back : List PlainStream) → Rising (front ++ stream ∷ back) → All (Differs stream.id) front
others_before [] stream back rise = All-nil (Differs stream.id)
others_before (x ∷ front) stream back (above, rise) =
    let less : x.id < stream.id = All-head (λ (o : PlainStream). x.id < o.id) stream back (above_last x front (stream ∷ back) above) in
    All-cons (Differs stream.id) x front (λ is. let e = is in absurd (omega (arith, less, e))) (others_before front stream back rise)
  where
    above_last : (x : PlainStream) (front more : List PlainStream) → All (λ (o : PlainStream). x.id < o.id) (front ++ more) → All (λ (o : PlainStream). x.id < o.id) more
    above_last x [] more all = all
    above_last x (y ∷ front) more all = above_last x front more (All-tail (λ (o : PlainStream). x.id < o.id) y (front ++ more) all)

pub others_behind : (front : List PlainStream) (stream : PlainStream) (back : List PlainStream) → Rising (front ++ stream ∷ back) → All (λ other. stream.id < other.id) back
others_behind [] stream back (above, rise) = above
others_behind (x ∷ front) stream back (above, rise) = others_behind front stream back rise

one_more : (n m : ℕ) → n ≡ m → 1 + n ≡ suc m
one_more n m is = omega (arith, is)

pub place_is : (front : List PlainStream) (stream : PlainStream) (back : List PlainStream) → All (Differs stream.id) front
    → position_or_len (λ other. other.id == stream.id) (front ++ stream ∷ back) ≡ length front
place_is [] stream back differ =
    let e : (stream.id == stream.id) ≡ true = grind (arith, nat_tests) in
    ap (λ b. if not b then 1 + position_or_len (λ (other : PlainStream). other.id == stream.id) back else 0) e
place_is (x ∷ front) stream back differ =
    ap (λ b. if not b then 1 + position_or_len (λ (other : PlainStream). other.id == stream.id) (front ++ stream ∷ back) else 0)
    (false_from_ne_true (x.id == stream.id) (λ t. All-head (Differs stream.id) x front differ (eqb-true x.id stream.id t)))
    ∙ one_more (position_or_len (λ (other : PlainStream). other.id == stream.id) (front ++ stream ∷ back)) (length front) (place_is front stream back (All-tail (Differs stream.id) x front differ))

pub taken_out : (front : List PlainStream) (stream : PlainStream) (back : List PlainStream) → All (Differs stream.id) front
    → without_id stream.id (front ++ stream ∷ back) ≡ front ++ back
taken_out front stream back differ =
    let at = place_is front stream back differ in
    let long : length (front ++ stream ∷ back) ≡ length front + suc (length back) = length-append front (stream ∷ back) in
    let low : nat_lt (length front) (length (front ++ stream ∷ back)) ≡ true = grind (arith, nat_tests, long) in
    let none : length front + 0 ≡ length front = omega arith in
    let one : length front + 1 ≡ suc (length front) = omega arith in
    ap (λ n. without_place (if nat_lt n (length (front ++ stream ∷ back)) then Some n else None) (front ++ stream ∷ back)) at
    ∙ ap (λ b. without_place (if b then Some (length front) else None) (front ++ stream ∷ back)) low
    ∙ ap (λ n. take n (front ++ stream ∷ back) ++ drop (suc (length front)) (front ++ stream ∷ back)) (sym none)
    ∙ ap (λ n. take (length front + 0) (front ++ stream ∷ back) ++ drop n (front ++ stream ∷ back)) (sym one)
    ∙ (λ i. take-append-add front (stream ∷ back) 0 i ++ drop-append-add front (stream ∷ back) 1 i)
    ∙ ap (λ xs. xs ++ back) (append-nil front)

-- ---- its number is no other's

ids_apart : (streams : List PlainStream) → Rising streams → AreApart (ids_of streams)
ids_apart [] rise = tt
ids_apart (x ∷ more) (above, rise) = (none_same x more above, ids_apart more rise)
  where
    none_same : (x : PlainStream) (more : List PlainStream) → All (λ (o : PlainStream). x.id < o.id) more → All (λ other. other ≢ x.id) (ids_of more)
    none_same x [] above = All-nil (λ other. other ≢ x.id)
    none_same x (y ∷ more) above =
        let less : x.id < y.id = All-head (λ (o : PlainStream). x.id < o.id) y more above in
        All-cons (λ other. other ≢ x.id) y.id (ids_of more) (λ is. absurd (omega (arith, less, is))) (none_same x more (All-tail (λ (o : PlainStream). x.id < o.id) y more above))

-- ---- those that are left are of other vBuckets

front_of_others : (v : ℕ) (front : List PlainStream) (stream : PlainStream) (back : List PlainStream) → stream.vb ≡ v → NoneOf v front → AreOfOthers (front ++ stream ∷ back) → NoneOf v (front ++ back)
front_of_others v [] stream back is none (others, apart) = subst (λ w. NoneOf w back) is others
front_of_others v (x ∷ front) stream back is none (others, apart) =
    All-cons (λ (o : PlainStream). o.vb ≢ v) x (front ++ back) (All-head (λ (o : PlainStream). o.vb ≢ v) x front none) (front_of_others v front stream back is (All-tail (λ (o : PlainStream). o.vb ≢ v) x front none) apart)

pub length_ids : (xs : List PlainStream) → length (ids_of xs) ≡ length xs
length_ids [] = refl
length_ids (x ∷ xs) = ap suc (length_ids xs)

-- so it is kept
pub sound_kept : (end : PlainProducer) → IsSound end → IsKept end.desk.base end.asked end.streams (ring_of end)
sound_kept end sound = record { ids = refl; rise = sound.rise; numbered = sound.numbered; turn = subst (λ n. end.turn ≤ n) (sym (length_ids end.streams)) sound.turn }

-- a stream that is taken out leaves the others
pub leaves_out : (end : PlainProducer) (stream : PlainStream) (front back : List PlainStream) → IsSound end → end.streams ≡ front ++ stream ∷ back → Leaves stream end (without_stream stream.id end)
leaves_out end stream front back sound stood =
    let ring : IsRing (ring_of end) = subst (λ n. end.turn ≤ n) (sym (length_ids end.streams)) sound.turn in
    let shut : Closes (ring_of end) stream.id = closes (ring_of end) stream.id ring (ids_apart end.streams sound.rise) in
    let rise : Rising (front ++ stream ∷ back) = subst Rising stood sound.rise in
    let ids : (closed stream.id (ring_of end)).ids ≡ ids_of (without_id stream.id end.streams) = (kept_less end.desk.base end.asked stream.id end.streams (ring_of end) (sound_kept end sound)).ids in
    let same : ring_of (without_stream stream.id end) ≡ closed stream.id (ring_of end) = λ i. record { ids = sym ids i; turn = (closed stream.id (ring_of end)).turn } in
    record {
      front = front;
      back = back;
      stood = stood;
      left = ap (without_id stream.id) stood ∙ taken_out front stream back (others_before front stream back rise);
      rest = refl;
      ahead = ap ahead same ∙ shut.ahead;
      behind = ap behind same ∙ shut.behind;
    }

-- ---- CLOSE_STREAM

module _ (f : Frame) (s : Served) where
  is_opened : (h : Handshake) → (h ≡ handshake.Fresh → ⊥) → is_open h ≡ true
  is_opened handshake.Fresh opened = absurd (opened refl)
  is_opened (handshake.Open sync name) opened = refl

  pub open_so : (prog : Prog Served) → IsOpened s → once_open f s prog ≡ prog
  open_so prog opened = ap (λ b. if b then prog else Done (status_sent f status.Einval s)) (is_opened s.end.handshake opened)

  pub fresh_so : (prog : Prog Served) → s.end.handshake ≡ handshake.Fresh → once_open f s prog ≡ Done (status_sent f status.Einval s)
  fresh_so prog fresh = ap (λ h. if is_open h then prog else Done (status_sent f status.Einval s)) fresh

  -- before OPEN
  pub early : (prog : Prog Served) → s.end.handshake ≡ handshake.Fresh → Gets 4 handshake.Fresh f s (once_open f s prog)
  early prog fresh = subst (λ h. Gets 4 h f s (once_open f s prog)) fresh (same_gets f status.Einval s (once_open f s prog) (fresh_so prog fresh))

  pub close_early : s.end.handshake ≡ handshake.Fresh → Gets 4 handshake.Fresh f s (message_answered f msg.CloseStream s)
  close_early fresh = early (stream_closed f s (stream_at f.vb_or_status s.end.streams)) fresh

  pub close_none : IsOpened s → NoneOf f.vb_or_status s.end.streams → Gets 1 s.end.handshake f s (message_answered f msg.CloseStream s)
  close_none opened none =
      same_gets f status.KeyEnoent s (message_answered f msg.CloseStream s)
      (open_so (stream_closed f s (stream_at f.vb_or_status s.end.streams)) opened ∙ ap (stream_closed f s) (none_at f.vb_or_status s.end.streams none))

  module _ (sound : IsSound s.end) (stream : PlainStream) (there : IsStreamOf f.vb_or_status stream s.end.streams) where
    closed_so : Closed f stream s (closed_sent f stream.id s)
    unfolding status_sent leaves_out
    closed_so =
        let leaves : Leaves stream s.end (without_stream stream.id s.end) = leaves_out s.end stream there.front there.back sound there.stands in
        record {
          frame = status_frame f status.Success;
          is = record {
            header = record { magic = refl; opcode = refl; key = refl; datatype = refl; status = refl; opaque = refl; framing = refl };
            cas = refl;
            extras = refl;
            value = refl;
          };
          out = refl;
          rest = (refl, refl, refl);
          leaves = leaves;
          silent = subst (NoneOf f.vb_or_status) (sym leaves.left)
              (front_of_others f.vb_or_status there.front stream there.back there.of there.first (subst AreOfOthers there.stands sound.apart));
        }

    by_ended : (b : Bool) → stream.ended ≡ b → (made : List Made) (s' : Served)
        → Told (if b then Done (closed_sent f stream.id s) else Call stream.vb (call.CloseStream stream.id) (λ reply. Done (closed_sent f stream.id s))) made s' → ClosesIt f stream s made s'
    by_ended true is [] s' told = record {
      closed = subst (Closed f stream s) (sym told) closed_so;
      told = λ alive. absurd (false≢true (sym alive ∙ is));
      untold = λ ended. refl;
    }
    by_ended true is (m ∷ made) s' told = absurd told
    by_ended false is [] s' told = absurd told
    by_ended false is (m ∷ []) s' (at, asked, told) = record {
      closed = subst (Closed f stream s) (sym told) closed_so;
      told = λ alive. (m.2, λ i. ((at ∙ there.of) i, asked i, m.2) ∷ []);
      untold = λ ended. absurd (false≢true (sym is ∙ ended));
    }
    by_ended false is (m ∷ n ∷ made) s' (at, asked, told) = absurd told

    pub close_told : IsOpened s → (made : List Made) (s' : Served) → Told (message_answered f msg.CloseStream s) made s' → ClosesIt f stream s made s'
    close_told opened made s' told =
        by_ended stream.ended refl made s'
        (subst (λ p. Told p made s')
        (open_so (stream_closed f s (stream_at f.vb_or_status s.end.streams)) opened ∙ ap (stream_closed f s) (found_at f.vb_or_status stream s.end.streams there)) told)

  -- ---- GET_FAILOVER_LOG

  pub log_early : s.end.handshake ≡ handshake.Fresh → Gets 4 handshake.Fresh f s (message_answered f msg.GetFailoverLog s)
  log_early fresh = early (Call f.vb_or_status call.Log (λ reply. Done (log_answered f s reply))) fresh

  -- a log, entry by entry
  log_so : (log : List LogEntry) → Logs f log s (log_sent f s (Some log))
  unfolding dcp_frame
  log_so log = record {
    frame = dcp_frame (msg.LogAnswer 0 log) f.opaque 0;
    header = record { magic = refl; opcode = refl; key = refl; datatype = refl; status = refl; opaque = refl; framing = refl };
    cas = refl;
    extras = refl;
    value = refl;
    only = refl;
  }

  logs_as : (reply : Option VbReply) → LogsAs f s (log_answered f s reply) reply
  logs_as reply = record {
    logged = λ r log there said. subst (Logs f log s) (sym (ap (log_answered f s) there ∙ ap (λ a. log_sent f s (log_given a)) said)) (log_so log);
    absent = λ none. same_gets f status.NotMyVbucket s (Done (log_answered f s reply)) (ap (λ o. Done (log_answered f s o)) none);
  }

  one_log_of : (made : List Made) (s' : Served) → Told (Call f.vb_or_status call.Log (λ reply. Done (log_answered f s reply))) made s'
      → (reply : Option VbReply) × (made ≡ (f.vb_or_status, call.Log, reply) ∷ []) × LogsAs f s s' reply
  one_log_of [] s' told = absurd told
  one_log_of (m ∷ []) s' (at, asked, told) = (m.2, λ i. (at i, asked i, m.2) ∷ [], subst (λ t. LogsAs f s t m.2) (sym told) (logs_as m.2))
  one_log_of (m ∷ n ∷ made) s' (at, asked, told) = absurd told

  pub one_log : IsOpened s → OneLog f s
  one_log opened made s' told =
      one_log_of made s' (subst (λ p. Told p made s') (open_so (Call f.vb_or_status call.Log (λ reply. Done (log_answered f s reply))) opened) told)

  -- ---- NOOP

  pub noop_open : IsOpened s → Gets 0 s.end.handshake f s (message_answered f msg.Noop s)
  noop_open opened =
      same_gets f status.Success s (message_answered f msg.Noop s)
      (ap (λ b. Done (status_sent f (if b then status.Success else status.Einval) s)) (is_opened s.end.handshake opened))

  pub noop_early : s.end.handshake ≡ handshake.Fresh → Gets 4 handshake.Fresh f s (message_answered f msg.Noop s)
  noop_early fresh =
      subst (λ h. Gets 4 h f s (message_answered f msg.Noop s)) fresh
      (same_gets f status.Einval s (message_answered f msg.Noop s) (ap (λ h. Done (status_sent f (if is_open h then status.Success else status.Einval) s)) fresh))

-- the bytes of a log
log_bytes_put : (log : List LogEntry) (bytes : List ℕ) → spelling (dcp_frame (msg.LogAnswer 0 log) 0x0a0b0c0d 0) ≡ bytes → LogsBytes log bytes
log_bytes_put log bytes spelled f s s' r opened opaque said told =
    let opened_told : Told (Call f.vb_or_status call.Log (λ reply. Done (log_answered f s reply))) ((f.vb_or_status, call.Log, Some r) ∷ []) s' =
    subst (λ p. Told p ((f.vb_or_status, call.Log, Some r) ∷ []) s') (open_so f s (Call f.vb_or_status call.Log (λ reply. Done (log_answered f s reply))) opened) told in
    ap (λ (t : Served). t.out) (opened_told.2 ∙ ap (λ a. log_sent f s (log_given a)) said)
    ∙ ap (λ n. s.out ++ spelling (dcp_frame (msg.LogAnswer 0 log) n 0)) opaque ∙ ap (λ b. s.out ++ b) spelled

pub two_logged : LogsBytes some_log log_answer_bytes
unfolding spelling dcp_frame
two_logged = log_bytes_put some_log _ refl

pub none_logged : LogsBytes [] (answer_head 0x54 0x00 0x00 0x00)
unfolding spelling dcp_frame
none_logged = log_bytes_put [] _ refl
