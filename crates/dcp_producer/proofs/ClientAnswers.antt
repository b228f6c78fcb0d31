-- what a frame is answered at a client's desk
use Rattle.std.proofs.Common.{◌≡◌, ℕ, List, [], ◌∷◌, ◌++◌, refl, sym, ap, ◌∙◌, subst, inl, inr, arith, Option, Some, None}
use Rattle.std.proofs.lemmas.Bool.{false≢true}
use Rattle.mcbp_frame.specs.declared.frame.Frame.{Frame}
use Rattle.mcbp_dcp.specs.DcpFrames.{dcp_frame}
use Rattle.mcbp_dcp.specs.declared.message.DcpMsg.TheVariants as msg
use Rattle.mcbp_kv.specs.Answers.{IsBare}
use Rattle.vb_events.specs.declared.event.StreamName.TheVariants as name
use Rattle.vb_types.specs.declared.role.LogEntry.{LogEntry}
use Rattle.vb_types.specs.declared.status.Status.{Status}
use Rattle.vb_types.specs.declared.stream.AskAnswer.{AskAnswer}
use Rattle.vb_types.specs.declared.stream.AskAnswer.TheVariants as ask_answer
use Rattle.vb_types.specs.declared.stream.StreamAsk.{StreamAsk}
use Rattle.vb_types.specs.Statuses.{status_code}
use Rattle.vb_calls.specs.declared.calls.VbAnswer.{VbAnswer}
use Rattle.vb_calls.specs.declared.calls.VbAnswer.TheVariants as answer
use Rattle.vb_calls.specs.declared.calls.VbCall.{VbCall}
use Rattle.vb_calls.specs.declared.calls.VbCall.TheVariants as call
use Rattle.vb_calls.specs.declared.calls.VbReply.{VbReply}
use Rattle.vb_calls.specs.Programs.{Always, AlwaysWith, Call, Done, Prog}
use Rattle.dcp_producer.specs.declared.desk.Desk.{Desk}
use Rattle.dcp_producer.specs.Clients.{AnswersOnce, AnyLog, AsksOf, GaveLogs, GivesLogs, IsAnswer, IsRead, IsShortLog, IsSilent}
use Rattle.dcp_producer.specs.Cuts.{IsShort}
use Rattle.dcp_producer.specs.Producers.{PlainProducer, Served, is_client}
use Rattle.dcp_producer.specs.Serving.{ask_line, ask_verdict, frame_answered, high_of_reply, log_of_answer, log_of_reply, status_frame, status_sent, stream_answered, stream_verdict, verdict_with}
use Rattle.dcp_producer.proofs.Headers.{bare_short, refusal_short, spelled_short}
use Rattle.dcp_producer.proofs.Outcomes.{Outcomes, frame_comes, loud_message}

-- the answer of a status alone
pub is_bare : (f : Frame) (st : Status) → IsBare (status_frame f st) f.opcode (status_code st) f.opaque
is_bare f st = record {
  header = record { magic = refl; opcode = refl; key = refl; datatype = refl; status = refl; opaque = refl; framing = refl };
  cas = refl;
  extras = refl;
  value = refl;
}

-- by the logs that vBuckets tell
module _ (L : List LogEntry → Type 0) (none : L []) where
  log_of : (reply : Option VbReply) (c : VbCall) → GivesLogs L c reply → L (log_of_reply reply)
  log_of None c may = none
  log_of (Some reply) c may = by reply.answer may
    where
      by : (a : VbAnswer) → GaveLogs L a → L (log_of_answer a)
      by (answer.Asked said log high) gave = gave
      by (answer.Opened log high from) gave = gave
      by other gave = none

  module _ (f : Frame) (node client : ℕ) (s : Served) (named : s.end.desk.stream ≡ name.Client node client) where
    refused_once : (IsSilent f s → ⊥) → (st : Status) (end : PlainProducer) → end.desk ≡ s.end.desk → AnswersOnce L f s (status_sent f st (record s { end = end }))
    unfolding status_sent
    refused_once loud st end same = record { told = inr (loud, inl (status_frame f st, inl (status_code st, is_bare f st), refl, refl)); count = refl; resolved = refl; desk = same }

    asked_once : (ask : StreamAsk) (log : List LogEntry) (high : ℕ) (said : AskAnswer) (end : PlainProducer) → L log → IsRead f (msg.StreamRequest ask) → end.desk ≡ s.end.desk
        → AnswersOnce L f s (stream_answered f ask (record s { end = end }) log high said)
    unfolding stream_answered
    asked_once ask log high said end logged read same =
        let line : s.events ++ ask_line end.desk f ask log high said ∷ [] ≡ s.events ++ ask_line s.end.desk f ask log high said ∷ [] = ap (λ (d : Desk). s.events ++ ask_line d f ask log high said ∷ []) same in
        record {
          told = inr (loud_message f s (msg.StreamRequest ask) read (λ no. no), inr (record { ask = ask; high = high; log = log; said = said; logged = logged; read = read; line = line; frame = refl }));
          count = refl;
          resolved = refl;
          desk = same;
        }

    outcomes : Outcomes (GivesLogs L) (AnswersOnce L f s) f s
    outcomes = record {
      dropped = λ is streams. record { told = inl (inl is, (refl, refl)); count = refl; resolved = refl; desk = refl };
      taken = λ bytes read opened. record { told = inl (inr (bytes, read, opened), (refl, refl)); count = refl; resolved = refl; desk = refl };
      refused = refused_once;
      asked = λ ask id sync reply own end read may same.
          asked_once ask (log_of_reply reply) (high_of_reply reply) (verdict_with own (ask_verdict reply)) end (log_of reply (call.OpenStream id ask sync) may) read same;
      logged = λ reply log read may is. record {
        told = inr (loud_message f s msg.GetFailoverLog read (λ no. no), inl (_, inr (log, subst (GaveLogs L) is may, read, refl), refl, refl));
        count = refl;
        resolved = refl;
        desk = refl;
      };
      counted = λ member seq reply link read may. absurd (false≢true (sym link ∙ ap is_client named));
    }

    pub answers_by : AlwaysWith (GivesLogs L) (AsksOf f.vb_or_status) (AnswersOnce L f s) (frame_answered f s)
    answers_by = frame_comes (GivesLogs L) (AsksOf f.vb_or_status) (AnswersOnce L f s) f s
        (record { opens = λ id ask sync. refl; closes = λ stream at. at; counts = λ link. absurd (false≢true (sym link ∙ ap is_client named)); logs = refl }) outcomes

-- ---- whatever they tell

gives_any : (c : VbCall) (reply : Option VbReply) → GivesLogs AnyLog c reply
gives_any c None = tt
gives_any c (Some reply) = by reply.answer
  where
    by : (a : VbAnswer) → GaveLogs AnyLog a
    by (answer.Asked said log high) = tt
    by (answer.Opened log high from) = tt
    by (answer.Logged log) = tt
    by other = tt

-- what holds by some replies holds by any that are such
weaker : {A : Type 0} (calls : ℕ → VbCall → Type 0) (answers : A → Type 0) (prog : Prog A) → AlwaysWith (GivesLogs AnyLog) calls answers prog → Always calls answers prog
weaker calls answers (Done a) always = always
weaker calls answers (Call v c next) always = (always.0, λ reply any. weaker calls answers (next reply) (always.1 reply (gives_any c reply)))

pub answers_once : (f : Frame) (node client : ℕ) (s : Served) → s.end.desk.stream ≡ name.Client node client → Always (AsksOf f.vb_or_status) (AnswersOnce AnyLog f s) (frame_answered f s)
answers_once f node client s named = weaker (AsksOf f.vb_or_status) (AnswersOnce AnyLog f s) (frame_answered f s) (answers_by AnyLog tt f node client s named)

pub answers_short : (f : Frame) (node client : ℕ) (s : Served) → s.end.desk.stream ≡ name.Client node client
    → AlwaysWith (GivesLogs IsShortLog) (AsksOf f.vb_or_status) (AnswersOnce IsShortLog f s) (frame_answered f s)
answers_short f node client s named = answers_by IsShortLog (omega arith) f node client s named

-- ---- how long such an answer is

pub answer_short : (f g : Frame) → IsAnswer IsShortLog f g → IsShort g
answer_short f g (inl (code, bare)) = bare_short g f.opcode code f.opaque bare
answer_short f g (inr (log, short, read, is)) = subst IsShort (sym is) (spelled_short (msg.LogAnswer 0 log) f.opaque 0 (short, λ other. absurd (other refl)))

pub ask_short : (log : List LogEntry) (said : AskAnswer) (opaque v : ℕ) → IsShortLog log → IsShort (dcp_frame (msg.StreamAnswer (stream_verdict log said)) opaque v)
ask_short log ask_answer.Go opaque v short = spelled_short (msg.StreamAnswer (stream_verdict log ask_answer.Go)) opaque v short
ask_short log (ask_answer.Roll to) opaque v short = spelled_short (msg.StreamAnswer (stream_verdict log (ask_answer.Roll to))) opaque v tt
ask_short log (ask_answer.Refuse code) opaque v short = refusal_short code opaque v
