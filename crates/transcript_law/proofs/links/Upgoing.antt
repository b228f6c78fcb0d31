-- what a consumer with a stream has on its way up: how it grows, and how its producer takes it off
use Rattle.std.specs.Prelude.{◌≡◌, ◌<◌, ◌∷◌, ◌++◌, ◌==◌, ◌&&◌, ◌^◌}
use Rattle.transcript_law.proofs.Words.{ℕ, Bool, true, false, List, [], refl, ap, sym, ◌∙◌, inl, inr, ⊎_elim, cond, filter, filter-append, append-nil, Option, Some, All-head, All-tail, All-push, All-weaker, Frame, dcp_frame, Member, Plain, PlainProducer, PlainConsumer, PlainStream, Granted, is_active, stream_branch}
use Rattle.transcript_law.proofs.links.Firsts.{first_count}
use Rattle.transcript_law.proofs.invariant.Agreement.{Heir, IsAcknowledgement, IsUpward, OpenYet, ServerIs, Streaming, UpwardIs, Wants, answers_in, heir_answers, is_state_answer, kept_stream, state_answer}

-- an acknowledgement answers no state
pub ack_unanswered : (wrote : List ℕ) (o vb : ℕ) (f : Frame) → IsAcknowledgement wrote o vb f → is_state_answer f ≡ false
unfolding dcp_frame
ack_unanswered wrote o vb f (inl (seq, is, low, one)) = ap is_state_answer is
ack_unanswered wrote o vb f (inr (bytes, is, low)) = ap is_state_answer is

pub answer_answers : (o : ℕ) → is_state_answer (state_answer o) ≡ true
unfolding dcp_frame
answer_answers o = refl

-- of frames in front of which there is one that answers a state, or none, so many more do
answers_front : (f : Frame) (fs : List Frame) (b : Bool) → is_state_answer f ≡ b → filter is_state_answer (f ∷ fs) ≡ cond b (f ∷ filter is_state_answer fs) (filter is_state_answer fs)
answers_front f fs b is = ap (λ t. cond t (f ∷ filter is_state_answer fs) (filter is_state_answer fs)) is

-- ---- at its end

module _ (wrote : List ℕ) (o vb : ℕ) (answers up : List Frame) (x : UpwardIs wrote o vb answers up) where
  -- one more acknowledgement
  pub upward_acked : (f : Frame) → IsAcknowledgement wrote o vb f → UpwardIs wrote o vb answers (up ++ f ∷ [])
  upward_acked f ack = record {
    each = All-push (IsUpward wrote o vb) up f x.each (inl ack);
    answers_are = filter-append is_state_answer up (f ∷ []) ∙ ap (λ fs. filter is_state_answer up ++ fs) (answers_front f [] false (ack_unanswered wrote o vb f ack)) ∙ append-nil (filter is_state_answer up) ∙ x.answers_are;
  }

  -- the answer to a state
  pub upward_answered : UpwardIs wrote o vb (answers ++ state_answer o ∷ []) (up ++ state_answer o ∷ [])
  upward_answered = record {
    each = All-push (IsUpward wrote o vb) up (state_answer o) x.each (inr refl);
    answers_are = filter-append is_state_answer up (state_answer o ∷ []) ∙ ap (λ fs. filter is_state_answer up ++ fs) (answers_front (state_answer o) [] true (answer_answers o)) ∙ ap (λ fs. fs ++ state_answer o ∷ []) x.answers_are;
  }

  -- what was acknowledged stays so, once more is
  pub upward_wrote : (seq : ℕ) → UpwardIs (seq ∷ wrote) o vb answers up
  upward_wrote seq = record {
    each = All-weaker (IsUpward wrote o vb) (IsUpward (seq ∷ wrote) o vb) (λ f u. ⊎_elim (λ ack. inl (⊎_elim (λ s. inl (s.0, s.1, s.2, inr s.3)) (λ b. inr b) ack)) (λ answer. inr answer) u) up x.each;
    answers_are = x.answers_are;
  }

-- ---- at its front

module _ (wrote : List ℕ) (o vb : ℕ) (answers : List Frame) (f : Frame) (rest : List Frame) (x : UpwardIs wrote o vb answers (f ∷ rest)) where
  -- which frame it is
  pub upward_front : IsUpward wrote o vb f
  upward_front = All-head (IsUpward wrote o vb) f rest x.each

  -- behind an acknowledgement
  pub upward_behind : is_state_answer f ≡ false → UpwardIs wrote o vb answers rest
  upward_behind none = record { each = All-tail (IsUpward wrote o vb) f rest x.each; answers_are = sym (answers_front f rest false none) ∙ x.answers_are }

  -- an answer is the first one that is to come
  pub upward_answers : f ≡ state_answer o → f ∷ filter is_state_answer rest ≡ answers
  upward_answers is = sym (answers_front f rest true (ap is_state_answer is ∙ answer_answers o)) ∙ x.answers_are

  -- behind the only one
  pub upward_last : f ≡ state_answer o → (answers ≡ state_answer o ∷ []) → UpwardIs wrote o vb [] rest
  upward_last is one = record {
    each = All-tail (IsUpward wrote o vb) f rest x.each;
    answers_are = let e : f ∷ filter is_state_answer rest ≡ state_answer o ∷ [] = upward_answers is ∙ one in cc;
  }

-- ---- a stream with other frames on their way up

abbrev pub acks_left : {fv : Wants} {kn : Member} {pv : Option Plain} {leader : Member} {g : Option Granted} {served : PlainProducer} {asker : PlainConsumer} {up put : List Frame} (t : Streaming fv kn pv leader g served asker up put) (rest : List Frame)
    → UpwardIs t.granted_is.wrote asker.asked asker.dialed.vb (answers_in asker.asked t.handing) rest → Streaming fv kn pv leader g served asker rest put
acks_left t rest acks = record {
  granted_is = t.granted_is;
  told = t.told;
  serving = record {
    stream = t.stream;
    stream_is = t.stream_is;
    numbered = t.numbered;
    apart = t.apart;
    server = t.server;
    handing = t.handing;
    gives_is = t.gives_is;
    dialed_so = t.dialed_so;
    acks = acks;
    unput = t.unput;
    unput_is = t.unput_is;
    all_put = t.all_put;
    stated_behind = t.stated_behind;
  };
  feed = t.feed;
  fed = t.fed;
  sources = t.sources;
  log_fits = t.log_fits;
  seen = t.seen;
  taking = t.taking;
  streams = t.streams;
  all = t.all;
}

-- the same of an heir's
pub heir_left : {pv : Option Plain} {g : Option Granted} {served : PlainProducer} {asker : PlainConsumer} {up put : List Frame} (t : Heir pv g served asker up put) (rest : List Frame)
    → UpwardIs t.granted_is.wrote asker.asked asker.dialed.vb (heir_answers asker.asked t.answered) rest → Heir pv g served asker rest put
heir_left t rest acks = record {
  granted_is = t.granted_is;
  told = t.told;
  stream = t.stream;
  stream_is = t.stream_is;
  vb_is = t.vb_is;
  opaque_is = t.opaque_is;
  numbered = t.numbered;
  apart = t.apart;
  whole = t.whole;
  last = t.last;
  flag_is = t.flag_is;
  server = t.server;
  answered = t.answered;
  gives_is = t.gives_is;
  for_takeover = t.for_takeover;
  owns = t.owns;
  granted = t.granted;
  small = t.small;
  acks = acks;
  over_done = t.over_done;
  opens = t.opens;
  none_marked = t.none_marked;
  none_coming = t.none_coming;
  end_is = t.end_is;
}

-- ---- by what a producer counts

-- a link's stream that the lines tell, whose vBucket is on its branch where it is active and the stream is open
pub record CountsBy (pv : Option Plain) (leader : Member) (g : Option Granted) (served : PlainProducer) (asker : PlainConsumer) : Type 0 where
  pub granted_is : Granted
  pub told : g ≡ Some granted_is
  pub stream : PlainStream
  pub stream_is : served.streams ≡ kept_stream granted_is.over stream
  pub apart : served.desk.node ≡ asker.dialed.node → ⊥
  pub server : ServerIs served asker.dialed (first_count asker.dialed)
  pub small : asker.asked < 2 ^ 32
  pub on_branch : stream.ended ≡ false → granted_is.over ≡ false → (producer : Plain) → pv ≡ Some producer → is_active producer.role ≡ true → leader.br ≡ stream_branch granted_is

module _ {fv : Wants} {kn : Member} {pv : Option Plain} {leader : Member} {g : Option Granted} {served : PlainProducer} {asker : PlainConsumer} {up put : List Frame} where
  abbrev pub streaming_counts : Streaming fv kn pv leader g served asker up put → CountsBy pv leader g served asker
  streaming_counts t = record {
    granted_is = t.granted_is;
    told = t.told;
    stream = t.stream;
    stream_is = t.stream_is;
    apart = t.apart;
    server = t.server;
    small = t.consumer.small;
    on_branch = λ lives over producer is active. (t.streams.opens lives).leads ∙ sym t.streams.put.front_is;
  }

-- a vBucket with an heir's open stream is not active
pub given_up_rests : {pv : Option Plain} {id : ℕ} (producer : Plain) → pv ≡ Some producer → is_active producer.role ≡ true → OpenYet id pv → ⊥
given_up_rests producer is active y =
    let same : Some producer ≡ Some y.producer = sym is ∙ y.producer_is in
    let one : producer ≡ y.producer = cc in
    let dead : false ≡ true = sym (ap is_active y.dead) ∙ sym (ap (λ (p : Plain). is_active p.role) one) ∙ active in
    cc

abbrev pub heir_counts : {pv : Option Plain} {leader : Member} {g : Option Granted} {served : PlainProducer} {asker : PlainConsumer} {up put : List Frame} → Heir pv g served asker up put → CountsBy pv leader g served asker
heir_counts t = record {
  granted_is = t.granted_is;
  told = t.told;
  stream = t.stream;
  stream_is = t.stream_is;
  apart = t.apart;
  server = t.server;
  small = t.small;
  on_branch = λ lives over producer is active. absurd (given_up_rests producer is active (t.opens lives over));
}
