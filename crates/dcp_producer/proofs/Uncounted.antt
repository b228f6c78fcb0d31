-- answering counts no frames, and the connection stays the same one
use Rattle.std.proofs.Common.{◌≡◌, ℕ, List, [], refl, sym, ap, ◌∙◌, subst, inl, inr, Option}
use Rattle.mcbp_frame.specs.declared.frame.Frame.{Frame}
use Rattle.vb_types.specs.declared.role.LogEntry.{LogEntry}
use Rattle.vb_types.specs.declared.status.Status.{Status}
use Rattle.vb_types.specs.declared.stream.AskAnswer.{AskAnswer}
use Rattle.vb_types.specs.declared.stream.StreamAsk.{StreamAsk}
use Rattle.vb_calls.specs.declared.calls.VbCall.{VbCall}
use Rattle.vb_calls.specs.declared.calls.VbReply.{VbReply}
use Rattle.vb_calls.specs.Jobs.{RanJob}
use Rattle.vb_calls.specs.Programs.{Prog, Done, Call, AnyCall, AnyReply, Always, Ran}
use Rattle.vb_calls.specs.Shelves.{Ask, Got}
use Rattle.dcp_producer.specs.Producers.{PlainProducer, Served, begun}
use Rattle.dcp_producer.specs.Serving.{ask_verdict, frame_answered, high_of_reply, log_of_reply, status_sent, stream_answered, verdict_with}
use Rattle.dcp_producer.specs.declared.halt.Halt.{Halt}
use Rattle.dcp_producer.specs.Pulling.{frames_put}
use Rattle.dcp_producer.specs.Wanting.{Cut}
use Rattle.dcp_producer.proofs.Outcomes.{Outcomes, frame_comes}
use Rattle.dcp_producer.proofs.Wanting.{left_ran}

-- as many were counted as before, and the connection is the same
abbrev pub Same : Served → Served → Type 0
Same s t = (t.count ≡ s.count) × (t.end.desk ≡ s.end.desk)

module _ (f : Frame) (s : Served) where
  sent : (st : Status) (end : PlainProducer) → end.desk ≡ s.end.desk → Same s (status_sent f st (record s { end = end }))
  unfolding status_sent
  sent st end same = (refl, same)

  asked : (ask : StreamAsk) (end : PlainProducer) (log : List LogEntry) (high : ℕ) (said : AskAnswer) → end.desk ≡ s.end.desk → Same s (stream_answered f ask (record s { end = end }) log high said)
  unfolding stream_answered
  asked ask end log high said same = (refl, same)

  outcomes : Outcomes AnyReply (Same s) f s
  outcomes = record {
    dropped = λ is streams. (refl, refl);
    taken = λ bytes read opened. (refl, refl);
    refused = λ loud st end same. sent st end same;
    asked = λ ask id sync reply own end read may same. asked ask end (log_of_reply reply) (high_of_reply reply) (verdict_with own (ask_verdict reply)) same;
    logged = λ reply log read may is. (refl, refl);
    counted = λ member seq reply link read may. (refl, refl);
  }

  pub frame_same : Always AnyCall (Same s) (frame_answered f s)
  frame_same = frame_comes AnyReply AnyCall (Same s) f s (record { opens = λ id ask sync. tt; closes = λ stream at. tt; counts = λ link member seq. tt; logs = tt }) outcomes

-- the answer of a program that ran is one of those that it may come to
pub ran_always : {W A : Type 0} (step : W → ℕ → VbCall → Option VbReply → W → Type 0) (calls : ℕ → VbCall → Type 0) (answers : A → Type 0) (prog : Prog A) (old : W) (a : A) (new : W)
    → Ran step prog old a new → Always calls answers prog → answers a
ran_always step calls answers (Done b) old a new ran always = subst answers (sym ran.0) always
ran_always step calls answers (Call v call next) old a new ran always = ran_always step calls answers (next ran.0) ran.1 a new ran.3 (always.1 ran.0 tt)

-- so a call that begins with nothing told ends with no frame counted
pub answered_so : {W : Type 0} (step : W → ℕ → VbCall → Option VbReply → W → Type 0) (f : Frame) (s s' : Served) (told : Served) (plain : PlainProducer) (old new : W)
    → s ≡ begun s.end → s.end ≡ plain → told.end ≡ s'.end → told.events ≡ s'.events → told.out ≡ s'.out → told.resolved ≡ s'.resolved → Ran step (frame_answered f s) old s' new
    → Ran step (frame_answered f (begun plain)) old (record { end = told.end; events = told.events; out = told.out; count = 0; resolved = told.resolved }) new
answered_so step f s s' told plain old new begins is end events out resolved ran =
    let (same, desk) = ran_always step AnyCall (Same s) (frame_answered f s) old s' new ran (frame_same f s) in
    let none : 0 ≡ s'.count = sym (same ∙ ap (λ t. t.count) begins) in
    let whole : record { end = told.end; events = told.events; out = told.out; count = 0; resolved = told.resolved } ≡ s' = λ i. record { end = end i; events = events i; out = out i; count = none i; resolved = resolved i } in
    subst (λ t. Ran step (frame_answered f t) old (record { end = told.end; events = told.events; out = told.out; count = 0; resolved = told.resolved }) new) (begins ∙ ap begun is)
    (subst (λ t. Ran step (frame_answered f s) old t new) (sym whole) ran)

module _ {W : Type 0} (step : W → ℕ → VbCall → Option VbReply → W → Type 0) (f : Frame) (s : Served) (old new : W) where
  -- the connection stays the same one
  pub desk_answered : (s' : Served) → Ran step (frame_answered f s) old s' new → s'.end.desk ≡ s.end.desk
  desk_answered s' ran = (ran_always step AnyCall (Same s) (frame_answered f s) old s' new ran (frame_same f s)).1

  pub desk_cut : (end : PlainProducer) → Cut step (frame_answered f s) s.end old end new → end.desk ≡ s.end.desk
  desk_cut end (inl none) = ap (λ e. e.desk) none.0
  desk_cut end (inr left) =
      let (s', ran, is) = left_ran step (frame_answered f s) old end new left in
      ap (λ e. e.desk) is ∙ (ran_always step AnyCall (Same s) (frame_answered f s) old s' new ran (frame_same f s)).1

-- a pull that begins with nothing told ends with nothing that became of durable writes
pub pulled_so : {W J : Type 0} (step : W → ℕ → VbCall → Option VbReply → W → Type 0) (asks : J → ℕ → (ask : Ask) → Got ask → J → Type 0) (k : ℕ) (s s' told : Served) (h : Halt) (plain : PlainProducer) (old : W) (kept : J) (new : W) (left : J)
    → s ≡ begun s.end → s.end ≡ plain → told.end ≡ s'.end → told.events ≡ s'.events → told.out ≡ s'.out → told.count ≡ s'.count → s'.resolved ≡ s.resolved → RanJob step asks (frames_put k s) old kept (s', h) new left
    → RanJob step asks (frames_put k (begun plain)) old kept (record { end = told.end; events = told.events; out = told.out; count = told.count; resolved = [] }, h) new left
pulled_so step asks k s s' told h plain old kept new left begins is end events out count same ran =
    let none : [] ≡ s'.resolved = sym (same ∙ ap (λ t. t.resolved) begins) in
    let whole : record { end = told.end; events = told.events; out = told.out; count = told.count; resolved = [] } ≡ s' = λ i. record { end = end i; events = events i; out = out i; count = count i; resolved = none i } in
    subst (λ t. RanJob step asks (frames_put k t) old kept (record { end = told.end; events = told.events; out = told.out; count = told.count; resolved = [] }, h) new left) (begins ∙ ap begun is)
    (subst (λ t. RanJob step asks (frames_put k s) old kept (t, h) new left) (sym whole) ran)
