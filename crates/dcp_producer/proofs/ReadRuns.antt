-- what reading a journal for a backfill comes to, and one call of a vBucket
use Rattle.std.proofs.Common.{◌≡◌, ℕ, refl, inl, inr, Option, Some, None}
use Rattle.vb_events.specs.declared.event.StreamName.{StreamName}
use Rattle.vb_calls.specs.declared.calls.VbCall.{VbCall}
use Rattle.vb_calls.specs.declared.calls.VbCall.TheVariants as call
use Rattle.vb_calls.specs.declared.calls.VbReply.{VbReply}
use Rattle.vb_calls.specs.Jobs.{Job, BeganJob, BeganRequests, RanJob, RanRequests}
use Rattle.vb_calls.specs.Programs.{Began, Call, Done, Ran}
use Rattle.vb_calls.specs.Shelves.{Ask, Got}
use Rattle.vb_calls.proofs.JobRuns.{began_bind_job, began_requests, ran_began_job, ran_bind_job, ran_requests}
use Rattle.dcp_producer.specs.declared.next_frame.NextFrame.{NextFrame}
use Rattle.dcp_producer.specs.Frames.{ALL_SENT, Next, backfill_next, close_sent, go_on_by, over, read_job, take_answered, take_requested}
use Rattle.dcp_producer.specs.Producers.{PlainStream}

module _ {W J : Type 0} (step : W → ℕ → VbCall → Option VbReply → W → Type 0) (asks : J → ℕ → (ask : Ask) → Got ask → J → Type 0) (name : StreamName) (on : PlainStream → Job Next) (end : ℕ) (stream : PlainStream) (old : W) (kept : J) where
  -- there is a frame
  pub read_ran : (next : NextFrame) (left : PlainStream) (held : J) → RanRequests asks (read_job name end stream) kept (Some next, left) held → RanJob step asks (backfill_next name on end stream) old kept (next, left) old held
  read_ran next left held ran =
      ran_bind_job step asks (read_job name end stream) (go_on_by on) old kept (Some next, left) old held (next, left) old held
      (ran_requests step asks (read_job name end stream) old kept (Some next, left) held ran) (refl, refl, refl)

  -- there is nothing, and the stream went on
  pub read_ran_on : (left : PlainStream) (held : J) (next : Next) (new : W) (last : J) → RanRequests asks (read_job name end stream) kept (None, left) held → RanJob step asks (on left) old held next new last
      → RanJob step asks (backfill_next name on end stream) old kept next new last
  read_ran_on left held next new last ran more =
      ran_bind_job step asks (read_job name end stream) (go_on_by on) old kept (None, left) old held next new last
      (ran_requests step asks (read_job name end stream) old kept (None, left) held ran) more

  -- it began to read
  pub read_began : (held : J) → BeganRequests asks (read_job name end stream) kept held → BeganJob step asks (backfill_next name on end stream) old kept old held
  read_began held began = began_bind_job step asks (read_job name end stream) (go_on_by on) old kept old held (began_requests step asks (read_job name end stream) old kept held began)

  -- there is nothing, and the stream began to go on
  pub read_began_on : (left : PlainStream) (held : J) (new : W) (last : J) → RanRequests asks (read_job name end stream) kept (None, left) held → BeganJob step asks (on left) old held new last
      → BeganJob step asks (backfill_next name on end stream) old kept new last
  read_began_on left held new last ran more =
      ran_began_job step asks (read_job name end stream) (go_on_by on) old kept (None, left) old held new last
      (ran_requests step asks (read_job name end stream) old kept (None, left) held ran) more

module _ {W J : Type 0} (step : W → ℕ → VbCall → Option VbReply → W → Type 0) (asks : J → ℕ → (ask : Ask) → Got ask → J → Type 0) (stream : PlainStream) (old : W) (kept : J) (new : W) where
  -- a call that was made, while the journals stayed
  pub close_ran : (next : Next) → Ran step (Call stream.vb (call.CloseStream stream.id) (λ reply. Done (over ALL_SENT stream))) old next new → RanJob step asks (close_sent stream) old kept next new kept
  close_ran next ran = (ran.0, ran.1, ran.2, (ran.3.0, ran.3.1, refl))

  pub take_ran : (name : StreamName) (next : Next) → Ran step (Call stream.vb (call.Take stream.id) (λ reply. Done (take_answered name stream reply))) old next new → RanJob step asks (take_requested name stream) old kept next new kept
  take_ran name next ran = (ran.0, ran.1, ran.2, (ran.3.0, ran.3.1, refl))

  pub take_began : (name : StreamName) → Began step (Call stream.vb (call.Take stream.id) (λ reply. Done (take_answered name stream reply))) old new → BeganJob step asks (take_requested name stream) old kept new kept
  take_began name (inl same) = inl (same, refl)
  take_began name (inr more) = inr (more.0, more.1, more.2, (more.3, refl))

pub ruleset reads = (read_ran, read_ran_on, read_began, read_began_on, close_ran, take_ran, take_began)
