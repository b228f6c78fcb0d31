-- what is taken to be written down, and what is known to be
use Rattle.std.specs.Prelude.{ℕ, ◌+◌, nat_lt, max, Option, Some, None, length}
use Rattle.std.specs.List.{filter, find, flat_map}
use Rattle.vb_types.specs.declared.journal.Batch.{Batch}
use Rattle.vb_calls.specs.declared.calls.VbAnswer.TheVariants as answer
use Rattle.vb_calls.specs.declared.calls.VbReply.{VbReply}
use Rattle.vb_calls.specs.declared.span.Span.{Span}
use Rattle.vb_calls.specs.State.{Plain, quiet_reply}
use Rattle.vb_calls.specs.Spans.{all_spans, live_in, span_position}
use Rattle.vb_calls.specs.Settling.{and_settled}

-- the span that the next change to be written down stands in: the first that goes on above what was taken
abbrev pub unflushed_span : Plain → Option Span
unflushed_span vb = find (λ w. nat_lt vb.flushed w.last) (all_spans vb.spans)

-- the live changes of a span that were not taken yet, with where the vBucket stands once it has them, and its log and last CAS
abbrev pub batch_of : Plain → Span → Batch
batch_of vb w = record {
  position = span_position w.origin w.last;
  cas = vb.last_cas;
  log = vb.log;
  items = filter (λ c. nat_lt vb.flushed c.seq) (live_in w vb.held);
}

-- the rest of a span is taken, if there is one; what is saved stays
abbrev pub flush_from : Option Span → Plain → Plain × VbReply
flush_from None vb = (vb, quiet_reply answer.Nothing)
flush_from (Some w) vb = (record vb { flushed = w.last }, quiet_reply (answer.Rows (batch_of vb w)))

-- the next batch
abbrev pub flush_row : Plain → Plain × VbReply
flush_row vb = flush_from (unflushed_span vb) vb

-- all up to this seqno is written down; what is saved never falls, and what may be committed then is
abbrev pub flushed_row : Plain → ℕ → Plain × VbReply
flushed_row vb seq = and_settled (record vb { saved = max vb.saved seq }, quiet_reply (answer.Num (max vb.saved seq)))

-- numbers of a vBucket: its spans, their live changes, its cursors (the flusher's, and those of the streams that have one), what is saved and its last seqno
abbrev pub stat_row : Plain → VbReply
stat_row vb = quiet_reply (answer.Stat
    (length (all_spans vb.spans))
    (length (flat_map (λ w. live_in w vb.held) (all_spans vb.spans)))
    (1 + length (filter (λ s. s.cursor) vb.streams))
    vb.saved
    vb.position.at)
