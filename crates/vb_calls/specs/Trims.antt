-- what a vBucket gives up of its memory: spans that are needed no more, and the cursor of a stream
use Rattle.std.specs.Prelude.{ℕ, Bool, false, if◌then◌else◌, nat_le, nat_lt, min, List, [], ◌∷◌, map, length, Option, Some, None}
use Rattle.std.specs.List.{filter, fold}
use Rattle.vb_types.specs.Images.{applied}
use Rattle.vb_types.specs.Histories.{upto}
use Rattle.vb_calls.specs.declared.calls.VbAnswer.TheVariants as answer
use Rattle.vb_calls.specs.declared.calls.VbReply.{VbReply}
use Rattle.vb_calls.specs.declared.span.Span.{Span}
use Rattle.vb_calls.specs.declared.stream.Stream.{Stream}
use Rattle.vb_calls.specs.State.{Plain, quiet_reply}
use Rattle.vb_calls.specs.Streams.{stream_at, without_cursor}

-- the spans that end at most at n
abbrev pub ended_by : ℕ → List Span → List Span
ended_by n ws = filter (λ w. nat_le w.last n) ws

-- where the last of these spans ends, or `floor`
abbrev pub end_of : ℕ → List Span → ℕ
end_of floor [] = floor
end_of floor (w ∷ ws) = end_of w.last ws

-- the lesser of n and a stream's place, if it has a cursor
abbrev pub min_fed : ℕ → Stream → ℕ
min_fed n s = if s.cursor then min n s.place else n

-- the least of what is saved, of what was taken to be, and of the places of these streams that have a cursor
abbrev pub needless_of : ℕ → ℕ → List Stream → ℕ
needless_of saved flushed streams = fold min_fed (min saved flushed) streams

-- what is written down, was taken to be, and was given to each stream that has a cursor, is needed no more: all up to here
abbrev pub needless_to : Plain → ℕ
needless_to vb = needless_of vb.saved vb.flushed vb.streams

-- where the last sealed span ends that is not needed any more, or the floor where each is
abbrev pub trim_floor : Plain → ℕ
trim_floor vb = end_of vb.floor (ended_by (needless_to vb) vb.spans.sealed)

-- without the sealed spans that are needed no more: what their changes leave is what stands before the others
abbrev pub trimmed_vb : Plain → Plain
trimmed_vb vb = record vb {
  base = fold applied vb.base (upto vb.held (trim_floor vb));
  held = filter (λ c. nat_lt (trim_floor vb) c.seq) vb.held;
  spans = record { sealed = filter (λ w. nat_lt (needless_to vb) w.last) vb.spans.sealed; current = vb.spans.current };
  floor = trim_floor vb;
}

-- they are given up, and their number is told
abbrev pub trim_row : Plain → Plain × VbReply
trim_row vb = (trimmed_vb vb, quiet_reply (answer.Num (length (ended_by (needless_to vb) vb.spans.sealed))))

-- a stream is open, and has a cursor
abbrev pub has_cursor : Option Stream → Bool
has_cursor None = false
has_cursor (Some s) = s.cursor

-- a stream's cursor is taken from it, and whether it had one
abbrev pub drop_row : Plain → ℕ → Plain × VbReply
drop_row vb id = (record vb { streams = map (without_cursor id) vb.streams }, quiet_reply (answer.Flag (has_cursor (stream_at id vb.streams))))
