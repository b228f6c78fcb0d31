-- what is kept of a vBucket that takes another role, in which it feeds one of its streams at most
use Rattle.std.specs.Prelude.{ℕ, ◌==◌, List}
use Rattle.std.specs.List.{filter}
use Rattle.vb_types.specs.declared.role.Role.{Role}
use Rattle.vb_calls.specs.declared.calls.VbAnswer.TheVariants.{Done}
use Rattle.vb_calls.specs.declared.calls.VbReply.{VbReply}
use Rattle.vb_calls.specs.declared.stream.Stream.{Stream}
use Rattle.vb_calls.specs.Roles.{ending_reply, in_role, in_role_with, stream_ids}
use Rattle.vb_calls.specs.State.{Plain}
use Rattle.vb_calls.specs.Streams.{without_stream}

-- of the streams those of this number: of an open one itself, as each has a number of its own, and of 0 none
abbrev pub only_stream : ℕ → List Stream → List Stream
only_stream id streams = filter (λ s. s.id == id) streams

-- all other streams are ended
abbrev pub turned_to : Plain → Role → ℕ → Plain × VbReply
turned_to vb new kept = (in_role_with vb new (only_stream kept vb.streams), record (ending_reply vb Done) { ended = stream_ids (without_stream kept vb.streams) })

-- all streams are ended
abbrev pub turned_idle : Plain → Role → Plain × VbReply
turned_idle vb new = (in_role vb new, ending_reply vb Done)
