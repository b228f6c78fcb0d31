-- the plain vBucket: what each call does
use Rattle.vb_calls.specs.declared.calls.VbCall.{VbCall}
use Rattle.vb_calls.specs.declared.calls.VbCall.TheVariants.{Get, Store, Durable, Chain, Ack, Tick, Due, OpenStream, Place, Take, CloseStream, DropCursor, Ask, Adopt, Marker, Receive, RollTo, Promote, Follow, Dead, Pend, Own, Yield, Seal, Trim, FlushTake, FlushDone, Stat, Log, Show}
use Rattle.vb_calls.specs.declared.calls.VbReply.{VbReply}
use Rattle.vb_calls.specs.State.{get_row, log_row, show_row}
use Rattle.vb_calls.specs.Writes.{store_row}
use Rattle.vb_calls.specs.Durable.{ack_row, chain_row, due_row, durable_row, tick_row}
use Rattle.vb_types.specs.declared.role.Role.TheVariants as role
use Rattle.vb_calls.specs.Streams.{open_row, place_row, take_row, close_row}
use Rattle.vb_calls.specs.Roles.{promote_row, turn_row, pend_row, own_row, yield_row, seal_row}
use Rattle.vb_calls.specs.Flushing.{flush_row, flushed_row, stat_row}
use Rattle.vb_calls.specs.Trims.{drop_row, trim_row}
use Rattle.vb_calls.specs.Following.{ask_row, adopt_row, marker_row, receive_row, roll_row}
pub use Rattle.vb_calls.specs.State.{Plain, new_vb}

-- what a call makes of a vBucket, and its reply
abbrev pub plain_step : Plain → VbCall → Plain × VbReply
plain_step plain (Get key) = (plain, get_row plain key)
plain_step plain (Store write clock) = store_row plain write clock
plain_step plain (Durable write clock level deadline waiter) = durable_row plain write clock (record { level = level; deadline = deadline; waiter = waiter })
plain_step plain (Chain chain) = chain_row plain chain
plain_step plain (Ack member seq) = ack_row plain member seq
plain_step plain (Tick clock) = tick_row plain clock
plain_step plain Due = (plain, due_row plain)
plain_step plain (OpenStream id ask sync) = open_row plain id ask sync
plain_step plain (Place id) = place_row plain id
plain_step plain (Take id) = take_row plain id
plain_step plain (CloseStream id) = close_row plain id
plain_step plain (DropCursor id) = drop_row plain id
plain_step plain Ask = (plain, ask_row plain)
plain_step plain (Adopt log) = adopt_row plain log
plain_step plain (Marker start end) = marker_row plain start end
plain_step plain (Receive change) = receive_row plain change
plain_step plain (RollTo at image cas) = roll_row plain at image cas
plain_step plain (Promote uuid) = promote_row plain uuid
plain_step plain Follow = turn_row plain role.Replica
plain_step plain Dead = turn_row plain role.Dead
plain_step plain Pend = pend_row plain
plain_step plain Own = own_row plain
plain_step plain (Yield id) = yield_row plain id
plain_step plain Seal = seal_row plain
plain_step plain Trim = trim_row plain
plain_step plain FlushTake = flush_row plain
plain_step plain (FlushDone receipt) = flushed_row plain receipt
plain_step plain Stat = (plain, stat_row plain)
plain_step plain Log = (plain, log_row plain)
plain_step plain Show = (plain, show_row plain)
