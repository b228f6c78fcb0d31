-- windows, as two numbers
use Rattle.std.specs.Prelude.{ℕ, ◌-◌}
use Rattle.dcp_producer.specs.Producers.{PlainProducer}

-- its size, and how much is outstanding
pub record Room : Type 0 where
  pub size : ℕ
  pub outstanding : ℕ

-- that of a producer
abbrev pub room_of : PlainProducer → Room
room_of end = record { size = end.window.size; outstanding = end.window.outstanding }

-- with no size and nothing outstanding
abbrev pub no_room : Room
no_room = record { size = 0; outstanding = 0 }

-- so many bytes less are outstanding
abbrev pub room_acked : ℕ → Room → Room
room_acked bytes w = record w { outstanding = w.outstanding - bytes }

-- with another size
abbrev pub room_sized : ℕ → Room → Room
room_sized size w = record w { size = size }
