-- the window of a connection
use Rattle.std.specs.Prelude.{ℕ, ◌+◌, ◌-◌, ◌==◌, ◌||◌, Bool, nat_lt, if◌then◌else◌}
use Rattle.flow_control.specs.declared.window.Window.{Window}

-- with nothing outstanding
abbrev pub new_window : ℕ → Window
new_window size = record { size = size; outstanding = 0 }

-- the next frame may go: always at size 0, and else while less than the size is outstanding
abbrev pub is_open : Window → Bool
is_open w = w.size == 0 || nat_lt w.outstanding w.size

-- a frame of this length went. At size 0 nothing is counted
abbrev pub with_put : ℕ → Window → Window
with_put len w = if w.size == 0 then w else record w { outstanding = w.outstanding + len }

-- so many bytes were acknowledged, or more than there were
abbrev pub with_acked : ℕ → Window → Window
with_acked len w = record w { outstanding = w.outstanding - len }

-- another size. What is outstanding stays so
abbrev pub with_size : ℕ → Window → Window
with_size size w = record w { size = size }
