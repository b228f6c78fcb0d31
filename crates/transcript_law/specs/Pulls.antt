-- how many frames of streams a line has put, by the lines of its group
use Rattle.std.specs.Prelude.{◌≡◌, ℕ, ◌≤◌, Bool, true, false, List, length}
use Rattle.std.specs.List.{filter}
use Rattle.vb_events.specs.declared.event.Event.{Event}
use Rattle.vb_events.specs.declared.event.Event.TheVariants as event
use Rattle.vb_events.specs.declared.event.Why.{Why}
use Rattle.vb_events.specs.declared.event.Why.TheVariants as why

-- a line tells of a frame of a stream that was put: a marker, an item, the stream's end, or a state
abbrev pub is_frame : Event → Bool
is_frame (event.Marked stream start end flags) = true
is_frame (event.Item stream seq act key) = true
is_frame (event.Finished stream reason) = true
is_frame (event.Stated stream role) = true
is_frame other = false

-- of so many frames of streams these lines tell
abbrev pub frames_in_lines : List Event → ℕ
frames_in_lines lines = length (filter is_frame lines)

-- so many frames of streams were put as the group's lines tell, at most as many as were asked for; `all` is said where it is as many, and only there
pub record PutsAsTold (wanted : ℕ) (lines : List Event) (n : ℕ) (said : Why) : Type 0 where
  pub told : n ≡ frames_in_lines lines
  pub most : n ≤ wanted
  pub all : said ≡ why.All → n ≡ wanted
  pub only : n ≡ wanted → said ≡ why.All
