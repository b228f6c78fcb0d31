-- what holds of every vBucket as it is kept
use Rattle.std.specs.Prelude.{◌≡◌, ◌≢◌, ℕ, ◌==◌, if◌then◌else◌, List, [], ◌∷◌, Option, Some, None}
use Rattle.std.specs.FinMap as finite
use Rattle.vb_types.specs.declared.role.Role.{Role}
use Rattle.vb_calls.specs.declared.stream.Stream.{Stream}
use Rattle.vb_calls.specs.Streams.{stream_at}
use Rattle.cursor_set.specs.Cursors.{Places, place_of}
use Rattle.ckpt_list.specs.Lists.{Ckpts, high_of}
use Rattle.vbucket.specs.Laws.{AreFed}

-- where the cursor of a stream stands, if it has one: at its place
abbrev pub cursor_of : Option Stream → Option ℕ
cursor_of None = None
cursor_of (Some s) = if s.cursor then Some s.place else None

-- each stream has a number of its own, which is not 0
abbrev pub AreApart : List Stream → Type 0
AreApart [] = Unit {0}
AreApart (s ∷ ss) = (s.id ≢ 0) × (stream_at s.id ss ≡ None) × AreApart ss

-- the cursors with a new stream's, where it has one
abbrev pub with_cursor : Places → Stream → Places
with_cursor places s = if s.cursor then finite.insert places s.id s.place else places

-- where the cursor of a number stands, if it is a stream's: 0 is not
abbrev pub stream_place : Places → ℕ → Option ℕ
stream_place places id = if id == 0 then None else place_of places id

-- each cursor but 0 is that of a stream that has one, and stands at its place; there are no others
pub record CursorsAreStreams (places : Places) (streams : List Stream) : Type 0 where
  pub cursors : (id : ℕ) → cursor_of (stream_at id streams) ≡ stream_place places id
  pub apart : AreApart streams

-- the list ends at the last seqno, its cursors are those of the streams that are fed from it, none of which is below its floor, and they are streams that a vBucket in this role may have
pub record IsSteady (role : Role) (at : ℕ) (l : Ckpts) (streams : List Stream) : Type 0 where
  pub high : high_of l ≡ at
  pub fed : CursorsAreStreams l.places streams
  pub feeds : AreFed role l.floor streams
