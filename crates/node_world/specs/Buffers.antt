-- the BUF of a line that dials: what its link's consumer asks for, and what its producer's window gets
use Rattle.std.specs.Prelude.{◌≡◌, ◌<◌, ◌+◌, Bool, ℕ, List, [], ◌∷◌, decimal, drop, length, take, Some}
use Rattle.script_text.specs.declared.verb.Verb.TheVariants as verb
use Rattle.script_text.specs.declared.verb.LinkVerb.TheVariants as link_verb
use Rattle.vb_events.specs.declared.event.Answer.TheVariants as answer
use Rattle.vb_types.specs.declared.stream.StreamAsk.{StreamAsk}
use Rattle.vbucket.specs.Rows.{row_at}
use Rattle.node_world.specs.BytesMoved.{given_up}
use Rattle.node_world.specs.Links.{PlainLink, link_number, new_link}
use Rattle.node_world.specs.Nodes.{PlainNode}
use Rattle.node_world.specs.World.{verb_step}
use Rattle.node_world.specs.Worlds.{PlainWorld, Outcome}

-- the link l is open, and its producer has a window of this size, with nothing outstanding
pub record IsBuffered (l size : ℕ) (came : Outcome) : Type 0 where
  pub link : PlainLink
  pub there : row_at link_number l came.0.links ≡ Some link
  pub window : link.server.window ≡ record { size = size; outstanding = 0 }

-- a line that dials with a BUF above 0, and is answered `ok`, and then one that brings the first bytes up: those of OPEN, which are 33 and the digits of N, and those of the request for the window, which are 46 and the digits of BUF. Then the producer's window has BUF bytes
abbrev pub BuffersBecomeWindows : PlainWorld → ℕ → ℕ → ℕ → ℕ → ℕ → Bool → Type 0
BuffersBecomeWindows w l m n v buffer takeover = (number next : ℕ) → let dialed = verb_step w number (verb.Link l m n v buffer takeover) in dialed.1.answer ≡ answer.Ok → n < 16 → 0 < buffer → buffer < 4294967296
    → IsBuffered l buffer (verb_step dialed.0 next (verb.AtLink l (link_verb.Up (33 + length (decimal n) + 46 + length (decimal buffer)))))

-- CONTROL, with the opaque 2: `connection_buffer_size` is `10`
abbrev pub ten_bytes : List ℕ
ten_bytes =
    0x80 ∷ 0x5e ∷ 0x00 ∷ 0x16 ∷ 0x00 ∷ 0x00 ∷ 0x00 ∷ 0x00 ∷ 0x00 ∷ 0x00 ∷ 0x00 ∷ 0x18 ∷ 0x00 ∷ 0x00 ∷ 0x00 ∷ 0x02
    ∷ 0x00 ∷ 0x00 ∷ 0x00 ∷ 0x00 ∷ 0x00 ∷ 0x00 ∷ 0x00 ∷ 0x00 ∷ 0x63 ∷ 0x6f ∷ 0x6e ∷ 0x6e ∷ 0x65 ∷ 0x63 ∷ 0x74 ∷ 0x69
    ∷ 0x6f ∷ 0x6e ∷ 0x5f ∷ 0x62 ∷ 0x75 ∷ 0x66 ∷ 0x66 ∷ 0x65 ∷ 0x72 ∷ 0x5f ∷ 0x73 ∷ 0x69 ∷ 0x7a ∷ 0x65 ∷ 0x31 ∷ 0x30
    ∷ []

-- the node 1 dials with BUF 10 in 239 bytes, of which the 48 behind the first 34 ask for the window; it has 10 bytes once all of these came, and not before. With BUF 0 it dials in 48 bytes less, and behind the first 119, which are all but the request for the stream, the window still holds nothing back
pub record BuffersInNumbers (line l m v : ℕ) (takeover : Bool) (ask : StreamAsk) (producer : PlainNode) : Type 0 where
  pub all : length (new_link line l m 1 v 10 takeover ask).up ≡ 239
  pub asks : take 48 (drop 34 (new_link line l m 1 v 10 takeover ask).up) ≡ ten_bytes
  pub before : (given_up 81 (new_link line l m 1 v 10 takeover ask) producer).1.peer.producer.window ≡ record { size = 0; outstanding = 0 }
  pub behind : (given_up 82 (new_link line l m 1 v 10 takeover ask) producer).1.peer.producer.window ≡ record { size = 10; outstanding = 0 }
  pub fewer : length (new_link line l m 1 v 0 takeover ask).up ≡ 191
  pub unasked : (given_up 119 (new_link line l m 1 v 0 takeover ask) producer).1.peer.producer.window ≡ record { size = 0; outstanding = 0 }
