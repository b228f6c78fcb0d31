-- a frame of a consumer is answered: what is outstanding then
use Rattle.std.specs.Prelude.{◌≡◌, ℕ, ◌<◌, ◌^◌, ◌==◌, ◌++◌, List, [], ◌∷◌, if◌then◌else◌}
use Rattle.std.specs.List.{sum_by}
use Rattle.std.proofs.lemmas.Bool.Decides.{nat_tests}
use Rattle.std.proofs.lemmas.List.Sums.{sum_by-cons}
use Rattle.transcript_law.proofs.Words.{zero, suc, true, false, drop, drop-nil, refl, ap, sym, ◌∙◌, inl, inr, ⊎_elim, arith, Option, All, All-head, All-tail, Frame, DcpMsg, dcp_frame, StreamAsk, Member, Plain, PlainProducer, PlainConsumer, Granted, Role, Handshake, open_request, sync_request, name_request, codes, decimal, member_name}
use Rattle.mcbp_dcp.specs.declared.message.DcpMsg.TheVariants as msg
use Rattle.dcp_consumer.specs.declared.handshake.Dialed.{Dialed}
use Rattle.dcp_producer.specs.Producers.{is_open}
use Rattle.transcript_law.specs.Balance.{acknowledged_by}
use Rattle.transcript_law.proofs.balance.Answering.{window_behind, open_left, control_left, ask_left, seqno_left, bytes_left, size_left}
use Rattle.transcript_law.proofs.balance.Levels.{Has, Holds, WindowIs, size_frame}
use Rattle.transcript_law.proofs.balance.{Rooms.{Room, room_acked, room_of, room_sized}, Writing.{bytes_names}}
use Rattle.transcript_law.proofs.invariant.Agreement.{Wants, EndsStand, IsUpward, state_answer}
use Rattle.transcript_law.proofs.links.Firsts.{asks_from, buffer_first, firsts, name_first, open_first, request_frames, set_after, set_by, sync_first}
use Rattle.transcript_law.proofs.links.Requests.{all_set}
use Rattle.dcp_producer.specs.declared.desk.Handshake.TheVariants as shaken

module _ (buffer counted : ℕ) (f : Frame) (rest : List Frame) (w w' : Room) (x : Holds buffer w counted (f ∷ rest)) where
  -- a frame that leaves the window, and is no request for its size
  step_left : w' ≡ w → acknowledged_by f ≡ 0 → (f ≡ size_frame buffer → ⊥) → Holds buffer w' counted rest
  step_left same none other = record {
    balance = let e = x.balance in let s = ap (λ (v : Room). v.outstanding) same in omega (arith, sum_by-cons acknowledged_by f rest);
    window = ⊎_elim (λ s. inl (ap (λ (v : Room). v.size) same ∙ s)) (λ y. ⊎_elim (λ here. absurd (other here)) (λ later. inr (same ∙ y.0, later)) y.1) x.window;
    below = let s = ap (λ (v : Room). v.outstanding) same in let b = x.below in omega arith;
  }

  -- the request for its size
  step_sized : w' ≡ room_sized buffer w → acknowledged_by f ≡ 0 → Holds buffer w' counted rest
  step_sized sized none = record {
    balance = let e = x.balance in let s = ap (λ (v : Room). v.outstanding) sized in omega (arith, sum_by-cons acknowledged_by f rest);
    window = inl (ap (λ (v : Room). v.size) sized);
    below = let s = ap (λ (v : Room). v.outstanding) sized in let b = x.below in omega arith;
  }

  -- an acknowledgement of bytes, which are outstanding
  step_acked : (n : ℕ) → w' ≡ room_acked n w → acknowledged_by f ≡ n → (Has (size_frame buffer) (f ∷ rest) → ⊥) → Holds buffer w' counted rest
  step_acked n acked names none = record {
    balance = let e = x.balance in let s = ap (λ (v : Room). v.outstanding) acked in omega (arith, sum_by-cons acknowledged_by f rest);
    window = ⊎_elim (λ s. inl (ap (λ (v : Room). v.size) acked ∙ s)) (λ y. absurd (none y.1)) x.window;
    below = let s = ap (λ (v : Room). v.outstanding) acked in let b = x.below in omega arith;
  }

-- ---- the requests of a dial

-- those before the request for a stream, where there is a buffer
pub firsts_are : (d : Dialed) → (d.buffer == 0) ≡ false → firsts d ≡ open_first d.node ∷ buffer_first d.buffer ∷ sync_first ∷ name_first d.node ∷ []
unfolding firsts
firsts_are d e = ap (λ b. open_first d.node ∷ ((if b then [] else buffer_first d.buffer ∷ []) ++ (sync_first ∷ name_first d.node ∷ []))) e

-- all that it asks for, in their order, where there is a buffer
abbrev pub all_requests : ℕ → Dialed → StreamAsk → List Frame
all_requests o d ask = dcp_frame (open_request d.node) 1 0 ∷ size_frame d.buffer ∷ dcp_frame sync_request 3 0 ∷ dcp_frame (name_request d.node) 4 0 ∷ dcp_frame (msg.StreamRequest ask) o d.vb ∷ []

pub requests_are : (o : ℕ) (d : Dialed) (ask : StreamAsk) → (d.buffer == 0) ≡ false → request_frames o d ask ≡ all_requests o d ask
requests_are o d ask e = ap (λ rows. asks_from 1 rows ++ dcp_frame (msg.StreamRequest ask) o d.vb ∷ []) (firsts_are d e)

opened_next : (d : Dialed) → (d.buffer == 0) ≡ false → is_open (set_after d 1) ≡ true
opened_next d e = ap (λ rows. is_open (set_by shaken.Fresh 1 rows)) (firsts_are d e)

-- none of them but one is the request for the size, and none acknowledges bytes
opens_other : (number flags : ℕ) (name : List ℕ) (o v buffer : ℕ) → dcp_frame (msg.Open number flags name) o v ≡ size_frame buffer → ⊥
unfolding dcp_frame
opens_other number flags name o v buffer e = let z : 0x50 ≡ 0x5e = ap (λ f. f.opcode) e in omega (arith, z)

controls_other : (key value : List ℕ) (o v buffer : ℕ) → (o ≡ 2 → ⊥) → dcp_frame (msg.Control key value) o v ≡ size_frame buffer → ⊥
unfolding dcp_frame
controls_other key value o v buffer ne e = ne (ap (λ f. f.opaque) e)

asks_other : (ask : StreamAsk) (o v buffer : ℕ) → dcp_frame (msg.StreamRequest ask) o v ≡ size_frame buffer → ⊥
unfolding dcp_frame
asks_other ask o v buffer e = let z : 0x53 ≡ 0x5e = ap (λ f. f.opcode) e in omega (arith, z)

seqno_other : (seq o v buffer : ℕ) → dcp_frame (msg.SeqnoAcknowledged seq) o v ≡ size_frame buffer → ⊥
unfolding dcp_frame
seqno_other seq o v buffer e = let z : 0x61 ≡ 0x5e = ap (λ f. f.opcode) e in omega (arith, z)

bytes_other : (bytes o v buffer : ℕ) → dcp_frame (msg.BufferAcknowledgement bytes) o v ≡ size_frame buffer → ⊥
unfolding dcp_frame
bytes_other bytes o v buffer e = let z : 0x5d ≡ 0x5e = ap (λ f. f.opcode) e in omega (arith, z)

open_none : (number flags : ℕ) (name : List ℕ) (o v : ℕ) → acknowledged_by (dcp_frame (msg.Open number flags name) o v) ≡ 0
unfolding dcp_frame
open_none number flags name o v = refl

control_none : (key value : List ℕ) (o v : ℕ) → acknowledged_by (dcp_frame (msg.Control key value) o v) ≡ 0
unfolding dcp_frame
control_none key value o v = refl

ask_none : (ask : StreamAsk) (o v : ℕ) → acknowledged_by (dcp_frame (msg.StreamRequest ask) o v) ≡ 0
unfolding dcp_frame
ask_none ask o v = refl

pub seqno_none : (seq o v : ℕ) → acknowledged_by (dcp_frame (msg.SeqnoAcknowledged seq) o v) ≡ 0
unfolding dcp_frame
seqno_none seq o v = refl

pub requests_none : (o : ℕ) (d : Dialed) (ask : StreamAsk) → sum_by acknowledged_by (all_requests o d ask) ≡ 0
requests_none o d ask =
    let a = open_none 0 1 (member_name d.node) 1 0 in
    let b = control_none (codes "connection_buffer_size") (decimal d.buffer) 2 0 in
    let c = control_none (codes "enable_sync_writes") (codes "true") 3 0 in
    let e = control_none (codes "consumer_name") (member_name d.node) 4 0 in
    let g = ask_none ask o d.vb in
    omega arith

-- nor is the answer to a state, which leaves the window
state_other : (o buffer : ℕ) → state_answer o ≡ size_frame buffer → ⊥
unfolding dcp_frame
state_other o buffer e = let z : 0x5b ≡ 0x5e = ap (λ f. f.opcode) e in omega (arith, z)

pub state_none : (o : ℕ) → acknowledged_by (state_answer o) ≡ 0
unfolding dcp_frame
state_none o = refl

state_left : (o : ℕ) (h : Handshake) (w : Room) → window_behind (state_answer o) h w ≡ w
unfolding dcp_frame
state_left o h w = refl

-- what a consumer with a stream sends is no request for the size
upward_other : (wrote : List ℕ) (o v buffer : ℕ) (f : Frame) → IsUpward wrote o v f → f ≡ size_frame buffer → ⊥
upward_other wrote o v buffer f (inl (inl (seq, is, range, one))) same = seqno_other seq o v buffer (sym is ∙ same)
upward_other wrote o v buffer f (inl (inr (bytes, is, range))) same = bytes_other bytes o 0 buffer (sym is ∙ same)
upward_other wrote o v buffer f (inr is) same = state_other o buffer (sym is ∙ same)

ups_other : (wrote : List ℕ) (o v buffer : ℕ) (frames : List Frame) → All (IsUpward wrote o v) frames → Has (size_frame buffer) frames → ⊥
ups_other wrote o v buffer [] ups has = has
ups_other wrote o v buffer (f ∷ fs) ups has =
    ⊎_elim (λ same. upward_other wrote o v buffer f (All-head (IsUpward wrote o v) f fs ups) same) (λ later. ups_other wrote o v buffer fs (All-tail (IsUpward wrote o v) f fs ups) later) has

-- ---- a frame

module _ (served : PlainProducer) (asker : PlainConsumer) (counted : ℕ) (f : Frame) (rest : List Frame) (buffered : 0 < asker.dialed.buffer) (low : asker.dialed.buffer < 2 ^ 32)
    (holds : Holds asker.dialed.buffer (room_of served) counted (f ∷ rest)) where
  abbrev d : Dialed
  d = asker.dialed

  abbrev w' : Room
  w' = window_behind f served.handshake (room_of served)

  abbrev Goal : Type 0
  Goal = Holds d.buffer w' counted rest

  some_buffer : (d.buffer == 0) ≡ false
  some_buffer = grind (arith, nat_tests, buffered)

  -- by which request it is
  module _ (ask : StreamAsk) (set : served.handshake ≡ set_after d 1 → is_open served.handshake ≡ true) where
    left : (m : DcpMsg) (o v : ℕ) → f ≡ dcp_frame m o v → window_behind (dcp_frame m o v) served.handshake (room_of served) ≡ (room_of served) → acknowledged_by (dcp_frame m o v) ≡ 0 → (dcp_frame m o v ≡ size_frame d.buffer → ⊥) → Goal
    left m o v is same none other =
        step_left d.buffer counted f rest (room_of served) w' holds (ap (λ g. window_behind g served.handshake (room_of served)) is ∙ same) (ap acknowledged_by is ∙ none) (λ e. other (sym is ∙ e))

    no_frame : {A : Type 0} → f ∷ rest ≡ [] → A
    no_frame e = cc

    the_first : {a b : Frame} {xs ys : List Frame} → a ∷ xs ≡ b ∷ ys → a ≡ b
    the_first e = cc

    request_step : (k : ℕ) → served.handshake ≡ set_after d k → f ∷ rest ≡ drop k (all_requests asker.asked d ask) → Goal
    request_step zero h e = left (open_request d.node) 1 0 (the_first e) (open_left served.handshake (room_of served) 0 1 (member_name d.node) 1 0) (open_none 0 1 (member_name d.node) 1 0) (opens_other 0 1 (member_name d.node) 1 0 d.buffer)
    request_step (suc zero) h e =
        step_sized d.buffer counted f rest (room_of served) w' holds
        (ap (λ g. window_behind g served.handshake (room_of served)) (the_first e) ∙ size_left served.handshake (room_of served) d.buffer 2 0 low (set h))
        (ap acknowledged_by (the_first e) ∙ control_none (codes "connection_buffer_size") (decimal d.buffer) 2 0)
    request_step (suc (suc zero)) h e =
        left sync_request 3 0 (the_first e) (control_left served.handshake (room_of served) (codes "enable_sync_writes") (codes "true") 3 0 refl) (control_none (codes "enable_sync_writes") (codes "true") 3 0)
        (controls_other (codes "enable_sync_writes") (codes "true") 3 0 d.buffer (λ z. omega (arith, z)))
    request_step (suc (suc (suc zero))) h e =
        left (name_request d.node) 4 0 (the_first e) (control_left served.handshake (room_of served) (codes "consumer_name") (member_name d.node) 4 0 refl) (control_none (codes "consumer_name") (member_name d.node) 4 0)
        (controls_other (codes "consumer_name") (member_name d.node) 4 0 d.buffer (λ z. omega (arith, z)))
    request_step (suc (suc (suc (suc zero)))) h e = left (msg.StreamRequest ask) asker.asked d.vb (the_first e) (ask_left served.handshake (room_of served) ask asker.asked d.vb) (ask_none ask asker.asked d.vb) (asks_other ask asker.asked d.vb d.buffer)
    request_step (suc (suc (suc (suc (suc k))))) h e = no_frame (e ∙ drop-nil {A = Frame} k)

  up_step : (wrote : List ℕ) → is_open served.handshake ≡ true → IsUpward wrote asker.asked d.vb f → (Has (size_frame d.buffer) (f ∷ rest) → ⊥) → Goal
  up_step wrote opens (inr is) none =
      step_left d.buffer counted f rest (room_of served) w' holds (ap (λ g. window_behind g served.handshake (room_of served)) is ∙ state_left asker.asked served.handshake (room_of served))
      (ap acknowledged_by is ∙ state_none asker.asked) (λ e. none (inl e))
  up_step wrote opens (inl (inl (seq, is, range, one))) none =
      step_left d.buffer counted f rest (room_of served) w' holds (ap (λ g. window_behind g served.handshake (room_of served)) is ∙ seqno_left served.handshake (room_of served) seq asker.asked d.vb)
      (ap acknowledged_by is ∙ seqno_none seq asker.asked d.vb) (λ e. none (inl e))
  up_step wrote opens (inl (inr (bytes, is, range))) none =
      step_acked d.buffer counted f rest (room_of served) w' holds bytes
      (ap (λ g. window_behind g served.handshake (room_of served)) is ∙ bytes_left served.handshake (room_of served) bytes asker.asked 0 range ∙ ap (λ b. if b then room_acked bytes (room_of served) else (room_of served)) opens)
      (ap acknowledged_by is ∙ bytes_names asker.asked bytes range) none

module _ {fv : Wants} {kn : Member} {pv : Option Plain} {leader : Member} {g : Option Granted} {last : Option Role} {point : Option ℕ} {served : PlainProducer} {asker : PlainConsumer} {said : List Frame} where
  -- a producer with a stream has a window of the size that was asked for
  pub sized_if : {asked : List Frame} → EndsStand fv kn pv leader g last point served asker asked said → (served.streams ≡ [] → ⊥) → WindowIs asker.dialed.buffer (room_of served) asked → (room_of served).size ≡ asker.dialed.buffer
  sized_if (EndsStand.IsAsking ask none x) some is = absurd (some x.no_stream)
  sized_if (EndsStand.IsRefusedYet none x) some is = absurd (some x.no_stream)
  sized_if {asked} (EndsStand.IsStreaming x state) some is = ⊎_elim (λ s. s) (λ y. absurd (ups_other x.granted_is.wrote asker.asked asker.dialed.vb asker.dialed.buffer asked x.acks.each y.1)) is
  sized_if {asked} (EndsStand.IsHeir x state) some is = ⊎_elim (λ s. s) (λ y. absurd (ups_other x.granted_is.wrote asker.asked asker.dialed.vb asker.dialed.buffer asked x.acks.each y.1)) is

  pub stands_step : (counted : ℕ) (f : Frame) (rest : List Frame) → 0 < asker.dialed.buffer → asker.dialed.buffer < 2 ^ 32 → Holds asker.dialed.buffer (room_of served) counted (f ∷ rest)
      → EndsStand fv kn pv leader g last point served asker (f ∷ rest) said → Holds asker.dialed.buffer (window_behind f served.handshake (room_of served)) counted rest
  stands_step counted f rest buffered low holds (EndsStand.IsAsking ask none x) =
      let some : (asker.dialed.buffer == 0) ≡ false = grind (arith, nat_tests, buffered) in
      request_step served asker counted f rest buffered low holds ask (λ h. ap is_open h ∙ opened_next asker.dialed some) x.answered x.server
      (x.asked_is ∙ ap (drop x.answered) (requests_are asker.asked asker.dialed ask some))
  stands_step counted f rest buffered low holds (EndsStand.IsRefusedYet none x) = no_frames x.asked_is
    where
      no_frames : {A : Type 0} → f ∷ rest ≡ [] → A
      no_frames e = cc
  stands_step counted f rest buffered low holds (EndsStand.IsStreaming x state) =
      let d : Dialed = asker.dialed in
      up_step served asker counted f rest buffered low holds x.granted_is.wrote (ap is_open (x.server ∙ all_set d)) (All-head (IsUpward x.granted_is.wrote asker.asked d.vb) f rest x.acks.each)
      (λ has. ups_other x.granted_is.wrote asker.asked d.vb d.buffer (f ∷ rest) x.acks.each has)
  stands_step counted f rest buffered low holds (EndsStand.IsHeir x state) =
      let d : Dialed = asker.dialed in
      up_step served asker counted f rest buffered low holds x.granted_is.wrote (ap is_open (x.server ∙ all_set d)) (All-head (IsUpward x.granted_is.wrote asker.asked d.vb) f rest x.acks.each)
      (λ has. ups_other x.granted_is.wrote asker.asked d.vb d.buffer (f ∷ rest) x.acks.each has)
