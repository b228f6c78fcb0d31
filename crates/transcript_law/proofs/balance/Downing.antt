-- the lines `down` and `done`: the balance of a link whose consumer writes
use Rattle.std.specs.Prelude.{◌≡◌, ℕ, ◌+◌, ◌<◌, ◌^◌, ◌++◌, List, [], ◌∷◌, take, drop}
use Rattle.std.specs.List.{sum_by}
use Rattle.std.proofs.lemmas.List.{take-append-drop}
use Rattle.std.proofs.lemmas.List.Sums.{sum_by-append}
use Rattle.transcript_law.proofs.Words.{Role, ap, sym, ◌∙◌, subst, inl, inr, ⊎_elim, arith, append-nil, append_assoc, Option, None, All, All-cons, All-nil, Frame, Readable, DcpMsg, dcp_frame, spelling, frames_in, left_of, States, after_job, over_why, DialResult, dial_bytes, PlainLink, PlainProducer, PlainConsumer, PlainWorld, dial_of, Chronicle, Cluster, Member, Plain, Granted}
use Rattle.vb_calls.specs.Shelves.{Shelves}
use Rattle.mcbp_frame.proofs.Pieces.{frames-append}
use Rattle.transcript_law.proofs.links.Unread.{front_readable}
use Rattle.dcp_consumer.specs.Counting.{counted_bytes}
use Rattle.dcp_consumer.specs.declared.handshake.Dialed.{Dialed}
use Rattle.node_world.specs.{Dues.{with_due}, Links.{with_down}}
use Rattle.transcript_law.proofs.balance.Rooms.{Room, room_of}
use Rattle.transcript_law.specs.Balance.{acknowledged_by, stream_len}
use Rattle.transcript_law.proofs.balance.{Hearing.{Dued, heard_left}, Levels.{Buffered, Holds, Level, LevelOf, flow_of, has_more, size_frame}, Measures.{frames_back, frames_front, lens_are, over, over_parts, spelled}}
use Rattle.transcript_law.proofs.balance.Writing.{Delivered, delivered, seqno_readable, written, written_is, written_names, written_readable}
use Rattle.transcript_law.proofs.balance.Stepping.{seqno_none}
use Rattle.transcript_law.proofs.invariant.Agreement.{EndsStand, LinkAgrees, Wants}

-- what a consumer wrote are whole frames, and so will be what it writes, and what it has heard and is to hear are whole frames
pub record Writing (link : PlainLink) : Type 0 where
  pub asked : List Frame
  pub readable : All Readable asked
  pub wrote : link.up_heard ++ link.up ≡ spelled asked
  pub said : List Frame
  pub told : All Readable said
  pub heard : link.down_heard ++ link.down ≡ spelled said
  pub opaque : link.consumer.asked < 2 ^ 32
  pub vb : link.consumer.dialed.vb < 2 ^ 16

small_opaque : {fv : Wants} {kn : Member} {pv : Option Plain} {leader : Member} {g : Option Granted} {stated : Option Role} {point : Option ℕ} {served : PlainProducer} {asker : PlainConsumer} {asked said : List Frame} → EndsStand fv kn pv leader g stated point served asker asked said → asker.asked < 2 ^ 32
small_opaque (EndsStand.IsAsking ask none x) = x.consumer.small
small_opaque (EndsStand.IsRefusedYet none x) = x.consumer.small
small_opaque (EndsStand.IsStreaming x told) = x.consumer.small
small_opaque (EndsStand.IsHeir x told) = x.small

pub writing_of : (w : PlainWorld) (r : Chronicle) (c : Cluster) (link : PlainLink) → LinkAgrees w r c link [] [] → Writing link
writing_of w r c link la = record {
  asked = la.talk.asked;
  readable = la.talk.ups.readable;
  wrote = la.talk.ups.bytes ∙ ap spelled (sym la.talk.ups.joined);
  said = la.talk.said;
  told = la.talk.downs.readable;
  heard = la.talk.downs.bytes ∙ ap spelled (sym la.talk.downs.joined);
  opaque = small_opaque la.talk.stands;
  vb = let few = la.small.1 in omega arith;
}

-- more frames behind those that were written
module _ (buffer : ℕ) (w : Room) (up_heard up out : List ℕ) (asked more : List Frame) (readable : All Readable asked) (wrote : up_heard ++ up ≡ spelled asked) (good : All Readable more) (is : out ≡ spelled more) where
  behind : frames_in (up_heard ++ (up ++ out)) ≡ frames_in (up_heard ++ up) ++ more
  behind = ap frames_in (sym (append_assoc up_heard up out)) ∙ frames_front (up_heard ++ up) out asked readable wrote ∙ ap (λ fs. frames_in (up_heard ++ up) ++ fs) (ap frames_in is ∙ frames_back more good)

  pub more_written : (counted counted' : ℕ) → Holds buffer w counted (frames_in (up_heard ++ up)) → counted' + sum_by acknowledged_by more ≡ counted → Holds buffer w counted' (frames_in (up_heard ++ (up ++ out)))
  more_written counted counted' x same = subst (Holds buffer w counted') (sym behind) (record {
    balance = let b = x.balance in omega (arith, sum_by-append acknowledged_by (frames_in (up_heard ++ up)) more);
    window = ⊎_elim (λ s. inl s) (λ y. inr (y.0, has_more (size_frame buffer) (frames_in (up_heard ++ up)) more y.1)) x.window;
    below = x.below;
  })

-- ---- a delivery

module _ (link : PlainLink) (n : ℕ) (states : States) (shelves : Shelves) where
  abbrev pub piece : List ℕ
  piece = take n link.down

  abbrev pub told : DialResult
  told = (after_job (dial_bytes piece (dial_of link)) states shelves).1

  abbrev frames : List Frame
  frames = frames_in (link.down_heard ++ piece)

  abbrev rest : List ℕ
  rest = left_of (link.down_heard ++ piece) ++ drop n link.down

  d : Delivered frames (dial_of link) told
  d = delivered piece (dial_of link) states shelves

  -- a part of the bytes comes
  joined : link.down_heard ++ link.down ≡ (link.down_heard ++ piece) ++ drop n link.down
  joined = ap (λ b. link.down_heard ++ b) (sym (take-append-drop n link.down)) ∙ sym (append_assoc link.down_heard piece (drop n link.down))

  -- the frames that came are the first of those that are on their way
  came_readable : Writing link → All Readable frames
  came_readable writes =
      let all : frames_in (link.down_heard ++ link.down) ≡ writes.said = ap frames_in writes.heard ∙ frames_back writes.said writes.told in
      let parts : frames_in (link.down_heard ++ link.down) ≡ frames ++ frames_in rest = ap frames_in joined ∙ frames-append (link.down_heard ++ piece) (drop n link.down) in
      front_readable frames (frames_in rest) (subst (All Readable) (sym all ∙ parts) writes.told)

  -- what counts on the way down is what came and what is to come
  parted : over stream_len (link.down_heard ++ link.down) ≡ sum_by stream_len frames + over stream_len rest
  parted = ap (over stream_len) joined ∙ over_parts stream_len (link.down_heard ++ piece) (drop n link.down)

  module _ (buffered : Buffered link.consumer.dialed.buffer) (writes : Writing link) (goes : over_why told.dial.consumer.handshake ≡ None) (small : told.dial.consumer.asked < 2 ^ 32)
      (x : Holds link.consumer.dialed.buffer (room_of link.server) (over stream_len (link.down_heard ++ link.down)) (frames_in (link.up_heard ++ link.up))) where
    abbrev more : List Frame
    more = written link.consumer.dialed.vb link.consumer.asked d.more

    good : All Readable more
    good = let o = d.asked in written_readable link.consumer.dialed.vb link.consumer.asked d.more writes.vb (omega arith) (d.noops (came_readable writes))

    -- so many bytes came that count
    low : counted_bytes frames < 2 ^ 32
    low = let b = x.balance in let below = x.below in let fits = buffered.fits in let p = parted in omega (arith, lens_are frames)

    names : sum_by acknowledged_by more ≡ sum_by stream_len frames
    names = let c = d.counts goes buffered.some low in written_names link.consumer.dialed.vb link.consumer.asked d.more c.0 ∙ c.1 ∙ sym (lens_are frames)

    holds : Holds link.consumer.dialed.buffer (room_of link.server) (over stream_len rest) (frames_in (link.up_heard ++ (link.up ++ told.out)))
    holds = more_written link.consumer.dialed.buffer (room_of link.server) link.up_heard link.up told.out writes.asked more writes.readable writes.wrote good (d.out ∙ written_is link.consumer.dialed.vb link.consumer.asked d.more)
        (over stream_len (link.down_heard ++ link.down)) (over stream_len rest) x (let p = parted in let same = names in omega arith)

  pub down_level : Writing link → over_why told.dial.consumer.handshake ≡ None → told.dial.consumer.asked < 2 ^ 32 → Level link → Level (with_down link n told)
  down_level writes goes small level b =
      let buffered : Buffered link.consumer.dialed.buffer = subst (λ (e : Dialed). Buffered e.buffer) d.dialed b in
      subst (λ (e : Dialed). Holds e.buffer (room_of link.server) (over stream_len (told.dial.heard ++ drop n link.down)) (frames_in (link.up_heard ++ (link.up ++ told.out)))) (sym d.dialed)
      (subst (λ h. Holds link.consumer.dialed.buffer (room_of link.server) (over stream_len (h ++ drop n link.down)) (frames_in (link.up_heard ++ (link.up ++ told.out)))) (sym (heard_left piece (dial_of link) states shelves))
      (holds buffered writes goes small (level buffered)))

-- ---- more is written down

pub due_level : (link : PlainLink) (told : DialResult) → Dued (dial_of link) told → Writing link → Level link → Level (with_due link told)
due_level link told (inl none) writes level =
    subst (λ t. Level (with_due link t)) (sym none) (subst (λ u. LevelOf (record (flow_of link) { up = u })) (sym (append-nil link.up)) level)
due_level link told (inr (seq, saved, is)) writes level = subst (λ t. Level (with_due link t)) (sym is) (λ b.
    let f : Frame = dcp_frame (DcpMsg.SeqnoAcknowledged seq) link.consumer.asked link.consumer.dialed.vb in
    let counted : ℕ = over stream_len (link.down_heard ++ link.down) in
    let none : acknowledged_by f ≡ 0 = seqno_none seq link.consumer.asked link.consumer.dialed.vb in
    more_written link.consumer.dialed.buffer (room_of link.server) link.up_heard link.up (spelling f) writes.asked (f ∷ []) writes.readable writes.wrote
    (All-cons Readable f [] (seqno_readable link.consumer.dialed.vb writes.vb link.consumer.asked seq writes.opaque) (All-nil Readable)) (sym (append-nil (spelling f))) counted counted (level b) (omega arith))
