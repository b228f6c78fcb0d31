-- the line `link`: a link that is opened
use Rattle.std.specs.Prelude.{◌≡◌, ℕ, ◌<◌, ◌^◌, ◌==◌, ◌++◌, List, [], ◌∷◌}
use Rattle.std.specs.List.{concat, sum_by}
use Rattle.std.proofs.lemmas.Bool.Decides.{nat_tests}
use Rattle.transcript_law.proofs.Words.{Bool, false, refl, ap, sym, ◌∙◌, subst, inl, inr, ⊎_elim, arith, append-nil, concat-append, map, map-append, Option, Some, None, All, All-cons, All-nil, Cause, Frame, Readable, DcpMsg, dcp_frame, spelling, frames_in, StreamAsk, requests, open_request, sync_request, name_request}
use Rattle.transcript_law.proofs.Words.{PlainWorld, new_link, link_step, link_causes, with_dialed, with_links, ask_in, first_cause, refused_or, done}
use Rattle.dcp_consumer.specs.Dialing.{flagged, numbered, stream_opaque}
use Rattle.dcp_consumer.specs.declared.handshake.Dialed.{Dialed}
use Rattle.dcp_producer.specs.declared.desk.Handshake.TheVariants as shaken
use Rattle.transcript_law.proofs.balance.Rooms.{room_of}
use Rattle.transcript_law.specs.Balance.{stream_len}
use Rattle.transcript_law.proofs.balance.{Levels.{AllLevel, Holds, Level, size_frame}, Measures.{frames_back, no_frames, over, spelled}, Stepping.{all_requests, firsts_are, requests_are, requests_none}, Writing.{ask_readable}}
use Rattle.transcript_law.proofs.invariant.{LinkRows.{is_link_more}}
use Rattle.transcript_law.proofs.links.{Firsts.{AreServed, asks_from, firsts, request_frames}, Requests.{first_asked, firsts_served, opaque_small}}

-- what a consumer writes is the spelling of its requests
requests_spelled : (d : Dialed) (ask : StreamAsk) → requests d ask ≡ spelled (request_frames (stream_opaque d.buffer) d (flagged d.takeover ask))
unfolding requests
requests_spelled d ask =
    let last : Frame = dcp_frame (DcpMsg.StreamRequest (flagged d.takeover ask)) (stream_opaque d.buffer) d.vb in let first : List Frame = asks_from 1 (firsts d) in
    ap (λ ms. concat (map spelling (numbered 1 ms)) ++ spelling last) (first_asked d)
    ∙ ap (λ l. concat (map spelling first) ++ l) (sym (append-nil (spelling last)))
    ∙ sym (concat-append (map spelling first) (spelling last ∷ [])) ∙ ap concat (sym (map-append spelling first (last ∷ [])))

module _ (d : Dialed) (ask : StreamAsk) (small : (d.node < 16) × (d.vb < 1024) × (d.buffer < 2 ^ 32)) (some : 0 < d.buffer) where
  buffered : (d.buffer == 0) ≡ false
  buffered = grind (arith, nat_tests, some)

  abbrev o : ℕ
  o = stream_opaque d.buffer

  -- the request as it goes out
  abbrev out : StreamAsk
  out = flagged d.takeover ask

  -- readers take them
  requests_readable : All Readable (all_requests o d out)
  requests_readable =
      let served = subst (AreServed 1 shaken.Fresh) (firsts_are d buffered) (firsts_served d small.0 small.2) in
      let few : d.vb < 2 ^ 16 = let v = small.1 in omega arith in
      let last : Frame = dcp_frame (DcpMsg.StreamRequest out) o d.vb in
      let name : Frame = dcp_frame (name_request d.node) 4 0 in
      let sync : Frame = dcp_frame sync_request 3 0 in
      let size : Frame = size_frame d.buffer in
      All-cons Readable (dcp_frame (open_request d.node) 1 0) (size ∷ sync ∷ name ∷ last ∷ []) served.0.asks
      (All-cons Readable size (sync ∷ name ∷ last ∷ []) served.1.0.asks
      (All-cons Readable sync (name ∷ last ∷ []) served.1.1.0.asks (All-cons Readable name (last ∷ []) served.1.1.1.0.asks (All-cons Readable last [] (ask_readable d.vb few o out (opaque_small d.buffer)) (All-nil Readable)))))

  asked : frames_in (requests d ask) ≡ all_requests o d out
  asked = ap frames_in (requests_spelled d ask ∙ ap spelled (requests_are o d out buffered)) ∙ frames_back (all_requests o d out) requests_readable

-- nothing is outstanding yet, and its consumer asks for the window's size
pub new_level : (line l m n v buffer : ℕ) (takeover : Bool) (ask : StreamAsk) → (n < 16) × (v < 1024) × (buffer < 2 ^ 32) → Level (new_link line l m n v buffer takeover ask)
new_level line l m n v buffer takeover ask small b =
    let d : Dialed = record { link = l; node = n; vb = v; buffer = buffer; takeover = takeover } in
    let none = requests_none (stream_opaque buffer) d (flagged takeover ask) in
    let nothing : over stream_len [] ≡ 0 = ap (sum_by stream_len) no_frames in
    subst (Holds buffer (room_of (new_link line l m n v buffer takeover ask).server) (over stream_len [])) (sym (asked d ask small b.some)) (record {
      balance = omega arith;
      window = inr (refl, inr (inl refl));
      below = omega arith;
    })

-- `link L M N V BUF`
pub link_level : (w : PlainWorld) (line l m n v buffer : ℕ) (takeover : Bool) → (n < 16) × (v < 1024) × (buffer < 2 ^ 32) → AllLevel w → AllLevel (link_step w line l m n v buffer takeover).0
link_level w line l m n v buffer takeover small all = by (first_cause (link_causes w l m n v)) (ask_in w n v)
  where
    by : (why : Option Cause) (asks : Option StreamAsk) → AllLevel (refused_or why w (with_links w (with_dialed line l m n v buffer takeover w.links asks), done [])).0
    by (Some why) asks x i = all x i
    by None None x i = all x i
    by None (Some ask) x i = ⊎_elim (λ same. subst Level (sym same) (new_level line l m n v buffer takeover ask small)) (λ old. all x old) (is_link_more x (new_link line l m n v buffer takeover ask) w.links i)
