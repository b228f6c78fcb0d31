-- where the two ends of a link stand, after the producer's end read or answered
use Rattle.std.specs.Prelude.{◌≡◌, ◌<◌, ◌≤◌, ◌∷◌, ◌++◌}
use Rattle.transcript_law.proofs.Words.{ℕ, suc, false, List, [], length, map, take, drop, ap, sym, ◌∙◌, subst, arith, Option, concat, drop-append-le, All-tail, All-push, Frame, spelling}
use Rattle.transcript_law.proofs.Words.{Readable, frames_in, left_of, pieces_of_frames, StreamAsk, Member, Plain, PlainProducer, PlainLink, Granted, Role}
use Rattle.std.proofs.lemmas.List.{length-take}
use Rattle.transcript_law.proofs.links.Firsts.{Begin, behind_first, first_answers, first_count, front_ends, goes_on_short, request_frames}
use Rattle.transcript_law.proofs.invariant.Agreement.{UpIs, DownAgrees, ServerIs, Asking, IsUnsaid, Talk, wants_of, EndsStand, is_refused_ack, spoken}
use Rattle.transcript_law.proofs.{links.Frames.{spelled_more}, links.Spoken.{spoken_push}}

-- a link whose producer's end has read n bytes more, of which `left` are no whole frame yet
abbrev pub read_link : PlainLink → ℕ → List ℕ → PlainLink
read_link link n left = record link { up_heard = left; up = drop n link.up }

-- the bytes that the producer's end has with n more
abbrev pub come : PlainLink → ℕ → List ℕ
come link n = link.up_heard ++ take n link.up

module _ (link : PlainLink) (n : ℕ) where
  abbrev after_read : PlainLink
  after_read = read_link link n (left_of (come link n))

  abbrev whole : List Frame
  whole = frames_in (come link n)

  read_up : (all : List Frame) → UpIs link [] all → UpIs after_read whole all
  read_up all u =
      let p = pieces_of_frames link.up_heard link.up all n u.readable (u.bytes ∙ ap (λ fs. concat (map spelling fs)) (sym u.joined)) in
      record { behind = p.later; joined = p.joined; bytes = p.behind; readable = u.readable }

  -- the frames that came whole are about to be answered
  pub read_talk : {fv : Plain} {kn : Member} {pv : Option Plain} {leader : Member} {g : Option Granted} {last : Option Role} {point : Option ℕ} → Talk fv kn pv leader g last point link [] [] → Talk fv kn pv leader g last point after_read whole []
  read_talk t = record { asked = t.asked; said = t.said; stands = t.stands; ups = read_up t.asked t.ups; downs = t.downs }

-- a link whose producer's end is another one, and what is on its way from it
abbrev pub served_link : PlainLink → PlainProducer → List ℕ → PlainLink
served_link link end down = record link { server = end; down = down }

module _ (link : PlainLink) (end : PlainProducer) (down : List ℕ) (a : Frame) where
  abbrev answered_link : PlainLink
  answered_link = served_link link end down

  -- the first frame was answered
  pub next_up : (f g : Frame) (fs rest : List Frame) → UpIs link (f ∷ fs) (g ∷ rest) → UpIs answered_link fs rest
  next_up f g fs rest u =
      let e : g ∷ rest ≡ f ∷ (fs ++ u.behind) = u.joined in
      record { behind = u.behind; joined = cc; bytes = u.bytes; readable = All-tail Readable g rest u.readable }

  pub more_down : (all : List Frame) → down ≡ link.down ++ spelling a → Readable a → DownAgrees link [] all → DownAgrees answered_link [] (all ++ a ∷ [])
  more_down all wrote good d = record {
    behind = d.behind ++ a ∷ [];
    joined = ap (λ fs. fs ++ a ∷ []) d.joined;
    bytes = ap (λ x. link.down_heard ++ x) wrote ∙ spelled_more link.down_heard link.down d.behind a d.bytes;
    readable = All-push Readable all a d.readable good;
  }

  -- one of the first requests was answered
  pub next_asking : (fv : Plain) (kn : Member) (pv : Option Plain) (leader : Member) (granted : Option Granted) (last : Option Role) → IsUnsaid granted last → (point : Option ℕ) (ask : StreamAsk) (f g : Frame) (fs asked said : List Frame) (k : ℕ)
      (t : Asking (wants_of fv) ask link.server link.consumer asked (spoken said)) → UpIs link (f ∷ fs) asked → DownAgrees link [] said
      → down ≡ link.down ++ spelling a → end.streams ≡ link.server.streams → end.asked ≡ link.server.asked → Readable a → is_refused_ack a ≡ false
      → t.answered ≡ k → k < first_count link.consumer.dialed → ServerIs end link.consumer.dialed (suc k)
      → Begin (drop k (request_frames link.consumer.asked link.consumer.dialed ask)) g → Begin (drop k (first_answers link.consumer.dialed)) a
      → Talk fv kn pv leader granted last point answered_link fs []
  next_asking fv kn pv leader granted last none point ask f g fs asked said k t ups downs wrote same_streams same_asked good no_ack is few server (rest, here) (others, says) =
      let frames : List Frame = request_frames link.consumer.asked link.consumer.dialed ask in
      let answers : List Frame = first_answers link.consumer.dialed in
      let short : k < length answers = goes_on_short k answers a others says in
      let seen : t.seen ≤ k = subst (λ j. t.seen ≤ j) is t.not_more in
      record {
        asked = rest;
        said = said ++ a ∷ [];
        stands = EndsStand.IsAsking ask none (record {
          no_stream = same_streams ∙ t.no_stream;
          fewer = subst (λ n. n < link.consumer.asked) (sym same_asked) t.fewer;
          asking = record {
            answered = suc k;
            seen = t.seen;
            some_left = omega arith;
            not_more = omega (arith, seen);
            server = server;
            consumer = t.consumer;
            asks = t.asks;
            untold = t.untold;
            asked_is = sym (behind_first k frames g rest here);
            said_is = spoken_push said a no_ack ∙ ap (λ x. x ++ a ∷ []) (t.said_is ∙ ap (λ j. drop t.seen (take j answers)) is)
                ∙ sym (ap (drop t.seen) (front_ends k answers a others says) ∙ drop-append-le t.seen (take k answers) (a ∷ []) (omega (arith, seen, length-take k answers, short)));
          };
        });
        ups = next_up f g fs rest (subst (UpIs link (f ∷ fs)) (t.asked_is ∙ ap (λ j. drop j frames) is ∙ here) ups);
        downs = more_down said wrote good downs;
      }
