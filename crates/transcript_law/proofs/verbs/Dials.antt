-- lines that open a link
use Rattle.std.specs.Prelude.{◌≡◌, ◌<◌, ◌∷◌, ◌++◌, ◌==◌, ◌&&◌, ◌||◌, ◌^◌, if◌then◌else◌}
use Rattle.transcript_law.proofs.Words.{ℕ, Bool, true, false, List, [], map, refl, ap, sym, ◌∙◌, subst, inl, arith, append-nil, ⊎_elim, Option, Some, None}
use Rattle.transcript_law.proofs.Words.{not, is_some, concat, concat-append, eqb-false, eq-eqb, All-nil, Frame, map-append, spelling, Readable, dcp_frame, AskInRange, VerbFits, Cause, StreamAsk, request_of}
use Rattle.transcript_law.proofs.Words.{Cluster, Plain, is_follower, quiet_reply, refusal_reply, named_ask, PlainLink, link_number, producer_node}
use Rattle.transcript_law.proofs.Words.{consumer_node, feeds, PlainWorld, Outcome, with_links, ask_in, first_cause, link_causes, refused_or, with_dialed, done, Chronicle, after_dial, option_and_then}
use Rattle.transcript_law.proofs.Words.{DcpMsg, Verb, VbAnswer, Status, Answer, requests, is_taken, ask_of, new_link, link_step, StreamName}
use Rattle.transcript_law.proofs.invariant.Tables.{ended_there, id_here, id_there, never, none_hold}
use Rattle.transcript_law.proofs.invariant.Seats.{seat}
use Rattle.transcript_law.proofs.invariant.Agreement.{vb_of, VbAgrees, AgreesAt, Talk, AckedIs, producer_seat, LinkAgrees, IsLink, idle, AgreesIn, Agrees, GoesOn, EndsStand, consumer_seat}
use Rattle.transcript_law.proofs.invariant.LinkRows.{is_link_more, differ_more}
use Rattle.transcript_law.proofs.invariant.Carried.{fed_same, kept_same, agrees_carried, stays_same, link_carried}
use Rattle.{node_world.specs.Worlds.{is_off}, transcript_law.proofs.{invariant.Agreement.{EndsUp}, invariant.Resting.{off_as_power, runs_as_power}}, dcp_consumer.specs.Dialing.{numbered, stream_opaque, flagged}, dcp_consumer.specs.declared.handshake.Dialed.{Dialed}, transcript_law.proofs.links.Firsts.{asks_from, firsts, request_frames}}
use Rattle.transcript_law.proofs.links.Requests.{dials_waiting, first_asked, opaque_small, opaque_some, requests_readable}
use Rattle.transcript_law.proofs.links.Verdicts.{asks_in_range, flags_in_range}
use Rattle.transcript_law.proofs.invariant.{Carried.{all_there}, ClientsKept.{all_kept, clients_kept, every_owed}, LinkFeeds.{link_feeds}, LinkRows.{found_is_link}}
use Rattle.transcript_law.specs.Feeding.{HasFed, HasOpen}
use Rattle.transcript_law.proofs.invariant.Owing.{later_same}

-- what a consumer writes is the spelling of its requests
requests_spelled : (d : Dialed) (ask : StreamAsk) → requests d ask ≡ concat (map spelling (request_frames (stream_opaque d.buffer) d (flagged d.takeover ask)))
unfolding requests
requests_spelled d ask =
    let last : Frame = dcp_frame (DcpMsg.StreamRequest (flagged d.takeover ask)) (stream_opaque d.buffer) d.vb in let first : List Frame = asks_from 1 (firsts d) in
    ap (λ ms. concat (map spelling (numbered 1 ms)) ++ spelling last) (first_asked d)
    ∙ ap (λ l. concat (map spelling first) ++ l) (sym (append-nil (spelling last)))
    ∙ sym (concat-append (map spelling first) (spelling last ∷ [])) ∙ ap concat (sym (map-append spelling first (last ∷ [])))

-- what a vBucket asks for
asks_as : (vb : Plain) (ask : StreamAsk) → ask_of vb ≡ Some ask → (is_follower vb.role ≡ true) × (ask ≡ request_of vb.log vb.position)
asks_as vb ask = elim (is_follower vb.role)
    as (λ b. named_ask (if b then quiet_reply (VbAnswer.Named (request_of vb.log vb.position)) else refusal_reply Status.NotMyVbucket).answer ≡ Some ask → (b ≡ true) × (ask ≡ request_of vb.log vb.position))
    [ true ↦ λ e. let same : request_of vb.log vb.position ≡ ask = cc in (refl, sym same) | false ↦ λ e. cc ]

-- a number that no link has, and a vBucket that none feeds
both_made : (a b : Bool) → not (a && b) ≡ false → a ≡ true
both_made true b e = refl
both_made false b e = cc

neither : (a b : Bool) → (a || b) ≡ false → (a ≡ false) × (b ≡ false)
neither true b e = cc
neither false b e = (refl, e)

pub free_links : (links : List PlainLink) (l n v : ℕ) → is_taken links l n v ≡ false → (x : PlainLink) → IsLink x links → (link_number x ≡ l → ⊥) × (consumer_node x ≡ n → x.consumer.dialed.vb ≡ v → ⊥)
free_links [] l n v e x i = absurd i
free_links (y ∷ ys) l n v e x i =
    let both = neither ((link_number y == l) || feeds n v y) (is_taken ys l n v) e in
    let here = neither (link_number y == l) (feeds n v y) both.0 in
    ⊎_elim
    (λ same. subst (λ z. (link_number z ≡ l → ⊥) × (consumer_node z ≡ n → z.consumer.dialed.vb ≡ v → ⊥)) (sym same)
    (eqb-false (link_number y) l here.0, λ f g. never (sym (ap (λ b. b && y.consumer.dialed.vb == v) (eq-eqb (consumer_node y) n f) ∙ eq-eqb y.consumer.dialed.vb v g) ∙ here.1)))
    (λ j. free_links ys l n v both.1 x j) i

module _ (w : PlainWorld) (r : Chronicle) (line l m n v buffer : ℕ) (takeover : Bool) (small : (n < 16) × (v < 1024) × (buffer < 2 ^ 32)) (number : l < 1000) (made : is_some (w.nodes m) ≡ true) (up : (is_off (w.nodes m) ≡ false) × (is_off (w.nodes n) ≡ false)) (c : Cluster) (a : AgreesIn idle w r c) (fv : Plain) (ask : StreamAsk)
    (known : vb_of w n v ≡ Some fv) (asked : ask_of fv ≡ Some ask) (free : is_taken w.links l n v ≡ false) where
  abbrev new : PlainLink
  new = new_link line l m n v buffer takeover ask

  -- the request as it goes out
  abbrev out : StreamAsk
  out = flagged takeover ask

  abbrev dialed : PlainWorld
  dialed = with_links w (w.links ++ new ∷ [])

  abbrev r' : Chronicle
  r' = after_dial r l m n v Answer.Ok

  follower : VbAgrees r n v (c.nodes (seat n v)) fv
  follower = subst (AgreesAt r n v (c.nodes (seat n v))) known (a.vbs n v)

  asking : Talk fv (c.nodes (consumer_seat new)) (vb_of dialed (producer_node new) v) (c.nodes (producer_seat new)) (r'.stream_of (StreamName.Link l) v) (r'.stated_of l) (r'.point_of l) new [] []
  asking =
      let asks = asks_as fv ask asked in
      record {
        asked = request_frames new.consumer.asked new.consumer.dialed out;
        said = [];
        stands = EndsStand.IsAsking out (ap (λ b. if b then None else r.stream_of (StreamName.Link l) v) (eq-eqb l l refl), id_here r.stated_of l None) (record {
          no_stream = refl;
          fewer = opaque_some buffer;
          asking = record {
            answered = 0;
            seen = 0;
            some_left = omega arith;
            not_more = omega arith;
            server = refl;
            consumer = record { waits = dials_waiting new.consumer.dialed; small = opaque_small buffer };
            asks = ap (flagged takeover) asks.1;
            untold = refl;
            asked_is = refl;
            said_is = refl;
          };
        });
        ups = record {
          behind = request_frames new.consumer.asked new.consumer.dialed out;
          joined = refl;
          bytes = requests_spelled new.consumer.dialed ask;
          readable = requests_readable new.consumer.asked new.consumer.dialed out (opaque_small buffer) small (subst AskInRange (sym (ap (flagged takeover) asks.1)) (flags_in_range takeover (request_of fv.log fv.position) (asks_in_range fv follower.sound follower.entries)));
        };
        downs = record { behind = []; joined = refl; bytes = refl; readable = All-nil Readable };
      }

  new_agrees : LinkAgrees dialed r' c new [] []
  new_agrees = record {
    follower = fv;
    follower_is = known;
    follows = (asks_as fv ask asked).0;
    acks = subst (λ o. AckedIs o 0) (sym (ap (λ b. if b then None else r.stream_of (StreamName.Link l) v) (eq-eqb l l refl))) refl;
    dial = record { dialed = id_here r.dial_of l (Some (record { producer = m; node = n; vb = v })); named = refl; small = small };
    talk = asking;
  }

  old_agrees : (x : PlainLink) → IsLink x w.links → LinkAgrees dialed r' c x [] []
  old_agrees x i =
      link_carried w dialed r r' c c x [] [] (λ f e. (f, e, kept_same f))
      (id_there r.dial_of l (Some (record { producer = m; node = n; vb = v })) (link_number x) (λ e. (free_links w.links l n v free x i).0 (sym e))) (ended_there r l (link_number x) x.consumer.dialed.vb (free_links w.links l n v free x i).0)
      (id_there r.stated_of l None (link_number x) (λ e. (free_links w.links l n v free x i).0 (sym e)))
      (id_there r.point_of l None (link_number x) (λ e. (free_links w.links l n v free x i).0 (sym e))) refl
      (stays_same (vb_of w (producer_node x) x.consumer.dialed.vb) (c.nodes (producer_seat x)) x) (a.links x i)

  -- the new link has no stream
  dialed_feeds : (k j q id : ℕ) → HasFed dialed (StreamName.Link k) j q id → HasFed w (StreamName.Link k) j q id
  dialed_feeds k j q id (x, is, of) =
      let at = found_is_link k dialed.links x is in
      ⊎_elim (λ e. absurd (subst (λ (y : PlainLink). HasOpen q id y.server.streams) e of.stream)) (λ i. link_feeds w a.differ k j q id x i at.1 of.producer of.stream) (is_link_more x new w.links at.0)

  dialed_agrees : AgreesIn idle dialed r' c
  dialed_agrees = record {
    sound = a.sound;
    disks = a.disks;
    vbs = λ i q. agrees_carried r r' i q (c.nodes (seat i q)) (c.nodes (seat i q)) (record { tree = refl; writer_of = λ u. refl; row = refl }) (fed_same (c.nodes (seat i q)))
        (vb_of w i q) (λ none. refl) (a.vbs i q);
    branches = a.branches;
    rests = record {
      powers = a.powers;
      clocks = a.clocks;
      aways = a.aways;
      downs = a.downs;
      ends = λ x i. ⊎_elim
          (λ e. subst (EndsUp dialed) (sym e) (record { producer = runs_as_power (w.nodes m) made up.0; consumer = off_as_power (w.nodes n) ∙ up.1; number = number }))
          (λ j. let e = a.ends x j in record { producer = e.producer; consumer = e.consumer; number = e.number })
          (is_link_more x new w.links i);
      small = a.small;
    };
    links = λ x i. ⊎_elim (λ e. subst (λ y. LinkAgrees dialed r' c y [] []) (sym e) new_agrees) (λ j. old_agrees x j) (is_link_more x new w.links i);
    differ = differ_more new w.links a.differ (λ x i. record {
      number = (free_links w.links l n v free x i).0;
      follower = (free_links w.links l n v free x i).1;
      stream = λ q id e f z. absurd f;
    });
    clients = let kept = all_kept w dialed r r' (λ i d. refl) (λ i d. refl) refl (λ i q. refl) (λ i q. refl) in
        clients_kept w dialed r r' 0 a.clients (all_there idle w r c a) kept (λ k j q id has. inl (dialed_feeds k j q id has)) (every_owed w dialed r r' kept (later_same _ _ refl refl) (λ i q x p o. o) a.clients.owed);
  }

no_ask : {A : Type 0} (ask : StreamAsk) → None ≡ Some ask → A
no_ask ask e = cc

module _ (w : PlainWorld) (r : Chronicle) (line l m n v buffer : ℕ) (takeover : Bool) where
  -- what becomes of the line, by the cause to refuse it and by what the vBucket asks for
  abbrev outcome : Option Cause → Option StreamAsk → Outcome
  outcome why ask = refused_or why w (with_links w (with_dialed line l m n v buffer takeover w.links ask), done [])

  abbrev Goes : Option Cause → Option StreamAsk → Type 0
  Goes why ask = GoesOn r (λ told. after_dial told l m n v (outcome why ask).1.answer) (outcome why ask)

  opened : Agrees w r → (n < 16) × (v < 1024) × (buffer < 2 ^ 32) → l < 1000 → not (is_some (w.nodes m) && is_some (w.nodes n)) ≡ false → (is_off (w.nodes m) || is_off (w.nodes n)) ≡ false → (o : Option Plain) → vb_of w n v ≡ o → (q : Option StreamAsk) → option_and_then ask_of o ≡ q
      → not (is_some q) ≡ false → is_taken w.links l n v ≡ false → Goes None q
  opened a small number there up o known None e some free = never some
  opened a small number there up None none (Some ask) e some free = no_ask ask e
  opened a small number there up (Some fv) known (Some ask) e some free = (tt, (a.0, dialed_agrees w r line l m n v buffer takeover small number (both_made (is_some (w.nodes m)) (is_some (w.nodes n)) there) (neither (is_off (w.nodes m)) (is_off (w.nodes n)) up) a.0 a.1 fv ask known e free))

  by_cause : Agrees w r → (n < 16) × (v < 1024) × (buffer < 2 ^ 32) → l < 1000 → (why : Option Cause) → first_cause (link_causes w l m n v) ≡ why → Goes why (ask_in w n v)
  by_cause a small number (Some why) e = (tt, a)
  by_cause a small number None e =
      let clear = none_hold (link_causes w l m n v) e in opened a small number clear.0 clear.1.0 (vb_of w n v) refl (ask_in w n v) refl clear.1.1.1.0 clear.1.1.1.1.0

-- `link L M N V BUF`
pub link_goes : (w : PlainWorld) (r : Chronicle) (line l m n v buffer : ℕ) (takeover : Bool) → VerbFits (Verb.Link l m n v buffer takeover) → Agrees w r
    → GoesOn r (λ told. after_dial told l m n v (link_step w line l m n v buffer takeover).1.answer) (link_step w line l m n v buffer takeover)
link_goes w r line l m n v buffer takeover fits a = by_cause w r line l m n v buffer takeover a (fits.2, fits.3, fits.4) fits.0 (first_cause (link_causes w l m n v)) refl
