-- a producer's window, and whose turn it is: nothing else that agrees speaks of them
use Rattle.std.specs.Prelude.{◌≡◌, ◌<◌, ◌≤◌, ◌+◌, ◌*◌, ◌^◌}
use Rattle.transcript_law.proofs.Words.{ℕ, List, [], refl, ap, sym, ◌∙◌, subst, Option, Some, Frame, Member, Plain, PlainConsumer, PlainProducer, PlainStream, Granted, Role, Served, States, row_at, PlainLink, link_number, PlainNode, PlainWorld, Chronicle, after_lines}
use Rattle.transcript_law.proofs.invariant.Agreement.{EndsStand, Heir, LinkAgrees, Streaming, Wants, idle}
use Rattle.transcript_law.proofs.{invariant.Carried.{told_of_same}, invariant.LinkRows.{found_is_link, put_is_found, put_twice}, invariant.OneLink.{carries_link}, links.PumpWorlds.{OwnedBy, SoFar, Stepped, pumped, served_link}}
use Rattle.{transcript_law.proofs.{Words.{All, producer_node}, invariant.Noted.{KeptFor, NotedStream}}, vb_events.specs.declared.event.StreamName.TheVariants.{Link}}
use Rattle.{dcp_producer.specs.declared.desk.Desk.{Desk}, transcript_law.specs.Feeding.{HasOpen}}

-- ends that differ in their windows and turns at most
pub record SameBut (x y : PlainProducer) : Type 0 where
  pub desk : y.desk ≡ x.desk
  pub handshake : y.handshake ≡ x.handshake
  pub asked : y.asked ≡ x.asked
  pub streams : y.streams ≡ x.streams

-- one whose branch was taken over
heir_served : {pv : Option Plain} {g : Option Granted} {served : PlainProducer} {asker : PlainConsumer} {up put : List Frame} → Heir pv g served asker up put → (end : PlainProducer) → SameBut served end → Heir pv g end asker up put
heir_served {served = served} t end same = record {
  granted_is = t.granted_is;
  told = t.told;
  stream = t.stream;
  stream_is = same.streams ∙ t.stream_is;
  vb_is = t.vb_is;
  opaque_is = t.opaque_is;
  numbered = subst (λ (d : Desk). t.stream.id ≤ d.base * 2 ^ 32 + end.asked) (sym same.desk) (subst (λ n. t.stream.id ≤ served.desk.base * 2 ^ 32 + n) (sym same.asked) t.numbered);
  apart = λ e. t.apart (ap (λ d. d.node) (sym same.desk) ∙ e);
  whole = t.whole;
  last = t.last;
  flag_is = t.flag_is;
  server = same.handshake ∙ t.server;
  answered = t.answered;
  gives_is = t.gives_is;
  for_takeover = t.for_takeover;
  owns = t.owns;
  granted = t.granted;
  small = t.small;
  acks = t.acks;
  over_done = t.over_done;
  opens = t.opens;
  none_marked = t.none_marked;
  none_coming = t.none_coming;
  end_is = t.end_is;
}

module _ {fv : Wants} {kn : Member} {pv : Option Plain} {leader : Member} {g : Option Granted} {served : PlainProducer} {asker : PlainConsumer} {up put : List Frame} where
  -- a stream that was granted
  abbrev pub streaming_served : Streaming fv kn pv leader g served asker up put → (end : PlainProducer) → SameBut served end → Streaming fv kn pv leader g end asker up put
  streaming_served t end same = record {
    granted_is = t.granted_is;
    told = t.told;
    serving = record {
      stream = t.stream;
      stream_is = same.streams ∙ t.stream_is;
      numbered = subst (λ (d : Desk). t.stream.id ≤ d.base * 2 ^ 32 + end.asked) (sym same.desk) (subst (λ n. t.stream.id ≤ served.desk.base * 2 ^ 32 + n) (sym same.asked) t.numbered);
      apart = λ e. t.apart (ap (λ d. d.node) (sym same.desk) ∙ e);
      server = same.handshake ∙ t.server;
      handing = t.handing;
      gives_is = t.gives_is;
      dialed_so = t.dialed_so;
      acks = t.acks;
      unput = t.unput;
      unput_is = t.unput_is;
      all_put = t.all_put;
      stated_behind = t.stated_behind;
    };
    feed = t.feed;
    fed = t.fed;
    sources = t.sources;
    log_fits = t.log_fits;
    seen = t.seen;
    taking = t.taking;
    streams = t.streams;
    all = t.all;
  }

  -- and so wherever the two ends stand
  pub stands_served : {said : Option Role} {point : Option ℕ} → EndsStand fv kn pv leader g said point served asker up put → (end : PlainProducer) → SameBut served end → EndsStand fv kn pv leader g said point end asker up put
  stands_served (EndsStand.IsAsking ask none t) end same = EndsStand.IsAsking ask none (record {
    no_stream = same.streams ∙ t.no_stream;
    fewer = subst (λ n. n < asker.asked) (sym same.asked) t.fewer;
    asking = record {
      answered = t.answered;
      seen = t.seen;
      some_left = t.some_left;
      not_more = t.not_more;
      server = same.handshake ∙ t.server;
      consumer = t.consumer;
      asks = t.asks;
      untold = t.untold;
      asked_is = t.asked_is;
      said_is = t.said_is;
    };
  })
  stands_served (EndsStand.IsRefusedYet none t) end same = EndsStand.IsRefusedYet none (record {
    no_stream = same.streams ∙ t.no_stream;
    fewer = subst (λ n. n ≤ asker.asked) (sym same.asked) t.fewer;
    refusal = record {
      said = t.said;
      refused = t.refused;
      told = t.told;
      seen = t.seen;
      not_more = t.not_more;
      server = same.handshake ∙ t.server;
      consumer = t.consumer;
      untold = t.untold;
      asked_is = t.asked_is;
      said_is = t.said_is;
    };
  })
  stands_served (EndsStand.IsStreaming t said) end same = EndsStand.IsStreaming (streaming_served t end same) said
  stands_served (EndsStand.IsHeir t said) end same = EndsStand.IsHeir (heir_served t end same) said

-- the world while a producer puts frames, after a turn in which none was put
module _ (w : PlainWorld) (r : Chronicle) (l : ℕ) (link : PlainLink) (node : PlainNode) (found : row_at link_number l w.links ≡ Some link) (states : States) where
  pub so_far_turned : (s : Served) (streams : List PlainStream) (turn : ℕ) → s.end.streams ≡ streams → SoFar w r l link node states s → SoFar w r l link node states (record s { end = record s.end { streams = streams; turn = turn } })
  so_far_turned s streams turn same g =
      let s' : Served = record s { end = record s.end { streams = streams; turn = turn } } in
      let now : PlainWorld = pumped w l link node states s in let now' : PlainWorld = pumped w l link node states s' in
      let here : PlainLink = served_link link s in let here' : PlainLink = served_link link s' in let (c, a) = g.agrees in
      let numbered : link_number here ≡ l = (found_is_link l w.links link found).1 in
      let there = put_is_found l w.links link here found numbered in
      let la : LinkAgrees now (after_lines r s.events) c here [] [] = a.links here (found_is_link l now.links here there).0 in
      record {
        lawful = g.lawful;
        quiet = g.quiet;
        desk = g.desk;
        agrees = (
          c,
          carries_link idle idle now now' (after_lines r s.events) (after_lines r s.events) c l here here' a there (record { dialed = refl; desk = refl })
              (record { powers = λ m. refl; vbs = λ m q. refl; shelves = λ m q. refl; uuids = refl; linked = sym (put_twice l w.links here here' numbered) }) (λ v id has. subst (HasOpen v id) (sym same) has) (told_of_same l (after_lines r s.events)) (λ k ne. refl) (record {
                follower = la.follower;
                follower_is = la.follower_is;
                follows = la.follows;
                acks = la.acks;
                dial = la.dial;
                talk = record {
                  asked = la.talk.asked;
                  said = la.talk.said;
                  stands = stands_served la.talk.stands s'.end (record { desk = refl; handshake = refl; asked = refl; streams = sym same });
                  ups = record { behind = la.talk.ups.behind; joined = la.talk.ups.joined; bytes = la.talk.ups.bytes; readable = la.talk.ups.readable };
                  downs = record { behind = la.talk.downs.behind; joined = la.talk.downs.joined; bytes = la.talk.downs.bytes; readable = la.talk.downs.readable };
                };
              }),
        );
        known = record {
          noted = record { dialed = g.known.noted.dialed; each = subst (All (NotedStream (r.takeover_of (link_number link)))) same g.known.noted.each };
          owned = subst (All (OwnedBy (r.takeover_of (link_number link)))) same g.known.owned;
          kept = subst (All (KeptFor (after_lines r s.events) (producer_node here) link.consumer.dialed.vb ((after_lines r s.events).stream_of (Link (link_number link)) link.consumer.dialed.vb))) same g.known.kept;
        };
        stepped = subst (Stepped l link.server.streams s.events) same g.stepped;
        hands = g.hands;
        own = g.own;
        beside = g.beside;
        ends = g.ends;
      }
