-- the marker of a client's stream is lawful, and the stream behind it is the one that is known
use Rattle.std.specs.Prelude.{◌≡◌, ◌<◌, ◌≤◌, ◌&&◌, nat_le, if◌then◌else◌}
use Rattle.transcript_law.proofs.Words.{is_some, ℕ, Bool, true, false, not, StandsAs, List, [], length, map, refl, ap, sym, ◌∙◌, subst, arith, nat_tests, append-nil, inl, inr, Option, Some, None, All, Begun, Change, Chronicle, Cluster, Covers, IsIn, IsOf, IsWholeIf, Plain, PlainStream, PlainWorld, Snapshot, item_of_change}
use Rattle.branch_model.proofs.Lists.{in_right}
use Rattle.dcp_producer.specs.Firsts.{as_sent, items_sent, start_sent}
use Rattle.dcp_producer.specs.Frames.{reaches_end, with_snapshot}
use Rattle.dcp_producer.specs.declared.first.First.{First}
use Rattle.std.proofs.lemmas.List.{take_all}
use Rattle.transcript_law.proofs.indexers.{Sending.{first_need, sent_so}, Snapped.{agrees, between, covers_told}, Views.{covers_lower, none_fewer}}
use Rattle.transcript_law.proofs.invariant.Agreement.{AgreesIn, ChangeFits, idle, vb_of}
use Rattle.transcript_law.proofs.invariant.ClientsTold.{BegunIs, IsOpenFor, PlaceIs, StartedAt, StreamIs}
use Rattle.transcript_law.proofs.invariant.FirstMarks.{covers_sent}
use Rattle.transcript_law.proofs.links.{Marking.{moved_here, moved_stream, moved_vb}, Sent.{all_by_each, fits_of}}
use Rattle.transcript_law.specs.ClientStreams.{stream_view, with_mark}
use Rattle.transcript_law.specs.LawfulClients.{GoesOnAt, IsNextMarker, IsSentOf, NoneWithin, ReachesFor, ReachesMeant, ReachedBy, StartsAt, writes_out}
use Rattle.transcript_law.specs.StreamLaws.{FROM_MEMORY, meant_end}
use Rattle.transcript_law.specs.StreamsTold.{ClientStream}
use Rattle.vb_types.specs.Histories.{plain}
use Rattle.vbucket.specs.Takes.{IsSentFor, IsSnapshot}

-- ---- places

pub place_none : (b : Bool) (h : List Change) (place at : ℕ) → PlaceIs b h place at → (place ≤ at) × NoneWithin h place at
place_none true h place at e = (omega (arith, e), λ x i above below. absurd (omega (arith, e, above, below)))
place_none false h place at is = is

place_is : (b : Bool) (h : List Change) (place at : ℕ) → (b ≡ true → place ≡ at) → place ≤ at → NoneWithin h place at → PlaceIs b h place at
place_is true h place at same up none = sym (same refl)
place_is false h place at same up none = (up, none)

goes_on_at : (b : Bool) (h : List Change) (place at start end : ℕ) → PlaceIs b h place at → start ≡ at → at < end → GoesOnAt b h place start end
goes_on_at true h place at start end is e up = e ∙ is
goes_on_at false h place at start end is e up = (omega (arith, e, is.0), omega (arith, e, up), none_fewer h place place at start (omega arith) (omega (arith, e)) is.1)

pub reaches_for : (b : Bool) (h : List Change) (meant end stop : ℕ) → (b ≡ true → end ≡ stop) → meant ≤ stop → NoneWithin h end stop → ReachesFor b h meant end
reaches_for true h meant end stop same up none = let e = same refl in omega (arith, e, up)
reaches_for false h meant end stop same up none = none_fewer h end end stop meant (omega arith) up none

-- what was put of the last snapshot is all of it
pub whole_put : (g : ClientStream) (held : List Change) (last : Option Begun) (stream : PlainStream) → BegunIs g held last stream → length stream.items ≤ stream.next → IsWholeIf last
whole_put g held None stream begun whole = tt
whole_put g held (Some b) stream begun whole = record {
  whole = stream.items;
  covers = begun.0;
  front = sym (append-nil b.items ∙ begun.1 ∙ ap (map item_of_change) (take_all stream.next stream.items whole));
}

-- a marker was sent exactly where one is known
pub begun_marked : (g : ClientStream) (held : List Change) (last : Option Begun) (stream : PlainStream) → BegunIs g held last stream → is_some stream.marked ≡ is_some last
begun_marked g held None stream begun = ap is_some begun.1
begun_marked g held (Some b) stream begun = ap is_some begun.2

-- the end that was asked for is reached exactly where the producer says so
pub reached_is : (g : ClientStream) (held : List Change) (last : Option Begun) (stream : PlainStream) → stream.until ≡ g.ask.end → BegunIs g held last stream → (b : Bool) → reaches_end stream.until stream.marked ≡ b → ReachedBy g.ask.end last → b ≡ true
reached_is g held None stream until begun b e reached = absurd reached
reached_is g held (Some s) stream until begun b e reached =
    let is : reaches_end stream.until stream.marked ≡ nat_le stream.until s.end = ap (reaches_end stream.until) begun.2 in
    let up : nat_le stream.until s.end ≡ true = grind (arith, nat_tests, until, reached) in
    sym e ∙ is ∙ up

pub reaches_so : (g : ClientStream) (held : List Change) (last : Option Begun) (stream : PlainStream) → stream.until ≡ g.ask.end → BegunIs g held last stream → reaches_end stream.until stream.marked ≡ true → ReachedBy g.ask.end last
reaches_so g held None stream until begun e = let z : false ≡ true = sym (ap (reaches_end stream.until) begun.1) ∙ e in cc
reaches_so g held (Some s) stream until begun e =
    let up : nat_le stream.until s.end ≡ true = sym (ap (reaches_end stream.until) begun.2) ∙ e in grind (arith, nat_tests, until, up)

module _ (w : PlainWorld) (r : Chronicle) (cl : Cluster) (a : AgreesIn idle w r cl) (n v : ℕ) (g : ClientStream) (stream : PlainStream) (si : StreamIs r.tree (r.branch_at n v) (r.held n v) (vb_of w n v) g stream)
    (x : IsOpenFor r.tree (r.branch_at n v) g stream.id (vb_of w n v)) (stop : ℕ) (snapshot : Snapshot) (is : IsSnapshot x.vb x.stream stop snapshot) (near : x.vb.floor ≤ x.stream.place) where
  open snapshot use {end}
  open x use {stream as o}

  abbrev h : List Change
  h = stream_view r.tree g

  -- as it is sent
  abbrev start : ℕ
  start = start_sent stream.marked stream.first snapshot.start

  abbrev items : List Change
  items = items_sent stream.marked stream.first snapshot.items

  placed : (g.place ≤ o.place) × NoneWithin h g.place o.place
  placed = place_none g.sync h g.place o.place x.place

  behind_place : o.place < end
  behind_place = is.covers.goes_on

  full : g.sync ≡ true → end ≡ stop
  full e = is.full (x.sync ∙ e)

  none_left : NoneWithin h end stop
  none_left = between w r cl a n v g stream.id x stop snapshot is near

  covers : Covers items h g.place end
  covers = covers_lower items h g.place o.place end placed.0 placed.1 (covers_sent stream.marked stream.first snapshot.items h o.place end (covers_told w r cl a n v g stream.id x stop snapshot is near))

  -- ---- the marker

  starts : (last : Option Begun) → BegunIs g (r.held n v) last stream → StartsAt last r.tree g start end
  starts None begun = ap (λ m. start_sent m stream.first snapshot.start) begun.1 ∙ ap (λ (f : First). f.start) si.first
  starts (Some b) begun = goes_on_at g.sync h g.place o.place start end x.place (ap (λ m. start_sent m stream.first snapshot.start) begun.2 ∙ is.starts) behind_place

  reaches : (last : Option Begun) → g.last ≡ last → ReachesMeant last r.tree g end
  reaches None e = reaches_for g.sync h (meant_end g.ask) end stop full (let need = first_need g o x.ask x.taken e in let up = is.reaches in omega (arith, need, up)) none_left
  reaches (Some b) e = tt

  pub marker_lawful : stream.ended ≡ false → length stream.items ≤ stream.next → reaches_end stream.until stream.marked ≡ false → IsNextMarker r.tree g start end
  marker_lawful going whole unreached = record {
    opens = si.over;
    stays = sym si.ended ∙ going;
    goes_on = λ reached. let z : false ≡ true = reached_is g (r.held n v) g.last stream si.until si.begun false unreached reached in cc;
    behind = whole_put g (r.held n v) g.last stream si.begun whole;
    starts = starts g.last si.begun;
    reaches = reaches g.last refl;
    whole = (items, covers);
  }

  -- ---- the stream behind it

  abbrev pub begun : Begun
  begun = record { history = h; from = g.place; end = end; disk = false; items = [] }

  sent : (y : Change) → IsIn y items → IsSentOf g begun (r.held n v) y
  sent = sent_so g stream o x.sync si.first si.started begun refl refl snapshot.items (r.held n v) given stream.marked (begun_marked g (r.held n v) g.last stream si.begun)
    where
      given : (y : Change) → IsIn y snapshot.items → (c : Change) × IsIn c (r.held n v) × IsSentFor o c y
      given y i =
          let (c, there, f) = is.sent y i in
          let vb = agrees w r cl a n v g stream.id x in
          (c, subst (IsIn c) (sym (vb.held ∙ vb.parts)) (in_right c vb.below x.vb.held there), f)

  of_held : (y : Change) → IsIn y items → IsOf (r.held n v) y
  of_held y i = let (c, there, e) = sent y i in (c, there, either (g.sync && not (writes_out g begun)) c y e)
    where
      either : (b : Bool) (c y : Change) → y ≡ (if b then c else plain c) → StandsAs y c
      either true c y e = inl e
      either false c y e = inr e

  fit : All ChangeFits items
  fit =
      let vb = agrees w r cl a n v g stream.id x in
      all_by_each ChangeFits items (λ y i. fits_of (r.held n v) y (subst (All ChangeFits) (sym vb.held) vb.fits) (of_held y i))

  above_start : (last : Option Begun) → StartedAt last g → g.ask.start < end
  above_start None s = let up = behind_place in let low = placed.0 in omega (arith, s, up, low)
  above_start (Some b) s = let up = behind_place in let low = placed.0 in omega (arith, s, up, low)

  abbrev pub moved : Plain
  moved = moved_vb x.vb stream.id stop

  pub marked_stream : stream.ended ≡ false → StreamIs r.tree (r.branch_at n v) (r.held n v) (Some moved) (with_mark r.tree end FROM_MEMORY g) (with_snapshot stream (as_sent stream snapshot))
  marked_stream going = record {
    opaque = si.opaque;
    small = si.small;
    until = si.until;
    first = si.first;
    over = si.over;
    ended = si.ended;
    gives = si.gives;
    shows = si.shows;
    put_place = refl;
    none_unread = si.none_unread;
    fits = fit;
    next_in = omega arith;
    started = above_start g.last si.started;
    begun = (covers, refl, refl, subst (λ b. All (IsSentOf g begun (if b then g.left else r.held n v)) items) (sym (sym si.ended ∙ going)) (all_by_each (IsSentOf g begun (r.held n v)) items sent), λ d. let z : false ≡ true = d in cc);
    opens = λ going. record {
      vb = moved;
      there = refl;
      active = x.active;
      branch = x.branch;
      stream = moved_stream o stop;
      opened = moved_here stream.id stop x.vb.streams o x.opened;
      ask = x.ask;
      sync = x.sync;
      taken = refl;
      place = place_is g.sync h end stop full is.within.0 none_left;
      low = is.within.1;
    };
  }
