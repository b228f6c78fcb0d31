-- a client's stream puts the next item of its snapshot
use Rattle.std.specs.Prelude.{◌≡◌, ◌++◌, ◌∷◌, slice_get}
use Rattle.transcript_law.proofs.Words.{ℕ, zero, suc, true, false, List, [], refl, sym, ap, ◌∙◌, subst, arith, inl, inr, Option, Some, None, option_map, is_some, map, take, map-append, Begun, Branch, Change, Chronicle, Cluster, DcpMsg, Event, Frame, IsIn, Plain, PlainNode, PlainStream, PlainWorld, Served, States, act_message, item_line, item_of_change, more_items, past_item, spelling}
use Rattle.client_session.specs.Serving.{PlainSession}
unfoldable use Rattle.mcbp_dcp.specs.DcpFrames.{dcp_frame}
use Rattle.dcp_producer.specs.Frames.{act_sent, item_next}
use Rattle.dcp_producer.specs.Pulling.{QuietOnes, came, frame_put, stream_went}
use Rattle.dcp_producer.specs.declared.desk.Desk.{Desk}
use Rattle.flow_control.specs.Windows.{is_open as lets_through}
use Rattle.transcript_law.proofs.indexers.{Framed.{SoFar, TurnSoFar, client_of, mine, put_more, read, still_open, still_through, went_agrees, world_of}, Owning.{IsKnown, stream_known}, Replacing.{at_there_replaced, others_replaced}, Replied.{header_is, item_short, item_vb, put_is}, Worlds.{step_quiet, vb_here}}
use Rattle.transcript_law.proofs.invariant.{Agreement.{ChangeFits, vb_of}, ClientsTold.{BegunIs, IsOpenFor, StartedAt, StreamIs}, OpenStreams.{Among}}
use Rattle.transcript_law.proofs.links.{Putting.{next_item_of}, Sent.{all_found, found_below, take_found}}
use Rattle.transcript_law.specs.{ClientFrames.{is_closed_by}, ClientStreams.{held_for, with_sent}, Questions.{flow_now, served_frames}, LawfulClients.{IsSentOf, LawfulClientItem}, StreamLaws.{IsUnreplaced, line_act}, StreamsTold.{ClientKnown, ClientStream, StreamLine}, ClientStreams.{vb_in_header}}
use Rattle.vb_events.specs.declared.event.Event.TheVariants as event
use Rattle.vb_events.specs.declared.event.StreamName.TheVariants as name
use Rattle.vb_types.specs.declared.change.Act.{Act}
use Rattle.vb_types.specs.declared.change.Act.TheVariants as act

found_in : (xs : List Change) (i : ℕ) (x : Change) → slice_get xs i ≡ Some x → IsIn x xs
found_in [] i x e = cc
found_in (y ∷ xs) zero x e = let q : y ≡ x = cc in inl (sym q)
found_in (y ∷ xs) (suc i) x e = inr (found_in xs i x e)

-- each act is sent by the name that its line tells
sent_is_told : (what : Act) → act_sent what ≡ line_act what
sent_is_told (act.Set doc) = refl
sent_is_told other = refl

some_mapped : {A B : Type 0} (f : A → B) (o : Option A) → is_some (option_map f o) ≡ is_some o
some_mapped f None = refl
some_mapped f (Some x) = refl

-- it was begun
item_begun : (g : ClientStream) (held : List Change) (last : Option Begun) (t : PlainStream) (x : Change) → BegunIs g held last t → slice_get t.items t.next ≡ Some x → (b : Begun) × (last ≡ Some b)
item_begun g held None t x begun e = let z : None ≡ Some x = sym (ap (λ xs. slice_get xs t.next) begun.0) ∙ e in cc
item_begun g held (Some b) t x begun e = (b, refl)

-- ---- the stream behind it

module _ (tree : List Branch) (on : Option ℕ) (held : List Change) (pv : Option Plain) (g : ClientStream) (t : PlainStream) (si : StreamIs tree on held pv g t) (x : Change) (e : slice_get t.items t.next ≡ Some x) where
  abbrev g' : ClientStream
  g' = with_sent (item_of_change x) g

  item_started : (last : Option Begun) → StartedAt last g → StartedAt (option_map (more_items (item_of_change x)) last) g'
  item_started None s = s
  item_started (Some b) s = s

  item_more : (last : Option Begun) → BegunIs g held last t → BegunIs g' held (option_map (more_items (item_of_change x)) last) (past_item x.seq t)
  item_more None begun = begun
  item_more (Some b) begun = (
    begun.0,
    ap (λ ys. ys ++ item_of_change x ∷ []) begun.1 ∙ sym (map-append item_of_change (take t.next t.items) (x ∷ [])) ∙ ap (map item_of_change) (sym (take_found t.items t.next x e)),
    begun.2,
    begun.3,
    begun.4,
  )

  open_more : IsOpenFor tree on g t.id pv → IsOpenFor tree on g' t.id pv
  open_more o = record {
    vb = o.vb;
    there = o.there;
    active = o.active;
    branch = o.branch;
    stream = o.stream;
    opened = o.opened;
    ask = o.ask;
    sync = o.sync;
    taken = o.taken ∙ sym (some_mapped (more_items (item_of_change x)) g.last);
    place = o.place;
    low = o.low;
  }

  pub item_stream : StreamIs tree on held pv g' (past_item x.seq t)
  item_stream = record {
    opaque = si.opaque;
    small = si.small;
    until = si.until;
    first = si.first;
    over = si.over;
    ended = si.ended;
    gives = si.gives;
    shows = si.shows;
    put_place = si.put_place;
    none_unread = si.none_unread;
    fits = si.fits;
    next_in = let l = found_below t.items t.next x e in omega (arith, l);
    started = item_started g.last si.started;
    begun = item_more g.last si.begun;
    opens = λ going. open_more (si.opens going);
  }

-- ---- the line

module _ (r : Chronicle) (n c : ℕ) (known : ClientKnown) (pv : Option Plain) (g : ClientStream) (t : PlainStream) (there : known.streams t.vb ≡ Some g) (si : StreamIs r.tree (r.branch_at n t.vb) (r.held n t.vb) pv g t) (x : Change)
    (e : slice_get t.items t.next ≡ Some x) (still : is_closed_by (served_frames known) t.vb ≡ false) (through : lets_through (flow_now known).window ≡ true) where
  pub item_lawful : (more : List Event) → LawfulClientItem r known n c (item_of_change x) (event.Reply n c (spelling (dcp_frame (act_message x x.act) t.opaque t.vb)) ∷ more)
  item_lawful more = by g.last refl si.begun
    where
      by : (last : Option Begun) → g.last ≡ last → BegunIs g (r.held n t.vb) last t → LawfulClientItem r known n c (item_of_change x) (event.Reply n c (spelling (dcp_frame (act_message x x.act) t.opaque t.vb)) ∷ more)
      by None q begun = let z : None ≡ Some x = sym (ap (λ xs. slice_get xs t.next) begun.0) ∙ e in cc
      by (Some b) q begun =
          let (p, is, at) = put_is n c known (act_message x x.act) g t.opaque t.vb more (item_vb x x.act t.opaque t.vb) si.small there si.opaque still through in record {
            change = x;
            told = refl;
            put = p;
            opens = ap (λ (y : ClientStream). y.over) is ∙ si.over;
            begun = b;
            last = ap (λ (y : ClientStream). y.last) is ∙ q;
            shown = begun.0.remains.of x (found_in t.items t.next x e);
            held =
                let sent : IsSentOf g b (held_for g (r.held n t.vb)) x = all_found (IsSentOf g b (held_for g (r.held n t.vb))) t.items t.next x begun.3 e in
                subst (λ (y : ClientStream). IsSentOf y b (held_for y (r.held n (vb_in_header p.bytes))) x) (sym is) (subst (λ v. IsSentOf g b (held_for g (r.held n v)) x) (sym at) sent);
            next = next_item_of b t x (begun.0, begun.1, begun.4) e;
            unreplaced = λ d. all_found (IsUnreplaced b.history b.end) t.items t.next x (begun.4 d) e;
          }

-- ---- its turn

module _ (w : PlainWorld) (r : Chronicle) (cl : Cluster) (n c : ℕ) (node : PlainNode) (session : PlainSession) (states : States) (s : Served) (g : SoFar w r cl n c node session states s) (q : QuietOnes) (t : PlainStream) (i : Among t s.end.streams) (through : lets_through s.end.window ≡ true) where
  abbrev here : Chronicle
  here = read w r cl n c node session states s g

  known : IsKnown (world_of w r cl n c node session states s) (world_of w r cl n c node session states s) here here n c (client_of w r cl n c node session s) (mine w r cl n c node session states s g) t
  known = stream_known (world_of w r cl n c node session states s) (world_of w r cl n c node session states s) here here n c (client_of w r cl n c node session s) (mine w r cl n c node session states s g) t i

  pub item_turn : (x : Change) → slice_get t.items t.next ≡ Some x → TurnSoFar w r cl n c node session states s g q t (states, came s q (item_next s.end.desk.stream t x))
  item_turn x e =
      let m : DcpMsg = act_message x x.act in let f : Frame = dcp_frame m t.opaque t.vb in
      let left : PlainStream = past_item x.seq t in
      let s' : Served = frame_put f (item_line s.end.desk.stream x) (stream_went left s) in
      let named : s.end.desk.stream ≡ name.Client n c = ap (λ (d : Desk). d.stream) (mine w r cl n c node session states s g).conn.desk in
      let told : Event = event.Item (name.Client n c) x.seq (line_act x.act) x.key in
      let line_is : item_line s.end.desk.stream x ≡ told = (λ i. event.Item (named i) x.seq (sent_is_told x.act i) x.key) in
      let si = known.is in
      let header = header_is f t.vb (item_vb x x.act t.opaque t.vb) si.small in (
        put_more w r cl n c node session states s g t states s' told f (StreamLine.Sends (item_of_change x)) (ap (λ l. s.events ++ l ∷ []) line_is) refl
            (item_short x t.opaque t.vb (all_found ChangeFits t.items t.next x si.fits e)) refl header (λ u j ne. others_replaced left s.end.streams u j ne) (at_there_replaced left s.end.streams t (mine w r cl n c node session states s g).kept.rise (mine w r cl n c node session states s g).one i refl refl) refl
            (item_lawful here n c (here.clients_at n c) (vb_of (world_of w r cl n c node session states s) n t.vb) known.g t known.known si x e (still_open w r cl n c node session states s g t known) (still_through w r cl n c node session states s g through))
            (went_agrees w r cl n c node session states s g t left i refl refl (spelling f) (StreamLine.Sends (item_of_change x)) header states s' (step_quiet w n c node states states (Some (client_of w r cl n c node session s)) (Some (client_of w r cl n c node session s')) (λ k. refl))
            (λ k ne. refl) refl refl refl known
            (subst (λ o. StreamIs here.tree (here.branch_at n t.vb) (here.held n t.vb) o (with_sent (item_of_change x) known.g) left) (vb_here w n c node states (Some (client_of w r cl n c node session s)) t.vb)
            (item_stream here.tree (here.branch_at n t.vb) (here.held n t.vb) (vb_of (world_of w r cl n c node session states s) n t.vb) known.g t si x e))),
        refl,
      )
