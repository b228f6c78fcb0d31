-- clients' connections where a vBucket gets a role: their streams of it are ended, and turned
use Rattle.std.specs.Prelude.{◌≡◌, ◌≤◌, ◌<◌, ◌^◌, ◌==◌, ◌&&◌, ◌||◌, ◌∷◌, if◌then◌else◌}
use Rattle.transcript_law.proofs.Words.{ℕ, Bool, true, false, List, [], refl, ap, sym, ◌∙◌, subst, inl, inr, ⊎_elim, Option, Some, None, All, map, length, eq-eqb, ne_eqb, option_map, Covers, item_of_change, take, PlainStream, PlainWorld, Begun, Chronicle, Plain, Stream, ended_in, is_active, list_any, stream_at, stream_ids}
use Rattle.dcp_producer.proofs.Kept.{ids_of}
use Rattle.dcp_producer.specs.Producers.{stream_at as kept_at}
use Rattle.node_core.specs.Clients.{PlainClient, client_ended}
use Rattle.std.proofs.lemmas.Bool.{cases_eq}
use Rattle.transcript_law.proofs.invariant.Carried.{SameStream, stream_same}
use Rattle.transcript_law.proofs.invariant.ClientsKept.{FedAreThere, FewNew, GoesOver, Spot, agrees_over, among_open, apart_over, at_vb, found_open, open_known, spot_at, stream_over}
use Rattle.transcript_law.proofs.invariant.ClientsTold.{AskingIs, BegunIs, ClientAgrees, ClientsTold, FlowIs, KeptIs, StartedAt, StreamIs}
use Rattle.transcript_law.proofs.invariant.{Holdings.{ChangeFits, vb_of}, OpenStreams.{Among, at_among, kept_went}, Owed.{Fewer, owed_kept}}
use Rattle.transcript_law.specs.ClientFrames.{is_closed_by, setup_after}
use Rattle.transcript_law.specs.ClientStreams.{held_for, past_turn, with_clients_of, with_turn}
use Rattle.transcript_law.specs.Feeding.{HasFed, HasOpen, IsOfClient, client_in}
use Rattle.transcript_law.proofs.links.Sources.{ItemsFit}
use Rattle.transcript_law.specs.LawfulClients.{IsSentOf}
use Rattle.transcript_law.specs.StreamsTold.{ClientKnown, ClientStream}
use Rattle.vb_events.specs.declared.event.StreamName.TheVariants as name
use Rattle.transcript_law.proofs.invariant.Owing.{Later}

-- what a change of role at the vBucket v makes of a connection's stream
pub ended_same : (v : ℕ) (ids : List ℕ) (stream : PlainStream) → SameStream stream (ended_in v ids stream)
ended_same v ids stream = elim (stream.vb == v && list_any (λ i. i == stream.id) ids) as (λ b. SameStream stream (if b then record stream { ended = true } else stream))
    [ true ↦ record { id = refl; until = refl; first = refl; marked = refl; vb = refl; opaque = refl; items = refl; next = refl; gives = refl; sync = refl; place = refl; unread = refl; ended = λ e. refl } | false ↦ stream_same ]

-- an open stream's number is one of those that end
pub id_listed : (id : ℕ) (ss : List Stream) (s : Stream) → stream_at id ss ≡ Some s → list_any (λ i. i == id) (stream_ids ss) ≡ true
id_listed id [] s e = cc
id_listed id (x ∷ xs) s e = elim (x.id == id) as (λ b. (if b then Some x else stream_at id xs) ≡ Some s → (b || list_any (λ i. i == id) (stream_ids xs)) ≡ true)
    [ true ↦ λ q. refl | false ↦ id_listed id xs s ] e

-- all streams of the vBucket v of a connection are ended, which is else as it was
pub record StreamsEnded (v : ℕ) (client client' : PlainClient) : Type 0 where
  pub ends : PlainStream → PlainStream
  pub same : (s : PlainStream) → SameStream s (ends s)
  pub others : (s : PlainStream) → (s.vb ≡ v → ⊥) → ends s ≡ s
  pub all : (s : PlainStream) → Among s client.producer.streams → s.vb ≡ v → (ends s).ended ≡ true
  pub is : client' ≡ record client { producer = record client.producer { streams = map ends client.producer.streams } }

-- ---- lists of streams that changed so

module _ (ends : PlainStream → PlainStream) (same : (s : PlainStream) → SameStream s (ends s)) where
  ended_ids : (streams : List PlainStream) → ids_of (map ends streams) ≡ ids_of streams
  ended_ids [] = refl
  ended_ids (s ∷ more) = λ i. (same s).id i ∷ ended_ids more i

  ended_at : (v : ℕ) (streams : List PlainStream) → kept_at v (map ends streams) ≡ option_map ends (kept_at v streams)
  ended_at v [] = refl
  ended_at v (s ∷ more) = ap (λ k. if k == v then Some (ends s) else kept_at v (map ends more)) (same s).vb ∙ elim (s.vb == v)
      as (λ b. (if b then Some (ends s) else kept_at v (map ends more)) ≡ option_map ends (if b then Some s else kept_at v more)) [ true ↦ refl | false ↦ ended_at v more ]

  ended_among : (streams : List PlainStream) (t : PlainStream) → Among t (map ends streams) → (s : PlainStream) × Among s streams × (t ≡ ends s)
  ended_among [] t i = absurd i
  ended_among (s ∷ more) t i = ⊎_elim (λ e. (s, inl refl, e)) (λ j. let k = ended_among more t j in (k.0, inr k.1, k.2)) i

  -- one that is open was open
  open_before : (streams : List PlainStream) (v id : ℕ) → HasOpen v id (map ends streams) → HasOpen v id streams
  open_before [] v id h = absurd h
  open_before (s ∷ more) v id h = ⊎_elim
      (λ o. inl (sym (same s).vb ∙ o.0, sym (same s).id ∙ o.1, elim s.ended as (λ b. s.ended ≡ b → b ≡ false) [ true ↦ λ e. let z : true ≡ false = sym ((same s).ended e) ∙ o.2 in cc | false ↦ λ e. refl ] refl))
      (λ j. inr (open_before more v id j)) h

-- ---- one connection

-- a stream of a vBucket that gets a role: its end is due
stream_turned : (s s' : Spot) (g : ClientStream) (x y : PlainStream) → SameStream x y → y.ended ≡ true → StreamIs s.tree s.on s.held s.pv g x → StreamIs s'.tree s'.on s'.held s'.pv (with_turn s.held g) y
stream_turned s s' g x y same over a = record {
  opaque = same.opaque ∙ a.opaque;
  small = subst (λ k. k < 2 ^ 16) (sym same.vb) a.small;
  until = same.until ∙ a.until;
  first = same.first ∙ a.first;
  over = a.over;
  ended = over;
  gives = same.gives ∙ a.gives;
  shows = same.sync ∙ a.shows;
  put_place = same.place ∙ a.put_place;
  none_unread = same.unread ∙ a.none_unread;
  fits = subst (All ChangeFits) (sym same.items) a.fits;
  next_in = subst (λ k. k ≤ length y.items) (sym same.next) (subst (λ xs. x.next ≤ length xs) (sym same.items) a.next_in);
  started = by_start g.last a.started;
  begun = by g.last a.begun;
  opens = λ e. let z : true ≡ false = sym over ∙ e in cc;
}
  where
    by_start : (last : Option Begun) → StartedAt last g → StartedAt last (with_turn s.held g)
    by_start None e = e
    by_start (Some b) e = e

    by : (last : Option Begun) → BegunIs g s.held last x → BegunIs (with_turn s.held g) s'.held last y
    by None b = (same.items ∙ b.0, same.marked ∙ b.1)
    by (Some begun) b = (
      subst (λ xs. Covers xs begun.history begun.from begun.end) (sym same.items) b.0,
      b.1 ∙ (λ i. map item_of_change (take (sym same.next i) (sym same.items i))),
      same.marked ∙ b.2,
      subst (All (IsSentOf g begun (held_for g s.held))) (sym same.items) b.3,
      subst (ItemsFit begun) (sym same.items) b.4,
    )

-- so it is of what is known and kept of it, if anything is
kept_turned : (s s' : Spot) (closed : Bool) (known : Option ClientStream) (kept : Option PlainStream) (ends : PlainStream → PlainStream) → ((x : PlainStream) → kept ≡ Some x → SameStream x (ends x) × ((ends x).ended ≡ true))
    → KeptIs s.tree s.on s.held s.pv closed known kept → KeptIs s'.tree s'.on s'.held s'.pv closed (option_map (with_turn s.held) known) (option_map ends kept)
kept_turned s s' closed None None ends all a = tt
kept_turned s s' closed (Some g) None ends all a = a
kept_turned s s' closed None (Some x) ends all a = absurd a
kept_turned s s' closed (Some g) (Some x) ends all a = let q = all x refl in (a.0, stream_turned s s' g x (ends x) q.0 q.1 a.1)

-- a stream of another vBucket
kept_other : (s s' : Spot) (closed : Bool) (known : Option ClientStream) (kept : Option PlainStream) (ends : PlainStream → PlainStream) → ((x : PlainStream) → kept ≡ Some x → (ends x ≡ x) × (x.ended ≡ false → GoesOver s s' x.id))
    → KeptIs s.tree s.on s.held s.pv closed known kept → KeptIs s'.tree s'.on s'.held s'.pv closed known (option_map ends kept)
kept_other s s' closed None None ends all a = tt
kept_other s s' closed (Some g) None ends all a = a
kept_other s s' closed None (Some x) ends all a = absurd a
kept_other s s' closed (Some g) (Some x) ends all a = let q = all x refl in subst (λ y. KeptIs s'.tree s'.on s'.held s'.pv closed (Some g) (Some y)) (sym q.0) (a.0, stream_over s s' g x q.1 a.1)

module _ (w w' : PlainWorld) (r r' : Chronicle) (n v c : ℕ) (client client' : PlainClient) (known : r'.clients_at n c ≡ past_turn v (r.held n v) (r.clients_at n c)) (ended : StreamsEnded v client client')
    (goes : (q id : ℕ) → (q ≡ v → ⊥) → HasOpen q id client.producer.streams → GoesOver (spot_at w r n q) (spot_at w' r' n q) id) (a : ClientAgrees w r n c client) where
  abbrev streams : List PlainStream
  streams = client.producer.streams

  abbrev later : PlainClient
  later = record client { producer = record client.producer { streams = map ended.ends streams } }

  kept_then : (q : ℕ) → let s = spot_at w' r' n q in KeptIs s.tree s.on s.held s.pv (is_closed_by a.heard.served q) ((past_turn v (r.held n v) (r.clients_at n c)).streams q) (kept_at q later.producer.streams)
  kept_then q =
      let s = spot_at w r n q in let s' = spot_at w' r' n q in let closed = is_closed_by a.heard.served q in let known_of = (r.clients_at n c).streams q in
      subst (λ k. KeptIs s'.tree s'.on s'.held s'.pv closed ((past_turn v (r.held n v) (r.clients_at n c)).streams q) k) (sym (ended_at ended.ends ended.same q streams)) (⊎_elim
      (λ e. subst (λ b. KeptIs s'.tree s'.on s'.held s'.pv closed (if b then option_map (with_turn (r.held n v)) known_of else known_of) (option_map ended.ends (kept_at q streams))) (sym (eq-eqb q v e))
      (subst (λ k. KeptIs s'.tree s'.on s'.held s'.pv closed (option_map (with_turn (r.held n k)) known_of) (option_map ended.ends (kept_at q streams))) e (kept_turned s s' closed known_of (kept_at q streams) ended.ends (λ x found. (ended.same x, ended.all x (at_among q streams x found) (at_vb q streams x found ∙ e))) (a.streams q))))
      (λ ne. subst (λ b. KeptIs s'.tree s'.on s'.held s'.pv closed (if b then option_map (with_turn (r.held n v)) known_of else known_of) (option_map ended.ends (kept_at q streams))) (sym (ne_eqb q v ne))
      (kept_other s s' closed known_of (kept_at q streams) ended.ends (λ x found. (ended.others x (λ e. ne (sym (at_vb q streams x found) ∙ e)), λ opens. goes q x.id ne (found_open q streams x found opens))) (a.streams q)))
      (cases_eq q v))

  agrees_then : ClientAgrees w' r' n c later
  agrees_then = record {
    conn = record { node = a.conn.node; number = a.conn.number; desk = a.conn.desk };
    alive = a.alive;
    kept = kept_went client.producer (map ended.ends streams) (ended_ids ended.ends ended.same streams) a.kept;
    one = λ t i. let (s, j, e) = ended_among ended.ends ended.same streams t i in
        subst (λ x. kept_at x.vb (map ended.ends streams) ≡ Some x) (sym e)
        (ap (λ u. kept_at u (map ended.ends streams)) (ended.same s).vb ∙ ended_at ended.ends ended.same s.vb streams ∙ ap (option_map ended.ends) (a.one s j));
    opened = λ t i. let (s, j, e) = ended_among ended.ends ended.same streams t i in a.opened s j;
    asked = a.asked ∙ ap (λ (x : ClientKnown). x.opened) (sym known);
    silent = ap (λ (x : ClientKnown). x.told) known ∙ a.silent;
    heard = record { served = a.heard.served; front = a.heard.front; bytes = ap (λ (x : ClientKnown). x.bytes) known ∙ a.heard.bytes; frames = a.heard.frames; none = a.heard.none; sets = ap (λ (x : ClientKnown). setup_after x.setup a.heard.served) known ∙ a.heard.sets };
    asks = subst (λ (x : ClientKnown). AskingIs x.asking client.session client.producer.handshake) (sym known) a.asks;
    flow = subst (λ (x : ClientKnown). FlowIs x.flow client.session client.producer.handshake client.producer.window) (sym known) a.flow;
    streams = λ q. let s = spot_at w' r' n q in subst (λ (x : ClientKnown). KeptIs s.tree s.on s.held s.pv (is_closed_by a.heard.served q) (x.streams q) (kept_at q later.producer.streams)) (sym known) (kept_then q);
  }

  pub agrees_turned : ClientAgrees w' r' n c client'
  agrees_turned = subst (ClientAgrees w' r' n c) (sym ended.is) agrees_then

-- ---- all connections

-- a change of role at the vBucket v of the node n: its node's clients have their streams of it ended, and turned, and all others go over
pub record RoleTold (w w' : PlainWorld) (r r' : Chronicle) (n v : ℕ) : Type 0 where
  pub here : (c : ℕ) (client' : PlainClient) → client_in (w'.nodes n) c ≡ Some client' → (client : PlainClient) × (client_in (w.nodes n) c ≡ Some client) × StreamsEnded v client client'
  pub there : (m c : ℕ) → (m ≡ n → ⊥) → client_in (w'.nodes m) c ≡ client_in (w.nodes m) c
  pub known : (m c : ℕ) → r'.clients_at m c ≡ with_clients_of r.clients_at n (past_turn v (r.held n v)) m c
  pub goes : (m q : ℕ) → (m ≡ n → q ≡ v → ⊥) → (c id : ℕ) → IsOfClient w m c q id → GoesOver (spot_at w r m q) (spot_at w' r' m q) id

module _ (w w' : PlainWorld) (r r' : Chronicle) (n v : ℕ) (told : ClientsTold w r) (turned : RoleTold w w' r r' n v) where
  known_here : (c : ℕ) → r'.clients_at n c ≡ past_turn v (r.held n v) (r.clients_at n c)
  known_here c = turned.known n c ∙ ap (λ b. if b then past_turn v (r.held n v) (r.clients_at n c) else r.clients_at n c) (eq-eqb n n refl)

  known_there : (m c : ℕ) → (m ≡ n → ⊥) → r'.clients_at m c ≡ r.clients_at m c
  known_there m c ne = turned.known m c ∙ ap (λ b. if b then past_turn v (r.held n v) (r.clients_at m c) else r.clients_at m c) (ne_eqb m n ne)

  each_here : (c : ℕ) (client' : PlainClient) → client_in (w'.nodes n) c ≡ Some client' → ClientAgrees w' r' n c client'
  each_here c client' is =
      let (client, was, ended) = turned.here c client' is in
      agrees_turned w w' r r' n v c client client' (known_here c) ended (λ q id ne has. turned.goes n q (λ s t. ne t) c id (client, was, has)) (told.each n c client was)

  each_there : (m c : ℕ) (client' : PlainClient) → (m ≡ n → ⊥) → client_in (w'.nodes m) c ≡ Some client' → ClientAgrees w' r' m c client'
  each_there m c client' ne is =
      let was : client_in (w.nodes m) c ≡ Some client' = sym (turned.there m c ne) ∙ is in
      agrees_over w w' r r' m c client' (known_there m c ne) (λ q id has. turned.goes m q (λ s t. ne s) c id (client', was, has)) (told.each m c client' was)

  open_here : (c q id : ℕ) → IsOfClient w' n c q id → IsOfClient w n c q id
  open_here c q id (client', is, has) =
      let (client, was, ended) = turned.here c client' is in
      (client, was, open_before ended.ends ended.same client.producer.streams q id (subst (λ (x : PlainClient). HasOpen q id x.producer.streams) ended.is has))

  pub clients_turned : FedAreThere w → ((l m q id : ℕ) → HasFed w' (name.Link l) m q id → HasFed w (name.Link l) m q id) → Later r r' → ((m q : ℕ) → Fewer (vb_of w m q) (vb_of w' m q)) → ClientsTold w' r'
  clients_turned there links last fewer = record {
    each = λ m c client' is. ⊎_elim (λ e. subst (λ k. ClientAgrees w' r' k c client') (sym e) (each_here c client' (ap (λ k. client_in (w'.nodes k) c) (sym e) ∙ is))) (λ ne. each_there m c client' ne is) (cases_eq m n);
    apart = apart_over (name.Link 0) w w' there few told.apart;
    owed = owed_kept w w' r r' (record {
      later = last;
      fewer = fewer;
      conns = λ m c client' is. ⊎_elim
          (λ e.
          let (client, was, ended) = turned.here c client' (ap (λ k. client_in (w'.nodes k) c) (sym e) ∙ is) in (
            client,
            ap (λ k. client_in (w.nodes k) c) e ∙ was,
            ap (λ (x : PlainClient). x.session) ended.is,
            ap (λ k. (r'.clients_at k c).asking) e ∙ ap (λ (x : ClientKnown). x.asking) (known_here c) ∙ ap (λ k. (r.clients_at k c).asking) (sym e),
          ))
          (λ ne. (client', sym (turned.there m c ne) ∙ is, refl, ap (λ (x : ClientKnown). x.asking) (known_there m c ne)))
          (cases_eq m n);
    }) told.owed;
  }
    where
      few : FewNew (name.Link 0) w w'
      few (name.Link l) m q id has = inl (links l m q id has)
      few (name.Client k c) m q id (own, of) = inl (
        own,
        ⊎_elim
            (λ e. subst (λ j. IsOfClient w j c q id) (sym e) (open_here c q id (subst (λ j. IsOfClient w' j c q id) e of)))
            (λ ne. let (client, is, has) = of in (client, sym (turned.there m c ne) ∙ is, has)) (cases_eq m n),
      )

-- a connection whose open streams of the vBucket are among those that a change of role ended
pub all_listed : (v : ℕ) (ids : List ℕ) (client : PlainClient) → ((s : PlainStream) → Among s client.producer.streams → s.vb ≡ v → s.ended ≡ false → list_any (λ k. k == s.id) ids ≡ true) → StreamsEnded v client (client_ended v ids client)
all_listed v ids client listed = record {
  ends = ended_in v ids;
  same = ended_same v ids;
  others = λ s ne. ap (λ b. if b && list_any (λ i. i == s.id) ids then record s { ended = true } else s) (ne_eqb s.vb v ne);
  all = λ s i e. by s i e s.ended refl;
  is = refl;
}
  where
    by : (s : PlainStream) → Among s client.producer.streams → s.vb ≡ v → (b : Bool) → s.ended ≡ b → (ended_in v ids s).ended ≡ true
    by s i e true over = (ended_same v ids s).ended over
    by s i e false opens =
        ap (λ b. (if b && list_any (λ k. k == s.id) ids then record s { ended = true } else s).ended) (eq-eqb s.vb v e)
        ∙ ap (λ b. (if b then record s { ended = true } else s).ended) (listed s i e opens)

-- an open one is at the vBucket
pub open_at : (w : PlainWorld) (r : Chronicle) (n v c : ℕ) (vb : Plain) (client : PlainClient) → vb_of w n v ≡ Some vb → ClientAgrees w r n c client → (s : PlainStream) → Among s client.producer.streams → s.vb ≡ v → s.ended ≡ false
    → (t : Stream) × (stream_at s.id vb.streams ≡ Some t)
open_at w r n v c vb client there a s i e opens =
    let (g, known, x) = open_known w r n c client a v s.id (subst (λ q. HasOpen q s.id client.producer.streams) e (among_open s client.producer.streams i opens)) in
    let z : Some x.vb ≡ Some vb = sym x.there ∙ there in let own : x.vb ≡ vb = cc in
    (x.stream, subst (λ (p : Plain). stream_at s.id p.streams ≡ Some x.stream) own x.opened)

-- a connection that a change of role, which ends all open streams of the vBucket, ended the streams of
pub all_ended : (w : PlainWorld) (r : Chronicle) (n v c : ℕ) (vb : Plain) (client : PlainClient) → vb_of w n v ≡ Some vb → ClientAgrees w r n c client → StreamsEnded v client (client_ended v (stream_ids vb.streams) client)
all_ended w r n v c vb client there a = all_listed v (stream_ids vb.streams) client (λ s i e opens. let (t, is) = open_at w r n v c vb client there a s i e opens in id_listed s.id vb.streams t is)

-- where the vBucket is not there, or takes no writes, all of them are ended before
map_same : (streams : List PlainStream) → map (λ s. s) streams ≡ streams
map_same [] = refl
map_same (s ∷ more) = ap (λ ss. s ∷ ss) (map_same more)

pub none_opened : (w : PlainWorld) (r : Chronicle) (n v c : ℕ) (client : PlainClient) → ((vb : Plain) → vb_of w n v ≡ Some vb → is_active vb.role ≡ false) → ClientAgrees w r n c client → StreamsEnded v client client
none_opened w r n v c client quiet a = record {
  ends = λ s. s;
  same = λ s. stream_same;
  others = λ s ne. refl;
  all = λ s i e. by s i e s.ended refl;
  is = ap (λ ss. record client { producer = record client.producer { streams = ss } }) (sym (map_same client.producer.streams));
}
  where
    by : (s : PlainStream) → Among s client.producer.streams → s.vb ≡ v → (b : Bool) → s.ended ≡ b → s.ended ≡ true
    by s i e true over = over
    by s i e false opens =
        let (g, known, x) = open_known w r n c client a v s.id (subst (λ q. HasOpen q s.id client.producer.streams) e (among_open s client.producer.streams i opens)) in
        let z : true ≡ false = sym x.active ∙ quiet x.vb x.there in cc
