-- how what is told of clients' connections goes over from one world, and what was told of it, to another
use Rattle.std.specs.Prelude.{◌≡◌, ◌≤◌, ◌⊎◌, ◌==◌, ◌∷◌, if◌then◌else◌}
use Rattle.transcript_law.proofs.Words.{ℕ, Bool, true, false, List, [], refl, ap, sym, ◌∙◌, subst, inl, inr, ⊎_elim, Option, Some, None, All, All-weaker, Change, IsIn, Branch, Member, hist}
use Rattle.transcript_law.proofs.Words.{Plain, is_active, stream_at, eqb-true, arith, PlainLink, PlainStream, PlainWorld, Begun, Chronicle}
use Rattle.dcp_producer.specs.Producers.{stream_at as kept_at}
use Rattle.node_core.specs.Clients.{PlainClient}
use Rattle.transcript_law.proofs.invariant.ClientsTold.{AskingIs, BegunIs, ClientAgrees, ClientsApart, ClientsTold, FlowIs, HeardIs, IsOpenFor, KeptIs, PlaceIs, StreamIs}
use Rattle.transcript_law.proofs.invariant.Agreement.{AgreesAt, VbAgrees, VbRow, Writes, WritesIf, vb_of, vb_row}
use Rattle.transcript_law.proofs.invariant.Carrying.{Changed, SameClients, StreamsChanged, same_clients}
use Rattle.transcript_law.proofs.invariant.OpenStreams.{Among, at_among}
use Rattle.transcript_law.proofs.invariant.Owed.{Fewer, Owed, fewer_same, fewer_some, owed_kept}
use Rattle.transcript_law.specs.ClientFrames.{is_closed_by, setup_after}
use Rattle.transcript_law.specs.ClientStreams.{stream_view, view}
use Rattle.std.proofs.lemmas.Bool.{cases_eq}
use Rattle.transcript_law.specs.Feeding.{HasFed, HasOpen, IsOfClient, IsOpenAt, client_in}
use Rattle.transcript_law.specs.LawfulClients.{IsSentOf}
use Rattle.transcript_law.specs.StreamsTold.{ClientKnown, ClientStream}
use Rattle.vb_events.specs.declared.event.StreamName.{StreamName}
use Rattle.vb_events.specs.declared.event.StreamName.TheVariants as name
use Rattle.transcript_law.proofs.invariant.Owing.{Later}

-- what an open stream of a client at a vBucket stands on: the branches, the vBucket's branch, the changes that it holds, and the vBucket
pub record Spot : Type 0 where
  pub tree : List Branch
  pub on : Option ℕ
  pub held : List Change
  pub pv : Option Plain

abbrev pub spot_at : PlainWorld → Chronicle → ℕ → ℕ → Spot
spot_at w r n v = record { tree = r.tree; on = r.branch_at n v; held = r.held n v; pv = vb_of w n v }

-- a stream is open there under this number
abbrev pub OpensAt : Spot → ClientStream → ℕ → Type 0
OpensAt s g id = IsOpenFor s.tree s.on g id s.pv

-- each of these changes is one of those
abbrev pub AllIn : List Change → List Change → Type 0
AllIn xs ys = (x : Change) → IsIn x xs → IsIn x ys

-- a stream of this number that is open at one spot is so at the other, which holds all that the first one does
abbrev pub GoesOver : Spot → Spot → ℕ → Type 0
GoesOver s s' id = (g : ClientStream) → OpensAt s g id → OpensAt s' g id × AllIn s.held s'.held

-- ---- one connection

-- the stream that is found for a vBucket is of it
pub at_vb : (v : ℕ) (streams : List PlainStream) (t : PlainStream) → kept_at v streams ≡ Some t → t.vb ≡ v
at_vb v [] t e = cc
at_vb v (s ∷ more) t e = elim (s.vb == v) as (λ b. (s.vb == v) ≡ b → (if b then Some s else kept_at v more) ≡ Some t → t.vb ≡ v)
    [ true ↦ λ q f. let same : s ≡ t = cc in ap (λ (x : PlainStream). x.vb) (sym same) ∙ eqb-true s.vb v q | false ↦ λ q f. at_vb v more t f ] refl e

-- one of the streams that has not ended is open
pub among_open : (t : PlainStream) (streams : List PlainStream) → Among t streams → t.ended ≡ false → HasOpen t.vb t.id streams
among_open t [] i e = absurd i
among_open t (s ∷ more) i e = ⊎_elim
    (λ same. inl (ap (λ (x : PlainStream). x.vb) (sym same), ap (λ (x : PlainStream). x.id) (sym same), ap (λ (x : PlainStream). x.ended) (sym same) ∙ e))
    (λ j. inr (among_open t more j e)) i

pub found_open : (v : ℕ) (streams : List PlainStream) (t : PlainStream) → kept_at v streams ≡ Some t → t.ended ≡ false → HasOpen v t.id streams
found_open v streams t found e = subst (λ k. HasOpen k t.id streams) (at_vb v streams t found) (among_open t streams (at_among v streams t found) e)

-- a change that was sent of what is held is sent of what holds more
sent_more : (g : ClientStream) (b : Begun) (held held' : List Change) → AllIn held held' → (x : Change) → IsSentOf g b held x → IsSentOf g b held' x
sent_more g b held held' more x (c, i, e) = (c, more c i, e)

-- a stream goes over
pub stream_over : (s s' : Spot) (g : ClientStream) (stream : PlainStream) → (stream.ended ≡ false → GoesOver s s' stream.id) → StreamIs s.tree s.on s.held s.pv g stream → StreamIs s'.tree s'.on s'.held s'.pv g stream
stream_over s s' g stream goes x = record {
  opaque = x.opaque;
  small = x.small;
  until = x.until;
  first = x.first;
  over = x.over;
  ended = x.ended;
  gives = x.gives;
  shows = x.shows;
  put_place = x.put_place;
  none_unread = x.none_unread;
  fits = x.fits;
  next_in = x.next_in;
  started = x.started;
  begun = by g.last x.begun;
  opens = λ e. (goes e g (x.opens e)).0;
}
  where
    by : (last : Option Begun) → BegunIs g s.held last stream → BegunIs g s'.held last stream
    by None b = b
    by (Some begun) b = (
      b.0,
      b.1,
      b.2,
      held_on begun g.turned refl b.3,
      b.4,
    )
      where
        held_on : (begun : Begun) (t : Bool) → g.turned ≡ t → All (IsSentOf g begun (if t then g.left else s.held)) stream.items → All (IsSentOf g begun (if t then g.left else s'.held)) stream.items
        held_on begun true e all = all
        held_on begun false stays all =
            let e : stream.ended ≡ false = x.ended ∙ stays in
            All-weaker (IsSentOf g begun s.held) (IsSentOf g begun s'.held) (λ y sent. sent_more g begun s.held s'.held (goes e g (x.opens e)).1 y sent) stream.items all

pub kept_over : (s s' : Spot) (closed : Bool) (known : Option ClientStream) (kept : Option PlainStream) → ((stream : PlainStream) → kept ≡ Some stream → stream.ended ≡ false → GoesOver s s' stream.id)
    → KeptIs s.tree s.on s.held s.pv closed known kept → KeptIs s'.tree s'.on s'.held s'.pv closed known kept
kept_over s s' closed None None goes x = tt
kept_over s s' closed (Some g) None goes x = x
kept_over s s' closed None (Some stream) goes x = absurd x
kept_over s s' closed (Some g) (Some stream) goes x = (x.0, stream_over s s' g stream (goes stream refl) x.1)

-- what is known of its bytes is the same
heard_over : (known known' : ClientKnown) (client : PlainClient) → known' ≡ known → HeardIs known client.session client.producer.handshake → HeardIs known' client.session client.producer.handshake
heard_over known known' client same h = record {
  served = h.served;
  front = h.front;
  bytes = ap (λ (k : ClientKnown). k.bytes) same ∙ h.bytes;
  frames = h.frames;
  none = h.none;
  sets = ap (λ (k : ClientKnown). setup_after k.setup h.served) same ∙ h.sets;
}

-- a connection of which as much is known agrees as before, where each of its open streams goes over
pub agrees_over : (w w' : PlainWorld) (r r' : Chronicle) (n c : ℕ) (client : PlainClient) → r'.clients_at n c ≡ r.clients_at n c
    → ((v id : ℕ) → HasOpen v id client.producer.streams → GoesOver (spot_at w r n v) (spot_at w' r' n v) id) → ClientAgrees w r n c client → ClientAgrees w' r' n c client
unfolding heard_over
agrees_over w w' r r' n c client same goes a = record {
  conn = a.conn;
  alive = a.alive;
  kept = a.kept;
  one = a.one;
  opened = a.opened;
  asked = a.asked ∙ ap (λ (k : ClientKnown). k.opened) (sym same);
  silent = ap (λ (k : ClientKnown). k.told) same ∙ a.silent;
  heard = heard_over (r.clients_at n c) (r'.clients_at n c) client same a.heard;
  asks = subst (λ (k : ClientKnown). AskingIs k.asking client.session client.producer.handshake) (sym same) a.asks;
  flow = subst (λ (k : ClientKnown). FlowIs k.flow client.session client.producer.handshake client.producer.window) (sym same) a.flow;
  streams = λ v.
      let s = spot_at w r n v in let s' = spot_at w' r' n v in let kept = kept_at v client.producer.streams in
      subst (λ (k : ClientKnown). KeptIs s'.tree s'.on s'.held s'.pv (is_closed_by a.heard.served v) (k.streams v) kept) (sym same)
      (kept_over s s' (is_closed_by a.heard.served v) ((r.clients_at n c).streams v) kept (λ stream found e. goes v stream.id (found_open v client.producer.streams stream found e)) (a.streams v));
}

-- ---- what a step leaves of an open stream

-- where nothing changed
pub goes_same : (s s' : Spot) (id : ℕ) → s' ≡ s → GoesOver s s' id
goes_same s s' id same g x = (subst (λ t. OpensAt t g id) (sym same) x, λ c i. subst (λ (t : Spot). IsIn c t.held) (sym same) i)

-- at a vBucket that is not there, or that takes no writes, no stream of a client is open
pub goes_absent : (s s' : Spot) (id : ℕ) → s.pv ≡ None → GoesOver s s' id
goes_absent s s' id none g x = let z : Some x.vb ≡ None = sym x.there ∙ none in cc

pub goes_follower : (s s' : Spot) (id : ℕ) (vb : Plain) → s.pv ≡ Some vb → is_active vb.role ≡ false → GoesOver s s' id
goes_follower s s' id vb there quiet g x =
    let is : Some x.vb ≡ Some vb = sym x.there ∙ there in let same : x.vb ≡ vb = cc in
    let z : true ≡ false = sym x.active ∙ ap (λ (p : Plain). is_active p.role) same ∙ quiet in cc

-- the stream of this number stands as before at a vBucket that takes writes as before
pub record StandsStill (id : ℕ) (vb vb' : Plain) : Type 0 where
  pub active : is_active vb'.role ≡ is_active vb.role
  pub stream : stream_at id vb'.streams ≡ stream_at id vb.streams
  pub at : vb.position.at ≤ vb'.position.at

-- so it goes on on its branch, where nothing that it is shown is new up to its place
pub goes_by : (s s' : Spot) (id : ℕ) (vb vb' : Plain) → s.pv ≡ Some vb → s'.pv ≡ Some vb' → StandsStill id vb vb' → s'.on ≡ s.on → AllIn s.held s'.held
    → ((g : ClientStream) (at : ℕ) → s.on ≡ Some g.branch → at ≤ vb.position.at → PlaceIs g.sync (stream_view s.tree g) g.place at → PlaceIs g.sync (stream_view s'.tree g) g.place at) → GoesOver s s' id
goes_by s s' id vb vb' there there' still on more places g x =
    let is : Some x.vb ≡ Some vb = sym x.there ∙ there in let own : x.vb ≡ vb = cc in
    let low : x.stream.place ≤ vb.position.at = subst (λ (p : Plain). x.stream.place ≤ p.position.at) own x.low in (
      record {
        vb = vb';
        there = there';
        active = still.active ∙ ap (λ (p : Plain). is_active p.role) (sym own) ∙ x.active;
        branch = on ∙ x.branch;
        stream = x.stream;
        opened = still.stream ∙ ap (λ (p : Plain). stream_at id p.streams) (sym own) ∙ x.opened;
        ask = x.ask;
        sync = x.sync;
        taken = x.taken;
        place = places g x.stream.place x.branch low x.place;
        low = let m : vb.position.at ≤ vb'.position.at = still.at in omega (arith, low, m);
      },
      more,
    )

-- its branch has the changes that it had
pub goes_still : (s s' : Spot) (id : ℕ) (vb vb' : Plain) → s.pv ≡ Some vb → s'.pv ≡ Some vb' → StandsStill id vb vb' → s'.on ≡ s.on → AllIn s.held s'.held → ((u : ℕ) → s.on ≡ Some u → hist s'.tree u ≡ hist s.tree u) → GoesOver s s' id
goes_still s s' id vb vb' there there' still on more same = goes_by s s' id vb vb' there there' still on more
    (λ g at is low x. subst (λ h. PlaceIs g.sync h g.place at) (ap (view g.sync) (sym (same g.branch is))) x)

-- whatever its other streams are
pub streams_stand : (id k : ℕ) (vb vb' : Plain) → StreamsChanged id vb vb' → (k ≡ id → ⊥) → StandsStill k vb vb'
streams_stand id k vb vb' changed ne = record {
  active = ap (λ (p : Plain). is_active p.role) changed.alone;
  stream = changed.others k ne;
  at = let e : vb'.position.at ≡ vb.position.at = ap (λ (p : Plain). p.position.at) changed.alone in omega (arith, e);
}

-- ---- whose streams are open

-- an open stream is one of the streams
open_among : (v id : ℕ) (streams : List PlainStream) → HasOpen v id streams → (t : PlainStream) × Among t streams × IsOpenAt v id t
open_among v id [] h = absurd h
open_among v id (s ∷ more) (inl o) = (s, inl refl, o)
open_among v id (s ∷ more) (inr j) = let (t, i, o) = open_among v id more j in (t, inr i, o)

-- an open stream of a connection is known, and open at its vBucket
pub open_known : (w : PlainWorld) (r : Chronicle) (n c : ℕ) (client : PlainClient) → ClientAgrees w r n c client → (v id : ℕ) → HasOpen v id client.producer.streams
    → (g : ClientStream) × ((r.clients_at n c).streams v ≡ Some g) × OpensAt (spot_at w r n v) g id
open_known w r n c client a v id has =
    let (t, i, o) = open_among v id client.producer.streams has in
    let found : kept_at v client.producer.streams ≡ Some t = ap (λ k. kept_at k client.producer.streams) (sym o.0) ∙ a.one t i in
    let s = spot_at w r n v in
    by t o ((r.clients_at n c).streams v) (subst (λ k. KeptIs s.tree s.on s.held s.pv (is_closed_by a.heard.served v) ((r.clients_at n c).streams v) k) found (a.streams v))
  where
    by : (t : PlainStream) → IsOpenAt v id t → (known : Option ClientStream) → KeptIs r.tree (r.branch_at n v) (r.held n v) (vb_of w n v) (is_closed_by a.heard.served v) known (Some t)
        → (g : ClientStream) × (known ≡ Some g) × OpensAt (spot_at w r n v) g id
    by t o None x = absurd x
    by t o (Some g) x = (g, refl, subst (OpensAt (spot_at w r n v) g) o.1 (x.1.opens o.2))

-- no stream of this number is open at a vBucket, where there is one
abbrev pub IsFree : ℕ → Option Plain → Type 0
IsFree id None = Unit {0}
IsFree id (Some vb) = stream_at id vb.streams ≡ None

-- each stream that somebody has open is open at its vBucket
abbrev pub FedAreThere : PlainWorld → Type 0
FedAreThere w = (who : StreamName) (n v id : ℕ) → HasFed w who n v id → IsFree id (vb_of w n v) → ⊥

-- what is open is not free
open_unfree : (s : Spot) (g : ClientStream) (id : ℕ) → OpensAt s g id → IsFree id s.pv → ⊥
open_unfree s g id x free = let q : stream_at id x.vb.streams ≡ None = subst (IsFree id) x.there free in let z : Some x.stream ≡ None = sym x.opened ∙ q in cc

-- so it is with clients' streams; those of links are given
pub fed_there : (w : PlainWorld) (r : Chronicle) → ClientsTold w r → ((l n v id : ℕ) → HasFed w (name.Link l) n v id → IsFree id (vb_of w n v) → ⊥) → FedAreThere w
fed_there w r told links (name.Link l) n v id has free = links l n v id has free
fed_there w r told links (name.Client m c) n v id (own, (client, there, has)) free =
    let (g, is, opens) = open_known w r n c client (told.each n c client there) v id has in open_unfree (spot_at w r n v) g id opens free

-- each stream that somebody has open he had before, or it is of this name, under a number that was free
abbrev pub FewNew : StreamName → PlainWorld → PlainWorld → Type 0
FewNew one w w' = (who : StreamName) (n v id : ℕ) → HasFed w' who n v id → HasFed w who n v id ⊎ ((who ≡ one) × IsFree id (vb_of w n v))

pub apart_over : (one : StreamName) (w w' : PlainWorld) → FedAreThere w → FewNew one w w' → ClientsApart w → ClientsApart w'
apart_over one w w' there new a n c v id who has other = by (new (name.Client n c) n v id has) (new who n v id other)
  where
    Before : StreamName → Type 0
    Before x = HasFed w x n v id ⊎ ((x ≡ one) × IsFree id (vb_of w n v))

    by : Before (name.Client n c) → Before who → who ≡ name.Client n c
    by (inl x) (inl y) = a n c v id who x y
    by (inl x) (inr y) = absurd (there (name.Client n c) n v id x y.1)
    by (inr x) (inl y) = absurd (there who n v id y x.1)
    by (inr x) (inr y) = y.0 ∙ sym x.0

-- ---- all connections

-- what a step leaves of these connections
pub record ConnsKept (Left : ℕ → ℕ → Type 0) (w w' : PlainWorld) (r r' : Chronicle) : Type 0 where
  pub conns : (n c : ℕ) → Left n c → client_in (w'.nodes n) c ≡ client_in (w.nodes n) c
  pub known : (n c : ℕ) → Left n c → r'.clients_at n c ≡ r.clients_at n c
  pub opens : (n c v id : ℕ) → Left n c → IsOfClient w n c v id → GoesOver (spot_at w r n v) (spot_at w' r' n v) id

module _ (Left : ℕ → ℕ → Type 0) (w w' : PlainWorld) (r r' : Chronicle) (told : ClientsTold w r) (kept : ConnsKept Left w w' r r') where
  pub agrees_kept : (n c : ℕ) (client : PlainClient) → Left n c → client_in (w'.nodes n) c ≡ Some client → ClientAgrees w' r' n c client
  agrees_kept n c client left is =
      let was : client_in (w.nodes n) c ≡ Some client = sym (kept.conns n c left) ∙ is in
      agrees_over w w' r r' n c client (kept.known n c left) (λ v id has. kept.opens n c v id left (client, was, has)) (told.each n c client was)

  -- they have the streams that they had
  pub had_before : (m c n v id : ℕ) → Left n c → HasFed w' (name.Client m c) n v id → HasFed w (name.Client m c) n v id
  had_before m c n v id left (own, (client, is, has)) = (own, (client, sym (kept.conns n c left) ∙ is, has))

-- every connection is left alone
abbrev pub Every : ℕ → ℕ → Type 0
Every n c = Unit {0}

-- every one but the client c of the node n
abbrev pub AllBut : ℕ → ℕ → ℕ → ℕ → Type 0
AllBut n c m d = m ≡ n → d ≡ c → ⊥

-- a step that leaves all of them alone; a link may have new streams
pub clients_kept : (w w' : PlainWorld) (r r' : Chronicle) (l : ℕ) → ClientsTold w r → FedAreThere w → ConnsKept Every w w' r r'
    → ((k n v id : ℕ) → HasFed w' (name.Link k) n v id → HasFed w (name.Link k) n v id ⊎ ((k ≡ l) × IsFree id (vb_of w n v))) → Owed w' r' → ClientsTold w' r'
clients_kept w w' r r' l told there kept links owed = record {
  each = λ n c client is. agrees_kept Every w w' r r' told kept n c client tt is;
  apart = apart_over (name.Link l) w w' there new told.apart;
  owed = owed;
}
  where
    new : FewNew (name.Link l) w w'
    new (name.Link k) n v id has = ⊎_elim (λ x. inl x) (λ x. inr (ap (λ j. name.Link j) x.0, x.1)) (links k n v id has)
    new (name.Client m c) n v id has = inl (had_before Every w w' r r' told kept m c n v id tt has)

-- a step of the client c of the node n, which leaves the others alone; it may have new streams
pub clients_one : (w w' : PlainWorld) (r r' : Chronicle) (n c : ℕ) → ClientsTold w r → FedAreThere w → ConnsKept (AllBut n c) w w' r r' → ((l m v id : ℕ) → HasFed w' (name.Link l) m v id → HasFed w (name.Link l) m v id)
    → ((client : PlainClient) → client_in (w'.nodes n) c ≡ Some client → ClientAgrees w' r' n c client) → ((v id : ℕ) → IsOfClient w' n c v id → IsOfClient w n c v id ⊎ IsFree id (vb_of w n v)) → Owed w' r' → ClientsTold w' r'
clients_one w w' r r' n c told there kept links own few owed = record {
  each = λ m d client is. ⊎_elim (λ s. subst (λ k. ClientAgrees w' r' k d client) (sym s.0) (subst (λ k. ClientAgrees w' r' n k client) (sym s.1) (own client (ap (λ k. client_in (w'.nodes k) c) (sym s.0) ∙ ap (client_in (w'.nodes m)) (sym s.1) ∙ is))))
      (λ o. agrees_kept (AllBut n c) w w' r r' told kept m d client o is) (is_it m d);
  apart = apart_over (name.Client n c) w w' there new told.apart;
  owed = owed;
}
  where
    is_it : (m d : ℕ) → ((m ≡ n) × (d ≡ c)) ⊎ AllBut n c m d
    is_it m d = ⊎_elim (λ e. ⊎_elim (λ f. inl (e, f)) (λ ne. inr (λ s t. ne t)) (cases_eq d c)) (λ ne. inr (λ s t. ne s)) (cases_eq m n)

    Before : StreamName → ℕ → ℕ → ℕ → Type 0
    Before who m v id = HasFed w who m v id ⊎ ((who ≡ name.Client n c) × IsFree id (vb_of w m v))

    mine : (m v id : ℕ) → m ≡ n → IsOfClient w' m c v id → Before (name.Client m c) m v id
    mine m v id s has = subst (λ k. IsOfClient w' k c v id → Before (name.Client k c) k v id) (sym s) (λ h. ⊎_elim (λ x. inl (refl, x)) (λ x. inr (refl, x)) (few v id h)) has

    new : FewNew (name.Client n c) w w'
    new (name.Link k) m v id has = inl (links k m v id has)
    new (name.Client k d) m v id has = ⊎_elim
        (λ s. subst (λ j. Before (name.Client j d) m v id) (sym has.0) (subst (λ j. Before (name.Client m j) m v id) (sym s.1) (mine m v id s.0 (subst (λ j. IsOfClient w' m j v id) s.1 has.1))))
        (λ o. inl (had_before (AllBut n c) w w' r r' told kept k d m v id o has)) (is_it m d)

-- a node has no clients any more, and those of other nodes are left alone
abbrev pub OfOthers : ℕ → ℕ → ℕ → Type 0
OfOthers n m c = m ≡ n → ⊥

pub clients_gone : (w w' : PlainWorld) (r r' : Chronicle) (n : ℕ) → ClientsTold w r → FedAreThere w → ConnsKept (OfOthers n) w w' r r' → ((c : ℕ) → client_in (w'.nodes n) c ≡ None)
    → ((l m v id : ℕ) → HasFed w' (name.Link l) m v id → HasFed w (name.Link l) m v id) → Owed w' r' → ClientsTold w' r'
clients_gone w w' r r' n told there kept none links owed = record {
  each = λ m c client is. agrees_kept (OfOthers n) w w' r r' told kept m c client (off m c client is) is;
  apart = apart_over (name.Link 0) w w' there new told.apart;
  owed = owed;
}
  where
    off : (m c : ℕ) (client : PlainClient) → client_in (w'.nodes m) c ≡ Some client → m ≡ n → ⊥
    off m c client is e = let z : Some client ≡ None = sym is ∙ ap (λ k. client_in (w'.nodes k) c) e ∙ none c in cc

    new : FewNew (name.Link 0) w w'
    new (name.Link k) m v id has = inl (links k m v id has)
    new (name.Client k c) m v id has = let (client, is, opens) = has.1 in inl (had_before (OfOthers n) w w' r r' told kept k c m v id (off m c client is) has)

-- ---- what is owed to them

-- where no vBucket owes more, and as much is known of the last line
pub every_owed : (w w' : PlainWorld) (r r' : Chronicle) → ConnsKept Every w w' r r' → Later r r' → ((n v : ℕ) → Fewer (vb_of w n v) (vb_of w' n v)) → Owed w r → Owed w' r'
every_owed w w' r r' kept last fewer = owed_kept w w' r r' (record {
  later = last;
  fewer = fewer;
  conns = λ n c client' is. (client', sym (kept.conns n c tt) ∙ is, refl, ap (λ (k : ClientKnown). k.asking) (kept.known n c tt));
})

-- also where a node has no clients any more
pub others_owed : (w w' : PlainWorld) (r r' : Chronicle) (n : ℕ) → ConnsKept (OfOthers n) w w' r r' → ((c : ℕ) → client_in (w'.nodes n) c ≡ None) → Later r r' → ((m v : ℕ) → Fewer (vb_of w m v) (vb_of w' m v)) → Owed w r → Owed w' r'
others_owed w w' r r' n kept none last fewer = owed_kept w w' r r' (record {
  later = last;
  fewer = fewer;
  conns = λ m c client' is. let ne = off m c client' is in (client', sym (kept.conns m c ne) ∙ is, refl, ap (λ (k : ClientKnown). k.asking) (kept.known m c ne));
})
  where
    off : (m c : ℕ) (client : PlainClient) → client_in (w'.nodes m) c ≡ Some client → m ≡ n → ⊥
    off m c client is e = let z : Some client ≡ None = sym is ∙ ap (λ k. client_in (w'.nodes k) c) e ∙ none c in cc

-- where one vBucket alone is another one, which owes no more
pub fewer_at : (w w' : PlainWorld) (n v : ℕ) → ((m q : ℕ) → (m ≡ n → q ≡ v → ⊥) → vb_of w' m q ≡ vb_of w m q) → Fewer (vb_of w n v) (vb_of w' n v) → (m q : ℕ) → Fewer (vb_of w m q) (vb_of w' m q)
fewer_at w w' n v there here m q = ⊎_elim
    (λ e. ⊎_elim
    (λ f. subst (λ k. Fewer (vb_of w k q) (vb_of w' k q)) (sym e) (subst (λ k. Fewer (vb_of w n k) (vb_of w' n k)) (sym f) here))
    (λ ne. fewer_same (vb_of w m q) (vb_of w' m q) (there m q (λ s t. ne t))) (cases_eq q v))
    (λ ne. fewer_same (vb_of w m q) (vb_of w' m q) (there m q (λ s t. ne s))) (cases_eq m n)

-- it is this one then
pub fewer_now : (w w' : PlainWorld) (n v : ℕ) (vb vb' : Plain) → vb_of w n v ≡ Some vb → vb_of w' n v ≡ Some vb' → Fewer (Some vb) (Some vb') → Fewer (vb_of w n v) (vb_of w' n v)
fewer_now w w' n v vb vb' there there' fewer = subst (λ o. Fewer o (vb_of w' n v)) (sym there) (subst (Fewer (Some vb)) (sym there') fewer)

-- other streams of it do not matter
pub fewer_streams : (id : ℕ) (vb vb' : Plain) → StreamsChanged id vb vb' → Fewer (Some vb) (Some vb')
fewer_streams id vb vb' changed = subst (λ k. Fewer (Some vb) (Some k)) (sym changed.alone) (fewer_some vb (record vb { streams = vb'.streams }) (λ x p some o. record { among = o.among; entry = o.entry; same = o.same }))

-- ---- steps at one vBucket

-- all but the vBucket v of the node n is as it was, and what is told of it
pub record OnlyAt (Left : ℕ → ℕ → Type 0) (w w' : PlainWorld) (r r' : Chronicle) (n v : ℕ) : Type 0 where
  pub conns : (m c : ℕ) → Left m c → client_in (w'.nodes m) c ≡ client_in (w.nodes m) c
  pub known : (m c : ℕ) → Left m c → r'.clients_at m c ≡ r.clients_at m c
  pub tree : r'.tree ≡ r.tree
  pub rows : (m q : ℕ) → (m ≡ n → q ≡ v → ⊥) → vb_row r' m q ≡ vb_row r m q
  pub vbs : (m q : ℕ) → (m ≡ n → q ≡ v → ⊥) → vb_of w' m q ≡ vb_of w m q

-- a spot of which as much is told, with the same vBucket
pub spot_same : (w w' : PlainWorld) (r r' : Chronicle) (n v : ℕ) → r'.tree ≡ r.tree → vb_row r' n v ≡ vb_row r n v → vb_of w' n v ≡ vb_of w n v → spot_at w' r' n v ≡ spot_at w r n v
spot_same w w' r r' n v tree row vb = λ i. record { tree = tree i; on = (row i).contents.branch; held = (row i).contents.held; pv = vb i }

-- at that vBucket each open stream of theirs goes over too
pub only_kept : (Left : ℕ → ℕ → Type 0) (w w' : PlainWorld) (r r' : Chronicle) (n v : ℕ) → OnlyAt Left w w' r r' n v
    → ((c id : ℕ) → Left n c → IsOfClient w n c v id → GoesOver (spot_at w r n v) (spot_at w' r' n v) id) → ConnsKept Left w w' r r'
only_kept Left w w' r r' n v only here = record {
  conns = only.conns;
  known = only.known;
  opens = λ m c q id left has. ⊎_elim
      (λ s. subst (λ k. Left k c → IsOfClient w k c q id → GoesOver (spot_at w r k q) (spot_at w' r' k q) id) (sym s.0)
      (subst (λ k. Left n c → IsOfClient w n c k id → GoesOver (spot_at w r n k) (spot_at w' r' n k) id) (sym s.1) (here c id)) left has)
      (λ o. goes_same (spot_at w r m q) (spot_at w' r' m q) id (spot_same w w' r r' m q only.tree (only.rows m q o) (only.vbs m q o)))
      (is_it m q);
}
  where
    is_it : (m q : ℕ) → ((m ≡ n) × (q ≡ v)) ⊎ (m ≡ n → q ≡ v → ⊥)
    is_it m q = ⊎_elim (λ e. ⊎_elim (λ f. inl (e, f)) (λ ne. inr (λ s t. ne t)) (cases_eq q v)) (λ ne. inr (λ s t. ne s)) (cases_eq m n)

-- its streams changed at one number alone, which is none of theirs
pub streams_kept : (Left : ℕ → ℕ → Type 0) (w w' : PlainWorld) (r r' : Chronicle) (n v id : ℕ) (vb vb' : Plain) → OnlyAt Left w w' r r' n v → vb_of w n v ≡ Some vb → vb_of w' n v ≡ Some vb' → StreamsChanged id vb vb'
    → vb_row r' n v ≡ vb_row r n v → ((c : ℕ) → Left n c → IsOfClient w n c v id → ⊥) → ConnsKept Left w w' r r'
streams_kept Left w w' r r' n v id vb vb' only there there' changed row none = only_kept Left w w' r r' n v only (λ c k left has.
    goes_still (spot_at w r n v) (spot_at w' r' n v) k vb vb' there there' (streams_stand id k vb vb' changed (λ e. none c left (subst (IsOfClient w n c v) e has)))
    (ap (λ (t : VbRow). t.contents.branch) row) (λ x i. subst (λ (t : VbRow). IsIn x t.contents.held) (sym row) i) (λ u on. ap (λ t. hist t u) only.tree))

-- a number that is free is no client's
pub free_none : (w : PlainWorld) → FedAreThere w → (n v id : ℕ) → IsFree id (vb_of w n v) → (c : ℕ) → IsOfClient w n c v id → ⊥
free_none w there n v id free c has = there (name.Client n c) n v id (refl, has) free

-- nor is one that somebody else has
client_of : StreamName → ℕ
client_of (name.Link l) = l
client_of (name.Client n c) = c

pub link_none : (w : PlainWorld) → ClientsApart w → (l n v id : ℕ) → HasFed w (name.Link l) n v id → (c : ℕ) → IsOfClient w n c v id → ⊥
link_none w apart l n v id has c own = let z : name.Link l ≡ name.Client n c = apart n c v id (name.Link l) (refl, own) has in cc

pub other_none : (w : PlainWorld) → ClientsApart w → (n c v id : ℕ) → IsOfClient w n c v id → (d : ℕ) → AllBut n c n d → IsOfClient w n d v id → ⊥
unfolding client_of
other_none w apart n c v id has d other own = other refl (sym (ap client_of (apart n d v id (name.Client n c) (refl, own) (refl, has))))

-- ---- in terms of the steps of links

-- a world with another vBucket v at the node n, where the lines tell of no other vBucket and of no client
pub changed_only : (w w' : PlainWorld) (r r' : Chronicle) (n v : ℕ) (vb : Plain) (links : List PlainLink) → Changed w w' n v vb links → ((m c : ℕ) → r'.clients_at m c ≡ r.clients_at m c) → r'.tree ≡ r.tree
    → ((m q : ℕ) → (m ≡ n → q ≡ v → ⊥) → vb_row r' m q ≡ vb_row r m q) → OnlyAt Every w w' r r' n v
changed_only w w' r r' n v vb links became known tree rows = record {
  conns = λ m c left. same_clients w w' became.powers m c;
  known = λ m c left. known m c;
  tree = tree;
  rows = rows;
  vbs = became.there;
}

-- a world in which nothing changed that clients speak of
pub all_kept : (w w' : PlainWorld) (r r' : Chronicle) → SameClients w w' → ((m c : ℕ) → r'.clients_at m c ≡ r.clients_at m c) → r'.tree ≡ r.tree
    → ((n v : ℕ) → vb_row r' n v ≡ vb_row r n v) → ((n v : ℕ) → vb_of w' n v ≡ vb_of w n v) → ConnsKept Every w w' r r'
all_kept w w' r r' same known tree rows vbs = record {
  conns = λ n c left. same n c;
  known = λ n c left. known n c;
  opens = λ n c v id left has. goes_same (spot_at w r n v) (spot_at w' r' n v) id (spot_same w w' r r' n v tree (rows n v) (vbs n v));
}

-- ---- where the vBuckets agree before and after

-- a vBucket that stands still, whose member is on the branch that it was on and has all that it had
pub goes_agreed : (w w' : PlainWorld) (r r' : Chronicle) (n v id : ℕ) (m m' : Member) (vb vb' : Plain) → vb_of w n v ≡ Some vb → vb_of w' n v ≡ Some vb' → StandsStill id vb vb' → VbAgrees r n v m vb → VbAgrees r' n v m' vb'
    → m'.br ≡ m.br → AllIn m.held m'.held → (Writes r n v m.br → hist r'.tree m.br ≡ hist r.tree m.br) → GoesOver (spot_at w r n v) (spot_at w' r' n v) id
goes_agreed w w' r r' n v id m m' vb vb' there there' still a a' br more same = by (is_active vb.role) refl
  where
    by : (b : Bool) → is_active vb.role ≡ b → GoesOver (spot_at w r n v) (spot_at w' r' n v) id
    by false e = goes_follower (spot_at w r n v) (spot_at w' r' n v) id vb there e
    by true e =
        let before : Writes r n v m.br = subst (λ b. WritesIf b r n v m.br) e a.writes in
        let after : Writes r' n v m'.br = subst (λ b. WritesIf b r' n v m'.br) (still.active ∙ e) a'.writes in
        goes_still (spot_at w r n v) (spot_at w' r' n v) id vb vb' there there' still (after.branch ∙ ap Some br ∙ sym before.branch)
        (λ x i. subst (IsIn x) (sym a'.held) (more x (subst (IsIn x) a.held i)))
        (λ u on. let z : Some m.br ≡ Some u = sym before.branch ∙ on in let q : m.br ≡ u = cc in subst (λ k. hist r'.tree k ≡ hist r.tree k) q (same before))

-- what stands is the same
pub stand_same : (id : ℕ) (vb : Plain) → StandsStill id vb vb
stand_same id vb = record { active = refl; stream = refl; at = omega arith }

-- so it is of one that is as it was
pub goes_agreed_at : (w w' : PlainWorld) (r r' : Chronicle) (n v id : ℕ) (m m' : Member) (o : Option Plain) → vb_of w n v ≡ o → vb_of w' n v ≡ o → AgreesAt r n v m o → AgreesAt r' n v m' o
    → m'.br ≡ m.br → AllIn m.held m'.held → (Writes r n v m.br → hist r'.tree m.br ≡ hist r.tree m.br) → GoesOver (spot_at w r n v) (spot_at w' r' n v) id
goes_agreed_at w w' r r' n v id m m' None there there' a a' br more same = goes_absent (spot_at w r n v) (spot_at w' r' n v) id there
goes_agreed_at w w' r r' n v id m m' (Some vb) there there' a a' br more same = goes_agreed w w' r r' n v id m m' vb vb there there' (stand_same id vb) a a' br more same
