-- in front of a pump a vBucket is given up: what becomes of the other links
use Rattle.std.specs.Prelude.{◌≡◌, ◌∷◌, ◌++◌, ◌==◌, ◌&&◌, ◌||◌, if◌then◌else◌}
use Rattle.std.specs.List.{All, list_any}
use Rattle.transcript_law.proofs.Words.{ℕ, Bool, true, false, List, [], map, refl, ap, sym, ◌∙◌, subst, inl, inr, ⊎_elim, eqb-true, eqb-false, eq-eqb, ne_eqb, and_parts, list_any-append, Some, All-head, All-tail, All-weaker, Chronicle, Cluster, Event, Plain, PlainLink, PlainStream, PlainWorld, Role, Stream, StreamName}
use Rattle.transcript_law.proofs.Words.{ended_in, link_ended, link_number, links_ended, producer_node, row_at, row_put, stream_at, without_stream}
use Rattle.transcript_law.proofs.Words.{All-cons, All-nil, Granted, Option, after_lines, after_role, stream_branch}
use Rattle.transcript_law.proofs.{invariant.Noted.{KeptFor, KeptLink}, lines.ClientLines.{AreOfClients, kept_beside}, links.PumpWorlds.{kept_as}}
use Rattle.dcp_producer.specs.Ending.{ended_by}
use Rattle.transcript_law.proofs.invariant.{Agreement.{Agrees, AgreesIn, Differ, IsLink, idle, vb_of}, Carried.{stream_opened}, ClientsTurned.{id_listed}, LinkRows.{found_is_link, links_apart, put_links}}
use Rattle.transcript_law.proofs.{links.Cutting.{closed_others}, links.Turning.{told_is_link}, links.Yields.{over_by}, verbs.Giving.{IsDueAt}}
use Rattle.transcript_law.proofs.noted.{Groups.{dial_at}, Known.{Remains, StreamsOn}, Roles.{Serves, Turns, link_serves}, Staying.{streams_same}}
use Rattle.transcript_law.specs.{Feeding.{HasOpen}, Heirs.{IsWriter}, LinesTold.{Dial}, TakeoverNotes.{is_grant_of, is_role_of, turns_feeder}, Tellings.{are_all, is_of_clients, is_of_pump}}

-- another link, of which the open streams of the vBucket that was given up ended, by these lines
pub record YieldBeside (lines : List Event) (y x : PlainLink) : Type 0 where
  pub node : ℕ
  pub vb : ℕ
  pub told : List Event
  pub ids : List ℕ
  pub together : lines ≡ Event.Role node vb Role.Dead ∷ told
  pub clients : are_all (is_of_clients node) told ≡ true
  pub lines_of : AreOfClients told
  pub ended : x ≡ link_ended node vb ids y
  pub listed : (id : ℕ) → HasOpen vb id y.server.streams → producer_node y ≡ node → list_any (λ i. i == id) ids ≡ true

-- a link keeps its number
keeps_number : (n v : ℕ) (ids : List ℕ) (x : PlainLink) → link_number (link_ended n v ids x) ≡ link_number x
keeps_number n v ids x = by (producer_node x == n)
  where
    by : (b : Bool) → link_number (if b then record x { server = ended_by v ids x.server } else x) ≡ link_number x
    by true = refl
    by false = refl

module _ (w : PlainWorld) (r : Chronicle) (l : ℕ) (link : PlainLink) (found : row_at link_number l w.links ≡ Some link) (a : Agrees w r) (t : PlainStream) (p : Plain) (o : Stream) (frames : ℕ) (d : IsDueAt w link t p o frames) where
  open link.consumer.dialed use {vb}

  abbrev n : ℕ
  n = producer_node link

  abbrev is_link : IsLink link w.links × (link_number link ≡ l)
  is_link = found_is_link l w.links link found

  own_stream : HasOpen vb t.id link.server.streams
  own_stream = subst (HasOpen vb t.id) (sym d.one) (inl (d.vb_is, refl, d.going))

  -- no other link has the stream that goes on
  listed : (x : PlainLink) → IsLink x w.links → (link_number x ≡ l → ⊥) → (id : ℕ) → HasOpen vb id x.server.streams → producer_node x ≡ n → list_any (λ i. i == id) (over_by p o) ≡ true
  listed x i ne id has at =
      let (pv, there, follows, s, at_id, on) = stream_opened w r a.0 x [] [] (a.1.links x i) vb id has in
      let is : Some pv ≡ Some p = sym there ∙ ap (λ m. vb_of w m x.consumer.dialed.vb) at ∙ ap (vb_of w n) on ∙ d.there in let one : pv ≡ p = cc in
      let apart : Differ link x = links_apart link x w.links a.1.differ is_link.0 i (λ e. ne (sym e ∙ is_link.1)) in
      let other : id ≡ t.id → ⊥ = λ e. apart.stream vb t.id own_stream (subst (λ j. HasOpen vb j x.server.streams) e has) (sym at) in
      id_listed id (without_stream o.id p.streams) s (closed_others o.id id p.streams (λ q. other (q ∙ d.numbered)) ∙ subst (λ (z : Plain). stream_at id z.streams ≡ Some s) one at_id)

  pub yields_beside : (told : List Event) → are_all (is_of_clients n) told ≡ true → AreOfClients told → (link' : PlainLink) → link_number link' ≡ l → (x : PlainLink) → IsLink x (links_ended n vb (over_by p o) (row_put link_number l link' w.links)) → (link_number x ≡ l → ⊥)
      → (y : PlainLink) × IsLink y w.links × YieldBeside (Event.Role n vb Role.Dead ∷ told) y x
  yields_beside told clients lines_of link' number x i ne =
      let (y, j, e) = told_is_link n vb (over_by p o) (row_put link_number l link' w.links) x i in
      let same : link_number x ≡ link_number y = ap link_number e ∙ keeps_number n vb (over_by p o) y in
      ⊎_elim
      (λ is. absurd (ne (same ∙ ap link_number is ∙ number)))
      (λ k. (y, k.0, record { node = n; vb = vb; told = told; ids = over_by p o; together = refl; clients = clients; lines_of = lines_of; ended = e; listed = listed y k.0 k.1 }))
      (put_links l w.links link link' y a.1.differ found number j)

-- ---- what is known of them

or_none : (a : Bool) → (a || false) ≡ a
or_none true = refl
or_none false = refl

or_true : (a : Bool) → (a || true) ≡ true
or_true true = refl
or_true false = refl

-- one stream, at the node whose vBucket was given up
ended_as : (v u : ℕ) (ids : List ℕ) (s : PlainStream) → s.vb ≡ u → (s.vb ≡ v → s.ended ≡ false → list_any (λ i. i == s.id) ids ≡ true) → (ended_in v ids s).ended ≡ (s.ended || (v == u))
ended_as v u ids s at open_listed = by (s.vb == v) (list_any (λ i. i == s.id) ids) refl refl
  where
    here : s.vb ≡ v → (v == u) ≡ true
    here e = eq-eqb v u (sym e ∙ at)

    before : (b : Bool) → s.ended ≡ b → s.vb ≡ v → list_any (λ i. i == s.id) ids ≡ false → s.ended ≡ true
    before true t e none = t
    before false t e none = let z : false ≡ true = sym none ∙ open_listed e t in cc

    by : (a b : Bool) → (s.vb == v) ≡ a → list_any (λ i. i == s.id) ids ≡ b → (if a && b then record s { ended = true } else s).ended ≡ (s.ended || (v == u))
    by true true e f = sym (or_true s.ended) ∙ ap (λ b. s.ended || b) (sym (here (eqb-true s.vb v e)))
    by true false e f = let was = before s.ended refl (eqb-true s.vb v e) f in was ∙ ap (λ b. b || (v == u)) (sym was)
    by false b e f = sym (or_none s.ended) ∙ ap (λ b. s.ended || b) (sym (ne_eqb v u (λ same. eqb-false s.vb v e (at ∙ sym same))))

gives_same : (v : ℕ) (ids : List ℕ) (s : PlainStream) → (ended_in v ids s).gives ≡ s.gives
gives_same v ids s = elim (s.vb == v && list_any (λ i. i == s.id) ids) as (λ b. (if b then record s { ended = true } else s).gives ≡ s.gives) [ true ↦ refl | false ↦ refl ]

streams_ended : (v u : ℕ) (ids : List ℕ) (turns : Bool) → turns ≡ (v == u) → (ss : List PlainStream) → All (λ s. s.vb ≡ u) ss → ((id : ℕ) → HasOpen v id ss → list_any (λ i. i == id) ids ≡ true) → StreamsOn turns ss (map (ended_in v ids) ss)
streams_ended v u ids turns is [] all open_listed = tt
streams_ended v u ids turns is (s ∷ ss) all open_listed = (
  (gives_same v ids s, ended_as v u ids s (All-head (λ s. s.vb ≡ u) s ss all) (λ e t. open_listed s.id (inl (e, refl, t))) ∙ ap (λ b. s.ended || b) (sym is)),
  streams_ended v u ids turns is ss (All-tail (λ s. s.vb ≡ u) s ss all) (λ id has. open_listed id (inr has)),
)

apart_parts : (a b c d : ℕ) → (a ≡ c → ⊥) → (a == c && b == d) ≡ false
apart_parts a b c d ne = ap (λ x. x && b == d) (ne_eqb a c ne)

-- the link's dial is as it was
dial_same : (n v : ℕ) (ids : List ℕ) (y : PlainLink) → dial_at (link_ended n v ids y) ≡ dial_at y
dial_same n v ids y = elim (producer_node y == n) as (λ b. dial_at (if b then record y { server = record y.server { streams = map (ended_in v ids) y.server.streams } } else y) ≡ dial_at y) [ true ↦ refl | false ↦ refl ]

module _ (w : PlainWorld) (r : Chronicle) (c : Cluster) (a : AgreesIn idle w r c) (n v : ℕ) (ids : List ℕ) (lines : List Event) (turned : Turns n v lines) (y : PlainLink) (i : IsLink y w.links) (open_listed : (id : ℕ) → HasOpen v id y.server.streams → producer_node y ≡ n → list_any (λ i. i == id) ids ≡ true) where
  ended_remains : Remains (turns_feeder (Some (dial_at y)) lines) y (link_ended n v ids y)
  ended_remains = by (producer_node y == n) refl
    where
      here : producer_node y ≡ n → turns_feeder (Some (dial_at y)) lines ≡ (v == y.consumer.dialed.vb)
      here e = turned (dial_at y) ∙ ap (λ b. b && (v == y.consumer.dialed.vb)) (eq-eqb n (producer_node y) (sym e))

      there : (producer_node y ≡ n → ⊥) → turns_feeder (Some (dial_at y)) lines ≡ false
      there ne = turned (dial_at y) ∙ apart_parts n v (producer_node y) y.consumer.dialed.vb (λ e. ne (sym e))

      by : (b : Bool) → (producer_node y == n) ≡ b → Remains (turns_feeder (Some (dial_at y)) lines) y (if b then record y { server = record y.server { streams = map (ended_in v ids) y.server.streams } } else y)
      by true e = let at = eqb-true (producer_node y) n e in record {
        dialed = refl;
        taking = refl;
        coming = λ m k. k;
        streams = streams_ended v y.consumer.dialed.vb ids (turns_feeder (Some (dial_at y)) lines) (here at) y.server.streams
            (All-weaker (Serves w (producer_node y) y.consumer.dialed.vb) (λ s. s.vb ≡ y.consumer.dialed.vb) (λ s x. x.vb_is) y.server.streams (link_serves w r c y (a.links y i))) (λ id has. open_listed id has at);
      }
      by false e = record { dialed = refl; taking = refl; coming = λ m k. k; streams = streams_same (turns_feeder (Some (dial_at y)) lines) y.server.streams (there (eqb-false (producer_node y) n e)) }

-- ---- by the lines

no_client_role : (k n v : ℕ) (line : Event) → is_of_clients k line ≡ true → is_role_of n v line ≡ false
no_client_role k n v (Event.Role m u role) q = cc
no_client_role k n v other q = refl

no_client_roles : (k n v : ℕ) (lines : List Event) → are_all (is_of_clients k) lines ≡ true → list_any (is_role_of n v) lines ≡ false
no_client_roles k n v [] own = refl
no_client_roles k n v (line ∷ lines) own = let p = and_parts (is_of_clients k line) (are_all (is_of_clients k) lines) own in λ i. no_client_role k n v line p.0 i || no_client_roles k n v lines p.1 i

no_role : (l n v : ℕ) (line : Event) → is_of_pump l line ≡ true → is_role_of n v line ≡ false
no_role l n v (Event.Role m u role) q = cc
no_role l n v other q = refl

pub no_roles : (l n v : ℕ) (lines : List Event) → are_all (is_of_pump l) lines ≡ true → list_any (is_role_of n v) lines ≡ false
no_roles l n v [] own = refl
no_roles l n v (line ∷ lines) own = let p = and_parts (is_of_pump l line) (are_all (is_of_pump l) lines) own in λ i. no_role l n v line p.0 i || no_roles l n v lines p.1 i

-- no request of a link is granted
no_client_grant : (n l : ℕ) (line : Event) → is_of_clients n line ≡ true → is_grant_of l line ≡ false
no_client_grant n l (Event.Asked stream m v ask high log said) q = by stream q
  where
    by : (stream : StreamName) → is_of_clients n (Event.Asked stream m v ask high log said) ≡ true → is_grant_of l (Event.Asked stream m v ask high log said) ≡ false
    by (StreamName.Link k) q = cc
    by (StreamName.Client m c) q = refl
no_client_grant n l other q = refl

pub no_client_grants : (n l : ℕ) (lines : List Event) → are_all (is_of_clients n) lines ≡ true → list_any (is_grant_of l) lines ≡ false
no_client_grants n l [] own = refl
no_client_grants n l (line ∷ lines) own = let p = and_parts (is_of_clients n line) (are_all (is_of_clients n) lines) own in λ i. no_client_grant n l line p.0 i || no_client_grants n l lines p.1 i

no_grant : (k l : ℕ) (line : Event) → is_of_pump k line ≡ true → is_grant_of l line ≡ false
no_grant k l (Event.Asked stream m v ask high log said) q = cc
no_grant k l other q = refl

pub no_grants : (k l : ℕ) (lines : List Event) → are_all (is_of_pump k) lines ≡ true → list_any (is_grant_of l) lines ≡ false
no_grants k l [] own = refl
no_grants k l (line ∷ lines) own = let p = and_parts (is_of_pump k line) (are_all (is_of_pump k) lines) own in λ i. no_grant k l line p.0 i || no_grants k l lines p.1 i

-- they turn that vBucket alone
turns_of : (l n v : ℕ) (told came : List Event) → are_all (is_of_clients n) told ≡ true → are_all (is_of_pump l) came ≡ true → Turns n v (Event.Role n v Role.Dead ∷ told ++ came)
turns_of l n v told came clients own dial =
    let rest : list_any (is_role_of dial.producer dial.vb) (told ++ came) ≡ false =
    list_any-append (is_role_of dial.producer dial.vb) told came ∙ (λ i. no_client_roles n dial.producer dial.vb told clients i || no_roles l dial.producer dial.vb came own i) in
    ap (λ b. (n == dial.producer && v == dial.vb) || b) rest ∙ or_none (n == dial.producer && v == dial.vb)

-- so another link goes on, by all lines of a pump
pub beside_remains : (w : PlainWorld) (r : Chronicle) (c : Cluster) → AgreesIn idle w r c → (l : ℕ) (first came : List Event) (y x : PlainLink) → IsLink y w.links → YieldBeside first y x → are_all (is_of_pump l) came ≡ true → Remains (turns_feeder (Some (dial_at x)) (first ++ came)) y x
beside_remains w r c a l first came y x i b own =
    let lines : List Event = Event.Role b.node b.vb Role.Dead ∷ b.told ++ came in
    let known : Remains (turns_feeder (Some (dial_at y)) lines) y (link_ended b.node b.vb b.ids y) = ended_remains w r c a b.node b.vb b.ids lines (turns_of l b.node b.vb b.told came b.clients own) y i b.listed in
    let dialed : Remains (turns_feeder (Some (dial_at (link_ended b.node b.vb b.ids y))) lines) y (link_ended b.node b.vb b.ids y) =
    subst (λ (d : Dial). Remains (turns_feeder (Some d) lines) y (link_ended b.node b.vb b.ids y)) (sym (dial_same b.node b.vb b.ids y)) known in
    subst (λ es. Remains (turns_feeder (Some (dial_at x)) (es ++ came)) y x) (sym b.together) (subst (λ k. Remains (turns_feeder (Some (dial_at k)) lines) y k) (sym b.ended) dialed)

-- or it is as it was, where nothing was given up
pub alone_remains : (l : ℕ) (first came : List Event) (x : PlainLink) → first ≡ [] → are_all (is_of_pump l) came ≡ true → Remains (turns_feeder (Some (dial_at x)) (first ++ came)) x x
alone_remains l first came x none own = subst (λ es. Remains (turns_feeder (Some (dial_at x)) (es ++ came)) x x) (sym none)
    (record { dialed = refl; taking = refl; coming = λ m k. k; streams = streams_same (turns_feeder (Some (dial_at x)) came) x.server.streams (no_roles l (dial_at x).producer (dial_at x).vb came own) })

-- ---- who writes

-- a stream that is not ended was not
not_ended : (v : ℕ) (ids : List ℕ) (s : PlainStream) → (ended_in v ids s).ended ≡ false → s.ended ≡ false
not_ended v ids s = by (s.vb == v && list_any (λ i. i == s.id) ids)
  where
    by : (b : Bool) → (if b then record s { ended = true } else s).ended ≡ false → s.ended ≡ false
    by true e = let z : true ≡ false = e in cc
    by false e = e

kept_ended : (r r' : Chronicle) (n v u : ℕ) (ids : List ℕ) (told told' : Option Granted) → told' ≡ told → ((b : ℕ) → IsWriter r n v b → IsWriter r' n v b) → (ss : List PlainStream) → All (KeptFor r n v told) ss → All (KeptFor r' n v told') (map (ended_in u ids) ss)
kept_ended r r' n v u ids told told' same writes [] all = All-nil (KeptFor r' n v told')
kept_ended r r' n v u ids told told' same writes (s ∷ ss) all = All-cons (KeptFor r' n v told') (ended_in u ids s) (map (ended_in u ids) ss)
    (λ g e step alive. writes (stream_branch g) (All-head (KeptFor r n v told) s ss all g (sym same ∙ e) (sym (gives_same u ids s) ∙ step) (not_ended u ids s alive)))
    (kept_ended r r' n v u ids told told' same writes ss (All-tail (KeptFor r n v told) s ss all))

pub yield_kept : (r : Chronicle) (first : List Event) (y x : PlainLink) → YieldBeside first y x → KeptLink r y → KeptLink (after_lines r first) x
yield_kept r first y x b kept = subst (λ es. KeptLink (after_lines r es) x) (sym b.together) (subst (KeptLink q) (sym b.ended) (by (producer_node y == b.node)))
  where
    r1 : Chronicle
    r1 = after_role r b.node b.vb Role.Dead

    q : Chronicle
    q = after_lines r1 b.told

    told : Option Granted
    told = r.stream_of (StreamName.Link (link_number y)) y.consumer.dialed.vb

    told_then : Option Granted
    told_then = q.stream_of (StreamName.Link (link_number y)) y.consumer.dialed.vb

    same : told_then ≡ told
    same = kept_beside (λ (k : Chronicle). k.stream_of (StreamName.Link (link_number y)) y.consumer.dialed.vb) (λ k m v u z. refl) (λ k e. refl) r1 b.told b.lines_of

    writes : (u : ℕ) → IsWriter r (producer_node y) y.consumer.dialed.vb u → IsWriter q (producer_node y) y.consumer.dialed.vb u
    writes u z = record {
      made_or_took = kept_beside (λ (k : Chronicle). k.writer_of u) (λ k m v u y. refl) (λ k e. refl) r1 b.told b.lines_of ∙ z.made_or_took;
      on_branch = kept_beside (λ (k : Chronicle). k.branch_at (producer_node y) y.consumer.dialed.vb) (λ k m v u y. refl) (λ k e. refl) r1 b.told b.lines_of ∙ z.on_branch;
    }

    by : (e : Bool) → KeptLink q (if e then record y { server = record y.server { streams = map (ended_in b.vb b.ids) y.server.streams } } else y)
    by true = kept_ended r q (producer_node y) y.consumer.dialed.vb b.vb b.ids told told_then same writes y.server.streams kept
    by false = kept_as r q (producer_node y) y.consumer.dialed.vb told told_then y.server.streams writes same kept

-- ---- what is on its way

-- the bytes to its consumer are as they were
pub record WireSame (y x : PlainLink) : Type 0 where
  pub consumer : x.consumer ≡ y.consumer
  pub down_heard : x.down_heard ≡ y.down_heard
  pub down : x.down ≡ y.down

pub yield_wire : (first : List Event) (y x : PlainLink) → YieldBeside first y x → WireSame y x
yield_wire first y x b = subst (WireSame y) (sym b.ended) (by (producer_node y == b.node))
  where
    by : (e : Bool) → WireSame y (if e then record y { server = record y.server { streams = map (ended_in b.vb b.ids) y.server.streams } } else y)
    by true = record { consumer = refl; down_heard = refl; down = refl }
    by false = record { consumer = refl; down_heard = refl; down = refl }
