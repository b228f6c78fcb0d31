-- links that are dialed, in the world that is kept
use Rattle.std.proofs.Common.{◌≡◌, ◌≢◌, ℕ, ◌<◌, Bool, true, false, List, [], ◌∷◌, ◌++◌, length, get_or, set, refl, ap, sym, ◌∙◌, subst, Option, Some, None, is_some}
use Rattle.std.specs.Prelude.{◌==◌, ◌&&◌, ◌||◌, not, if◌then◌else◌, option_and_then, Result, Ok, Err}
use Rattle.std.specs.List.{position, list_any}
use Rattle.std.proofs.lemmas.Bool.{eqb-false, false≢true}
use Rattle.std.proofs.lemmas.List.{get_or_default}
use Rattle.std.proofs.lemmas.List.Quantifiers.{position-Some}
use Rattle.vb_events.specs.declared.event.Answer.TheVariants as answer
use Rattle.vb_events.specs.declared.event.Cause.{Cause}
use Rattle.vb_events.specs.declared.event.Cause.TheVariants as cause
use Rattle.vb_events.specs.declared.event.StreamName.TheVariants as name
use Rattle.vb_types.specs.declared.stream.StreamAsk.{StreamAsk}
use Rattle.vb_calls.specs.declared.calls.VbCall.TheVariants as call
use Rattle.vb_calls.specs.Programs.{after}
use Rattle.vb_calls.specs.State.{Plain}
use Rattle.vb_calls.specs.States.{States, call_at}
use Rattle.vbucket.specs.declared.vb_map.VbSlot.{VbSlot}
use Rattle.vbucket.specs.Stands.{SlotsStand}
use Rattle.dcp_consumer.specs.Dialing.{requests}
use Rattle.dcp_consumer.specs.declared.handshake.Dialed.{Dialed}
use Rattle.node_core.specs.declared.out.NodeOut.{NodeOut}
use Rattle.node_core.specs.Calls.{ask_or_role, ask_of_reply, ask_if, dial_requested}
use Rattle.node_core.specs.Dials.{KeptDial, new_dial}
use Rattle.node_core.specs.Outcomes.{live_dial}
use Rattle.node_core.specs.Outs.{done_out}
use Rattle.node_core.specs.Peers.{new_peer}
use Rattle.node_world.specs.declared.link.Link.{Link}
use Rattle.node_world.specs.declared.script_node.ScriptNode.{ScriptNode}
use Rattle.node_world.specs.Ends.{dial_under, PutsPeer, PutsDial, OpensPeer, DialCame, DialsFor, KeepsOthers}
use Rattle.node_world.specs.Lines.{out_told}
use Rattle.node_world.specs.Links.{PlainLink, base_of, is_taken, ask_of, new_link}
use Rattle.node_world.specs.Nodes.{PlainNode, done, refusal, first_cause, refused_or}
use Rattle.node_world.specs.Pairing.{Pairs, Each}
use Rattle.node_world.specs.Stands.{NodeMatch, node_number, NodesStand, Ends, ends_of, LinkStands, LinksStand, live_peer, Kept, WorldStands}
use Rattle.node_world.specs.World.{ask_in, with_dialed, link_step}
use Rattle.node_world.specs.Worlds.{PlainWorld, Outcome, is_off, with_links, vb_in}
use Rattle.node_world.proofs.Finding.{position_any, position_set}
use Rattle.node_world.proofs.Held.{both_same, same_ends, more_stand}
use Rattle.node_world.proofs.Nodes.{unchanged}
use Rattle.node_world.proofs.OnNodes.{off_at, off_as_plain}
use Rattle.node_world.proofs.Places.{no_node, plain_at, numbered, peer_here, dial_here, same_stands, peers_stay, dials_stay, peer_put, peers_but, dial_put, dials_but}

-- what a vBucket asks for leaves it as it was
asked_kept : (v : ℕ) (b : Bool) (slots : List VbSlot) (states : States) → SlotsStand slots (after (dial_requested v b) states).0 → SlotsStand slots states
asked_kept v b slots states = by (states v) refl
  where
    by : (o : Option Plain) → states v ≡ o → SlotsStand slots (call_at states v call.Ask o).0 → SlotsStand slots states
    by None there s = s
    by (Some vb) there s = unchanged slots states v vb there s

-- both tests, over the links and over those that they stand for
swapped : (a b c d : Bool) → ((a || b) || (c || d)) ≡ ((a || c) || (b || d))
swapped true b c d = refl
swapped false true true d = refl
swapped false true false d = refl
swapped false false true d = refl
swapped false false false d = refl

module _ (ends : Ends) (l n v : ℕ) where
  abbrev numbered_l : Link → Bool
  numbered_l x = x.number == l

  abbrev feeds_it : Link → Bool
  feeds_it x = x.node == n && x.vb == v

  taken_pairs : (links : List Link) (plain : List PlainLink) → Pairs (LinkStands ends) links plain → is_taken plain l n v ≡ (list_any numbered_l links || list_any feeds_it links)
  taken_pairs [] [] h = refl
  taken_pairs [] (p ∷ ps) h = absurd h
  taken_pairs (x ∷ xs) [] h = absurd h
  taken_pairs (x ∷ xs) (p ∷ ps) h =
      (λ i. ((sym h.0.number i == l) || ((sym h.0.node i == n) && (sym h.0.vb i == v))) || taken_pairs xs ps h.1 i)
      ∙ swapped (numbered_l x) (feeds_it x) (list_any numbered_l xs) (list_any feeds_it xs)

  some_dial : (links : List Link) (plain : List PlainLink) → Pairs (LinkStands ends) links plain → list_any feeds_it links ≡ true → is_some (ends.dials n v) ≡ true
  some_dial [] [] h e = absurd (false≢true e)
  some_dial [] (p ∷ ps) h e = absurd h
  some_dial (x ∷ xs) [] h e = absurd h
  some_dial (x ∷ xs) (p ∷ ps) h e = by (feeds_it x) refl e (λ f. some_dial xs ps h.1 f)
    where
      by : (b : Bool) → feeds_it x ≡ b → (b || list_any feeds_it xs) ≡ true → (list_any feeds_it xs ≡ true → is_some (ends.dials n v) ≡ true) → is_some (ends.dials n v) ≡ true
      by true t f later =
          let same = both_same x.node x.vb n v t in
          (λ i. is_some (ends.dials (sym same.0 i) (sym same.1 i))) ∙ ap is_some h.0.consumer
      by false t f later = later f

  same_bool : (a b : Bool) → (a ≡ true → b ≡ true) → (b ≡ true → a ≡ true) → a ≡ b
  same_bool true b f g = sym (f refl)
  same_bool false true f g = g refl
  same_bool false false f g = refl

  -- a link is taken by its number, or by the vBucket's dial
  taken_is : (links : List Link) (plain : List PlainLink) → LinksStand ends links plain → is_taken plain l n v ≡ (is_some (position numbered_l links) || is_some (ends.dials n v))
  taken_is links plain h =
      taken_pairs links plain h.each
      ∙ (λ i. sym (position_any numbered_l links) i || same_bool (list_any feeds_it links) (is_some (ends.dials n v)) (some_dial links plain h.each) (h.dials n v) i)

  -- no link has the number
  all_others : (links : List Link) → list_any numbered_l links ≡ false → Each (λ (y : Link). y.number ≢ l) links
  all_others [] e = tt
  all_others (x ∷ xs) e = (by (numbered_l x) refl e, all_others xs (rest (numbered_l x) e))
    where
      by : (b : Bool) → numbered_l x ≡ b → (b || list_any numbered_l xs) ≡ false → x.number ≢ l
      by true t f = cc
      by false t f = eqb-false x.number l t

      rest : (b : Bool) → (b || list_any numbered_l xs) ≡ false → list_any numbered_l xs ≡ false
      rest true f = cc
      rest false f = f

-- what is said of a line that dials
abbrev DialRow : PlainWorld → ℕ → ℕ → ℕ → ℕ → ℕ → ℕ → Bool → Result StreamAsk Cause → Outcome → Type 0
DialRow w line l m n v buffer takeover (Err why) o = o ≡ (w, refusal why)
DialRow w line l m n v buffer takeover (Ok asks) o = o ≡ (with_links w (w.links ++ new_link line l m n v buffer takeover asks ∷ []), done [])

module _ (w : PlainWorld) (line l m n v buffer : ℕ) (takeover : Bool) where
  abbrev rest : Option Plain → Outcome
  rest o = refused_or
      (first_cause ((not (is_some o), cause.UnknownVb) ∷ (not (is_some (option_and_then ask_of o)), cause.WrongRole) ∷ (is_taken w.links l n v, cause.LinkOpen) ∷ [])) w
      (with_links w (with_dialed line l m n v buffer takeover w.links (option_and_then ask_of o)), done [])

  -- a node that the line names is not made
  unmade_both : (is_some (w.nodes m) && is_some (w.nodes n)) ≡ false → link_step w line l m n v buffer takeover ≡ (w, refusal cause.UnknownNode)
  unmade_both e =
      ap (λ b. refused_or (if not b then Some cause.UnknownNode else first_cause ((is_off (w.nodes m) || is_off (w.nodes n), cause.NodeDown) ∷ (not (is_some (vb_in (w.nodes n) v)), cause.UnknownVb) ∷ (not (is_some (ask_in w n v)), cause.WrongRole) ∷ (is_taken w.links l n v, cause.LinkOpen) ∷ [])) w
      (with_links w (with_dialed line l m n v buffer takeover w.links (ask_in w n v)), done [])) e

  -- one of them is down
  down_both : (is_some (w.nodes m) && is_some (w.nodes n)) ≡ true → (is_off (w.nodes m) || is_off (w.nodes n)) ≡ true → link_step w line l m n v buffer takeover ≡ (w, refusal cause.NodeDown)
  down_both e f = λ i. refused_or
      (if not (e i) then Some cause.UnknownNode
      else if f i then Some cause.NodeDown else first_cause ((not (is_some (vb_in (w.nodes n) v)), cause.UnknownVb) ∷ (not (is_some (ask_in w n v)), cause.WrongRole) ∷ (is_taken w.links l n v, cause.LinkOpen) ∷ [])) w
      (with_links w (with_dialed line l m n v buffer takeover w.links (ask_in w n v)), done [])

  -- both are made
  made_both : (node : PlainNode) → is_some (w.nodes m) ≡ true → w.nodes n ≡ Some node → (is_off (w.nodes m) || is_off (w.nodes n)) ≡ false → link_step w line l m n v buffer takeover ≡ rest (node.vbs v)
  made_both node e f up = λ i. refused_or
      (first_cause
      ((not (e i && is_some (f i)), cause.UnknownNode) ∷ (up i, cause.NodeDown) ∷ (not (is_some (vb_in (f i) v)), cause.UnknownVb) ∷ (not (is_some (option_and_then ask_of (vb_in (f i) v))), cause.WrongRole) ∷ (is_taken w.links l n v, cause.LinkOpen) ∷ [])) w
      (with_links w (with_dialed line l m n v buffer takeover w.links (option_and_then ask_of (vb_in (f i) v))), done [])

  -- by what the vBucket says
  said_row : (states : States) (b : Bool) → is_taken w.links l n v ≡ not b → DialRow w line l m n v buffer takeover (after (dial_requested v b) states).1 (rest (states v))
  said_row states b taken = by (states v)
    where
      free_row : (asks : StreamAsk) (c : Bool) → is_taken w.links l n v ≡ not c
          → DialRow w line l m n v buffer takeover (if c then Ok asks else Err cause.LinkOpen) (refused_or (if is_taken w.links l n v then Some cause.LinkOpen else None) w (with_links w (w.links ++ new_link line l m n v buffer takeover asks ∷ []), done []))
      free_row asks true t = ap (λ x. refused_or (if x then Some cause.LinkOpen else None) w (with_links w (w.links ++ new_link line l m n v buffer takeover asks ∷ []), done [])) t
      free_row asks false t = ap (λ x. refused_or (if x then Some cause.LinkOpen else None) w (with_links w (w.links ++ new_link line l m n v buffer takeover asks ∷ []), done [])) t

      ask_row : (o : Option StreamAsk) → DialRow w line l m n v buffer takeover (ask_if b (ask_or_role o))
          (refused_or (first_cause ((not (is_some o), cause.WrongRole) ∷ (is_taken w.links l n v, cause.LinkOpen) ∷ [])) w (with_links w (with_dialed line l m n v buffer takeover w.links o), done []))
      ask_row None = refl
      ask_row (Some asks) = free_row asks b taken

      by : (o : Option Plain) → DialRow w line l m n v buffer takeover (ask_if b (ask_of_reply (call_at states v call.Ask o).1)) (rest o)
      by None = refl
      by (Some vb) = ask_row (ask_of vb)

  -- a link that is dialed is free
  free_of : (states : States) (b : Bool) (asks : StreamAsk) → (after (dial_requested v b) states).1 ≡ Ok asks → b ≡ true
  free_of states true asks e = refl
  free_of states false asks e = by (states v) e
    where
      none : (r : Result StreamAsk Cause) → ask_if false r ≡ Ok asks → false ≡ true
      none (Err why) f = cc
      none (Ok other) f = cc

      by : (o : Option Plain) → ask_if false (ask_of_reply (call_at states v call.Ask o).1) ≡ Ok asks → false ≡ true
      by o f = none (ask_of_reply (call_at states v call.Ask o).1) f

-- a node that the line names is not made
pub unmade_producer : (kept : Kept) (w : PlainWorld) (line l m n v buffer : ℕ) (takeover : Bool) → position (λ node. node_number node == m) kept.nodes ≡ None → WorldStands kept w
    → WorldStands kept (link_step w line l m n v buffer takeover).0 × (refusal cause.UnknownNode ≡ (link_step w line l m n v buffer takeover).1)
unmade_producer kept w line l m n v buffer takeover none stands =
    let e = unmade_both w line l m n v buffer takeover (ap (λ o. is_some o && is_some (w.nodes n)) (no_node kept.nodes w m none stands.nodes)) in
    subst (λ (o : Outcome). WorldStands kept o.0 × (refusal cause.UnknownNode ≡ o.1)) (sym e) (stands, refl)

pub unmade_consumer : (kept : Kept) (w : PlainWorld) (line l m n v buffer : ℕ) (takeover : Bool) → position (λ node. node_number node == n) kept.nodes ≡ None → WorldStands kept w
    → WorldStands kept (link_step w line l m n v buffer takeover).0 × (refusal cause.UnknownNode ≡ (link_step w line l m n v buffer takeover).1)
unmade_consumer kept w line l m n v buffer takeover none stands =
    let e = unmade_both w line l m n v buffer takeover (ap (λ o. is_some (w.nodes m) && is_some o) (no_node kept.nodes w n none stands.nodes) ∙ and_false (is_some (w.nodes m))) in
    subst (λ (o : Outcome). WorldStands kept o.0 × (refusal cause.UnknownNode ≡ o.1)) (sym e) (stands, refl)
  where
    and_false : (b : Bool) → (b && false) ≡ false
    and_false true = refl
    and_false false = refl

-- whether one of two nodes is down
pub one_off : (a b : Bool) → a ≡ true → (a || b) ≡ true
one_off a b e = ap (λ x. x || b) e

pub other_off : (a b : Bool) → b ≡ true → (a || b) ≡ true
other_off true b e = refl
other_off false b e = e

pub both_on : (a b : Bool) → a ≡ false → b ≡ false → (a || b) ≡ false
both_on a b e f = λ i. e i || f i

-- a node that the line names is down
pub down_ends : (kept : Kept) (w : PlainWorld) (line l m n v buffer : ℕ) (takeover : Bool) → is_some (w.nodes m) ≡ true → is_some (w.nodes n) ≡ true → (is_off (w.nodes m) || is_off (w.nodes n)) ≡ true → WorldStands kept w
    → WorldStands kept (link_step w line l m n v buffer takeover).0 × (refusal cause.NodeDown ≡ (link_step w line l m n v buffer takeover).1)
down_ends kept w line l m n v buffer takeover e f down stands =
    subst (λ (o : Outcome). WorldStands kept o.0 × (refusal cause.NodeDown ≡ o.1)) (sym (down_both w line l m n v buffer takeover (λ i. e i && f i) down)) (stands, refl)

-- the nodes at both ends are made, and the vBucket was asked
module _ (kept : Kept) (w : PlainWorld) (line l m n v buffer : ℕ) (takeover : Bool) (at m_at : ℕ) (old new : ScriptNode) (out : NodeOut) (is_free : Bool) (place : Option ℕ) (placed : position (λ node. node_number node == n) kept.nodes ≡ Some at)
    (m_placed : position (λ node. node_number node == m) kept.nodes ≡ Some m_at) (is : old ≡ get_or kept.nodes at old) (found : position (λ (x : Link). x.number == l) kept.links ≡ place)
    (free_is : is_some place ≡ not is_free) (stands : WorldStands kept w) (dials : DialsFor v l buffer takeover is_free old out new) (up_ends : (is_off (w.nodes m) || is_off (w.nodes n)) ≡ false) where
  abbrev nodes' : List ScriptNode
  nodes' = set kept.nodes at new

  abbrev ends : Ends
  ends = ends_of kept.nodes

  abbrev free : Bool
  free = is_free && not (is_some (dial_under old v))

  abbrev named_dial : Dialed
  named_dial = record { link = l; node = node_number old; vb = v; buffer = buffer; takeover = takeover }

  dial_is : ends.dials n v ≡ dial_under old v
  dial_is = dial_here kept.nodes n at old new placed is v

  taken : is_taken w.links l n v ≡ not free
  taken =
      taken_is ends l n v kept.links w.links stands.links
      ∙ (λ i. is_some (found i) || is_some (dial_is i)) ∙ ap (λ b. b || is_some (dial_under old v)) free_is ∙ by is_free (is_some (dial_under old v))
    where
      by : (a d : Bool) → (not a || d) ≡ not (a && not d)
      by true true = refl
      by true false = refl
      by false d = refl

  -- both nodes are running
  not_off : (a b : Bool) → (a || b) ≡ false → (a ≡ false) × (b ≡ false)
  not_off true b e = cc
  not_off false true e = cc
  not_off false false e = (refl, refl)

  none_off : {T : Type 0} (o : Option T) → is_some o ≡ false → o ≡ None
  none_off None e = refl
  none_off (Some x) e = cc

  own_up : (x : PlainNode) → NodeMatch old x → x.off ≡ None
  own_up x same = none_off x.off (sym (off_as_plain old x same) ∙ sym (off_at kept w n at old old placed is stands) ∙ (not_off (is_off (w.nodes m)) (is_off (w.nodes n)) up_ends).1)

  m_made : is_some (w.nodes m) ≡ true
  m_made =
      let (lt, here, before) = position-Some (λ node. node_number node == m) kept.nodes m_at old m_placed in
      let m_node = get_or kept.nodes m_at old in
      ap is_some (plain_at kept.nodes m m_at m_node m_node m_placed (get_or_default kept.nodes m_at old m_node lt) w stands.nodes).1

  module _ (plain : PlainNode) (there : w.nodes n ≡ Some plain) (alike : NodeMatch old plain) where
    abbrev said : Result StreamAsk Cause
    said = (after (dial_requested v free) plain.vbs).1

    row : DialRow w line l m n v buffer takeover said (link_step w line l m n v buffer takeover)
    row = subst (DialRow w line l m n v buffer takeover said) (sym (made_both w line l m n v buffer takeover plain m_made there up_ends)) (said_row w line l m n v buffer takeover plain.vbs free taken)

    came : DialCame named_dial said old out new
    came = (dials plain alike (own_up plain alike)).1

    -- the node stands for the plain one as before
    still : (x : PlainNode) → NodeMatch old x → NodeMatch new x
    still x same =
        let known = (dials x same (own_up x same)).0 in
        record { slots = asked_kept v free new.node.vbs x.vbs known.slots; shelves = known.shelves; made = known.made; clock = known.clock; clients = known.clients; bases = known.bases; arm = known.arm; off = known.off }

    -- it was refused
    refused : (why : Cause) → said ≡ Err why → WorldStands (record kept { nodes = nodes' }) (link_step w line l m n v buffer takeover).0 × (out_told out ≡ (link_step w line l m n v buffer takeover).1)
    refused why e =
        let kept_ends = (subst (λ r. DialCame named_dial r old out new) e came).1 in
        let handed = (subst (λ r. DialCame named_dial r old out new) e came).0 in
        let outcome = subst (λ r. DialRow w line l m n v buffer takeover r (link_step w line l m n v buffer takeover)) e row in
        subst (λ (o : Outcome). WorldStands (record kept { nodes = nodes' }) o.0 × (out_told out ≡ o.1)) (sym outcome) (
          record {
            nodes = same_stands kept.nodes n at old new placed is kept_ends.number w stands.nodes still;
            ids = stands.ids;
            links = same_ends ends (ends_of nodes') kept.links w.links (peers_stay kept.nodes n at old new placed is kept_ends.number kept_ends.peers) (dials_stay kept.nodes n at old new placed is kept_ends.number kept_ends.dials) stands.links;
          },
          ap out_told handed,
        )

    -- it dials, and the connection of its producer is opened
    module _ (asks : StreamAsk) (e : said ≡ Ok asks) (m_old m_new : ScriptNode) (key : ℕ) (m_old_is : m_old ≡ get_or nodes' m_at m_old) (opens : OpensPeer l (base_of line) m_old key m_new) (up : List ℕ) (up_is : up ≡ out.out) where
      handed : out ≡ done_out [] (requests named_dial asks)
      handed = (subst (λ r. DialCame named_dial r old out new) e came).0

      puts : PutsDial old new v (Some (live_dial (new_dial named_dial)))
      puts = (subst (λ r. DialCame named_dial r old out new) e came).1

      abbrev nodes'' : List ScriptNode
      nodes'' = set nodes' m_at m_new

      first : (at < length kept.nodes) × ((k : ℕ) → k < at → (node_number (get_or kept.nodes k old) == n) ≡ false)
      first = let (lt, here, before) = position-Some (λ node. node_number node == n) kept.nodes at old placed in (lt, before)

      m_placed' : position (λ node. node_number node == m) nodes' ≡ Some m_at
      m_placed' = position_set (λ (node : ScriptNode). node_number node == m) kept.nodes at old new first.0 (ap (λ k. k == m) puts.number ∙ ap (λ (node : ScriptNode). node_number node == m) is) ∙ m_placed

      m_puts : PutsPeer m_old m_new key (Some (live_peer (new_peer (record { stream = name.Link l; node = node_number m_old; base = base_of line }))))
      m_puts = opens.2

      between : NodesStand nodes' w
      between = same_stands kept.nodes n at old new placed is puts.number w stands.nodes still

      -- the node that is dialed is running
      m_up : (x : PlainNode) → NodeMatch m_old x → x.off ≡ None
      m_up x same =
          let (m_plain, m_there, m_alike) = plain_at nodes' m m_at m_old m_old m_placed' m_old_is w between in
          none_off x.off (sym (off_as_plain m_old x same) ∙ off_as_plain m_old m_plain m_alike ∙ sym (ap is_off m_there) ∙ (not_off (is_off (w.nodes m)) (is_off (w.nodes n)) up_ends).0)

      m_number : node_number m_old ≡ m
      m_number = numbered nodes' m m_at m_old m_new m_placed' m_old_is

      n_number : node_number old ≡ n
      n_number = numbered kept.nodes n at old new placed is

      abbrev link : Link
      link = record { number = l; producer = m; conn = key; node = n; vb = v; up = up; down = [] }

      abbrev p : PlainLink
      p = new_link line l m n v buffer takeover asks

      peers_between : (a k : ℕ) → (ends_of nodes').peers a k ≡ ends.peers a k
      peers_between = peers_stay kept.nodes n at old new placed is puts.number puts.peers

      dials_after : (a u : ℕ) → (ends_of nodes'').dials a u ≡ (ends_of nodes').dials a u
      dials_after = dials_stay nodes' m m_at m_old m_new m_placed' m_old_is m_puts.number m_puts.dials

      others : KeepsOthers link ends (ends_of nodes'')
      others = record {
        peers = λ a k away. peers_but nodes' m m_at m_old m_new m_placed' m_old_is m_puts.number key _ m_puts a k away ∙ peers_between a k;
        dials = λ a u away. dials_after a u ∙ dials_but kept.nodes n at old new placed is puts.number v _ puts a u away;
      }

      no_peer : ends.peers m key ≡ None
      no_peer = sym (peers_between m key) ∙ peer_here nodes' m m_at m_old m_new m_placed' m_old_is key ∙ opens.1

      free_now : free ≡ true
      free_now = free_of w line l m n v buffer takeover plain.vbs free asks e

      both_free : (a : Bool) (o : Option KeptDial) → (a && not (is_some o)) ≡ true → (a ≡ true) × (o ≡ None)
      both_free true None f = (refl, refl)
      both_free true (Some x) f = cc
      both_free false o f = cc

      no_dial : ends.dials n v ≡ None
      no_dial = dial_is ∙ (both_free is_free (dial_under old v) free_now).1

      fresh : Each (λ (y : Link). y.number ≢ l) kept.links
      fresh = all_others ends l n v kept.links (sym (position_any (λ (x : Link). x.number == l) kept.links) ∙ ap is_some found ∙ free_is ∙ ap not (both_free is_free (dial_under old v) free_now).0)

      one : LinkStands (ends_of nodes'') link p
      one = record {
        number = refl;
        producer = refl;
        node = refl;
        vb = refl;
        server = peer_put nodes' m m_at m_old m_new m_placed' m_old_is m_puts.number key _ m_puts ∙ ap (λ k. Some (live_peer (new_peer (record { stream = name.Link l; node = k; base = base_of line })))) m_number;
        consumer = dials_after n v ∙ dial_put kept.nodes n at old new placed is puts.number v _ puts ∙ ap (λ k. Some (live_dial (new_dial (record { link = l; node = k; vb = v; buffer = buffer; takeover = takeover })))) n_number;
        up = up_is ∙ ap (λ (x : NodeOut). x.out) handed ∙ ap (λ k. requests (record { link = l; node = k; vb = v; buffer = buffer; takeover = takeover }) asks) n_number;
        down = refl;
      }

      dialed : WorldStands (record { nodes = nodes''; ids = kept.ids; links = kept.links ++ link ∷ [] }) (link_step w line l m n v buffer takeover).0 × (out_told out ≡ (link_step w line l m n v buffer takeover).1)
      dialed =
          let outcome = subst (λ r. DialRow w line l m n v buffer takeover r (link_step w line l m n v buffer takeover)) e row in
          subst (λ (o : Outcome). WorldStands (record { nodes = nodes''; ids = kept.ids; links = kept.links ++ link ∷ [] }) o.0 × (out_told out ≡ o.1)) (sym outcome) (
            record {
              nodes = same_stands nodes' m m_at m_old m_new m_placed' m_old_is m_puts.number w between (λ x same. opens.0 x same (m_up x same));
              ids = stands.ids;
              links = more_stand ends (ends_of nodes'') kept.links w.links link p others no_peer no_dial fresh one stands.links;
            },
            ap out_told handed,
          )

    by_refusal : (r : Result StreamAsk Cause) → said ≡ r → (out.answer ≡ answer.Ok → ⊥) → WorldStands (record kept { nodes = nodes' }) (link_step w line l m n v buffer takeover).0 × (out_told out ≡ (link_step w line l m n v buffer takeover).1)
    by_refusal (Err why) e not_ok = refused why e
    by_refusal (Ok asks) e not_ok = absurd (not_ok (ap (λ (x : NodeOut). x.answer) (subst (λ r. DialCame named_dial r old out new) e came).0))

    by_answer : (r : Result StreamAsk Cause) → said ≡ r → out.answer ≡ answer.Ok → (m_old m_new : ScriptNode) (key : ℕ) → m_old ≡ get_or nodes' m_at m_old → OpensPeer l (base_of line) m_old key m_new → (up : List ℕ) → up ≡ out.out
        → WorldStands (record { nodes = set nodes' m_at m_new; ids = kept.ids; links = kept.links ++ record { number = l; producer = m; conn = key; node = n; vb = v; up = up; down = [] } ∷ [] }) (link_step w line l m n v buffer takeover).0
        × (out_told out ≡ (link_step w line l m n v buffer takeover).1)
    by_answer (Err why) e is_ok m_old m_new key m_old_is opens up up_is = let other : answer.No why ≡ answer.Ok = sym (ap (λ (x : NodeOut). x.answer) (subst (λ r. DialCame named_dial r old out new) e came).0) ∙ is_ok in cc
    by_answer (Ok asks) e is_ok m_old m_new key m_old_is opens up up_is = dialed asks e m_old m_new key m_old_is opens up up_is

  -- the vBucket is there and does not follow, or the link is taken
  pub refused_link : (out.answer ≡ answer.Ok → ⊥) → WorldStands (record kept { nodes = nodes' }) (link_step w line l m n v buffer takeover).0 × (out_told out ≡ (link_step w line l m n v buffer takeover).1)
  refused_link not_ok =
      let (plain, there, alike) = plain_at kept.nodes n at old new placed is w stands.nodes in
      by_refusal plain there alike (after (dial_requested v free) plain.vbs).1 refl not_ok

  -- the link is there
  pub dialed_link : out.answer ≡ answer.Ok → (m_old m_new : ScriptNode) (key : ℕ) → m_old ≡ get_or nodes' m_at m_old → OpensPeer l (base_of line) m_old key m_new → (up : List ℕ) → up ≡ out.out
      → WorldStands (record { nodes = set nodes' m_at m_new; ids = kept.ids; links = kept.links ++ record { number = l; producer = m; conn = key; node = n; vb = v; up = up; down = [] } ∷ [] }) (link_step w line l m n v buffer takeover).0
      × (out_told out ≡ (link_step w line l m n v buffer takeover).1)
  dialed_link is_ok m_old m_new key m_old_is opens up up_is =
      let (plain, there, alike) = plain_at kept.nodes n at old new placed is w stands.nodes in
      by_answer plain there alike (after (dial_requested v free) plain.vbs).1 refl is_ok m_old m_new key m_old_is opens up up_is
