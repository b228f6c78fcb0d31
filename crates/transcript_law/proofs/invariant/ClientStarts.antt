-- a node that starts has no connection of a client, and tells of none
use Rattle.std.specs.Prelude.{◌≡◌, ◌∷◌, ◌++◌, if◌then◌else◌}
use Rattle.transcript_law.proofs.Words.{ℕ, Bool, true, false, List, [], refl, ap, sym, ◌∙◌, subst, length, Option, Some, None, is_some, Cause, Event}
use Rattle.transcript_law.proofs.Words.{PlainNode, PlainWorld, Told, done}
use Rattle.transcript_law.proofs.Words.{refusal, with_node_at}
use Rattle.disk_journals.specs.{Arms.{opens_all}, Books.{Book}}
use Rattle.node_core.specs.{Loading.{are_short, starts_of}}
use Rattle.node_world.specs.Arms.{fired_by}
use Rattle.node_world.specs.{Worlds.{on_made}}
use Rattle.node_world.specs.Power.{burnt_arm, loaded_node, not_opened, opening_told, start_at, start_books, start_if, start_one, started_by, starts_from}
use Rattle.node_world.specs.declared.arm.Fired.{Fired}
use Rattle.node_world.specs.declared.arm.Fired.TheVariants as fired
use Rattle.transcript_law.proofs.invariant.ClientNodes.{NodeTold, none_down, none_told}
use Rattle.transcript_law.proofs.lines.Heard.{AreMute, HeardFrom}
use Rattle.transcript_law.proofs.verbs.AdminLines.{start_mute}
use Rattle.transcript_law.proofs.verbs.NodeLines.{on_made_by}
use Rattle.transcript_law.specs.Chronicles.{Conns, conns_lines}
use Rattle.transcript_law.specs.Clients.{AllClosed}
use Rattle.transcript_law.proofs.invariant.ClientWorlds.{Came, ConnsAre, put_same, told_at}

-- ---- a node that starts

-- no line of it is of a client, and no other node stopped
abbrev IsStarting : ℕ → Event → Type 0
IsStarting n (Event.Reply m c bytes) = ⊥
IsStarting n (Event.Closed m c) = ⊥
IsStarting n (Event.NodeStopped m) = m ≡ n
IsStarting n other = Unit {0}

abbrev AreStarting : ℕ → List Event → Type 0
AreStarting n [] = Unit {0}
AreStarting n (line ∷ lines) = IsStarting n line × AreStarting n lines

starting_more : (n : ℕ) (lines more : List Event) → AreStarting n lines → AreStarting n more → AreStarting n (lines ++ more)
starting_more n [] more s m = m
starting_more n (line ∷ lines) more s m = (s.0, starting_more n lines more s.1 m)

mute_starting : (n : ℕ) (lines : List Event) → AreMute lines → AreStarting n lines
mute_starting n [] m = tt
mute_starting n (Event.Reply k c bytes ∷ lines) m = absurd m.0
mute_starting n (Event.Closed k c ∷ lines) m = absurd m.0
mute_starting n (Event.NodeStopped k ∷ lines) m = absurd m.0
mute_starting n (other ∷ lines) m = (tt, mute_starting n lines m.1)

starting_same : (conns : Conns) (n : ℕ) (lines : List Event) → AreStarting n lines → conns_lines conns lines ≡ conns
starting_same conns n [] s = refl
starting_same conns n (Event.Closed m c ∷ lines) s = absurd s.0
starting_same conns n (other ∷ lines) s = starting_same conns n lines s.1

starting_heard : (conns : Conns) (n : ℕ) (lines : List Event) → AllClosed conns n → AreStarting n lines → HeardFrom conns lines
starting_heard conns n [] closed s = tt
starting_heard conns n (Event.Reply m c bytes ∷ lines) closed s = absurd s.0
starting_heard conns n (Event.Closed m c ∷ lines) closed s = absurd s.0
starting_heard conns n (Event.NodeStopped m ∷ lines) closed s =
    ((tt, λ c. (λ i. starting_same conns n lines s.1 i (s.0 i) c) ∙ closed c), starting_heard conns n lines closed s.1)
starting_heard conns n (other ∷ lines) closed s = (tt, starting_heard conns n lines closed s.1)

abbrev NoClients : PlainNode → Type 0
NoClients node = (c : ℕ) → node.clients c ≡ None

abbrev Started : ℕ → PlainNode × Told → Type 0
Started n x = NoClients x.0 × AreStarting n x.1.events

starts_are : (n : ℕ) (starts : List (ℕ × ℕ)) (node : PlainNode) (told : Told) → NoClients node → AreStarting n told.events → Started n (starts_from n starts (node, told))
starts_are n [] node told none s = (none, s)
starts_are n (start ∷ starts) node told none s = by (λ t so. starts_are n starts node' t none so) (fired_by node.arm.fuse node'.arm.fuse)
  where
    node' : PlainNode
    node' = (start_one n start node).0

    one : List Event
    one = (start_one n start node).1.events

    all : AreStarting n (told.events ++ one)
    all = starting_more n told.events one s (mute_starting n one (start_mute n start node))

    by : ((t : Told) → AreStarting n t.events → Started n (starts_from n starts (node', t))) → (f : Fired) → Started n (started_by n node.arm f (start_one n start node).1 told node' (starts_from n starts))
    by rest fired.No = rest _ all
    by rest fired.Failed = rest _ (starting_more n (told.events ++ one) (Event.CallFailed n ∷ []) all (tt, tt))
    by rest fired.Stopped = ((λ c. refl), starting_more n (told.events ++ one) (Event.NodeStopped n ∷ []) all (refl, tt))

books_are : (n : ℕ) (uuids : List ℕ) (books : List Book) (node : PlainNode) → NoClients node → Started n (start_books n uuids books node)
books_are n uuids books node none = by (opens_all node.arm.fuse (length books)) (are_short books uuids)
  where
    told_so : (f : Fired) → AreStarting n (opening_told n f).events
    told_so fired.No = tt
    told_so fired.Failed = (tt, tt)
    told_so fired.Stopped = (refl, tt)

    loaded : PlainNode
    loaded = loaded_node n books (burnt_arm (length books) node.arm)

    by : (opens short : Bool) → Started n (if opens then (if short then (record node { arm = burnt_arm (length books) node.arm }, refusal Cause.IdsShort) else starts_from n (starts_of books uuids) (loaded, done [])) else not_opened n node)
    by true true = (none, tt)
    by true false = starts_are n (starts_of books uuids) loaded (done []) (λ c. refl) tt
    by false short = (none, told_so _)

pub start_came : (conns : Conns) (w : PlainWorld) (n : ℕ) (uuids : List ℕ) → ConnsAre w conns → Came conns (on_made w n (start_at n uuids))
start_came conns w n uuids are = on_made_by (Came conns) w n (start_at n uuids) (tt, are) (λ node e. at node (told_at w conns n node e are))
  where
    Out : PlainNode × Told → Type 0
    Out x = Came conns (with_node_at w n x.0, x.1)

    started : (node : PlainNode) → NodeTold (conns n) n node → is_some node.off ≡ true → (x : PlainNode × Told) → Started n x → Out x
    started node t off x s = (
      starting_heard conns n x.1.events (t.down off) s.1,
      subst (ConnsAre (with_node_at w n x.0)) (sym (starting_same conns n x.1.events s.1)) (put_same w conns n x.0 are (none_told (conns n) n x.0 (t.down off) s.0)),
    )

    by : (node : PlainNode) → NodeTold (conns n) n node → (o : Option (List Book)) → node.off ≡ o → Out (start_if n uuids node o)
    by node t None e = (tt, put_same w conns n node are t)
    by node t (Some books) e = let off = ap is_some e in started node t off (start_books n uuids books node) (books_are n uuids books node (none_down (conns n) n node t off))

    at : (node : PlainNode) → NodeTold (conns n) n node → Out (start_at n uuids node)
    at node t = by node t node.off refl
