-- lines of clients: of changes that they made, of requests for streams and of answers to them, and of their connections that closed
use Rattle.std.specs.Prelude.{◌≡◌, ◌∷◌, ◌++◌, ◌==◌, if◌then◌else◌}
use Rattle.transcript_law.proofs.Words.{ℕ, Bool, true, false, List, [], refl, ap, sym, subst, ◌∙◌, map, flat_map, eqb-true, Option, Some, None, Change, Event, StreamName, PlainNode, after, bytes_at, bytes_if, Chronicle, after_change, after_lines, branch_of_line, LawfulFrom}
use Rattle.transcript_law.proofs.{lines.Changes.{Reads, asked_read, change_read, reply_read, reads_change, reads_client}, lines.Lines.{AreQuiet}, lines.SessionLines.{AreTo, IsKept, LeftBy, fed_at, kept_left, posted_at}}
use Rattle.transcript_law.specs.{LinesTold.{Conns, after_client_line}, Questions.{question_of}, StreamsTold.{ClientsKnown}}
use Rattle.node_core.specs.Calls.{left_open}
use Rattle.node_core.specs.Clients.{Handling, PlainClient, client_fed, client_posted}
use Rattle.node_world.specs.Nodes.{all_posted, awaiting, posted_if, posted_to}
use Rattle.node_world.specs.declared.script_node.TheConstants.{MAX_CLIENTS}
use Rattle.vb_calls.specs.declared.calls.Resolved.{Resolved}

-- a line of clients
abbrev pub IsOfClients : Event → Type 0
IsOfClients (Event.Changed n v uuid change) = Unit {0}
IsOfClients (Event.Reply n c bytes) = Unit {0}
IsOfClients (Event.Closed n c) = Unit {0}
IsOfClients (Event.Asked (StreamName.Client m c) n v ask high log said) = Unit {0}
IsOfClients other = ⊥

-- all of them are
abbrev pub AreOfClients : List Event → Type 0
AreOfClients [] = Unit {0}
AreOfClients (line ∷ lines) = IsOfClients line × AreOfClients lines

pub clients_more : (lines more : List Event) → AreOfClients lines → AreOfClients more → AreOfClients (lines ++ more)
clients_more [] more c m = m
clients_more (line ∷ lines) more c m = (c.0, clients_more lines more c.1 m)

pub clients_map : {A : Type 0} (f : A → Event) (xs : List A) → ((x : A) → IsOfClients (f x)) → AreOfClients (map f xs)
clients_map f [] each = tt
clients_map f (x ∷ xs) each = (each x, clients_map f xs each)

-- they say nothing of those behind them
pub clients_quiet : (lines : List Event) → AreOfClients lines → AreQuiet lines
clients_quiet [] c = tt
clients_quiet (Event.Changed n v uuid change ∷ lines) c = (tt, clients_quiet lines c.1)
clients_quiet (Event.Reply n k bytes ∷ lines) c = (tt, clients_quiet lines c.1)
clients_quiet (Event.Closed n k ∷ lines) c = (tt, clients_quiet lines c.1)
clients_quiet (Event.Asked (StreamName.Client m k) n v ask high log said ∷ lines) c = (tt, clients_quiet lines c.1)
clients_quiet (other ∷ lines) c = absurd c.0

-- they tell of no branch
pub clients_branched : (lines : List Event) → AreOfClients lines → flat_map branch_of_line lines ≡ []
clients_branched [] c = refl
clients_branched (Event.Changed n v uuid change ∷ lines) c = clients_branched lines c.1
clients_branched (Event.Reply n k bytes ∷ lines) c = clients_branched lines c.1
clients_branched (Event.Closed n k ∷ lines) c = clients_branched lines c.1
clients_branched (Event.Asked (StreamName.Client m k) n v ask high log said ∷ lines) c = clients_branched lines c.1
clients_branched (other ∷ lines) c = absurd c.0

-- what else is read may be read before them or behind them, where it may be read before one change or behind it, and so with a line that tells of clients alone
pub read_beside : (f : Chronicle → Chronicle) → ((r : Chronicle) (n v uuid : ℕ) (change : Change) → f (after_change r n v uuid change) ≡ after_change (f r) n v uuid change)
    → ((r : Chronicle) (line : Event) → f (after_client_line r line) ≡ after_client_line (f r) line) → (r : Chronicle) (lines : List Event) → AreOfClients lines → f (after_lines r lines) ≡ after_lines (f r) lines
read_beside f one client r [] c = refl
read_beside f one client r (Event.Changed n v uuid change ∷ lines) c = read_beside f one client (after_change r n v uuid change) lines c.1 ∙ (λ i. after_lines (one r n v uuid change i) lines)
read_beside f one client r (Event.Reply n k bytes ∷ lines) c = read_beside f one client (after_client_line r (Event.Reply n k bytes)) lines c.1 ∙ (λ i. after_lines (client r (Event.Reply n k bytes) i) lines)
read_beside f one client r (Event.Closed n k ∷ lines) c = read_beside f one client (after_client_line r (Event.Closed n k)) lines c.1 ∙ (λ i. after_lines (client r (Event.Closed n k) i) lines)
read_beside f one client r (Event.Asked (StreamName.Client m k) n v ask high log said ∷ lines) c =
    let line : Event = Event.Asked (StreamName.Client m k) n v ask high log said in read_beside f one client (after_client_line r line) lines c.1 ∙ (λ i. after_lines (client r line i) lines)
read_beside f one client r (other ∷ lines) c = absurd c.0

-- and what neither changes, they do not change
pub kept_beside : {A : Type 0} (f : Chronicle → A) → ((r : Chronicle) (n v uuid : ℕ) (change : Change) → f (after_change r n v uuid change) ≡ f r) → ((r : Chronicle) (line : Event) → f (after_client_line r line) ≡ f r)
    → (r : Chronicle) (lines : List Event) → AreOfClients lines → f (after_lines r lines) ≡ f r
kept_beside f one client r [] c = refl
kept_beside f one client r (Event.Changed n v uuid change ∷ lines) c = kept_beside f one client (after_change r n v uuid change) lines c.1 ∙ one r n v uuid change
kept_beside f one client r (Event.Reply n k bytes ∷ lines) c = kept_beside f one client (after_client_line r (Event.Reply n k bytes)) lines c.1 ∙ client r (Event.Reply n k bytes)
kept_beside f one client r (Event.Closed n k ∷ lines) c = kept_beside f one client (after_client_line r (Event.Closed n k)) lines c.1 ∙ client r (Event.Closed n k)
kept_beside f one client r (Event.Asked (StreamName.Client m k) n v ask high log said ∷ lines) c =
    let line : Event = Event.Asked (StreamName.Client m k) n v ask high log said in kept_beside f one client (after_client_line r line) lines c.1 ∙ client r line
kept_beside f one client r (other ∷ lines) c = absurd c.0

-- a connection that closes
closed_read : (q r : Chronicle) (n k : ℕ) → Reads q r → (r.conn_at n k ≡ true → question_of (r.clients_at n k).asking ≡ None) → q.conn_at n k ≡ true → question_of (q.clients_at n k).asking ≡ None
closed_read q r n k s l opened = ap (λ (f : ClientsKnown). question_of (f n k).asking) (sym s.clients) ∙ l (ap (λ (f : Conns). f n k) s.conns ∙ opened)

-- they are lawful in both where what they read is the same in both
pub clients_read : (q r : Chronicle) (lines : List Event) → AreOfClients lines → Reads q r → LawfulFrom r lines → LawfulFrom q lines
clients_read q r [] c s l = tt
clients_read q r (Event.Changed n v uuid change ∷ lines) c s l =
    (change_read q r n v uuid change s l.0, clients_read (after_change q n v uuid change) (after_change r n v uuid change) lines c.1 (reads_change q r n v uuid change s) l.1)
clients_read q r (Event.Reply n k bytes ∷ lines) c s l =
    let line : Event = Event.Reply n k bytes in (λ none. reply_read q r n k bytes lines s (l.0 (ap (λ (f : ClientsKnown). (f n k).told) s.clients ∙ none)), clients_read (after_client_line q line) (after_client_line r line) lines c.1 (reads_client q r line s) l.1)
clients_read q r (Event.Closed n k ∷ lines) c s l =
    let line : Event = Event.Closed n k in (closed_read q r n k s l.0, clients_read (after_client_line q line) (after_client_line r line) lines c.1 (reads_client q r line s) l.1)
clients_read q r (Event.Asked (StreamName.Client m k) n v ask high log said ∷ lines) c s l =
    let line : Event = Event.Asked (StreamName.Client m k) n v ask high log said in
    (asked_read q r m k n v ask high log said lines s l.0, clients_read (after_client_line q line) (after_client_line r line) lines c.1 (reads_client q r line s) l.1)
clients_read q r (other ∷ lines) c s l = absurd c.0

-- ---- nothing else is told of what is served

-- those of one connection
to_of : (n c : ℕ) (lines : List Event) → AreTo n c lines → AreOfClients lines
to_of n c [] l = tt
to_of n c (Event.Changed m v uuid change ∷ lines) l = (tt, to_of n c lines l.1)
to_of n c (Event.Reply m d bytes ∷ lines) l = (tt, to_of n c lines l.1)
to_of n c (Event.Asked (StreamName.Client m d) k v ask high log said ∷ lines) l = (tt, to_of n c lines l.1)
to_of n c (other ∷ lines) l = absurd l.0

left_of_clients : (n c : ℕ) (closed : Bool) (h : Handling) → LeftBy n c closed h → AreOfClients h.events
left_of_clients n c false h left = to_of n c h.events left
left_of_clients n c true h left = subst AreOfClients (sym left.2.1) (clients_more left.2.0 (Event.Closed n c ∷ []) (to_of n c left.2.0 left.2.2) (tt, tt))

-- the connections that a node keeps are told as its own, and are not closed
abbrev pub AllKept : ℕ → PlainNode → Type 0
AllKept n node = (c : ℕ) → IsKept n c (node.clients c)

-- of a client's bytes
pub bytes_of_clients : (n c : ℕ) (bytes : List ℕ) (node : PlainNode) → AllKept n node → AreOfClients (bytes_at c bytes node).1.events
bytes_of_clients n c bytes node kept = by (node.clients c) (kept c)
  where
    by : (o : Option PlainClient) → IsKept n c o → AreOfClients (bytes_if c bytes node o).1.events
    by None k = tt
    by (Some client) k = let x = after (client_fed node.clock bytes client) node.vbs in left_of_clients n c x.1.client.session.closed x.1 (fed_at n c node.clock client node.vbs k bytes).1

-- one outcome that is posted, which leaves all so
pub posted_of : (n : ℕ) (r : Resolved) (node : PlainNode) (o : Option ℕ) → AllKept n node → AreOfClients (posted_to r node o).1 × AllKept n (posted_to r node o).0
posted_of n r node None kept = (tt, kept)
posted_of n r node (Some c) kept = by (node.clients c) (kept c)
  where
    by : (o : Option PlainClient) → IsKept n c o → AreOfClients (posted_if c r node o).1 × AllKept n (posted_if c r node o).0
    by None k = (tt, kept)
    by (Some client) k =
        let x = after (client_posted node.clock r client) node.vbs in let at = posted_at n c node.clock client node.vbs k r in
        (left_of_clients n c x.1.client.session.closed x.1 at.1, λ d. one d (d == c) refl (left_open x.1.client) (kept_left n c x.1.client at.0))
      where
        one : (d : ℕ) (b : Bool) → (d == c) ≡ b → (o : Option PlainClient) → IsKept n c o → IsKept n d (if b then o else node.clients d)
        one d true e o here = subst (λ k. IsKept n k o) (sym (eqb-true d c e)) here
        one d false e o here = kept d

pub posts_of_clients : (n : ℕ) (rs : List Resolved) (node : PlainNode) → AllKept n node → AreOfClients (all_posted rs node).1
posts_of_clients n [] node kept = tt
posts_of_clients n (r ∷ rs) node kept =
    let o : Option ℕ = awaiting node.clients r.waiter MAX_CLIENTS in let one = posted_of n r node o kept in
    clients_more (posted_to r node o).1 (all_posted rs (posted_to r node o).0).1 one.0 (posts_of_clients n rs (posted_to r node o).0 one.1)

pub posts_kept : (n : ℕ) (rs : List Resolved) (node : PlainNode) → AllKept n node → AllKept n (all_posted rs node).0
posts_kept n [] node kept = kept
posts_kept n (r ∷ rs) node kept = let o : Option ℕ = awaiting node.clients r.waiter MAX_CLIENTS in posts_kept n rs (posted_to r node o).0 (posted_of n r node o kept).1

-- ---- and a node is as it was, but for its vBuckets and the connections of its clients

pub record SameBeside (node after : PlainNode) : Type 0 where
  pub shelves : after.shelves ≡ node.shelves
  pub arm : after.arm ≡ node.arm
  pub off : after.off ≡ node.off
  pub made : after.made ≡ node.made
  pub clock : after.clock ≡ node.clock

posted_keeps : (r : Resolved) (node : PlainNode) (o : Option ℕ) → SameBeside node (posted_to r node o).0
posted_keeps r node None = record { shelves = refl; arm = refl; off = refl; made = refl; clock = refl }
posted_keeps r node (Some c) = by (node.clients c)
  where
    by : (o : Option PlainClient) → SameBeside node (posted_if c r node o).0
    by None = record { shelves = refl; arm = refl; off = refl; made = refl; clock = refl }
    by (Some client) = record { shelves = refl; arm = refl; off = refl; made = refl; clock = refl }

pub posts_keep : (rs : List Resolved) (node : PlainNode) → SameBeside node (all_posted rs node).0
posts_keep [] node = record { shelves = refl; arm = refl; off = refl; made = refl; clock = refl }
posts_keep (r ∷ rs) node =
    let o : Option ℕ = awaiting node.clients r.waiter MAX_CLIENTS in
    let one = posted_keeps r node o in let more = posts_keep rs (posted_to r node o).0 in
    record { shelves = more.shelves ∙ one.shelves; arm = more.arm ∙ one.arm; off = more.off ∙ one.off; made = more.made ∙ one.made; clock = more.clock ∙ one.clock }
