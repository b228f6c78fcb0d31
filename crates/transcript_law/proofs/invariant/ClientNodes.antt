-- the connections of clients at one node are those that the lines tell open
use Rattle.std.specs.Prelude.{◌≡◌, ◌<◌, ◌∷◌, ◌++◌, ◌==◌, if◌then◌else◌}
use Rattle.transcript_law.proofs.Words.{ℕ, Bool, true, false, List, [], refl, ap, sym, ◌∙◌, subst, not, eqb-true, Option, Some, None, is_some, States, after, left_open, Event, PlainNode, with_client, with_states}
use Rattle.node_core.specs.Clients.{Handling, PlainClient, client_posted}
use Rattle.node_world.specs.Nodes.{all_posted, awaiting, posted_if, posted_to}
use Rattle.node_world.specs.declared.script_node.TheConstants.{MAX_CLIENTS}
use Rattle.transcript_law.proofs.lines.{Heard.{AllSay, AreMute, conns_more, mute_same, mute_say, row_here, row_there, say_more}, SessionLines.{At, IsKept, kept_left, left_say, posted_at}, PullTold.{ArePut}}
use Rattle.transcript_law.specs.Chronicles.{Conns, conns_lines, with_at}
use Rattle.vb_calls.specs.declared.calls.Resolved.{Resolved}

-- the connections of the node n that are told open are those that it has, whose numbers have three digits at most; and one that does not run has none
pub record NodeTold (opened : ℕ → Bool) (n : ℕ) (node : PlainNode) : Type 0 where
  pub told : (c : ℕ) → opened c ≡ is_some (node.clients c)
  pub kept : (c : ℕ) → IsKept n c (node.clients c)
  pub small : (c : ℕ) → opened c ≡ true → c < 1000
  pub down : is_some node.off ≡ true → (c : ℕ) → opened c ≡ false

-- a node with the same connections, which runs or does not as before
pub same_told : (opened : ℕ → Bool) (n : ℕ) (node node' : PlainNode) → ((c : ℕ) → node'.clients c ≡ node.clients c) → node'.off ≡ node.off → NodeTold opened n node → NodeTold opened n node'
same_told opened n node node' clients off t = record {
  told = λ c. t.told c ∙ sym (ap is_some (clients c));
  kept = λ c. subst (IsKept n c) (sym (clients c)) (t.kept c);
  small = t.small;
  down = λ e. t.down (ap is_some (sym off) ∙ e);
}

-- a node that has none, where none is told open
pub none_told : (opened : ℕ → Bool) (n : ℕ) (node : PlainNode) → ((c : ℕ) → opened c ≡ false) → ((c : ℕ) → node.clients c ≡ None) → NodeTold opened n node
none_told opened n node closed none = record {
  told = λ c. closed c ∙ sym (ap is_some (none c));
  kept = λ c. subst (IsKept n c) (sym (none c)) tt;
  small = λ c e. let z : true ≡ false = sym e ∙ closed c in cc;
  down = λ e. closed;
}

-- nor does one that does not run have any
none_there : (o : Option PlainClient) → is_some o ≡ false → o ≡ None
none_there None e = refl
none_there (Some client) e = cc

pub none_down : (opened : ℕ → Bool) (n : ℕ) (node : PlainNode) → NodeTold opened n node → is_some node.off ≡ true → (c : ℕ) → node.clients c ≡ None
none_down opened n node t off c = none_there (node.clients c) (sym (t.told c) ∙ t.down off c)

-- another connection, or none, under the number c of a node that runs
pub put_told : (opened : ℕ → Bool) (n c : ℕ) (b : Bool) (o : Option PlainClient) (node : PlainNode) → b ≡ is_some o → IsKept n c o → (b ≡ true → c < 1000) → is_some node.off ≡ false → NodeTold opened n node
    → NodeTold (λ d. if d == c then b else opened d) n (with_client node c o)
put_told opened n c b o node is kept low runs t = record {
  told = λ d. elim (d == c) as (λ x. (if x then b else opened d) ≡ is_some (if x then o else node.clients d)) [ true ↦ is | false ↦ t.told d ];
  kept = λ d. by d (d == c) refl;
  small = λ d. least d (d == c) refl;
  down = λ off d. let z : true ≡ false = sym off ∙ runs in cc;
}
  where
    by : (d : ℕ) (x : Bool) → (d == c) ≡ x → IsKept n d (if x then o else node.clients d)
    by d true e = subst (λ k. IsKept n k o) (sym (eqb-true d c e)) kept
    by d false e = t.kept d

    least : (d : ℕ) (x : Bool) → (d == c) ≡ x → (if x then b else opened d) ≡ true → d < 1000
    least d true e opens = subst (λ k. k < 1000) (sym (eqb-true d c e)) (low opens)
    least d false e opens = t.small d opens

-- what lines of the node n alone tell, which leave it so
pub record NodeGoes (conns : Conns) (n : ℕ) (node : PlainNode) (lines : List Event) : Type 0 where
  pub says : AllSay conns lines
  pub here : NodeTold (conns_lines conns lines n) n node
  pub others : (m : ℕ) → (m ≡ n → ⊥) → conns_lines conns lines m ≡ conns m

-- lines that tell of none
pub mute_goes : (conns : Conns) (n : ℕ) (node : PlainNode) (lines : List Event) → AreMute lines → NodeTold (conns n) n node → NodeGoes conns n node lines
mute_goes conns n node lines mute t = record {
  says = mute_say conns lines mute;
  here = subst (λ (u : Conns). NodeTold (u n) n node) (sym (mute_same conns lines mute)) t;
  others = λ m ne. ap (λ (u : Conns). u m) (mute_same conns lines mute);
}

-- and more of them
pub goes_more : (conns : Conns) (n : ℕ) (node node' : PlainNode) (lines more : List Event) → NodeGoes conns n node lines → NodeGoes (conns_lines conns lines) n node' more → NodeGoes conns n node' (lines ++ more)
goes_more conns n node node' lines more a b = record {
  says = say_more conns lines more a.says b.says;
  here = subst (λ (u : Conns). NodeTold (u n) n node') (sym (conns_more conns lines more)) b.here;
  others = λ m ne. ap (λ (u : Conns). u m) (conns_more conns lines more) ∙ b.others m ne ∙ a.others m ne;
}

-- a client that was served, which may have closed
pub session_goes : (conns : Conns) (n c : ℕ) (node : PlainNode) (client : PlainClient) (x : States × Handling) → node.clients c ≡ Some client → is_some node.off ≡ false → NodeTold (conns n) n node → At n c x
    → NodeGoes conns n (with_client (with_states node x.0) c (left_open x.1.client)) x.1.events
session_goes conns n c node client x there runs t now = record {
  says = said.0;
  here = subst (λ (u : Conns). NodeTold (u n) n node') (sym said.1) (subst (λ (u : ℕ → Bool). NodeTold u n node') (sym (row_here conns n c b))
      (put_told (conns n) n c b (left_open x.1.client) (with_states node x.0) still (kept_left n c x.1.client now.0) (λ e. t.small c opened) runs (same_told (conns n) n node (with_states node x.0) (λ d. refl) refl t)));
  others = λ m ne. ap (λ (u : Conns). u m) said.1 ∙ row_there conns n c b m ne;
}
  where
    b : Bool
    b = not x.1.client.session.closed

    node' : PlainNode
    node' = with_client (with_states node x.0) c (left_open x.1.client)

    opened : conns n c ≡ true
    opened = t.told c ∙ ap is_some there

    said : AllSay conns x.1.events × (conns_lines conns x.1.events ≡ with_at conns n c b)
    said = left_say conns n c x.1.client.session.closed x.1 opened now.1

    still : b ≡ is_some (left_open x.1.client)
    still = elim x.1.client.session.closed as (λ k. not k ≡ is_some (if k then None else Some x.1.client)) [ true ↦ refl | false ↦ refl ]

-- a connection is there only where its node runs
pub runs_with : (opened : ℕ → Bool) (n c : ℕ) (node : PlainNode) (client : PlainClient) → node.clients c ≡ Some client → NodeTold opened n node → is_some node.off ≡ false
runs_with opened n c node client there t = by (is_some node.off) refl
  where
    by : (b : Bool) → is_some node.off ≡ b → b ≡ false
    by true e = let z : Some client ≡ None = sym there ∙ none_down opened n node t e c in cc
    by false e = refl

-- frames of an open connection, which stays as it is known
put_say : (conns : Conns) (n c : ℕ) (lines : List Event) → conns n c ≡ true → ArePut n c lines → AllSay conns lines
put_say conns n c [] opened a = tt
put_say conns n c (Event.Marked stream start end flags ∷ lines) opened a = (tt, put_say conns n c lines opened a.1)
put_say conns n c (Event.Item stream seq act key ∷ lines) opened a = (tt, put_say conns n c lines opened a.1)
put_say conns n c (Event.Finished stream reason ∷ lines) opened a = (tt, put_say conns n c lines opened a.1)
put_say conns n c (Event.Stated stream role ∷ lines) opened a = (tt, put_say conns n c lines opened a.1)
put_say conns n c (Event.Reply m d bytes ∷ lines) opened a = ((λ i. conns (a.0.0 i) (a.0.1 i)) ∙ opened, put_say conns n c lines opened a.1)
put_say conns n c (other ∷ lines) opened a = absurd a.0

put_stays : (conns : Conns) (n c : ℕ) (lines : List Event) → ArePut n c lines → conns_lines conns lines ≡ conns
put_stays conns n c [] a = refl
put_stays conns n c (Event.Marked stream start end flags ∷ lines) a = put_stays conns n c lines a.1
put_stays conns n c (Event.Item stream seq act key ∷ lines) a = put_stays conns n c lines a.1
put_stays conns n c (Event.Finished stream reason ∷ lines) a = put_stays conns n c lines a.1
put_stays conns n c (Event.Stated stream role ∷ lines) a = put_stays conns n c lines a.1
put_stays conns n c (Event.Reply m d bytes ∷ lines) a = put_stays conns n c lines a.1
put_stays conns n c (other ∷ lines) a = absurd a.0

pub put_goes_on : (conns : Conns) (n c : ℕ) (node' : PlainNode) (lines : List Event) → conns n c ≡ true → ArePut n c lines → NodeTold (conns n) n node' → NodeGoes conns n node' lines
put_goes_on conns n c node' lines opened a t = record {
  says = put_say conns n c lines opened a;
  here = subst (λ (u : Conns). NodeTold (u n) n node') (sym (put_stays conns n c lines a)) t;
  others = λ m ne. ap (λ (u : Conns). u m) (put_stays conns n c lines a);
}

-- outcomes that are posted
posted_goes : (conns : Conns) (n : ℕ) (r : Resolved) (node : PlainNode) (o : Option ℕ) → NodeTold (conns n) n node → NodeGoes conns n (posted_to r node o).0 (posted_to r node o).1
posted_goes conns n r node None t = mute_goes conns n node [] tt t
posted_goes conns n r node (Some c) t = by (node.clients c) refl
  where
    by : (o : Option PlainClient) → node.clients c ≡ o → NodeGoes conns n (posted_if c r node o).0 (posted_if c r node o).1
    by None e = mute_goes conns n node [] tt t
    by (Some client) e =
        let kept : IsKept n c (Some client) = subst (IsKept n c) e (t.kept c) in
        session_goes conns n c node client (after (client_posted node.clock r client) node.vbs) e (runs_with (conns n) n c node client e t) t (posted_at n c node.clock client node.vbs kept r)

pub posts_goes : (conns : Conns) (n : ℕ) (rs : List Resolved) (node : PlainNode) → NodeTold (conns n) n node → NodeGoes conns n (all_posted rs node).0 (all_posted rs node).1
posts_goes conns n [] node t = mute_goes conns n node [] tt t
posts_goes conns n (r ∷ rs) node t =
    let o : Option ℕ = awaiting node.clients r.waiter MAX_CLIENTS in let one = posted_to r node o in
    let first = posted_goes conns n r node o t in
    goes_more conns n one.0 (all_posted rs one.0).0 one.1 (all_posted rs one.0).1 first (posts_goes (conns_lines conns one.1) n rs one.0 first.here)

-- and those of a call that left the connections, behind its lines
pub told_goes : (conns : Conns) (n : ℕ) (rs : List Resolved) (node : PlainNode) (lines : List Event) → AreMute lines → NodeTold (conns n) n node → NodeGoes conns n (all_posted rs node).0 (lines ++ (all_posted rs node).1)
told_goes conns n rs node lines mute t =
    let first = mute_goes conns n node lines mute t in goes_more conns n node (all_posted rs node).0 lines (all_posted rs node).1 first (posts_goes (conns_lines conns lines) n rs node first.here)
