-- what became of durable writes, told to the clients that await it
use Rattle.std.proofs.Common.{◌≡◌, ℕ, zero, suc, ◌+◌, ◌-◌, ◌/◌, ◌^◌, ◌<◌, ◌≤◌, Bool, true, false, List, [], ◌∷◌, ◌++◌, drop, get_or, length, refl, sym, ap, ◌∙◌, subst, Option, Some, None, is_some, arith, append_assoc, append-nil}
use Rattle.std.specs.Prelude.{if◌then◌else◌}
use Rattle.std.proofs.lemmas.List.{drop_more}
use Rattle.slab.specs.Slab.{get}
use Rattle.vb_calls.specs.declared.calls.Resolved.{Resolved}
use Rattle.vb_events.specs.declared.event.Event.{Event}
use Rattle.node_core.specs.declared.out.NodeOut.{NodeOut}
use Rattle.vb_calls.specs.Jobs.{after_job}
use Rattle.vb_calls.specs.Programs.{Prog, after}
use Rattle.vb_types.specs.declared.journal.FlushPart.{FlushPart}
use Rattle.node_core.specs.Flushing.{FlushResult}
use Rattle.node_core.specs.Outcomes.{conn_awaits, value_at}
use Rattle.node_core.specs.Outs.{flush_by}
use Rattle.node_core.specs.Clients.{PlainClient}
use Rattle.node_world.specs.declared.script_node.ScriptNode.{ScriptNode}
use Rattle.node_world.specs.declared.script_node.TheConstants.{MAX_CLIENTS}
use Rattle.node_world.specs.declared.told.Told.{Told}
use Rattle.node_world.specs.Ends.{Carries, KeepsEnds, Posts, PostsAll, PostsSo, PostsTo}
use Rattle.node_world.specs.Nodes.{PlainNode, all_posted, awaiting, awaiting_at, awaits_in, first_of, flush_here, flush_line, posted, posted_if, posted_to, settled, with_kept, with_posts, with_states}
use Rattle.node_world.specs.Stands.{NodeMatch, node_number}
use Rattle.node_world.specs.Bases.{NoneHas}
use Rattle.node_world.proofs.Armed.{both_keep}
use Rattle.node_world.proofs.OfBase.{not_of_base}
use Rattle.node_world.proofs.Clients.{found, keyed}
use Rattle.node_world.proofs.Conns.{client_got}
use Rattle.node_world.proofs.Nodes.{Flushes, SettlesBy}

-- ---- who awaits an outcome

-- a number with no key has no connection
no_client : (s : Option PlainClient) → is_some s ≡ false → s ≡ None
no_client None e = refl
no_client (Some s) e = cc

pub unkeyed : (seat : ScriptNode) (plain : PlainNode) (c : ℕ) → value_at seat.clients c ≡ None → NodeMatch seat plain → plain.clients c ≡ None
unkeyed seat plain c none stands = no_client (plain.clients c) (keyed seat plain c stands ∙ ap is_some none)

-- a client awaits what its connection awaits
pub awaits_as : (seat : ScriptNode) (plain : PlainNode) (waiter c key : ℕ) → value_at seat.clients c ≡ Some key → NodeMatch seat plain → awaits_in waiter (plain.clients c) ≡ conn_awaits waiter (get seat.node.conns key)
awaits_as seat plain waiter c key has stands =
    let (client, there, live) = found seat plain c key has stands in
    ap (awaits_in waiter) there ∙ sym (ap (conn_awaits waiter) (client_got (get seat.node.conns key) _ live))

module _ (clients : ℕ → Option PlainClient) (waiter : ℕ) where
  -- none below 0
  pub none_awaits : awaiting clients waiter 0 ≡ None
  unfolding awaiting
  none_awaits = refl

  at_next : (c : ℕ) (b : Bool) → awaits_in waiter (clients c) ≡ b → awaiting clients waiter c ≡ None → awaiting clients waiter (suc c) ≡ (if b then Some c else None)
  unfolding awaiting
  at_next c b e none = (λ i. first_of (none i) (if e i then Some c else None))

  -- one number more
  pub not_at : (c : ℕ) → awaits_in waiter (clients c) ≡ false → awaiting clients waiter c ≡ None → awaiting clients waiter (c + 1) ≡ None
  not_at c e none = let next : c + 1 ≡ suc c = omega arith in ap (awaiting clients waiter) next ∙ at_next c false e none

  -- one that was found stays
  stays : (c : ℕ) (m : ℕ) → awaiting clients waiter m ≡ Some c → awaiting clients waiter (suc m) ≡ Some c
  unfolding awaiting
  stays c m there = ap (λ o. first_of o (awaiting_at clients waiter m)) there

  stay : (c more : ℕ) → awaiting clients waiter (suc c) ≡ Some c → awaiting clients waiter (more + suc c) ≡ Some c
  stay c zero there = let same : 0 + suc c ≡ suc c = omega arith in ap (awaiting clients waiter) same ∙ there
  stay c (suc more) there = let same : suc more + suc c ≡ suc (more + suc c) = omega arith in ap (awaiting clients waiter) same ∙ stays c (more + suc c) (stay c more there)

  pub is_first : (c more n : ℕ) → more + suc c ≡ n → awaits_in waiter (clients c) ≡ true → awaiting clients waiter c ≡ None → awaiting clients waiter n ≡ Some c
  is_first c more n same e none = sym (ap (awaiting clients waiter) same) ∙ stay c more (at_next c true e none)

  none_passed : (from more : ℕ) → ((d : ℕ) → from ≤ d → d < more + from → awaits_in waiter (clients d) ≡ false) → awaiting clients waiter from ≡ None → awaiting clients waiter (more + from) ≡ None
  none_passed from zero others none = let same : 0 + from ≡ from = omega arith in ap (awaiting clients waiter) same ∙ none
  none_passed from (suc more) others none =
      let same : suc more + from ≡ suc (more + from) = omega arith in
      let before = none_passed from more (λ d above below. others d above (omega (arith, below))) none in
      ap (awaiting clients waiter) same ∙ at_next (more + from) false (others (more + from) (omega arith) (omega arith)) before

  -- numbers that are passed over, none of which awaits it
  none_between : (from n : ℕ) → from ≤ n → ((d : ℕ) → from ≤ d → d < n → awaits_in waiter (clients d) ≡ false) → awaiting clients waiter from ≡ None → awaiting clients waiter n ≡ None
  none_between from n le others none =
      let same : n - from + from ≡ n = omega (arith, le) in
      subst (λ m. awaiting clients waiter m ≡ None) same (none_passed from (n - from) (λ d above below. others d above (omega (arith, le, below))) none)

-- connections of other bases are passed over
pub passed_over : (seat : ScriptNode) (plain : PlainNode) (waiter base from n : ℕ) → base ≡ waiter / 2 ^ 32 → from ≤ n → NoneHas base from n seat.bases → NodeMatch seat plain → awaiting plain.clients waiter from ≡ None
    → awaiting plain.clients waiter n ≡ None
passed_over seat plain waiter base from n same le others stands none =
    none_between plain.clients waiter from n le (λ d above below. not_of_base seat plain waiter d (λ is. others d above below (is ∙ ap Some (sym same))) stands) none

-- ---- outcomes, one after the other

-- nothing is told where nobody awaits it
pub untold : (f : PlainNode → PlainNode × List Event) (old : ScriptNode) → ((plain : PlainNode) → NodeMatch old plain → f plain ≡ (plain, [])) → PostsSo f old [] old
untold f old same plain stands =
    let e = same plain stands in
    (subst (NodeMatch old) (sym (ap (λ (x : PlainNode × List Event). x.0) e)) stands, sym (ap (λ (x : PlainNode × List Event). x.1) e), record { number = refl; peers = λ key. refl; dials = λ v. refl })

-- nobody is there
pub none_posted : (outcome : Resolved) (old : ScriptNode) → ((plain : PlainNode) → NodeMatch old plain → None ≡ awaiting plain.clients outcome.waiter MAX_CLIENTS) → Posts outcome old [] old
none_posted outcome old none = untold (posted outcome) old (λ plain stands. ap (posted_to outcome plain) (sym (none plain stands)))

-- one is there
pub one_posted : (outcome : Resolved) (old new : ScriptNode) (c : ℕ) (lines : List Event) → ((plain : PlainNode) → NodeMatch old plain → Some c ≡ awaiting plain.clients outcome.waiter MAX_CLIENTS) → PostsTo c outcome old lines new → Posts outcome old lines new
one_posted outcome old new c lines is went plain stands =
    subst (λ (x : PlainNode × List Event). NodeMatch new x.0 × (lines ≡ x.1) × KeepsEnds old new) (ap (posted_to outcome plain) (is plain stands)) (went plain stands)

-- a number with no key has no connection
pub gone_posted : (outcome : Resolved) (old : ScriptNode) (c : ℕ) → value_at old.clients c ≡ None → PostsTo c outcome old [] old
gone_posted outcome old c none = untold (λ plain. posted_if c outcome plain (plain.clients c)) old (λ plain stands. ap (posted_if c outcome plain) (unkeyed old plain c none stands))

-- what is told of the outcomes that are left, behind these lines
abbrev pub behind : List Event → PlainNode × List Event → PlainNode × List Event
behind before (node, lines) = (node, before ++ lines)

-- so many outcomes were told: the node stands for one from which the others come to the same
pub record SoFar (outcomes : List Resolved) (plain : PlainNode) (i : ℕ) (lines : List Event) (old self : ScriptNode) : Type 0 where
  pub now : PlainNode
  pub stands : NodeMatch self now
  pub rest : all_posted outcomes plain ≡ behind lines (all_posted (drop i outcomes) now)
  pub keeps : KeepsEnds old self

abbrev pub PostsSoFar : List Resolved → ScriptNode → List Event → ℕ → List Event → ScriptNode → Type 0
PostsSoFar outcomes old before i lines self = (more : List Event) × (lines ≡ before ++ more) × ((plain : PlainNode) → NodeMatch old plain → SoFar outcomes plain i more old self)

module _ (outcomes : List Resolved) (old : ScriptNode) (before : List Event) where
  pub none_told : PostsSoFar outcomes old before 0 before old
  none_told = (
    [],
    sym (append-nil before),
    λ plain stands. record { now = plain; stands = stands; rest = refl; keeps = record { number = refl; peers = λ key. refl; dials = λ v. refl } },
  )

  -- one more
  pub one_more : (i : ℕ) (d : Resolved) → i < length outcomes → (lines told : List Event) (self self' : ScriptNode) → PostsSoFar outcomes old before i lines self → Posts (get_or outcomes i d) self told self'
      → PostsSoFar outcomes old before (i + 1) (lines ++ told) self'
  one_more i d lt lines told self self' (more, is, so_far) went = (
    more ++ told,
    ap (λ ls. ls ++ told) is ∙ append_assoc before more told,
    λ plain stands.
        let s = so_far plain stands in
        let (alike, said, keeps) = went s.now s.stands in
        let x : PlainNode × List Event = posted (get_or outcomes i d) s.now in
        let rest : List Resolved = drop (i + 1) outcomes in
        record {
          now = x.0;
          stands = alike;
          rest = s.rest ∙ ap (λ rs. behind more (all_posted rs s.now)) (drop_more outcomes i d lt) ∙ by more x.1 (all_posted rest x.0) ∙ ap (λ ls. behind (more ++ ls) (all_posted rest x.0)) (sym said);
          keeps = both_keep old self self' s.keeps keeps;
        },
  )
    where
      by : (xs ys : List Event) (y : PlainNode × List Event) → behind xs (behind ys y) ≡ behind (xs ++ ys) y
      by xs ys y = λ k. (y.0, sym (append_assoc xs ys y.1) k)

  -- all were told
  pub all_told : (i : ℕ) (lines : List Event) (self : ScriptNode) → drop i outcomes ≡ [] → PostsSoFar outcomes old before i lines self → PostsAll outcomes old before self lines
  all_told i lines self none (more, is, so_far) = (
    more,
    is,
    λ plain stands.
        let s = so_far plain stands in
        let all : all_posted outcomes plain ≡ (s.now, more) = s.rest ∙ ap (λ rs. behind more (all_posted rs s.now)) none ∙ (λ k. (s.now, append-nil more k)) in
        subst (λ (x : PlainNode × List Event). NodeMatch self x.0 × (more ≡ x.1) × KeepsEnds old self) (sym all) (s.stands, refl, s.keeps),
  )

-- ---- what calls told, and behind it what came of the outcomes

-- what a call handed out
pub tells : (old new : ScriptNode) (out : NodeOut) (lines : List Event) (told : Told) → PostsAll out.resolved old out.events new lines → told ≡ record { events = lines; answer = out.answer } → Carries (with_posts (flush_by out)) old told new
tells old new out lines told (more, is, went) says plain stands =
    let (alike, said, keeps) = went plain stands in
    (alike, says ∙ (λ i. record { events = (is ∙ ap (λ ls. out.events ++ ls) said) i; answer = out.answer }), keeps)

-- a call made this of the plain node, and told this, and then what came of the outcomes was told
pub then_told : (f : PlainNode → PlainNode × FlushResult) (old mid new : ScriptNode) (out : NodeOut) (told : Told) → ((plain : PlainNode) → NodeMatch old plain → NodeMatch mid (f plain).0 × (flush_by out ≡ (f plain).1) × KeepsEnds old mid)
    → Carries (with_posts (flush_by out)) mid told new → Carries (λ plain. with_posts (f plain).1 (f plain).0) old told new
then_told f old mid new out told first second plain stands =
    let (alike, said, keeps) = first plain stands in
    let went = second (f plain).0 alike in
    let all : NodeMatch new (with_posts (f plain).1 (f plain).0).0 × (told ≡ (with_posts (f plain).1 (f plain).0).1) × KeepsEnds mid new =
    subst (λ (t : FlushResult). NodeMatch new (with_posts t (f plain).0).0 × (told ≡ (with_posts t (f plain).0).1) × KeepsEnds mid new) said went in
    (all.0, all.1, both_keep old mid new keeps all.2)

-- a step of writing a vBucket down
pub writes : (v : ℕ) (part : FlushPart) (old mid new : ScriptNode) (out : NodeOut) (told : Told) → Flushes v part old out mid → Carries (with_posts (flush_by out)) mid told new → Carries (flush_line (node_number old) v part) old told new
writes v part old mid new out told first second =
    then_told (λ plain. let came = after_job (flush_here (node_number old) v part plain) plain.vbs plain.shelves in (with_kept plain came.0, came.1)) old mid new out told first second

-- a call that let a vBucket resolve durable writes
pub settles_told : (called : PlainNode → Prog FlushResult) (old mid new : ScriptNode) (out : NodeOut) (told : Told) → SettlesBy called old out mid → Carries (with_posts (flush_by out)) mid told new
    → Carries (λ plain. settled plain (after (called plain) plain.vbs)) old told new
settles_told called old mid new out told first second =
    then_told (λ plain. let came = after (called plain) plain.vbs in (with_states plain came.0, came.1)) old mid new out told first second

-- ---- what outcomes leave

-- a plain node of which only vBuckets and clients are others
pub record SameRest (old new : PlainNode) : Type 0 where
  pub shelves : new.shelves ≡ old.shelves
  pub made : new.made ≡ old.made
  pub clock : new.clock ≡ old.clock
  pub arm : new.arm ≡ old.arm
  pub off : new.off ≡ old.off

rest_again : (node : PlainNode) → SameRest node node
rest_again node = record { shelves = refl; made = refl; clock = refl; arm = refl; off = refl }

rest_of_both : (old mid new : PlainNode) → SameRest old mid → SameRest mid new → SameRest old new
rest_of_both old mid new first second = record {
  shelves = second.shelves ∙ first.shelves;
  made = second.made ∙ first.made;
  clock = second.clock ∙ first.clock;
  arm = second.arm ∙ first.arm;
  off = second.off ∙ first.off;
}

rest_at : (r : Resolved) (node : PlainNode) (c : ℕ) (s : Option PlainClient) → SameRest node (posted_if c r node s).0
rest_at r node c None = rest_again node
rest_at r node c (Some client) = record { shelves = refl; made = refl; clock = refl; arm = refl; off = refl }

rest_to : (r : Resolved) (node : PlainNode) (o : Option ℕ) → SameRest node (posted_to r node o).0
rest_to r node None = rest_again node
rest_to r node (Some c) = rest_at r node c (node.clients c)

-- so it is after outcomes
pub posts_rest : (rs : List Resolved) (node : PlainNode) → SameRest node (all_posted rs node).0
posts_rest [] node = rest_again node
posts_rest (r ∷ rs) node = rest_of_both node (posted r node).0 _ (rest_to r node (awaiting node.clients r.waiter MAX_CLIENTS)) (posts_rest rs (posted r node).0)
