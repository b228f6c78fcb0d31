-- the worlds that a producer goes through as it puts frames
use Rattle.std.specs.Prelude.{◌≡◌, ◌≢◌, ◌⊎◌, ◌∷◌, ◌++◌, ◌==◌, ◌&&◌, ◌||◌, if◌then◌else◌}
use Rattle.transcript_law.proofs.{invariant.Agreement.{shelf_of}, verbs.NodeLines.{powers_again, shelves_again}}
use Rattle.transcript_law.proofs.Words.{ℕ, true, false, List, [], refl, ap, sym, ◌∙◌, subst, Some, eqb-true, eq-eqb, ne_eqb, Event, Plain, row_put, States}
use Rattle.transcript_law.proofs.Words.{with_vb_at, Halt, PlainProducer, Served, PlainLink, link_number, producer_node, PlainNode, PlainWorld, vb_in, with_node_at, with_states, with_links, Chronicle}
use Rattle.transcript_law.proofs.Words.{after_line, after_lines, Granted, with_changed, LawfulLine, LawfulFrom, Turn, More, Stop, StreamName, Why, told, why_of}
use Rattle.transcript_law.proofs.{invariant.Agreement.{vb_of, Agrees, IsLink, idle}, invariant.SameWorld.{carries_same}}
use Rattle.transcript_law.proofs.lines.Pulling.{lets_through}
use Rattle.transcript_law.proofs.lines.Lines.{IsQuiet, AreQuiet, after_more, lawful_more, quiet_more}
use Rattle.transcript_law.proofs.invariant.{Noted.{CameIf, KeptFor, KeptLink, NotedLink, NotedStream}, Tables.{changed_there, id_there}}
use Rattle.{dcp_producer.specs.Pulling.{Pulling, none_quiet}, transcript_law.specs.Undone.{AllPut}}
use Rattle.transcript_law.proofs.invariant.Carrying.{SamePowers, ToldOf}
use Rattle.transcript_law.proofs.invariant.Owing.{later_same}
use Rattle.transcript_law.proofs.Words.{and_parts, All, All-cons, All-head, All-nil, All-weaker, Bool, Dial, None, Option, PlainStream, Role, inl, inr, list_any, list_any-append, or-true, stream_branch, ⊎_elim}
use Rattle.takeover.specs.declared.give_up.{GiveStep.TheVariants.{AwaitActive, AwaitPending, End, SendAll, SendRest, Yield}, GiveStep.{GiveStep}, GiveUp.{GiveUp}}
use Rattle.mcbp_frame.specs.Spelling.{Readable, spelling}
use Rattle.transcript_law.proofs.{Words.{Frame}, links.PumpEnds.{EndsSo, PutsSo, puts_more}}
use Rattle.transcript_law.specs.{Heirs.{IsWriter}, LinesTold.{Put, TakeoverKnown, after_state, with_id}, TakeoverLines.{TakeoverFrom, TakeoverLine}, TakeoverAnswers.{Awaits, NoneAwaits, NoneTakesOn}, TakeoverNotes.{is_state_of}, Tellings.{are_all, is_of_pump}}

-- the link with this end at its producer, and with what that wrote
abbrev pub served_link : PlainLink → Served → PlainLink
served_link link s = record link { server = s.end; down = link.down ++ s.out }

-- the world in which the producer's node has these vBuckets, and the link of the number l this end
abbrev pub pumped : PlainWorld → ℕ → PlainLink → PlainNode → States → Served → PlainWorld
pumped w l link node states s = with_links (with_node_at w (producer_node link) (with_states node states)) (row_put link_number l (served_link link s) w.links)

-- a stream is at its end where its consumer told that its vBucket took over
abbrev pub OwnedBy : TakeoverKnown → PlainStream → Type 0
OwnedBy t stream = stream.gives ≡ Some (record { step = End }) → t.obeyed ≢ Put

-- what is noted of a link, and of who writes; `before` is what was read before the group
pub record LinkKnown (before r : Chronicle) (link : PlainLink) : Type 0 where
  pub noted : NotedLink (before.takeover_of (link_number link)) link
  pub owned : All (OwnedBy (before.takeover_of (link_number link))) link.server.streams
  pub kept : KeptLink r link

-- so it is of each link, in front of a group
abbrev pub AllKnown : PlainWorld → Chronicle → Type 0
AllKnown w r = (link : PlainLink) → IsLink link w.links → LinkKnown r r link

-- a state went on this stream, and it stands so now: pending first, and active once its vBucket was given up
abbrev pub StatesOn : PlainStream → PlainStream → Type 0
StatesOn x stream = ((x.gives ≡ Some (record { step = SendAll })) × (stream.gives ≡ Some (record { step = AwaitPending }))) ⊎ ((x.gives ≡ Some (record { step = SendRest })) × (stream.gives ≡ Some (record { step = AwaitActive })))

-- this stream stands so now: in its step, or behind a state that was put
abbrev pub StepsOn : Bool → PlainStream → PlainStream → Type 0
StepsOn puts x stream = (stream.ended ≡ x.ended) × (((puts ≡ false) × (stream.gives ≡ x.gives)) ⊎ ((puts ≡ true) × StatesOn x stream))

-- one of these stands so now
abbrev pub HasStep : Bool → PlainStream → List PlainStream → Type 0
HasStep puts stream [] = ⊥
HasStep puts stream (x ∷ xs) = StepsOn puts x stream ⊎ HasStep puts stream xs

-- each of its streams was one of these, and a state was put on it exactly where one is told of
abbrev pub Stepped : ℕ → List PlainStream → List Event → List PlainStream → Type 0
Stepped l first events streams = All (λ stream. HasStep (list_any (is_state_of l) events) stream first) streams

-- who writes for the other links stays so
abbrev pub OthersKept : PlainWorld → ℕ → Chronicle → Chronicle → Type 0
OthersKept w l r r' = (x : PlainLink) → IsLink x w.links → (link_number x ≡ l → ⊥) → KeptLink r x → KeptLink r' x

-- by lines of a stream of the link
pub kept_as : (r r' : Chronicle) (n v : ℕ) (told told' : Option Granted) (streams : List PlainStream) → ((u : ℕ) → IsWriter r n v u → IsWriter r' n v u) → told' ≡ told → All (KeptFor r n v told) streams → All (KeptFor r' n v told') streams
kept_as r r' n v told told' streams writes same all = All-weaker (KeptFor r n v told) (KeptFor r' n v told') (λ s kept g e step alive. writes (stream_branch g) (kept g (sym same ∙ e) step alive)) streams all

pub others_stream : (w : PlainWorld) (r : Chronicle) (l : ℕ) (f : Granted → Granted) → OthersKept w l r (with_changed r (StreamName.Link l) f)
others_stream w r l f x i ne kept = kept_as r (with_changed r (StreamName.Link l) f) (producer_node x) x.consumer.dialed.vb (r.stream_of (StreamName.Link (link_number x)) x.consumer.dialed.vb) ((with_changed r (StreamName.Link l) f).stream_of (StreamName.Link (link_number x)) x.consumer.dialed.vb) x.server.streams
    (λ u y. record { made_or_took = y.made_or_took; on_branch = y.on_branch }) (changed_there r l f (link_number x) x.consumer.dialed.vb ne) kept

-- by a state that is no end of its vBucket's
pub others_offer : (w : PlainWorld) (r : Chronicle) (l : ℕ) → OthersKept w l r (after_state r l Role.Pending)
others_offer w r l x i ne kept = kept_as r (after_state r l Role.Pending) (producer_node x) x.consumer.dialed.vb (r.stream_of (StreamName.Link (link_number x)) x.consumer.dialed.vb) (r.stream_of (StreamName.Link (link_number x)) x.consumer.dialed.vb) x.server.streams
    (λ u y. record { made_or_took = y.made_or_took; on_branch = y.on_branch }) refl kept

-- the lines so far are lawful, and the world so far agrees
pub record SoFar (w : PlainWorld) (r : Chronicle) (l : ℕ) (link : PlainLink) (node : PlainNode) (states : States) (s : Served) : Type 0 where
  pub lawful : LawfulFrom r s.events
  pub quiet : AreQuiet s.events
  pub desk : s.end.desk ≡ link.server.desk
  pub agrees : Agrees (pumped w l link node states s) (after_lines r s.events)
  pub known : LinkKnown r (after_lines r s.events) (served_link link s)
  pub stepped : Stepped l link.server.streams s.events s.end.streams
  pub hands : TakeoverFrom r s.events
  pub own : are_all (is_of_pump l) s.events ≡ true
  pub beside : OthersKept w l r (after_lines r s.events)
  pub ends : PutsSo r link s.out

-- where no frame was put: if there is no more to put, all was put that the lines so far let the stream have, and it is of no takeover; if a state is waited for, a stream of one stands behind that; and it is for no journal yet
pub record Stopped (r : Chronicle) (l : ℕ) (why : Why) : Type 0 where
  pub idle : why ≡ Why.Idle → AllPut r l × NoneTakesOn r l
  pub saved : why ≡ Why.WaitSaved → NoneAwaits r l
  pub state : why ≡ Why.WaitState → (dial : Dial) × (g : Granted) × Awaits r l dial g
  pub unread : why ≡ Why.Disk → ⊥

-- a stream waits for the answer to a state, or behind it until its vBucket is given up
abbrev pub IsWaiting : Option GiveUp → Type 0
IsWaiting gives = (gives ≡ Some (record { step = AwaitPending })) ⊎ (gives ≡ Some (record { step = Yield })) ⊎ (gives ≡ Some (record { step = AwaitActive }))

-- where no frame was put the window is shut, or a stream waits; it is never said that all were
pub record Halted (end : PlainProducer) (why : Why) : Type 0 where
  pub full : why ≡ Why.Full → lets_through end ≡ false
  pub some : why ≢ Why.All
  pub waiting : why ≡ Why.WaitState → (stream : PlainStream) × (end.streams ≡ stream ∷ []) × (stream.ended ≡ false) × IsWaiting stream.gives

-- the same after one frame, behind which no stream is quiet, or where none was put
abbrev pub TurnSoFar : PlainWorld → Chronicle → ℕ → PlainLink → PlainNode → States → Turn Pulling (Served × Halt) → Type 0
TurnSoFar w r l link node states (More p) = SoFar w r l link node states p.served × (p.quiet ≡ none_quiet)
TurnSoFar w r l link node states (Stop stopped) = SoFar w r l link node states stopped.0 × Stopped (after_lines r stopped.0.events) l (why_of stopped.1) × Halted stopped.0.end (why_of stopped.1)

-- a window that is shut says nothing
pub full_stopped : (r : Chronicle) (l : ℕ) → Stopped r l Why.Full
full_stopped r l = record { idle = λ e. cc; saved = λ e. cc; state = λ e. cc; unread = λ e. cc }

-- of the states and what a program came to
abbrev pub TurnsSoFar : PlainWorld → Chronicle → ℕ → PlainLink → PlainNode → States × Turn Pulling (Served × Halt) → Type 0
TurnsSoFar w r l link node x = TurnSoFar w r l link node x.0 x.1

module _ (w : PlainWorld) (l : ℕ) (link : PlainLink) (node : PlainNode) where
  pub pumped_here : (states : States) (s : Served) (v : ℕ) → vb_of (pumped w l link node states s) (producer_node link) v ≡ states v
  pumped_here states s v = ap (λ b. vb_in (if b then Some (with_states node states) else w.nodes (producer_node link)) v) (eq-eqb (producer_node link) (producer_node link) refl)

  -- by what the states are at each number
  pub pumped_where : (states states' : States) (s s' : Served) (m v : ℕ) → (m ≡ producer_node link → states' v ≡ states v)
      → vb_of (pumped w l link node states' s') m v ≡ vb_of (pumped w l link node states s) m v
  pumped_where states states' s s' m v same = elim (m == producer_node link)
      as (λ b. (m == producer_node link) ≡ b → vb_in (if b then Some (with_states node states') else w.nodes m) v ≡ vb_in (if b then Some (with_states node states) else w.nodes m) v)
      [ true ↦ λ e. same (eqb-true m (producer_node link) e) | false ↦ λ e. refl ] refl

  -- the journals are the same
  pub pumped_shelves : (states states' : States) (s s' : Served) (m v : ℕ) → shelf_of (pumped w l link node states' s') m v ≡ shelf_of (pumped w l link node states s) m v
  pumped_shelves states states' s s' = shelves_again w (producer_node link) (with_states node states) (with_states node states') (λ q. refl)

  -- and the arms
  pub pumped_powers : (states states' : States) (s s' : Served) → SamePowers (pumped w l link node states s) (pumped w l link node states' s')
  pumped_powers states states' s s' = powers_again w (producer_node link) (with_states node states) (with_states node states') refl

-- the states with the same one and then another one at v
pub twice_here : (states : States) (v : ℕ) (p p' : Plain) → with_vb_at (with_vb_at states v p) v p' v ≡ Some p'
twice_here states v p p' = ap (λ b. if b then Some p' else with_vb_at states v p v) (eq-eqb v v refl)

pub twice_there : (states : States) (v : ℕ) (p p' : Plain) (q : ℕ) → (q ≡ v → ⊥) → with_vb_at (with_vb_at states v p) v p' q ≡ states q
twice_there states v p p' q ne = ap (λ b. if b then Some p' else (if b then Some p else states q)) (ne_eqb q v ne)

pub once_same : (states : States) (v : ℕ) (p : Plain) → states v ≡ Some p → (q : ℕ) → with_vb_at states v p q ≡ states q
once_same states v p has q = elim (q == v) as (λ b. (q == v) ≡ b → (if b then Some p else states q) ≡ states q)
    [ true ↦ (λ e. sym has ∙ ap states (sym (eqb-true q v e))) | false ↦ (λ e. refl) ] refl

pub twice_same : (states : States) (v : ℕ) (p : Plain) → states v ≡ Some p → (q : ℕ) → with_vb_at (with_vb_at states v p) v p q ≡ states q
twice_same states v p has q = elim (q == v) as (λ b. (q == v) ≡ b → (if b then Some p else (if b then Some p else states q)) ≡ states q)
    [ true ↦ λ e. sym (ap states (eqb-true q v e) ∙ has) | false ↦ λ e. refl ] refl

-- one more line of a takeover stands where it may
pub hands_more : (r : Chronicle) (events : List Event) (line : Event) → TakeoverFrom r events → TakeoverLine (after_lines r events) line → TakeoverFrom r (events ++ line ∷ [])
hands_more r [] line all one = (one, tt)
hands_more r (e ∷ es) line all one = (all.0, hands_more (after_line r e) es line all.1 one)

-- and is one of the link's
pub own_more : (test : Event → Bool) (events : List Event) (line : Event) → are_all test events ≡ true → test line ≡ true → are_all test (events ++ line ∷ []) ≡ true
own_more test [] line all one = λ i. one i && true
own_more test (e ∷ es) line all one = let p = and_parts (test e) (are_all test es) all in λ i. p.0 i && own_more test es line p.1 one i

-- one more line, and the world after it
pub so_far_more : (w : PlainWorld) (r : Chronicle) (l : ℕ) (link : PlainLink) (node : PlainNode) (states states' : States) (s : Served) (end : PlainProducer) (f : Frame) (count : ℕ) (line told : Event)
    → SoFar w r l link node states s → line ≡ told → IsQuiet told → LawfulLine (after_lines r s.events) told [] → end.desk ≡ link.server.desk
    → Agrees (pumped w l link node states' (record { end = end; events = []; out = s.out ++ spelling f; count = 0; resolved = [] })) (after_line (after_lines r s.events) told)
    → LinkKnown r (after_line (after_lines r s.events) told) (record link { server = end; down = link.down ++ (s.out ++ spelling f) }) → Stepped l link.server.streams (s.events ++ told ∷ []) end.streams → TakeoverLine (after_lines r s.events) told → is_of_pump l told ≡ true → OthersKept w l (after_lines r s.events) (after_line (after_lines r s.events) told) → Readable f → EndsSo r link f
    → SoFar w r l link node states' (record { end = end; events = s.events ++ line ∷ []; out = s.out ++ spelling f; count = count; resolved = s.resolved })
so_far_more w r l link node states states' s end f count line told g is quiet lawful desk agrees known stepped hands own beside good ends =
    subst (λ x. SoFar w r l link node states' (record { end = end; events = s.events ++ x ∷ []; out = s.out ++ spelling f; count = count; resolved = s.resolved })) (sym is) (record {
      lawful = lawful_more r s.events (told ∷ []) g.quiet g.lawful (lawful, tt);
      quiet = quiet_more s.events (told ∷ []) g.quiet (quiet, tt);
      desk = desk;
      agrees = subst (Agrees (pumped w l link node states' (record { end = end; events = []; out = s.out ++ spelling f; count = 0; resolved = [] }))) (sym (after_more r s.events (told ∷ []))) agrees;
      known = subst (λ x. LinkKnown r x (record link { server = end; down = link.down ++ (s.out ++ spelling f) })) (sym (after_more r s.events (told ∷ []))) known;
      stepped = stepped;
      hands = hands_more r s.events told g.hands hands;
      own = own_more (is_of_pump l) s.events told g.own own;
      beside = λ x i ne k. subst (λ q. KeptLink q x) (sym (after_more r s.events (told ∷ []))) (beside x i ne (g.beside x i ne k));
      ends = puts_more r link s.out f good ends g.ends;
    })

-- the same states, as they were put again
pub so_far_again : (w : PlainWorld) (r : Chronicle) (l : ℕ) (link : PlainLink) (node : PlainNode) (states states' : States) (s : Served) → ((v : ℕ) → states' v ≡ states v) → SoFar w r l link node states s → SoFar w r l link node states' s
so_far_again w r l link node states states' s same g = record {
  lawful = g.lawful;
  quiet = g.quiet;
  desk = g.desk;
  agrees = (
    g.agrees.0,
    carries_same idle idle (pumped w l link node states s) (pumped w l link node states' s) (after_lines r s.events) g.agrees.0 g.agrees.1
        (record { powers = pumped_powers w l link node states states' s s; vbs = λ m q. pumped_where w l link node states states' s s m q (λ e. same q); shelves = λ m q. pumped_shelves w l link node states states' s s m q; uuids = refl; linked = refl }) (λ k. refl),
  );
  known = g.known;
  stepped = g.stepped;
  hands = g.hands;
  own = g.own;
  beside = g.beside;
  ends = g.ends;
}

-- a line about the link's stream
pub told_stream : (r : Chronicle) (l : ℕ) (f : Granted → Granted) → ToldOf l r (with_changed r (StreamName.Link l) f)
told_stream r l f = record {
  last = later_same _ _ refl refl;
  tree = refl;
  writer_of = λ u. refl;
  rows = λ m q. refl;
  arms = λ m. refl;
  clients = λ m c. refl;
  dials = λ j ne. refl;
  streams = λ k q ne. changed_there r l f k q ne;
  states = λ k ne. refl;
  points = λ k ne. refl;
}

-- a state on it, who writes set aside
abbrev pub said_on : Chronicle → ℕ → Role → Chronicle
said_on r l role = record r { stated_of = with_id r.stated_of l (Some role) }

pub told_state : (r : Chronicle) (l : ℕ) (role : Role) → ToldOf l r (said_on r l role)
told_state r l role = record {
  last = later_same _ _ refl refl;
  tree = refl;
  writer_of = λ u. refl;
  rows = λ m q. refl;
  arms = λ m. refl;
  clients = λ m c. refl;
  dials = λ j ne. refl;
  streams = λ k q ne. refl;
  states = λ k ne. id_there r.stated_of l (Some role) k (λ e. ne (sym e));
  points = λ k ne. refl;
}

-- the stream of a link goes on so, and what is noted of it stands
pub noted_one : (t : TakeoverKnown) (old new : PlainStream) (streams : List PlainStream) → streams ≡ old ∷ [] → new.ended ≡ old.ended → (CameIf t.moved old.gives → CameIf t.moved new.gives) → All (NotedStream t) streams → All (NotedStream t) (new ∷ [])
noted_one t old new streams is same came all =
    let x : NotedStream t old = All-head (NotedStream t) old [] (subst (All (NotedStream t)) is all) in
    All-cons (NotedStream t) new [] (record { turned = x.turned ∙ sym same; came = came x.came }) (All-nil (NotedStream t))

-- a stream that goes on in its step, and one that is at no end
pub owned_one : (t : TakeoverKnown) (old new : PlainStream) (streams : List PlainStream) → streams ≡ old ∷ [] → new.gives ≡ old.gives → All (OwnedBy t) streams → All (OwnedBy t) (new ∷ [])
owned_one t old new streams is same all =
    let x : OwnedBy t old = All-head (OwnedBy t) old [] (subst (All (OwnedBy t)) is all) in All-cons (OwnedBy t) new [] (λ e. x (sym same ∙ e)) (All-nil (OwnedBy t))

pub owned_none : (t : TakeoverKnown) (new : PlainStream) → (new.gives ≡ Some (record { step = End }) → ⊥) → All (OwnedBy t) (new ∷ [])
owned_none t new other = All-cons (OwnedBy t) new [] (λ e put. other e) (All-nil (OwnedBy t))

-- who writes stays so
pub kept_one : (r r' : Chronicle) (n v : ℕ) (told told' : Option Granted) (old new : PlainStream) (streams : List PlainStream) → streams ≡ old ∷ [] → new.gives ≡ old.gives → new.ended ≡ old.ended
    → ((u : ℕ) → IsWriter r n v u → IsWriter r' n v u) → ((g' : Granted) → told' ≡ Some g' → (g : Granted) × (told ≡ Some g) × (stream_branch g ≡ stream_branch g')) → All (KeptFor r n v told) streams → All (KeptFor r' n v told') (new ∷ [])
kept_one r r' n v told told' old new streams is gives ended writes goes all =
    let x : KeptFor r n v told old = All-head (KeptFor r n v told) old [] (subst (All (KeptFor r n v told)) is all) in
    All-cons (KeptFor r' n v told') new [] (λ g' e step alive. let (g, f, same) = goes g' e in writes (stream_branch g') (subst (IsWriter r n v) same (x g f (sym gives ∙ step) (sym ended ∙ alive)))) (All-nil (KeptFor r' n v told'))

-- where the stream is in another step, there is nothing to say
pub kept_none : (r : Chronicle) (n v : ℕ) (told : Option Granted) (new : PlainStream) → (new.gives ≡ Some (record { step = SendRest }) → ⊥) → All (KeptFor r n v told) (new ∷ [])
kept_none r n v told new other = All-cons (KeptFor r n v told) new [] (λ g e step alive. absurd (other step)) (All-nil (KeptFor r n v told))

-- in front of all lines the streams stand as they are
pub stepped_first : (l : ℕ) (streams : List PlainStream) → Stepped l streams [] streams
stepped_first l [] = All-nil (λ stream. HasStep false stream [])
stepped_first l (x ∷ xs) = All-cons (λ stream. HasStep false stream (x ∷ xs)) x xs (inl (refl, inl (refl, refl))) (All-weaker (λ stream. HasStep false stream xs) (λ stream. HasStep false stream (x ∷ xs)) (λ y e. inr e) xs (stepped_first l xs))

-- a line more, by which the stream stays in its step
or_none : (b : Bool) → (b || false) ≡ b
or_none true = refl
or_none false = refl

same_steps : (puts : Bool) (old new : PlainStream) (first : List PlainStream) → new.gives ≡ old.gives → new.ended ≡ old.ended → HasStep puts old first → HasStep puts new first
same_steps puts old new [] same ended has = absurd has
same_steps puts old new (x ∷ xs) same ended has = ⊎_elim (λ here. inl (ended ∙ here.0, ⊎_elim (λ q. inl (q.0, same ∙ q.1)) (λ q. inr (q.0, ⊎_elim (λ z. inl (z.0, same ∙ z.1)) (λ z. inr (z.0, same ∙ z.1)) q.1)) here.1)) (λ there. inr (same_steps puts old new xs same ended there)) has

pub stepped_one : (l : ℕ) (first streams : List PlainStream) (events : List Event) (line : Event) (old new : PlainStream) → streams ≡ old ∷ [] → new.gives ≡ old.gives → new.ended ≡ old.ended → is_state_of l line ≡ false → Stepped l first events streams → Stepped l first (events ++ line ∷ []) (new ∷ [])
stepped_one l first streams events line old new is same ended plain x =
    let none : list_any (is_state_of l) (events ++ line ∷ []) ≡ list_any (is_state_of l) events =
    list_any-append (is_state_of l) events (line ∷ []) ∙ ap (λ b. list_any (is_state_of l) events || (b || false)) plain ∙ or_none (list_any (is_state_of l) events) in
    let one : HasStep (list_any (is_state_of l) events) old first = All-head (λ stream. HasStep (list_any (is_state_of l) events) stream first) old [] (subst (All (λ stream. HasStep (list_any (is_state_of l) events) stream first)) is x) in
    All-cons (λ stream. HasStep (list_any (is_state_of l) (events ++ line ∷ [])) stream first) new [] (subst (λ b. HasStep b new first) (sym none) (same_steps (list_any (is_state_of l) events) old new first same ended one))
    (All-nil (λ stream. HasStep (list_any (is_state_of l) (events ++ line ∷ [])) stream first))

-- or which is a state: it is the first of these
abbrev pub step_is : Option GiveUp → Option GiveStep
step_is None = None
step_is (Some g) = Some g.step

no_two : {A : Type 0} (x old new : PlainStream) → StatesOn x old → StatesOn old new → A
no_two x old new (inl (a, b)) (inl (c, d)) = let z : Some AwaitPending ≡ Some SendAll = ap step_is (sym b ∙ c) in cc
no_two x old new (inl (a, b)) (inr (c, d)) = let z : Some AwaitPending ≡ Some SendRest = ap step_is (sym b ∙ c) in cc
no_two x old new (inr (a, b)) (inl (c, d)) = let z : Some AwaitActive ≡ Some SendAll = ap step_is (sym b ∙ c) in cc
no_two x old new (inr (a, b)) (inr (c, d)) = let z : Some AwaitActive ≡ Some SendRest = ap step_is (sym b ∙ c) in cc

state_steps : (puts : Bool) (old new : PlainStream) (first : List PlainStream) → StatesOn old new → new.ended ≡ old.ended → HasStep puts old first → HasStep true new first
state_steps puts old new [] states ended has = absurd has
state_steps puts old new (x ∷ xs) states ended has = ⊎_elim
    (λ here. inl (ended ∙ here.0, ⊎_elim (λ q. inr (refl, ⊎_elim (λ z. inl (sym q.1 ∙ z.0, z.1)) (λ z. inr (sym q.1 ∙ z.0, z.1)) states)) (λ q. no_two x old new q.1 states) here.1))
    (λ there. inr (state_steps puts old new xs states ended there)) has

pub stepped_state : (l : ℕ) (first streams : List PlainStream) (events : List Event) (role : Role) (old new : PlainStream) → streams ≡ old ∷ [] → StatesOn old new → new.ended ≡ old.ended → Stepped l first events streams → Stepped l first (events ++ Event.Stated (StreamName.Link l) role ∷ []) (new ∷ [])
stepped_state l first streams events role old new is states ended x =
    let some : list_any (is_state_of l) (events ++ Event.Stated (StreamName.Link l) role ∷ []) ≡ true =
    list_any-append (is_state_of l) events (Event.Stated (StreamName.Link l) role ∷ []) ∙ ap (λ b. list_any (is_state_of l) events || (b || false)) (eq-eqb l l refl) ∙ or-true (list_any (is_state_of l) events) in
    let one : HasStep (list_any (is_state_of l) events) old first = All-head (λ stream. HasStep (list_any (is_state_of l) events) stream first) old [] (subst (All (λ stream. HasStep (list_any (is_state_of l) events) stream first)) is x) in
    All-cons (λ stream. HasStep (list_any (is_state_of l) (events ++ Event.Stated (StreamName.Link l) role ∷ [])) stream first) new []
    (subst (λ b. HasStep b new first) (sym some) (state_steps (list_any (is_state_of l) events) old new first states ended one))
    (All-nil (λ stream. HasStep (list_any (is_state_of l) (events ++ Event.Stated (StreamName.Link l) role ∷ [])) stream first))

-- one of these streams goes on, and waits
abbrev pub Waited : List PlainStream → Type 0
Waited [] = ⊥
Waited (x ∷ xs) = ((x.ended ≡ false) × IsWaiting x.gives) ⊎ Waited xs

pub has_waited : (puts : Bool) (stream : PlainStream) (streams : List PlainStream) → HasStep puts stream streams → stream.ended ≡ false → IsWaiting stream.gives → (puts ≡ true) ⊎ Waited streams
has_waited puts stream [] has going waits = absurd has
has_waited puts stream (x ∷ xs) has going waits = ⊎_elim
    (λ here. ⊎_elim (λ q. inr (inl (sym here.0 ∙ going, subst IsWaiting q.1 waits))) (λ q. inl q.0) here.1)
    (λ there. ⊎_elim (λ z. inl z) (λ z. inr (inr z)) (has_waited puts stream xs there going waits)) has
