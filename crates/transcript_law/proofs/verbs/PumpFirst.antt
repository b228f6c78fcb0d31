-- behind a vBucket that was given up a frame is put, unless what is to be put comes later
use Rattle.std.specs.Prelude.{◌≡◌, ◌⊎◌, ◌∷◌, ◌++◌}
use Rattle.transcript_law.proofs.Words.{ℕ, zero, suc, Bool, List, [], true, false, refl, ap, sym, ◌∙◌, subst, inl, inr, ⊎_elim, Some, None, Option, StaysSound, TakesSnapshots, Turn, More, Stop, row_at, States}
use Rattle.transcript_law.proofs.Words.{Chronicle, Granted, Halt, PlainLink, PlainNode, PlainWorld, Role, Served, Why, after_lines, link_number, producer_node, why_of}
use Rattle.dcp_producer.specs.Pulling.{Pulling, none_quiet, one_frame, pull_of}
use Rattle.transcript_law.proofs.{invariant.Agreement.{Agrees}, lines.Pulling.{lets_through}}
use Rattle.transcript_law.proofs.links.{PumpWorlds.{Halted, LinkKnown, SoFar, Stopped, TurnSoFar}, PullTurns.{Grows, turn, turn_grows}}
use Rattle.transcript_law.proofs.verbs.PumpFrames.{first, first_so_far, known_of, made, no_pulled, turns}
use Rattle.transcript_law.proofs.Words.{Answer, Cause, Outcome, PullResult, frames_put, link_outcome, node_outcome, on_link, peer_of, peer_pulled, pull_result, pulled, pump_at, refusal, with_link, with_node_at}
use Rattle.transcript_law.proofs.invariant.LinkRows.{found_is_link}
use Rattle.transcript_law.specs.{Heirs.{IsHanded, IsOffered, TakesOn}, LinesTold.{Dial}, TakeoverAnswers.{Awaits, ComesLater}}
use Rattle.vb_calls.proofs.JobReadings.{after_reads_bind}
use Rattle.vb_calls.specs.Jobs.{Ended, after_reads, go_on_job, repeated_job}
use Rattle.transcript_law.proofs.lines.Reads.{pump_read, pump_reads, pumps_read}

-- more lines are no fewer
is_none : {A : Type 0} → List A → Bool
is_none [] = true
is_none (x ∷ xs) = false

some_more : {A : Type 0} (xs : List A) (x : A) → xs ++ x ∷ [] ≡ [] → ⊥
unfolding is_none
some_more [] x e = let z : false ≡ true = ap is_none e in cc
some_more (y ∷ xs) x e = let z : false ≡ true = ap is_none e in cc

-- the stream that sends the rest of a vBucket that is dead by the lines
pub record SendsRest (r : Chronicle) (l : ℕ) : Type 0 where
  pub dial : Dial
  pub stream : Granted
  pub takes_on : TakesOn r l dial stream
  pub dead : r.role_at dial.producer dial.vb ≡ Some (Some Role.Dead)
  pub stated : r.stated_of l ≡ Some Role.Pending

-- it waits for no state
rest_waits : (r : Chronicle) (l : ℕ) (s : SendsRest r l) (d : Dial) (g : Granted) → Awaits r l d g → ⊥
rest_waits r l s d g a =
    let both : Some s.dial ≡ Some d = sym s.takes_on.dialed ∙ a.takes_on.dialed in let same : s.dial ≡ d = cc in
    ⊎_elim
    (λ (o : IsOffered r l d).
    let z : ◌≡◌ {A = Option (Option Role)} (Some (Some Role.Dead)) (Some (Some Role.Active)) = sym s.dead ∙ subst (λ (y : Dial). r.role_at y.producer y.vb ≡ Some (Some Role.Active)) (sym same) o.active in cc)
    (λ (h : IsHanded r l d). let z : ◌≡◌ {A = Option Role} (Some Role.Pending) (Some Role.Active) = sym s.stated ∙ h.stated in cc)
    a.stated

module _ (takes : TakesSnapshots) (stays : StaysSound) (w : PlainWorld) (r : Chronicle) (link : PlainLink) (node : PlainNode) (found : row_at link_number (link_number link) w.links ≡ Some link) where
  abbrev l : ℕ
  l = link_number link

  -- lines were told, or what is to be put comes later
  abbrev pub PutsOne : Turn Pulling (Served × Halt) → Type 0
  PutsOne (More p) = p.served.events ≡ [] → ⊥
  PutsOne (Stop stopped) = ComesLater (why_of stopped.1) ⊎ (stopped.0.events ≡ [] → ⊥)

  -- behind lines there are lines
  grows : (states : States) (s : Served) (g : SoFar w r l link node states s) → (s.events ≡ [] → ⊥) → PutsOne (after_reads (one_frame (pull_of s none_quiet)) node.shelves states).1
  grows states s g some = by (after_reads (one_frame (pull_of s none_quiet)) node.shelves states).1 (turn_grows w r l link node found states s g)
    where
      by : (x : Turn Pulling (Served × Halt)) → Grows w r l link node found states s g x → PutsOne x
      by (More p) (line, is) = λ e. some_more s.events line (sym is ∙ e)
      by (Stop st) (same, full) = inr (λ e. some (sym same ∙ e))

  module _ (a : Agrees w r) (known : w.nodes (producer_node link) ≡ Some node) (noted : LinkKnown r r link) (rest : SendsRest r l) (free : lets_through link.server ≡ true) where
    abbrev start : Served
    start = first takes stays w r link node found a known noted

    abbrev start_so_far : SoFar w r l link node node.vbs start
    start_so_far = first_so_far takes stays w r link node found a known noted

    -- no frame is put where it comes later
    stopped_for : (st : Served × Halt) (why : Why) → why_of st.1 ≡ why → st.0.events ≡ [] → Stopped (after_lines r st.0.events) l why → Halted st.0.end why → (why ≡ Why.Full → lets_through start.end ≡ false) → ComesLater why
    stopped_for st Why.WaitSaved is none x h full = inl refl
    stopped_for st Why.Disk is none x h full = inr refl
    stopped_for st Why.All is none x h full = absurd (h.some refl)
    stopped_for st Why.Full is none x h full = let z : true ≡ false = sym free ∙ full refl in cc
    stopped_for st Why.Idle is none x h full = absurd ((x.idle refl).1 rest.dial rest.stream (subst (λ es. TakesOn (after_lines r es) l rest.dial rest.stream) (sym none) rest.takes_on))
    stopped_for st Why.WaitState is none x h full = let (d, g, waits) = x.state refl in absurd (rest_waits r l rest d g (subst (λ es. Awaits (after_lines r es) l d g) none waits))

    first_puts : PutsOne (after_reads (one_frame (pull_of start none_quiet)) node.shelves node.vbs).1
    first_puts = by (after_reads (one_frame (pull_of start none_quiet)) node.shelves node.vbs).0 (after_reads (one_frame (pull_of start none_quiet)) node.shelves node.vbs).1 (turn w r l link node found node.vbs start start_so_far takes stays) (turn_grows w r l link node found node.vbs start start_so_far)
      where
        by : (states : States) (x : Turn Pulling (Served × Halt)) → TurnSoFar w r l link node states x → Grows w r l link node found node.vbs start start_so_far x → PutsOne x
        by states (More p) g (line, is) = λ e. some_more [] line (sym is ∙ e)
        by states (Stop st) g (same, full) = inl (stopped_for st (why_of st.1) refl same g.1 g.2 full)

    -- nor behind more
    next_puts : (states : States) (x : Turn Pulling (Served × Halt)) → TurnSoFar w r l link node states x → PutsOne x → PutsOne (after_reads (go_on_job one_frame x) node.shelves states).1
    next_puts states (More p) g some = subst (λ q. PutsOne (after_reads (one_frame (pull_of p.served q)) node.shelves states).1) (sym g.1) (grows states p.served g.0 some)
    next_puts states (Stop st) g some = some

    pub puts_one : (k : ℕ) → PutsOne (after_reads (repeated_job (suc k) one_frame (pull_of start none_quiet)) node.shelves node.vbs).1
    puts_one zero = subst (λ (x : States × Turn Pulling (Served × Halt)). PutsOne x.1) (sym (after_reads_bind (repeated_job zero one_frame (pull_of start none_quiet)) (go_on_job one_frame) node.shelves node.vbs)) first_puts
    puts_one (suc k) =
        let x = after_reads (repeated_job (suc k) one_frame (pull_of start none_quiet)) node.shelves node.vbs in
        subst (λ (x : States × Turn Pulling (Served × Halt)). PutsOne x.1) (sym (after_reads_bind (repeated_job (suc k) one_frame (pull_of start none_quiet)) (go_on_job one_frame) node.shelves node.vbs))
        (next_puts x.0 x.1 (turns takes stays w r link node found (suc k) node.vbs start start_so_far) (puts_one k))

-- ---- on a link

-- lines were told, or what is to be put comes later
abbrev pub IsFirst : Outcome → Type 0
IsFirst o = (n : ℕ) (why : Why) → o.1.answer ≡ Answer.Pulled n why → (o.1.events ≡ [] → ⊥) ⊎ ComesLater why

module _ (takes : TakesSnapshots) (stays : StaysSound) (w : PlainWorld) (r : Chronicle) where
  -- of the states and what is told of the line
  abbrev IsFirstOf : States × PullResult → Type 0
  IsFirstOf y = (n : ℕ) (why : Why) → y.1.answer ≡ Answer.Pulled n why → (y.1.events ≡ [] → ⊥) ⊎ ComesLater why

  says_first : (link : PlainLink) (node : PlainNode) (found : row_at link_number (link_number link) w.links ≡ Some link) (states : States) (x : Turn Pulling (Served × Halt)) → PutsOne takes stays w r link node found x → IsFirstOf (known_of takes stays w r link node found (after_reads (pulled x) node.shelves states))
  says_first link node found states (More p) some n why e = inl some
  says_first link node found states (Stop st) some n why e = let is : why_of st.1 ≡ why = cc in ⊎_elim (λ z. inr (subst ComesLater is z)) (λ z. inl z) some

  node_first : (link : PlainLink) (node : PlainNode) (found : row_at link_number (link_number link) w.links ≡ Some link) (a : Agrees w r) (known : w.nodes (producer_node link) ≡ Some node) (noted : LinkKnown r r link) (rest : SendsRest r (link_number link)) → lets_through link.server ≡ true → (k : ℕ)
      → IsFirstOf (after_reads (peer_pulled (suc k) (peer_of link)) node.shelves node.vbs)
  unfolding frames_put
  node_first link node found a known noted rest free k =
      let first : Served = first takes stays w r link node found a known noted in
      let x = after_reads (repeated_job (suc k) one_frame (pull_of first none_quiet)) node.shelves node.vbs in
      subst IsFirstOf
      (sym (after_reads_bind (frames_put (suc k) first) (λ put. Ended (pull_result link.up_heard put)) node.shelves node.vbs ∙ ap (known_of takes stays w r link node found) (after_reads_bind (repeated_job (suc k) one_frame (pull_of first none_quiet)) pulled node.shelves node.vbs)))
      (says_first link node found x.0 x.1 (puts_one takes stays w r link node found a known noted rest free k))

  pub frames_first : (l k : ℕ) → Agrees w r → ((link : PlainLink) → row_at link_number l w.links ≡ Some link → LinkKnown r r link) → SendsRest r l → ((link : PlainLink) → row_at link_number l w.links ≡ Some link → lets_through link.server ≡ true) → IsFirst (on_link w l producer_node (pump_at (suc k)))
  frames_first l k a known rest free = by (row_at link_number l w.links) refl
    where
      by : (o : Option PlainLink) → row_at link_number l w.links ≡ o → IsFirst (on_link w l producer_node (pump_at (suc k)))
      by None e = subst IsFirst (sym (ap (link_outcome w l producer_node (pump_at (suc k))) e)) (λ n why q. absurd (no_pulled q))
      by (Some link) e =
          let number : link_number link ≡ l = (found_is_link l w.links link e).1 in
          let (node, there) = made w r a link (found_is_link l w.links link e).0 in
          let is : on_link w l producer_node (pump_at (suc k)) ≡ with_link link (with_node_at w (producer_node link) (pump_read link node (after_reads (peer_pulled (suc k) (peer_of link)) node.shelves node.vbs)).0, (pump_read link node (after_reads (peer_pulled (suc k) (peer_of link)) node.shelves node.vbs)).1) =
          ap (on_link w l producer_node) (pumps_read (suc k)) ∙ ap (link_outcome w l producer_node (pump_reads (suc k))) e ∙ ap (λ o. with_link link (node_outcome w (producer_node link) (Some link, refusal Cause.UnknownNode) o (pump_reads (suc k) link))) there in
          subst IsFirst (sym is) (node_first link node (subst (λ k. row_at link_number k w.links ≡ Some link) (sym number) e) a there (known link e) (subst (SendsRest r) (sym number) rest) (free link e) k)
