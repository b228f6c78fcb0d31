-- lines that all pass a test: what is told to clients, what ends with a node, and what is written down
use Rattle.std.specs.Prelude.{◌≡◌, ◌∷◌, ◌++◌, ◌==◌, ◌&&◌, ◌||◌, ◌⊎◌, if◌then◌else◌}
use Rattle.std.specs.List.{All}
use Rattle.transcript_law.proofs.Words.{ℕ, Bool, true, false, List, [], refl, sym, subst, inl, inr, map, flat_map, Option, Some, None, is_some, eq-eqb, and_parts, All-head, All-tail, Answer, Cause, Event, EndReason, PlainNode, PlainWorld, Told, VbAnswer, VbCall, VbReply, after_job, with_states, row_at, link_number, call_at, on_node, refused_or}
use Rattle.node_core.specs.{Calls.{own_lines_if}, Flushing.{FlushResult, flush_answered, flush_at, flush_result, settled_by, settled_result}}
use Rattle.node_world.specs.{Nodes.{flush_here, all_posted, with_posts}, Power.{all_numbers, closed_line, closed_lines, down_lines, end_line, end_lines, has_client, is_this_number, is_touched}}
use Rattle.transcript_law.proofs.{invariant.OwnClients.{posts_own}, invariant.Ranged.{IsRanged, NodeRanged, NodeRangedIf}, lines.Calm.{AnyAsk}, lines.ClientLines.{AllKept}, verbs.NodeLines.{on_node_by}}
use Rattle.transcript_law.specs.{Plainness.{IsOfClient}, Tellings.{are_all, are_told}}
use Rattle.vb_calls.proofs.JobConduct.{after_job_always, always_bind_job}
use Rattle.vb_calls.specs.Flushes.{appended_job, batch_of_reply, flush_job, part_job, taken_job, took}
use Rattle.vb_calls.specs.Jobs.{AlwaysJob, Job, Ended}
use Rattle.vb_calls.specs.Programs.{AnyCall, AnyReply}
use Rattle.vb_calls.specs.Shelves.{DiskFailed, Flush, Idle, Out, Stood, WasClosed, Written, Fate}
use Rattle.vb_calls.specs.declared.calls.Resolved.{Resolved}
use Rattle.vb_calls.specs.declared.calls.VbAnswer.TheVariants as answer
use Rattle.vb_calls.specs.declared.journals.Flushed.{Flushed}
use Rattle.vb_calls.specs.declared.journals.Flushed.TheVariants as flushed
use Rattle.vb_types.specs.declared.journal.Batch.{Batch}
use Rattle.vb_types.specs.declared.journal.FlushPart.{FlushPart}
use Rattle.vb_types.specs.declared.journal.FlushPart.TheVariants as part

-- ---- lists of lines

pub same_place : (n v : ℕ) → (n == n && v == v) ≡ true
same_place n v = λ i. eq-eqb n n refl i && eq-eqb v v refl i

-- one of two tests
pub front_of : (a b : Bool) → a ≡ true → (a || b) ≡ true
front_of true b e = refl
front_of false b e = cc

pub later_of : (a b : Bool) → b ≡ true → (a || b) ≡ true
later_of true b e = refl
later_of false b e = e

-- all lines pass a test
module _ (q : Event → Bool) where
  abbrev pub Are : List Event → Type 0
  Are lines = are_all q lines ≡ true

  pub are_cons : (line : Event) (lines : List Event) → q line ≡ true → Are lines → Are (line ∷ lines)
  are_cons line lines a b = λ i. a i && b i

  pub are_more : (xs ys : List Event) → Are xs → Are ys → Are (xs ++ ys)
  are_more [] ys a b = b
  are_more (x ∷ xs) ys a b = let p = and_parts (q x) (are_all q xs) a in are_cons x (xs ++ ys) p.0 (are_more xs ys p.1 b)

  pub are_map : {A : Type 0} (f : A → Event) (xs : List A) → ((x : A) → q (f x) ≡ true) → Are (map f xs)
  are_map f [] each = refl
  are_map f (x ∷ xs) each = are_cons (f x) (map f xs) (each x) (are_map f xs each)

  are_each : {A : Type 0} (f : A → List Event) (xs : List A) → ((x : A) → Are (f x)) → Are (flat_map f xs)
  are_each f [] each = refl
  are_each f (x ∷ xs) each = are_more (f x) (flat_map f xs) (each x) (are_each f xs each)

  are_if : (b : Bool) (line : Event) → (b ≡ true → q line ≡ true) → Are (if b then line ∷ [] else [])
  are_if true line each = are_cons line [] (each refl) refl
  are_if false line each = refl

  -- what passes another test does
  pub are_also : (p : Event → Bool) → ((line : Event) → p line ≡ true → q line ≡ true) → (lines : List Event) → are_all p lines ≡ true → Are lines
  are_also p each [] a = refl
  are_also p each (line ∷ lines) a = let both = and_parts (p line) (are_all p lines) a in are_cons line lines (each line both.0) (are_also p each lines both.1)

  pub are_clients : (n : ℕ) → ((line : Event) → IsOfClient n line → q line ≡ true) → (lines : List Event) → All (IsOfClient n) lines → Are lines
  are_clients n each [] c = refl
  are_clients n each (line ∷ lines) c = are_cons line lines (each line (All-head (IsOfClient n) line lines c)) (are_clients n each lines (All-tail (IsOfClient n) line lines c))

  -- what ends with a node
  pub are_down : (n : ℕ) (also : Option ℕ) (w : PlainWorld) → ((l : ℕ) → (is_this_number l also || is_touched n (row_at link_number l w.links)) ≡ true → q (Event.Ended l EndReason.Cut) ≡ true) → ((c : ℕ) → q (Event.Closed n c) ≡ true) → Are (down_lines n also w)
  are_down n also w ends closes = are_more (end_lines n also w.links) (closed_lines n (w.nodes n))
      (are_each (end_line n also w.links) all_numbers (λ l. are_if (is_this_number l also || is_touched n (row_at link_number l w.links)) (Event.Ended l EndReason.Cut) (ends l)))
      (are_each (closed_line n (w.nodes n)) all_numbers (λ c. are_if (has_client c (w.nodes n)) (Event.Closed n c) (λ has. closes c)))

  -- lines of changes
  pub are_own : (n v : ℕ) → ((uuid : ℕ) (reply : VbReply) → Are (map (Event.Changed n v uuid) reply.changes)) → (o : Option VbReply) → Are (own_lines_if n v o)
  are_own n v each None = refl
  are_own n v each (Some reply) = each reply.branch reply

  -- what is posted to the clients of the node n
  module _ (n : ℕ) (clients : (line : Event) → IsOfClient n line → q line ≡ true) where
    pub are_posts : (rs : List Resolved) (node : PlainNode) → AllKept n node → Are (all_posted rs node).1
    are_posts rs node kept = are_clients n clients (all_posted rs node).1 (posts_own n rs node kept)

    pub are_posted : (told : FlushResult) (node : PlainNode) → AllKept n node → Are told.events → Are (with_posts told node).1.events
    are_posted told node kept a = are_more told.events (all_posted told.resolved node).1 a (are_posts told.resolved node kept)

    pub changes : (v uuid : ℕ) (reply : VbReply) → Are (map (Event.Changed n v uuid) reply.changes)
    changes v uuid reply = are_map (Event.Changed n v uuid) reply.changes (λ c. clients (Event.Changed n v uuid c) refl)

    are_settled : (v : ℕ) (o : Option VbReply) → Are (settled_result n v o).events
    are_settled v None = refl
    are_settled v (Some reply) = by reply.answer
      where
        by : (a : VbAnswer) → Are (settled_by n v reply a).events
        by answer.Done = changes v reply.branch reply
        by other = refl

    pub settles : (v : ℕ) (c : VbCall) (node : PlainNode) → AllKept n node → (let x = call_at node.vbs v c (node.vbs v) in Are (with_posts (settled_result n v x.1) (with_states node x.0)).1.events)
    settles v c node kept = let x = call_at node.vbs v c (node.vbs v) in are_posted (settled_result n v x.1) (with_states node x.0) kept (are_settled v x.1)

-- up to where a node stops lines pass a test, and behind that one of what ends with it
module _ (may : Event → Bool) (ends : ℕ → Event → Bool) where
  abbrev pub Tell : List Event → Type 0
  Tell lines = are_told may ends lines ≡ true

  -- in front of such lines stand others that pass, and of which none tells that a node stops
  pub tell_front : (q : Event → Bool) → ((line : Event) → q line ≡ true → may line ≡ true) → ((m : ℕ) → q (Event.NodeStopped m) ≡ true → ⊥) → (xs ys : List Event) → Are q xs → Tell ys → Tell (xs ++ ys)
  tell_front q passes goes_on [] ys a t = t
  tell_front q passes goes_on (Event.NodeStopped m ∷ xs) ys a t = absurd (goes_on m (and_parts (q (Event.NodeStopped m)) (are_all q xs) a).0)
  tell_front q passes goes_on (line ∷ xs) ys a t = let p = and_parts (q line) (are_all q xs) a in λ i. passes line p.0 i && tell_front q passes goes_on xs ys p.1 t i

  -- or nothing stands behind them
  pub tell_alone : (q : Event → Bool) → ((line : Event) → q line ≡ true → may line ≡ true) → ((m : ℕ) → q (Event.NodeStopped m) ≡ true → ⊥) → (xs : List Event) → Are q xs → Tell xs
  tell_alone q passes goes_on [] a = refl
  tell_alone q passes goes_on (Event.NodeStopped m ∷ xs) a = absurd (goes_on m (and_parts (q (Event.NodeStopped m)) (are_all q xs) a).0)
  tell_alone q passes goes_on (line ∷ xs) a = let p = and_parts (q line) (are_all q xs) a in λ i. passes line p.0 i && tell_alone q passes goes_on xs p.1 i

  -- where no stop may be told
  pub tell_all : ((m : ℕ) → may (Event.NodeStopped m) ≡ true → ⊥) → (xs : List Event) → Are may xs → Tell xs
  tell_all goes_on xs a = tell_alone may (λ line e. e) goes_on xs a

  -- what both pass passes each line
  pub each_told : (test : Event → Bool) → ((line : Event) → may line ≡ true → test line ≡ true) → ((m : ℕ) → may (Event.NodeStopped m) ≡ true → (line : Event) → ends m line ≡ true → test line ≡ true) → (lines : List Event) → Tell lines → Are test lines
  each_told test passes ended [] t = refl
  each_told test passes ended (Event.NodeStopped m ∷ lines) t = let p = and_parts (may (Event.NodeStopped m)) (are_all (ends m) lines) t in are_cons test (Event.NodeStopped m) lines (passes (Event.NodeStopped m) p.0) (are_also test (ends m) (ended m p.0) lines p.1)
  each_told test passes ended (line ∷ lines) t = let p = and_parts (may line) (are_told may ends lines) t in are_cons test line lines (passes line p.0) (each_told test passes ended lines p.1)

  -- the first of them passes; so does the second, unless the first tells of a stop
  pub tell_first : (line : Event) (lines : List Event) → Tell (line ∷ lines) → may line ≡ true
  tell_first (Event.NodeStopped m) lines t = (and_parts (may (Event.NodeStopped m)) (are_all (ends m) lines) t).0
  tell_first line lines t = (and_parts (may line) (are_told may ends lines) t).0

  pub tell_second : (before line : Event) (lines : List Event) → Tell (before ∷ line ∷ lines) → (may line ≡ true) ⊎ ((m : ℕ) × (may (Event.NodeStopped m) ≡ true) × (ends m line ≡ true))
  tell_second (Event.NodeStopped m) line lines t = let p = and_parts (may (Event.NodeStopped m)) (are_all (ends m) (line ∷ lines)) t in inr (m, p.0, (and_parts (ends m line) (are_all (ends m) lines) p.1).0)
  tell_second before line lines t = inl (tell_first line lines (and_parts (may before) (are_told may ends (line ∷ lines)) t).1)

  pub tell_unless : {A : Type 0} (why : Option Cause) (before : A) (x : A × Told) → Tell x.1.events → Tell (refused_or why before x).1.events
  tell_unless (Some why) before x t = refl
  tell_unless None before x t = t

  -- a line for a running node
  pub tell_ranged : (w : PlainWorld) (n : ℕ) (f : PlainNode → PlainNode × Told) → IsRanged w → ((node : PlainNode) → NodeRanged n node → Tell (f node).1.events) → Tell (on_node w n f).1.events
  tell_ranged w n f ranged each = on_node_by (λ o. Tell o.1.events) w n f refl (λ node known. refl) (λ node known up. each node (subst (NodeRangedIf n) known (ranged n)))

-- ---- what is written down

abbrev Steps : (Flushed → Type 0) → Job Flushed → Type 0
Steps P job = AlwaysJob AnyReply AnyCall AnyAsk P job

pub flush_steps : (P : FlushResult → Type 0) (Q : Flushed → Type 0) (n v : ℕ) (p : FlushPart) (node : PlainNode) → P (flush_answered (Answer.No Cause.UnknownVb)) → ((came : Flushed) → Q came → P (flush_result n v came))
    → ((flush : Flush) → Steps Q (part_job v p flush)) → P (after_job (flush_here n v p node) node.vbs node.shelves).1
unfolding flush_job
flush_steps P Q n v p node none some steps = after_job_always AnyCall AnyAsk P (flush_here n v p node) node.vbs node.shelves (by (is_some (node.vbs v)))
  where
    by : (b : Bool) → AlwaysJob AnyReply AnyCall AnyAsk P (flush_at n v p b)
    by true = always_bind_job AnyReply AnyCall AnyAsk Q P (flush_job v p) (λ came. Ended (flush_result n v came)) (tt, steps) some
    by false = none

-- a take comes to a batch, or to none that is free
abbrev pub TakesSo : Flushed → Type 0
TakesSo (flushed.Took ss se at count) = Unit {0}
TakesSo flushed.BatchOut = Unit {0}
TakesSo other = ⊥

pub take_steps : (v : ℕ) (flush : Flush) → Steps TakesSo (part_job v part.Take flush)
take_steps v Idle = (tt, λ reply any. by (batch_of_reply reply))
  where
    by : (o : Option Batch) → Steps TakesSo (taken_job v (λ batch. Ended (took batch)) o)
    by None = tt
    by (Some batch) = (tt, λ kept. tt)
take_steps v (Out batch) = tt
take_steps v (Written seq) = tt

-- a save tells of nothing itself
abbrev pub SavesSo : Flushed → Type 0
SavesSo flushed.Saved = Unit {0}
SavesSo flushed.NothingTaken = Unit {0}
SavesSo flushed.Closed = Unit {0}
SavesSo flushed.DiskFailed = Unit {0}
SavesSo other = ⊥

pub save_steps : (v : ℕ) (flush : Flush) → Steps SavesSo (part_job v part.Save flush)
save_steps v Idle = tt
save_steps v (Out batch) = (tt, by)
  where
    by : (fate : Fate) → Steps SavesSo (appended_job v batch (Ended flushed.Saved) fate)
    by Stood = (tt, λ kept. tt)
    by WasClosed = (tt, λ kept. tt)
    by DiskFailed = (tt, λ kept. tt)
save_steps v (Written seq) = tt

-- a `done` comes to a batch that stands, or to none
abbrev pub EndsSo : Flushed → Type 0
EndsSo (flushed.Done reply) = Unit {0}
EndsSo flushed.NothingTaken = Unit {0}
EndsSo other = ⊥

pub done_steps : (v : ℕ) (flush : Flush) → Steps EndsSo (part_job v part.Done flush)
done_steps v Idle = tt
done_steps v (Out batch) = tt
done_steps v (Written seq) = (tt, λ kept. (tt, λ reply any. tt))

-- nothing is posted where nothing was settled
pub unposted : (q : Event → Bool) (told : FlushResult) (node : PlainNode) → Are q told.events → told.resolved ≡ [] → Are q (with_posts told node).1.events
unposted q told node a none = are_more q told.events (all_posted told.resolved node).1 a (subst (λ rs. Are q (all_posted rs node).1) (sym none) refl)

abbrev pub Alone : (Event → Bool) → FlushResult → Type 0
Alone q told = Are q told.events × (told.resolved ≡ [])
