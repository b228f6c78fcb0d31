-- calls that open no stream leave no vBucket with a new one, and so do programs of such calls
use Rattle.std.specs.Prelude.{◌≡◌, ◌∷◌, ◌+◌, ◌==◌, if◌then◌else◌, cond}
use Rattle.transcript_law.proofs.Words.{ℕ, Bool, true, false, List, [], refl, ap, sym, ◌∙◌, subst, inl, inr, ⊎_elim, map, fold, not, Option, Some, None, eqb-true, eqb-false, eq-eqb, close_row}
use Rattle.transcript_law.proofs.Words.{Act, Plain, plain_step, VbAnswer, VbCall, VbReply, Stream, States, with_vb_at, without_stream, is_active, led, Prog, Done, Call, after, Job, Ended, after_job, newest_branch}
use Rattle.transcript_law.specs.Feeding.{Has, HasIn}
use Rattle.durability.specs.declared.waiting.Waiting.{Waiting}
use Rattle.durability.specs.Outstanding.{late}
use Rattle.vb_calls.specs.Durable.{aborted}
use Rattle.vb_calls.specs.Following.{committed_act, cas_of}
use Rattle.vb_calls.specs.Jobs.{AlwaysJob, Call as AsksCall, Request}
use Rattle.vb_calls.specs.Programs.{Always, AnyReply}
use Rattle.vb_calls.specs.Settling.{Resolving, and_settled, committed_by, has_seqno, may_commit, resolved_by, settled, settled_from, unresolved}
use Rattle.vb_calls.specs.State.{pending_of}
use Rattle.vb_calls.specs.Shelves.{Ask, Got, Shelves, shelves_step}
use Rattle.vb_calls.specs.States.{call_at, states_step}
use Rattle.vb_calls.specs.Roles.{risen}
use Rattle.vb_calls.proofs.Placing.{cursor_id, given_id, moved_id}
use Rattle.vb_calls.specs.Streams.{given_cursor, moved_on, stream_at, without_cursor}
use Rattle.vb_calls.specs.declared.calls.Resolution.{Resolution}
use Rattle.vb_calls.specs.declared.calls.VbCall.TheVariants as call
use Rattle.vbucket.proofs.RowIs.{RowIs, StartIs, StreamsAre, Closes, Drops, Expires, Feeds, Inherits, Leads, Opens, Places, Settles, Streams, Turns, Yields, row_is}

-- any call but that
abbrev pub OpensNone : ℕ → VbCall → Type 0
OpensNone v (call.OpenStream id ask sync) = ⊥
OpensNone v other = Unit {0}

-- a vBucket has no stream that another had not
abbrev NoMore : Plain → Plain → Type 0
NoMore old new = (id : ℕ) → Has new.streams id → Has old.streams id

-- one of two
pub either : {A : Type 0} (P : A → Type 0) (b : Bool) (x y : A) → P x → P y → P (if b then x else y)
either P true x y px py = px
either P false x y px py = py

same_more : (old new : Plain) → new.streams ≡ old.streams → NoMore old new
same_more old new e id h = subst (λ ss. Has ss id) e h

-- prepares that are resolved leave the streams

committed_streams : (a : Option Act) (w : Waiting) (next : Resolving → Resolving) (s : Resolving) → ((t : Resolving) → (next t).vb.streams ≡ t.vb.streams) → (committed_by a w next s).vb.streams ≡ s.vb.streams
committed_streams None w next s keeps = refl
committed_streams (Some a) w next s keeps = keeps (resolved_by a (Resolution.Committed (newest_branch s.vb.log) (s.vb.position.at + 1) (cas_of a)) w s)

settled_streams : (ws : List Waiting) (s : Resolving) → (settled_from ws s).vb.streams ≡ s.vb.streams
settled_streams [] s = refl
settled_streams (w ∷ more) s = either (λ (t : Resolving). t.vb.streams ≡ s.vb.streams) (may_commit s.vb w) (committed_by (committed_act w.seq (pending_of s.vb w.key)) w (settled_from more) s) s
    (committed_streams (committed_act w.seq (pending_of s.vb w.key)) w (settled_from more) s (settled_streams more)) refl

after_settled : (vb : Plain) → (settled vb).vb.streams ≡ vb.streams
after_settled vb = either (λ (t : Resolving). t.vb.streams ≡ vb.streams) (is_active vb.role) (settled_from vb.waiting (unresolved vb)) (unresolved vb) (settled_streams vb.waiting (unresolved vb)) refl

aborts_streams : (ws : List Waiting) (s : Resolving) → (fold aborted s ws).vb.streams ≡ s.vb.streams
aborts_streams [] s = refl
aborts_streams (w ∷ ws) s = aborts_streams ws (aborted s w) ∙ either (λ (t : Resolving). t.vb.streams ≡ s.vb.streams) (has_seqno s.vb) (resolved_by (Act.Abort w.seq) Resolution.Ambiguous w s) s refl refl

-- of some streams those that are left, and those that moved on

pub closed_has : (i id : ℕ) (ss : List Stream) → Has (without_stream i ss) id → Has ss id × (id ≡ i → ⊥)
closed_has i id [] h = absurd h
closed_has i id (s ∷ ss) h = by (closed_has i id ss) (s.id == i) refl h
  where
    by : (Has (without_stream i ss) id → Has ss id × (id ≡ i → ⊥)) → (b : Bool) → (s.id == i) ≡ b → Has (cond (not b) (s ∷ without_stream i ss) (without_stream i ss)) id → Has (s ∷ ss) id × (id ≡ i → ⊥)
    by more true e j = let p = more j in (inr p.0, p.1)
    by more false e j = ⊎_elim (λ q. (inl q, λ f. eqb-false s.id i e (q ∙ f))) (λ k. let p = more k in (inr p.0, p.1)) j

-- streams that are changed and keep their numbers
changed_has : (f : Stream → Stream) → ((s : Stream) → (f s).id ≡ s.id) → (id : ℕ) (ss : List Stream) → Has (map f ss) id → Has ss id
changed_has f keeps id [] h = absurd h
changed_has f keeps id (s ∷ ss) h = ⊎_elim (λ e. inl (sym (keeps s) ∙ e)) (λ k. inr (changed_has f keeps id ss k)) h

settled_less : (vb new : Plain) → new.streams ≡ vb.streams → NoMore vb (settled new).vb
settled_less vb new e = same_more vb (settled new).vb (after_settled new ∙ e)

-- ---- one call

-- a vBucket that gets a role has no stream
pub led_none : (vb : Plain) (uuid id : ℕ) → Has (settled (led vb uuid)).vb.streams id → ⊥
led_none vb uuid id h = subst (λ ss. Has ss id) (after_settled (led vb uuid)) h

inherits_none : (vb : Plain) (id : ℕ) → Has (settled (risen vb)).vb.streams id → ⊥
inherits_none vb id h = subst (λ ss. Has ss id) (after_settled (risen vb)) h

-- one that is given up keeps a stream that it had
pub found_has : (id : ℕ) (ss : List Stream) (s : Stream) → stream_at id ss ≡ Some s → Has ss s.id
found_has id [] s e = absurd (cc)
found_has id (x ∷ xs) s e = by (found_has id xs s) (x.id == id) e
  where
    named : Option Stream → ℕ
    named None = x.id
    named (Some y) = y.id

    by : (stream_at id xs ≡ Some s → Has xs s.id) → (b : Bool) → cond b (Some x) (stream_at id xs) ≡ Some s → Has (x ∷ xs) s.id
    by more true e = inl (ap named e)
    by more false e = inr (more e)

module _ (vb : Plain) where
  streams_less : (v : ℕ) {c : VbCall} {streams : List Stream} {said : VbAnswer} → StreamsAre vb c streams said → OpensNone v c → NoMore vb (record vb { streams = streams })
  streams_less v (Opens id ask sync free) q = absurd q
  streams_less v (Places i s found none near) q = λ id h. changed_has (given_cursor s.id) (given_id s.id) id vb.streams h
  streams_less v (Feeds i s w found has ends) q = λ id h. changed_has (moved_on s.id w.last) (moved_id s.id w.last) id vb.streams h
  streams_less v (Drops i) q = λ id h. changed_has (without_cursor i) (cursor_id false i) id vb.streams h
  streams_less v (Closes i) q = λ id h. (closed_has i id vb.streams h).0

  start_less : {c : VbCall} {start : Plain × VbReply} → StartIs vb c start → NoMore vb (and_settled start).0
  start_less {start = start} (Expires clock on) = settled_less vb start.0 (aborts_streams (late clock vb.waiting) (unresolved vb))
  start_less (Leads uuid free) = λ id h. absurd (led_none vb uuid id h)
  start_less (Inherits free) = λ id h. absurd (inherits_none vb id h)
  start_less {start = start} other = settled_less vb start.0 refl

  row_less : (v : ℕ) {c : VbCall} {made : Plain × VbReply} → RowIs vb c made → OpensNone v c → NoMore vb made.0
  row_less v (Streams c streams said is) q = streams_less v is q
  row_less v (Settles c start is) q = start_less is
  row_less v (Turns c new loud idle) q = λ id h. absurd h
  row_less v (Yields i s on at) q = λ id h. ⊎_elim (λ e. subst (Has vb.streams) e (found_has i vb.streams s at)) (λ none. absurd none) h
  row_less v other q = λ id h. h

  -- a call that opens no stream
  call_leaves : (c : VbCall) (v : ℕ) → OpensNone v c → NoMore vb (plain_step vb c).0
  call_leaves c v q = row_less v (row_is vb c) q

-- ---- vBuckets by their numbers

-- none has a stream that it had not
abbrev pub NoNew : States → States → Type 0
NoNew old new = (v id : ℕ) → HasIn (new v) id → HasIn (old v) id

pub none_new : (old mid new : States) → NoNew old mid → NoNew mid new → NoNew old new
none_new old mid new first second v id h = first v id (second v id h)

-- another one at v
pub put_new : (states : States) (v : ℕ) (new : Plain) → ((id : ℕ) → Has new.streams id → HasIn (states v) id) → NoNew states (with_vb_at states v new)
put_new states v new less w id = by (w == v) refl
  where
    by : (b : Bool) → (w == v) ≡ b → HasIn (if b then Some new else states w) id → HasIn (states w) id
    by true e h = subst (λ k. HasIn (states k) id) (sym (eqb-true w v e)) (less id h)
    by false e h = h

pub step_new : (states : States) (v : ℕ) (c : VbCall) → OpensNone v c → NoNew states (states_step states v c).0
step_new states v c q = by (states v) refl
  where
    by : (o : Option Plain) → states v ≡ o → NoNew states (call_at states v c o).0
    by None e = λ w id h. h
    by (Some vb) e = put_new states v (plain_step vb c).0 (λ id h. subst (λ o. HasIn o id) (sym e) (call_leaves vb c v q id h))

-- the vBucket that was put at v
pub found_at_own : (states : States) (v : ℕ) (vb : Plain) → with_vb_at states v vb v ≡ Some vb
found_at_own states v vb = ap (λ b. if b then Some vb else states v) (eq-eqb v v refl)

-- a stream that was closed is no more
pub closed_here : (states : States) (v i : ℕ) → HasIn ((states_step states v (call.CloseStream i)).0 v) i → ⊥
closed_here states v i = by (states v) refl
  where
    by : (o : Option Plain) → states v ≡ o → HasIn ((call_at states v (call.CloseStream i) o).0 v) i → ⊥
    by None e h = subst (λ o. HasIn o i) e h
    by (Some vb) e h = (closed_has i i vb.streams (subst (λ o. HasIn o i) (found_at_own states v (close_row vb i).0) h)).1 refl

-- programs and jobs of such calls

module _ (calls : ℕ → VbCall → Type 0) (none : (v : ℕ) (c : VbCall) → calls v c → OpensNone v c) where
  pub after_new : {A : Type 0} (answers : A → Type 0) (prog : Prog A) (states : States) → Always calls answers prog → NoNew states (after prog states).0
  after_new answers (Done a) states always = λ v id h. h
  after_new answers (Call v c next) states always =
      let step : States × Option VbReply = states_step states v c in
      none_new states step.0 (after (next step.1) step.0).0 (step_new states v c (none v c always.0)) (after_new answers (next step.1) step.0 (always.1 step.1 tt))

  pub after_job_new : {A : Type 0} (asks : ℕ → Ask → Type 0) (answers : A → Type 0) (job : Job A) (states : States) (shelves : Shelves) → AlwaysJob AnyReply calls asks answers job → NoNew states (after_job job states shelves).0.0
  after_job_new asks answers (Ended a) states shelves always = λ v id h. h
  after_job_new asks answers (AsksCall v c next) states shelves always =
      let step : States × Option VbReply = states_step states v c in
      none_new states step.0 (after_job (next step.1) step.0 shelves).0.0 (step_new states v c (none v c always.0)) (after_job_new asks answers (next step.1) step.0 shelves (always.1 step.1 tt))
  after_job_new asks answers (Request v ask next) states shelves always =
      let step : Shelves × Got ask = shelves_step shelves v ask in after_job_new asks answers (next step.1) states step.0 (always.1 step.1)
