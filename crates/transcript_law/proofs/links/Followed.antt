-- what a follower's vBucket makes of a log, a marker and a change, and its member of the cluster with it
use Rattle.std.specs.Prelude.{◌≡◌, ◌<◌, ◌≤◌, ◌∷◌, ◌++◌, ◌⊎◌, ◌^◌, if◌then◌else◌}
use Rattle.{branch_model.specs.Journals.{place_of}, cluster_model.specs.Clusters.{Disk, spanned}, vb_calls.specs.Shelves.{Shelf}, vb_calls.specs.Spans.{span_position}, vb_calls.specs.declared.span.Origin.{Origin}, transcript_law.specs.Chronicles.{DiskKnown}}
use Rattle.transcript_law.proofs.{disks.Disks.{ShelfIs, grown_spots, parts_of, shelf_spanned}, invariant.Wholes.{Spanned}}
use Rattle.transcript_law.proofs.Words.{ℕ, Bool, true, false, List, [], refl, ap, sym, ◌∙◌, subst, arith, inl, inr, ⊎_elim, Option, Some, None, is_some, nat_lt, cases_lt}
use Rattle.transcript_law.proofs.Words.{nat_tests, All, All-append, All-nil, All-cons, Act, Change, Pend, Position, LogEntry, Role, upto, Rises, last_seq, IsOf, HasLast, hist, Shared, upto_down, in_filter}
use Rattle.transcript_law.proofs.Words.{append_assoc, holds_fewer, holds_same, front, uuid_of, fork_of, Feed, Member, Cluster, above, member_reach, adopted, marked_by, received, start_cases, at_le, Received, Span, with_seal}
use Rattle.transcript_law.proofs.Words.{with_change, span_of, last_at, Grown, DialResult, States, with_vb_at, call_at, Call, Prog, after, VbReply, VbCall, Plain, plain_step, is_active, quiet_reply, refusal_reply}
use Rattle.transcript_law.proofs.{Words.{is_follower, is_answerable, marker_fits, marked_vb, is_next, with_received_change, Sound, StaysSound, Chronicle, held_more, with_at, known_history}, invariant.Tables.{at_here}}
use Rattle.transcript_law.proofs.invariant.Agreement.{ActFits, BranchAgrees, ChangeFits, EntryFits, VbAgrees, WritesIf, all_rise, marker_start, no_counts, no_lefts, no_times, own_history, top}
use Rattle.transcript_law.proofs.invariant.Holdings.{opened_as}
use Rattle.transcript_law.proofs.invariant.Carried.{no_writer}
use Rattle.transcript_law.proofs.invariant.Wholes.{WholeTo, from_is, joined_opens, not_inside, spanned_marked, spanned_received, whole_before, whole_sealed}
use Rattle.{branch_model.proofs.Holding.{holds_received, holds_whole}, branch_model.proofs.Lists.{in_left}, branch_model.specs.Requests.{marked}, std.proofs.Math.Nat.{min-eq_left, min-eq_right}}
use Rattle.{std.specs.Prelude.{max, min, option_map}, transcript_law.specs.Chronicles.{after_adopt}, vb_calls.specs.Following.{cas_of, completed_act, receive_as}, vb_calls.specs.Spans.{received_joined}}
use Rattle.{vb_calls.specs.State.{pending_of}, vb_types.specs.declared.change.Act.TheVariants.{Abort, Commit, Prepare, Remove, Set}, vbucket.proofs.Grown.{received_grown}}
use Rattle.vb_types.specs.declared.status.Status.TheVariants as status
use Rattle.vb_calls.specs.declared.calls.VbAnswer.TheVariants as answer
use Rattle.vb_calls.specs.declared.calls.VbCall.TheVariants as call
use Rattle.transcript_law.proofs.{invariant.Bounded.{weighs_push}, links.Sent.{act_told, change_line}, invariant.Waiting.{commit_of}, Words.{Doc}}

-- what a call to a vBucket comes to
pub came_of : (states : States) (v : ℕ) (c : VbCall) (next : Option VbReply → Prog DialResult) (fv fv' : Plain) (reply : VbReply) → states v ≡ Some fv → plain_step fv c ≡ (fv', reply)
    → after (Call v c next) states ≡ after (next (Some reply)) (with_vb_at states v fv')
came_of states v c next fv fv' reply e q = ap (λ o. let y = call_at states v c o in after (next y.1) y.0) e ∙ ap (λ y. after (next (Some y.1)) (with_vb_at states v y.0)) q

-- a vBucket that takes no writes
pub no_writes : (r : Chronicle) (n v br : ℕ) (b : Role) → is_active b ≡ false → WritesIf (is_active b) r n v br
no_writes r n v br b e = subst (λ x. WritesIf x r n v br) (sym e) tt

-- the history of a member's branch is what the lines tell of it
pub own_is : (r : Chronicle) (c : Cluster) (n v : ℕ) (m : Member) → ((u : ℕ) → hist c.tree u ≡ hist r.tree u) → hist c.tree 0 ≡ [] → BranchAgrees (r.branch_at n v) m.br → hist c.tree m.br ≡ own_history r n v
own_is r c n v m hists rootless is = by (r.branch_at n v) is
  where
    by : (o : Option ℕ) → BranchAgrees o m.br → hist c.tree m.br ≡ known_history r.tree o
    by None e = ap (hist c.tree) e ∙ rootless
    by (Some u) e = hists m.br ∙ ap (hist r.tree) e

-- a fork lies within the snapshot
pub fork_low : (p : Position) → p.ss ≤ p.at → fork_of p ≤ p.at
fork_low p l = ⊎_elim (λ c. let e : fork_of p ≡ p.at = c.1 in omega arith) (λ c. let e : fork_of p ≡ p.ss = c.1 in omega arith) (start_cases p.ss p.se p.at)

-- a log that is taken over

pub adopt_is : (fv : Plain) (log : List LogEntry) (b : Bool) → is_follower fv.role ≡ true → is_answerable log ≡ b
    → plain_step fv (call.Adopt log) ≡ (if b then (record fv { log = log; first = true }, quiet_reply answer.Done) else (fv, refusal_reply status.Einval))
adopt_is fv log b f a = λ i. if f i then (if a i then (record fv { log = log; first = true }, quiet_reply answer.Done) else (fv, refusal_reply status.Einval)) else (fv, refusal_reply status.NotMyVbucket)

module _ (stays : StaysSound) (r : Chronicle) (c : Cluster) (hists : (u : ℕ) → hist c.tree u ≡ hist r.tree u) (rootless : hist c.tree 0 ≡ []) (n v : ℕ) (m : Member) (fv : Plain) (feed : Feed)
    (x : VbAgrees r n v m fv) (f : is_follower fv.role ≡ true) (a : is_answerable feed.log ≡ true) (fits : All EntryFits feed.log) (e : uuid_of (front feed.log) ≡ feed.u)
    (shared : Shared c.tree m.br feed.u (member_reach m)) where
  abbrev adopting : Chronicle
  adopting = after_adopt r n v feed.log

  new_branch : BranchAgrees (adopting.branch_at n v) feed.u
  new_branch = subst (λ o. BranchAgrees o feed.u) (sym (at_here r.branch_at n v (option_map (λ y. y.uuid) (front feed.log))))
      (elim (front feed.log) as (λ o. uuid_of o ≡ feed.u → BranchAgrees (option_map (λ e. e.uuid) o) feed.u) [ None ↦ (λ q. sym q) | Some x ↦ (λ q. sym q) ] e)

  same_front : upto (own_history r n v) fv.position.at ≡ upto (own_history adopting n v) fv.position.at
  same_front =
      let within : m.position.at ≤ m.position.se = subst (λ p. p.at ≤ p.se) (sym x.member.position) x.sound.within.1 in
      let at_reach : m.position.at ≤ member_reach m = at_le m within in
      let level : m.position.at ≡ fv.position.at = ap (λ p. p.at) x.member.position in
      ap (λ h. upto h fv.position.at) (sym (own_is r c n v m hists rootless x.branch))
      ∙ upto_down (hist c.tree m.br) (hist c.tree feed.u) fv.position.at (member_reach m) (omega arith) shared
      ∙ ap (λ h. upto h fv.position.at) (own_is adopting c n v (adopted m (Some feed)) hists rootless new_branch)

  pub adopted_agrees : VbAgrees adopting n v (adopted m (Some feed)) (record fv { log = feed.log; first = true })
  adopted_agrees = record {
    kept = record {
      sound = subst Sound (ap (λ p. p.0) (adopt_is fv feed.log true f a)) (stays fv (call.Adopt feed.log) x.sound tt);
      spanned = x.spanned;
      keeps = record { below = x.below; parts = x.parts; base = x.base; low = x.low; fits = x.fits; weighs = x.weighs; entries = fits; high = x.high };
      told = record {
        held = x.held;
        log = at_here r.log_at n v (Some feed.log);
        snap = x.snap;
        unlogged = λ q. elim feed.log as (λ l. option_map (λ e. e.uuid) (front l) ≡ None → l ≡ []) [ [] ↦ (λ z. refl) | x ∷ older ↦ (λ z. cc) ]
            (sym (at_here r.branch_at n v (option_map (λ y. y.uuid) (front feed.log))) ∙ q);
      };
      member = record { active = x.member.active; position = x.member.position; log = refl };
      branch = new_branch;
      holds = holds_same 0 (WholeTo fv.floor fv.spans fv.position) fv.position.at m.held (own_history r n v) (own_history adopting n v) (all_rise x.kept) same_front
          (λ i w. let low : fork_of fv.position ≤ fv.position.at = fork_low fv.position x.sound.within.0 in let k : i ≤ fork_of fv.position = w.1 in omega arith) x.holds;
    };
    role = x.role;
    opened = x.opened;
    writes = no_writes adopting n v feed.u fv.role (no_writer fv.role f);
    counts = no_counts fv.role (r.counts_at n v) fv.others fv.acks (no_writer fv.role f);
    lefts = no_lefts fv.role (r.counts_at n v).risen fv.position.at fv.waiting (no_writer fv.role f);
    times = no_times fv.role (r.counts_at n v).times fv.waiting (no_writer fv.role f);
  }

-- a snapshot that begins

pub marker_is : (fv : Plain) (start end : ℕ) (b : Bool) → is_follower fv.role ≡ true → marker_fits fv.position fv.first start end ≡ b
    → plain_step fv (call.Marker start end) ≡ (if b then (marked_vb fv start end, quiet_reply (answer.Range (min start fv.position.at) end)) else (fv, refusal_reply status.Erange))
marker_is fv start end b f a = λ i. if f i then (if a i then (marked_vb fv start end, quiet_reply (answer.Range (min start fv.position.at) end)) else (fv, refusal_reply status.Erange)) else (fv, refusal_reply status.NotMyVbucket)

-- the start that the next marker names is the one that the position means
pub start_is_fork : (p : Position) (in_one : Bool) → p.ss ≤ p.at → (in_one ≡ true → p.at ≡ p.se) → min (marker_start in_one p) p.at ≡ fork_of p
start_is_fork p true l e =
    let s : p.at ≡ p.se = e refl in ⊎_elim (λ c. min-eq_right (omega arith) ∙ sym c.1) (λ c. absurd (c.0 s)) (start_cases p.ss p.se p.at)
start_is_fork p false l e =
    ⊎_elim (λ c. min-eq_left (let x : fork_of p ≡ p.at = c.1 in omega arith)) (λ c. min-eq_left (let x : fork_of p ≡ p.ss = c.1 in omega arith)) (start_cases p.ss p.se p.at)

-- and has room in its field
pub start_low : (p : Position) (in_one : Bool) → p.ss ≤ p.at → p.at ≤ p.se → p.se ≤ 2 ^ 48 → marker_start in_one p < 2 ^ 64
start_low p true l m h = omega arith
start_low p false l m h =
    ⊎_elim (λ c. let x : fork_of p ≡ p.at = c.1 in omega arith) (λ c. let x : fork_of p ≡ p.ss = c.1 in omega arith) (start_cases p.ss p.se p.at)

-- what is told of a vBucket that is in another snapshot
abbrev pub ranged_told : Chronicle → ℕ → ℕ → ℕ → ℕ → Chronicle
ranged_told r n v ss se = record r { open_at = with_at r.open_at n v false; snap_at = with_at r.snap_at n v (Some (ss, se)) }

pub marked_agrees : (stays : StaysSound) (r : Chronicle) (n v : ℕ) (m : Member) (fv : Plain) (feed : Feed) (x : ℕ × List Change) (more : List (ℕ × List Change)) (start : ℕ) → VbAgrees r n v m fv → is_follower fv.role ≡ true
    → marker_fits fv.position fv.first start x.0 ≡ true → min start m.position.at ≡ fork_of m.position → m.position.at < x.0 → VbAgrees (ranged_told r n v (min start fv.position.at) x.0) n v (marked_by m feed (x ∷ more)) (marked_vb fv start x.0)
marked_agrees stays r n v m fv feed x more start a f fits e above =
    let p' : Position = marked fv.position start x.0 in
    let starts : p'.ss ≡ fork_of fv.position = subst (λ p. min start p.at ≡ fork_of p) a.member.position e in
    let goes_on : fv.position.at < x.0 = subst (λ p. p.at < x.0) a.member.position above in
    record {
      kept = record {
        sound = subst Sound (ap (λ p. p.0) (marker_is fv start x.0 true f fits)) (stays fv (call.Marker start x.0) a.sound tt);
        spanned = spanned_marked fv.role fv.floor fv.spans fv.position p' a.spanned a.sound.spans starts;
        keeps = a.keeps;
        told = record { held = a.held; log = a.log; snap = at_here r.snap_at n v (Some (min start fv.position.at, x.0)); unlogged = a.unlogged };
        member = record { active = a.member.active; position = ap (λ s. record { ss = s; se = x.0; at = m.position.at }) (sym e) ∙ ap (λ p. marked p start x.0) a.member.position; log = a.member.log };
        branch = a.branch;
        holds = holds_fewer 0 (WholeTo fv.floor (with_seal fv.spans) p') (WholeTo fv.floor fv.spans fv.position) m.held (own_history r n v) (λ i w. (
          whole_sealed fv.spans i w.0,
          (let k : i ≤ fork_of p' = w.1 in ⊎_elim
              (λ c. let z : fv.position.at ≡ x.0 = c.0 in absurd (omega arith))
              (λ c. let z : fork_of p' ≡ p'.ss = c.1 in omega arith)
              (start_cases p'.ss p'.se p'.at)),
          w.2,
        )) a.holds;
      };
      role = a.role;
      opened = opened_as fv.role (with_at r.open_at n v false n v) false (at_here r.open_at n v false);
      writes = no_writes (ranged_told r n v (min start fv.position.at) x.0) n v m.br fv.role (no_writer fv.role f);
      counts = no_counts fv.role (r.counts_at n v) fv.others fv.acks (no_writer fv.role f);
      lefts = no_lefts fv.role (r.counts_at n v).risen fv.position.at fv.waiting (no_writer fv.role f);
      times = no_times fv.role (r.counts_at n v).times fv.waiting (no_writer fv.role f);
    }

-- a change that comes next

-- what a follower makes of a change as its message tells it: a commit has the document of the prepare that waits at its key
pub receive_is : (fv : Plain) (c : Change) (b : Bool) (o : Option Act) → is_follower fv.role ≡ true → is_next fv.position c.seq ≡ b → completed_act (pending_of fv c.key) (act_told c.act) ≡ o
    → plain_step fv (call.Receive (change_line c)) ≡ (if b then receive_as o fv (change_line c) else (fv, refusal_reply status.Erange))
receive_is fv c b o f a d = λ i. if f i then (if a i then receive_as (d i) fv (change_line c) else (fv, refusal_reply status.Erange)) else (fv, refusal_reply status.NotMyVbucket)

-- it is completed to what it was
pub completes : (a done : Act) (pend : Option Pend) → ((number : ℕ) (doc : Doc) (deleted : Bool) → a ≡ Commit number doc deleted → (e : Pend) × (pend ≡ Some e) × (e.seq ≡ number) × (e.doc ≡ doc) × (e.deleted ≡ deleted))
    → completed_act pend (act_told a) ≡ Some done → done ≡ a
completes (Set doc) done pend f e = cc
completes (Remove cas rev) done pend f e = cc
completes (Prepare level doc deleted) done pend f e = cc
completes (Commit number doc deleted) done pend f e =
    let x = f number doc deleted refl in let y = commit_of number pend done e in
    let same : x.0 ≡ y.pend = let z : Some x.0 ≡ Some y.pend = sym x.1 ∙ y.is in cc in
    sym y.commits ∙ (λ i. Commit number (sym same i).doc (sym same i).deleted) ∙ (λ i. Commit number (x.3 i) (x.4 i))
completes (Abort number) done pend f e = cc

cas_fits : (a : Act) → ActFits a → cas_of (act_told a) < 2 ^ 64
cas_fits (Set doc) f = f.cas
cas_fits (Remove cas rev) f = f.0
cas_fits (Prepare level doc deleted) f = f.0.cas
cas_fits (Commit number doc deleted) f = omega arith
cas_fits (Abort number) f = omega arith

pub last_seq_push : (n : ℕ) (xs : List Change) (c : Change) → last_seq n (xs ++ c ∷ []) ≡ c.seq
last_seq_push n [] c = refl
last_seq_push n (x ∷ xs) c = last_seq_push x.seq xs c

-- its span ends where the vBucket is then
pub received_shelf : {told : DiskKnown} {d : Disk} {shelf : Shelf} (fv : Plain) (c : Change) → is_active fv.role ≡ false → Spanned fv.role fv.spans fv.position → ShelfIs told d shelf (parts_of fv)
    → ShelfIs told (spanned d (span_position (Received fv.position.ss fv.position.se) c.seq)) shelf (parts_of (with_received_change fv c).0)
received_shelf {d = d} fv c rests i x =
    let joined : Option Span = received_joined fv.held fv.spans.current (last_at fv.held c.key) c in let from : Origin = Received fv.position.ss fv.position.se in
    let alone : Span = span_of fv.position.at from c in
    shelf_spanned (with_change fv.spans joined alone) x refl refl refl
    (grown_spots (place_of d.book).at c.seq fv.spans joined alone from d.stood (received_grown fv.held fv.spans.current (last_at fv.held c.key) c) refl refl (λ w e. i.current w rests e) x.spots)

module _ (stays : StaysSound) (r : Chronicle) (n v : ℕ) (m : Member) (fv : Plain) (c : Change) (later : List Change) (a : VbAgrees r n v m fv) (f : is_follower fv.role ≡ true) (next : is_next fv.position c.seq ≡ true)
    (fits : ChangeFits c) (done : completed_act (pending_of fv c.key) (act_told c.act) ≡ Some c.act) (points_of_branch : IsOf (own_history r n v) c) (rises_h : Rises 0 top (own_history r n v))
    (forked : HasLast m.held (own_history r n v) 0 (fork_of fv.position) (fork_of fv.position)) (followed : HasLast (above (m.held ++ c ∷ []) m.position.ss) (own_history r n v) m.position.ss c.seq m.position.se) where
  abbrev p : Position
  p = fv.position

  abbrev p' : Position
  p' = record { ss = p.ss; se = p.se; at = c.seq }

  abbrev joined : Option Span
  joined = received_joined fv.held fv.spans.current (last_at fv.held c.key) c

  abbrev alone : Span
  alone = span_of p.at (Received p.ss p.se) c

  rests : is_active fv.role ≡ false
  rests = no_writer fv.role f

  goes_on : p.at < c.seq
  goes_on = grind (arith, nat_tests, next)

  grown : Grown fv.spans.current joined c.seq
  grown = received_grown fv.held fv.spans.current (last_at fv.held c.key) c

  -- inside its snapshot the vBucket would leave its branch at the snapshot's start
  fork_ss : fork_of p ≡ p.ss
  fork_ss = ⊎_elim (λ q. let z : p.at ≡ p.se = q.0 in let on = goes_on in let low : c.seq ≤ p.se = grind (arith, nat_tests, next) in absurd (omega arith)) (λ q. q.1) (start_cases p.ss p.se p.at)

  at_start : HasLast m.held (own_history r n v) 0 p.ss p.ss
  at_start = subst (λ i. HasLast m.held (own_history r n v) 0 i i) fork_ss forked

  -- once the snapshot is whole
  at_end : c.seq ≡ p.se → HasLast (m.held ++ c ∷ []) (own_history r n v) 0 c.seq c.seq
  at_end q =
      let level : m.position.ss ≡ p.ss = ap (λ (y : Position). y.ss) a.member.position in
      let level_se : m.position.se ≡ p.se = ap (λ (y : Position). y.se) a.member.position in let within : p.ss ≤ p.at = a.sound.within.0 in
      let on = goes_on in
      let got : HasLast (above (m.held ++ c ∷ []) m.position.ss) (own_history r n v) p.ss c.seq c.seq =
      subst (λ i. HasLast (above (m.held ++ c ∷ []) m.position.ss) (own_history r n v) i c.seq c.seq) level
      (subst (λ i. HasLast (above (m.held ++ c ∷ []) m.position.ss) (own_history r n v) m.position.ss c.seq i) (level_se ∙ sym q) followed) in
      holds_whole 0 top p.ss c.seq (m.held ++ c ∷ []) (above (m.held ++ c ∷ []) m.position.ss) (own_history r n v) rises_h (omega arith)
      (λ slot d e l k. let o = at_start slot d e l k in (o.0, in_left o.0 m.held (c ∷ []) o.1, o.2)) got
      (λ y i. (in_filter (λ d. nat_lt m.position.ss d.seq) y (m.held ++ c ∷ []) i).0)

  split : (i : ℕ) → WholeTo fv.floor (with_change fv.spans joined alone) p' i → WholeTo fv.floor fv.spans p i ⊎ HasLast (m.held ++ c ∷ []) (own_history r n v) 0 i i
  split i w = ⊎_elim (λ inside. ⊎_elim (λ q.
      let z : c.seq ≡ p.se = q.0 in let k : fork_of p' ≡ c.seq = q.1 in let most : i ≤ fork_of p' = w.1 in
      ⊎_elim
      (λ below. absurd (not_inside i c.seq p.ss fv.spans joined alone grown refl refl (λ x e. from_is x.origin p.ss p.se (a.spanned.current x rests e)) inside below w.0))
      (λ reached. inr (let same : i ≡ c.seq = omega arith in subst (λ y. HasLast (m.held ++ c ∷ []) (own_history r n v) 0 y y) (sym same) (at_end z)))
      (cases_lt i c.seq))
      (λ q. let k : fork_of p' ≡ p.ss = q.1 in let most : i ≤ fork_of p' = w.1 in absurd (omega arith))
      (start_cases p'.ss p'.se p'.at))
      (λ low. inl (whole_before fv.floor i p.at c.seq fv.spans joined alone a.sound.spans goes_on grown w.0, (let k : fork_of p ≡ p.ss = fork_ss in omega arith), w.2))
      (cases_lt p.ss i)

  pub received_agrees : VbAgrees (record r { held = held_more r n v c; open_at = with_at r.open_at n v true }) n v (received m (Some (c ∷ later))) (with_received_change fv c).0
  received_agrees = record {
    kept = record {
      sound = subst Sound (ap (λ y. y.0) (receive_is fv c true (Some c.act) f next done)) (stays fv (call.Receive (change_line c)) a.sound (cas_fits c.act fits.act));
      spanned = spanned_received fv.role fv.spans p p' joined alone rests a.spanned refl refl grown refl;
      keeps = record {
        below = a.below;
        parts = ap (λ h. h ++ c ∷ []) a.parts ∙ append_assoc a.below fv.held (c ∷ []);
        base = a.base;
        low = a.low;
        fits = All-append ChangeFits m.held (c ∷ []) a.fits (All-cons ChangeFits c [] fits (All-nil ChangeFits));
        weighs = weighs_push fv.last_cas (max fv.last_cas (cas_of c.act)) m.held c (omega arith) (omega arith) a.weighs;
        entries = a.entries;
        high = last_seq_push 0 m.held c;
      };
      told = record { held = at_here r.held n v (r.held n v ++ c ∷ []) ∙ ap (λ h. h ++ c ∷ []) a.held; log = a.log; snap = a.snap; unlogged = a.unlogged };
      member = record { active = a.member.active; position = ap (λ y. record { ss = y.ss; se = y.se; at = c.seq }) a.member.position; log = a.member.log };
      branch = a.branch;
      holds = holds_received 0 (WholeTo fv.floor fv.spans p) (WholeTo fv.floor (with_change fv.spans joined alone) p') m.held (own_history r n v) c points_of_branch split a.holds;
    };
    role = a.role;
    opened = opened_as fv.role (with_at r.open_at n v true n v) (is_some (with_change fv.spans joined alone).current) (at_here r.open_at n v true ∙ sym (joined_opens fv.spans joined alone));
    writes = no_writes (record r { held = held_more r n v c; open_at = with_at r.open_at n v true }) n v m.br fv.role rests;
    counts = no_counts fv.role (r.counts_at n v) fv.others fv.acks rests;
    lefts = no_lefts fv.role (r.counts_at n v).risen c.seq fv.waiting rests;
    times = no_times fv.role (r.counts_at n v).times fv.waiting rests;
  }
