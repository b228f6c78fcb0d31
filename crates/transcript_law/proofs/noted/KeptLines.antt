-- a group of lines by which active is stated on no link: who writes on a branch does so on, and a link's stream is of the branch that it was of
use Rattle.std.specs.Prelude.{◌≡◌, ◌∷◌, ◌&&◌, ◌||◌, ◌==◌, if◌then◌else◌, not}
use Rattle.std.specs.List.{list_any}
use Rattle.script_text.specs.declared.verb.ClientVerb.TheVariants as client_verb
use Rattle.script_text.specs.declared.verb.LinkVerb.TheVariants as link_verb
use Rattle.script_text.specs.declared.verb.NodeVerb.TheVariants as node_verb
use Rattle.script_text.specs.declared.verb.Verb.TheVariants as verb
use Rattle.script_text.specs.declared.verb.VbVerb.TheVariants as vb_verb
use Rattle.transcript_law.proofs.Words.{ℕ, Bool, true, false, List, [], refl, ap, sym, ◌∙◌, subst, ⊎_elim, and_parts, eqb-true, eqb-false, ne_eqb, Option, Some, None, Answer, Chronicle, Event, Granted, Role, StreamName, Verb, after_line, after_lines, after_role, option_map, stream_branch}
use Rattle.transcript_law.proofs.invariant.Trees.{IsTold, is_told_grow, is_told_there, new_untold}
use Rattle.transcript_law.proofs.noted.Freed.{SameBranch, changed_branch, risen_writers, same_branch}
use Rattle.transcript_law.proofs.noted.FreedGroups.{ruled}
use Rattle.transcript_law.specs.Chronicles.{Appending, Conns, after_append, after_calls, after_crash, after_dial, after_group, after_made, after_moved, after_openings, after_restart, after_restarts, after_rollback, after_start, after_starts, after_up, after_verb, ahead, appending, as_noted, calls_of_append, disks_of, heir_in, is_made, is_off, is_rollback, known_down, rollback_of, saving, state_of, with_disk, with_disk_there}
use Rattle.transcript_law.specs.{Heirs.{IsHeir, LawfulRole}, Lawfulness.{LawfulLine, LinesFrom}}
use Rattle.transcript_law.specs.LinesTold.{Dial, after_end, granted, is_branch, is_dial_at, is_feed_of, is_name, is_stream_of, with_id}
use Rattle.transcript_law.specs.{TakeoverNotes.{is_grant_of}, Tellings.{are_all}}
use Rattle.vb_disk.specs.declared.fuse.Fuse.{Fuse}
use Rattle.vb_disk.specs.declared.made.Outcome.{Outcome}
use Rattle.vb_events.specs.declared.event.Answer.TheVariants as answer
use Rattle.vb_events.specs.declared.event.Cause.TheVariants as cause
use Rattle.vb_events.specs.declared.event.Event.TheVariants as event
use Rattle.vb_types.specs.declared.journal.Record.{Record}
use Rattle.vb_types.specs.declared.stream.AskAnswer.TheVariants as ask_answer

-- active is stated on no link
abbrev pub is_unceding : Event → Bool
is_unceding (event.Stated (StreamName.Link l) Role.Active) = false
is_unceding other = true

-- of two lists neither has such a one
pub none_first : (a b : Bool) → (a || b) ≡ false → (a ≡ false) × (b ≡ false)
none_first true b e = cc
none_first false b e = (refl, e)

branch_more : (o o' o'' : Option Granted) → SameBranch o o' → SameBranch o' o'' → SameBranch o o''
branch_more o o' o'' first next g'' e = let (g', e', same') = next g'' e in let (g, e0, same) = first g' e' in (g, e0, same ∙ same')

module _ (l u : ℕ) where
  -- who writes on the branch u goes on, and the link l is dialed as it was, with a stream of the branch that it was of, if it is yet
  pub record Went (r r' : Chronicle) : Type 0 where
    pub told : IsTold r.tree u → IsTold r'.tree u
    pub writers : IsTold r.tree u → (n v : ℕ) → r.writer_of u ≡ Some (n, v) → r'.writer_of u ≡ Some (n, v)
    pub streams : (v : ℕ) → SameBranch (r.stream_of (StreamName.Link l) v) (r'.stream_of (StreamName.Link l) v)
    pub dials : (d : Dial) → r'.dial_of l ≡ Some d → r.dial_of l ≡ Some d

  pub went_same : (r r' : Chronicle) → r'.tree ≡ r.tree → r'.writer_of ≡ r.writer_of → r'.stream_of ≡ r.stream_of → r'.dial_of ≡ r.dial_of → Went r r'
  went_same r r' tree writers streams dials = record {
    told = λ t. subst (λ k. IsTold k u) (sym tree) t;
    writers = λ t n v e. ap (λ (t : ℕ → Option (ℕ × ℕ)). t u) writers ∙ e;
    streams = λ v. subst (λ (t : StreamName → ℕ → Option Granted). SameBranch (r.stream_of (StreamName.Link l) v) (t (StreamName.Link l) v)) (sym streams) (same_branch (r.stream_of (StreamName.Link l) v));
    dials = λ d e. sym (ap (λ (t : ℕ → Option Dial). t l) dials) ∙ e;
  }

  pub went_both : (a b c : Chronicle) → Went a b → Went b c → Went a c
  went_both a b c first next = record {
    told = λ t. next.told (first.told t);
    writers = λ t n v e. next.writers (first.told t) n v (first.writers t n v e);
    streams = λ v. branch_more (a.stream_of (StreamName.Link l) v) (b.stream_of (StreamName.Link l) v) (c.stream_of (StreamName.Link l) v) (first.streams v) (next.streams v);
    dials = λ d e. first.dials d (next.dials d e);
  }

  -- streams that are changed, and not their logs
  changed : (r r' : Chronicle) (test : ℕ → Bool) (change : Granted → Granted) → ((g : Granted) → (change g).log ≡ g.log) → r'.tree ≡ r.tree → r'.writer_of ≡ r.writer_of → r'.dial_of ≡ r.dial_of
      → ((v : ℕ) → r'.stream_of (StreamName.Link l) v ≡ (if test v then option_map change (r.stream_of (StreamName.Link l) v) else r.stream_of (StreamName.Link l) v)) → Went r r'
  changed r r' test change same tree writers dials streams = record {
    told = λ t. subst (λ k. IsTold k u) (sym tree) t;
    writers = λ t n v e. ap (λ (t : ℕ → Option (ℕ × ℕ)). t u) writers ∙ e;
    streams = λ v. subst (SameBranch (r.stream_of (StreamName.Link l) v)) (sym (streams v)) (changed_branch (test v) change same (r.stream_of (StreamName.Link l) v));
    dials = λ d e. sym (ap (λ (t : ℕ → Option Dial). t l) dials) ∙ e;
  }

  -- ---- lines

  -- a branch that is made is a new one
  branch_went : (r : Chronicle) (n v uuid : ℕ) (parent : Option ℕ) (fork high : ℕ) (behind : List Event) → LawfulLine r (event.Branch n v uuid parent fork high) behind → Went r (after_line r (event.Branch n v uuid parent fork high))
  branch_went r n v uuid parent fork high behind lawful = record {
    told = λ t. is_told_there _ r.tree u (λ same. fresh t (sym same)) t;
    writers = λ t m q e. ap (λ b. if b then Some (n, v) else r.writer_of u) (ne_eqb u uuid (fresh t)) ∙ e;
    streams = λ w. same_branch (r.stream_of (StreamName.Link l) w);
    dials = λ d e. e;
  }
    where
      fresh : IsTold r.tree u → u ≡ uuid → ⊥
      fresh t same = new_untold uuid r.tree lawful.new (subst (IsTold r.tree) same t)

  -- one that becomes active made its branch, or nobody wrote on it
  active_went : (r : Chronicle) (n v : ℕ) → LawfulRole r n v Role.Active → Went r (after_role r n v Role.Active)
  active_went r n v x = record {
    told = λ t. t;
    writers = λ t m q e. ⊎_elim (λ risen. risen_writers r n v risen u ∙ e) (λ heir. heir_writes heir m q e) (x.anew refl);
    streams = λ w. same_branch (r.stream_of (StreamName.Link l) w);
    dials = λ d e. e;
  }
    where
      heir_writes : IsHeir r n v → (m q : ℕ) → r.writer_of u ≡ Some (m, q) → (after_role r n v Role.Active).writer_of u ≡ Some (m, q)
      heir_writes h m q e = ap (λ o. if is_branch o u then Some (n, v) else r.writer_of u) h.given.fed.3 ∙ by (stream_branch h.given.stream == u) refl
        where
          by : (b : Bool) → (stream_branch h.given.stream == u) ≡ b → (if b then Some (n, v) else r.writer_of u) ≡ Some (m, q)
          by true t = let z : ◌≡◌ {A = Option (ℕ × ℕ)} None (Some (m, q)) = sym h.free ∙ ap r.writer_of (eqb-true (stream_branch h.given.stream) u t) ∙ e in cc
          by false t = e

  end_went : (r : Chronicle) (k : ℕ) → Went r (after_end r k)
  end_went r k = record {
    told = λ t. t;
    writers = λ t n v e. e;
    streams = λ v. elim (l == k) as (λ b. SameBranch (r.stream_of (StreamName.Link l) v) (if b then None else r.stream_of (StreamName.Link l) v)) [ true ↦ λ g z. cc | false ↦ same_branch (r.stream_of (StreamName.Link l) v) ];
    dials = λ d. elim (l == k) as (λ b. (if b then None else r.dial_of l) ≡ Some d → r.dial_of l ≡ Some d) [ true ↦ λ e. cc | false ↦ λ e. e ];
  }

  -- another link's request
  go_went : (r : Chronicle) (k n v : ℕ) (ask : _) (high : _) (log : _) → (k == l) ≡ false → Went r (after_line r (event.Asked (StreamName.Link k) n v ask high log ask_answer.Go))
  go_went r k n v ask high log other = record {
    told = λ t. t;
    writers = λ t m q e. e;
    streams = λ w. subst (λ b. SameBranch (r.stream_of (StreamName.Link l) w) (if b && w == v then Some (granted ask log) else r.stream_of (StreamName.Link l) w)) (sym (ne_eqb l k (λ e. eqb-false k l other (sym e)))) (same_branch (r.stream_of (StreamName.Link l) w));
    dials = λ d e. e;
  }

  pub line_went : (r : Chronicle) (line : Event) (behind : List Event) → LawfulLine r line behind → is_grant_of l line ≡ false → is_unceding line ≡ true → Went r (after_line r line)
  line_went r (event.Branch n v uuid parent fork high) behind lawful grants cedes = branch_went r n v uuid parent fork high behind lawful
  line_went r (event.Role n v Role.Active) behind lawful grants cedes = active_went r n v lawful
  line_went r (event.Role n v Role.Replica) behind lawful grants cedes = went_same r _ refl refl refl refl
  line_went r (event.Role n v Role.Pending) behind lawful grants cedes = went_same r _ refl refl refl refl
  line_went r (event.Role n v Role.Dead) behind lawful grants cedes = went_same r _ refl refl refl refl
  line_went r (event.Changed n v uuid change) behind lawful grants cedes = record { told = λ t. is_told_grow r.tree uuid change u t; writers = λ t m q e. e; streams = λ w. same_branch (r.stream_of (StreamName.Link l) w); dials = λ d e. e }
  line_went r (event.Asked (StreamName.Link k) n v ask high log ask_answer.Go) behind lawful grants cedes = go_went r k n v ask high log grants
  line_went r (event.Asked (StreamName.Link k) n v ask high log (ask_answer.Roll to)) behind lawful grants cedes = went_same r _ refl refl refl refl
  line_went r (event.Asked (StreamName.Link k) n v ask high log (ask_answer.Refuse code)) behind lawful grants cedes = went_same r _ refl refl refl refl
  line_went r (event.Asked (StreamName.Client m c) n v ask high log said) behind lawful grants cedes = went_same r _ refl refl refl refl
  line_went r (event.Marked (StreamName.Link k) start end flags) behind lawful grants cedes = changed r _ (λ w. (l == k) && is_stream_of r (StreamName.Link k) w) _ (λ g. refl) refl refl refl (λ w. refl)
  line_went r (event.Marked (StreamName.Client m c) start end flags) behind lawful grants cedes = went_same r _ refl refl refl refl
  line_went r (event.Item (StreamName.Link k) seq act key) behind lawful grants cedes = changed r _ (λ w. (l == k) && is_stream_of r (StreamName.Link k) w) _ (λ g. refl) refl refl refl (λ w. refl)
  line_went r (event.Item (StreamName.Client m c) seq act key) behind lawful grants cedes = went_same r _ refl refl refl refl
  line_went r (event.Finished (StreamName.Link k) why) behind lawful grants cedes = changed r _ (λ w. (l == k) && is_stream_of r (StreamName.Link k) w) _ (λ g. refl) refl refl refl (λ w. refl)
  line_went r (event.Finished (StreamName.Client m c) why) behind lawful grants cedes = went_same r _ refl refl refl refl
  line_went r (event.Stated (StreamName.Link k) Role.Active) behind lawful grants cedes = cc
  line_went r (event.Stated (StreamName.Link k) Role.Replica) behind lawful grants cedes = went_same r _ refl refl refl refl
  line_went r (event.Stated (StreamName.Link k) Role.Pending) behind lawful grants cedes = went_same r _ refl refl refl refl
  line_went r (event.Stated (StreamName.Link k) Role.Dead) behind lawful grants cedes = went_same r _ refl refl refl refl
  line_went r (event.Stated (StreamName.Client m c) role) behind lawful grants cedes = went_same r _ refl refl refl refl
  line_went r (event.Ranged n v ss se) behind lawful grants cedes = changed r _ (λ w. is_feed_of r n v (StreamName.Link l)) _ (λ g. refl) refl refl refl (λ w. refl)
  line_went r (event.Got n v stream change) behind lawful grants cedes = changed r _ (λ w. is_name (StreamName.Link l) stream && is_stream_of r stream w) _ (λ g. refl) refl refl refl (λ w. refl)
  line_went r (event.Acknowledged stream n v seq saved) behind lawful grants cedes = changed r _ (λ w. is_name (StreamName.Link l) stream && is_stream_of r stream w) _ (λ g. refl) refl refl refl (λ w. refl)
  line_went r (event.Ended k why) behind lawful grants cedes = end_went r k
  line_went r other behind lawful grants cedes = went_same r (after_line r other) refl refl refl refl

  pub lines_went : (r : Chronicle) (conns : Conns) (lines : List Event) → LinesFrom r conns lines → list_any (is_grant_of l) lines ≡ false → are_all is_unceding lines ≡ true → Went r (after_lines r lines)
  lines_went r conns [] from grants cedes = went_same r r refl refl refl refl
  lines_went r conns (line ∷ lines) from grants cedes =
      let lawful : LawfulLine r line lines = ruled conns line lines (LawfulLine r line lines) from.0 in
      let g = none_first (is_grant_of l line) (list_any (is_grant_of l) lines) grants in let c = and_parts (is_unceding line) (are_all is_unceding lines) cedes in
      went_both r (after_line r line) (after_lines (after_line r line) lines) (line_went r line lines lawful g.0 c.0) (lines_went (after_line r line) _ lines from.1 g.1 c.1)

  -- ---- lines of a script

  crash_went : (r0 r : Chronicle) (n : ℕ) (out : Outcome) → r.tree ≡ r0.tree → r.writer_of ≡ r0.writer_of → r.stream_of ≡ r0.stream_of → r.dial_of ≡ r0.dial_of → Went r0 (after_crash r n out)
  crash_went r0 r n out tree writers streams dials = went_both r0 r (after_crash r n out) (went_same r0 r tree writers streams dials) (record {
    told = λ t. t;
    writers = λ t m v e. e;
    streams = λ v. elim (is_dial_at n (r.dial_of l)) as (λ b. SameBranch (r.stream_of (StreamName.Link l) v) (if b then None else r.stream_of (StreamName.Link l) v)) [ true ↦ λ g z. cc | false ↦ same_branch (r.stream_of (StreamName.Link l) v) ];
    dials = λ d. elim (is_dial_at n (r.dial_of l)) as (λ b. (if b then None else r.dial_of l) ≡ Some d → r.dial_of l ≡ Some d) [ true ↦ λ e. cc | false ↦ λ e. e ];
  })

  if_went : (b : Bool) (r x y : Chronicle) → Went r x → Went r y → Went r (if b then x else y)
  if_went true r x y one other = one
  if_went false r x y one other = other

  append_went : (r : Chronicle) (n v : ℕ) (a : Appending) (said : Answer) → Went r (after_append r n v a said)
  append_went r n v a answer.Ok = went_same r _ refl refl refl refl
  append_went r n v a (answer.No cause.Closed) = went_same r _ refl refl refl refl
  append_went r n v a (answer.No cause.Disk) = went_same r _ refl refl refl refl
  append_went r n v a (answer.No cause.Stopped) = crash_went r (with_disk r n v _) n (r.arm_at n).out refl refl refl refl
  append_went r n v a other = went_same r _ refl refl refl refl

  made_went : (r : Chronicle) (n v : ℕ) (role : Role) (said : Answer) → Went r (after_made r n v role said)
  made_went r n v role said = went_both r (with_disk_there r n v said) (after_made r n v role said)
      (if_went (is_made said) r (with_disk r n v (record (r.disk_at n v) { there = true })) r (went_same r _ refl refl refl refl) (went_same r r refl refl refl refl))
      (append_went (with_disk_there r n v said) n v (appending (state_of (with_disk_there r n v said) n v role)) said)

  rollback_went : (r : Chronicle) (back : Option (ℕ × (ℕ × Record))) (lines : List Event) (said : Answer) → Went r (after_rollback r back lines said)
  rollback_went r None lines said = went_same r r refl refl refl refl
  rollback_went r (Some (n, (v, x))) lines (answer.No why) = append_went r n v (appending x) (answer.No why)
  rollback_went r (Some (n, (v, x))) lines other = if_went (list_any is_rollback lines) r (after_calls calls_of_append n r) r (went_same r _ refl refl refl refl) (went_same r r refl refl refl refl)

  moved_went : (r : Chronicle) (heir : Option (ℕ × ℕ)) (back : Option (ℕ × (ℕ × Record))) (lines : List Event) (said : Answer) → Went r (after_moved r heir back lines said)
  moved_went r None back lines said = rollback_went r back lines said
  moved_went r (Some (n, v)) back lines said = append_went r n v (appending (state_of r n v Role.Active)) (as_noted said)

  restarts_went : (r0 r : Chronicle) (lines : List Event) → Went r0 r → Went r0 (after_restarts r lines)
  restarts_went r0 r [] x = x
  restarts_went r0 r (event.Branch n v uuid parent fork high ∷ lines) x = restarts_went r0 (after_restart r n v) lines (went_both r0 r (after_restart r n v) x (went_same r (after_restart r n v) refl refl refl refl))
  restarts_went r0 r (line ∷ lines) x = restarts_went r0 r lines x

  starts_went : (r0 r : Chronicle) (n : ℕ) (said : Answer) → Went r0 r → Went r0 (after_starts r n said)
  starts_went r0 r n (answer.No cause.Stopped) x = went_both r0 r (after_crash r n (r.arm_at n).out) x (crash_went r r n (r.arm_at n).out refl refl refl refl)
  starts_went r0 r n other x = x

  openings_went : (before : Fuse) (r0 r : Chronicle) (n : ℕ) (lines : List Event) (said : Answer) → Went r0 r → Went r0 (after_openings before r n lines said)
  openings_went before r0 r n lines said x = if_went (is_off (r.arm_at n).fuse && not (is_off before)) r0 (record r { arm_at = with_id r.arm_at n known_down }) _ (went_both r0 r _ x (went_same r _ refl refl refl refl))
      (if_went _ r0 r (after_starts (after_restarts (after_up n r) lines) n said) x
      (starts_went r0 (after_restarts (after_up n r) lines) n said (restarts_went r0 (after_up n r) lines (went_both r0 r (after_up n r) x (went_same r _ refl refl refl refl)))))

  start_went : (r : Chronicle) (n : ℕ) (lines : List Event) (said : Answer) → Went r (after_start r n lines said)
  start_went r n lines (answer.No cause.UnknownNode) = went_same r r refl refl refl refl
  start_went r n lines (answer.No cause.NodeUp) = went_same r r refl refl refl refl
  start_went r n lines (answer.No cause.UuidZero) = went_same r r refl refl refl refl
  start_went r n lines (answer.No cause.UuidUsed) = went_same r r refl refl refl refl
  start_went r n lines said = openings_went (r.arm_at n).fuse r (after_calls (disks_of r n) n r) n lines said (went_same r _ refl refl refl refl)

  ahead_went : (r : Chronicle) (line : Verb) (said : Answer) → Went r (ahead r line said)
  ahead_went r (verb.AtClient n c (client_verb.Bytes bytes)) answer.Ok = went_same r _ refl refl refl refl
  ahead_went r (verb.AtClient n c (client_verb.Bytes bytes)) other = went_same r _ refl refl refl refl
  ahead_went r (verb.AtVb n v (vb_verb.Chain others)) answer.Ok = went_same r _ refl refl refl refl
  ahead_went r (verb.AtVb n v (vb_verb.Chain others)) other = went_same r _ refl refl refl refl
  ahead_went r (verb.AtVb n v vb_verb.Done) (answer.Number saved) = went_same r _ refl refl refl refl
  ahead_went r (verb.AtVb n v vb_verb.Done) other = went_same r _ refl refl refl refl
  ahead_went r (verb.AtNode n (node_verb.Crash out)) answer.Ok = went_same r _ refl refl refl refl
  ahead_went r (verb.AtNode n (node_verb.Crash out)) other = went_same r _ refl refl refl refl
  ahead_went r other said = went_same r (ahead r other said) refl refl refl refl

  -- the line dials the link
  abbrev pub is_dial : Verb → Answer → Bool
  is_dial (verb.Link k m n v buffer takeover) answer.Ok = l == k
  is_dial other said = false

  dial_went : (r : Chronicle) (k m n v : ℕ) (buffer : ℕ) (takeover : Bool) (said : Answer) → is_dial (verb.Link k m n v buffer takeover) said ≡ false → Went r (after_dial r k m n v said)
  dial_went r k m n v buffer takeover answer.Ok apart = record {
    told = λ t. t;
    writers = λ t p q e. e;
    streams = λ w. subst (λ b. SameBranch (r.stream_of (StreamName.Link l) w) (if b then None else r.stream_of (StreamName.Link l) w)) (sym apart) (same_branch (r.stream_of (StreamName.Link l) w));
    dials = λ d e. sym (ap (λ b. if b then Some (record { producer = m; node = n; vb = v }) else r.dial_of l) apart) ∙ e;
  }
  dial_went r k m n v buffer takeover other apart = went_same r _ refl refl refl refl

  verb_went : (before r : Chronicle) (line : Verb) (lines : List Event) (said : Answer) → is_dial line said ≡ false → Went r (after_verb before r line lines said)
  verb_went before r (verb.AtVb n v (vb_verb.MakeActive uuid)) lines said apart = made_went r n v Role.Active said
  verb_went before r (verb.AtVb n v vb_verb.MakeReplica) lines said apart = made_went r n v Role.Replica said
  verb_went before r (verb.Link k m n v buffer takeover) lines said apart = dial_went r k m n v buffer takeover said apart
  verb_went before r (verb.AtLink k (link_verb.Down wanted)) lines said apart = moved_went r (heir_in lines) (rollback_of before (before.dial_of k) (before.point_of k)) lines said
  verb_went before r (verb.AtVb n v (vb_verb.Promote uuid)) lines said apart = append_went r n v (appending (state_of r n v Role.Active)) said
  verb_went before r (verb.AtVb n v vb_verb.Follow) lines said apart = append_went r n v (appending (state_of r n v Role.Replica)) said
  verb_went before r (verb.AtVb n v vb_verb.Dead) lines said apart = append_went r n v (appending (state_of r n v Role.Dead)) said
  verb_went before r (verb.AtVb n v vb_verb.Seal) lines (answer.Number sealed) apart = went_same r _ refl refl refl refl
  verb_went before r (verb.AtVb n v vb_verb.Seal) lines other apart = went_same r _ refl refl refl refl
  verb_went before r (verb.AtVb n v vb_verb.Save) lines said apart = append_went r n v (saving (r.disk_at n v)) said
  verb_went before r (verb.AtNode n (node_verb.Clock nanos)) lines answer.Ok apart = went_same r _ refl refl refl refl
  verb_went before r (verb.AtNode n (node_verb.Clock nanos)) lines other apart = went_same r _ refl refl refl refl
  verb_went before r (verb.AtNode n (node_verb.Stop call out)) lines answer.Ok apart = went_same r _ refl refl refl refl
  verb_went before r (verb.AtNode n (node_verb.Stop call out)) lines other apart = went_same r _ refl refl refl refl
  verb_went before r (verb.AtNode n (node_verb.Fail call)) lines answer.Ok apart = went_same r _ refl refl refl refl
  verb_went before r (verb.AtNode n (node_verb.Fail call)) lines other apart = went_same r _ refl refl refl refl
  verb_went before r (verb.AtNode n (node_verb.Crash out)) lines answer.Ok apart = crash_went r r n out refl refl refl refl
  verb_went before r (verb.AtNode n (node_verb.Crash out)) lines other apart = went_same r _ refl refl refl refl
  verb_went before r (verb.AtNode n (node_verb.Start uuids)) lines said apart = start_went r n lines said
  verb_went before r (verb.AtClient n c client_verb.Open) lines answer.Ok apart = went_same r _ refl refl refl refl
  verb_went before r (verb.AtClient n c client_verb.Open) lines other apart = went_same r _ refl refl refl refl
  verb_went before r (verb.AtClient n c client_verb.Hang) lines answer.Ok apart = went_same r _ refl refl refl refl
  verb_went before r (verb.AtClient n c client_verb.Hang) lines other apart = went_same r _ refl refl refl refl
  verb_went before r other lines said apart = went_same r (after_verb before r other lines said) refl refl refl refl

  -- ---- a whole group

  pub group_went : (r : Chronicle) (asked : Verb) (lines : List Event) (said : Answer) → LinesFrom (ahead r asked said) r.conn_at lines → is_dial asked said ≡ false → list_any (is_grant_of l) lines ≡ false → are_all is_unceding lines ≡ true → Went r (after_group r asked lines said)
  group_went r asked lines said from apart grants cedes =
      let r0 : Chronicle = ahead r asked said in let r1 : Chronicle = after_lines r0 lines in let read : Chronicle = after_verb r r1 asked lines said in
      went_both r r0 (after_group r asked lines said) (ahead_went r asked said) (went_both r0 r1 (after_group r asked lines said) (lines_went r0 r.conn_at lines from grants cedes)
      (went_both r1 read (after_group r asked lines said) (verb_went r r1 asked lines said apart) (went_same read (after_group r asked lines said) refl refl refl refl)))
