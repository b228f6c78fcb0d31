-- changes of role: a vBucket that rests, and one that becomes active on a new branch
use Rattle.std.specs.Prelude.{◌≡◌, ◌<◌, ◌≤◌, ◌∷◌, ◌++◌, ◌⊎◌, ◌==◌, ◌^◌, ◌&&◌, if◌then◌else◌}
use Rattle.transcript_law.proofs.verbs.Times.{untimed, left_untimed}
use Rattle.transcript_law.proofs.Words.{ℕ, last_seq, Bool, true, false, List, refl, ap, sym, ◌∙◌, subst, inl, inr, ⊎_elim, arith, Option, Some, None, not, nat_lt, nat_le}
use Rattle.transcript_law.proofs.Words.{All, filter, image_in, with_at, eqb-true, eqb-false, ne_eqb, cases_lt, ltb-false, All-nil, All-cons, All-append, Change, Position, LogEntry, Role, upto, Rises, with_entry}
use Rattle.transcript_law.proofs.Words.{kept_to, Traces, AtForks, fork_of, Branch, branch, hist, hist_here, hist_there, hist_rises, HoldsAt, holds_fewer, upto_none, upto_down, in_filter, ground, Member, Cluster}
use Rattle.transcript_law.proofs.Words.{Move, SoundCluster, happens, member_reach, made, at_le, kin_shared, keeps, VbCall, Plain, plain_step, is_active, complete_position, stream_ids, in_role, ending_reply}
use Rattle.transcript_law.proofs.Words.{parent_of, promote_refusal, promoted, led, is_role, with_seal, Sound, StaysSound, PlainWorld, is_one_of, Chronicle, parent_branch, changes_between, after_branch, after_role}
use Rattle.transcript_law.proofs.{Words.{known_history, []}, invariant.Seats.{seat, seats_apart}, invariant.Tables.{at_here, at_there, id_here, unused}, invariant.Trees.{IsTold, is_told_here, new_untold}, invariant.Forked.{fork_held}, invariant.Wholes.{WholeTo, whole_sealed}}
use Rattle.transcript_law.proofs.{invariant.Wholes.{spanned_sealed, spanned_active}, invariant.Agreement.{all_rise, vb_of, ChangeFits, EntryFits, BranchAgrees, own_history, VbHolds, VbAgrees, AgreesAt, top, idle, AgreesIn, vb_contents, vb_row}, invariant.OneLink.{put_here}}
use Rattle.transcript_law.proofs.{invariant.OneLink.{put_there}, links.Sent.{all_in, all_by_each}, links.Followed.{own_is, fork_low}, links.Rolling.{kept_fit}, verbs.NodeLines.{branch_of, writers_branched, writers_rest, role_row, role_there, role_here}, verbs.Branching.{branch_there, new_fits}, invariant.Lefts.{left_risen}, invariant.Majorities.{alone_counts}}
use Rattle.transcript_law.proofs.answers.Awaited.{left_none}
use Rattle.transcript_law.specs.Chronicles.{alone}
use Rattle.transcript_law.proofs.{links.Turning.{NoneFeeds, Turned, put_itself, turned_agrees, turned_disks, turned_rests}, invariant.Carried.{branches_again, ids_same, all_vbs}}
use Rattle.{branch_model.proofs.Holding.{holds_forked}, branch_model.proofs.Lists.{upto_all}, branch_model.specs.Trees.{inherited}, cluster_model.specs.Clusters.{Kin, member_fork, front_or, promoted as raised}}
use Rattle.{cluster_model.specs.Clusters.{yielded}, std.proofs.lemmas.List.Elements.{All-take}, std.specs.Prelude.{option_map}, transcript_law.specs.Lawfulness.{LawfulBranch}, vb_calls.specs.Following.{log_lacks}}
use Rattle.{transcript_law.proofs.verbs.Settling.{Steady}, vb_calls.specs.Settling.{and_settled}, vb_calls.specs.declared.calls.VbCall.TheVariants.{Promote}, vb_types.specs.declared.role.Role.TheVariants.{Active}, vb_types.specs.declared.status.Status.TheVariants.{Einval, NotMyVbucket}}
use Rattle.vb_calls.specs.declared.calls.VbAnswer.TheVariants as answer
use Rattle.transcript_law.proofs.invariant.Owing.{later_same}

-- two roles that differ are not one
pub other_role : (x y : Role) → is_role x y ≡ false → x ≡ y → ⊥
other_role x Active e s = let z : true ≡ false = subst (λ k. is_role k Active ≡ false) s e in cc
other_role x y e s = let z : true ≡ false = subst (λ k. is_role k y ≡ false) s e in cc

-- the role that was told is another one
pub other_role_known : (r : Chronicle) (n v : ℕ) (m : Member) (vb : Plain) (new : Role) → VbAgrees r n v m vb → is_role vb.role new ≡ false → r.role_at n v ≡ Some (Some new) → ⊥
other_role_known r n v m vb new a e told = let s : Some (Some vb.role) ≡ Some (Some new) = sym a.role ∙ told in let same : vb.role ≡ new = cc in other_role vb.role new e same

-- a vBucket that is not active any more, or still is not

module _ (stays : StaysSound) (w w' : PlainWorld) (r : Chronicle) (c : Cluster) (n v : ℕ) (vb : Plain) (new : Role) (turn : VbCall) (a : AgreesIn idle w r c) (known : vb_of w n v ≡ Some vb) (free : NoneFeeds n v w.links)
    (rests : is_active new ≡ false) (is : plain_step vb turn ≡ (in_role vb new, ending_reply vb answer.Done)) (timely : Sound vb → Sound (plain_step vb turn).0)
    (became : Turned w w' n v (in_role vb new) (stream_ids vb.streams)) (uuids : w'.uuids ≡ w.uuids) where
  abbrev seated : ℕ
  seated = seat n v

  abbrev rest_cluster : Cluster
  rest_cluster = happens c (Move.Yield seated)

  abbrev rest_lines : Chronicle
  rest_lines = after_role r n v new

  before : VbAgrees r n v (c.nodes seated) vb
  before = subst (AgreesAt r n v (c.nodes seated)) known (a.vbs n v)

  here : VbAgrees rest_lines n v (rest_cluster.nodes seated) (in_role vb new)
  here = subst (λ m. VbAgrees rest_lines n v m (in_role vb new)) (sym (put_here c.nodes seated (yielded (c.nodes seated))))
      (role_here r n v new (yielded (c.nodes seated)) (in_role vb new) refl refl (λ e. let z : false ≡ true = sym rests ∙ e in cc) (record {
        sound = subst Sound (ap (λ p. p.0) is) (timely before.sound);
        spanned = spanned_sealed vb.role new vb.spans vb.position before.spanned;
        keeps = before.keeps;
        told = before.told;
        member = record { active = sym rests; position = before.member.position; log = before.member.log };
        branch = before.branch;
        holds = holds_fewer 0 (WholeTo vb.floor (with_seal vb.spans) vb.position) (WholeTo vb.floor vb.spans vb.position) (c.nodes seated).held (own_history r n v) (λ i x. (whole_sealed vb.spans i x.0, x.1, x.2)) before.holds;
      }))

  rest_there : (m q : ℕ) → (m ≡ n → q ≡ v → ⊥) → AgreesAt rest_lines m q (rest_cluster.nodes (seat m q)) (vb_of w m q)
  rest_there m q other = subst (λ x. AgreesAt rest_lines m q x (vb_of w m q)) (sym (put_there c.nodes seated (yielded (c.nodes seated)) (seat m q) (seats_apart m q n v other)))
      (role_there r n v new m q (c.nodes (seat m q)) (vb_of w m q) other (writers_rest r n v new rests) (a.vbs m q))

  -- the vBucket rests, and all agrees
  pub rested : AgreesIn idle w' rest_lines rest_cluster
  rested = turned_agrees w w' r rest_lines c rest_cluster n v vb (in_role vb new) a known free became (λ j ne. put_there c.nodes seated (yielded (c.nodes seated)) j ne) (λ i. refl) (λ i q. refl) (λ i. refl) (λ i. refl)
      (keeps top c (Move.Yield seated) a.sound tt)
      (all_vbs w w' n v (in_role vb new) (λ m q o. AgreesAt rest_lines m q (rest_cluster.nodes (seat m q)) o) became.here became.there here rest_there)
      (turned_disks w w' r rest_lines c rest_cluster n v vb (in_role vb new) (stream_ids vb.streams) a known became (λ m q. refl) (put_itself c.disks seated) refl)
      (branches_again refl refl (ids_same uuids) a.branches)
      (turned_rests w w' r rest_lines c rest_cluster n v vb (in_role vb new) a known free became (λ j ne. put_there c.nodes seated (yielded (c.nodes seated)) j ne) (λ i. refl) (λ i q. refl) (λ i. refl) (λ i. refl)
      (λ m. refl) refl (role_row r n v new) (λ j ne. put_itself c.disks seated j)) (λ m d. refl) (λ u t. refl) (later_same _ _ refl refl) (λ x p o. absurd o.1.among)

-- a vBucket that becomes active on a new branch

-- a branch that the tree lacks is in no log
pub lacks_new : (tree : List Branch) (log : List LogEntry) (u : ℕ) → AtForks tree log → branch tree u ≡ None → log_lacks log u ≡ true
lacks_new tree [] u f none = refl
lacks_new tree (e ∷ older) u f none =
    let apart : e.uuid ≡ u → ⊥ = λ q. let z : None ≡ Some e.seq = sym (ap (option_map (λ (b : Branch). b.fork)) (ap (branch tree) q ∙ none)) ∙ f.0 in cc in
    ap (λ b. not b && log_lacks older u) (ne_eqb e.uuid u apart) ∙ lacks_new tree older u f.1 none

module _ (steady : Steady) (w w' : PlainWorld) (r : Chronicle) (c : Cluster) (n v uuid : ℕ) (vb : Plain) (a : AgreesIn idle w r c) (known : vb_of w n v ≡ Some vb) (free : NoneFeeds n v w.links)
    (rests : is_active vb.role ≡ false) (unused_yet : is_one_of uuid w.uuids ≡ false) (named : uuid ≡ 0 → ⊥) (small : uuid < 2 ^ 64) where
  abbrev k : ℕ
  k = seat n v

  abbrev m : Member
  m = c.nodes k

  old : VbAgrees r n v m vb
  old = subst (AgreesAt r n v m) known (a.vbs n v)

  abbrev fork : ℕ
  fork = fork_of vb.position

  abbrev high : ℕ
  high = vb.position.at

  abbrev branched : Chronicle
  branched = after_branch r n v uuid (parent_of vb.log) fork high

  abbrev r' : Chronicle
  r' = after_role branched n v Active

  abbrev c' : Cluster
  c' = happens c (Move.Promote k uuid)

  abbrev new : Branch
  new = record { id = uuid; parent = parent_branch (parent_of vb.log) fork (r.branch_at n v); fork = fork; own = changes_between fork high (r.held n v) }

  abbrev vb' : Plain
  vb' = led vb uuid

  absent : branch c.tree uuid ≡ None
  absent = a.used uuid unused_yet named

  -- nothing refuses the call
  pub promote_free : promote_refusal vb uuid ≡ None
  promote_free = ap (λ b. if b then Some NotMyVbucket else if uuid == 0 then Some Einval else if log_lacks vb.log uuid then None else Some Einval) rests
      ∙ ap (λ b. if b then Some Einval else if log_lacks vb.log uuid then None else Some Einval) (ne_eqb uuid 0 named)
      ∙ ap (λ b. if b then None else Some Einval) (subst (λ l. log_lacks l uuid ≡ true) old.member.log (lacks_new c.tree m.log uuid (a.sound.stands k).ancestry.at_forks absent))

  -- it is made, and what may be committed then is
  pub promote_is : plain_step vb (Promote uuid) ≡ and_settled (vb', ending_reply vb (answer.Branch uuid (parent_of vb.log) fork high))
  promote_is = ap (λ o. promoted o vb uuid) promote_free

  -- the fork, and what the branch inherits

  fork_same : member_fork m ≡ fork
  fork_same = ap fork_of old.member.position

  low : fork ≤ high
  low = fork_low vb.position old.sound.within.0

  is_sound : SoundCluster top c'
  is_sound =
      let e : m.position.at ≡ high = ap (λ (p : Position). p.at) old.member.position in let x : vb.position.at ≤ vb.position.se = old.sound.within.1 in
      let y : vb.position.se ≤ 2 ^ 48 = old.sound.capped in keeps top c (Move.Promote k uuid) a.sound (old.member.active ∙ rests, absent, omega arith)

  abbrev own : List Change
  own = filter (λ x. nat_lt fork x.seq) m.held

  history : hist c.tree m.br ≡ own_history r n v
  history = own_is r c n v m a.hists a.rootless old.branch

  -- the newest branch of the log shares with the vBucket's up to the fork
  front_shares : upto (hist c.tree (front_or m.br m.log)) fork ≡ upto (own_history r n v) fork
  front_shares = by m.log (a.sound.stands k).ancestry.traces ∙ ap (λ h. upto h fork) history
    where
      within : fork ≤ member_reach m
      within =
          let on : m.position.at ≤ member_reach m = at_le m (a.sound.stands k).follows.within in
          let level : m.position.at ≡ high = ap (λ (p : Position). p.at) old.member.position in let below = low in omega arith

      by : (log : List LogEntry) → Traces (Kin (ground c)) log m.br (member_reach m) → upto (hist c.tree (front_or m.br log)) fork ≡ upto (hist c.tree m.br) fork
      by [] t = refl
      by (e ∷ older) t = upto_down (hist c.tree e.uuid) (hist c.tree m.br) fork (member_reach m) within (kin_shared (ground c) e.uuid m.br (member_reach m) t.0)

  -- what the lines say of the parent comes to the same
  parent_told : inherited (hist r.tree) new.parent fork ≡ upto (hist c.tree (front_or m.br m.log)) fork
  parent_told = ap (λ l. inherited (hist r.tree) (parent_branch (parent_of l) fork (r.branch_at n v)) fork) (sym old.member.log) ∙ by m.log
    where
      root_told : (b : Bool) → nat_lt 0 fork ≡ b → (o : Option ℕ) → BranchAgrees o m.br → inherited (hist r.tree) (if b then o else None) fork ≡ upto (hist c.tree m.br) fork
      root_told true e None is = sym (ap (λ h. upto h fork) (ap (hist c.tree) is ∙ a.rootless))
      root_told true e (Some u) is = ap (λ h. upto h fork) (sym (a.hists u) ∙ ap (hist c.tree) (sym is))
      root_told false e o is = sym (upto_none 0 top fork (hist c.tree m.br) (hist_rises top c.tree m.br a.sound.grows) (ltb-false 0 fork e))

      by : (log : List LogEntry) → inherited (hist r.tree) (parent_branch (parent_of log) fork (r.branch_at n v)) fork ≡ upto (hist c.tree (front_or m.br log)) fork
      by (e ∷ older) = ap (λ h. upto h fork) (sym (a.hists e.uuid))
      by [] = root_told (nat_lt 0 fork) refl (r.branch_at n v) old.branch

  new_told : hist branched.tree uuid ≡ upto (own_history r n v) fork ++ own
  new_told = hist_here new r.tree uuid refl ∙ (λ i. (parent_told ∙ front_shares) i ++ (ap (changes_between fork high) old.held ∙ ap (filter (λ x. nat_lt fork x.seq)) (upto_all 0 high high m.held (all_rise old.kept) (omega arith))) i)

  same_hist : (u : ℕ) (b : Bool) → (uuid == u) ≡ b → hist c'.tree u ≡ hist r'.tree u
  same_hist u true e = subst (λ x. hist c'.tree x ≡ hist r'.tree x) (eqb-true uuid u e) ((hist_here (made m uuid) c.tree uuid refl
      ∙ (λ i. upto (hist c.tree (front_or m.br m.log)) (fork_same i) ++ filter (λ x. nat_lt (fork_same i) x.seq) m.held)
      ∙ ap (λ h. h ++ own) front_shares) ∙ sym new_told)
  same_hist u false e = let apart = eqb-false uuid u e in hist_there (made m uuid) c.tree u apart ∙ a.hists u ∙ sym (hist_there new r.tree u apart)

  parent_known : (p : ℕ) → new.parent ≡ Some p → (made m uuid).parent ≡ Some p
  parent_known p e = by m.log (ap (λ l. parent_branch (parent_of l) fork (r.branch_at n v)) old.member.log ∙ e)
    where
      root_known : (b : Bool) (o : Option ℕ) → BranchAgrees o m.br → (if b then o else None) ≡ Some p → Some m.br ≡ Some p
      root_known true None is q = cc
      root_known true (Some u) is q = ap Some is ∙ q
      root_known false o is q = cc

      by : (log : List LogEntry) → parent_branch (parent_of log) fork (r.branch_at n v) ≡ Some p → Some (front_or m.br log) ≡ Some p
      by (x ∷ older) q = q
      by [] q = root_known (nat_lt 0 fork) (r.branch_at n v) old.branch q

  -- the vBucket holds its new branch

  fork_fits : fork < 2 ^ 64
  fork_fits = let x : vb.position.at ≤ vb.position.se = old.sound.within.1 in let y : vb.position.se ≤ 2 ^ 48 = old.sound.capped in let z = low in omega arith

  abbrev Then : ℕ → Type 0
  Then = WholeTo vb.floor (with_seal vb.spans) (complete_position high)

  split : (i : ℕ) → Then i → (WholeTo vb.floor vb.spans vb.position i × (i ≤ fork)) ⊎ (fork < i)
  split i x = ⊎_elim (λ up. inr up) (λ down. inl ((whole_sealed vb.spans i x.0, down, x.2), down)) (cases_lt fork i)

  left : HoldsAt 0 Then m.held (upto (own_history r n v) fork ++ own)
  left = holds_forked 0 (WholeTo vb.floor vb.spans vb.position) Then top high fork m.held (own_history r n v) (subst (Rises 0 top) history (hist_rises top c.tree m.br a.sound.grows)) (all_rise old.kept) low
      (fork_held c k (own_history r n v) vb.position a.sound history old.member.position) split old.holds

  branch_here : branched.branch_at n v ≡ Some uuid
  branch_here = at_here r.branch_at n v (Some uuid)

  sound' : Sound vb'
  sound' = steady.leads vb uuid old.sound

  holds : VbHolds branched n v (raised m uuid) vb'
  holds = record {
    sound = sound';
    spanned = spanned_active Active vb.floor (with_seal vb.spans) high refl sound'.spans;
    keeps = record {
      below = old.below;
      parts = old.parts;
      base = old.base;
      low = old.low;
      fits = old.fits;
      weighs = old.weighs;
      entries = All-take EntryFits 25 (record { uuid = uuid; seq = fork } ∷ kept_to fork vb.log)
          (All-cons EntryFits (record { uuid = uuid; seq = fork }) (kept_to fork vb.log) (small, fork_fits) (kept_fit fork vb.log old.entries));
      high = old.high;
    };
    told = record {
      held = old.held;
      log = at_here r.log_at n v (option_map (with_entry uuid fork) (r.log_at n v)) ∙ ap (option_map (with_entry uuid fork)) old.log;
      snap = at_here r.snap_at n v (Some (high, high));
      unlogged = λ e. let z : Some uuid ≡ None = sym branch_here ∙ e in cc;
    };
    member = record {
      active = refl;
      position = ap (λ (p : Position). complete_position p.at) old.member.position;
      log = (λ i. with_entry uuid (fork_same i) (old.member.log i));
    };
    branch = subst (λ o. BranchAgrees o uuid) (sym branch_here) refl;
    holds = subst (HoldsAt 0 Then m.held) (sym (ap (known_history branched.tree) branch_here ∙ new_told)) left;
  }

  there : (i q : ℕ) → (i ≡ n → q ≡ v → ⊥) → AgreesAt r' i q (c'.nodes (seat i q)) (vb_of w i q)
  there i q other = subst (λ x. AgreesAt r' i q x (vb_of w i q)) (sym (put_there c.nodes k (raised m uuid) (seat i q) (seats_apart i q n v other)))
      (role_there branched n v Active i q (c.nodes (seat i q)) (vb_of w i q) other (writers_branched r n v uuid (parent_of vb.log) fork high Active) (branch_there w r c n v uuid (parent_of vb.log) fork high a unused_yet named i q (vb_of w i q) other (a.vbs i q)))

  -- the lines tell nothing of another vBucket
  branch_row : (i q : ℕ) → (i ≡ n → q ≡ v → ⊥) → vb_row branched i q ≡ vb_row r i q
  branch_row i q other = λ t. record (vb_row r i q) {
    contents = record (vb_contents r i q) {
      branch = at_there r.branch_at n v (Some uuid) i q other t;
      log = at_there r.log_at n v (option_map (with_entry uuid fork) (r.log_at n v)) i q other t;
      snap = at_there r.snap_at n v (Some (high, high)) i q other t;
    };
    counts = at_there r.counts_at n v (alone (last_seq 0 (r.held n v))) i q other t;
  }

  branch_fits : All ChangeFits (hist branched.tree uuid)
  branch_fits = subst (All ChangeFits) (sym new_told) (All-append ChangeFits (upto (own_history r n v) fork) own
      (all_by_each ChangeFits (upto (own_history r n v) fork) (λ x i. all_in ChangeFits (own_history r n v) x (fits_of (r.branch_at n v)) (in_filter (λ y. nat_le y.seq fork) x (own_history r n v) i).0))
      (all_by_each ChangeFits own (λ x i. all_in ChangeFits m.held x old.fits (in_filter (λ y. nat_lt fork y.seq) x m.held i).0)))
    where
      fits_of : (o : Option ℕ) → All ChangeFits (known_history r.tree o)
      fits_of None = All-nil ChangeFits
      fits_of (Some u) = a.fits u

  -- the vBucket is active on a new branch, and all agrees in a world with one more id
  pub rose : Turned w w' n v vb' (stream_ids vb.streams) → w'.uuids ≡ w.uuids ++ uuid ∷ [] → AgreesIn idle w' r' c'
  rose became uuids = turned_agrees w w' r r' c c' n v vb vb' a known free became (λ j ne. put_there c.nodes k (raised m uuid) j ne) (λ i. refl) (λ i q. refl) (λ i. refl) (λ i. refl) is_sound
      (all_vbs w w' n v vb' (λ i q o. AgreesAt r' i q (c'.nodes (seat i q)) o) became.here became.there
      (subst (λ x. VbAgrees r' n v x vb') (sym (put_here c.nodes k (raised m uuid))) (role_here branched n v Active (raised m uuid) vb' refl refl (λ e.
      (record { branch = branch_here; is_told = is_told_here new r.tree; writer = id_here r.writer_of uuid (Some (n, v)); named = named }, alone_counts branched n v, refl, left_risen vb old.sound, untimed (with_at branched.counts_at n v (alone (last_seq 0 (branched.held n v))) n v).times vb'.waiting (left_untimed (image_in vb)))) holds)) there)
      (turned_disks w w' r r' c c' n v vb vb' (stream_ids vb.streams) a known became (λ m q. refl) (put_itself c.disks k) refl)
      (record {
        hists = λ u. same_hist u (uuid == u) refl;
        are_told = (refl, fork_same, parent_known, a.are_told);
        fits = λ u. new_fits new r.tree u a.fits branch_fits (uuid == u) refl;
        rootless = hist_there (made m uuid) c.tree 0 named ∙ a.rootless;
        ids = (small, a.ids);
        used = λ u e ne. let p = unused u uuid w.uuids (sym (ap (is_one_of u) uuids) ∙ e) in ap (λ t. if t then Some (made m uuid) else branch c.tree u) (ne_eqb uuid u p.1) ∙ a.used u p.0 ne;
        fresh = λ u e. let p = unused u uuid w.uuids (sym (ap (is_one_of u) uuids) ∙ e) in (p.1, a.fresh u p.0);
      })
      (turned_rests w w' r r' c c' n v vb vb' a known free became (λ j ne. put_there c.nodes k (raised m uuid) j ne) (λ i. refl) (λ i q. refl) (λ i. refl) (λ i. refl)
      (λ i. refl) refl (λ i q other. role_row branched n v Active i q other ∙ branch_row i q other) (λ j ne. put_itself c.disks k j))
      (λ m d. refl) (λ u t. hist_there new r.tree u (λ e. new_untold uuid r.tree (a.fresh uuid unused_yet) (subst (IsTold r.tree) (sym e) t))) (later_same _ _ refl refl) (λ x p o. absurd (o.0 (left_none vb uuid x old.sound o.1.among)))

  -- its branch is a new one, and leaves where it stands
  pub branch_lawful : LawfulBranch r n v uuid (parent_of vb.log) fork high
  branch_lawful = branch_of r n v uuid m vb (a.fresh uuid unused_yet) old.kept
