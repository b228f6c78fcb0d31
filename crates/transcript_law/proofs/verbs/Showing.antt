-- lines that show a vBucket
use Rattle.std.specs.Prelude.{◌≡◌, ◌∷◌, ◌++◌, if◌then◌else◌, ◌≢◌, ◌==◌}
use Rattle.transcript_law.proofs.Words.{ℕ, true, false, List, [], length, map, refl, ap, sym, ◌∙◌, subst, Option, Some, None, Pend, Doc, Position, LogEntry, upto}
use Rattle.transcript_law.proofs.Words.{Picture, image_of, last_seq, Ancestry, IsFront, reach_of, effective_ss, hist, Shared, Member, Cluster, member_reach, tells, Plain, newest_branch}
use Rattle.transcript_law.proofs.Words.{is_active, with_vb_at, call_at, document_line, prepare_line, image_lines, admin_line, PlainNode, PlainWorld, with_node_at, with_states, Chronicle, after_lines}
use Rattle.transcript_law.proofs.Words.{known_history, shown_lines, LawfulFrom, Cause, shows, image_in, VbCall, AdminCall, SharesWith, branch_image, ShownLine, LawfulShow}
use Rattle.transcript_law.proofs.Words.{LawfulShown, option_map}
use Rattle.transcript_law.specs.Lawfulness.{newest_shown}
use Rattle.transcript_law.proofs.invariant.Seats.{seat}
use Rattle.transcript_law.proofs.invariant.Agreement.{BranchAgrees, Writes, WritesIf, VbAgrees, image_is, top, idle, AgreesIn, Agrees, GoesOn}
use Rattle.transcript_law.proofs.verbs.NodeLines.{as_told, node_of_same_vbs, put_same, agrees_same, refused_on, admin_by}
use Rattle.transcript_law.proofs.invariant.Tables.{if_known}
use Rattle.transcript_law.proofs.verbs.Writing.{mine, front_newest}
use Rattle.std.specs.FinMap as finite

-- lines of documents and prepares are lawful and tell nothing
told_nothing : (r : Chronicle) (docs : List (List ℕ × Doc)) (pending : List (List ℕ × Pend))
    → (let lines = map document_line docs ++ map prepare_line pending in LawfulFrom r lines × (after_lines r lines ≡ r))
told_nothing r [] [] = (tt, refl)
told_nothing r [] (entry ∷ rest) = let told = told_nothing r [] rest in ((tt, told.0), told.1)
told_nothing r (entry ∷ rest) pending = let told = told_nothing r rest pending in ((tt, told.0), told.1)

-- a complete position relies on its branch up to where it is
reach_complete : (p : Position) → p.at ≡ p.se → reach_of p ≡ p.at
reach_complete p e = elim (p.at == effective_ss p.at p.ss p.se) as (λ b. (if b then p.at else p.se) ≡ p.at) [ true ↦ refl | false ↦ sym e ]

-- a member's branch has the history that the lines tell of it
pub history_by : (w : PlainWorld) (r : Chronicle) (c : Cluster) → AgreesIn idle w r c → (br : ℕ) (o : Option ℕ) → BranchAgrees o br → known_history r.tree o ≡ hist c.tree br
history_by w r c a br None e = sym (ap (hist c.tree) e ∙ a.rootless)
history_by w r c a br (Some u) e = sym (a.hists u) ∙ ap (hist c.tree) (sym e)

-- what is said of a vBucket that is shown
abbrev said_of : ℕ → ℕ → Plain → ShownLine
said_of n v vb = record {
  node = n;
  vb = v;
  role = vb.role;
  uuid = newest_branch vb.log;
  at = vb.position.at;
  ss = vb.position.ss;
  se = vb.position.se;
  docs = length (finite.entries (image_in vb).docs);
  preps = length (finite.entries (image_in vb).pending);
}

module _ (w : PlainWorld) (r : Chronicle) (c : Cluster) (n v : ℕ) (vb : Plain) (a : AgreesIn idle w r c) (m : VbAgrees r n v (c.nodes (seat n v)) vb) (complete : vb.position.at ≡ vb.position.se) where
  abbrev member : Member
  member = c.nodes (seat n v)

  whole : member.position.at ≡ member.position.se
  whole = ap (λ p. p.at) m.member.position ∙ complete ∙ ap (λ p. p.se) (sym m.member.position)

  pub same_image : branch_image r n v vb.position.at ≡ image_in vb
  same_image =
      ap (λ h. image_of (upto h vb.position.at)) (history_by w r c a member.br (r.branch_at n v) m.branch)
      ∙ ap (λ p. image_of (upto (hist c.tree member.br) p.at)) (sym m.member.position)
      ∙ sym (shows top c a.sound (seat n v) whole)
      ∙ sym (image_is m.kept)

  shared_by : (log : List LogEntry) (o : Option ℕ) → Ancestry c.tree log member.br (member_reach member) → BranchAgrees o member.br → (o ≡ None → log ≡ []) → newest_branch log ≢ 0
      → SharesWith r.tree (newest_branch log) o vb.position.at
  shared_by [] o t b none ne = absurd (ne refl)
  shared_by (e ∷ older) None t b none ne = let z : e ∷ older ≡ [] = none refl in cc
  shared_by (e ∷ older) (Some u) t b none ne =
      let reach : member_reach member ≡ vb.position.at = reach_complete member.position whole ∙ ap (λ p. p.at) m.member.position in
      let one : Shared c.tree e.uuid member.br vb.position.at = subst (λ k. Shared c.tree e.uuid member.br k) reach t.traces.0 in
      ap (λ h. upto h vb.position.at) (sym (a.hists e.uuid)) ∙ one ∙ ap (λ k. upto (hist c.tree k) vb.position.at) b ∙ ap (λ h. upto h vb.position.at) (a.hists u)

  show_lawful : LawfulShow r (said_of n v vb) (image_lines (image_in vb))
  show_lawful = record {
    lines = ap shown_lines (sym same_image);
    docs_shown = ap (λ (i : Picture). length (finite.entries i.docs)) (sym same_image);
    preps_shown = ap (λ (i : Picture). length (finite.entries i.pending)) (sym same_image);
    shared = shared_by vb.log (r.branch_at n v) (subst (λ l. Ancestry c.tree l member.br (member_reach member)) m.member.log (tells top c a.sound (seat n v))) m.branch m.unlogged;
    active = λ e.
        let writes : Writes r n v member.br = subst (λ x. WritesIf x r n v member.br) (ap is_active e) m.writes in
        let lead = a.sound.leads (seat n v) (m.member.active ∙ ap is_active e) in
        writes.branch ∙ ap Some (sym (front_newest vb.log member.br (subst (λ l. IsFront l member.br) m.member.log lead.front)));
  }

-- the newest branch is shown as it stands in the log
newest_is : (log : List LogEntry) → newest_shown log ≡ newest_branch log
newest_is [] = refl
newest_is (e ∷ older) = refl

shown_lawful : (w : PlainWorld) (r : Chronicle) (c : Cluster) (n v : ℕ) (vb : Plain) → AgreesIn idle w r c → VbAgrees r n v (c.nodes (seat n v)) vb → LawfulShown r (said_of n v vb) (image_lines (image_in vb))
shown_lawful w r c n v vb a m = record {
  role = if_known (r.role_at n v) (Some vb.role) m.role;
  newest = if_known (option_map newest_shown (r.log_at n v)) (newest_branch vb.log) (ap (option_map newest_shown) m.log ∙ ap Some (newest_is vb.log));
  at = sym (ap (last_seq 0) m.held ∙ m.high);
  snapshot = if_known (r.snap_at n v) (vb.position.ss, vb.position.se) m.snap;
  left = ap shown_lines (image_is m.kept ∙ ap image_of (sym m.held));
  docs_left = ap (λ (i : Picture). length (finite.entries i.docs)) (image_is m.kept ∙ ap image_of (sym m.held));
  preps_left = ap (λ (i : Picture). length (finite.entries i.pending)) (image_is m.kept ∙ ap image_of (sym m.held));
  complete = λ complete. show_lawful w r c n v vb a m complete;
}

module _ (w : PlainWorld) (r : Chronicle) (n v : ℕ) (node : PlainNode) (a : Agrees w r) (known : w.nodes n ≡ Some node) where
  show_by : (o : Option Plain) → node.vbs v ≡ o → GoesOn r as_told (admin_by w n v AdminCall.Show node (call_at node.vbs v VbCall.Show o))
  show_by None none = refused_on w r n node Cause.UnknownVb a known
  show_by (Some vb) has =
      let image = image_in vb in
      let (c, in_it) = a in
      let told = told_nothing r (finite.entries image.docs) (finite.entries image.pending) in
      let node' : PlainNode = with_states node (with_vb_at node.vbs v vb) in (
        (shown_lawful w r c n v vb in_it (mine w r c n v node vb in_it known has), told.0),
        subst (Agrees (with_node_at w n node')) (sym told.1)
            (agrees_same w (with_node_at w n node') r a (node_of_same_vbs w n node node' known (put_same node.vbs v vb has) (λ q. refl) refl)),
      )

  pub show_goes : GoesOn r as_told (with_node_at w n (admin_line n v AdminCall.Show node).0, (admin_line n v AdminCall.Show node).1)
  show_goes = show_by (node.vbs v) refl
