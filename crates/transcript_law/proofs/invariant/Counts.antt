-- a vBucket that has another chain or other acknowledgements, where the lines tell so, agrees as before
use Rattle.std.specs.Prelude.{◌≡◌}
use Rattle.transcript_law.proofs.Words.{ℕ, List, is_active, refl, ap, sym, ◌∙◌, subst, Some, Plain, Sound, Cluster, PlainWorld, Chronicle, with_at}
use Rattle.transcript_law.proofs.{invariant.Agreement.{TimesIf, AgreesAt, AgreesIn, CountsAre, VbAgrees, VbIsIf, counts_if, idle, shelf_of, vb_of, vb_row}, invariant.Carrying.{Changed}, invariant.Lefts.{LeftUpTo}, disks.Disks.{disk_same}, verbs.NodeLines.{changed_agrees}, invariant.Seats.{seat}, invariant.Tables.{at_here, at_there}}
use Rattle.durability.specs.Chains.{Members}
use Rattle.transcript_law.specs.Chronicles.{CountsKnown}
use Rattle.transcript_law.proofs.invariant.Owing.{later_same}

module _ (w w' : PlainWorld) (r : Chronicle) (c : Cluster) (n v : ℕ) (vb : Plain) (others : Members) (acks : List ℕ) (told : CountsKnown) (a : AgreesIn idle w r c) (known : vb_of w n v ≡ Some vb) (sound : Sound (record vb { others = others; acks = acks }))
    (counts : CountsAre told others acks) (same_risen : told.risen ≡ (r.counts_at n v).risen) (same_times : told.times ≡ (r.counts_at n v).times) (became : Changed w w' n v (record vb { others = others; acks = acks }) w.links) (shelf : shelf_of w' n v ≡ shelf_of w n v) where
  abbrev counting : Plain
  counting = record vb { others = others; acks = acks }

  abbrev counted : Chronicle
  counted = record r { counts_at = with_at r.counts_at n v told }

  old : VbAgrees r n v (c.nodes (seat n v)) vb
  old = subst (AgreesAt r n v (c.nodes (seat n v))) known (a.vbs n v)

  here : VbAgrees counted n v (c.nodes (seat n v)) counting
  here = record {
    kept = record {
      sound = sound;
      spanned = old.spanned;
      keeps = old.keeps;
      told = old.told;
      member = record { active = old.member.active; position = old.member.position; log = old.member.log };
      branch = old.branch;
      holds = old.holds;
    };
    role = old.role;
    opened = old.opened;
    writes = old.writes;
    counts = counts_if (λ e. subst (λ t. CountsAre t others acks) (sym (at_here r.counts_at n v told)) counts);
    lefts = λ e. subst (λ k. LeftUpTo k vb.position.at vb.waiting) (sym (ap (λ (t : CountsKnown). t.risen) (at_here r.counts_at n v told) ∙ same_risen)) (old.lefts e);
    times = subst (λ (t : CountsKnown). TimesIf (is_active vb.role) t.times vb.waiting) (sym (at_here r.counts_at n v told)) (subst (λ t. TimesIf (is_active vb.role) t vb.waiting) (sym same_times) old.times);
  }

  rows : (m q : ℕ) → (m ≡ n → q ≡ v → ⊥) → vb_row counted m q ≡ vb_row r m q
  rows m q other i = record (vb_row r m q) { counts = at_there r.counts_at n v told m q other i }

  elsewhere : (m q : ℕ) → (m ≡ n → q ≡ v → ⊥) → AgreesAt counted m q (c.nodes (seat m q)) (vb_of w m q)
  elsewhere m q other = subst (λ t. VbIsIf r.tree r.writer_of t m q (c.nodes (seat m q)) (vb_of w m q)) (sym (rows m q other)) (a.vbs m q)

  pub counts_agree : AgreesIn idle w' counted c
  counts_agree = changed_agrees w w' r counted c n v vb counting a known became (record { role = refl; wants = refl; fewer = λ x p o. (o.0, record { among = o.1.among; entry = o.1.entry; same = o.1.same }) }) refl (λ k. refl) (λ k q. refl) (λ k. refl) (λ k. refl) (λ x i k has s. refl) here elsewhere (λ m q. refl) shelf
      (disk_same (Some vb) (Some counting) refl refl refl refl) (λ m. refl) rows (λ m d. refl) (λ d k has. refl) (later_same _ _ refl refl)
