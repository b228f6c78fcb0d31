-- a change that a vBucket makes of its own is the next one behind what it holds
use Rattle.std.specs.Prelude.{◌≡◌, ◌<◌, ◌≤◌, ◌^◌}
use Rattle.std.specs.FinMap.{get}
use Rattle.transcript_law.proofs.Words.{ℕ, true, false, List, refl, ap, sym, ◌∙◌, subst, inl, inr, ⊎_elim, arith, cases_lt, Option, Some, None, option_map, Act, Change, Doc, Op, Pend, Plain, Write, doc_at, image_of, act_of, new_cas, new_rev, write_change, written_doc}
use Rattle.durability.specs.declared.waiting.Waiting.{Waiting}
use Rattle.transcript_law.{proofs.invariant.{Bounded.{Weighs}, Holdings.{VbHeld, image_is}}, specs.OwnChanges.{IsCasAbove, IsNextChange, given_cas, given_rev, is_removal, resolved_seq, rev_behind, seq_waiting}}
use Rattle.vb_calls.specs.{Durable.{is_delete, prepare_change}, Following.{cas_of}, Settling.{resolving_change}, State.{pending_of}, Writes.{doc_refusal, key_refusal}}
use Rattle.vb_types.specs.declared.change.Level.{Level}
use Rattle.vbucket.proofs.Storing.{nothing_waits}
use Rattle.{branch_model.specs.Trees.{Branch}, cluster_model.specs.Clusters.{Member}, transcript_law.proofs.invariant.Holdings.{VbContents}}

-- the act of a write commits and gives up nothing, and has its document's CAS and revision
unresolved : (o : Op) (doc : Doc) → resolved_seq (act_of o doc) ≡ None
unresolved Op.Delete doc = refl
unresolved o doc = refl

cas_given : (o : Op) (doc : Doc) (n : ℕ) → given_cas (act_of o doc) ≡ Some n → doc.cas ≡ n
cas_given Op.Delete doc n e = cc
cas_given o doc n e = cc

rev_given : (o : Op) (doc : Doc) (n : ℕ) → given_rev (act_of o doc) ≡ Some n → n ≡ doc.rev
rev_given Op.Delete doc n e = cc
rev_given o doc n e = cc

removes : (o : Op) (doc : Doc) → is_removal (act_of o doc) ≡ is_delete o
removes Op.Delete doc = refl
removes o doc = refl

-- a removal that is not refused has a document
has_one : (o : Op) (cas : ℕ) (there : Option Doc) → doc_refusal o cas there ≡ None → is_delete o ≡ true → (doc : Doc) × (there ≡ Some doc)
has_one Op.Delete cas None free e = cc
has_one Op.Delete cas (Some doc) free e = (doc, refl)
has_one o cas there free e = cc

-- the revision of a write
same_rev : (o : Option Doc) → new_rev o ≡ rev_behind o
same_rev None = refl
same_rev (Some doc) = refl

-- the CAS of a write is above those of changes that have none above the last one
cas_above : (held : List Change) (last clock : ℕ) → Weighs last held → last < 2 ^ 64 → clock < 2 ^ 64 → IsCasAbove held (new_cas clock last)
cas_above held last clock weighs low small = (
  omega arith,
  ⊎_elim
      (λ above. inr (λ c i. let w : cas_of c.act ≤ last = weighs c i in omega (arith, above, w)))
      (λ most. inl (omega (arith, most)))
      (cases_lt last (new_cas clock last)),
)

module _ {tree : List Branch} {contents : VbContents} {m : Member} (vb : Plain) (a : VbHeld tree contents m vb) where
  -- at the key of a write that is not refused no prepare waits
  none_waits : (write : Write) → key_refusal vb write ≡ None → seq_waiting (image_of m.held) write.key ≡ None
  none_waits write free =
      ap (λ i. seq_waiting i write.key) (sym (image_is a)) ∙ ap (option_map (λ (p : Pend). p.seq)) (nothing_waits vb.waiting (pending_of vb write.key) (doc_refusal write.op write.cas (doc_at vb write.key)) free).0

  one_there : (write : Write) → key_refusal vb write ≡ None → is_delete write.op ≡ true → (doc : Doc) × (get (image_of m.held).docs write.key ≡ Some doc)
  one_there write free e =
      let x = has_one write.op write.cas (doc_at vb write.key) (nothing_waits vb.waiting (pending_of vb write.key) (doc_refusal write.op write.cas (doc_at vb write.key)) free).1 e in
      (x.0, ap (λ i. get i.docs write.key) (sym (image_is a)) ∙ x.1)

  rev_there : (write : Write) → new_rev (doc_at vb write.key) ≡ rev_behind (get (image_of m.held).docs write.key)
  rev_there write = same_rev (doc_at vb write.key) ∙ ap (λ i. rev_behind (get i.docs write.key)) (image_is a)

  above : (clock n : ℕ) → clock < 2 ^ 64 → new_cas clock vb.last_cas ≡ n → IsCasAbove m.held n
  above clock n small is = subst (IsCasAbove m.held) is (cas_above m.held vb.last_cas clock a.weighs a.sound.last_cas small)

  -- a write is the next change
  pub write_is_next : (write : Write) (clock : ℕ) → clock < 2 ^ 64 → key_refusal vb write ≡ None → IsNextChange m.held (write_change vb write (new_cas clock vb.last_cas))
  write_is_next write clock small free =
      let doc : Doc = written_doc write (new_cas clock vb.last_cas) (new_rev (doc_at vb write.key)) in
      record {
        next = (let e = a.high in omega arith);
        waits = unresolved write.op doc ∙ sym (none_waits write free);
        cas = λ n e. above clock n small (cas_given write.op doc n e);
        rev = λ n e. rev_given write.op doc n e ∙ rev_there write;
        taken = λ e. one_there write free (sym (removes write.op doc) ∙ e);
      }

  -- and so is a prepare
  pub prepare_is_next : (write : Write) (level : Level) (clock : ℕ) → clock < 2 ^ 64 → key_refusal vb write ≡ None → IsNextChange m.held (prepare_change vb write level (new_cas clock vb.last_cas))
  prepare_is_next write level clock small free = record {
    next = (let e = a.high in omega arith);
    waits = sym (none_waits write free);
    cas = λ n e. above clock n small cc;
    rev = λ n e. (let r : n ≡ new_rev (doc_at vb write.key) = cc in r ∙ rev_there write);
    taken = λ e. one_there write free e;
  }

  -- and what commits or gives up a prepare that waits
  pub resolving_is_next : (w : Waiting) (x : Act) (p : Pend) → get (image_of m.held).pending w.key ≡ Some p → p.seq ≡ w.seq → resolved_seq x ≡ Some w.seq → given_cas x ≡ None → given_rev x ≡ None → is_removal x ≡ false
      → IsNextChange m.held (resolving_change vb w x)
  resolving_is_next w x p there named resolves no_cas no_rev stays = record {
    next = (let e = a.high in omega arith);
    waits = resolves ∙ ap Some (sym named) ∙ sym (ap (option_map (λ (q : Pend). q.seq)) there);
    cas = λ n e. cc;
    rev = λ n e. cc;
    taken = λ e. cc;
  }
