-- a front stays one behind a lawful line that leaves its vBucket on its branch
use Rattle.std.specs.Prelude.{◌≡◌, ◌<◌, ◌≤◌, ◌+◌, ◌++◌, ◌∷◌, ◌==◌, ◌⊎◌, if◌then◌else◌}
use Rattle.std.proofs.Common.{append_assoc}
use Rattle.std.proofs.lemmas.Bool.{cases_eq}
use Rattle.transcript_law.proofs.Words.{ℕ, Bool, true, false, List, [], refl, ap, sym, ◌∙◌, subst, arith, inl, inr, ⊎_elim, append-nil, Option, Some, None, option_map, Branch, Change, Chronicle, Event, IsIn, IsNew, LawfulChange, LawfulLine, LogEntry, StreamName, after_line, changes_between, front, grow, grow_below, hist, hist_grow_other, hist_there, known_history, last_seq, parent_branch, upto, upto_none, with_at}
use Rattle.branch_model.proofs.Lists.{upto-append}
use Rattle.branch_model.specs.Trees.{inherited}
use Rattle.cluster_model.specs.Clusters.{IsBatchEnd}
use Rattle.cluster_model.proofs.Having.{all_kept, all_same}
use Rattle.transcript_law.proofs.{invariant.Tables.{pick}, links.Followed.{last_seq_push}}
use Rattle.transcript_law.specs.Lawfulness.{LawfulBranch}
use Rattle.transcript_law.specs.{Chronicles.{DiskKnown, Taken, disk_back, known_batch, known_log, stood}, Fronts.{IsAnother, IsFront, IsFrontOf, StaysOn, branch_history}}
use Rattle.vb_events.specs.declared.event.StreamName.TheVariants as name
use Rattle.vb_types.specs.declared.stream.AskAnswer.TheVariants as ask_answer

-- ---- what is held, and its branch, with one more change

upto_push : (xs : List Change) (c : Change) (n : ℕ) → n < c.seq → upto (xs ++ c ∷ []) n ≡ upto xs n
upto_push xs c n above = upto-append xs (c ∷ []) n ∙ ap (λ x. upto xs n ++ x) (upto_none n c.seq n (c ∷ []) (above, omega arith) (omega arith)) ∙ append-nil (upto xs n)

-- above all that is held
held_push : (d : DiskKnown) (h held : List Change) (end : ℕ) (c : Change) → last_seq 0 held < c.seq → IsFrontOf d h held end → IsFrontOf d h (held ++ c ∷ []) end
held_push d h held end c above f =
    let low : end ≤ last_seq 0 held = f.here in let at : last_seq 0 (held ++ c ∷ []) ≡ c.seq = last_seq_push 0 held c in record {
      stands = f.stands;
      saved = f.saved;
      here = omega (arith, low, at, above);
      branch = f.branch;
      whole = all_kept h held (held ++ c ∷ []) end (sym (upto_push held c end (omega (arith, low, above)))) f.whole;
    }

-- a branch that has more above a front
branch_more : (d : DiskKnown) (h k held : List Change) (end : ℕ) → upto h end ≡ upto k end → end ≤ last_seq 0 k → IsFrontOf d h held end → IsFrontOf d k held end
branch_more d h k held end same low f = record { stands = f.stands; saved = f.saved; here = f.here; branch = low; whole = all_same h k held end same f.whole }

-- a front of no branch is 0, where nothing is asked
none_more : (d : DiskKnown) (h k held : List Change) (end : ℕ) → h ≡ [] → IsFrontOf d h held end → IsFrontOf d k held end
none_more d h k held end none f =
    let low : end ≤ last_seq 0 h = f.branch in let zero : last_seq 0 h ≡ 0 = ap (last_seq 0) none in record {
      stands = f.stands;
      saved = f.saved;
      here = f.here;
      branch = omega (arith, low, zero);
      whole = record {
        rises = f.whole.rises;
        of = λ x i. let o = f.whole.of x i in absurd (subst (IsIn o.0) none o.1);
        has = λ slot c e a b. absurd (omega (arith, low, zero, a, b));
      };
    }

-- ---- branches

new_none : (tree : List Branch) (u : ℕ) → IsNew u tree → hist tree u ≡ []
new_none [] u new = refl
new_none (b ∷ older) u new = hist_there b older u new.0 ∙ new_none older u new.1

-- a branch with one more change ends with that, if it is there
grown_last : (tree : List Branch) (u : ℕ) (c : Change) → (last_seq 0 (hist (grow tree u c) u) ≡ c.seq) ⊎ (hist tree u ≡ [])
grown_last [] u c = inr refl
grown_last (b ∷ older) u c = by (b.id == u) (grown_last older u c)
  where
    by : (k : Bool) → (last_seq 0 (hist (grow older u c) u) ≡ c.seq) ⊎ (hist older u ≡ [])
        → (last_seq 0 (if k then inherited (hist (grow older u c)) b.parent b.fork ++ (if k then b.own ++ c ∷ [] else b.own) else hist (grow older u c) u) ≡ c.seq) ⊎ ((if k then inherited (hist older) b.parent b.fork ++ b.own else hist older u) ≡ [])
    by true rest = inl (ap (last_seq 0) (sym (append_assoc (inherited (hist (grow older u c)) b.parent b.fork) b.own (c ∷ []))) ∙ last_seq_push 0 (inherited (hist (grow older u c)) b.parent b.fork ++ b.own) c)
    by false rest = rest

module _ (d : DiskKnown) (held : List Change) (end : ℕ) where
  -- the branch of a vBucket, beside a new one
  branch_new : (b : Branch) (tree : List Branch) (o : Option ℕ) → IsNew b.id tree → IsFrontOf d (known_history tree o) held end → IsFrontOf d (known_history (b ∷ tree) o) held end
  branch_new b tree None new f = f
  branch_new b tree (Some u) new f = ⊎_elim
      (λ (e : b.id ≡ u). none_more d (hist tree u) (hist (b ∷ tree) u) held end (new_none tree u (subst (λ k. IsNew k tree) e new)) f)
      (λ ne. subst (λ h. IsFrontOf d h held end) (sym (hist_there b tree u ne)) f)
      (cases_eq b.id u)

  -- as a branch grows
  branch_grown : (r : Chronicle) (n v uuid : ℕ) (c : Change) (o : Option ℕ) → LawfulChange r n v uuid c → IsFrontOf d (known_history r.tree o) held end → IsFrontOf d (known_history (grow r.tree uuid c) o) held end
  branch_grown r n v uuid c None lawful f = f
  branch_grown r n v uuid c (Some u) lawful f = ⊎_elim own other (cases_eq u uuid)
    where
      other : (u ≡ uuid → ⊥) → IsFrontOf d (hist (grow r.tree uuid c) u) held end
      other ne = subst (λ h. IsFrontOf d h held end) (sym (hist_grow_other r.tree uuid c u ne lawful.above_forks)) f

      own : u ≡ uuid → IsFrontOf d (hist (grow r.tree uuid c) u) held end
      own e =
          let low : end ≤ last_seq 0 (hist r.tree u) = f.branch in
          let above : last_seq 0 (hist r.tree u) < c.seq = subst (λ k. last_seq 0 (hist r.tree k) < c.seq) (sym e) lawful.above_branch in
          let at_end : (last_seq 0 (hist (grow r.tree uuid c) u) ≡ c.seq) ⊎ (hist r.tree u ≡ []) = subst (λ k. (last_seq 0 (hist (grow r.tree k c) u) ≡ c.seq) ⊎ (hist r.tree u ≡ [])) e (grown_last r.tree u c) in
          ⊎_elim
          (λ (at : last_seq 0 (hist (grow r.tree uuid c) u) ≡ c.seq). branch_more d (hist r.tree u) (hist (grow r.tree uuid c) u) held end (sym (grow_below r.tree uuid c u end (omega (arith, low, above)))) (omega (arith, low, above, at)) f)
          (λ none. none_more d (hist r.tree u) (hist (grow r.tree uuid c) u) held end none f)
          at_end

-- ---- tables

pub le_same : (n : ℕ) → n ≤ n
le_same n = omega arith

-- what is written down of some vBucket, of which as much stands and counts as saved
pub disk_put : (r : Chronicle) (m w n v end : ℕ) (d : DiskKnown) (h held : List Change) → (IsBatchEnd end (stood (r.disk_at m w)) → IsBatchEnd end (stood d)) → (r.disk_at m w).saved ≤ d.saved → IsFrontOf (r.disk_at n v) h held end → IsFrontOf (with_at r.disk_at m w d n v) h held end
disk_put r m w n v end d h held stands saved f = pick r.disk_at m w d (λ x. IsFrontOf x h held end) n v
    (λ s t.
    let same : r.disk_at n v ≡ r.disk_at m w = (λ i. r.disk_at (s i) (t i)) in
    let low : end ≤ (r.disk_at m w).saved = subst (λ (x : DiskKnown). end ≤ x.saved) same f.saved in
    record { stands = stands (subst (λ x. IsBatchEnd end (stood x)) same f.stands); saved = omega (arith, low, saved); here = f.here; branch = f.branch; whole = f.whole })
    (λ o. f)

-- what some vBucket holds, with one more change above all that it holds
held_put : (r : Chronicle) (m w n v end : ℕ) (c : Change) (d : DiskKnown) (h : List Change) → last_seq 0 (r.held m w) < c.seq → IsFrontOf d h (r.held n v) end → IsFrontOf d h (with_at r.held m w (r.held m w ++ c ∷ []) n v) end
held_put r m w n v end c d h above f = pick r.held m w (r.held m w ++ c ∷ []) (λ x. IsFrontOf d h x end) n v
    (λ s t. let same : r.held n v ≡ r.held m w = (λ i. r.held (s i) (t i)) in held_push d h (r.held m w) end c above (subst (λ x. IsFrontOf d h x end) same f))
    (λ o. f)

-- ---- lines

module _ (r : Chronicle) (n v end : ℕ) (f : IsFront r n v end) where
  branched : (m w uuid fork high : ℕ) (parent : Option ℕ) → LawfulBranch r m w uuid parent fork high → IsAnother n v m w → IsFront (after_line r (Event.Branch m w uuid parent fork high)) n v end
  branched m w uuid fork high parent lawful other =
      let b : Branch = record { id = uuid; parent = parent_branch parent fork (r.branch_at m w); fork = fork; own = changes_between fork high (r.held m w) } in
      pick r.branch_at m w (Some uuid) (λ o. IsFrontOf (r.disk_at n v) (known_history (b ∷ r.tree) o) (r.held n v) end) n v (λ s t. absurd (other s t))
      (λ o. branch_new (r.disk_at n v) (r.held n v) end b r.tree (r.branch_at n v) lawful.new f)

  changed : (m w uuid : ℕ) (c : Change) → LawfulChange r m w uuid c → IsFront (after_line r (Event.Changed m w uuid c)) n v end
  changed m w uuid c lawful =
      let next : c.seq ≡ last_seq 0 (r.held m w) + 1 = lawful.made.next in
      held_put r m w n v end c (r.disk_at n v) (known_history (grow r.tree uuid c) (r.branch_at n v)) (omega (arith, next)) (branch_grown (r.disk_at n v) (r.held n v) end r m w uuid c (r.branch_at n v) lawful f)

  got : (m w : ℕ) (who : StreamName) (c : Change) (behind : List Event) → LawfulLine r (Event.Got m w who c) behind → IsFront (after_line r (Event.Got m w who c)) n v end
  got m w (name.Link l) c behind lawful = held_put r m w n v end c (r.disk_at n v) (branch_history r n v) lawful.above f
  got m w (name.Client k c') c behind lawful = absurd lawful

  adopted : (m w : ℕ) (log : List LogEntry) → IsAnother n v m w → IsFront (after_line r (Event.Adopted m w log)) n v end
  adopted m w log other = pick r.branch_at m w (option_map (λ e. e.uuid) (front log)) (λ o. IsFrontOf (r.disk_at n v) (known_history r.tree o) (r.held n v) end) n v (λ s t. absurd (other s t)) (λ o. f)

  rolled : (m w named to : ℕ) → IsAnother n v m w → IsFront (after_line r (Event.Rolled m w named to)) n v end
  rolled m w named to other =
      pick r.disk_at m w (disk_back to (r.disk_at m w)) (λ d. IsFrontOf d (branch_history r n v) (with_at r.held m w (upto (r.held m w) to) n v) end) n v (λ s t. absurd (other s t))
      (λ o. pick r.held m w (upto (r.held m w) to) (λ x. IsFrontOf (r.disk_at n v) (branch_history r n v) x end) n v (λ s t. absurd (other s t)) (λ q. f))

pub front_line : (r : Chronicle) (line : Event) (behind : List Event) (n v end : ℕ) → IsFront r n v end → LawfulLine r line behind → StaysOn n v line → IsFront (after_line r line) n v end
front_line r (Event.Branch m w uuid parent fork high) behind n v end f lawful stays = branched r n v end f m w uuid fork high parent lawful stays
front_line r (Event.Changed m w uuid change) behind n v end f lawful stays = changed r n v end f m w uuid change lawful
front_line r (Event.Got m w who change) behind n v end f lawful stays = got r n v end f m w who change behind lawful
front_line r (Event.Adopted m w log) behind n v end f lawful stays = adopted r n v end f m w log stays
front_line r (Event.Rolled m w named to) behind n v end f lawful stays = rolled r n v end f m w named to stays
front_line r (Event.Batch m w ss se at count) behind n v end f lawful stays = disk_put r m w n v end (record (r.disk_at m w) { flushing = Taken (known_batch (record { ss = ss; se = se; at = at }) (known_log (r.log_at m w))); taken = at }) (branch_history r n v) (r.held n v) (λ x. x) (le_same (r.disk_at m w).saved) f
front_line r (Event.Asked (name.Link l) m w ask high log ask_answer.Go) behind n v end f lawful stays = f
front_line r (Event.Asked (name.Link l) m w ask high log (ask_answer.Roll to)) behind n v end f lawful stays = f
front_line r (Event.Asked (name.Link l) m w ask high log (ask_answer.Refuse code)) behind n v end f lawful stays = f
front_line r (Event.Asked (name.Client m c) k w ask high log said) behind n v end f lawful stays = f
front_line r (Event.Marked (name.Link l) start stop flags) behind n v end f lawful stays = f
front_line r (Event.Marked (name.Client m c) start stop flags) behind n v end f lawful stays = f
front_line r (Event.Item (name.Link l) seq act key) behind n v end f lawful stays = f
front_line r (Event.Item (name.Client m c) seq act key) behind n v end f lawful stays = f
front_line r (Event.Finished (name.Link l) reason) behind n v end f lawful stays = f
front_line r (Event.Finished (name.Client m c) reason) behind n v end f lawful stays = f
front_line r (Event.Stated (name.Link l) role) behind n v end f lawful stays = f
front_line r (Event.Stated (name.Client m c) role) behind n v end f lawful stays = f
front_line r other behind n v end f lawful stays = f
