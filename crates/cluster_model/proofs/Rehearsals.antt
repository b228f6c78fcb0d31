-- runs that may happen, so that what is proved of runs is proved of something
use Rattle.std.proofs.Common.{◌≡◌, ℕ, Bool, true, false, List, [], ◌∷◌, refl, ap, sym, ◌∙◌, subst, inl, ⊎_elim, arith}
use Rattle.std.specs.Prelude.{Some, None, if◌then◌else◌, ◌&&◌}
use Rattle.std.specs.Option.{option_or}
use Rattle.std.specs.Str.{bytes_eq}
use Rattle.vb_types.specs.Histories.{Slot, last_of}
use Rattle.vb_types.specs.Images.{image_of}
unfoldable use Rattle.vb_types.specs.Lasts.{doc_by_last, doc_left}
use Rattle.vb_types.specs.declared.change.Change.{Change}
use Rattle.branch_model.specs.Snapshots.{Remains, Covers, slot_lasts}
use Rattle.branch_model.specs.Trees.{hist}
use Rattle.cluster_model.specs.Rehearsal.{one, two, three, four, early, later, batch, last, back, handed}
use Rattle.cluster_model.specs.Clusters.{Cluster, ground, HasAll, Settled, member_reach, MayAll, run, start}
use Rattle.vb_types.proofs.Folds.{docs_by_last}
use Rattle.branch_model.proofs.Images.{plain_stands, same_maps}
use Rattle.branch_model.proofs.Lasts.{slot_lasts_remain}

pub may_early : MayAll 100 start early
unfolding early one two three
may_early = ((refl, refl, omega arith), ((refl, refl, omega arith, λ n d b e. cc), ((refl, refl, omega arith, λ n d b e. cc), ((refl, refl, omega arith, λ n d b e. cc), ((refl, refl, refl), ((refl, refl), tt))))))

middle : Cluster
middle = run start early

items_are : slot_lasts (hist middle.tree 5) 0 3 ≡ two ∷ three ∷ []
unfolding middle early one two three
items_are = refl

covers : Covers (two ∷ three ∷ []) (hist middle.tree 5) 0 3
unfolding middle early one two three
covers = record {
  goes_on = omega arith;
  remains = subst (λ xs. Remains xs (hist middle.tree 5) 0 3) items_are (slot_lasts_remain 100 (hist middle.tree 5) 0 3 (omega arith, (omega arith, (omega arith, omega arith))) (omega arith));
  reaches = refl;
}

pub may_later : MayAll 100 (run start early) later
unfolding middle early later one two three
may_later = ((refl, (refl, covers, omega arith, omega arith)), ((refl, refl), ((refl, λ n d b e. cc), ((refl, refl, omega arith), tt))))

-- the replica that was promoted inside the snapshot forks at its start, and begins its branch with what it had received
pub new_branch : hist (run (run start early) later).tree 6 ≡ two ∷ []
unfolding middle early later one two three
new_branch = refl

slots_are : slot_lasts (two ∷ []) 0 2 ≡ two ∷ []
unfolding two
slots_are = refl

batch_covers : Covers (two ∷ []) (two ∷ []) 0 2
unfolding two
batch_covers = record {
  goes_on = omega arith;
  remains = subst (λ xs. Remains xs (two ∷ []) 0 2) slots_are (slot_lasts_remain 100 (two ∷ []) 0 2 (omega arith, omega arith) (omega arith));
  reaches = refl;
}

pub may_last : MayAll 100 (run (run start early) later) last
unfolding middle early later last batch one two three
may_last = (refl, ((inl refl, batch_covers), ((refl, refl, omega arith, λ n d b e. cc), (refl, (tt, ((refl, refl, omega arith), tt))))))

-- it came back inside the snapshot, where its branch had gone on
pub came_back : ((run (run (run start early) later) last).nodes 2).br ≡ 7
unfolding middle early later last batch one two three
came_back = refl

pub last_branch : hist (run (run (run start early) later) last).tree 7 ≡ two ∷ []
unfolding middle early later last batch one two three
last_branch = refl

pub may_handed : MayAll 100 (run start early) handed
unfolding middle early handed one two three four
may_handed = ((refl, refl, refl), ((refl, (refl, covers, omega arith, omega arith)), ((refl, refl), ((refl, λ n d b e. cc), ((refl, λ n d b e. cc), ((refl, tt, refl, (refl, refl)), ((refl, refl, omega arith, λ n d b e. cc), tt)))))))

pub handed_branch : hist (run (run start early) handed).tree 5 ≡ one ∷ two ∷ three ∷ four ∷ []
unfolding middle early handed one two three four
handed_branch = refl

pub may_back : MayAll 100 (run (run start early) later) back
unfolding middle early later back batch one two three
may_back = ((inl refl, batch_covers), (refl, (tt, tt)))

came_to : (member_reach ((run (run (run start early) later) back).nodes 2) ≡ 3) × ((ground (run (run (run start early) later) back)).tips 6 ≡ 2)
unfolding middle early later back batch one two three
came_to = (refl, refl)

-- so nobody may ask that what a position means to reach is there, and settled, on its branch
pub reach_open : Settled (ground (run (run (run start early) later) back)) 6 (member_reach ((run (run (run start early) later) back).nodes 2)) → ⊥
reach_open s = let e = came_to in let l = s.1 in omega (arith, e, l)

-- what is held of a small branch

pub enough : HasAll (one ∷ two ∷ three ∷ []) (two ∷ three ∷ []) 3
unfolding one two three
enough = slot_lasts_remain 3 (one ∷ two ∷ three ∷ []) 0 3 (omega arith, (omega arith, (omega arith, omega arith))) (omega arith)

-- a removal leaves no document
none_left : (q : List ℕ) (b : Bool) → bytes_eq (7 ∷ []) q ≡ b → doc_by_last (last_of (Slot.Committed q) (one ∷ two ∷ [])) None ≡ None
unfolding one two doc_by_last doc_left
none_left q b e = ap (λ x. doc_by_last (option_or (option_or None (if x && true then Some two else None)) (if x && true then Some one else None)) None) e ∙ by b
  where
    by : (x : Bool) → doc_by_last (option_or (option_or None (if x && true then Some two else None)) (if x && true then Some one else None)) None ≡ None
    by true = refl
    by false = refl

pub same_documents : (image_of []).docs ≡ (image_of (one ∷ two ∷ [])).docs
unfolding doc_by_last
same_documents = same_maps (image_of []).docs (image_of (one ∷ two ∷ [])).docs (λ q. docs_by_last [] q ∙ sym (docs_by_last (one ∷ two ∷ []) q ∙ none_left q (bytes_eq (7 ∷ []) q) refl))

pub too_few : HasAll (one ∷ two ∷ []) [] 2 → ⊥
unfolding one two
too_few a = (a.has (Slot.Pending (7 ∷ [])) two refl (omega arith) (omega arith)).1

pub another : HasAll (two ∷ []) (one ∷ two ∷ []) 2 → ⊥
unfolding one two
another a =
    let o = a.of one (inl refl) in
    let stands : one.seq ≡ o.0.seq = ap (λ (x : Change). x.seq) (plain_stands one o.0 o.2) in
    let there : 2 ≡ o.0.seq = ⊎_elim (λ e. ap (λ (x : Change). x.seq) (sym e)) (λ none. absurd none) o.1 in
    omega arith
