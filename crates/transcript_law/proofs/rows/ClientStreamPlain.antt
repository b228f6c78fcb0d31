-- markers of clients' streams that are not shown durable writes, judged by hand
use Rattle.branch_model.specs.Snapshots.{Covers}
use Rattle.branch_model.specs.Histories.{IsOf, last_seq}
use Rattle.vb_types.specs.Histories.{IsIn, plain}
use Rattle.std.specs.Prelude.{◌≢◌}
use Rattle.std.proofs.Common.{List, [], arith, inl, inr, refl, false, ℕ, ⊎_elim, ◌∷◌, ◌≡◌, ◌<◌, ◌≤◌, ap, sym, ◌⊎◌, ◌∙◌}
use Rattle.vb_types.specs.declared.change.Change.{Change}
use Rattle.transcript_law.specs.ClientStreamRows.{LawfulPut, all_changes, as_document, asks_for, durable, first_item, fresh, inside, marked, one, snapshot, third_change, three, waiting}
use Rattle.transcript_law.specs.ClientStreams.{ClientStream}
use Rattle.transcript_law.specs.Followers.{next_change}
use Rattle.transcript_law.specs.LawfulClients.{NoneWithin}
use Rattle.transcript_law.specs.StreamLaws.{IsFrontOf}
use Rattle.transcript_law.specs.Transcripts.{one_change}
use Rattle.transcript_law.proofs.rows.ClientStreams.{all_between}
use Rattle.transcript_law.proofs.rows.ClientStreamMarks.{is_next, marks}

-- a set, a prepare and its commit are shown as two sets
abbrev shown : List Change
shown = one_change ∷ as_document ∷ []

-- behind the first one
abbrev behind_first : ClientStream
behind_first = inside false all_changes durable 0 1 (first_item ∷ [])

first_put : IsFrontOf (snapshot shown 0 1 (first_item ∷ [])) (first_item ∷ []) []
first_put = record { whole = one_change ∷ []; covers = all_between shown 0 1 (omega arith) (omega arith, omega arith) refl; front = refl }

-- nothing is shown between the set and the commit
none_shown : (low high : ℕ) → 1 ≤ low → high ≤ 2 → NoneWithin shown low high
none_shown low high a b x i over under = ⊎_elim
    (λ e. let n : x.seq ≡ 1 = ap (λ (c : Change). c.seq) e in omega (arith, a, over, n))
    (λ j. ⊎_elim (λ e. let n : x.seq ≡ 3 = ap (λ (c : Change). c.seq) e in omega (arith, b, under, n)) (λ k. k) j) i

pub above : LawfulPut durable (one behind_first) (marked 0 2 3)
above = marks durable behind_first 2 3 refl (record { opens = refl; stays = refl; goes_on = λ r. omega (arith, r); behind = first_put; starts = (omega arith, omega arith, none_shown 1 2 (omega arith) (omega arith)); reaches = tt; whole = (as_document ∷ [], all_between shown 1 3 (omega arith) (omega arith, omega arith) refl) })

pub there : LawfulPut durable (one behind_first) (marked 0 1 3)
there = marks durable behind_first 1 3 refl (record { opens = refl; stays = refl; goes_on = λ r. omega (arith, r); behind = first_put; starts = (omega arith, omega arith, none_shown 1 1 (omega arith) (omega arith)); reaches = tt; whole = (as_document ∷ [], all_between shown 1 3 (omega arith) (omega arith, omega arith) refl) })

pub below : LawfulPut durable (one behind_first) (marked 0 0 3) → ⊥
below l = let e : ◌≤◌ 1 0 = (is_next durable behind_first 0 3 l).starts.0 in omega (arith, e)

pub at_end : LawfulPut durable (one behind_first) (marked 0 3 3) → ⊥
at_end l = let e : ◌<◌ 3 3 = (is_next durable behind_first 3 3 l).starts.1 in omega (arith, e)

pub over_one : LawfulPut three (one (inside false all_changes three 0 1 (first_item ∷ []))) (marked 0 2 3) → ⊥
over_one l = (is_next three (inside false all_changes three 0 1 (first_item ∷ [])) 2 3 l).starts.2 next_change (inr (inl refl)) (omega arith) (omega arith)

-- a first one that is short of what the request means

none_above : NoneWithin (one_change ∷ next_change ∷ []) 2 3
none_above x i over under = ⊎_elim
    (λ e. let n : x.seq ≡ 1 = ap (λ (c : Change). c.seq) e in omega (arith, over, n))
    (λ j. ⊎_elim (λ e. let n : x.seq ≡ 2 = ap (λ (c : Change). c.seq) e in omega (arith, over, n)) (λ k. k) j) i

pub short : LawfulPut waiting (one (fresh false (asks_for 0 1 3 9))) (marked 0 0 2)
short = marks waiting (fresh false (asks_for 0 1 3 9)) 0 2 refl (record { opens = refl; stays = refl; goes_on = λ r. r; behind = tt; starts = refl; reaches = none_above; whole = (next_change ∷ [], all_between (one_change ∷ next_change ∷ []) 1 2 (omega arith) (omega arith, omega arith) refl) })

pub too_short : LawfulPut three (one (fresh false (asks_for 0 1 3 9))) (marked 0 0 2) → ⊥
too_short l = (is_next three (fresh false (asks_for 0 1 3 9)) 0 2 l).reaches third_change (inr (inr (inl refl))) (omega arith) (omega arith)

-- a whole snapshot ends with a change

ends_with : (low : ℕ) (xs : List Change) (end : ℕ) → last_seq low xs ≡ end → (low ≡ end) ⊎ ((x : Change) × IsIn x xs × (x.seq ≡ end))
ends_with low [] end e = inl e
ends_with low (x ∷ xs) end e = ⊎_elim (λ same. inr (x, inl refl, same)) (λ later. inr (later.0, inr later.1, later.2)) (ends_with x.seq xs end e)

-- and that is one of what is shown, of which none has the prepare's seqno
not_two : (x : Change) → IsOf shown x → x.seq ≡ 2 → ⊥
not_two x of two = ⊎_elim (λ c. by one_change c (λ e. omega (arith, e)) (λ e. omega (arith, e))) (λ later. ⊎_elim (λ c. by as_document c (λ e. omega (arith, e)) (λ e. omega (arith, e))) (λ none. none) later) of.1
  where
    by : (d : Change) → of.0 ≡ d → d.seq ≢ 2 → (plain d).seq ≢ 2 → ⊥
    by d same low also = ⊎_elim
        (λ e. let n : x.seq ≡ d.seq = ap (λ (c : Change). c.seq) e ∙ ap (λ (c : Change). c.seq) same in low (sym n ∙ two))
        (λ e. let n : x.seq ≡ (plain d).seq = ap (λ (c : Change). c.seq) e ∙ ap (λ (c : Change). (plain c).seq) same in also (sym n ∙ two)) of.2

pub prepare : LawfulPut durable (one (fresh false all_changes)) (marked 0 0 2) → ⊥
prepare l =
    let covers : Covers (is_next durable (fresh false all_changes) 0 2 l).whole.0 shown 0 2 = (is_next durable (fresh false all_changes) 0 2 l).whole.1 in
    ⊎_elim (λ (e : 0 ≡ 2). omega (arith, e)) (λ there. not_two there.0 (covers.remains.of there.0 there.1) there.2)
    (ends_with 0 (is_next durable (fresh false all_changes) 0 2 l).whole.0 2 covers.reaches)
