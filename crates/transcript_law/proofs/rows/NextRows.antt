-- changes that are the next ones behind what a vBucket holds, judged by hand
use Rattle.std.specs.Prelude.{◌≡◌, ◌≢◌, ◌+◌, ◌^◌, ◌<◌, ◌∷◌, if◌then◌else◌}
use Rattle.std.specs.FinMap.{get, get-empty, remove}
use Rattle.transcript_law.proofs.Words.{ℕ, true, false, List, [], refl, ap, sym, ◌∙◌, subst, inr, ⊎_elim, arith, Option, Some, None, option_map, Act, Change, Doc, Pend, first_doc, image_of, is_older, key_cmp, last_seq, next_change, nothing, one_change}
use Rattle.transcript_law.specs.{ChangeRows.{own_change}, OwnChanges.{IsCasAbove, IsNextChange, given_cas, given_rev, is_removal, resolved_seq, rev_behind}}
use Rattle.vb_calls.specs.Following.{cas_of}
use Rattle.vb_types.proofs.Laws.{get-insert_other, get-insert_same}
use Rattle.vb_types.specs.declared.change.Act.TheVariants.{Set}

-- what a change of one key leaves of the prepares, where none waits
pub left_none : (at : ℕ) (key q : List ℕ) → get (if is_older at (get (nothing.pending) key) then remove nothing.pending key else nothing.pending) q ≡ None
left_none at key q = ap (λ o. get (if is_older at o then remove nothing.pending key else nothing.pending) q) (get-empty key_cmp key) ∙ get-empty key_cmp q

-- two keys of one byte
pub keys_differ : (a b : ℕ) → (a ≡ b → ⊥) → ◌≢◌ {A = List ℕ} (a ∷ []) (b ∷ [])
keys_differ a b ne e = ne cc

-- a write is the next change of a vBucket whose changes have no greater CAS
pub write_next : (held : List Change) (c : Change) (there : Option Doc) → c.seq ≡ last_seq 0 held + 1 → get (image_of held).pending c.key ≡ None → get (image_of held).docs c.key ≡ there → resolved_seq c.act ≡ None
    → ((n : ℕ) → given_cas c.act ≡ Some n → IsCasAbove held n) → ((n : ℕ) → given_rev c.act ≡ Some n → n ≡ rev_behind there) → (is_removal c.act ≡ true → (doc : Doc) × (there ≡ Some doc)) → IsNextChange held c
write_next held c there next none found resolves cas rev taken = record {
  next = next;
  waits = resolves ∙ sym (ap (option_map (λ (p : Pend). p.seq)) none);
  cas = cas;
  rev = λ n e. rev n e ∙ sym (ap rev_behind found);
  taken = λ e. let x = taken e in (x.0, found ∙ x.1);
}

-- what commits or gives up the prepare that waits
pub resolving_next : (held : List Change) (c : Change) (p : Pend) → c.seq ≡ last_seq 0 held + 1 → get (image_of held).pending c.key ≡ Some p → resolved_seq c.act ≡ Some p.seq → given_cas c.act ≡ None → given_rev c.act ≡ None → is_removal c.act ≡ false → IsNextChange held c
resolving_next held c p next there resolves no_cas no_rev stays = record {
  next = next;
  waits = resolves ∙ sym (ap (option_map (λ (q : Pend). q.seq)) there);
  cas = λ n e. cc;
  rev = λ n e. cc;
  taken = λ e. cc;
}

-- above the CAS of one change
pub above_one : (d : Change) (n : ℕ) → cas_of d.act < n → n < 2 ^ 64 → IsCasAbove (d ∷ []) n
above_one d n above low = (low, inr (λ c i. ⊎_elim (λ e. subst (λ (x : Change). cas_of x.act < n) (sym e) above) (λ none. absurd none) i))

pub above_two : (d e : Change) (n : ℕ) → cas_of d.act < n → cas_of e.act < n → n < 2 ^ 64 → IsCasAbove (d ∷ e ∷ []) n
above_two d e n first next low = (low, inr (λ c i. ⊎_elim (λ q. subst (λ (x : Change). cas_of x.act < n) (sym q) first) (λ j. ⊎_elim (λ q. subst (λ (x : Change). cas_of x.act < n) (sym q) next) (λ none. absurd none) j) i))

-- a vBucket that holds nothing

pub none_pending : (key : List ℕ) → get (image_of []).pending key ≡ None
none_pending key = get-empty key_cmp key

pub none_stored : (key : List ℕ) → get (image_of []).docs key ≡ None
none_stored key = get-empty key_cmp key

pub first_next : IsNextChange [] one_change
first_next = write_next [] one_change None refl (none_pending (7 ∷ [])) (none_stored (7 ∷ [])) refl (λ n e. (let q : 1 ≡ n = cc in omega (arith, q), inr (λ c i. absurd i))) (λ n e. cc) (λ e. cc)

-- one that set the key 7, or has a document there with these numbers

abbrev pub seven : Doc → Change
seven doc = record { seq = 1; key = 7 ∷ []; act = Set doc }

pub seven_there : (doc : Doc) → get (image_of (seven doc ∷ [])).docs (7 ∷ []) ≡ Some doc
seven_there doc = get-insert_same nothing.docs (7 ∷ []) doc

pub nine_none : (doc : Doc) → get (image_of (seven doc ∷ [])).docs (9 ∷ []) ≡ None
nine_none doc = get-insert_other nothing.docs (7 ∷ []) doc (9 ∷ []) (keys_differ 7 9 (λ e. omega arith)) ∙ get-empty key_cmp (9 ∷ [])

pub seven_pending : (doc : Doc) (key : List ℕ) → get (image_of (seven doc ∷ [])).pending key ≡ None
seven_pending doc key = left_none 1 (7 ∷ []) key

-- its next change at the key 9, and at the key 7
pub nine_next : (a : Act) (n : ℕ) → 1 < n → n < 2 ^ 64 → resolved_seq a ≡ None → given_cas a ≡ Some n → given_rev a ≡ Some 1 → is_removal a ≡ false → IsNextChange (one_change ∷ []) (own_change 2 9 a)
nine_next a n above low unresolved cas rev stays = write_next (one_change ∷ []) (own_change 2 9 a) None refl (seven_pending (first_doc 1 (8 ∷ [])) (9 ∷ [])) (nine_none (first_doc 1 (8 ∷ []))) unresolved
    (λ m e. let q : n ≡ m = cc in above_one one_change m (omega (arith, above, q)) (omega (arith, low, q))) (λ m e. cc) (λ e. cc)

pub seven_next : (a : Act) → resolved_seq a ≡ None → given_cas a ≡ Some 2 → given_rev a ≡ Some 2 → IsNextChange (one_change ∷ []) (own_change 2 7 a)
seven_next a unresolved cas rev = write_next (one_change ∷ []) (own_change 2 7 a) (Some (first_doc 1 (8 ∷ []))) refl (seven_pending (first_doc 1 (8 ∷ [])) (7 ∷ [])) (seven_there (first_doc 1 (8 ∷ []))) unresolved
    (λ m e. let q : 2 ≡ m = cc in above_one one_change m (omega (arith, q)) (omega (arith, q))) (λ m e. cc) (λ e. (first_doc 1 (8 ∷ []), refl))

pub second_next : IsNextChange (one_change ∷ []) next_change
second_next = nine_next next_change.act 2 (omega arith) (omega arith) refl refl refl refl
