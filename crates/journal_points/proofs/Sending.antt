-- the laws of what is sent, and of rollbacks
use Rattle.std.proofs.Common.{◌≡◌, ℕ, ◌<◌, ◌≤◌, Bool, true, false, List, [], ◌∷◌, map, min, refl, ap, sym, ◌∙◌, subst, inl, inr, ⊎_elim, arith}
use Rattle.std.specs.Prelude.{Option, Some, None, ◌⊎◌, ◌&&◌, ◌||◌, nat_lt}
use Rattle.std.proofs.lemmas.Slice.Eq.{bytes_eq-Decides}
use Rattle.std.proofs.lemmas.Bool.{and_parts, and_from, or_left, or_right, ltb-true, lt-ltb, eq-eqb, eqb-true}
use Rattle.vb_types.specs.Histories.{upto, Rises, IsIn, Slot, last_of, touches, plain, plain_act}
use Rattle.vb_types.specs.Images.{image_of}
use Rattle.vb_types.specs.declared.change.Act.{Act}
use Rattle.vb_types.specs.declared.change.Act.TheVariants.{Set, Remove, Prepare, Commit, Abort}
use Rattle.vb_types.specs.declared.change.Change.{Change}
use Rattle.vb_types.specs.declared.doc.Doc.{Doc}
use Rattle.vb_types.specs.declared.journal.Record.{Record}
use Rattle.branch_model.specs.Journals.{batches, items_of, greatest, complete_ends}
use Rattle.branch_model.specs.Snapshots.{Remains, slot_lasts, is_slot_last, has_seq}
use Rattle.branch_model.proofs.Lists.{rises_map, rises_upto, last_in, same_seq, from_upto}
use Rattle.branch_model.proofs.Lasts.{in_filter, kept_in_filter, slot_lasts_remain, remains_cover}
use Rattle.branch_model.proofs.Following.{complete}
use Rattle.branch_model.proofs.Images.{plain_stands}
use Rattle.journal_points.specs.Points.{standing, above}
use Rattle.journal_points.specs.Laws.{RollsCut, SendsWhole, SendsLasts, IsLast}
use Rattle.journal_points.proofs.Walks.{batches_cut, ends_within}
use Rattle.vb_types.specs.declared.journal.Record.TheVariants as noted

-- lists of changes one by one

in_map : (f : Change → Change) (x : Change) (cs : List Change) → IsIn x cs → IsIn (f x) (map f cs)
in_map f x [] i = absurd i
in_map f x (c ∷ cs) i = ⊎_elim (λ e. inl (ap f e)) (λ j. inr (in_map f x cs j)) i

mapped_from : (f : Change → Change) (y : Change) (cs : List Change) → IsIn y (map f cs) → (x : Change) × IsIn x cs × (y ≡ f x)
mapped_from f y [] i = absurd i
mapped_from f y (c ∷ cs) i = ⊎_elim (λ e. (c, inl refl, e)) (λ j. let k = mapped_from f y cs j in (k.0, inr k.1, k.2)) i

-- what is sent has all that has to come

in_lasts : (h : List Change) (start end : ℕ) (c : Change) → IsIn c (slot_lasts h start end) → IsIn c h × (start < c.seq) × (is_slot_last (upto h end) c ≡ true)
in_lasts h start end c i =
    let k = in_filter (λ x. nat_lt start x.seq && is_slot_last (upto h end) x) c (upto h end) i in
    let t = and_parts _ _ k.1 in
    ((from_upto c h end k.0).0, ltb-true start c.seq t.0, t.1)

sent_remains : (top : ℕ) (h : List Change) (start end : ℕ) → Rises 0 top h → start ≤ end → Remains (map plain (slot_lasts h start end)) h start end
sent_remains top h start end r l =
    let whole = slot_lasts_remain top h start end r l in
    record {
      rises = rises_map plain (λ c. refl) start end (slot_lasts h start end) whole.rises;
      of = λ x i. let k = mapped_from plain x (slot_lasts h start end) i in (k.0, (in_lasts h start end k.0 k.1).0, inr k.2);
      has = λ slot c e a b. let k = whole.has slot c e a b in (plain k.0, in_map plain k.0 (slot_lasts h start end) k.1, inr (plain_stands k.0 c k.2));
    }

pub sends : SendsWhole
sends js top start end r l =
    let rem = sent_remains top (standing js) start end r l in
    record {
      remains = rem;
      covers = λ c m i e. remains_cover top (standing js) (above js start end) start end c r m i e rem;
      image = complete top (standing js) (above js start end) start end r rem.rises rem.of rem.has;
    }

-- what is sent is the last change of a slot

has_seq_some : (n : ℕ) (o : Option Change) → has_seq n o ≡ true → (c : Change) × (o ≡ Some c) × (c.seq ≡ n)
has_seq_some n None e = cc
has_seq_some n (Some c) e = (c, refl, eqb-true c.seq n e)

-- a change with the seqno of a slot's last one is that
last_of_seq : (top : ℕ) (h : List Change) (slot : Slot) (c : Change) → Rises 0 top h → IsIn c h → has_seq c.seq (last_of slot h) ≡ true → last_of slot h ≡ Some c
last_of_seq top h slot c r i e =
    let k = has_seq_some c.seq (last_of slot h) e in
    k.1 ∙ ap Some (same_seq 0 top h k.0 c r (last_in (touches slot) h k.0 k.1).0 i k.2)

slot_of_last : (top : ℕ) (h : List Change) (c : Change) → Rises 0 top h → IsIn c h → is_slot_last h c ≡ true → (slot : Slot) × (last_of slot h ≡ Some c)
slot_of_last top h c r i e = ⊎_elim
    (λ a. (Slot.Committed c.key, last_of_seq top h (Slot.Committed c.key) c r i a))
    (λ b. (Slot.Pending c.key, last_of_seq top h (Slot.Pending c.key) c r i b))
    (or_cases _ _ e)
  where
    or_cases : (a b : Bool) → (a || b) ≡ true → (a ≡ true) ⊎ (b ≡ true)
    or_cases true b e = inl refl
    or_cases false b e = inr e

sent_needed : (js : List Record) (top start end : ℕ) (x : Change) → Rises 0 top (standing js) → IsIn x (above js start end) → (slot : Slot) × (c : Change) × IsLast slot js end c × (start < c.seq) × (x ≡ plain c)
sent_needed js top start end x r i =
    let h = standing js in
    let k = mapped_from plain x (slot_lasts h start end) i in
    let f = in_filter (λ y. nat_lt start y.seq && is_slot_last (upto h end) y) k.0 (upto h end) k.1 in
    let t = and_parts (nat_lt start k.0.seq) (is_slot_last (upto h end) k.0) f.1 in
    let slot = slot_of_last end (upto h end) k.0 (rises_upto 0 top end h (omega arith) r) f.0 t.1 in
    (slot.0, k.0, slot.1, ltb-true start k.0.seq t.0, k.2)

-- each last change of a slot is sent

key_of_touch : (s : Slot) (c : Change) → touches s c ≡ true → (s ≡ Slot.Committed c.key) ⊎ (s ≡ Slot.Pending c.key)
key_of_touch (Slot.Committed k) c t = inl (ap (λ x. Slot.Committed x) (sym ((bytes_eq-Decides c.key k).0 (and_parts _ _ t).0)))
key_of_touch (Slot.Pending k) c t = inr (ap (λ x. Slot.Pending x) (sym ((bytes_eq-Decides c.key k).0 t)))

at_slot : (h : List Change) (s t : Slot) (c : Change) → last_of s h ≡ Some c → s ≡ t → has_seq c.seq (last_of t h) ≡ true
at_slot h s t c e k = ap (has_seq c.seq) (ap (λ x. last_of x h) (sym k) ∙ e) ∙ eq-eqb c.seq c.seq refl

last_is_slot_last : (h : List Change) (s : Slot) (c : Change) → last_of s h ≡ Some c → is_slot_last h c ≡ true
last_is_slot_last h s c e = ⊎_elim
    (λ k. or_left (has_seq c.seq (last_of (Slot.Committed c.key) h)) (has_seq c.seq (last_of (Slot.Pending c.key) h)) (at_slot h s (Slot.Committed c.key) c e k))
    (λ k. or_right (has_seq c.seq (last_of (Slot.Committed c.key) h)) (has_seq c.seq (last_of (Slot.Pending c.key) h)) (at_slot h s (Slot.Pending c.key) c e k))
    (key_of_touch s c (last_in (touches s) h c e).1)

sent_last : (js : List Record) (start end : ℕ) (slot : Slot) (c : Change) → IsLast slot js end c → start < c.seq → IsIn (plain c) (above js start end)
sent_last js start end slot c e l =
    let h = upto (standing js) end in
    in_map plain c (slot_lasts (standing js) start end)
    (kept_in_filter (λ y. nat_lt start y.seq && is_slot_last h y) c h (last_in (touches slot) h c e).0 (and_from _ _ (lt-ltb start c.seq l) (last_is_slot_last h slot c e)))

-- a change that is no commit is sent as it is
as_is : (xs : List Change) (c : Change) → plain_act c.act ≡ c.act → IsIn (plain c) xs → IsIn c xs
as_is xs c e i = subst (λ a. IsIn (record { seq = c.seq; key = c.key; act = a }) xs) e i

no_commit : (a : Act) (number : ℕ) (doc : Doc) (deleted : Bool) → plain_act a ≡ Commit number doc deleted → ⊥
no_commit (Set d) number doc deleted e = cc
no_commit (Remove cas rev) number doc deleted e = cc
no_commit (Prepare level d del) number doc deleted e = cc
no_commit (Commit n d true) number doc deleted e = cc
no_commit (Commit n d false) number doc deleted e = cc
no_commit (Abort n) number doc deleted e = cc

pub sends_last_ones : SendsLasts
sends_last_ones = record {
  needed = sent_needed;
  lasts = sent_last;
  removal = λ js start end cas rev c e l k. as_is (above js start end) c (ap plain_act k ∙ sym k) (sent_last js start end (Slot.Committed c.key) c e l);
  abort = λ js start end number c e l k. as_is (above js start end) c (ap plain_act k ∙ sym k) (sent_last js start end (Slot.Pending c.key) c e l);
  commit = λ js start end number c doc deleted i k. let x = mapped_from plain c (slot_lasts (standing js) start end) i in no_commit x.0.act number doc deleted (sym (ap (λ (y : Change). y.act) x.2) ∙ k);
}

-- rollbacks

pub cuts : (js : List Record) (to n : ℕ) → RollsCut js to n
cuts js to n = record {
  point = sym (ends_within n (batches (noted.Roll to ∷ js))) ∙ ap (λ bs. greatest (complete_ends bs)) (batches_cut n to (batches js)) ∙ ends_within (min n to) (batches js);
  image = ap (λ bs. image_of (items_of bs)) (batches_cut n to (batches js));
}
