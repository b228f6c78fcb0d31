-- what a stream gets from the disk
use Rattle.std.proofs.Common.{◌≡◌, ℕ, ◌<◌, ◌≤◌, Bool, true, false, List, [], ◌∷◌, refl, ap, sym, ◌∙◌, subst, inl, inr, ⊎_elim, arith}
use Rattle.std.specs.Prelude.{Some, None, if◌then◌else◌}
use Rattle.std.proofs.lemmas.Slice.Eq.{bytes_eq-Decides}
use Rattle.vb_types.specs.Histories.{upto, Rises, IsIn, Slot, touches, last_of, is_visible, plain, plain_act}
use Rattle.vb_types.specs.declared.change.Act.{Act}
use Rattle.vb_types.specs.declared.change.Act.TheVariants.{Set, Remove, Prepare, Commit, Abort}
use Rattle.vb_types.specs.declared.change.Change.{Change}
use Rattle.vb_types.specs.declared.journal.Record.{Record}
use Rattle.vb_types.specs.declared.stream.Snapshot.{Snapshot}
use Rattle.branch_model.specs.Histories.{last_seq, HasOf, IsOf}
use Rattle.branch_model.specs.Snapshots.{Remains, Covers, plain_view}
use Rattle.branch_model.proofs.Lasts.{in_filter, kept_in_filter, rises_filter}
use Rattle.branch_model.proofs.Lists.{from_upto, upto_in, rises_in, rises_upto, last_in, last_above}
use Rattle.journal_points.specs.Points.{standing, above}
use Rattle.journal_points.proofs.Sending.{sends, sends_last_ones}
use Rattle.backfill.specs.Backfills.{seen_by, disk_of}
use Rattle.backfill.specs.Laws.{Sees, IsWrittenOut, IsSentFor, IsDue, IsDiskSnapshot, Gives, GivesDue}
use Rattle.backfill.proofs.Lasts.{ToLast, to_last, rises_to_last, last_there}
use Rattle.backfill.proofs.Views.{visible_plain, plain_rises, plain_in, plain_of_view, last_visible, plain_last}

written_out : (a : Act) → IsWrittenOut a (plain_act a)
written_out (Set doc) = refl
written_out (Remove cas rev) = refl
written_out (Prepare level doc deleted) = refl
written_out (Commit prepared doc true) = refl
written_out (Commit prepared doc false) = refl
written_out (Abort prepared) = refl

sent_for : (c x : Change) → x ≡ plain c → IsSentFor c x
sent_for c x e = subst (IsSentFor c) (sym e) (record { seq = refl; key = refl; act = written_out c.act })

-- what a stream sees of a list
abbrev shown : Bool → List Change → List Change
shown sync h = if sync then h else plain_view h

-- the items of a stream
abbrev items : List Record → ℕ → ℕ → Bool → List Change
items js start n sync = seen_by sync (above js start n)

module _ (js : List Record) (top start n : ℕ) (r : Rises 0 top (standing js)) where
  abbrev h : List Change
  h = standing js

  -- each item is sent for a change that is due

  above_of : (sync : Bool) (x : Change) → IsIn x (items js start n sync) → IsIn x (above js start n) × Sees sync x
  above_of true x i = (i, inl refl)
  above_of false x i = let k = in_filter (λ c. is_visible c.act) x (above js start n) i in (k.0, inr k.1)

  sees_back : (sync : Bool) (c x : Change) → x ≡ plain c → Sees sync x → Sees sync c
  sees_back sync c x e s = ⊎_elim (λ t. inl t) (λ v. inr (sym (visible_plain c.act) ∙ ap (λ (y : Change). is_visible y.act) (sym e) ∙ v)) s

  due_of : (sync : Bool) (x : Change) → IsIn x (items js start n sync) → (c : Change) × IsDue js start n sync c × (x ≡ plain c)
  due_of sync x i =
      let a = above_of sync x i in
      let k = sends_last_ones.needed js top start n x r a.0 in
      (k.1, record { slot = k.0; last = k.2; above = k.3; seen = sees_back sync k.1 x k.4 a.1 }, k.4)

  -- a change that is due stands, at most at n
  due_stands : (sync : Bool) (c : Change) → IsDue js start n sync c → IsIn c h × (c.seq ≤ n)
  due_stands sync c d = from_upto c h n (last_in (touches d.slot) (upto h n) c d.last).0

  -- and for each that is due there is one

  sent : (sync : Bool) (c : Change) → IsDue js start n sync c → IsIn (plain c) (items js start n sync)
  sent true c d = sends_last_ones.lasts js start n d.slot c d.last d.above
  sent false c d = kept_in_filter (λ x. is_visible x.act) (plain c) (above js start n) (sends_last_ones.lasts js start n d.slot c d.last d.above)
      (visible_plain c.act ∙ ⊎_elim (λ e. cc) (λ v. v) d.seen)

  -- so they are what has to come

  plain_remains : start ≤ n → Remains (items js start n false) (plain_view h) start n
  plain_remains l = record {
    rises = rises_filter (λ c. is_visible c.act) start n (above js start n) (sends js top start n r l).remains.rises;
    of = of;
    has = has;
  }
    where
      visible : (c : Change) → Sees false c → is_visible c.act ≡ true
      visible c s = ⊎_elim (λ e. cc) (λ v. v) s

      of : (x : Change) → IsIn x (items js start n false) → IsOf (plain_view h) x
      of x i = let k = due_of false x i in (plain k.0, plain_in h k.0 (due_stands false k.0 k.1).0 (visible k.0 k.1.seen), inl k.2)

      has : (slot : Slot) (x : Change) → last_of slot (upto (plain_view h) n) ≡ Some x → start < x.seq → x.seq ≤ n → HasOf (items js start n false) x
      has slot x e a b =
          let k = plain_of_view h x (from_upto x (plain_view h) n (last_in (touches slot) (upto (plain_view h) n) x e).0).0 in
          let c : Change = k.0 in
          let s : x.seq ≡ c.seq = ap (λ (y : Change). y.seq) k.3 in
          (plain c, sent false c (record { slot = Slot.Committed c.key; last = plain_last top n h slot x c r e k.1 k.2 k.3; above = omega arith; seen = inr k.2 }), inl (sym k.3))

  remains : (sync : Bool) → start ≤ n → Remains (items js start n sync) (shown sync h) start n
  remains true l = (sends js top start n r l).remains
  remains false l = plain_remains l

  shown_rises : (sync : Bool) → Rises 0 top (shown sync h)
  shown_rises true = r
  shown_rises false = plain_rises 0 top h r

  -- what a stream sees of what stands, in its own list
  shown_in : (sync : Bool) (c : Change) → IsIn c h → Sees sync c → (x : Change) × IsIn x (shown sync h) × (x.seq ≡ c.seq)
  shown_in true c i s = (c, i, refl)
  shown_in false c i s = (plain c, plain_in h c i (⊎_elim (λ e. cc) (λ v. v) s), refl)

  low : (sync : Bool) (x : Change) → IsIn x (items js start n sync) → start ≤ n
  low sync x i =
      let k = due_of sync x i in
      let a : start < k.0.seq = k.1.above in
      let b : k.0.seq ≤ n = (due_stands sync k.0 k.1).1 in
      omega arith

  -- the snapshot of some items

  is_disk : (sync : Bool) (x : Change) (xs : List Change) → items js start n sync ≡ x ∷ xs → IsDiskSnapshot js start n sync (record { start = start; end = last_seq x.seq xs; disk = true; items = x ∷ xs })
  is_disk sync x xs e = record {
    starts = refl;
    disk = refl;
    rises = rises_to_last start n (x ∷ xs) rem.rises;
    ends = last_there start x xs;
    within = within;
    each = λ y i. let k = due_of sync y (here y i) in (k.0, k.1, sent_for k.0 y k.2);
    all = λ c d. (plain c, subst (IsIn (plain c)) e (sent sync c d), sent_for c (plain c) refl);
    no_commit = λ y number doc deleted i q. sends_last_ones.commit js start n number y doc deleted (above_of sync y (here y i)).0 q;
    covers = λ t. subst (λ b. Covers (x ∷ xs) (shown b h) start (last_seq x.seq xs)) t last.covers;
    covers_plain = λ f. subst (λ b. Covers (x ∷ xs) (shown b h) start (last_seq x.seq xs)) f last.covers;
    nothing_left = left;
  }
    where
      here : (y : Change) → IsIn y (x ∷ xs) → IsIn y (items js start n sync)
      here y i = subst (IsIn y) (sym e) i

      rem : Remains (x ∷ xs) (shown sync h) start n
      rem = subst (λ ys. Remains ys (shown sync h) start n) e (remains sync (low sync x (here x (inl refl))))

      last : ToLast (x ∷ xs) (shown sync h) start n
      last = to_last top (shown sync h) (x ∷ xs) start n x (shown_rises sync) (inl refl) rem

      within : last_seq x.seq xs ≤ n
      within = let k = last_there start x xs in let q : k.0.seq ≡ last_seq x.seq xs = k.2 in let b : k.0.seq ≤ n = (rises_in start n (x ∷ xs) k.0 rem.rises k.1).1 in omega arith

      left : (c : Change) → IsIn c h → Sees sync c → last_seq x.seq xs < c.seq → c.seq ≤ n → ⊥
      left c i s a b = let k = shown_in sync c i s in let q : k.0.seq ≡ c.seq = k.2 in last.nothing_left k.0 k.1 (omega arith) (omega arith)

  some : (sync : Bool) (xs : List Change) → items js start n sync ≡ xs → (s : Snapshot) → disk_of start xs ≡ Some s → IsDiskSnapshot js start n sync s
  some sync [] e s q = cc
  some sync (x ∷ xs) e s q = subst (IsDiskSnapshot js start n sync) (of q) (is_disk sync x xs e)
    where
      of : {a b : Snapshot} → Some a ≡ Some b → a ≡ b
      of p = cc

  -- and none without items

  none : (sync : Bool) (xs : List Change) → items js start n sync ≡ xs → disk_of start xs ≡ None → (c : Change) → IsDue js start n sync c → ⊥
  none sync [] e q c d = subst (IsIn (plain c)) e (sent sync c d)
  none sync (x ∷ xs) e q c d = cc

  no_items : (sync : Bool) (xs : List Change) → items js start n sync ≡ xs → ((c : Change) → IsDue js start n sync c → ⊥) → disk_of start xs ≡ None
  no_items sync [] e f = refl
  no_items sync (x ∷ xs) e f = let k = due_of sync x (subst (IsIn x) (sym e) (inl refl)) in absurd (f k.0 k.1)

  -- where something that a stream sees stands, something is due
  some_due : (sync : Bool) (c : Change) → IsIn c h → Sees sync c → start < c.seq → c.seq ≤ n → (d : Change) × IsDue js start n sync d
  some_due true c i s a b =
      let z = last_above (touches (Slot.Pending c.key)) 0 n (upto h n) c (rises_upto 0 top n h (omega arith) r) (upto_in c h n i b) ((bytes_eq-Decides c.key c.key).1 refl) in
      let l : c.seq ≤ z.0.seq = z.2 in
      (z.0, record { slot = Slot.Pending c.key; last = z.1; above = omega arith; seen = inl refl })
  some_due false c i s a b =
      let z = last_visible top n h c r i b (⊎_elim (λ e. cc) (λ v. v) s) in
      let l : c.seq ≤ z.0.seq = z.2 in
      (z.0, record { slot = Slot.Committed c.key; last = z.1; above = omega arith; seen = inr z.6 })

  gives : (sync : Bool) → Gives js start n sync
  gives sync = record {
    none = (none sync (items js start n sync) refl, no_items sync (items js start n sync) refl);
    nothing = (
      λ q c i s a b. let d = some_due sync c i s a b in none sync (items js start n sync) refl q d.0 d.1,
      λ f. no_items sync (items js start n sync) refl (λ c d. let k = due_stands sync c d in f c k.0 d.seen d.above k.1),
    );
    some = some sync (items js start n sync) refl;
  }

pub gives_what_is_due : GivesDue
gives_what_is_due js top start end sync r = gives js top start end r sync
