-- the outstanding prepares are among those that wait: after a write, a prepare, one that is resolved, and a change of role
use Rattle.std.proofs.Common.{◌≡◌, ◌≢◌, ℕ, ◌+◌, ◌≤◌, ◌^◌, Bool, true, false, cond, List, [], ◌∷◌, length, refl, sym, ap, subst, ◌∙◌, inl, inr, ⊎_elim, arith}
use Rattle.std.specs.Prelude.{◌⊎◌, ◌&&◌, T, Some, None}
use Rattle.std.specs.FinMap as finite
use Rattle.std.specs.FinMap.Entries.{is_sorted, below_all}
use Rattle.std.specs.List.{fold}
use Rattle.std.specs.Ordering.{eq_by_cmp, is_eq, is_lt}
use Rattle.std.specs.Str.{bytes_eq}
use Rattle.std.proofs.lemmas.Slice.Eq.{bytes_eq-Decides}
use Rattle.std.proofs.lemmas.List.{length-replicate}
use Rattle.std.proofs.lemmas.Map.Text.{is_eq-slice_cmp}
use Rattle.std.specs.declared.cmp.Ordering.{Ordering}
use Rattle.std.specs.declared.cmp.Ordering.TheVariants.{Less, Equal, Greater}
use Rattle.durability.specs.declared.waiting.Waiting.{Waiting}
use Rattle.durability.specs.Laws.{Waits}
use Rattle.durability.specs.Outstanding.{no_acks, placed, without}
use Rattle.vb_types.specs.Keys.{key_cmp}
use Rattle.vb_types.specs.Images.{Picture, acted, nothing}
use Rattle.vb_types.specs.declared.change.Act.{Act}
use Rattle.vb_types.specs.declared.change.Act.TheVariants as act
use Rattle.vb_types.specs.declared.change.Level.{Level}
use Rattle.vb_types.specs.declared.change.Pend.{Pend}
use Rattle.vb_types.specs.declared.doc.Doc.{Doc}
use Rattle.vb_types.specs.declared.role.Role.{Role}
use Rattle.vb_types.specs.declared.role.Role.TheVariants as role
use Rattle.vb_types.proofs.Laws.{get-insert_same}
use Rattle.vb_calls.specs.State.{is_active}
use Rattle.vb_calls.specs.Settling.{left_prepare, left_prepares}
use Rattle.vbucket.specs.Laws.{AreBacked, AreLinked, Ascend, IsBacked, OnlyActive, OnlyLinked, PendSeqsUpTo, PendsDiffer}
use Rattle.vbucket.proofs.Prepares.{IsGone, IsPut, NoPrepare, pend_after_one, gone, pend_gone, pend_stays, put}

pub only_active : (r : Role) (ws : List Waiting) → is_active r ≡ true → OnlyActive r ws
only_active role.Active ws e = tt
only_active role.Replica ws e = cc
only_active role.Pending ws e = cc
only_active role.Dead ws e = cc

pub none_idle : (r : Role) (ws : List Waiting) → is_active r ≡ false → OnlyActive r ws → ws ≡ []
none_idle role.Active ws e o = cc
none_idle role.Replica ws e o = o
none_idle role.Pending ws e o = o
none_idle role.Dead ws e o = o

pub nothing_idle : (r : Role) → OnlyActive r []
nothing_idle role.Active = tt
nothing_idle role.Replica = refl
nothing_idle role.Pending = refl
nothing_idle role.Dead = refl

not_active : (r : Role) → is_active r ≡ false → r ≢ role.Active
not_active role.Active e k = cc
not_active role.Replica e k = cc
not_active role.Pending e k = cc
not_active role.Dead e k = cc

no_one : (ws : List Waiting) (w : Waiting) → ws ≡ [] → Waits w ws → ⊥
no_one [] w e i = i
no_one (v ∷ ws) w e i = cc

-- a vBucket that is not active has none, whatever waits
pub backed_idle : (r : Role) (image image' : Picture) (at at' : ℕ) (ws : List Waiting) → is_active r ≡ false → AreBacked r image at ws → AreBacked r image' at' ws
backed_idle r image image' at at' ws e b =
    let none = none_idle r ws e b.only in
    record {
      only = b.only;
      ascend = b.ascend;
      backed = λ w i. absurd (no_one ws w none i);
      all = λ k. absurd (not_active r e k);
      left = λ w d i. absurd (no_one ws w none i);
    }

-- and where it takes another such role
pub backed_turned : (r : Role) (image : Picture) (at : ℕ) → is_active r ≡ false → AreBacked r image at []
backed_turned r image at e = record {
  only = nothing_idle r;
  ascend = tt;
  backed = λ w i. absurd i;
  all = λ k. absurd (not_active r e k);
  left = λ w d i. absurd i;
}

module _ (r : Role) (image : Picture) (at : ℕ) (ws : List Waiting) where
  -- two that wait at one key are one
  same_pend : (key : List ℕ) (p q : Pend) → finite.get image.pending key ≡ Some p → finite.get image.pending key ≡ Some q → p ≡ q
  same_pend key p q e f = let k : Some p ≡ Some q = sym e ∙ f in cc

  -- a change that prepares nothing, of a key where nothing waits
  pub backed_written : (key : List ℕ) (a : Act) → AreBacked r image at ws → PendSeqsUpTo at image → NoPrepare a → finite.get image.pending key ≡ None → at + length ws + 1 ≤ 2 ^ 48
      → AreBacked r (acted image (at + 1) key a) (at + 1) ws
  backed_written key a b u s none room = record {
    only = b.only;
    ascend = b.ascend;
    backed = λ w i. let k = b.backed w i in (k.0, pend_stays image (at + 1) key a w.key (other w.key k.0 k.1) ∙ k.1, k.2, k.3);
    all = λ k q p e. ⊎_elim (λ o. b.all k q p o.1) (λ o. absurd (never q p e o.0)) (pend_after_one at image (at + 1) key a q p u (omega arith) e);
    left = λ w d i e. omega arith;
  }
    where
      other : (q : List ℕ) (p : Pend) → finite.get image.pending q ≡ Some p → key ≢ q
      other q p e same = let k : None ≡ Some p = sym none ∙ ap (λ x. finite.get image.pending x) same ∙ e in cc

      never : (q : List ℕ) (p : Pend) → finite.get (acted image (at + 1) key a).pending q ≡ Some p → key ≡ q → ⊥
      never q p e same = let k : None ≡ Some p = sym (pend_gone at image (at + 1) key a u (omega arith) s) ∙ ap (λ x. finite.get (acted image (at + 1) key a).pending x) same ∙ e in cc

  -- an outstanding prepare is resolved
  pub backed_resolved : (w : Waiting) (a : Act) → AreBacked r image at ws → PendSeqsUpTo at image → PendsDiffer image → is_active r ≡ true → Waits w ws → NoPrepare a
      → AreBacked r (acted image (at + 1) w.key a) (at + 1) (without w.seq ws)
  backed_resolved w a b u d on here s = record {
    only = only_active r (without w.seq ws) on;
    ascend = g.ascend;
    backed = λ v i. let k = g.was v i in let m = b.backed v k.0 in (m.0, pend_stays image (at + 1) w.key a v.key (other v k.0 k.1) ∙ m.1, m.2, m.3);
    all = λ k q p e. ⊎_elim
        (λ o. let v = b.all k q p o.1 in (v.0, g.stays v.0 v.1 (λ same. o.0 (one_key v.0 v.1 same ∙ v.2.0)), v.2))
        (λ o. absurd (never q p e o.0)) (pend_after_one at image (at + 1) w.key a q p u (omega arith) e);
    left = λ v l i e. let k = g.was v i in let m = b.left v l k.0 e in let n = g.shorter w here refl in omega arith;
  }
    where
      g : IsGone w.seq ws (without w.seq ws)
      g = gone w.seq ws b.ascend

      one_key : (v : Waiting) → Waits v ws → v.seq ≡ w.seq → w.key ≡ v.key
      one_key v i same = let m = b.backed w here in let n = b.backed v i in d w.key v.key m.0 n.0 m.1 n.1 (m.2 ∙ sym same ∙ sym n.2)

      other : (v : Waiting) → Waits v ws → v.seq ≢ w.seq → w.key ≢ v.key
      other v i n same =
          let x = b.backed w here in
          let y = b.backed v i in
          let k = same_pend v.key x.0 y.0 (ap (λ q. finite.get image.pending q) (sym same) ∙ x.1) y.1 in
          n (sym y.2 ∙ sym (ap (λ (p : Pend). p.seq) k) ∙ x.2)

      never : (q : List ℕ) (p : Pend) → finite.get (acted image (at + 1) w.key a).pending q ≡ Some p → w.key ≡ q → ⊥
      never q p e same = let k : None ≡ Some p = sym (pend_gone at image (at + 1) w.key a u (omega arith) s) ∙ ap (λ x. finite.get (acted image (at + 1) w.key a).pending x) same ∙ e in cc

  -- a write is prepared, at a key where nothing waits
  pub backed_prepared : (w : Waiting) (level : Level) (doc : Doc) (deleted : Bool) → AreBacked r image at ws → PendSeqsUpTo at image → is_active r ≡ true → finite.get image.pending w.key ≡ None
      → w.seq ≡ at + 1 → w.level ≡ level → at + length ws + 2 ≤ 2 ^ 48 → AreBacked r (acted image (at + 1) w.key (act.Prepare level doc deleted)) (at + 1) (placed w ws)
  backed_prepared w level doc deleted b u on none next at_level room = record {
    only = only_active r (placed w ws) on;
    ascend = g.ascend;
    backed = λ v i. ⊎_elim (λ e. subst (IsBacked after) (sym e) (new, is_new, sym next, sym at_level))
        (λ j. let k = b.backed v j in (k.0, pend_stays image (at + 1) w.key a v.key (other v.key k.0 k.1) ∙ k.1, k.2, k.3)) (g.was v i);
    all = λ k q p e. ⊎_elim (λ o. let v = b.all k q p o.1 in (v.0, g.stays v.0 v.1, v.2))
        (λ o. let m = its q p o.0 e in (w, g.there, (o.0, next ∙ ap (λ (x : Pend). x.seq) m, at_level ∙ ap (λ (x : Pend). x.level) m)))
        (pend_after_one at image (at + 1) w.key a q p u (omega arith) e);
    left = λ v d i e. let k = g.longer in omega arith;
  }
    where
      a : Act
      a = act.Prepare level doc deleted

      after : Picture
      after = acted image (at + 1) w.key (act.Prepare level doc deleted)

      new : Pend
      new = record { seq = at + 1; level = level; doc = doc; deleted = deleted }

      is_new : finite.get after.pending w.key ≡ Some new
      is_new = get-insert_same image.pending w.key new

      its : (q : List ℕ) (p : Pend) → w.key ≡ q → finite.get after.pending q ≡ Some p → new ≡ p
      its q p same e = let k : Some new ≡ Some p = sym is_new ∙ ap (λ x. finite.get after.pending x) same ∙ e in cc

      low : (v : Waiting) → Waits v ws → v.seq ≢ w.seq
      low v i e = let k = b.backed v i in let m = u v.key k.0 k.1 in let n = k.2 in omega arith

      g : IsPut w ws (placed w ws)
      g = put w ws b.ascend low

      other : (q : List ℕ) (p : Pend) → finite.get image.pending q ≡ Some p → w.key ≢ q
      other q p e same = let k : None ≡ Some p = sym none ∙ ap (λ x. finite.get image.pending x) same ∙ e in cc

-- the prepares that wait in an image, as outstanding ones

abbrev pub Entry : Type 0
Entry = List ℕ × Pend

abbrev pub IsEntry : Entry → List Entry → Type 0
IsEntry e [] = ⊥
IsEntry e (x ∷ xs) = (e ≡ x) ⊎ IsEntry e xs

-- each entry's seqno is one of its own
abbrev Apart : List Entry → Type 0
Apart [] = Unit {0}
Apart (x ∷ xs) = ((e : Entry) → IsEntry e xs → x.1.seq ≢ e.1.seq) × Apart xs

-- the list and these entries
pub record IsLeft (es : List Entry) (ws xs : List Waiting) : Type 0 where
  pub ascend : Ascend xs
  pub was : (v : Waiting) → Waits v xs → Waits v ws ⊎ ((e : Entry) × IsEntry e es × (v ≡ left_prepare e))
  pub stays : (v : Waiting) → Waits v ws → Waits v xs
  pub there : (e : Entry) → IsEntry e es → Waits (left_prepare e) xs

all_placed : (es : List Entry) (ws : List Waiting) → Ascend ws → Apart es → ((v : Waiting) (e : Entry) → Waits v ws → IsEntry e es → v.seq ≢ e.1.seq)
    → IsLeft es ws (fold (λ waiting e. placed (left_prepare e) waiting) ws es)
all_placed [] ws r a h = record { ascend = r; was = λ v i. inl i; stays = λ v i. i; there = λ e i. absurd i }
all_placed (x ∷ es) ws r a h =
    let g = put (left_prepare x) ws r (λ v i. h v x i (inl refl)) in
    let m = all_placed es (placed (left_prepare x) ws) g.ascend a.1
    (λ v e i j. ⊎_elim (λ s. λ q. a.0 e j (sym (ap (λ (y : Waiting). y.seq) s) ∙ q)) (λ k. h v e k (inr j)) (g.was v i)) in
    record {
      ascend = m.ascend;
      was = λ v i. ⊎_elim (λ j. ⊎_elim (λ s. inr (x, inl refl, s)) (λ k. inl k) (g.was v j)) (λ e. inr (e.0, inr e.1, e.2)) (m.was v i);
      stays = λ v i. m.stays v (g.stays v i);
      there = λ e i. ⊎_elim (λ s. subst (λ y. Waits (left_prepare y) (fold (λ waiting e. placed (left_prepare e) waiting) (placed (left_prepare x) ws) es)) (sym s) (m.stays (left_prepare x) g.there)) (λ j. m.there e j) i;
    }

-- entries and what a map has

tied : (b : Bool) (e : Entry) (es : List Entry) (q : List ℕ) (p : Pend) → cond b (Some e.1) (finite.find key_cmp q es) ≡ Some p → ((b ≡ true) × (e.1 ≡ p)) ⊎ (finite.find key_cmp q es ≡ Some p)
tied true e es q p k = inl (refl, cc)
tied false e es q p k = inr k

eq_is : (o : Ordering) → is_eq o ≡ true → o ≡ Equal
eq_is Less e = cc
eq_is Equal e = refl
eq_is Greater e = cc

-- what is found is an entry
pub found_entry : (es : List Entry) (q : List ℕ) (p : Pend) → finite.find key_cmp q es ≡ Some p → IsEntry (q, p) es
found_entry [] q p e = cc
found_entry (x ∷ es) q p e = ⊎_elim
    (λ k. let s = finite.slice_cmp-IsAntisymmetric finite.nat_cmp-IsAntisymmetric q x.0 (eq_is (key_cmp q x.0) k.0) in inl (λ i. (s i, sym k.1 i)))
    (λ k. inr (found_entry es q p k)) (tied (eq_by_cmp key_cmp q x.0) x es q p e)

first_part : (a b : Bool) → T (a && b) → T a
first_part true b t = tt
first_part false b t = t

second_part : (a b : Bool) → T (a && b) → T b
second_part true b t = t
second_part false b t = absurd t

lt_is : (o : Ordering) → T (is_lt o) → o ≡ Less
lt_is Less t = refl
lt_is Equal t = absurd t
lt_is Greater t = absurd t

itself : (k : List ℕ) → eq_by_cmp key_cmp k k ≡ true
itself k = is_eq-slice_cmp k k ∙ (bytes_eq-Decides k k).1 refl

less_other : (k q : List ℕ) → key_cmp k q ≡ Less → k ≢ q
less_other k q l e =
    let z : is_eq (key_cmp k k) ≡ false = ap is_eq (ap (key_cmp k) e ∙ l) in
    let t : true ≡ false = sym (itself k) ∙ z in cc

not_tied : (q k : List ℕ) → k ≢ q → eq_by_cmp key_cmp q k ≡ false
not_tied q k n = is_eq-slice_cmp q k ∙ by (bytes_eq q k) refl
  where
    by : (b : Bool) → bytes_eq q k ≡ b → b ≡ false
    by true e = absurd (n (sym ((bytes_eq-Decides q k).0 e)))
    by false e = refl

below_less : (k : List ℕ) (es : List Entry) (e : Entry) → T (below_all key_cmp k es) → IsEntry e es → key_cmp k e.0 ≡ Less
below_less k [] e t i = absurd i
below_less k (x ∷ es) e t i = ⊎_elim (λ s. ap (λ (y : Entry). key_cmp k y.0) s ∙ lt_is (key_cmp k x.0) (first_part _ _ t)) (λ j. below_less k es e (second_part _ _ t) j) i

-- an entry is found
pub entry_is_found : (es : List Entry) (e : Entry) → T (is_sorted key_cmp es) → IsEntry e es → finite.find key_cmp e.0 es ≡ Some e.1
entry_is_found [] e t i = absurd i
entry_is_found (x ∷ es) e t i = ⊎_elim
    (λ s. subst (λ (y : Entry). finite.find key_cmp y.0 (x ∷ es) ≡ Some y.1) (sym s) (ap (λ b. cond b (Some x.1) (finite.find key_cmp x.0 es)) (itself x.0)))
    (λ j. ap (λ b. cond b (Some x.1) (finite.find key_cmp e.0 es)) (not_tied e.0 x.0 (less_other x.0 e.0 (below_less x.0 es e (first_part _ _ t) j))) ∙ entry_is_found es e (second_part _ _ t) j) i

entries_apart : (image : Picture) (es : List Entry) → PendsDiffer image → T (is_sorted key_cmp es) → ((e : Entry) → IsEntry e es → finite.get image.pending e.0 ≡ Some e.1) → Apart es
entries_apart image [] d t h = tt
entries_apart image (x ∷ es) d t h = (
  λ e i same. less_other x.0 e.0 (below_less x.0 es e (first_part _ _ t) i) (d x.0 e.0 x.1 e.1 (h x (inl refl)) (h e (inr i)) same),
  entries_apart image es d (second_part _ _ t) (λ e i. h e (inr i)),
)

-- exactly the prepares that wait are left to be committed again, by rising seqnos
pub record AreLeft (image : Picture) (ws : List Waiting) : Type 0 where
  pub ascend : Ascend ws
  pub was : (v : Waiting) → Waits v ws → (key : List ℕ) × (p : Pend) × (finite.get image.pending key ≡ Some p) × (v ≡ left_prepare (key, p))
  pub there : (key : List ℕ) (p : Pend) → finite.get image.pending key ≡ Some p → Waits (left_prepare (key, p)) ws

pub are_left : (image : Picture) → PendsDiffer image → AreLeft image (left_prepares image)
are_left image d = record {
  ascend = m.ascend;
  was = λ v i. ⊎_elim (λ j. absurd j) (λ e. (e.0.0, e.0.1, has e.0 e.1, e.2)) (m.was v i);
  there = λ key p e. m.there (key, p) (found_entry es key p (sym (finite.get-entries image.pending key) ∙ e));
}
  where
    es : List Entry
    es = finite.entries image.pending

    has : (e : Entry) → IsEntry e es → finite.get image.pending e.0 ≡ Some e.1
    has e i = finite.get-entries image.pending e.0 ∙ entry_is_found es e (finite.entries_sorted image.pending) i

    m : IsLeft es [] (left_prepares image)
    m = all_placed es [] tt (entries_apart image es d (finite.entries_sorted image.pending) has) (λ v e i j. absurd i)

pub backed_left : (image : Picture) (at : ℕ) → PendsDiffer image → AreBacked role.Active image at (left_prepares image)
backed_left image at d = record {
  only = tt;
  ascend = m.ascend;
  backed = λ v i. let k = m.was v i in subst (IsBacked image) (sym k.3) (k.1, k.2, refl, refl);
  all = λ k key p e. (left_prepare (key, p), m.there key p e, (refl, refl, refl));
  left = λ v l i e. let k = m.was v i in let z : None ≡ Some l = sym (ap (λ (x : Waiting). x.deadline) k.3) ∙ e in cc;
}
  where
    m : AreLeft image (left_prepares image)
    m = are_left image d

-- nothing waits in a new vBucket
pub backed_new : (r : Role) → AreBacked r nothing 0 []
backed_new r = record {
  only = nothing_idle r;
  ascend = tt;
  backed = λ w i. absurd i;
  all = λ k key p e. let g : finite.get nothing.pending key ≡ None = finite.get-empty key_cmp key in cc;
  left = λ w d i e. absurd i;
}

-- a chain of its node alone
pub linked_new : (r : Role) → AreLinked r [] no_acks
linked_new r = record { only = alone r; few = omega arith; apart = refl; each = length-replicate {A = ℕ} 256 0 }
  where
    alone : (r : Role) → OnlyLinked r [] no_acks
    alone role.Active = tt
    alone role.Replica = (refl, refl)
    alone role.Pending = (refl, refl)
    alone role.Dead = (refl, refl)
