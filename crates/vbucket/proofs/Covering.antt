-- what a list of changes has of a history
use Rattle.std.proofs.Common.{◌≡◌, ℕ, ◌<◌, ◌≤◌, Bool, true, false, cond, List, [], ◌∷◌, refl, sym, ap, subst, ◌∙◌, inl, inr, ⊎_elim, arith}
use Rattle.std.specs.Prelude.{Option, Some, None, if◌then◌else◌, ◌||◌}
use Rattle.std.specs.Option.{option_or}
use Rattle.std.specs.List.{filter, list_any}
use Rattle.std.specs.Str.{bytes_eq}
use Rattle.std.proofs.lemmas.Bool.{le-leb, lt-leb, cases_lt, and_parts, and_from}
use Rattle.std.proofs.lemmas.Slice.Eq.{bytes_eq-Decides}
use Rattle.vb_types.specs.declared.change.Act.{Act}
use Rattle.vb_types.specs.declared.change.Act.TheVariants as act
use Rattle.vb_types.specs.declared.change.Change.{Change}
use Rattle.vb_types.specs.Histories.{upto, Rises, IsIn, Slot, touches, last_by, last_of, is_visible, plain, plain_act}
use Rattle.branch_model.specs.Histories.{last_seq, HasOf, StandsAs}
use Rattle.branch_model.specs.Snapshots.{Remains, Covers, plain_view}
use Rattle.branch_model.proofs.Images.{plain_stands}
use Rattle.branch_model.proofs.Lists.{from_upto, upto_in, rises_upto, rises_map, last_in, last_above, last_seq_le, same_seq, rises_in}
use Rattle.vb_calls.specs.declared.span.Origin.{Origin}
use Rattle.vb_calls.specs.declared.span.Origin.TheVariants.{Own, Received}
use Rattle.vb_calls.specs.Spans.{key_lasts, live_of, is_durable, last_at}
use Rattle.vbucket.specs.Laws.{Tidy}
use Rattle.vbucket.proofs.Parts.{filtered, bounded, in_filter, kept_in_filter, in_map, mapped_in}

-- the end of a list

least : (m d : ℕ) (ys : List Change) → Rises m d ys → m ≤ last_seq m ys
least m d [] s = omega arith
least m d (y ∷ ys) s = let k = least y.seq d ys s.1 in let l : m < y.seq = s.0 in omega arith

pub in_ends : (a b n : ℕ) (xs : List Change) (c : Change) → Rises a b xs → IsIn c xs → c.seq ≤ last_seq n xs
in_ends a b n [] c r i = absurd i
in_ends a b n (x ∷ xs) c r i = ⊎_elim
    (λ e. let k : c.seq ≡ x.seq = ap (λ (y : Change). y.seq) e in let q = least x.seq b xs r.1 in omega arith)
    (λ t. in_ends x.seq b x.seq xs c r.1 t) i

-- fronts with the same changes are the same
upto_same : (h : List Change) (m n : ℕ) → m ≤ n → ((x : Change) → IsIn x h → x.seq ≤ n → x.seq ≤ m) → upto h n ≡ upto h m
upto_same [] m n l f = refl
upto_same (c ∷ cs) m n l f = by (upto_same cs m n l (λ x i q. f x (inr i) q))
  where
    by : upto cs n ≡ upto cs m → upto (c ∷ cs) n ≡ upto (c ∷ cs) m
    by rest = ⊎_elim
        (λ k. ap (λ b. cond b (c ∷ upto cs n) (upto cs n)) (lt-leb c.seq n k) ∙ rest ∙ sym (ap (λ b. cond b (c ∷ upto cs m) (upto cs m)) (lt-leb c.seq m (omega arith))))
        (λ k. ap (λ b. cond b (c ∷ upto cs n) (upto cs n)) (le-leb c.seq n k) ∙ ap (λ x. c ∷ x) rest ∙ sym (ap (λ b. cond b (c ∷ upto cs m) (upto cs m)) (le-leb c.seq m (f c (inl refl) k))))
        (cases_lt n c.seq)

stands_seq : (x c : Change) → StandsAs x c → x.seq ≡ c.seq
stands_seq x c s = ap (λ (v : Change). v.seq) (plain_stands x c s)

-- what remains up to `end` is a whole snapshot up to its own last change, and h has none between the two
pub remains_ends : (top : ℕ) (h xs : List Change) (from end : ℕ) → Rises 0 top h → Remains xs h from end → from < last_seq from xs → from ≤ end
    → Covers xs h from (last_seq from xs) × (upto h end ≡ upto h (last_seq from xs))
remains_ends top h xs from end r rem l m = (record { goes_on = l; remains = record { rises = rises; of = rem.of; has = has }; reaches = refl }, same)
  where
    most : last_seq from xs ≤ end
    most = last_seq_le from end from xs m rem.rises

    there : (x : Change) → IsIn x h → x.seq ≤ end → x.seq ≤ last_seq from xs
    there x i k = ⊎_elim
        (λ (a : from < x.seq).
        let s : Slot = Slot.Pending x.key in
        let z = last_above (touches s) 0 end (upto h end) x (rises_upto 0 top end h (omega arith) r) (upto_in x h end i k) ((bytes_eq-Decides x.key x.key).1 refl) in
        let zl : x.seq ≤ z.0.seq = z.2 in
        let ze : z.0.seq ≤ end = (from_upto z.0 h end (last_in (touches s) (upto h end) z.0 z.1).0).1 in
        let y = rem.has s z.0 z.1 (omega arith) ze in
        let e : y.0.seq ≡ z.0.seq = stands_seq y.0 z.0 y.2 in
        let q : y.0.seq ≤ last_seq from xs = in_ends from end from xs y.0 rem.rises y.1 in
        omega arith)
        (λ (a : x.seq ≤ from). omega arith)
        (cases_lt from x.seq)

    same : upto h end ≡ upto h (last_seq from xs)
    same = upto_same h (last_seq from xs) end most there

    rises : Rises from (last_seq from xs) xs
    rises = bounded from end from (last_seq from xs) xs rem.rises (omega arith) (λ x i. ((rises_in from end xs x rem.rises i).0, in_ends from end from xs x rem.rises i))

    has : (s : Slot) (c : Change) → last_of s (upto h (last_seq from xs)) ≡ Some c → from < c.seq → c.seq ≤ last_seq from xs → HasOf xs c
    has s c e a b = let m = most in rem.has s c (ap (last_of s) same ∙ e) a (omega arith)

-- the last change of a key is live

pub none_touches : (key : List ℕ) (xs : List Change) → last_by (touches (Slot.Pending key)) xs ≡ None → list_any (λ d. bytes_eq d.key key) xs ≡ false
none_touches key [] e = refl
none_touches key (x ∷ xs) e = by (last_by (touches (Slot.Pending key)) xs) (bytes_eq x.key key) refl e (none_touches key xs)
  where
    by : (o : Option Change) (b : Bool) → last_by (touches (Slot.Pending key)) xs ≡ o → option_or o (if b then Some x else None) ≡ None → (last_by (touches (Slot.Pending key)) xs ≡ None → list_any (λ d. bytes_eq d.key key) xs ≡ false)
        → (b || list_any (λ d. bytes_eq d.key key) xs) ≡ false
    by (Some d) b eo q ih = cc
    by None true eo q ih = cc
    by None false eo q ih = ih eo

pub last_live : (c : Change) (xs : List Change) → last_at xs c.key ≡ Some c → IsIn c (key_lasts xs)
last_live c [] e = cc
last_live c (x ∷ xs) e = by (last_at xs c.key) (bytes_eq x.key c.key) refl e (last_live c xs)
  where
    more : (t : Bool) → IsIn c (key_lasts xs) → IsIn c (if t then key_lasts xs else x ∷ key_lasts xs)
    more true k = k
    more false k = inr k

    by : (o : Option Change) (b : Bool) → last_at xs c.key ≡ o → option_or o (if b then Some x else None) ≡ Some c → (last_at xs c.key ≡ Some c → IsIn c (key_lasts xs)) → IsIn c (key_lasts (x ∷ xs))
    by (Some d) b eo q ih = more (list_any (λ d. bytes_eq d.key x.key) xs) (ih (eo ∙ q))
    by None true eo q ih =
        let s : x ≡ c = cc in
        subst (λ t. IsIn c (if t then key_lasts xs else x ∷ key_lasts xs)) (sym (ap (λ (y : Change). list_any (λ d. bytes_eq d.key y.key) xs) s ∙ none_touches c.key xs eo)) (inl (sym s))
    by None false eo q ih = cc

live_same : (c d : Change) (xs : List Change) → last_at xs c.key ≡ Some d → c ≡ d → IsIn c (key_lasts xs)
live_same c d xs e q = last_live c xs (e ∙ ap Some (sym q))

-- a set or a removal touches each slot of its key
touches_visible : (s : Slot) (c d : Change) → touches s c ≡ true → c.key ≡ d.key → is_visible d.act ≡ true → touches s d ≡ true
touches_visible (Slot.Committed q) c d t e v = and_from _ _ (ap (λ k. bytes_eq k q) (sym e) ∙ (and_parts _ _ t).0) v
touches_visible (Slot.Pending q) c d t e v = ap (λ k. bytes_eq k q) (sym e) ∙ t

visible_of : (a : Act) → is_durable a ≡ false → is_visible a ≡ true
visible_of (act.Set doc) e = refl
visible_of (act.Remove cas rev) e = refl
visible_of (act.Prepare level doc deleted) e = cc
visible_of (act.Commit prepared doc deleted) e = refl
visible_of (act.Abort prepared) e = cc

some_same : (c d : Change) (o : Option Change) → o ≡ Some c → o ≡ Some d → c ≡ d
some_same c d o e f = let q : Some c ≡ Some d = sym e ∙ f in cc

-- no visible change of its key lies above a slot's last change
visible_at : (low high : ℕ) (xs : List Change) (s : Slot) (c d : Change) → Rises low high xs → last_of s xs ≡ Some c → IsIn d xs → c.key ≡ d.key → is_visible d.act ≡ true → d.seq ≤ c.seq
visible_at low high xs s c d r e i k v =
    let z = last_above (touches s) low high xs d r i (touches_visible s c d (last_in (touches s) xs c e).1 k v) in
    subst (λ (y : Change). d.seq ≤ y.seq) (some_same z.0 c (last_of s xs) z.1 e) z.2

-- the last change of a slot is live in a tidy span
pub slot_live : (low high : ℕ) (o : Origin) (s : Slot) (c : Change) (xs : List Change) → Rises low high xs → Tidy o xs → last_of s xs ≡ Some c → IsIn c (live_of o xs)
slot_live low high (Received ss se) s c xs r t e = (last_in (touches s) xs c e).0
slot_live low high Own s c xs r t e =
    let i = last_in (touches s) xs c e in
    let d = last_above (touches (Slot.Pending c.key)) low high xs c r i.0 ((bytes_eq-Decides c.key c.key).1 refl) in
    let x = last_in (touches (Slot.Pending c.key)) xs d.0 d.1 in
    let k : c.key ≡ d.0.key = sym ((bytes_eq-Decides d.0.key c.key).0 x.1) in
    let l : c.seq ≤ d.0.seq = d.2 in
    let same : c ≡ d.0 = ⊎_elim
    (λ (m : c.seq < d.0.seq). let n = visible_at low high xs s c d.0 r e x.0 k (visible_of d.0.act (t c d.0 i.0 x.0 k m).1) in absurd (omega arith))
    (λ (m : d.0.seq ≤ c.seq). same_seq low high xs c d.0 r i.0 x.0 (omega arith))
    (cases_lt c.seq d.0.seq) in
    live_same c d.0 xs d.1 same

-- what a stream without durable writes shows

plain_visible : (a : Act) → is_visible a ≡ true → is_visible (plain_act a) ≡ true
plain_visible (act.Set doc) e = refl
plain_visible (act.Remove cas rev) e = refl
plain_visible (act.Prepare level doc deleted) e = cc
plain_visible (act.Commit prepared doc true) e = refl
plain_visible (act.Commit prepared doc false) e = refl
plain_visible (act.Abort prepared) e = cc

pub plain_rises : (a b : ℕ) (h : List Change) → Rises a b h → Rises a b (plain_view h)
plain_rises a b h r = rises_map plain (λ x. refl) a b (filter (λ x. is_visible x.act) h) (filtered (λ x. is_visible x.act) a b h r)

pub plain_in : (h : List Change) (c : Change) → IsIn c h → is_visible c.act ≡ true → IsIn (plain c) (plain_view h)
plain_in h c i v = mapped_in plain (filter (λ x. is_visible x.act) h) c (kept_in_filter (λ x. is_visible x.act) h c i v)

pub plain_of_view : (h : List Change) (x : Change) → IsIn x (plain_view h) → (c : Change) × IsIn c h × (is_visible c.act ≡ true) × (x ≡ plain c)
plain_of_view h x i =
    let k = in_map plain (filter (λ y. is_visible y.act) h) x i in
    let m = in_filter (λ y. is_visible y.act) h k.0 k.1 in
    (k.0, m.0, m.1, k.2)

-- a slot's last change that such a stream shows is its key's last visible one
pub plain_last : (top n : ℕ) (h : List Change) (s : Slot) (x c : Change) → Rises 0 top h → last_of s (upto (plain_view h) n) ≡ Some x → IsIn c h → is_visible c.act ≡ true → x ≡ plain c → last_of (Slot.Committed c.key) (upto h n) ≡ Some c
plain_last top n h s x c r e i v q =
    let ix = last_in (touches s) (upto (plain_view h) n) x e in
    let es : x.seq ≡ c.seq = ap (λ (y : Change). y.seq) q in
    let lx : x.seq ≤ n = (from_upto x (plain_view h) n ix.0).1 in
    let t : Slot = Slot.Committed c.key in
    let z = last_above (touches t) 0 n (upto h n) c (rises_upto 0 top n h (omega arith) r) (upto_in c h n i (omega arith)) (and_from _ _ ((bytes_eq-Decides c.key c.key).1 refl) v) in
    let iz = last_in (touches t) (upto h n) z.0 z.1 in
    let tz = and_parts (bytes_eq z.0.key c.key) (is_visible z.0.act) iz.1 in
    let kz : z.0.key ≡ c.key = (bytes_eq-Decides z.0.key c.key).0 tz.0 in
    let uz = from_upto z.0 h n iz.0 in
    let lz : c.seq ≤ z.0.seq = z.2 in
    let nz : z.0.seq ≤ n = uz.1 in
    let kx : x.key ≡ (plain z.0).key = ap (λ (y : Change). y.key) q ∙ sym kz in
    let y = last_above (touches s) 0 n (upto (plain_view h) n) (plain z.0) (rises_upto 0 top n (plain_view h) (omega arith) (plain_rises 0 top h r)) (upto_in (plain z.0) (plain_view h) n (plain_in h z.0 uz.0 tz.1) nz)
    (touches_visible s x (plain z.0) ix.1 kx (plain_visible z.0.act tz.1)) in
    let ey : x ≡ y.0 = (let p : Some x ≡ Some y.0 = sym e ∙ y.1 in cc) in
    let sy : x.seq ≡ y.0.seq = ap (λ (w : Change). w.seq) ey in
    let ly : z.0.seq ≤ y.0.seq = y.2 in
    z.1 ∙ ap Some (same_seq 0 top h z.0 c r uz.0 i (omega arith))
