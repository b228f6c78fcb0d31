-- what a stream without durable writes sees
use Rattle.std.proofs.Common.{◌≡◌, ℕ, ◌≤◌, true, false, List, [], ◌∷◌, map, refl, ap, sym, ◌∙◌, inl, inr, ⊎_elim, arith}
use Rattle.std.specs.Prelude.{Some}
use Rattle.std.specs.List.{filter}
use Rattle.std.specs.Str.{bytes_eq}
use Rattle.std.proofs.lemmas.Bool.{and_parts, and_from}
use Rattle.std.proofs.lemmas.Slice.Eq.{bytes_eq-Decides}
use Rattle.vb_types.specs.Histories.{upto, Rises, IsIn, Slot, touches, last_of, is_visible, plain, plain_act}
use Rattle.vb_types.specs.declared.change.Act.{Act}
use Rattle.vb_types.specs.declared.change.Act.TheVariants.{Set, Remove, Prepare, Commit, Abort}
use Rattle.vb_types.specs.declared.change.Change.{Change}
use Rattle.branch_model.specs.Snapshots.{plain_view}
use Rattle.branch_model.proofs.Lasts.{in_filter, kept_in_filter, rises_filter}
use Rattle.branch_model.proofs.Lists.{from_upto, upto_in, rises_map, rises_upto, last_in, last_above, same_seq}

pub visible_plain : (a : Act) → is_visible (plain_act a) ≡ is_visible a
visible_plain (Set doc) = refl
visible_plain (Remove cas rev) = refl
visible_plain (Prepare level doc deleted) = refl
visible_plain (Commit prepared doc true) = refl
visible_plain (Commit prepared doc false) = refl
visible_plain (Abort prepared) = refl

-- mapped lists one by one

in_map : (f : Change → Change) (x : Change) (cs : List Change) → IsIn x cs → IsIn (f x) (map f cs)
in_map f x [] i = absurd i
in_map f x (c ∷ cs) i = ⊎_elim (λ e. inl (ap f e)) (λ j. inr (in_map f x cs j)) i

mapped_from : (f : Change → Change) (y : Change) (cs : List Change) → IsIn y (map f cs) → (x : Change) × IsIn x cs × (y ≡ f x)
mapped_from f y [] i = absurd i
mapped_from f y (c ∷ cs) i = ⊎_elim (λ e. (c, inl refl, e)) (λ j. let k = mapped_from f y cs j in (k.0, inr k.1, k.2)) i

pub plain_rises : (a b : ℕ) (h : List Change) → Rises a b h → Rises a b (plain_view h)
plain_rises a b h r = rises_map plain (λ x. refl) a b (filter (λ c. is_visible c.act) h) (rises_filter (λ c. is_visible c.act) a b h r)

pub plain_in : (h : List Change) (c : Change) → IsIn c h → is_visible c.act ≡ true → IsIn (plain c) (plain_view h)
plain_in h c i v = in_map plain c (filter (λ x. is_visible x.act) h) (kept_in_filter (λ x. is_visible x.act) c h i v)

pub plain_of_view : (h : List Change) (x : Change) → IsIn x (plain_view h) → (c : Change) × IsIn c h × (is_visible c.act ≡ true) × (x ≡ plain c)
plain_of_view h x i =
    let k = mapped_from plain x (filter (λ y. is_visible y.act) h) i in
    let m = in_filter (λ y. is_visible y.act) k.0 h k.1 in
    (k.0, m.0, m.1, k.2)

-- a set or a removal touches each slot of its key
touches_visible : (s : Slot) (c d : Change) → touches s c ≡ true → c.key ≡ d.key → is_visible d.act ≡ true → touches s d ≡ true
touches_visible (Slot.Committed q) c d t e v = and_from _ _ (ap (λ k. bytes_eq k q) (sym e) ∙ (and_parts _ _ t).0) v
touches_visible (Slot.Pending q) c d t e v = ap (λ k. bytes_eq k q) (sym e) ∙ t

-- a key's last visible change, none below c
pub last_visible : (top n : ℕ) (h : List Change) (c : Change) → Rises 0 top h → IsIn c h → c.seq ≤ n → is_visible c.act ≡ true
    → (z : Change) × (last_of (Slot.Committed c.key) (upto h n) ≡ Some z) × (c.seq ≤ z.seq) × (z.seq ≤ n) × IsIn z h × (z.key ≡ c.key) × (is_visible z.act ≡ true)
last_visible top n h c r i l v =
    let t : Slot = Slot.Committed c.key in
    let z = last_above (touches t) 0 n (upto h n) c (rises_upto 0 top n h (omega arith) r) (upto_in c h n i l) (and_from _ _ ((bytes_eq-Decides c.key c.key).1 refl) v) in
    let iz = last_in (touches t) (upto h n) z.0 z.1 in
    let tz = and_parts (bytes_eq z.0.key c.key) (is_visible z.0.act) iz.1 in
    let uz = from_upto z.0 h n iz.0 in
    (z.0, z.1, z.2, uz.1, uz.0, (bytes_eq-Decides z.0.key c.key).0 tz.0, tz.1)

-- a slot's last change that such a stream sees is its key's last visible one
pub plain_last : (top n : ℕ) (h : List Change) (s : Slot) (x c : Change) → Rises 0 top h → last_of s (upto (plain_view h) n) ≡ Some x → IsIn c h → is_visible c.act ≡ true → x ≡ plain c → last_of (Slot.Committed c.key) (upto h n) ≡ Some c
plain_last top n h s x c r e i v q =
    let ix = last_in (touches s) (upto (plain_view h) n) x e in
    let es : x.seq ≡ c.seq = ap (λ (y : Change). y.seq) q in
    let lx : x.seq ≤ n = (from_upto x (plain_view h) n ix.0).1 in
    let z = last_visible top n h c r i (omega arith) v in
    let lz : c.seq ≤ z.0.seq = z.2 in
    let kx : x.key ≡ (plain z.0).key = ap (λ (y : Change). y.key) q ∙ sym z.5 in
    let y = last_above (touches s) 0 n (upto (plain_view h) n) (plain z.0) (rises_upto 0 top n (plain_view h) (omega arith) (plain_rises 0 top h r)) (upto_in (plain z.0) (plain_view h) n (plain_in h z.0 z.4 z.6) z.3)
    (touches_visible s x (plain z.0) ix.1 kx (visible_plain z.0.act ∙ z.6)) in
    let ey : x ≡ y.0 = (let p : Some x ≡ Some y.0 = sym e ∙ y.1 in cc) in
    let sy : x.seq ≡ y.0.seq = ap (λ (w : Change). w.seq) ey in
    let ly : z.0.seq ≤ y.0.seq = y.2 in
    z.1 ∙ ap Some (same_seq 0 top h z.0 c r z.4 i (omega arith))
